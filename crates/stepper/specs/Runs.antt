-- The input, block by block as the reads cut it: each block is fed where the one before it left off, and what waits behind it
-- is what is handed to be written. What a read brings and a write takes, no contract can say. Assumes nothing.
use Rattle.std.specs.Prelude.{ℕ, true, false, List, [], ◌++◌, take}
use Rattle.lines.specs.Reading.{fresh}
use Rattle.stepper.specs.declared.Session.{Session}
use Rattle.stepper.specs.declared.Turn.{Turn}
use Rattle.stepper.specs.Fed.{emptied, Feeds}

-- where a session begins: no line came before its first
abbrev pub begins : Session
begins = record { line = fresh; begun = false; used = 0; first = true }

-- from the image l, the room and the session s: the bytes of some blocks, and the text that was handed on after them
pub data Runs (l room : List ℕ) (s : Session) : List ℕ → List ℕ → Session → List ℕ → List ℕ → Type 0 where
  start : Runs l room s [] [] s l room
  block :
      {bytes text k n : List ℕ} {q : Session} → Runs l room s bytes text q k n → (b out after m kept : List ℕ) (r : Session) →
      Feeds k out n (emptied q) b r m after kept → Runs l room s (bytes ++ b) (text ++ take r.used after) r m kept

-- one read brought some bytes, and they were fed
pub record Reads (l room : List ℕ) (s : Session) (r : Turn) (m kept : List ℕ) : Type 0 where
  pub bytes : List ℕ
  pub out : List ℕ
  pub after : List ℕ
  pub feeds : Feeds l out room (emptied s) bytes r.session m after kept

-- the reads brought some bytes, and they were fed from the beginning on
pub record ReadsAll (l room : List ℕ) (q : Session) (m kept : List ℕ) : Type 0 where
  pub bytes : List ℕ
  pub text : List ℕ
  pub runs : Runs l room begins bytes text q m kept
