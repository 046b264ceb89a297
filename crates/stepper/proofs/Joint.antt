-- The joint of the lines and the calls: a line is answered with what the machine decides for the call that it says, with the
-- reason, the night or the owner that it asks for, or with the import or the fresh start that it says; and a line that says nothing
-- with 2. Assumes nothing.
use Prim.Native.Nat.{ℕ, zero, suc, ◌+◌, ◌*◌, ◌%◌, ◌≤◌}
use mathlib.Core.Path.{◌≡◌, refl, ap, ap₂, subst, ◌∙◌}
use mathlib.Core.Logic.{◌⊎◌, inl, inr}
use mathlib.Core.Bool.{Bool, cond}
use mathlib.Core.List.{List, [], ◌∷◌}
use native.Mathlib.Omega.{arith}
use borrow.Author.Tests.{eq-eqb}
use lib.Dec.{eqb}
use lib.ListN.{length, take}
use Rattle.machine.specs.Calls as machine
use Rattle.machine.specs.Calls.{Pair}
use Rattle.machine.specs.Import.{Entry, Import, import, import_of}
use Rattle.image.specs.Layout.{image_length}
use Rattle.lines.specs.declared.reading.Call.{Call}
use Rattle.lines.specs.declared.reading.Call.TheVariants.{Unreadable}
use Rattle.lines.specs.Forms.{Asked, calls, why, night, imports, owner, freshly}
use Rattle.lines.specs.Grammar.{flat, pair, Says}
use Rattle.lines.specs.Reading.{low, high, two_bytes, said, said_in}
use Rattle.lines.specs.Handed.{call_for, pairs_in, import_bytes, bytes_for, Small}
use Rattle.lines.proofs.Readable.{complete, sound, decides_five}
use Rattle.lines.proofs.Entering.{imports_said}
use Rattle.controller.specs.Bytes.{pairs_of, pairs_if, append_of}
use Rattle.controller.specs.Claims.{outcome_of}
use Rattle.controller.specs.Imports.{import_in}
use Rattle.stepper.specs.declared.Answer.{Answer}
use Rattle.stepper.specs.Answers.{Replies, Explains, table_for, Sleeps, Refuses, BeginsIf, Owns, FreshensIf, AnswersCall, Answers}
use Rattle.stepper.specs.Transcript.{importing}
use Rattle.stepper.proofs.Tables.{table_same}

-- ---- the bytes handed on are the pairs
back : (n : ℕ) → n ≤ 65535 → low n + 256 * high n ≡ n
back n h = omega arith

pairs_back : (ps : List Pair) → Small ps → (k : ℕ) → pairs_of (two_bytes (flat (take k ps))) ≡ take k ps
unfolding pairs_of two_bytes flat
pairs_back ps x zero = refl
pairs_back [] x (suc k) = refl
pairs_back (p ∷ ps) x (suc k) =
    ap₂ (λ (i j : ℕ). pair i j ∷ pairs_of (two_bytes (flat (take k ps)))) (back p.path x.0) (back p.value x.1) ∙ ap (λ (qs : List Pair). p ∷ qs)
    (pairs_back ps x.2 k)

four_each : (ps : List Pair) → length (two_bytes (flat ps)) ≡ 4 * length ps
unfolding two_bytes flat
four_each [] = refl
four_each (p ∷ ps) = omega (arith, four_each ps)

handed : (ps : List Pair) → pairs_of (two_bytes (flat ps)) ≡ ps → append_of (two_bytes (flat ps)) ≡ machine.append ps
handed ps e =
    let w : length (two_bytes (flat ps)) % 4 ≡ 0 = omega (arith, four_each ps) in
    ap₂ (λ (t : Bool) (qs : List Pair). machine.append (pairs_if t qs)) (eq-eqb _ _ w) e

-- the first five have the outcome that all have
five : (l : List ℕ) (ps : List Pair) → outcome_of l (machine.append (take 5 ps)) ≡ outcome_of l (machine.append ps)
unfolding outcome_of
five l ps = rw (decides_five _ ps)

replies_five : (l : List ℕ) (ps : List Pair) (r : Answer) (m : List ℕ) → Replies l (machine.append (take 5 ps)) r m → Replies l (machine.append ps) r m
replies_five l ps r m p = rw (five l ps) at p

-- ---- each call
replied :
    (f : Bool) (c : machine.Call) → Small (pairs_in (calls c)) → (l : List ℕ) (r : Answer) (m : List ℕ) →
    AnswersCall f (call_for (calls c)) (bytes_for (calls c)) l r m → Replies l c r m
replied f (machine.append ps) x l r m p =
    replies_five l ps r m (subst (λ (c : machine.Call). Replies l c r m) (handed (take 5 ps) (pairs_back ps x 5)) p)
replied f (machine.rollback n) x l r m p = p
replied f machine.start x l r m p = p
replied f machine.stop x l r m p = p
replied f (machine.connect n) x l r m p = p
replied f (machine.disconnect n) x l r m p = p
replied f (machine.master n) x l r m p = p
replied f (machine.sync n) x l r m p = p
replied f (machine.work n j i o c) x l r m p = p
replied f (machine.fold_to n) x l r m p = p

-- ---- an import of the bytes is one of the entries
import_said : (l : List ℕ) (es : List Entry) → import_of (import_bytes es) ≡ import es → import_in l (import_bytes es) ≡ importing l es
unfolding import_in
import_said l es e = ap (λ (x : Import). cond (eqb (length l) image_length) x (record { answer = 1; position = 0; calls = [] })) e

-- ---- each line
module _ (f : Bool) (t room l : List ℕ) (r : Answer) (m : List ℕ) (p : Answers f l (said room t) (said_in room t) r m) where
  -- what a line says is what is asked
  asked : length room ≡ 5140 → (x : Asked) → Says t x → AnswersCall f (call_for x) (bytes_for x) l r m
  asked n x s =
      let h = complete room n s in
      subst (λ (b : List ℕ). AnswersCall f (call_for x) b l r m) h.bytes
      (subst (λ (k : Call). AnswersCall f k (take (said room t).length (said_in room t)) l r m) h.calls p)

  -- a line that says a call is answered with that call's outcome
  pub answers_said : length room ≡ 5140 → (c : machine.Call) → Says t (calls c) → Replies l c r m
  answers_said n c s = replied f c (complete room n s).small l r m (asked n (calls c) s)

  -- one that asks why, with the reason
  pub explains_said : length room ≡ 5140 → (n j i : ℕ) → Says t (why n j i) → Explains l n j i r m
  explains_said e n j i s = asked e (why n j i) s

  -- one that asks for a night, with how it went
  pub sleeps_said : length room ≡ 5140 → (n b : ℕ) (os : List ℕ) → Says t (night n b os) → Sleeps l n b (table_for os) r m
  sleeps_said e n b os s = subst (λ (z : List ℕ). Sleeps l n b z r m) (table_same n b os (complete room e s).low) (asked e (night n b os) s)

  -- one that says an import, with it, if it is the first
  pub enters_said : length room ≡ 5140 → (es : List Entry) → Says t (imports es) → BeginsIf f l (importing l es) r m
  enters_said e es s =
      subst (λ (x : Import). BeginsIf f l x r m) (import_said l es (imports_said es (complete room e s).entered)) (asked e (imports es) s)

  -- one that asks who set a path, with that
  pub owns_said : length room ≡ 5140 → (p : ℕ) → Says t (owner p) → Owns l p r m
  owns_said e p s = asked e (owner p) s

  -- one that says a fresh start, with it, if it is the first
  pub freshens_said : length room ≡ 5140 → (v : ℕ) → Says t (freshly v) → FreshensIf f l v r m
  freshens_said e v s = asked e (freshly v) s

  -- a line that says nothing is refused with 2, and every byte is what it had been
  pub refuses_unsaid : ((x : Asked) → Says t x → ⊥) → Refuses l r m
  refuses_unsaid n = by (sound room t)
    where
      by : ((x : Asked) × Says t x) ⊎ ((said room t).call ≡ Unreadable) → Refuses l r m
      by (inl x) = absurd (n x.0 x.1)
      by (inr e) = subst (λ (k : Call). AnswersCall f k (take (said room t).length (said_in room t)) l r m) e p
