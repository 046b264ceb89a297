-- States written down number by number: those that no session reaches, for the witnesses. Assumes nothing.
use Rattle.std.specs.Prelude.{ℕ, List, [], ◌∷◌, false}
use Rattle.kinds.specs.declared.Transaction.{Transaction}
use Rattle.kinds.specs.declared.Head.{Head}
use Rattle.kinds.specs.declared.Side.{Side}
use Rattle.kinds.specs.declared.Status.{Status}
use Rattle.kinds.specs.Numbers.{num, ord}
use Rattle.machine.specs.State.{State, Log, absent, four, fresh}

abbrev pub side : (commit apply : Status) → (ordinal : ℕ) → Side
side c a o = record { commit = c; apply = a; ordinal = ord o }

-- 3:7, in a phase, with its two sides and its r.index
abbrev pub entry : ℕ → Side → Side → ℕ → Transaction
entry p c r i =
    record {
      phase = p;
      count = 1;
      paths = 3 ∷ 0 ∷ 0 ∷ 0 ∷ [];
      values = 7 ∷ 0 ∷ 0 ∷ 0 ∷ [];
      change = c;
      rollback = r;
      index = num i;
      kept = four;
      owners = four;
    }

-- what is kept after a fold
abbrev pub log : ℕ → List Transaction → Log
log b ts = record { folded = num b; base = absent; entries = ts }

abbrev pub head : (index target revision ordinal : ℕ) → Head
head i g r o = record { index = num i; target = num g; revision = num r; ordinal = ord o }

abbrev pub none : Head
none = head 0 0 0 0

-- a log, two heads and a change; the values, the owners and the nodes' side are fresh
abbrev pub state_of : Log → (change : ℕ) → (committed applied : Head) → State
state_of l n c a =
    record {
      log = l;
      change = num n;
      committed = record { head = c; values = absent; owners = absent };
      applied = record { head = a; values = absent };
      net = (fresh false).net;
    }

-- a log alone
abbrev pub logged : Log → State
logged l = state_of l 0 none none
