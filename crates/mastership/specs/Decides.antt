-- What the machine decides of mastership, by this crate's function on the record, for every n: the answer is its answer, 2 for
-- a node that is none, and where that is 0 the record stored is its record. Assumes nothing.
use Rattle.std.specs.Prelude.{ℕ, ◌≡◌, refl, Bool, true, false, cond, [], ◌∷◌}
use Rattle.kinds.specs.declared.Mastership.{Mastership}
use Rattle.rules.specs.declared.Mastered.{Mastered}
use Rattle.rules.specs.Outside as outside
use Rattle.machine.specs.State.{State, is_node, node_of}
use Rattle.machine.specs.Stores.{mastership}
use Rattle.machine.specs.Calls.{Outcome, master, answers, unless, decide}
use Rattle.mastership.specs.Lent.{master_of}

-- a call that answered x .answer, and that stores x's record where that is 0
abbrev pub outcome_of : Mastered → Outcome
outcome_of x = answers x.answer (mastership x.mastership ∷ [])

by_node : (node : Bool) (x : Mastered) (m : Mastership) → unless 2 node (outcome_of x) ≡ outcome_of (cond node x (outside.mastered 2 m))
by_node true x m = refl
by_node false x m = refl

pub decides_master : (s : State) (n : ℕ)
    → decide s (master n) ≡ outcome_of (master_of s.net.mastership n (node_of s.net.connections n).id (node_of s.net.connections n).connected)
unfolding decide
decides_master s n = by_node (is_node n) (outside.master s.net.mastership n (node_of s.net.connections n)) s.net.mastership
