-- A master that dropped its line and came back early is no longer stuck (order 1): mastership frees it, mastership again
-- elects it at its new connection; for every state, and once more as a session by computing. Assumes nothing.
use Prim.Native.Nat.{ℕ, zero, suc}
use native.Mathlib.Omega.{arith}
use mathlib.Core.List.{List, [], ◌∷◌, ◌++◌}
use mathlib.Core.Bool.{true, false}
use mathlib.Core.Path.{◌≡◌, refl, subst}
use lib.Dec.{eqb, leb}
use borrow.Author.Tests.{eq-eqb, ne_eqb, leb-true}
use Rattle.kinds.specs.declared.Mastership.{Mastership}
use Rattle.kinds.specs.declared.Status.TheVariants.{InProgress, Complete}
use Rattle.kinds.specs.Numbers.{is_last, next_term}
use Rattle.kinds.specs.Events.{refusal}
use Rattle.machine.specs.State.{State, Net, fresh, is_node, node_of, reaches_target, line_open_for}
use Rattle.machine.specs.Stores.{with_net, after, afters}
use Rattle.machine.specs.Rows.{overlay, rows_of}
use Rattle.machine.specs.Differ.{differ, differ_row}
use Rattle.machine.specs.WellFormed.{all_from, all_at_most, pairs_ok, entry_ok, head_ok, well_formed}
use Rattle.machine.specs.Calls.{connect, disconnect, master, sync, work, values_ok, present, plan_of, decide}
use Rattle.machine.specs.Step.{outcome, step}
use Rattle.machine.proofs.Next.{with_mastership}
use Rattle.machine.proofs.Cases.{and_left}
use Rattle.machine.proofs.Kept.{step_keeps_well_formed}
use Rattle.machine.specs.Sessions.{Line, reads, agrees, accepts, refuses, adds, does, opened, commits_change}

-- node n is master and connected, and its id differs from conn
pub record Reconnected (w : Net) (n : ℕ) : Type 0 where
  pub node : is_node n ≡ true
  pub master : w.mastership.master ≡ n
  pub connected : (node_of w.connections n).connected ≡ true
  pub differs : (node_of w.connections n).id ≡ w.mastership.conn → ⊥

some_master : (w : Net) (n : ℕ) → is_node n ≡ true → w.mastership.master ≡ n → eqb w.mastership.master 0 ≡ false
some_master w n e m = ne_eqb w.mastership.master 0 (λ z. absurd (omega (arith, z, m, leb-true 1 n (and_left (leb 1 n) (leb n 8) e))))

module _ (s : State) (n : ℕ) where
  -- the whole state, with this mastership record
  abbrev pub having : Mastership → State
  having m = with_net s (with_mastership s.net m)

  -- the master is 0 and the rest is kept
  abbrev pub freed : State
  freed = having (record { master = 0; term = s.net.mastership.term; conn = s.net.mastership.conn })

  -- n is master at the next term and at its connection's id
  abbrev pub taken : State
  taken = having (record { master = n; term = next_term s.net.mastership.term; conn = (node_of s.net.connections n).id })

  module _ (h : Reconnected s.net n) where
    -- stuck: it does not reach the target, so it can neither push nor end a synchronise
    pub stuck : reaches_target s.net n ≡ false
    stuck = simp (h.connected, ne_eqb _ _ h.differs)

    pub frees : well_formed s ≡ true → step s (master n) ≡ record { reply = refusal 0; next = freed }
    unfolding step outcome decide afters after
    frees w = simp (w, h.node, h.connected, some_master s.net n h.node h.master, eq-eqb _ _ h.master, ne_eqb _ _ h.differs)

    pub takes : well_formed s ≡ true → is_last s.net.mastership.term.0 ≡ false → step freed (master n) ≡ record { reply = refusal 0; next = taken }
    unfolding step outcome decide afters after
    takes w l = simp (subst (λ o. well_formed o.next ≡ true) (frees w) (step_keeps_well_formed s (master n) w), h.node, h.connected, l)

    -- no longer stuck: it reaches the target, if that runs
    pub unstuck : reaches_target taken.net n ≡ s.net.target.running
    unstuck = simp (h.connected, eq-eqb (node_of s.net.connections n).id _ refl)

  -- between the two no node's line is open
  pub no_line_open : (k : ℕ) → line_open_for freed.net k ≡ false
  no_line_open zero = refl
  no_line_open (suc k) = simp (ne_eqb 0 (suc k) (λ z. absurd (omega (arith, z))))

  -- a master that is connected with id equal to conn is refused with 11, as before
  pub still_refused : well_formed s ≡ true → is_node n ≡ true → s.net.mastership.master ≡ n → (node_of s.net.connections n).connected ≡ true
      → (node_of s.net.connections n).id ≡ s.net.mastership.conn → step s (master n) ≡ record { reply = refusal 11; next = s }
  unfolding step outcome decide afters after
  still_refused w e m c i = simp (w, e, c, some_master s.net n e m, eq-eqb _ _ m, eq-eqb _ _ i)

-- the line drops while change 1 is being applied, and the node is back before anyone else asks: its push is 12 until it has
-- given the mastership up and taken it again, and synchronised; then the push lands
pub comes_back : List Line
comes_back =
    adds 1 3 7
    ∷ (opened
    ++ (commits_change 1
    ++ (does 1 2 2 0 1 InProgress ∷ refuses 11 (master 1) ∷ accepts (disconnect 1) ∷ accepts (connect 1) ∷ refuses 12 (work 1 2 1 0 0)
    ∷ accepts (master 1) ∷ refuses 10 (work 1 2 1 0 0)
    ∷ accepts (master 1) ∷ refuses 12 (work 1 2 1 0 0) ∷ accepts (sync 1) ∷ accepts (sync 1)
    ∷ does 1 2 2 0 1 Complete ∷ reads 3 7 7 7 ∷ refuses 11 (master 1) ∷ [])))

pub comes_back_holds : agrees (fresh false) comes_back ≡ true
unfolding agrees step outcome decide differ differ_row well_formed all_from all_at_most entry_ok head_ok pairs_ok values_ok plan_of rows_of overlay present after afters comes_back
comes_back_holds = refl
