-- The nodes' side: each of its calls, and each push, keeps the line's part of the invariant, whatever is said of the target's
-- values while a line is open. Needs nothing of the log. Assumes nothing.
use Prim.Native.Nat.{ℕ, zero, suc, ◌≤◌}
use native.Mathlib.Omega.{arith}
use mathlib.Core.List.{List, [], ◌∷◌, map}
use mathlib.Core.Bool.{Bool, true, false, ◌&&◌}
use mathlib.Core.Path.{◌≡◌, refl, sym, ap, ◌∙◌, subst}
use lib.Dec.{eqb}
use lib.ListN.{get_or, replicate}
use borrow.Author.Tests.{eqb-true}
use Rattle.kinds.specs.declared.Connection.{Connection}
use Rattle.kinds.specs.declared.Term.{Term}
use Rattle.kinds.specs.declared.Progress.{Progress}
use Rattle.kinds.specs.declared.Progress.TheVariants.{Pending, InProgress, Complete}
use Rattle.rules.specs.Outside.{off, reaches, is_synchronised}
use Rattle.machine.specs.State.{Net, never, fresh_net, node_of, put_node, line_open_for}
use Rattle.machine.specs.Stores.{with_target_values}
use Rattle.machine.proofs.Cases.{and_left, and_right}
use Rattle.machine.proofs.Entries.{set_all}
use Rattle.machine.proofs.ByCall.{started, stopped, connected, disconnected, elected, resigned, syncing, synced}
use Rattle.history.specs.Ops.{clash, crash}
use Rattle.history.specs.Invariant.{Open, Node, Wired}

-- ---- every node after one is stored, or all are cut off
put_nodes : (P : ℕ → Connection → Type 0) (l : List Connection) (i : ℕ) (x : Connection) → ((n : ℕ) → P n (node_of l n)) → P i x → (n : ℕ) → P n (node_of (put_node l i x) n)
put_nodes P l zero x h y n = h n
put_nodes P l (suc i) x h y zero = h zero
put_nodes P l (suc i) x h y (suc n) = set_all (λ n. P (suc n)) l i x never (λ n. h (suc n)) y n

off_all : (P : ℕ → Connection → Type 0) (l : List Connection) → ((n : ℕ) → P n (off (get_or l n never))) → (n : ℕ) → P n (get_or (map off l) n never)
off_all P [] h n = h n
off_all P (x ∷ xs) h zero = h zero
off_all P (x ∷ xs) h (suc n) = off_all (λ n. P (suc n)) xs (λ n. h (suc n)) n

off_nodes : (P : ℕ → Connection → Type 0) (l : List Connection) → ((n : ℕ) → P n (off (node_of l n))) → (n : ℕ) → P n (node_of (map off l) n)
off_nodes P l h zero = h zero
off_nodes P l h (suc n) = off_all (λ n. P (suc n)) l (λ n. h (suc n)) n

complete_is : (p : Progress) → is_synchronised p ≡ true → p ≡ Complete
complete_is Pending e = crash e
complete_is InProgress e = crash e
complete_is Complete e = refl

module _ (w : Net) (H : List ℕ → Type 0) (inv : Wired w H) where
  pub start_wired : w.target.running ≡ false → Wired (started w) H
  start_wired e =
      record {
        nodes = λ n. let x = inv.nodes n in record {
          ids = x.ids;
          holds = λ o. clash (sym o.connected ∙ x.stopped e);
          stopped = λ y. clash y;
        };
        older = inv.older;
      }

  pub stop_wired : Wired (stopped w) H
  stop_wired =
      record {
        nodes = off_nodes (Node (stopped w) H) w.connections (λ n. record { ids = (inv.nodes n).ids; holds = λ o. crash o.connected; stopped = λ y. refl });
        older = inv.older;
      }

  -- a node that connects, or is cut off
  other : (u : Net) → u.mastership ≡ w.mastership → u.configuration ≡ w.configuration → u.values ≡ w.values → u.target ≡ w.target → (n : ℕ) (x : Connection) → Node w H n x → Node u H n x
  other u a b c d n x f =
      record {
        ids = rw a f.ids;
        holds = λ o. subst H (sym c) (f.holds (record { some = o.some; master = sym (ap (λ m. m.master) a) ∙ o.master; connected = o.connected; id = o.id ∙ ap (λ m. m.conn) a; state = sym (ap (λ g. g.state) b) ∙ o.state; term = sym (ap (λ g. g.term.0) b) ∙ o.term ∙ ap (λ m. m.term.0) a }));
        stopped = rw d f.stopped;
      }

  pub connect_wired : (i : ℕ) → 1 ≤ i → w.target.running ≡ true → Wired (connected w i) H
  connect_wired i b r =
      record {
        nodes = put_nodes (Node (connected w i) H) w.connections i _ (λ n. other (connected w i) refl refl refl refl n _ (inv.nodes n)) (record {
          ids = λ p e. omega (arith, (inv.nodes i).ids p e);
          holds = λ o. absurd (omega (arith, (inv.nodes i).ids o.some o.master, o.id));
          stopped = λ y. clash (sym r ∙ y);
        });
        older = inv.older;
      }

  pub disconnect_wired : (i : ℕ) → Wired (disconnected w i) H
  disconnect_wired i =
      record {
        nodes = put_nodes (Node (disconnected w i) H) w.connections i _ (λ n. other (disconnected w i) refl refl refl refl n _ (inv.nodes n)) (record {
          ids = (inv.nodes i).ids;
          holds = λ o. crash o.connected;
          stopped = λ y. refl;
        });
        older = inv.older;
      }

  pub elect_wired : (i : ℕ) (t : Term) → t.0 ≡ suc w.mastership.term.0 → Wired (elected w i t) H
  elect_wired i t e =
      record {
        nodes = λ n. record {
          ids = λ p x. rw (← x) (omega arith);
          holds = λ o. absurd (omega (arith, o.term, inv.older));
          stopped = (inv.nodes n).stopped;
        };
        older = omega (arith, inv.older);
      }

  pub resign_wired : Wired (resigned w) H
  resign_wired =
      record {
        nodes = λ n. record {
          ids = λ p x. absurd (omega arith);
          holds = λ o. absurd (omega (arith, o.some, o.master));
          stopped = (inv.nodes n).stopped;
        };
        older = inv.older;
      }

  pub syncing_wired : Wired (syncing w) H
  syncing_wired =
      record {
        nodes = λ n. record {
          ids = (inv.nodes n).ids;
          holds = λ o. crash (ap is_synchronised o.state);
          stopped = (inv.nodes n).stopped;
        };
        older = inv.older;
      }

  pub synced_wired : (vs : List ℕ) (G : List ℕ → Type 0) → G vs → Wired (synced w vs) G
  synced_wired vs G x = record { nodes = λ n. record { ids = (inv.nodes n).ids; holds = λ o. x; stopped = (inv.nodes n).stopped }; older = omega arith }

  opened : (n : ℕ) → 1 ≤ n → line_open_for w n ≡ true → Open w n (node_of w.connections n)
  opened n p e =
      let x = node_of w.connections n in
      let m = eqb w.mastership.master n in
      let r = reaches x w.mastership w.target in
      let y = is_synchronised w.configuration.state in
      let z = eqb w.configuration.term.0 w.mastership.term.0 in
      let a : (r && (y && z)) ≡ true = and_right m _ e in
      let b : r ≡ true = and_left r _ a in
      let c : (y && z) ≡ true = and_right r _ a in
      let d : (eqb x.id w.mastership.conn && w.target.running) ≡ true = and_right x.connected _ b in
      record {
        some = p;
        master = eqb-true _ _ (and_left m _ e);
        connected = and_left x.connected _ b;
        id = eqb-true _ _ (and_left (eqb x.id w.mastership.conn) _ d);
        state = complete_is _ (and_left y z c);
        term = eqb-true _ _ (and_right y z c);
      }

  -- with a line open it holds of the target's values
  pub open_holds : (n : ℕ) → line_open_for w n ≡ true → H w.values
  open_holds zero e = crash (and_right (eqb w.mastership.master 0) false e)
  open_holds (suc n) e = (inv.nodes (suc n)).holds (opened (suc n) (omega arith) e)

  -- something else is said of them
  pub said_wired : (G : List ℕ → Type 0) → ((vs : List ℕ) → H vs → G vs) → Wired w G
  said_wired G f = record { nodes = λ n. let x = inv.nodes n in record { ids = x.ids; holds = λ o. f _ (x.holds o); stopped = x.stopped }; older = inv.older }

  -- a push while a line is open
  pub push_wired : (vs : List ℕ) (G : List ℕ → Type 0) → G vs → Wired (with_target_values w vs) G
  push_wired vs G g = record { nodes = λ k. record { ids = (inv.nodes k).ids; holds = λ o. g; stopped = (inv.nodes k).stopped }; older = inv.older }

never_there : (n k : ℕ) → get_or (replicate n never) k never ≡ never
never_there zero k = refl
never_there (suc n) zero = refl
never_there (suc n) (suc k) = never_there n k

pub fresh_wired : (m : Bool) (H : List ℕ → Type 0) → Wired (fresh_net m) H
fresh_wired m H = record { nodes = λ n. record { ids = λ p x. omega arith; holds = λ o. absurd (omega (arith, o.some, o.master)); stopped = λ x. off n }; older = omega arith }
  where
    off : (n : ℕ) → (node_of (fresh_net m).connections n).connected ≡ false
    off zero = refl
    off (suc n) = ap (λ x. x.connected) (never_there 8 n)
