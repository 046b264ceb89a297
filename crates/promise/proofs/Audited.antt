-- What the switch took, on bytes: what history's Audited says of states, said of images, in the controller and as C sees it. Assumes
-- nothing.
use Prim.Native.Nat.{ℕ, ◌≤◌, ◌<◌}
use native.Mathlib.Omega.{arith}
use mathlib.Core.Path.{◌≡◌, refl, sym, ap, subst, ◌∙◌}
use mathlib.Core.Bool.{Bool, true}
use mathlib.Core.List.{List}
use borrow.Author.Tests.{le-leb, lt-ltb}
use lib.ListN.{length}
use Rattle.kinds.specs.declared.Reply.{Reply}
use Rattle.kinds.specs.declared.Event.{Event}
use Rattle.machine.specs.State.{State, entry_of, last}
use Rattle.machine.specs.Calls.{Call}
use Rattle.machine.specs.Step.{run}
use Rattle.machine.specs.Class.{class_of}
use Rattle.machine.specs.Taken.{took, undid}
use Rattle.machine.specs.Reads.{Query, Answer, of_class, of_took, of_undone, flag, shows_kept, read}
use Rattle.image.specs.Layout.{image_length}
use Rattle.image.specs.Records.{flag_code}
use Rattle.image.specs.View.{view}
use Rattle.image.specs.Formed.{formed}
use Rattle.controller.specs.declared.reads.Read.{Read}
use Rattle.controller.specs.Fresh.{Freshens}
use Rattle.controller.specs.Reads.{given, read_of}
use Rattle.controller.specs.Promises.{Shows}
use Rattle.northbound.specs.Packing.{unpacked, unpacked_read}
use Rattle.northbound.specs.Exports as north
use Rattle.history.specs.Audit as history
use Rattle.history.specs.Audit.{Classed}
use Rattle.history.proofs.Audited.{audited, classed, took_same, undid_same}
use Rattle.promise.specs.Demands.{found}
use Rattle.promise.specs.Nights.{Acting, ActingC}
use Rattle.promise.specs.Audits.{Keeps, Audited}
use Rattle.promise.proofs.Nights.{acted, acting_in_c}

-- ---- each as it is read
module _ (m : List ℕ) (k : ℕ) (f : formed m ≡ true) (a : Keeps m k) where
  kept_read : (q : Query) (v : ℕ) → read (view m) q ≡ shows_kept (view m) k v → read_of m q ≡ found v
  unfolding read_of
  kept_read q v e =
      let b = a.0 in
      let i : 1 ≤ k = omega arith in
      rw f (ap given e ∙ rw (le-leb 1 k i, le-leb k (last (view m).log) a.1, lt-ltb (view m).log.folded.0 k b) refl)

  took_read : read_of m (of_took k) ≡ found (flag (took (view m).log (view m).applied.head.ordinal.0 k))
  unfolding read
  took_read = kept_read (of_took k) _ refl

  undone_read : read_of m (of_undone k) ≡ found (flag (undid (view m).log (view m).applied.head.ordinal.0 k))
  unfolding read
  undone_read = kept_read (of_undone k) _ refl

  class_read : read_of m (of_class k) ≡ found (class_of (entry_of (view m).log k))
  unfolding read
  class_read = kept_read (of_class k) _ refl

-- ---- an image that was reached
module _ (kind : Bool) (cs : List Call) (es : List Event) (m : List ℕ) (h : view m ≡ (run kind cs).state) (g : (run kind cs).events ≡ es) (f : formed m ≡ true) where
  of_state_holds : history.Audited (view m) es
  of_state_holds = subst (λ (s : State). history.Audited s es) (sym h) (subst (history.Audited (run kind cs).state) g (audited kind cs))

  of_class_holds : (k : ℕ) → (view m).log.folded.0 < k → Classed (view m) es k (class_of (entry_of (view m).log k))
  of_class_holds k =
      subst (λ (s : State). s.log.folded.0 < k → Classed s es k (class_of (entry_of s.log k))) (sym h)
      (subst (λ (fs : List Event). (run kind cs).state.log.folded.0 < k → Classed (run kind cs).state fs k (class_of (entry_of (run kind cs).state.log k))) g
      (classed kind cs k))

  pub reached_audited : (k : ℕ) (t u c : Read) → Keeps m k → Shows m (of_took k) t → Shows m (of_undone k) u → Shows m (of_class k) c → Audited es m k t u c
  reached_audited k t u c a p q r =
      let z : c ≡ found (class_of (entry_of (view m).log k)) = r ∙ class_read m k f a in
      record {
        took = p ∙ took_read m k f a ∙ ap (λ (b : Bool). found (flag b)) (took_same (view m).log (view m).applied.head.ordinal.0 k ∙ of_state_holds.took k a.0);
        undone = q ∙ undone_read m k f a ∙ ap (λ (b : Bool). found (flag b)) (undid_same (view m).log (view m).applied.head.ordinal.0 k ∙ of_state_holds.undid k a.0);
        class = (ap (λ (x : Read). x.answer) z, subst (Classed (view m) es k) (sym (ap (λ (x : Read). x.value) z)) (of_class_holds k a.0));
      }

-- any calls and nights on bytes that `fresh` was called on, and then the three reads
module _ (kind : Bool) (l k : List ℕ) (u : Reply) (z : length l ≡ image_length) (f : Freshens l (flag_code kind) u k) {cs : List Call} {es : List Event} {m : List ℕ} (d : Acting k cs es m) where
  pub read_audited : (i : ℕ) (t v c : Read) → Keeps m i → Shows m (of_took i) t → Shows m (of_undone i) v → Shows m (of_class i) c → Audited es m i t v c
  read_audited = let x = acted kind l k u z f d in reached_audited kind cs es m x.state x.events x.formed

-- ---- as C sees it: a packed answer reads back as the controller's
pub read_in_c : (l : List ℕ) (q : Query) (x : ℕ) → north.Shows l q x → Shows l q (unpacked_read x)
read_in_c l q x e = e.1

module _ (kind : Bool) (l k : List ℕ) (u : ℕ) (z : length l ≡ image_length) (f : north.Freshens l (flag_code kind) u k) {cs : List Call} {es : List Event} {m : List ℕ} (d : ActingC k cs es m) where
  pub read_audited_c : (i t v c : ℕ) → Keeps m i → north.Shows m (of_took i) t → north.Shows m (of_undone i) v → north.Shows m (of_class i) c
      → Audited es m i (unpacked_read t) (unpacked_read v) (unpacked_read c)
  read_audited_c i t v c a p q r =
      read_audited kind l k (unpacked u) z (f.0.1, f.1) (acting_in_c d) i (unpacked_read t) (unpacked_read v) (unpacked_read c) a
      (read_in_c m (of_took i) t p) (read_in_c m (of_undone i) v q) (read_in_c m (of_class i) c r)
