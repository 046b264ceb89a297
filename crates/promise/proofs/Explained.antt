-- Why a job won't move, on bytes: what machine's Waits and history's Reasons and Named say of states, said of images, in the
-- controller and as C sees it. Assumes nothing.
use Prim.Native.Nat.{ℕ}
use mathlib.Core.Path.{◌≡◌, refl, sym, ap, subst, ◌∙◌}
use mathlib.Core.Bool.{Bool, true, false, ◌&&◌}
use mathlib.Core.List.{List, map}
use borrow.Author.Tests.{le-leb}
use lib.Dec.{eqb, leb}
use lib.ListN.{length}
use Rattle.kinds.specs.declared.Reply.{Reply}
use Rattle.kinds.specs.declared.Event.{Event}
use Rattle.fields.proofs.Laws.{Bytes}
use Rattle.machine.specs.State.{State, is_node, in_log, is_kept, is_master}
use Rattle.machine.specs.WellFormed.{well_formed}
use Rattle.machine.specs.Calls.{Call, plan_of, work}
use Rattle.machine.specs.Step.{run}
use Rattle.machine.specs.Why.{asks, reason, named, why_not, why}
use Rattle.machine.proofs.Waits.{why_answers}
use Rattle.image.specs.Layout.{image_length}
use Rattle.image.specs.Records.{flag_code}
use Rattle.image.specs.View.{view}
use Rattle.image.specs.Formed.{formed}
use Rattle.controller.specs.declared.reasons.Why.{Why}
use Rattle.controller.specs.Fresh.{Freshens}
use Rattle.controller.specs.Reasons.{given, why_of}
use Rattle.controller.specs.Promises.{Explains}
use Rattle.northbound.specs.Packing.{unpacked, unpacked_why}
use Rattle.northbound.specs.Exports as north
use Rattle.link.specs.Runs.{Calling}
use Rattle.link.proofs.Link.{shows_next, not_formed, event_of}
use Rattle.link.proofs.Fresh.{shows_run_freshened}
use Rattle.history.specs.Explained.{Given, Names}
use Rattle.history.proofs.Reasons.{no_eighth, reason_given}
use Rattle.history.proofs.Named.{names}
use Rattle.promise.specs.Demands.{Serving, event_in}
use Rattle.promise.specs.Reasons.{Asked, Explained}
use Rattle.promise.proofs.Promise.{calling, events}

-- ---- what the image shows
shown : (l : List ℕ) (n j i : ℕ) → formed l ≡ true → why_of l n j i ≡ given (why (view l) n j i)
unfolding why_of
shown l n j i w = rw w

unformed : (l : List ℕ) (n j i : ℕ) → formed l ≡ false → why_of l n j i ≡ record { answer = 1; reason = 0; named = 0 }
unfolding why_of
unformed l n j i w = rw w

-- refused, no reason is told
untold : (s : State) (n j i : ℕ) → ((why s n j i).answer ≡ 0 → ⊥) → ((why s n j i).reason ≡ 0) × ((why s n j i).named ≡ 0)
unfolding why
untold s n j i =
    go (well_formed s) (is_node n && (leb 1 j && leb j 4)) (in_log s i) (is_kept s i) (is_master s.net n) (eqb (plan_of s n j i false).answer 11)
  where
    go : (w v l z m x : Bool)
        → (let r = reason s j i in
        let o = why_not 1 w (why_not 2 v (why_not 5 l (why_not 18 z (why_not 10 m (why_not 15 x (record { answer = 0; reason = r; named = named s j i r })))))) in
        (o.answer ≡ 0 → ⊥) → (o.reason ≡ 0) × (o.named ≡ 0))
    go false v l z m x h = (refl, refl)
    go true false l z m x h = (refl, refl)
    go true true false z m x h = (refl, refl)
    go true true true false m x h = (refl, refl)
    go true true true true false x h = (refl, refl)
    go true true true true true false h = (refl, refl)
    go true true true true true true h = absurd (h refl)

-- ---- any bytes, any numbers
pub why_asked : (l : List ℕ) (n j i : ℕ) (w : Why) → Explains l n j i w → Bytes l → Asked l n j i w
why_asked l n j i w e y = by (formed l) refl
  where
    by : (b : Bool) → formed l ≡ b → Asked l n j i w
    by true f =
        let x : w ≡ given (why (view l) n j i) = e ∙ shown l n j i f in
        record {
          answer = λ o c r m ho hc p.
              ap (λ (v : Why). v.answer) x ∙ why_answers (view l) n i j o c (le-leb o 1 ho) (le-leb c 2 hc)
              ∙ ap (λ (q : Reply). asks q.answer) (sym (shows_next l (work n j i o c) r m p y f).0);
          refused = λ h.
              let z = untold (view l) n j i (λ k. h (ap (λ (v : Why). v.answer) x ∙ k)) in
              (ap (λ (v : Why). v.reason) x ∙ z.0, ap (λ (v : Why). v.named) x ∙ z.1);
        }
    by false f =
        let x : w ≡ record { answer = 1; reason = 0; named = 0 } = e ∙ unformed l n j i f in
        record {
          answer = λ o c r m ho hc p. ap (λ (v : Why). v.answer) x ∙ ap (λ (q : Reply). asks q.answer) (sym (not_formed l (work n j i o c) r m p f).0);
          refused = λ h. (ap (λ (v : Why). v.reason) x, ap (λ (v : Why). v.named) x);
        }

-- ---- an image that was reached
module _ (kind : Bool) (cs : List Call) (es : List Event) (m : List ℕ) (h : view m ≡ (run kind cs).state) (g : (run kind cs).events ≡ es) (f : formed m ≡ true) (n j i : ℕ) (w : Why) where
  told : w ≡ why_of m n j i → w.answer ≡ 0 → Explained es m j i w
  told e z =
      let s : State = (run kind cs).state in
      let x : w ≡ given (why s n j i) = e ∙ shown m n j i f ∙ ap (λ (q : State). given (why q n j i)) h in
      let a : (why s n j i).answer ≡ 0 = sym (ap (λ (v : Why). v.answer) x) ∙ z in
      let r : (why s n j i).reason ≡ w.reason = sym (ap (λ (v : Why). v.reason) x) in
      let k : (why s n j i).named ≡ w.named = sym (ap (λ (v : Why). v.named) x) in
      record {
        given = subst (λ (q : State). Given q j i w.reason) (sym h) (subst (Given s j i) r (reason_given kind cs n j i a));
        fits = λ b. no_eighth kind cs n j i a (r ∙ b);
        names =
            subst (λ (q : State). Names q es j i w.reason w.named) (sym h)
            (subst (λ (b : ℕ). Names s es j i w.reason b) k (subst (λ (b : ℕ). Names s es j i b (why s n j i).named) r
            (subst (λ (b : List Event). Names s b j i (why s n j i).reason (why s n j i).named) g (names kind cs n j i a))));
      }

-- any calls on bytes that `fresh` was called on, and then why
pub why_explained :
    (kind : Bool) (l k : List ℕ) (u : Reply) → length l ≡ image_length → Freshens l (flag_code kind) u k → {cs : List Call} {rs : List Reply} {m : List ℕ} → Calling k cs rs m →
    (n j i : ℕ) (w : Why) → Explains m n j i w → w.answer ≡ 0 → Explained (map event_of rs) m j i w
why_explained kind l k u z f {cs = cs} {rs = rs} {m = m} d n j i w e =
    let h = shows_run_freshened kind l k u z f d in
    told kind cs (map event_of rs) m h.0 (sym h.1.0) h.1.1 n j i w e

-- ---- as C sees it
-- a packed answer reads back as the controller's
pub why_in_c : (l : List ℕ) (n j i x : ℕ) → north.Explains l n j i x → Explains l n j i (unpacked_why x)
why_in_c l n j i x p = p.1

pub why_asked_c : (l : List ℕ) (n j i x : ℕ) → north.Explains l n j i x → Bytes l → Asked l n j i (unpacked_why x)
why_asked_c l n j i x p = why_asked l n j i (unpacked_why x) (why_in_c l n j i x p)

pub why_explained_c :
    (kind : Bool) (l k : List ℕ) (u : ℕ) → length l ≡ image_length → north.Freshens l (flag_code kind) u k → {cs : List Call} {xs m : List ℕ} → Serving k cs xs m →
    (n j i x : ℕ) → north.Explains m n j i x → (unpacked_why x).answer ≡ 0 → Explained (map event_in xs) m j i (unpacked_why x)
why_explained_c kind l k u z f {xs = xs} {m = m} d n j i x e a =
    subst (λ (es : List Event). Explained es m j i (unpacked_why x)) (events xs)
    (why_explained kind l k (unpacked u) z (f.0.1, f.1) (calling d) n j i (unpacked_why x) (why_in_c m n j i x e) a)
