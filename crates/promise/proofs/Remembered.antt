-- A switch that remembers, on bytes: what machine's Remembered says of states, said of images, in the controller and as C sees
-- it. Assumes nothing.
use Prim.Native.Nat.{ℕ, ◌<◌}
use mathlib.Core.Path.{◌≡◌, refl, sym, ap, ap₂, subst, ◌∙◌}
use mathlib.Core.Bool.{Bool, true, false, not, cond}
use mathlib.Core.List.{List, [], ◌∷◌, map}
use borrow.Author.Tests.{eq-eqb, lt-ltb}
use lib.Dec.{eqb}
use lib.ListN.{length, get_or, get_or-replicate}
use Rattle.kinds.specs.declared.Progress.{Progress}
use Rattle.kinds.specs.declared.Progress.TheVariants.{Pending, InProgress, Complete}
use Rattle.kinds.specs.declared.Reply.{Reply}
use Rattle.kinds.specs.declared.Event.{Event}
use Rattle.kinds.specs.Events.{numbered}
use Rattle.fields.proofs.Laws.{Bytes}
use Rattle.machine.specs.State.{State, absent}
use Rattle.machine.specs.Stores.{Store}
use Rattle.machine.specs.Calls.{Call, Outcome, stop, sync}
use Rattle.machine.specs.Step.{outcome, step}
use Rattle.machine.specs.Notes.{Note, nothing, wrote, sync_note, note}
use Rattle.machine.specs.Remember as states
use Rattle.machine.specs.Reads.{of_table}
use Rattle.machine.proofs.Remembered as states'
use Rattle.image.specs.Layout.{image_length}
use Rattle.image.specs.Records.{flag_code}
use Rattle.image.specs.View.{view, written}
use Rattle.image.specs.Formed.{formed}
use Rattle.image.proofs.Scanned.{formed_state}
use Rattle.controller.specs.declared.reads.Read.{Read}
use Rattle.controller.specs.Claims.{outcome_of, Claims}
use Rattle.controller.specs.Fresh.{Freshens}
use Rattle.controller.specs.Promises.{Shows}
use Rattle.northbound.specs.Packing.{unpacked}
use Rattle.northbound.specs.Exports as north
use Rattle.link.proofs.Link.{shows_next, stays_formed}
use Rattle.promise.specs.Demands.{found}
use Rattle.promise.specs.Nights.{Acting, ActingC}
use Rattle.promise.specs.Remember.{Stored, Wrote, Synced, Stopped}
use Rattle.promise.proofs.Promise.{in_c, value}
use Rattle.promise.proofs.Nights.{Reached, acted, acting_in_c}

-- the target's value of a path as it is read, and Applied's
target_read : (m : List ℕ) (p : ℕ) (x : Read) → formed m ≡ true → p < 32 → Shows m (of_table 3 p) x → x ≡ found (get_or (view m).net.values p 0)
target_read m p x f i s = s ∙ value m 3 p f (lt-ltb p 32 i)

applied_read : (m : List ℕ) (p : ℕ) (x : Read) → formed m ≡ true → p < 32 → Shows m (of_table 2 p) x → x ≡ found (get_or (view m).applied.values p 0)
applied_read m p x f i s = s ∙ value m 2 p f (lt-ltb p 32 i)

-- ---- a synchronise
module _ (l : List ℕ) (n : ℕ) (r : Reply) (m : List ℕ) (c : Claims l (sync n) r m) (y : Bytes l) (f : formed l ≡ true) (a : r.answer ≡ 0) where
  replied : r ≡ (step (view l) (sync n)).reply
  replied = (shows_next l (sync n) r m c y f).0

  -- what it is noted as
  noted : note (view l) (sync n) ≡ sync_note (view l).net.configuration.state
  noted = rw (eq-eqb _ 0 (sym (ap (λ (q : Reply). q.answer) replied) ∙ a)) refl

  outcome_is : outcome_of l (sync n) ≡ outcome (view l) (sync n)
  unfolding outcome_of outcome
  outcome_is = rw (f, formed_state l f) refl

  stored : (es : List Store) → states.Behind (outcome (view l) (sync n)).stores es → Stored l es m
  stored es b = (b.0, c.1 ∙ ap (λ (o : Outcome). written l o.stores) outcome_is ∙ ap (written l) b.1)

  writes : note (view l) (sync n) ≡ wrote → Wrote l r m
  writes e =
      let s = view l in
      let d : states.Differing 32 s.net.values s.applied.values = states'.differing 32 s.net.values s.applied.values in
      let z = (states'.remembers s (sync n)).wrote e in
      record {
        paths = d.paths;
        rise = d.rise;
        these = λ p u v i t w.
            d.these p i
            ∙ ap₂ (λ (j k : ℕ). not (eqb j k)) (sym (ap (λ (q : Read). q.value) (target_read l p u f i t))) (sym (ap (λ (q : Read). q.value) (applied_read l p v f i w)));
        count = ap (λ (q : Reply). q.event) replied ∙ z.1 ∙ ap numbered d.count;
        stores = subst (λ (es : List Store). Stored l es m) d.row (stored _ ((states'.synchronises s n).writes e));
        same = λ p u v i t w.
            let k : (view m).net.values ≡ s.applied.values = ap (λ (q : State). q.net.values) (shows_next l (sync n) r m c y f).1 ∙ z.0 in
            target_read m p u (stays_formed l (sync n) r m c y f) i t ∙ ap (λ (vs : List ℕ). found (get_or vs p 0)) k ∙ sym (applied_read l p v f i w);
      }

  begins : note (view l) (sync n) ≡ nothing → (r.event ≡ numbered 0) × Stored l [] m
  begins e =
      let q : r ≡ (outcome (view l) (sync n)).reply = c.0 ∙ ap (λ (o : Outcome). o.reply) outcome_is in
      let z = (states'.synchronises (view l) n).begins e (sym (ap (λ (x : Reply). x.answer) q) ∙ a) in
      (ap (λ (x : Reply). x.event) q ∙ z.1, stored [] z.0)

  pub synced : Synced l r m
  synced =
      record {
        wrote = λ e. writes (noted ∙ ap sync_note e);
        begun = λ e. begins (noted ∙ only (view l).net.configuration.state e);
      }
    where
      only : (p : Progress) → (p ≡ InProgress → ⊥) → sync_note p ≡ nothing
      only Pending e = refl
      only InProgress e = absurd (e refl)
      only Complete e = refl

pub synced_c : (l : List ℕ) (n x : ℕ) (m : List ℕ) → north.Claims l (sync n) x m → Bytes l → formed l ≡ true → (unpacked x).answer ≡ 0 → Synced l (unpacked x) m
synced_c l n x m c = synced l n (unpacked x) m (in_c l (sync n) x m c)

-- ---- a stop, after any calls and nights on bytes that `fresh` was called on
module _ (kind : Bool) (cs : List Call) (es : List Event) (m : List ℕ) (h : Reached kind cs es m) where
  pub reached_stop : (r : Reply) (m' : List ℕ) → Claims m stop r m' → r.answer ≡ 0 → Stopped kind m m'
  reached_stop r m' c a p x y i t w =
      let s = view m in
      let z = shows_next m stop r m' c h.bytes h.formed in
      let k : s.net.target.remembers ≡ kind = ap (λ (q : State). q.net.target.remembers) h.state ∙ states'.kind_fixed kind cs in
      let vs : (view m').net.values ≡ cond kind s.net.values absent =
      ap (λ (q : State). q.net.values) z.1 ∙ states'.stops s (sym (ap (λ (q : Reply). q.answer) z.0) ∙ a)
      ∙ ap (λ (b : Bool). cond b s.net.values absent) k in
      target_read m' p y (stays_formed m stop r m' c h.bytes h.formed) i w ∙ ap (λ (us : List ℕ). found (get_or us p 0)) vs ∙ by kind (target_read m p x h.formed i t)
    where
      by : (b : Bool) → x ≡ found (get_or (view m).net.values p 0) → found (get_or (cond b (view m).net.values absent) p 0) ≡ cond b x (found 0)
      by true e = sym e
      by false e = ap found (get_or-replicate 32 p 0 0 i)

pub stopped :
    (kind : Bool) (l k : List ℕ) (u : Reply) → length l ≡ image_length → Freshens l (flag_code kind) u k → {cs : List Call} {es : List Event} {m : List ℕ} →
    Acting k cs es m → (r : Reply) (m' : List ℕ) → Claims m stop r m' → r.answer ≡ 0 → Stopped kind m m'
stopped kind l k u z f {cs} {es} {m} d = reached_stop kind cs es m (acted kind l k u z f d)

pub stopped_c :
    (kind : Bool) (l k : List ℕ) (u : ℕ) → length l ≡ image_length → north.Freshens l (flag_code kind) u k → {cs : List Call} {es : List Event} {m : List ℕ} →
    ActingC k cs es m → (x : ℕ) (m' : List ℕ) → north.Claims m stop x m' → (unpacked x).answer ≡ 0 → Stopped kind m m'
stopped_c kind l k u z f {m = m} d x m' c = stopped kind l k (unpacked u) z (f.0.1, f.1) (acting_in_c d) (unpacked x) m' (in_c m stop x m' c)
