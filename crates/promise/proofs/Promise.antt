-- Each demand holds of every public call, in the controller and as C sees it; the third of any calls, one after another, on
-- bytes that `fresh` was called on. Assumes nothing.
use Prim.Native.Nat.{ℕ}
use mathlib.Core.Path.{◌≡◌, refl, sym, ap, subst, ◌∙◌}
use mathlib.Core.Bool.{Bool, true, false, ◌&&◌, true≢false}
use mathlib.Core.List.{List, [], ◌∷◌, map}
use borrow.Author.Tests.{lt-ltb}
use lib.Dec.{ltb}
use lib.ListN.{length, get_or}
use Rattle.kinds.specs.declared.Reply.{Reply}
use Rattle.kinds.specs.declared.Event.{Event}
use Rattle.fields.proofs.Laws.{Bytes}
use Rattle.machine.specs.State.{State, unfolded}
use Rattle.machine.specs.LiveList as list
use Rattle.machine.specs.Calls.{Call}
use Rattle.machine.specs.Step.{run}
use Rattle.machine.specs.Notes.{notes}
use Rattle.machine.specs.Reads.{of_table, table_numbers, read}
use Rattle.machine.specs.Reads as reads
use Rattle.machine.proofs.Kept.{refused_changes_nothing, refusal_one}
use Rattle.image.specs.Layout.{image_length}
use Rattle.image.specs.Records.{flag_code}
use Rattle.image.specs.View.{view}
use Rattle.image.specs.Formed.{formed}
use Rattle.image.proofs.Scanned.{formed_length, formed_state}
use Rattle.controller.specs.Claims.{Claims}
use Rattle.controller.specs.Fresh.{Freshens}
use Rattle.controller.specs.Live.{Listing, listing_in, listing_of}
use Rattle.controller.specs.Reads.{read_of}
use Rattle.controller.specs.Reads as shown
use Rattle.northbound.specs.Packing.{unpacked, packed_read}
use Rattle.northbound.specs.Exports as north
use Rattle.link.specs.Runs.{Calling, none, next}
use Rattle.link.proofs.Link.{shows_next, not_formed, refused_same, stays_formed, event_of}
use Rattle.link.proofs.Fresh.{shows_run_freshened}
use Rattle.history.specs.Demand3.{Demand3, live, highest, Holds}
use Rattle.history.specs.Demand3 as holds
use Rattle.history.specs.Given.{given}
use Rattle.history.proofs.Switched as history
use Rattle.history.proofs.ByGiven.{by_given_holds}
use Rattle.promise.specs.Demands.{Demand1, Demand2, ReadsTarget, Target, applied, pushed, returned, Demand3C, Serving, nothing, further, found, event_in}

-- ---- one call
module _ (l : List ℕ) (k : Call) (r : Reply) (m : List ℕ) (p : Claims l k r m) (y : Bytes l) where
  -- any bytes and any numbers
  pub demand_1 : Demand1 l r m
  demand_1 =
      by (formed l) refl
    where
      by : (b : Bool) → formed l ≡ b → Demand1 l r m
      by true w =
          let h = shows_next l k r m p y w in
          record {
            refused = λ x. (ap (λ (q : Reply). q.event) h.0 ∙ (refused_changes_nothing (view l) k (λ z. x (ap (λ (q : Reply). q.answer) h.0 ∙ z))).1, refused_same l k r m p x);
            unformed = λ z. absurd (true≢false (sym w ∙ z));
            formed = λ _ z. true≢false (sym (formed_state l w) ∙ refusal_one (view l) k (sym (ap (λ (q : Reply). q.answer) h.0) ∙ z));
            length = formed_length m (stays_formed l k r m p y w) ∙ sym (formed_length l w);
          }
      by false w =
          let h = not_formed l k r m p w in
          record {
            refused = λ x. (ap (λ (q : Reply). q.event) h.0, h.1);
            unformed = λ _. h.0;
            formed = λ z. absurd (true≢false (sym z ∙ w));
            length = ap length h.1;
          }

  -- a well-formed image
  pub demand_2 : formed l ≡ true → Demand2 l k r m
  demand_2 w = let h = shows_next l k r m p y w in record { reply = h.0; state = h.1; formed = stays_formed l k r m p y w }

-- ---- any calls, on bytes that `fresh` was called on
module _ (kind : Bool) (l k : List ℕ) (u : Reply) (z : length l ≡ image_length) (f : Freshens l (flag_code kind) u k) {cs : List Call} {rs : List Reply} {m : List ℕ} (d : Calling k cs rs m) where
  pub demand_3 : Demand3 (view m) (map event_of rs) (notes kind cs)
  demand_3 =
      let h = shows_run_freshened kind l k u z f d in
      subst (λ (s : State). Demand3 s (map event_of rs) (notes kind cs)) (sym h.0) (subst (λ (es : List Event). Demand3 (run kind cs).state es (notes kind cs)) (sym h.1.0) (history.demand_3 kind cs))

-- ---- as C sees it
-- a packed answer reads back as the controller's reply
pub in_c : (l : List ℕ) (k : Call) (x : ℕ) (m : List ℕ) → north.Claims l k x m → Claims l k (unpacked x) m
in_c l k x m p = (p.0.1, p.1)

pub demand_1_c : (l : List ℕ) (k : Call) (x : ℕ) (m : List ℕ) → north.Claims l k x m → Bytes l → Demand1 l (unpacked x) m
demand_1_c l k x m p = demand_1 l k (unpacked x) m (in_c l k x m p)

pub demand_2_c : (l : List ℕ) (k : Call) (x : ℕ) (m : List ℕ) → north.Claims l k x m → Bytes l → formed l ≡ true → Demand2 l k (unpacked x) m
demand_2_c l k x m p = demand_2 l k (unpacked x) m (in_c l k x m p)

pub calling : {l : List ℕ} {cs : List Call} {xs m : List ℕ} → Serving l cs xs m → Calling l cs (map unpacked xs) m
calling nothing = none
calling (further {k = k} d e x m p) = next (calling d) e (unpacked x) m (in_c k e x m p)

pub events : (xs : List ℕ) → map event_of (map unpacked xs) ≡ map event_in xs
events [] = refl
events (x ∷ xs) = ap (λ es. (unpacked x).event ∷ es) (events xs)

-- a table's value as it is read
pub value : (m : List ℕ) (b p : ℕ) → formed m ≡ true → (reads.is_field 4 b && ltb p 32) ≡ true → read_of m (of_table b p) ≡ found (get_or (table_numbers (view m) b) p 0)
unfolding read_of read
value m b p w h = rw (w, h)

-- the target's, where it holds the applied values
same : (m : List ℕ) (p : ℕ) → (view m).net.values ≡ (view m).applied.values → read_of m (of_table 2 p) ≡ read_of m (of_table 3 p)
unfolding read_of read
same m p e = ap (λ (vs : List ℕ). shown.given (shown.unless (formed m) (reads.unless 2 (ltb p 32) (reads.shows (get_or vs p 0))))) (sym e)

-- what is read in an image that the calls cs reached, with the events es
module _ (kind : Bool) (cs : List Call) (es : List Event) (m : List ℕ) (h : view m ≡ (run kind cs).state) (g : (run kind cs).events ≡ es) (f : formed m ≡ true) where
  pub reached_3 : Demand3 (view m) es (notes kind cs)
  reached_3 = subst (λ (s : State). Demand3 s es (notes kind cs)) (sym h) (subst (λ (e : List Event). Demand3 (run kind cs).state e (notes kind cs)) g (history.demand_3 kind cs))

  -- the target, as it is read
  target_read : (vs : List ℕ) → (view m).net.values ≡ vs → ReadsTarget m vs
  target_read vs e p x i s = s.1 ∙ value m 3 p f (lt-ltb p 32 i) ∙ ap (λ (v : List ℕ). found (get_or v p 0)) e

  target_same : (view m).net.values ≡ (view m).applied.values → (p x y : ℕ) → north.Shows m (of_table 2 p) x → north.Shows m (of_table 3 p) y → x ≡ y
  target_same e p x y s t = s.0 ∙ ap packed_read (same m p e) ∙ sym t.0

  target : Holds (view m) es (notes kind cs) → Target es (notes kind cs) m
  target (holds.applied e) = applied (target_same e)
  target (holds.pushed k i c b e) = pushed k i c b (target_read _ e)
  target (holds.returned k i c b e) = returned k i c b (target_read _ e)

  -- the value of the highest-numbered change, by the calls and what C was answered
  abbrev by_given : (stage path : ℕ) → List Event → ℕ
  by_given b p e = highest (unfolded (given kind cs)) (live e b) (length (given kind cs)) p

  pub reached_3_c : Demand3C kind cs es m
  unfolding listing_of
  reached_3_c =
      let b = by_given_holds kind cs in
      record {
        committed = λ p x i s.
            s.1 ∙ value m 1 p f (lt-ltb p 32 i) ∙ ap (λ (v : State). found (get_or v.committed.values p 0)) h
            ∙ ap found (b.committed p i ∙ ap (by_given 1 p) g);
        applied = λ p x i s.
            s.1 ∙ value m 2 p f (lt-ltb p 32 i) ∙ ap (λ (v : State). found (get_or v.applied.values p 0)) h
            ∙ ap found (b.applied p i ∙ ap (by_given 2 p) g);
        line = λ n o. target (reached_3.line n o);
        whole = λ n p x y o q. target_same (reached_3.whole n o q) p x y;
        list = λ room room' x s.
            let w : listing_of m room ≡ listing_in (list.live (view m)) room = rw f in
            let v = w ∙ ap (λ (ks : List ℕ). listing_in ks room) reached_3.live in
            (s.0.1 ∙ ap (λ (a : Listing). a.listed) v, s.1 ∙ ap (λ (a : Listing). a.room) v);
      }

module _ (kind : Bool) (l k : List ℕ) (u : ℕ) (z : length l ≡ image_length) (f : north.Freshens l (flag_code kind) u k) {cs : List Call} {xs m : List ℕ} (d : Serving k cs xs m) where
  pub demand_3_c : Demand3C kind cs (map event_in xs) m
  demand_3_c =
      let h = shows_run_freshened kind l k (unpacked u) z (f.0.1, f.1) (calling d) in
      reached_3_c kind cs (map event_in xs) m h.0 (sym h.1.0 ∙ events xs) h.1.1
