-- The events of a night in the room that is lent: where each stands, and what stays. Assumes nothing.
use Prim.Native.Nat.{ℕ, suc, ◌+◌, ◌*◌, ◌/◌, ◌≤◌, ◌<◌}
use native.Mathlib.Omega.{arith}
use mathlib.Core.Path.{◌≡◌, refl, sym, ◌∙◌, subst}
use mathlib.Core.Logic.{◌⊎◌, inl, inr, ⊎_elim}
use mathlib.Core.Bool.{Bool, true, false, cond}
use mathlib.Core.List.{List, [], ◌∷◌}
use borrow.Author.Tests.{eqb-true, eqb-false, le-leb, leb-true, ltb-true, ltb-false}
use lib.Dec.{eqb, leb, ltb}
use lib.ListN.{length, get_or}
use Rattle.kinds.specs.declared.Event.{Event}
use Rattle.fields.specs.Field.{fields_at, put_fields}
use Rattle.fields.proofs.Runs.{length_puts, puts_outside, puts_same, fields_kept}
use Rattle.controller.specs.Nights.{event_size, fours, event_numbers, put_event, room_after, fitting}
use Rattle.link.proofs.Nights.{HasRoom}
use Rattle.promise.specs.Nights.{kth, Shown}

-- ---- one event
module _ (m : List ℕ) (k : ℕ) (e : Event) where
  abbrev put : List ℕ
  put = put_fields m (event_size * k) fours (event_numbers e)

  put_length : length (put_event m k e) ≡ length m
  unfolding put_event
  put_length = go (leb (event_size * k + event_size) (length m))
    where
      go : (b : Bool) → length (cond b put m) ≡ length m
      go true = length_puts fours (event_numbers e) m (event_size * k)
      go false = refl

  -- behind it nothing is written, nor behind the last place that there is
  put_behind : (j : ℕ) → (event_size * suc k ≤ j) ⊎ (event_size * (length m / event_size) ≤ j) → get_or (put_event m k e) j 0 ≡ get_or m j 0
  unfolding put_event
  put_behind j h = go (leb (event_size * k + event_size) (length m)) refl
    where
      go : (b : Bool) → leb (event_size * k + event_size) (length m) ≡ b → get_or (cond b put m) j 0 ≡ get_or m j 0
      go true x =
          let y : 16 * k + 16 ≤ length m = leb-true _ _ x in
          puts_outside fours (event_numbers e) m (event_size * k) j (inr (⊎_elim (λ a. omega arith) (λ a. omega arith) h))
      go false x = refl

  -- those before it stay
  put_before : (i : ℕ) → i < k → fields_at (put_event m k e) (event_size * i) fours ≡ fields_at m (event_size * i) fours
  unfolding put_event
  put_before i h = go (leb (event_size * k + event_size) (length m))
    where
      go : (b : Bool) → fields_at (cond b put m) (event_size * i) fours ≡ fields_at m (event_size * i) fours
      go true = fields_kept m put (event_size * k) (event_size * k + 16) (puts_outside fours (event_numbers e) m (event_size * k)) fours (event_size * i) (inl (omega arith))
      go false = refl

  put_there : HasRoom e → event_size * k + event_size ≤ length m → fields_at (put_event m k e) (event_size * k) fours ≡ event_numbers e
  unfolding put_event
  put_there f h = rw (le-leb (event_size * k + event_size) (length m) h) (puts_same fours (event_numbers e) m (event_size * k) f h)

-- ---- any events, the newest first
unfoldable pub AllRoom : List Event → Type 0
AllRoom [] = Unit {0}
AllRoom (e ∷ es) = HasRoom e × AllRoom es

module _ (m : List ℕ) where
  pub room_length : (es : List Event) → length (room_after m es) ≡ length m
  unfolding room_after
  room_length [] = refl
  room_length (e ∷ es) = put_length (room_after m es) (length es) e ∙ room_length es

  room_behind : (es : List Event) (j : ℕ) → (event_size * length es ≤ j) ⊎ (event_size * (length m / event_size) ≤ j) → get_or (room_after m es) j 0 ≡ get_or m j 0
  unfolding room_after
  room_behind [] j h = refl
  room_behind (e ∷ es) j h =
      put_behind (room_after m es) (length es) e j (⊎_elim (λ a. inl a) (λ a. inr (subst (λ n. event_size * (n / event_size) ≤ j) (sym (room_length es)) a)) h)
      ∙ room_behind es j (⊎_elim (λ a. inl (omega arith)) (λ a. inr a) h)

  room_there : (es : List Event) → AllRoom es → (k : ℕ) → k < length es → event_size * k + event_size ≤ length m
      → fields_at (room_after m es) (event_size * k) fours ≡ event_numbers (kth es k)
  unfolding room_after AllRoom kth
  room_there [] f k p q = absurd (omega arith)
  room_there (e ∷ es) f k p q = go (eqb k (length es)) refl (room_there es f.1 k)
    where
      go : (b : Bool) → eqb k (length es) ≡ b
          → (k < length es → event_size * k + event_size ≤ length m → fields_at (room_after m es) (event_size * k) fours ≡ event_numbers (kth es k))
          → fields_at (put_event (room_after m es) (length es) e) (event_size * k) fours ≡ event_numbers (cond b e (kth es k))
      go true x r =
          let y : k ≡ length es = eqb-true k (length es) x in
          subst (λ i. fields_at (put_event (room_after m es) (length es) e) (event_size * i) fours ≡ event_numbers e) (sym y)
          (put_there (room_after m es) (length es) e f.0 (omega (arith, room_length es)))
      go false x r =
          let y : k ≡ length es → ⊥ = eqb-false k (length es) x in
          let z : k < length es = omega arith in put_before (room_after m es) (length es) e k z ∙ r z q

-- as many as there are, or as there is room for
fitting_cases : {R : Type 0} (a r : ℕ) → (fitting a r ≡ a → a < r / event_size → R) → (fitting a r ≡ r / event_size → r / event_size ≤ a → R) → R
fitting_cases {R} a r f g = go (ltb a (r / event_size)) refl
  where
    go : (b : Bool) → ltb a (r / event_size) ≡ b → R
    go true e = f (rw e) (ltb-true a (r / event_size) e)
    go false e = g (rw e) (ltb-false a (r / event_size) e)

pub fits_none : (r : ℕ) → fitting 0 r ≡ 0
fits_none r = fitting_cases 0 r (λ e h. e) (λ e h. omega arith)

pub shown : (x : List ℕ) (es : List Event) → AllRoom es → Shown x es (fitting (length es) (length x)) (room_after x es)
shown x es f =
    record {
      count = refl;
      there = λ k h. fitting_cases (length es) (length x) (λ e p. room_there x es f k (omega arith) (omega arith)) (λ e p. room_there x es f k (omega arith) (omega arith));
      behind = λ j h. room_behind x es j (fitting_cases (length es) (length x) (λ e p. inl (omega arith)) (λ e p. inr (omega arith)));
    }
