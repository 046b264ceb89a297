-- Bytes taken one by one: a newline ends the line so far, any other byte belongs to it; and that no second outcome is this.
-- Assumes nothing.
use Rattle.std.specs.Prelude.{ℕ, ◌≡◌, refl, Bool, true, false, List, [], ◌∷◌, eqb}
use Rattle.std.proofs.Common.{ap, subst, ◌∙◌}
use Rattle.kinds.specs.Outcome.{one}
use Rattle.lines.specs.declared.reading.Reader.{Reader}
use Rattle.lines.specs.Reading.{fresh, pushed, pushed_in, last_in, finished}
use Rattle.stepper.specs.declared.Session.{Session}
use Rattle.stepper.specs.Ended.{Ends, ends_only}

-- no answer waits any more
abbrev pub emptied : Session → Session
emptied s = record { line = s.line; begun = s.begun; used = 0; first = s.first }

-- the line so far of the session s, in the room, has ended
abbrev pub EndsLine : List ℕ → List ℕ → List ℕ → Session → ℕ → List ℕ → List ℕ → Type 0
EndsLine l out room s end m after = Ends s.first l (finished s.line room) (last_in s.line room) out s.used end m after

-- the image l, the answers `out` and the room become m, `after` and `kept`, the session s becomes q; behind a line, whatever
-- it was answered, none is the first
abbrev pub TakesIf : Bool → List ℕ → List ℕ → List ℕ → Session → ℕ → Session → List ℕ → List ℕ → List ℕ → Type 0
TakesIf true l out room s b q m after kept =
    EndsLine l out room s q.used m after × (q.line ≡ fresh) × (q.begun ≡ false) × (kept ≡ last_in s.line room) × (q.first ≡ false)
TakesIf false l out room s b q m after kept =
    (q ≡ record { line = pushed s.line b; begun = true; used = s.used; first = s.first }) × (m ≡ l) × (after ≡ out) × (kept ≡ pushed_in s.line b room)

abbrev pub Takes : List ℕ → List ℕ → List ℕ → Session → ℕ → Session → List ℕ → List ℕ → List ℕ → Type 0
Takes l out room s b q m after kept = TakesIf (eqb b 10) l out room s b q m after kept

-- the bytes of a row, one after another
pub data Feeds : List ℕ → List ℕ → List ℕ → Session → List ℕ → Session → List ℕ → List ℕ → List ℕ → Type 0 where
  none : {l out room : List ℕ} {s : Session} → Feeds l out room s [] s l out room
  next :
      {l out room k a n m after kept bs : List ℕ} {s r q : Session} (b : ℕ) → Takes l out room s b r k a n → Feeds k a n r bs q m after kept →
      Feeds l out room s (b ∷ bs) q m after kept

-- at the input's end: a line that has a byte ends, with no newline; else nothing changes
abbrev pub EndsLastIf : Bool → List ℕ → List ℕ → List ℕ → Session → ℕ → List ℕ → List ℕ → List ℕ → Type 0
EndsLastIf true l out room s end m after kept = EndsLine l out room s end m after × (kept ≡ last_in s.line room)
EndsLastIf false l out room s end m after kept = (end ≡ s.used) × (m ≡ l) × (after ≡ out) × (kept ≡ room)

abbrev pub EndsLast : List ℕ → List ℕ → List ℕ → Session → ℕ → List ℕ → List ℕ → List ℕ → Type 0
EndsLast l out room s end m after kept = EndsLastIf s.begun l out room s end m after kept

-- ---- no second outcome
same_session : (q p : Session) → q.line ≡ p.line → q.begun ≡ p.begun → q.used ≡ p.used → q.first ≡ p.first → q ≡ p
same_session q p e f g h =
    ap (λ (x : Reader). record { line = x; begun = q.begun; used = q.used; first = q.first }) e
    ∙ ap (λ (x : Bool). record { line = p.line; begun = x; used = q.used; first = q.first }) f
    ∙ ap (λ (x : ℕ). record { line = p.line; begun = p.begun; used = x; first = q.first }) g
    ∙ ap (λ (x : Bool). record { line = p.line; begun = p.begun; used = p.used; first = x }) h

takes_if_only :
    (e : Bool) (l out room : List ℕ) (s : Session) (b : ℕ) (q p : Session) (m n a c k j : List ℕ) → TakesIf e l out room s b q m a k →
    TakesIf e l out room s b p n c j → (q ≡ p) × (m ≡ n) × (a ≡ c) × (k ≡ j)
takes_if_only true l out room s b q p m n a c k j x y =
    let z = ends_only s.first l (finished s.line room) (last_in s.line room) out s.used q.used p.used m n a c x.0 y.0 in
    (same_session q p (one x.1 y.1) (one x.2 y.2) z.0 (one x.4 y.4), z.1, z.2, one x.3 y.3)
takes_if_only false l out room s b q p m n a c k j x y = (one x.0 y.0, one x.1 y.1, one x.2 y.2, one x.3 y.3)

pub takes_only :
    (l out room : List ℕ) (s : Session) (b : ℕ) (q p : Session) (m n a c k j : List ℕ) → Takes l out room s b q m a k → Takes l out room s b p n c j →
    (q ≡ p) × (m ≡ n) × (a ≡ c) × (k ≡ j)
takes_only l out room s b = takes_if_only (eqb b 10) l out room s b

pub feeds_only :
    {l out room bs : List ℕ} {s q p : Session} {m n a c k j : List ℕ} → Feeds l out room s bs q m a k → Feeds l out room s bs p n c j →
    (q ≡ p) × (m ≡ n) × (a ≡ c) × (k ≡ j)
feeds_only none none = (refl, refl, refl, refl)
feeds_only {l = l} {out = out} {room = room} {s = s} {p = p} {n = n} {c = c} {j = j} (next {k = k₁} {a = a₁} {n = n₁} {bs = bs} {r = r₁} b t f)
    (next {k = k₂} {a = a₂} {n = n₂} {r = r₂} d u g) =
    let z = takes_only l out room s b r₂ r₁ k₂ k₁ a₂ a₁ n₂ n₁ u t in
    let g₁ = subst (λ (x : Session). Feeds k₂ a₂ n₂ x bs p n c j) z.0 g in
    let g₂ = subst (λ (x : List ℕ). Feeds x a₂ n₂ r₁ bs p n c j) z.1 g₁ in
    let g₃ = subst (λ (x : List ℕ). Feeds k₁ x n₂ r₁ bs p n c j) z.2 g₂ in
    feeds_only f (subst (λ (x : List ℕ). Feeds k₁ a₁ x r₁ bs p n c j) z.3 g₃)

ends_last_if_only :
    (b : Bool) (l out room : List ℕ) (s : Session) (e f : ℕ) (m n a c k j : List ℕ) → EndsLastIf b l out room s e m a k →
    EndsLastIf b l out room s f n c j → (e ≡ f) × (m ≡ n) × (a ≡ c) × (k ≡ j)
ends_last_if_only true l out room s e f m n a c k j x y =
    let z = ends_only s.first l (finished s.line room) (last_in s.line room) out s.used e f m n a c x.0 y.0 in
    (z.0, z.1, z.2, one x.1 y.1)
ends_last_if_only false l out room s e f m n a c k j x y = (one x.0 y.0, one x.1 y.1, one x.2 y.2, one x.3 y.3)

pub ends_last_only :
    (l out room : List ℕ) (s : Session) (e f : ℕ) (m n a c k j : List ℕ) → EndsLast l out room s e m a k → EndsLast l out room s f n c j →
    (e ≡ f) × (m ≡ n) × (a ≡ c) × (k ≡ j)
ends_last_only l out room s = ends_last_if_only s.begun l out room s
