-- Calls on the bytes, one after another: the image stays well-formed and shows what the machine's calls leave. Assumes nothing.
use Prim.Native.Nat.{ℕ}
use mathlib.Core.Path.{◌≡◌, refl, ap, sym, ◌∙◌, subst}
use mathlib.Core.Bool.{Bool, true, false}
use mathlib.Core.List.{List, [], ◌∷◌, ◌++◌}
use Rattle.kinds.specs.declared.Reply.{Reply}
use Rattle.fields.proofs.Laws.{Bytes}
use Rattle.machine.specs.State.{State, fresh}
use Rattle.machine.specs.Calls.{Call, Outcome, decide}
use Rattle.machine.specs.Step.{step, run, state_from}
use Rattle.image.specs.View.{view, written}
use Rattle.image.specs.Formed.{formed}
use Rattle.image.specs.Fresh.{fresh_image}
use Rattle.image.proofs.Freshened.{shows_fresh, formed_fresh}
use Rattle.staying.proofs.Stays.{shows, stays_bytes, stays_formed}
use Rattle.controller.specs.Claims.{outcome_of, Does}
use Rattle.controller.specs.Nights.{lent_from}
use Rattle.controller.proofs.Freshened.{fresh_bytes}

pub record Lent (l : List ℕ) (cs : List Call) : Type 0 where
  pub bytes : Bytes (lent_from l cs)
  pub formed : formed (lent_from l cs) ≡ true
  pub shows : view (lent_from l cs) ≡ state_from (view l) cs

-- a well-formed image stays one, and shows what the machine's calls leave
pub decided : (l : List ℕ) (c : Call) → formed l ≡ true → outcome_of l c ≡ decide (view l) c
unfolding outcome_of
decided l c w = rw w

pub lent : (l : List ℕ) (cs : List Call) → Bytes l → formed l ≡ true → Lent l cs
unfolding lent_from state_from
lent l [] y w = record { bytes = y; formed = w; shows = refl }
lent l (c ∷ cs) y w =
    let h = lent l cs y w in
    let m = lent_from l cs in
    let e : written m (outcome_of m c).stores ≡ written m (decide (view m) c).stores = ap (λ (o : Outcome). written m o.stores) (decided m c h.formed) in
    record {
      bytes = subst Bytes (sym e) (stays_bytes m c h.bytes h.formed);
      formed = ap formed e ∙ stays_formed m c h.bytes h.formed;
      shows = ap view e ∙ shows m c h.bytes h.formed ∙ ap (λ (s : State). (step s c).next) h.shows;
    }

pub lent_on : (l : List ℕ) (cs ds : List Call) → lent_from (lent_from l cs) ds ≡ lent_from l (ds ++ cs)
unfolding lent_from
lent_on l cs [] = refl
lent_on l cs (d ∷ ds) = ap (λ (m : List ℕ). written m (outcome_of m d).stores) (lent_on l cs ds)

-- one call of the controller's
lent_one : (l : List ℕ) (c : Call) (r : Reply) (m : List ℕ) → formed l ≡ true → Does l c r m → m ≡ lent_from l (c ∷ [])
unfolding lent_from
lent_one l c r m w d = d.1 ∙ ap (λ (o : Outcome). written l o.stores) (sym (decided l c w))

-- and one more
lent_then : (l : List ℕ) (cs : List Call) (k : List ℕ) (c : Call) (r : Reply) (m : List ℕ) → Bytes l → formed l ≡ true → k ≡ lent_from l cs → Does k c r m → m ≡ lent_from l (c ∷ cs)
unfolding lent_from
lent_then l cs k c r m y w e d =
    let z : formed k ≡ true = ap formed e ∙ (lent l cs y w).formed in
    lent_one k c r m z d ∙ ap (λ (x : List ℕ). lent_from x (c ∷ [])) e

lent_formed : (l : List ℕ) (cs : List Call) (k : List ℕ) → Bytes l → formed l ≡ true → k ≡ lent_from l cs → formed k ≡ true
lent_formed l cs k y w e = ap formed e ∙ (lent l cs y w).formed

-- from a fresh image; an import's forgets
pub fresh_run : (m : Bool) (cs : List Call) → state_from (fresh m) cs ≡ (run m cs).state
unfolding state_from run
fresh_run m [] = refl
fresh_run m (c ∷ cs) = ap (λ (s : State). (step s c).next) (fresh_run m cs)

pub fresh_lent : (cs : List Call) → Lent (fresh_image false) cs
fresh_lent cs = lent (fresh_image false) cs (fresh_bytes false) (formed_fresh false)

pub fresh_none : (m : List ℕ) → m ≡ fresh_image false → m ≡ lent_from (fresh_image false) []
unfolding lent_from
fresh_none m e = e

pub fresh_then : (cs : List Call) (k : List ℕ) (c : Call) (r : Reply) (m : List ℕ) → k ≡ lent_from (fresh_image false) cs → Does k c r m → m ≡ lent_from (fresh_image false) (c ∷ cs)
fresh_then cs k c r m = lent_then (fresh_image false) cs k c r m (fresh_bytes false) (formed_fresh false)

pub fresh_formed : (cs : List Call) (k : List ℕ) → k ≡ lent_from (fresh_image false) cs → formed k ≡ true
fresh_formed cs k = lent_formed (fresh_image false) cs k (fresh_bytes false) (formed_fresh false)

pub shown_run : (cs : List Call) (m : List ℕ) → m ≡ lent_from (fresh_image false) cs → view m ≡ (run false cs).state
shown_run cs m e = ap view e ∙ (fresh_lent cs).shows ∙ ap (λ (s : State). state_from s cs) (shows_fresh false) ∙ fresh_run false cs
