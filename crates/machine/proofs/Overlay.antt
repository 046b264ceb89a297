-- What pairs laid over values say of a path; pairs laid over others of the same paths leave nothing of those. Assumes
-- nothing.
use Prim.Native.Nat.{ℕ, ◌<◌}
use mathlib.Core.List.{List}
use mathlib.Core.Bool.{Bool, true, false, ◌&&◌, cond}
use mathlib.Core.Path.{◌≡◌, refl, sym, ap, ◌∙◌}
use lib.Dec.{eqb, ltb}
use lib.ListN.{length, get_or, set, length-set}
use lib.Seq.{get_or-set_same, get_or-set_other, ext_get_or}
use borrow.Author.Tests.{eqb-true, eqb-false}
use Rattle.kinds.specs.declared.Transaction.{Transaction}
use Rattle.rules.specs.declared.Lay.{Lay}
use Rattle.rules.specs.declared.Lay.TheVariants.{Nothing, Values, Kept}
use Rattle.machine.specs.Laid.{laying, laying_at, over, laid_over}
use Rattle.machine.proofs.Entries.{length_over}

-- place k, of the n used ones, names path p
abbrev pub names_at : List ℕ → ℕ → ℕ → ℕ → Bool
names_at ps n p k = ltb k n && eqb (get_or ps k 0) p

-- what n pairs say of path p, or d where they are silent
unfoldable pub look : List ℕ → ℕ → List ℕ → ℕ → ℕ → ℕ
look ps n vs p d =
    cond (names_at ps n p 3) (get_or vs 3 0)
    (cond (names_at ps n p 2) (get_or vs 2 0) (cond (names_at ps n p 1) (get_or vs 1 0) (cond (names_at ps n p 0) (get_or vs 0 0) d)))

module _ (p : ℕ) where
  at_laying : (b : Bool) (l : List ℕ) (q v : ℕ) → p < length l → get_or (laying b l q v) p 0 ≡ cond (b && eqb q p) v (get_or l p 0)
  at_laying false l q v h = refl
  at_laying true l q v h = go (eqb q p) refl
    where
      go : (t : Bool) → eqb q p ≡ t → get_or (set l q v) p 0 ≡ cond t v (get_or l p 0)
      go true e = rw (eqb-true q p e) (get_or-set_same l p v 0 h)
      go false e = get_or-set_other l q p v 0 (λ x. eqb-false q p e (sym x))

  fits : (b : Bool) (l : List ℕ) (q v : ℕ) → p < length l → p < length (laying b l q v)
  fits false l q v h = h
  fits true l q v h = rw length-set h

  pub at_over : (ps vs : List ℕ) (n : ℕ) (l : List ℕ) → p < length l → get_or (over ps vs n l) p 0 ≡ look ps n vs p (get_or l p 0)
  unfolding over look
  at_over ps vs n l h =
      let a = laying_at ps vs n l 0 in
      let b = laying_at ps vs n a 1 in
      let c = laying_at ps vs n b 2 in
      let ha : p < length a = fits (ltb 0 n) l (get_or ps 0 0) (get_or vs 0 0) h in
      let hb : p < length b = fits (ltb 1 n) a (get_or ps 1 0) (get_or vs 1 0) ha in
      let hc : p < length c = fits (ltb 2 n) b (get_or ps 2 0) (get_or vs 2 0) hb in
      at_laying (ltb 3 n) c (get_or ps 3 0) (get_or vs 3 0) hc
      ∙ ap (cond (names_at ps n p 3) (get_or vs 3 0))
      (at_laying (ltb 2 n) b (get_or ps 2 0) (get_or vs 2 0) hb
      ∙ ap (cond (names_at ps n p 2) (get_or vs 2 0))
      (at_laying (ltb 1 n) a (get_or ps 1 0) (get_or vs 1 0) ha ∙ ap (cond (names_at ps n p 1) (get_or vs 1 0)) (at_laying (ltb 0 n) l (get_or ps 0 0) (get_or vs 0 0) h)))

look_again : (ps : List ℕ) (n : ℕ) (vs ws : List ℕ) (p d : ℕ) → look ps n ws p (look ps n vs p d) ≡ look ps n ws p d
unfolding look
look_again ps n vs ws p d = go (names_at ps n p 3) (names_at ps n p 2) (names_at ps n p 1) (names_at ps n p 0)
  where
    go : (a b c e : Bool)
        → cond a (get_or ws 3 0) (cond b (get_or ws 2 0) (cond c (get_or ws 1 0) (cond e (get_or ws 0 0) (cond a (get_or vs 3 0) (cond b (get_or vs 2 0) (cond c (get_or vs 1 0) (cond e (get_or vs 0 0) d)))))))
        ≡ cond a (get_or ws 3 0) (cond b (get_or ws 2 0) (cond c (get_or ws 1 0) (cond e (get_or ws 0 0) d)))
    go true b c e = refl
    go false true c e = refl
    go false false true e = refl
    go false false false true = refl
    go false false false false = refl

-- a second push of the same paths
pub over_again : (ps vs ws : List ℕ) (n : ℕ) (l : List ℕ) → over ps ws n (over ps vs n l) ≡ over ps ws n l
over_again ps vs ws n l =
    ext_get_or 0 _ _ (length_over ps ws n (over ps vs n l) ∙ length_over ps vs n l ∙ sym (length_over ps ws n l))
    (λ p b. let h : p < length (over ps vs n l) = rw (← length_over ps ws n (over ps vs n l)) b in let k : p < length l = rw (← length_over ps vs n l) h in
    at_over p ps ws n (over ps vs n l) h ∙ ap (look ps n ws p) (at_over p ps vs n l k) ∙ look_again ps n vs ws p (get_or l p 0) ∙ sym (at_over p ps ws n l k))

pub laid_again : (v : Lay) (t : Transaction) (l : List ℕ) → laid_over v t (laid_over v t l) ≡ laid_over v t l
laid_again Nothing t l = refl
laid_again Values t l = over_again t.paths t.values t.values t.count l
laid_again Kept t l = over_again t.paths t.kept t.kept t.count l
