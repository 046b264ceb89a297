-- Order 6: what Imports says of a list's verdict leaves one verdict, which is the judging's. Assumes nothing.
use Prim.Native.Nat.{ℕ, suc, ◌<◌}
use native.Mathlib.Omega.{arith}
use mathlib.Core.List.{List}
use mathlib.Core.Bool.{Bool, true, false, true≢false}
use mathlib.Core.Path.{◌≡◌, refl, sym, ap, ap₂, ◌∙◌, subst}
use lib.Dec.{ltb}
use borrow.Author.Tests.{ltb-true, ltb-false}
use Rattle.machine.specs.Import.{Entry, Verdict, judged}
use Rattle.machine.specs.Imports.{entry_after, Good, change, rollback, Bad, pairs, full, names, kind, FirstBad, Verdicts, accepted, long, refused}
use Rattle.machine.proofs.Judged.{judged_so}

module _ (es : List Entry) where
  good_not_bad : {k a : ℕ} {e : Entry} → Good es k e → Bad es k e a → ⊥
  good_not_bad (change v m) (pairs w) = true≢false (sym v ∙ w)
  good_not_bad (change v m) (full w n) = omega (arith, m, n)
  good_not_bad (rollback n) (names f) = f n

  -- an entry is bad in one way
  bad_once : {k a b : ℕ} {e : Entry} → Bad es k e a → Bad es k e b → a ≡ b
  bad_once (pairs v) (pairs w) = refl
  bad_once (pairs v) (full w n) = absurd (true≢false (sym w ∙ v))
  bad_once (full v m) (pairs w) = absurd (true≢false (sym v ∙ w))
  bad_once (full v m) (full w n) = refl
  bad_once (names f) (names g) = refl
  bad_once kind kind = refl

  -- and only one is the first
  not_later : {v w : Verdict} (f : FirstBad es v) (g : FirstBad es w) → f.before < g.before → ⊥
  not_later f g l = good_not_bad (g.good f.before l) f.bad

  first_once : (v w : Verdict) → FirstBad es v → FirstBad es w → v ≡ w
  first_once v w f g = ap₂ (λ a q. record { answer = a; position = q }) (bad_once f.bad (subst (λ k. Bad es k (entry_after es k) w.answer) (sym same) g.bad)) (f.position ∙ ap suc same ∙ sym g.position)
    where
      same : f.before ≡ g.before
      same = go (ltb f.before g.before) refl (ltb g.before f.before) refl
        where
          go : (a : Bool) → ltb f.before g.before ≡ a → (b : Bool) → ltb g.before f.before ≡ b → f.before ≡ g.before
          go true x b y = absurd (not_later f g (ltb-true _ _ x))
          go false x true y = absurd (not_later g f (ltb-true _ _ y))
          go false x false y = omega (arith, ltb-false f.before g.before x, ltb-false g.before f.before y)

  pub verdicts_only : (v w : Verdict) → Verdicts es v → Verdicts es w → v ≡ w
  verdicts_only v w (accepted l g) (accepted m h) = refl
  verdicts_only v w (accepted l g) (long m) = absurd (omega (arith, l, m))
  verdicts_only v w (accepted l g) (refused m f) = absurd (good_not_bad (g f.before f.inside) f.bad)
  verdicts_only v w (long l) (accepted m h) = absurd (omega (arith, l, m))
  verdicts_only v w (long l) (long m) = refl
  verdicts_only v w (long l) (refused m f) = absurd (omega (arith, l, m))
  verdicts_only v w (refused l f) (accepted m h) = absurd (good_not_bad (h f.before f.inside) f.bad)
  verdicts_only v w (refused l f) (long m) = absurd (omega (arith, l, m))
  verdicts_only v w (refused l f) (refused m g) = first_once v w f g

  pub verdict_is : (v : Verdict) → Verdicts es v → v ≡ judged es
  verdict_is v p = verdicts_only v (judged es) p (judged_so es)
