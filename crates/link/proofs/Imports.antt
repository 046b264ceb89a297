-- An import on the bytes is the calls that its list stands for, on the fresh image; a refused one leaves every byte (order 6).
-- Assumes nothing.
use Prim.Native.Nat.{ℕ}
use mathlib.Core.Path.{◌≡◌, ap, sym, ◌∙◌, subst}
use mathlib.Core.Bool.{Bool, true, false, cond}
use mathlib.Core.List.{List}
use borrow.Author.Tests.{eq-eqb, ne_eqb}
use Rattle.machine.specs.Calls.{Call}
use Rattle.image.specs.Fresh.{fresh_image}
use Rattle.controller.specs.declared.imports.Imported.{Imported}
use Rattle.controller.specs.Nights.{lent_from}
use Rattle.controller.specs.Imports.{import_in, Imports}
use Rattle.link.specs.Runs.{Calling}
use Rattle.link.proofs.Nights.{replies_in, lent_calling}

module _ (l b : List ℕ) (r : Imported) (m : List ℕ) (p : Imports l b r m) where
  pub import_leaves : (r.answer ≡ 0 → ⊥) → m ≡ l
  import_leaves n =
      p.1 ∙ ap (λ (x : Bool). cond x (lent_from (fresh_image false) (import_in l b).calls) l) (ne_eqb _ 0 (λ z. n (ap (λ (u : Imported). u.answer) p.0 ∙ z)))

  pub import_left : r.answer ≡ 0 → m ≡ lent_from (fresh_image false) (import_in l b).calls
  import_left a =
      p.1 ∙ ap (λ (x : Bool). cond x (lent_from (fresh_image false) (import_in l b).calls) l) (eq-eqb _ 0 (sym (ap (λ (u : Imported). u.answer) p.0) ∙ a))

  pub import_calling : r.answer ≡ 0 → Calling (fresh_image false) (import_in l b).calls (replies_in (fresh_image false) (import_in l b).calls) m
  import_calling a =
      let cs : List Call = (import_in l b).calls in subst (Calling (fresh_image false) cs (replies_in (fresh_image false) cs)) (sym (import_left a)) (lent_calling (fresh_image false) cs)
