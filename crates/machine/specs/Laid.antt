-- Values with a transaction's pairs laid over them: what a row of single stores comes to (Rows). Assumes nothing.
use Rattle.std.specs.Prelude.{ℕ, List, Bool, true, false, ltb, get_or, set}
use Rattle.kinds.specs.declared.Transaction.{Transaction}
use Rattle.rules.specs.declared.Lay.{Lay}
use Rattle.rules.specs.declared.Lay.TheVariants.{Nothing, Values, Kept}
use Rattle.machine.specs.State.{in_each}

-- the first n pairs, place by place
abbrev pub laying : Bool → List ℕ → ℕ → ℕ → List ℕ
laying true l p v = set l p v
laying false l p v = l

abbrev pub laying_at : List ℕ → List ℕ → ℕ → List ℕ → ℕ → List ℕ
laying_at ps vs n l k = laying (ltb k n) l (get_or ps k 0) (get_or vs k 0)

unfoldable pub over : List ℕ → List ℕ → ℕ → List ℕ → List ℕ
over ps vs n l = laying_at ps vs n (laying_at ps vs n (laying_at ps vs n (laying_at ps vs n l 0) 1) 2) 3

abbrev pub laid_over : Lay → Transaction → List ℕ → List ℕ
laid_over Nothing t l = l
laid_over Values t l = over t.paths t.values t.count l
laid_over Kept t l = over t.paths t.kept t.count l

-- a path's owner, likewise (order 7)
abbrev pub owned_over : Lay → Transaction → ℕ → List ℕ → List ℕ
owned_over Nothing t i l = l
owned_over Values t i l = over t.paths (in_each i) t.count l
owned_over Kept t i l = over t.paths t.owners t.count l
