-- A number of C's, of 64 bits, as a call of the controller takes it, of 16: one that is too great becomes one that is
-- refused as it is. Assumes nothing.
use Rattle.std.specs.Prelude.{ℕ, Bool, cond, ◌&&◌, leb}
use Rattle.northbound.specs.declared.Job.{Job}

abbrev pub narrowed : ℕ → ℕ → ℕ
narrowed far x = cond (leb x 65535) x far

-- in the range of no node, job, outcome, cut, budget, table, path or field, and the place of no log
abbrev pub outside : ℕ
outside = 65535

-- the number of no transaction
abbrev pub none : ℕ
none = 0

-- all five numbers of a job are numbers of 16 bits
abbrev pub small : (node job number outcome cut : ℕ) → Bool
small n j i o c = leb i 65535 && leb c 65535 && leb o 65535 && leb j 65535 && leb n 65535

-- the job handed on: where one of them is too great, with the number of no transaction
abbrev pub handed : (node job number outcome cut : ℕ) → Job
handed n j i o c =
    record {
      node = narrowed outside n;
      job = narrowed outside j;
      number = cond (small n j i o c) i none;
      outcome = narrowed outside o;
      cut = narrowed outside c;
    }
