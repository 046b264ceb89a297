-- The statuses and the configuration's states, with the paper's numbers (paper: Numbers, The state). Assumes nothing.
use Rattle.std.specs.Prelude.{ℕ, Bool, true, false, cond, eqb}
use Rattle.kinds.specs.declared.Status.{Status}
use Rattle.kinds.specs.declared.Status.TheVariants.{None, Pending, InProgress, Complete, Aborted, Canceled, Failed}
use Rattle.kinds.specs.declared.Progress.{Progress}
use Rattle.kinds.specs.declared.Progress.TheVariants as progress

abbrev pub code_of : Status → ℕ
code_of None = 0
code_of Pending = 1
code_of InProgress = 2
code_of Complete = 3
code_of Aborted = 4
code_of Canceled = 5
code_of Failed = 6

unfoldable pub status_of : ℕ → Status
status_of n =
    cond (eqb n 0) None
    (cond (eqb n 1) Pending (cond (eqb n 2) InProgress (cond (eqb n 3) Complete (cond (eqb n 4) Aborted (cond (eqb n 5) Canceled Failed)))))

-- Done means 3 to 6
abbrev pub done : Status → Bool
done None = false
done Pending = false
done InProgress = false
done Complete = true
done Aborted = true
done Canceled = true
done Failed = true

abbrev pub is_complete : Status → Bool
is_complete None = false
is_complete Pending = false
is_complete InProgress = false
is_complete Complete = true
is_complete Aborted = false
is_complete Canceled = false
is_complete Failed = false

abbrev pub is_pending : Status → Bool
is_pending None = false
is_pending Pending = true
is_pending InProgress = false
is_pending Complete = false
is_pending Aborted = false
is_pending Canceled = false
is_pending Failed = false

abbrev pub is_failed : Status → Bool
is_failed None = false
is_failed Pending = false
is_failed InProgress = false
is_failed Complete = false
is_failed Aborted = false
is_failed Canceled = false
is_failed Failed = true

-- the configuration's states are coded as the statuses of the same names
abbrev pub progress_code : Progress → ℕ
progress_code progress.Pending = 1
progress_code progress.InProgress = 2
progress_code progress.Complete = 3

unfoldable pub progress_of : ℕ → Progress
progress_of n = cond (eqb n 1) progress.Pending (cond (eqb n 2) progress.InProgress progress.Complete)
