-- What each public function of this crate promises of its answer r, and that no second outcome keeps the promise.
-- Assumes nothing.
use Rattle.std.specs.Prelude.{ℕ, Bool, ◌≡◌, eqb, ltb}
use Rattle.kinds.specs.Events.{no_event, refusal}
use Rattle.kinds.specs.Numbers.{num, follows, ord, is_full, next_ordinal, trm, is_last, next_term}
use Rattle.kinds.specs.Outcome.{one}
use Rattle.kinds.specs.Records.{with_change, with_rollback}
use Rattle.kinds.specs.Statuses.{code_of, status_of, done, is_complete, is_pending, is_failed, progress_code, progress_of}
use Rattle.kinds.specs.declared.Event.{Event}
use Rattle.kinds.specs.declared.Number.{Number}
use Rattle.kinds.specs.declared.Ordinal.{Ordinal}
use Rattle.kinds.specs.declared.Progress.{Progress}
use Rattle.kinds.specs.declared.Reply.{Reply}
use Rattle.kinds.specs.declared.Side.{Side}
use Rattle.kinds.specs.declared.Status.{Status}
use Rattle.kinds.specs.declared.Term.{Term}
use Rattle.kinds.specs.declared.Transaction.{Transaction}

abbrev pub MakesNumber : ℕ → Number → Type 0
MakesNumber n r = r ≡ num n

pub makes_number_only : (n : ℕ) (r q : Number) → MakesNumber n r → MakesNumber n q → r ≡ q
makes_number_only n r q = one

abbrev pub ShowsNumber : Number → ℕ → Type 0
ShowsNumber x r = r ≡ x.0

pub shows_number_only : (x : Number) (r q : ℕ) → ShowsNumber x r → ShowsNumber x q → r ≡ q
shows_number_only x r q = one

abbrev pub SameNumber : Number → Number → Bool → Type 0
SameNumber x other r = r ≡ eqb x.0 other.0

pub same_number_only : (x other : Number) (r q : Bool) → SameNumber x other r → SameNumber x other q → r ≡ q
same_number_only x other r q = one

abbrev pub BelowNumber : Number → Number → Bool → Type 0
BelowNumber x other r = r ≡ ltb x.0 other.0

pub below_number_only : (x other : Number) (r q : Bool) → BelowNumber x other r → BelowNumber x other q → r ≡ q
below_number_only x other r q = one

abbrev pub FollowsNumber : Number → Number → Bool → Type 0
FollowsNumber x before r = r ≡ follows before.0 x.0

pub follows_number_only : (x before : Number) (r q : Bool) → FollowsNumber x before r → FollowsNumber x before q → r ≡ q
follows_number_only x before r q = one

abbrev pub MakesOrdinal : ℕ → Ordinal → Type 0
MakesOrdinal n r = r ≡ ord n

pub makes_ordinal_only : (n : ℕ) (r q : Ordinal) → MakesOrdinal n r → MakesOrdinal n q → r ≡ q
makes_ordinal_only n r q = one

abbrev pub ShowsOrdinal : Ordinal → ℕ → Type 0
ShowsOrdinal x r = r ≡ x.0

pub shows_ordinal_only : (x : Ordinal) (r q : ℕ) → ShowsOrdinal x r → ShowsOrdinal x q → r ≡ q
shows_ordinal_only x r q = one

abbrev pub SameOrdinal : Ordinal → Ordinal → Bool → Type 0
SameOrdinal x other r = r ≡ eqb x.0 other.0

pub same_ordinal_only : (x other : Ordinal) (r q : Bool) → SameOrdinal x other r → SameOrdinal x other q → r ≡ q
same_ordinal_only x other r q = one

abbrev pub FollowsOrdinal : Ordinal → Ordinal → Bool → Type 0
FollowsOrdinal x before r = r ≡ follows before.0 x.0

pub follows_ordinal_only : (x before : Ordinal) (r q : Bool) → FollowsOrdinal x before r → FollowsOrdinal x before q → r ≡ q
follows_ordinal_only x before r q = one

abbrev pub TellsFull : Ordinal → Bool → Type 0
TellsFull x r = r ≡ is_full x.0

pub tells_full_only : (x : Ordinal) (r q : Bool) → TellsFull x r → TellsFull x q → r ≡ q
tells_full_only x r q = one

abbrev pub MakesNextOrdinal : Ordinal → Ordinal → Type 0
MakesNextOrdinal x r = r ≡ next_ordinal x

pub makes_next_ordinal_only : (x r q : Ordinal) → MakesNextOrdinal x r → MakesNextOrdinal x q → r ≡ q
makes_next_ordinal_only x r q = one

abbrev pub MakesTerm : ℕ → Term → Type 0
MakesTerm n r = r ≡ trm n

pub makes_term_only : (n : ℕ) (r q : Term) → MakesTerm n r → MakesTerm n q → r ≡ q
makes_term_only n r q = one

abbrev pub ShowsTerm : Term → ℕ → Type 0
ShowsTerm x r = r ≡ x.0

pub shows_term_only : (x : Term) (r q : ℕ) → ShowsTerm x r → ShowsTerm x q → r ≡ q
shows_term_only x r q = one

abbrev pub SameTerm : Term → Term → Bool → Type 0
SameTerm x other r = r ≡ eqb x.0 other.0

pub same_term_only : (x other : Term) (r q : Bool) → SameTerm x other r → SameTerm x other q → r ≡ q
same_term_only x other r q = one

abbrev pub BelowTerm : Term → Term → Bool → Type 0
BelowTerm x other r = r ≡ ltb x.0 other.0

pub below_term_only : (x other : Term) (r q : Bool) → BelowTerm x other r → BelowTerm x other q → r ≡ q
below_term_only x other r q = one

abbrev pub TellsLast : Term → Bool → Type 0
TellsLast x r = r ≡ is_last x.0

pub tells_last_only : (x : Term) (r q : Bool) → TellsLast x r → TellsLast x q → r ≡ q
tells_last_only x r q = one

abbrev pub MakesNextTerm : Term → Term → Type 0
MakesNextTerm x r = r ≡ next_term x

pub makes_next_term_only : (x r q : Term) → MakesNextTerm x r → MakesNextTerm x q → r ≡ q
makes_next_term_only x r q = one

abbrev pub ShowsStatus : Status → ℕ → Type 0
ShowsStatus x r = r ≡ code_of x

pub shows_status_only : (x : Status) (r q : ℕ) → ShowsStatus x r → ShowsStatus x q → r ≡ q
shows_status_only x r q = one

abbrev pub ReadsStatus : ℕ → Status → Type 0
ReadsStatus n r = r ≡ status_of n

pub reads_status_only : (n : ℕ) (r q : Status) → ReadsStatus n r → ReadsStatus n q → r ≡ q
reads_status_only n r q = one

abbrev pub TellsDone : Status → Bool → Type 0
TellsDone x r = r ≡ done x

pub tells_done_only : (x : Status) (r q : Bool) → TellsDone x r → TellsDone x q → r ≡ q
tells_done_only x r q = one

abbrev pub TellsComplete : Status → Bool → Type 0
TellsComplete x r = r ≡ is_complete x

pub tells_complete_only : (x : Status) (r q : Bool) → TellsComplete x r → TellsComplete x q → r ≡ q
tells_complete_only x r q = one

abbrev pub TellsPending : Status → Bool → Type 0
TellsPending x r = r ≡ is_pending x

pub tells_pending_only : (x : Status) (r q : Bool) → TellsPending x r → TellsPending x q → r ≡ q
tells_pending_only x r q = one

abbrev pub TellsFailed : Status → Bool → Type 0
TellsFailed x r = r ≡ is_failed x

pub tells_failed_only : (x : Status) (r q : Bool) → TellsFailed x r → TellsFailed x q → r ≡ q
tells_failed_only x r q = one

abbrev pub ShowsProgress : Progress → ℕ → Type 0
ShowsProgress x r = r ≡ progress_code x

pub shows_progress_only : (x : Progress) (r q : ℕ) → ShowsProgress x r → ShowsProgress x q → r ≡ q
shows_progress_only x r q = one

abbrev pub ReadsProgress : ℕ → Progress → Type 0
ReadsProgress n r = r ≡ progress_of n

pub reads_progress_only : (n : ℕ) (r q : Progress) → ReadsProgress n r → ReadsProgress n q → r ≡ q
reads_progress_only n r q = one

abbrev pub PutsChange : Transaction → Side → Transaction → Type 0
PutsChange x change r = r ≡ with_change x change

pub puts_change_only : (x : Transaction) (change : Side) (r q : Transaction)
    → PutsChange x change r → PutsChange x change q → r ≡ q
puts_change_only x change r q = one

abbrev pub PutsRollback : Transaction → Side → Transaction → Type 0
PutsRollback x rollback r = r ≡ with_rollback x rollback

pub puts_rollback_only : (x : Transaction) (rollback : Side) (r q : Transaction)
    → PutsRollback x rollback r → PutsRollback x rollback q → r ≡ q
puts_rollback_only x rollback r q = one

abbrev pub MakesNoEvent : Event → Type 0
MakesNoEvent r = r ≡ no_event

pub makes_no_event_only : (r q : Event) → MakesNoEvent r → MakesNoEvent q → r ≡ q
makes_no_event_only r q = one

abbrev pub Refuses : ℕ → Reply → Type 0
Refuses answer r = r ≡ refusal answer

pub refuses_only : (answer : ℕ) (r q : Reply) → Refuses answer r → Refuses answer q → r ≡ q
refuses_only answer r q = one
