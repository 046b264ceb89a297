-- What each public function of this crate promises of its answer r, and that no second answer keeps the promise.
-- Assumes nothing.
use Rattle.std.specs.Prelude.{ℕ, ◌≡◌, Bool}
use Rattle.kinds.specs.declared.Configuration.{Configuration}
use Rattle.kinds.specs.declared.Connection.{Connection}
use Rattle.kinds.specs.declared.Head.{Head}
use Rattle.kinds.specs.declared.Mastership.{Mastership}
use Rattle.kinds.specs.declared.Number.{Number}
use Rattle.kinds.specs.declared.Status.{Status}
use Rattle.kinds.specs.declared.Target.{Target}
use Rattle.kinds.specs.declared.Term.{Term}
use Rattle.kinds.specs.declared.Transaction.{Transaction}
use Rattle.kinds.specs.Outcome.{one}
use Rattle.rules.specs.declared.Connected.{Connected}
use Rattle.rules.specs.declared.Mastered.{Mastered}
use Rattle.rules.specs.declared.Plan.{Plan}
use Rattle.rules.specs.declared.Present.{Present}
use Rattle.rules.specs.declared.Synchronised.{Synchronised}
use Rattle.rules.specs.declared.Targeted.{Targeted}
use Rattle.rules.specs.AtRest.{at_rest}
use Rattle.rules.specs.CommitChange.{commit_change}
use Rattle.rules.specs.CommitRollback.{commit_rollback}
use Rattle.rules.specs.ApplyChange.{apply_change}
use Rattle.rules.specs.ApplyRollback.{apply_rollback}
use Rattle.rules.specs.Outside.{may_roll_back, rolled_back, start, stop, off, connect, disconnect, master, synchronise, reaches, line_open}

-- ---- the four jobs
abbrev pub TellsRest : Head → Status → Status → Bool → Type 0
TellsRest h c r b = b ≡ at_rest h c r

pub tells_rest_only : (h : Head) (c r : Status) (a b : Bool) → TellsRest h c r a → TellsRest h c r b → a ≡ b
tells_rest_only h c r a b = one

abbrev pub CommitsChange : Transaction → Head → Number → Bool → Number → Bool → Present → Plan → Type 0
CommitsChange t h change rest i accepted present r = r ≡ commit_change t h change rest i accepted present

pub commits_change_only : (t : Transaction) (h : Head) (change : Number) (rest : Bool) (i : Number) (accepted : Bool) (present : Present) (r q : Plan)
    → CommitsChange t h change rest i accepted present r → CommitsChange t h change rest i accepted present q → r ≡ q
commits_change_only t h change rest i accepted present r q = one

abbrev pub CommitsRollback : Transaction → Head → Bool → Number → Plan → Type 0
CommitsRollback t h rest i r = r ≡ commit_rollback t h rest i

pub commits_rollback_only : (t : Transaction) (h : Head) (rest : Bool) (i : Number) (r q : Plan) → CommitsRollback t h rest i r → CommitsRollback t h rest i q → r ≡ q
commits_rollback_only t h rest i r q = one

abbrev pub AppliesChange : Transaction → Head → Bool → Number → Bool → Bool → Plan → Type 0
AppliesChange t h settled i line accepted r = r ≡ apply_change t h settled i line accepted

pub applies_change_only : (t : Transaction) (h : Head) (settled : Bool) (i : Number) (line accepted : Bool) (r q : Plan)
    → AppliesChange t h settled i line accepted r → AppliesChange t h settled i line accepted q → r ≡ q
applies_change_only t h settled i line accepted r q = one

abbrev pub AppliesRollback : Transaction → Head → Bool → Number → Bool → Bool → Plan → Type 0
AppliesRollback t h settled i line accepted r = r ≡ apply_rollback t h settled i line accepted

pub applies_rollback_only : (t : Transaction) (h : Head) (settled : Bool) (i : Number) (line accepted : Bool) (r q : Plan)
    → AppliesRollback t h settled i line accepted r → AppliesRollback t h settled i line accepted q → r ≡ q
applies_rollback_only t h settled i line accepted r q = one

-- ---- the calls from outside
abbrev pub TellsRollback : Transaction → Bool → Type 0
TellsRollback t r = r ≡ may_roll_back t

pub tells_rollback_only : (t : Transaction) (r q : Bool) → TellsRollback t r → TellsRollback t q → r ≡ q
tells_rollback_only t r q = one

abbrev pub RollsBack : Transaction → Transaction → Type 0
RollsBack t r = r ≡ rolled_back t

pub rolls_back_only : (t r q : Transaction) → RollsBack t r → RollsBack t q → r ≡ q
rolls_back_only t r q = one

abbrev pub Starts : Target → Targeted → Type 0
Starts t r = r ≡ start t

pub starts_only : (t : Target) (r q : Targeted) → Starts t r → Starts t q → r ≡ q
starts_only t r q = one

abbrev pub Stops : Target → Targeted → Type 0
Stops t r = r ≡ stop t

pub stops_only : (t : Target) (r q : Targeted) → Stops t r → Stops t q → r ≡ q
stops_only t r q = one

abbrev pub TurnsOff : Connection → Connection → Type 0
TurnsOff x r = r ≡ off x

pub turns_off_only : (x r q : Connection) → TurnsOff x r → TurnsOff x q → r ≡ q
turns_off_only x r q = one

abbrev pub Connects : Connection → Bool → Connected → Type 0
Connects x running r = r ≡ connect x running

pub connects_only : (x : Connection) (running : Bool) (r q : Connected) → Connects x running r → Connects x running q → r ≡ q
connects_only x running r q = one

abbrev pub Disconnects : Connection → Connected → Type 0
Disconnects x r = r ≡ disconnect x

pub disconnects_only : (x : Connection) (r q : Connected) → Disconnects x r → Disconnects x q → r ≡ q
disconnects_only x r q = one

abbrev pub Masters : Mastership → ℕ → Connection → Mastered → Type 0
Masters m n x r = r ≡ master m n x

pub masters_only : (m : Mastership) (n : ℕ) (x : Connection) (r q : Mastered) → Masters m n x r → Masters m n x q → r ≡ q
masters_only m n x r q = one

abbrev pub Synchronises : Configuration → Term → Bool → Bool → Synchronised → Type 0
Synchronises g term is_master reaches r = r ≡ synchronise g term is_master reaches

pub synchronises_only : (g : Configuration) (term : Term) (is_master reaches : Bool) (r q : Synchronised)
    → Synchronises g term is_master reaches r → Synchronises g term is_master reaches q → r ≡ q
synchronises_only g term is_master reaches r q = one

-- ---- the line
abbrev pub TellsReach : Connection → Mastership → Target → Bool → Type 0
TellsReach x m t r = r ≡ reaches x m t

pub tells_reach_only : (x : Connection) (m : Mastership) (t : Target) (r q : Bool) → TellsReach x m t r → TellsReach x m t q → r ≡ q
tells_reach_only x m t r q = one

abbrev pub TellsLine : ℕ → Connection → Mastership → Target → Configuration → Bool → Type 0
TellsLine n x m t g r = r ≡ line_open n x m t g

pub tells_line_only : (n : ℕ) (x : Connection) (m : Mastership) (t : Target) (g : Configuration) (r q : Bool)
    → TellsLine n x m t g r → TellsLine n x m t g q → r ≡ q
tells_line_only n x m t g r q = one
