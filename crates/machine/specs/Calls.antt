-- The calls, and what each decides: a reply, and a row of stores (paper: Refusal numbers, Calls from outside, The four
-- jobs). A refusal's row is empty. Assumes nothing.
use Rattle.std.specs.Prelude.{ℕ, ◌+◌, List, [], ◌∷◌, ◌++◌, map, Bool, true, false, ◌&&◌, cond, eqb, ltb, leb, length, get_or}
use Rattle.kinds.specs.declared.Transaction.{Transaction}
use Rattle.kinds.specs.declared.Reply.{Reply}
use Rattle.kinds.specs.Numbers.{num}
use Rattle.kinds.specs.Events.{numbered, refusal}
use Rattle.rules.specs.declared.Plan.{Plan}
use Rattle.rules.specs.declared.Present.{Present}
use Rattle.rules.specs.Sides.{untouched, asked}
use Rattle.rules.specs.CommitChange.{commit_change}
use Rattle.rules.specs.CommitRollback.{commit_rollback}
use Rattle.rules.specs.ApplyChange.{apply_change}
use Rattle.rules.specs.ApplyRollback.{apply_rollback}
use Rattle.rules.specs.Outside as outside
use Rattle.machine.specs.State.{State, absent, four, entry_of, last, in_log, is_kept, is_node, node_of, put_node, is_master, reaches_target, line_open_for}
use Rattle.machine.specs.Stores.{Store, grow, entry, fold, target_values, configuration, mastership, connections, target}
use Rattle.machine.specs.Rows.{rows_of, event_of}
use Rattle.machine.specs.Differ.{differ, differ_row}
use Rattle.machine.specs.WellFormed.{pairs_ok}
use Rattle.machine.specs.LiveList.{live}
use Rattle.machine.specs.Settled.{settled}
use Rattle.machine.specs.Rest.{rest_of}
use Rattle.machine.specs.Folding.{may_fold, base_row}

-- a path and its value
pub record Pair : Type 0 where
  pub path : ℕ
  pub value : ℕ

pub data Call : Type 0 where
  append : List Pair → Call
  rollback : (number : ℕ) → Call
  start stop : Call
  connect disconnect master sync : (node : ℕ) → Call
  work : (node job number outcome cut : ℕ) → Call
  fold_to : (number : ℕ) → Call

pub record Outcome : Type 0 where
  pub reply : Reply
  pub stores : List Store

-- ---- outcomes
abbrev pub refused : ℕ → Outcome
refused a = record { reply = refusal a; stores = [] }

-- accepted with no event
abbrev pub accepted : List Store → Outcome
accepted es = record { reply = refusal 0; stores = es }

-- where the test holds, what follows; else the refusal
abbrev pub unless : ℕ → Bool → Outcome → Outcome
unless a true o = o
unless a false o = refused a

-- a rule on a record that answered a, and the row that it stores where that is 0
abbrev pub answers : ℕ → List Store → Outcome
answers a es = unless a (eqb a 0) (accepted es)

-- ---- append
abbrev pub path_of : Pair → ℕ
path_of p = p.path

abbrev pub value_of : Pair → ℕ
value_of p = p.value

unfoldable pub values_ok : List Pair → Bool
values_ok [] = true
values_ok (p ∷ ps) = ltb p.value 65536 && values_ok ps

abbrev pub valid_change : List Pair → Bool
valid_change ps = pairs_ok (length ps) (map path_of ps) && values_ok ps

-- four places, the unused ones 0
abbrev pub places : List ℕ → List ℕ
places l = get_or l 0 0 ∷ get_or l 1 0 ∷ get_or l 2 0 ∷ get_or l 3 0 ∷ []

-- phase Change, c.commit and c.apply Pending, everything else of the entry untouched or 0
abbrev pub appended : List Pair → Transaction
appended ps =
    record {
      phase = 1;
      count = length ps;
      paths = places (map path_of ps);
      values = places (map value_of ps);
      change = asked untouched;
      rollback = untouched;
      index = num 0;
      kept = four;
      owners = four;
    }

-- ---- the jobs
abbrev pub present_one : Bool → List ℕ → ℕ → ℕ
present_one true vs p = get_or vs p 0
present_one false vs p = 0

abbrev pub present_at : List ℕ → Transaction → ℕ → ℕ
present_at vs t k = present_one (ltb k t.count) vs (get_or t.paths k 0)

-- the present values of the change's paths, unused places 0
unfoldable pub present : List ℕ → Transaction → List ℕ
present vs t = present_at vs t 0 ∷ present_at vs t 1 ∷ present_at vs t 2 ∷ present_at vs t 3 ∷ []

-- and their owners
abbrev pub present_of : State → Transaction → Present
present_of s t = record { values = present s.committed.values t; owners = present s.committed.owners t }

abbrev pub job1 : State → ℕ → Bool → Plan
job1 s i ok =
    commit_change (entry_of s.log i) s.committed.head s.change (rest_of s) (num i) ok (present_of s (entry_of s.log i))

abbrev pub job2 : State → ℕ → ℕ → Bool → Plan
job2 s n i ok = apply_change (entry_of s.log i) s.applied.head (settled s) (num i) (line_open_for s.net n) ok

abbrev pub job3 : State → ℕ → Plan
job3 s i = commit_rollback (entry_of s.log i) s.committed.head (rest_of s) (num i)

abbrev pub job4 : State → ℕ → ℕ → Bool → Plan
job4 s n i ok = apply_rollback (entry_of s.log i) s.applied.head (settled s) (num i) (line_open_for s.net n) ok

-- what job j of node n plans for number i
unfoldable pub plan_of : State → ℕ → ℕ → ℕ → Bool → Plan
plan_of s n j i ok =
    cond (eqb j 1) (job1 s i ok) (cond (eqb j 2) (job2 s n i ok) (cond (eqb j 3) (job3 s i) (job4 s n i ok)))

-- jobs 1 and 3 are of the commit side
abbrev pub side_if : Bool → Bool → Bool
side_if true b = true
side_if false b = b

abbrev pub commits : ℕ → Bool
commits j = side_if (eqb j 1) (eqb j 3)

abbrev pub planned : ℕ → Plan → ℕ → ℕ → Outcome
planned j p i cut =
    record { reply = record { answer = p.answer; event = event_of p (eqb cut 1) }; stores = rows_of (commits j) p i (eqb cut 1) (eqb cut 2) }

-- node, job, outcome and cut in range
abbrev pub work_ok : ℕ → ℕ → ℕ → ℕ → Bool
work_ok n j r c = (is_node n && (leb 1 j && leb j 4)) && (leb r 1 && leb c 2)

-- ---- stop: the target's values cleared, unless it remembers them (order 13)
abbrev pub clear_row : Bool → List Store
clear_row true = []
clear_row false = target_values absent ∷ []

-- ---- synchronise: the configuration, and where it copies, the applied values in the target, at the paths that differ; it
-- shows how many they are, as append its number (order 13)
abbrev pub copy_row : Bool → (target applied : List ℕ) → List Store
copy_row true ws vs = differ_row 32 ws vs
copy_row false ws vs = []

abbrev pub copy_count : Bool → (target applied : List ℕ) → ℕ
copy_count true ws vs = differ 32 ws vs
copy_count false ws vs = 0

abbrev pub counts : ℕ → (number : ℕ) → List Store → Outcome
counts a n es = unless a (eqb a 0) (record { reply = record { answer = 0; event = numbered n }; stores = es })

-- ---- what each call decides, the refusals in the paper's order (1 comes first: Step)
unfoldable pub decide : State → Call → Outcome
decide s (append ps) =
    unless 3 (valid_change ps)
    (unless 4 (ltb (length s.log.entries) 128)
    (unless 9 (ltb (last s.log) 65535)
    (record { reply = record { answer = 0; event = numbered (last s.log + 1) }; stores = grow (appended ps) ∷ [] })))
decide s (rollback i) =
    unless 5 (in_log s i)
    (unless 18 (is_kept s i)
    (unless 6 (outside.may_roll_back (entry_of s.log i)) (accepted (entry i (outside.rolled_back (entry_of s.log i)) ∷ []))))
decide s start = let x = outside.start s.net.target in answers x.answer (target x.target ∷ [])
decide s stop =
    let x = outside.stop s.net.target in
    answers x.answer (target x.target ∷ (clear_row s.net.target.remembers ++ (connections (map outside.off s.net.connections) ∷ [])))
decide s (connect n) =
    let x = outside.connect (node_of s.net.connections n) s.net.target.running in
    unless 2 (is_node n) (answers x.answer (connections (put_node s.net.connections n x.connection) ∷ []))
decide s (disconnect n) =
    let x = outside.disconnect (node_of s.net.connections n) in
    unless 2 (is_node n) (answers x.answer (connections (put_node s.net.connections n x.connection) ∷ []))
decide s (master n) =
    let x = outside.master s.net.mastership n (node_of s.net.connections n) in
    unless 2 (is_node n) (answers x.answer (mastership x.mastership ∷ []))
decide s (sync n) =
    let x = outside.synchronise s.net.configuration s.net.mastership.term (is_master s.net n) (reaches_target s.net n) in
    let ws = s.net.values in
    let vs = s.applied.values in
    unless 2 (is_node n) (counts x.answer (copy_count x.copies ws vs) (configuration x.configuration ∷ copy_row x.copies ws vs))
decide s (work n j i r c) =
    unless 2 (work_ok n j r c)
    (unless 5 (in_log s i) (unless 18 (is_kept s i) (unless 10 (is_master s.net n) (planned j (plan_of s n j i (eqb r 0)) i c))))
decide s (fold_to b) =
    unless 5 (is_kept s b && leb b (last s.log)) (unless 17 (may_fold s b) (accepted (base_row s.log b (live s) ++ (fold (num b) ∷ []))))
