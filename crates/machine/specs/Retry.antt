-- A retry, stated (orders 3 and 8): a job cut before its last store, or a push cut at the first of its three, and called
-- again by the same node after calls on other nodes' connections. Proved in Retried. Assumes nothing.
use Rattle.std.specs.Prelude.{ℕ, List, [], ◌∷◌, Bool, true, false, not, ◌&&◌, ◌||◌, ◌≡◌, eqb}
use Rattle.kinds.specs.declared.Reply.{Reply}
use Rattle.kinds.specs.Events.{refusal}
use Rattle.rules.specs.Plans.{is_push}
use Rattle.rules.specs.declared.Order.{Order}
use Rattle.rules.specs.declared.Order.TheVariants.{Neither, EntryOnly, HeadOnly, EntryThenHead, HeadThenEntry, TargetThenHeadThenEntry}
use Rattle.machine.specs.State.{State, in_log, is_kept, node_of, is_master}
use Rattle.machine.specs.Stores.{connections, after}
use Rattle.machine.specs.Calls.{Call, append, rollback, start, stop, connect, disconnect, master, sync, work, fold_to, work_ok}
use Rattle.machine.specs.Step.{Stepped, step, state_from}

-- a cut of a rule with these stores, after the first or after the second, leaves out the last store and no other
abbrev pub leaves_last : Order → (first second : Bool) → Bool
leaves_last Neither first second = false
leaves_last EntryOnly first second = false
leaves_last HeadOnly first second = false
leaves_last EntryThenHead first second = first
leaves_last HeadThenEntry first second = first
leaves_last TargetThenHeadThenEntry first second = not first && second

-- ---- calls on the connections of nodes other than n
abbrev pub elsewhere : ℕ → Call → Bool
elsewhere n (append ps) = false
elsewhere n (rollback i) = false
elsewhere n start = false
elsewhere n stop = false
elsewhere n (connect k) = not (eqb k n)
elsewhere n (disconnect k) = not (eqb k n)
elsewhere n (master k) = false
elsewhere n (sync k) = false
elsewhere n (work k j i r c) = false
elsewhere n (fold_to b) = false

unfoldable pub all_elsewhere : ℕ → List Call → Bool
all_elsewhere n [] = true
all_elsewhere n (c ∷ cs) = elsewhere n c && all_elsewhere n cs

-- ---- job j of node n for number i, with outcome r and cut x, passes the refusals before its rules
pub record Cut (s : State) (n j i r x : ℕ) : Type 0 where
  pub args : work_ok n j r x ≡ true
  pub number : in_log s i ≡ true
  pub kept : is_kept s i ≡ true
  pub master : is_master s.net n ≡ true

-- which retries are harmless: any, of what was cut before its last store; and of a push cut at the first of its three
-- stores, one with the same outcome and no cut
abbrev pub may_retry : Order → (x r q c : ℕ) → Bool
may_retry o x r q c = leaves_last o (eqb x 1) (eqb x 2) || (is_push o && (eqb x 1 && (eqb q r && eqb c 0)))

-- of two replies one is u, and the other accepts with no event
pub data OneIs (u : Reply) : Reply → Reply → Type 0 where
  sooner : OneIs u u (refusal 0)
  later : OneIs u (refusal 0) u

-- ---- the promise: the job with cut x; uncut; and called again with outcome q and cut c, after the calls cs
module _ (s : State) (n j i r x q c : ℕ) (cs : List Call) where
  abbrev pub cut : Stepped
  cut = step s (work n j i r x)

  abbrev pub uncut : Stepped
  uncut = step s (work n j i r 0)

  abbrev pub again : Stepped
  again = step (state_from cut.next cs) (work n j i q c)

  pub record Harmless : Type 0 where
    -- the state is that of the uncut job and of the calls between
    pub state : again.next ≡ state_from uncut.next cs
    -- so it agrees with the uncut job's in everything but the connections, and in the node's own
    pub agrees : again.next ≡ after uncut.next (connections again.next.net.connections)
    pub own : node_of again.next.net.connections n ≡ node_of uncut.next.net.connections n
    -- the two calls give the uncut job's answer and its one event
    pub event : OneIs uncut.reply cut.reply again.reply
