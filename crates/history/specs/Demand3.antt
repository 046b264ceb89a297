-- Demand 3, stated: what the committed values, the applied values, an open line and the live list are, after any calls, by
-- the events that were given, and for the line by what the calls did to the switch (crate machine, Notes; order 8). The
-- statuses in the log are not looked at. Proved in Switched. Assumes nothing.
use Rattle.std.specs.Prelude.{ℕ, zero, suc, ◌≤◌, ◌<◌, List, [], ◌∷◌, Bool, true, false, not, ◌&&◌, ◌||◌, cond, ◌≡◌, eqb, ltb, length, get_or}
use Rattle.kinds.specs.declared.Transaction.{Transaction}
use Rattle.kinds.specs.declared.Event.{Event}
use Rattle.kinds.specs.declared.Status.{Status}
use Rattle.kinds.specs.declared.Status.TheVariants.{InProgress, Complete}
use Rattle.kinds.specs.Statuses.{code_of}
use Rattle.rules.specs.declared.Lay.TheVariants.{Values, Kept}
use Rattle.machine.specs.State.{State, Log, entry_of, last, is_kept, line_open_for}
use Rattle.machine.specs.Laid.{laid_over}
use Rattle.machine.specs.Notes.{Note, nothing, wrote, half, full}
use Rattle.machine.specs.LiveList as list

-- ---- completed: an event with this status was given for a phase (1 Change, 2 Rollback), a stage (1 Commit, 2 Apply) and
-- a number
abbrev pub tells : Status → Event → (phase stage number : ℕ) → Bool
tells x e p g k = eqb (code_of e.status) (code_of x) && (eqb e.phase p && (eqb e.stage g && eqb e.number.0 k))

unfoldable pub told : Status → List Event → (phase stage number : ℕ) → Bool
told x [] p g k = false
told x (e ∷ es) p g k = tells x e p g k || told x es p g k

abbrev pub completed : List Event → (phase stage number : ℕ) → Bool
completed es p g k = told Complete es p g k

-- ---- live: change k's stage has completed, and its rollback's has not
abbrev pub live : List Event → (stage number : ℕ) → Bool
live es g k = completed es 1 g k && not (completed es 2 g k)

-- ---- a change sets a path, and to what
-- place k, one of those in use, names path p
abbrev pub names : Transaction → ℕ → ℕ → Bool
names t p k = ltb k t.count && eqb (get_or t.paths k 0) p

abbrev pub sets : Transaction → ℕ → Bool
sets t p = names t p 3 || (names t p 2 || (names t p 1 || names t p 0))

abbrev pub value_at : Transaction → ℕ → ℕ
value_at t p =
    cond (names t p 3) (get_or t.values 3 0) (cond (names t p 2) (get_or t.values 2 0) (cond (names t p 1) (get_or t.values 1 0) (get_or t.values 0 0)))

-- ---- highest-numbered: of changes 1 to n, the value of the highest that f holds of and that sets p; the base value where
-- none does
unfoldable pub highest : Log → (ℕ → Bool) → ℕ → ℕ → ℕ
highest l f zero p = get_or l.base p 0
highest l f (suc n) p = cond (f (suc n) && sets (entry_of l (suc n)) p) (value_at (entry_of l (suc n)) p) (highest l f n p)

-- the changes 1 to n that f holds of, newest first
abbrev pub list_if : Bool → ℕ → List ℕ → List ℕ
list_if true k ks = k ∷ ks
list_if false k ks = ks

unfoldable pub newest_first : (ℕ → Bool) → ℕ → List ℕ
newest_first f zero = []
newest_first f (suc n) = list_if (f (suc n)) (suc n) (newest_first f n)

-- of the changes kept (order 10)
abbrev pub kept : State → (ℕ → Bool) → ℕ → Bool
kept s f k = is_kept s k && f k

-- where k hops from v lead
unfoldable pub hopped : Log → ℕ → ℕ → ℕ
hopped l zero v = v
hopped l (suc k) v = hopped l k (entry_of l v).index.0

-- ---- pushes cut at their first store, the newest call first
-- one came since the last synchronise that wrote
unfoldable pub cut_since : List Note → Bool
cut_since [] = false
cut_since (nothing ∷ ns) = cut_since ns
cut_since (wrote ∷ ns) = false
cut_since (half k ∷ ns) = true
cut_since (full k ∷ ns) = cut_since ns

-- the transaction last so cut
unfoldable pub last_cut : List Note → ℕ
last_cut [] = 0
last_cut (nothing ∷ ns) = last_cut ns
last_cut (wrote ∷ ns) = last_cut ns
last_cut (half k ∷ ns) = k
last_cut (full k ∷ ns) = last_cut ns

-- it has since had an accepted push that was not so cut
unfoldable pub pushed_since : List Note → Bool
pushed_since [] = false
pushed_since (nothing ∷ ns) = pushed_since ns
pushed_since (wrote ∷ ns) = pushed_since ns
pushed_since (half k ∷ ns) = false
pushed_since (full k ∷ ns) = eqb (last_cut ns) k || pushed_since ns

-- transaction k has begun to apply, and its rollback has not completed its apply
pub record Begun (es : List Event) (k : ℕ) : Type 0 where
  pub begun : told InProgress es 1 2 k ≡ true
  pub unreturned : completed es 2 2 k ≡ false

-- no push is cut at its first store and not made good
abbrev pub made_good : List Note → Bool
made_good ns = not (cut_since ns) || pushed_since ns

-- the applied values overlaid with the pairs of transaction k, and with its rollback values
abbrev pub with_pairs : State → ℕ → List ℕ
with_pairs s k = laid_over Values (entry_of s.log k) s.applied.values

abbrev pub with_returned : State → ℕ → List ℕ
with_returned s k = laid_over Kept (entry_of s.log k) s.applied.values

-- what the target holds: the transaction is kept, and the one last cut at its first store
pub data Holds (s : State) (es : List Event) (ns : List Note) : Type 0 where
  applied : s.net.values ≡ s.applied.values → Holds s es ns
  pushed : (k : ℕ) → s.log.folded.0 < k → k ≡ last_cut ns → Begun es k → s.net.values ≡ with_pairs s k → Holds s es ns
  returned : (k : ℕ) → s.log.folded.0 < k → k ≡ last_cut ns → Begun es k → s.net.values ≡ with_returned s k → Holds s es ns

-- ---- the demand
pub record Demand3 (s : State) (es : List Event) (ns : List Note) : Type 0 where
  -- the committed value of every path is that of the highest-numbered change kept and setting it whose commit Complete
  -- event has been given and whose rollback commit Complete event has not, or the base value (absent, if nothing is folded)
  pub committed : (p : ℕ) → p < 32 → get_or s.committed.values p 0 ≡ highest s.log (kept s (live es 1)) (last s.log) p
  -- the same, with apply
  pub applied : (p : ℕ) → p < 32 → get_or s.applied.values p 0 ≡ highest s.log (kept s (live es 2)) (last s.log) p
  -- whenever the line is open for some node, the target holds the applied values, or those overlaid with the change's pairs
  -- or rollback values of one transaction, kept, that has begun to apply and whose rollback has not completed its apply
  pub line : (n : ℕ) → line_open_for s.net n ≡ true → Holds s es ns
  -- the first of the two where no push has been cut at its first store since the last synchronise that wrote, or where the
  -- transaction last so cut has since had an accepted push that was not so cut
  pub whole : (n : ℕ) → line_open_for s.net n ≡ true → made_good ns ≡ true → s.net.values ≡ s.applied.values
  -- the live list is exactly the changes of the first part, newest first
  pub live : list.live s ≡ newest_first (kept s (live es 1)) (last s.log)
  -- and its length is the number of hops until 0 or a folded number
  pub hops : hopped s.log (length (list.live s)) s.committed.head.revision.0 ≤ s.log.folded.0
