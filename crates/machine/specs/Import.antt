-- Order 6, the old controller's lists: a list judged by itself, and the calls that it stands for. What an import leaves is
-- what those calls leave a fresh controller. Assumes nothing.
use Rattle.std.specs.Prelude.{ℕ, zero, suc, ◌+◌, ◌*◌, ◌/◌, ◌%◌, List, [], ◌∷◌, ◌++◌, Bool, true, false, cond, eqb, ltb, leb, length, get_or}
use Rattle.machine.specs.State.{State}
use Rattle.machine.specs.Calls.{Pair, Call, append, rollback, start, connect, master, work, valid_change}
use Rattle.machine.specs.Step.{run}

-- a change; a rollback, which names the place in the list, from 1, of the entry that it undoes; or neither
pub data Entry : Type 0 where
  adds : List Pair → Entry
  undoes : (place : ℕ) → Entry
  neither : Entry

-- ---- the list judged: 0, or the refusal of the first bad entry and its place
pub record Verdict : Type 0 where
  pub answer : ℕ
  pub position : ℕ

abbrev pub bad_unless : (answer position : ℕ) → Bool → Verdict → Verdict
bad_unless a q b v = cond b v (record { answer = a; position = q })

-- the newest of the live changes, whose places are given newest first, stands at place p
abbrev pub is_newest : ℕ → List ℕ → Bool
is_newest p [] = false
is_newest p (x ∷ xs) = eqb p x

abbrev pub others : List ℕ → List ℕ
others [] = []
others (x ∷ xs) = xs

-- the entries from a place on, where so many changes came before and these are live
unfoldable pub judged_from : (place changes : ℕ) → (live : List ℕ) → List Entry → Verdict
judged_from q n ls [] = record { answer = 0; position = 0 }
judged_from q n ls (adds ps ∷ es) = bad_unless 3 q (valid_change ps) (bad_unless 4 q (ltb n 128) (judged_from (suc q) (suc n) (q ∷ ls) es))
judged_from q n ls (undoes p ∷ es) = bad_unless 16 q (is_newest p ls) (judged_from (suc q) n (others ls) es)
judged_from q n ls (neither ∷ es) = record { answer = 16; position = q }

-- a list that is too long is refused before any entry is looked at
unfoldable pub judged : List Entry → Verdict
judged es = bad_unless 2 0 (leb (length es) 256) (judged_from 1 0 [] es)

-- ---- the calls, the newest first
-- start, connect and mastership for node 1
abbrev pub opening : List Call
opening = master 1 ∷ connect 1 ∷ start ∷ []

-- the number that the change at place p gets: as many as there are changes up to it
unfoldable pub number_at : List Entry → ℕ → ℕ
number_at es zero = 0
number_at [] (suc p) = 0
number_at (adds ps ∷ es) (suc p) = suc (number_at es p)
number_at (undoes k ∷ es) (suc p) = number_at es p
number_at (neither ∷ es) (suc p) = number_at es p

-- a commit job of node 1, twice: it begins and it ends, accepted and uncut
abbrev pub committed : (job number : ℕ) → List Call
committed j k = work 1 j k 0 0 ∷ work 1 j k 0 0 ∷ []

-- those of the entry at place q
abbrev pub calls_of : List Entry → (place : ℕ) → Entry → List Call
calls_of es q (adds ps) = committed 1 (number_at es q) ++ (append ps ∷ [])
calls_of es q (undoes p) = committed 3 (number_at es p) ++ (rollback (number_at es p) ∷ [])
calls_of es q neither = []

-- those up to the k-th entry
unfoldable pub calls_up_to : List Entry → ℕ → List Call
calls_up_to es zero = opening
calls_up_to es (suc k) = calls_of es (suc k) (get_or es k neither) ++ calls_up_to es k

abbrev pub import_calls : List Entry → List Call
import_calls es = calls_up_to es (length es)

-- ---- the import: it stands in place of the fresh start, for those calls; refused, for none
pub record Import : Type 0 where
  pub answer : ℕ
  pub position : ℕ
  pub calls : List Call

abbrev pub import_by : Verdict → List Entry → Import
import_by v es = record { answer = v.answer; position = v.position; calls = cond (eqb v.answer 0) (import_calls es) [] }

unfoldable pub import : List Entry → Import
import es = import_by (judged es) es

-- what a fresh controller is after it; its target forgets (order 13)
abbrev pub imported : List Entry → State
imported es = (run false (import es).calls).state

-- ---- the list as bytes, 20 an entry, each number of two bytes, little-endian: the kind, 1 a change and 2 a rollback; the number
-- of pairs, or the place named; and four times a path and its value
abbrev pub entry_size : ℕ
entry_size = 20

abbrev pub two : List ℕ → ℕ → ℕ
two b at = get_or b at 0 + 256 * get_or b (at + 1) 0

-- n pairs from a place on; more than four, which an entry has no room for, are no change (3), whatever is read there
unfoldable pub pairs_at : List ℕ → (at n : ℕ) → List Pair
pairs_at b at zero = []
pairs_at b at (suc n) = record { path = two b at; value = two b (at + 2) } ∷ pairs_at b (at + 4) n

abbrev pub entry_by : List ℕ → (at kind count : ℕ) → Entry
entry_by b at g n = cond (eqb g 1) (adds (pairs_at b (at + 4) n)) (cond (eqb g 2) (undoes n) neither)

unfoldable pub entry_in : List ℕ → (at : ℕ) → Entry
entry_in b at = entry_by b at (two b at) (two b (at + 2))

-- n entries, from the k-th on, counted from 0
unfoldable pub entries_from : List ℕ → (k n : ℕ) → List Entry
entries_from b k zero = []
entries_from b k (suc n) = entry_in b (entry_size * k) ∷ entries_from b (suc k) n

unfoldable pub entries_of : List ℕ → List Entry
entries_of b = entries_from b 0 (length b / entry_size)

-- bytes that are no list of entries are refused as a list that is too long is
unfoldable pub import_of : List ℕ → Import
import_of b = cond (eqb (length b % entry_size) 0) (import (entries_of b)) (record { answer = 2; position = 0; calls = [] })
