-- P1 to P12 of the paper and its stepper example: one table, and one proof by computing that the definitions give every
-- line of it. Assumes nothing.
use Rattle.std.specs.Prelude.{ℕ, zero, suc, List, [], ◌∷◌, ◌++◌, Bool, true, false, ◌&&◌, cond, ◌≡◌, refl, eqb, get_or, drop}
use Rattle.kinds.specs.declared.Transaction.{Transaction}
use Rattle.kinds.specs.declared.Event.{Event}
use Rattle.kinds.specs.declared.Reply.{Reply}
use Rattle.kinds.specs.declared.Status.{Status}
use Rattle.kinds.specs.declared.Status.TheVariants.{InProgress, Complete, Aborted, Canceled, Failed}
use Rattle.kinds.specs.Numbers.{num}
use Rattle.kinds.specs.Statuses.{code_of}
use Rattle.kinds.specs.Events.{event, numbered, refusal}
use Rattle.machine.specs.State.{State, fresh, entry_of, node_of}
use Rattle.machine.specs.Stores.{after, afters}
use Rattle.machine.specs.Rows.{overlay, rows_of}
use Rattle.machine.specs.Differ.{differ, differ_row}
use Rattle.machine.specs.WellFormed.{all_from, all_at_most, pairs_ok, entry_ok, head_ok, well_formed}
use Rattle.machine.specs.Reads.{Query, entry_numbers, state_numbers, node_numbers, read}
use Rattle.machine.specs.Calls.{Call, append, rollback, start, connect, master, sync, work, values_ok, present, plan_of, decide}
use Rattle.machine.specs.Step.{outcome, step}

-- a call with its whole reply, also as the five numbers that the program prints; or what the state then shows. Lists are of
-- the first numbers, in the order of the reads
pub data Line : Type 0 where
  gives : Call → Reply → Line
  tells : Call → (answer phase stage number status : ℕ) → Line
  reads : (path committed applied target : ℕ) → Line
  stands : (committed committedOrdinal applied appliedOrdinal : ℕ) → Line
  shows : (phase stage number : ℕ) → Status → Line
  marks : (number : ℕ) → List ℕ → Line  -- of an entry
  heads : List ℕ → Line  -- Committed's index, change, target, revision, ordinal; Applied's index, target, revision, ordinal
  nets : List ℕ → Line  -- the configuration's state, its term; master, term, conn; target id, running
  nodes : (node : ℕ) → List ℕ → Line  -- id, connected
  asks : Query → (answer value : ℕ) → Line

abbrev pub same_event : Event → Event → Bool
same_event a b =
    (eqb a.phase b.phase && eqb a.stage b.stage) && (eqb a.number.0 b.number.0 && eqb (code_of a.status) (code_of b.status))

abbrev pub same_reply : Reply → Reply → Bool
same_reply a b = eqb a.answer b.answer && same_event a.event b.event

abbrev pub same_numbers : Reply → (answer phase stage number status : ℕ) → Bool
same_numbers r a p g i x =
    eqb r.answer a
    && ((eqb r.event.phase p && eqb r.event.stage g) && (eqb r.event.number.0 i && eqb (code_of r.event.status) x))

-- a list begins with another
unfoldable pub begins : List ℕ → List ℕ → Bool
begins xs [] = true
begins [] (y ∷ ys) = false
begins (x ∷ xs) (y ∷ ys) = eqb x y && begins xs ys

-- the status of a phase (1, 2) and a stage (1, 2)
abbrev pub status_at : ℕ → ℕ → Transaction → Status
status_at p g t =
    cond (eqb p 1) (cond (eqb g 1) t.change.commit t.change.apply) (cond (eqb g 1) t.rollback.commit t.rollback.apply)

unfoldable pub agrees : State → List Line → Bool
agrees s [] = true
agrees s (gives c r ∷ ls) = let o = step s c in same_reply o.reply r && agrees o.next ls
agrees s (tells c a p g i x ∷ ls) = let o = step s c in same_numbers o.reply a p g i x && agrees o.next ls
agrees s (reads p c a v ∷ ls) =
    (eqb (get_or s.committed.values p 0) c && (eqb (get_or s.applied.values p 0) a && eqb (get_or s.net.values p 0) v)) && agrees s ls
agrees s (stands c o a u ∷ ls) =
    ((eqb s.committed.head.revision.0 c && eqb s.committed.head.ordinal.0 o)
    && (eqb s.applied.head.revision.0 a && eqb s.applied.head.ordinal.0 u))
    && agrees s ls
agrees s (shows p g i x ∷ ls) = eqb (code_of (status_at p g (entry_of s.log i))) (code_of x) && agrees s ls
agrees s (marks i xs ∷ ls) = begins (entry_numbers (entry_of s.log i)) xs && agrees s ls
agrees s (heads xs ∷ ls) = begins (drop 1 (state_numbers s)) xs && agrees s ls
agrees s (nets xs ∷ ls) = begins (drop 10 (state_numbers s)) xs && agrees s ls
agrees s (nodes n xs ∷ ls) = begins (node_numbers (node_of s.net.connections n)) xs && agrees s ls
agrees s (asks q a v ∷ ls) = let x = read s q in (eqb x.answer a && eqb x.value v) && agrees s ls

unfoldable pub agree : List (List Line) → Bool
agree [] = true
agree (ls ∷ rest) = agrees (fresh false) ls && agree rest

-- ---- lines, shorter
abbrev pub accepts : Call → Line
accepts c = gives c (refusal 0)

abbrev pub refuses : ℕ → Call → Line
refuses a c = gives c (refusal a)

-- entry n sets path p to v
abbrev pub adds : ℕ → ℕ → ℕ → Line
adds n p v = gives (append (record { path = p; value = v } ∷ [])) (record { answer = 0; event = numbered n })

-- node 1 does a job, accepted or rejected, and the event has this status
abbrev pub does : (phase stage job outcome number : ℕ) → Status → Line
does p g j r i x = gives (work 1 j i r 0) (record { answer = 0; event = event p g (num i) x })

abbrev pub waits : (job number : ℕ) → Line
waits j i = refuses 11 (work 1 j i 0 0)

-- node 1 is master; and its line is open
abbrev pub mastered : List Line
mastered = accepts start ∷ accepts (connect 1) ∷ accepts (master 1) ∷ []

abbrev pub opened : List Line
opened = mastered ++ (accepts (sync 1) ∷ accepts (sync 1) ∷ [])

-- a job done in its two steps
abbrev pub through : (phase stage job number : ℕ) → List Line
through p g j i = does p g j 0 i InProgress ∷ does p g j 0 i Complete ∷ []

abbrev pub commits_change : ℕ → List Line
commits_change i = through 1 1 1 i

abbrev pub applies_change : ℕ → List Line
applies_change i = through 1 2 2 i

abbrev pub commits_rollback : ℕ → List Line
commits_rollback i = through 2 1 3 i

abbrev pub applies_rollback : ℕ → List Line
applies_rollback i = through 2 2 4 i

-- ---- the sessions
p1 : List Line
p1 = refuses 3 (append []) ∷ []

p2 : List Line
p2 = adds 1 31 7 ∷ refuses 3 (append (record { path = 32; value = 7 } ∷ [])) ∷ []

p3 : List Line
p3 = refuses 3 (append (record { path = 3; value = 1 } ∷ record { path = 3; value = 2 } ∷ [])) ∷ []

-- entries 1 to n, then the rest
filled : ℕ → List Line → List Line
filled zero ls = ls
filled (suc n) ls = filled n (adds (suc n) 3 7 ∷ ls)

p4 : List Line
p4 = filled 128 (refuses 4 (append (record { path = 3; value = 7 } ∷ [])) ∷ [])

p5 : List Line
p5 =
    refuses 5 (rollback 1) ∷ adds 1 3 7 ∷ refuses 6 (rollback 1)
    ∷ (mastered ++ (commits_change 1 ++ (accepts (rollback 1) ∷ refuses 6 (rollback 1) ∷ [])))

p6 : List Line
p6 = refuses 8 (connect 1) ∷ []

p7 : List Line
p7 = adds 1 3 7 ∷ refuses 10 (work 1 1 1 0 0) ∷ []

p8 : List Line
p8 = adds 1 3 7 ∷ adds 2 3 9 ∷ (mastered ++ (waits 1 2 ∷ []))

p9 : List Line
p9 =
    adds 1 3 7 ∷ adds 2 3 9
    ∷ (mastered
    ++ (commits_change 1
    ++ (commits_change 2
    ++ (reads 3 9 0 0 ∷ accepts (rollback 1) ∷ accepts (rollback 2) ∷ waits 3 1 ∷ does 2 1 3 0 2 InProgress ∷ waits 3 1 ∷ does 2 1 3 0 2 Complete
    ∷ (reads 3 7 0 0 ∷ (commits_rollback 1 ++ (reads 3 0 0 0 ∷ [])))))))

p10 : List Line
p10 =
    adds 1 3 7 ∷ adds 2 4 9
    ∷ (opened
    ++ (commits_change 1
    ++ (commits_change 2
    ++ (does 1 2 2 0 1 InProgress ∷ does 1 2 2 1 1 Failed ∷ does 1 2 2 0 2 Aborted ∷ stands 2 2 0 2 ∷ accepts (rollback 2) ∷ accepts (rollback 1)
    ∷ (commits_rollback 2
    ++ (commits_rollback 1
    ++ (does 2 2 4 0 2 Canceled
    ∷ (applies_rollback 1
    ++ (shows 2 2 1 Complete ∷ adds 3 3 5
    ∷ (commits_change 3 ++ (applies_change 3 ++ (shows 1 2 3 Complete ∷ reads 3 5 5 5 ∷ stands 3 5 3 5 ∷ []))))))))))))

p11 : List Line
p11 =
    adds 1 3 7
    ∷ (mastered
    ++ (commits_change 1
    ++ (accepts (rollback 1)
    ∷ (commits_rollback 1 ++ (does 1 2 2 0 1 Aborted ∷ does 2 2 4 0 1 Canceled ∷ shows 1 2 1 Aborted ∷ shows 2 2 1 Canceled ∷ stands 0 2 0 2 ∷ [])))))

p12 : List Line
p12 =
    adds 1 3 7 ∷ adds 2 3 9
    ∷ (mastered
    ++ (does 1 1 1 0 1 InProgress ∷ does 1 1 1 1 1 Failed ∷ (commits_change 2 ++ (stands 2 1 0 0 ∷ reads 3 9 0 0 ∷ shows 1 2 1 Canceled ∷ []))))

-- the paper's input to the program, with its output
example : List Line
example =
    adds 1 3 7
    ∷ (mastered
    ++ (does 1 1 1 0 1 InProgress
    ∷ gives (work 1 1 1 0 1) (record { answer = 0; event = event 1 1 (num 1) Complete })
    ∷ waits 2 1 ∷ stands 1 1 0 0 ∷ []))

pub sessions : List (List Line)
sessions = p1 ∷ p2 ∷ p3 ∷ p4 ∷ p5 ∷ p6 ∷ p7 ∷ p8 ∷ p9 ∷ p10 ∷ p11 ∷ p12 ∷ example ∷ []

pub sessions_hold : agree sessions ≡ true
unfolding agree agrees step outcome decide differ differ_row well_formed all_from all_at_most entry_ok head_ok pairs_ok values_ok plan_of rows_of overlay present after afters sessions filled p1 p2 p3 p4 p5 p6 p7 p8 p9 p10 p11 p12 example
sessions_hold = refl
