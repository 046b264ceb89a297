-- A night on the bytes is the calls that it makes, so what is promised of any calls holds through it; a refused one leaves every
-- byte; and the event of a job has room in its 16 bytes (order 2). Assumes nothing.
use Prim.Native.Nat.{ℕ, ◌≤◌}
use native.Mathlib.Omega.{arith}
use mathlib.Core.Path.{◌≡◌, refl, ap, sym, ◌∙◌, subst}
use mathlib.Core.Bool.{Bool, true, false, ◌&&◌, cond}
use mathlib.Core.List.{List, [], ◌∷◌, ◌++◌}
use borrow.Author.Tests.{leb-true}
use lib.Dec.{eqb, leb}
use lib.ListN.{length}
use Rattle.kinds.specs.declared.Reply.{Reply}
use Rattle.kinds.specs.declared.Event.{Event}
use Rattle.kinds.specs.declared.Status.{Status}
use Rattle.kinds.specs.declared.Status.TheVariants.{InProgress, Complete, Aborted, Canceled, Failed}
use Rattle.kinds.specs.Numbers.{num}
use Rattle.kinds.specs.Events.{no_event, event}
use Rattle.rules.specs.declared.Plan.{Plan}
use Rattle.fields.proofs.Laws.{Bytes}
use Rattle.fields.proofs.Runs.{Fit}
use Rattle.machine.specs.State.{State, entry_of, last, in_log, is_kept, is_master, line_open_for}
use Rattle.machine.specs.WellFormed.{all_entries, entry_ok, heads_ok, sizes_ok, log_ok, well_formed}
use Rattle.machine.specs.Settled.{settled}
use Rattle.machine.specs.Rest.{rest_of}
use Rattle.rules.specs.Plans.{is_push}
use Rattle.machine.specs.Calls.{Call, work, unless, present_of, job1, job2, job3, job4, plan_of, planned, work_ok, decide}
use Rattle.machine.specs.Step.{outcome, step, state_from, events_from}
use Rattle.machine.specs.Night as machine
use Rattle.machine.specs.Night.{night_not}
use Rattle.machine.proofs.Cases.{and_right, commit_change_holds, commit_rollback_holds, apply_change_holds, apply_rollback_holds}
use Rattle.machine.proofs.Turns.{night_made, night_refused}
use Rattle.image.specs.View.{view}
use Rattle.image.specs.Formed.{formed}
use Rattle.image.proofs.Packed.{code_low}
use Rattle.controller.specs.Claims.{outcome_of}
use Rattle.controller.specs.declared.nights.Night.{Night}
use Rattle.controller.specs.Nights.{lent_from, fours, event_numbers, room_after, given, night_in, Nights}
use Rattle.link.specs.Runs.{Calling, none, next}
use Rattle.link.proofs.Link.{shows_run}

-- ---- calls, and further calls
pub calling_on : {l k m : List ℕ} {cs ds : List Call} {rs qs : List Reply} → Calling l cs rs k → Calling k ds qs m → Calling l (ds ++ cs) (qs ++ rs) m
calling_on p none = p
calling_on p (next d c r m q) = next (calling_on p d) c r m q

-- ---- the image after calls is what they leave
unfoldable pub replies_in : List ℕ → List Call → List Reply
replies_in l [] = []
replies_in l (c ∷ cs) = (outcome_of (lent_from l cs) c).reply ∷ replies_in l cs

pub lent_calling : (l : List ℕ) (cs : List Call) → Calling l cs (replies_in l cs) (lent_from l cs)
unfolding lent_from replies_in
lent_calling l [] = none
lent_calling l (c ∷ cs) = next (lent_calling l cs) c _ _ (refl, refl)

pub in_formed : (l : List ℕ) (n b : ℕ) (os : List ℕ) → formed l ≡ true → night_in l n b os ≡ machine.night (view l) n b os
unfolding night_in
in_formed l n b os w = rw w

no_calls : (l : List ℕ) (n b : ℕ) (os : List ℕ) → ((night_in l n b os).answer ≡ 0 → ⊥) → ((night_in l n b os).calls ≡ []) × ((night_in l n b os).events ≡ [])
unfolding night_in events_from
no_calls l n b os = go (formed l)
  where
    go : (x : Bool) → (let w = night_not (view l) 1 x (machine.night (view l) n b os) in (w.answer ≡ 0 → ⊥) → (w.calls ≡ []) × (w.events ≡ []))
    go true f = let q = night_refused (view l) n b os f in (q, (night_made (view l) n b os).events ∙ ap (events_from (view l)) q)
    go false f = (refl, refl)

-- ---- the event of a job has room in its 16 bytes
abbrev pub HasRoom : Event → Type 0
HasRoom e = Fit fours (event_numbers e)

no_event_holds : HasRoom no_event
no_event_holds = (omega arith, (omega arith, (omega arith, (omega arith, tt))))

either : (b : Bool) (e : Event) → HasRoom e → HasRoom (cond b no_event e)
either true e h = no_event_holds
either false e h = h

module _ (i : ℕ) (low : i ≤ 65535) where
  some_event : (p g : ℕ) (s : Status) → p ≤ 2 → g ≤ 2 → HasRoom (event p g (num i) s)
  some_event p g s x y = (omega arith, (omega arith, (omega arith, (omega (arith, code_low s), tt))))

  abbrev Fits : Plan → Type 0
  Fits p = HasRoom p.event

  plan_room : (s : State) (n j : ℕ) (y : Bool) → Fits (plan_of s n j i y)
  unfolding plan_of
  plan_room s n j y = go (eqb j 1) (eqb j 2) (eqb j 3)
    where
      change : (s : Status) → HasRoom (event 1 1 (num i) s)
      change s = some_event 1 1 s (omega arith) (omega arith)

      apply : (s : Status) → HasRoom (event 1 2 (num i) s)
      apply s = some_event 1 2 s (omega arith) (omega arith)

      back : (s : Status) → HasRoom (event 2 1 (num i) s)
      back s = some_event 2 1 s (omega arith) (omega arith)

      return : (s : Status) → HasRoom (event 2 2 (num i) s)
      return s = some_event 2 2 s (omega arith) (omega arith)

      go : (a b c : Bool) → Fits (cond a (job1 s i y) (cond b (job2 s n i y) (cond c (job3 s i) (job4 s n i y))))
      go true b c =
          commit_change_holds (entry_of s.log i) s.committed.head i Fits s.change (rest_of s) (present_of s (entry_of s.log i)) y
          (record {
            wait = no_event_holds;
            full = λ a b c. no_event_holds;
            begin = λ a b c. no_event_holds;
            aim = λ a b c. change InProgress;
            land = λ a b c d e. change Complete;
            reject = λ a b. change Failed;
            finish = λ a b. no_event_holds;
            close = λ a b. no_event_holds;
          })
      go false true c =
          apply_change_holds (entry_of s.log i) s.applied.head i Fits (settled s) (line_open_for s.net n) y
          (record {
            wait = no_event_holds;
            no_line = no_event_holds;
            begin = λ a b c. no_event_holds;
            aim = λ a b c d. apply InProgress;
            abort = λ a b c d. apply Aborted;
            close_aborted = λ a b. no_event_holds;
            close_failed = λ a b. no_event_holds;
            finish = λ a b c. no_event_holds;
            fail = λ a b. apply Failed;
            push = λ a b c. apply Complete;
          })
      go false false true =
          commit_rollback_holds (entry_of s.log i) s.committed.head i Fits (rest_of s)
          (record {
            wait = no_event_holds;
            full = λ a b c. no_event_holds;
            begin = λ a b c. no_event_holds;
            aim = λ a b c. back InProgress;
            land = λ a b c d e. back Complete;
            finish = λ a b c. no_event_holds;
          })
      go false false false =
          apply_rollback_holds (entry_of s.log i) s.applied.head i Fits (settled s) (line_open_for s.net n) y
          (record {
            wait = no_event_holds;
            no_line = no_event_holds;
            rejected = no_event_holds;
            begin = λ a b c d. no_event_holds;
            aim = λ a b c d. return InProgress;
            cancel = λ a b c d. return Canceled;
            close = λ a b. no_event_holds;
            finish = λ a b c. no_event_holds;
            push = λ a b c. return Complete;
          })

pub job_room : (s : State) (n j i r c : ℕ) → HasRoom (step s (work n j i r c)).reply.event
unfolding step outcome decide well_formed
job_room s n j i r c =
    go (log_ok s.log) refl (heads_ok s (last s.log) && (all_entries entry_ok s.log && sizes_ok s)) (work_ok n j r c) (in_log s i) refl (is_kept s i) (is_master s.net n)
  where
    go : (x : Bool) → log_ok s.log ≡ x → (w v l : Bool) → in_log s i ≡ l → (z m : Bool)
        → HasRoom (unless 1 (x && w) (unless 2 v (unless 5 l (unless 18 z (unless 10 m (planned j (plan_of s n j i (eqb r 0)) i c)))))).reply.event
    go false e w v l g z m = no_event_holds
    go true e false v l g z m = no_event_holds
    go true e true false l g z m = no_event_holds
    go true e true true false g z m = no_event_holds
    go true e true true true g false m = no_event_holds
    go true e true true true g true false = no_event_holds
    go true e true true true g true true =
        let h : i ≤ last s.log = leb-true i _ (and_right (leb 1 i) _ g) in
        let k : last s.log ≤ 65535 = leb-true _ 65535 (and_right (leb (length s.log.entries) 128) _ e) in
        either (is_push (plan_of s n j i (eqb r 0)).order && eqb c 1) (plan_of s n j i (eqb r 0)).event (plan_room i (omega arith) s n j (eqb r 0))

module _ (l : List ℕ) (n b : ℕ) (os room : List ℕ) (r : Night) (m x : List ℕ) (p : Nights l n b os room r m x) where
  abbrev calls : List Call
  calls = (night_in l n b os).calls

  pub night_calling : Calling l calls (replies_in l calls) m
  night_calling = subst (Calling l calls (replies_in l calls)) (sym p.1) (lent_calling l calls)

  -- of a well-formed image it is the machine's night, and the image that is left shows the machine's next state
  pub night_shows : Bytes l → formed l ≡ true → (r ≡ given (machine.night (view l) n b os) room) × (view m ≡ (machine.night (view l) n b os).next) × (formed m ≡ true)
  night_shows y w =
      let z : night_in l n b os ≡ machine.night (view l) n b os = in_formed l n b os w in
      let h = shows_run night_calling y w in (
        p.0 ∙ ap (λ (u : machine.Night). given u room) z,
        h.state ∙ ap (λ (u : machine.Night). state_from (view l) u.calls) z ∙ sym (night_made (view l) n b os).next,
        h.formed,
      )

  -- a refused one leaves the image and the room
  pub night_leaves : (r.answer ≡ 0 → ⊥) → (m ≡ l) × (x ≡ room)
  unfolding lent_from room_after
  night_leaves f =
      let q = no_calls l n b os (λ z. f (ap (λ (u : Night). u.answer) p.0 ∙ z)) in
      (p.1 ∙ ap (lent_from l) q.0, p.2 ∙ ap (room_after room) q.1)
