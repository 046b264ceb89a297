-- A night, on bytes: what machine's Turns and history's Nights say of states, said of images and of the room that is lent, in the
-- controller and as C sees it. Assumes nothing.
use Prim.Native.Nat.{ℕ, ◌*◌, ◌≤◌}
use native.Mathlib.Omega.{arith}
use mathlib.Core.Path.{◌≡◌, refl, sym, ap, ap₂, subst, ◌∙◌}
use mathlib.Core.Bool.{Bool, true, false, cond}
use mathlib.Core.List.{List, [], ◌∷◌, ◌++◌, map}
use borrow.Author.Tests.{eq-eqb}
use lib.ListN.{length}
use Rattle.kinds.specs.declared.Reply.{Reply}
use Rattle.kinds.specs.declared.Event.{Event}
use Rattle.fields.proofs.Laws.{Bytes}
use Rattle.machine.specs.State.{State, is_master, line_open_for}
use Rattle.machine.specs.WellFormed.{well_formed}
use Rattle.machine.specs.Calls.{Call, work}
use Rattle.machine.specs.Step.{step, run, state_from, events_from}
use Rattle.machine.specs.Night as machine
use Rattle.machine.specs.Night.{turn, turns, why_stopped, night_not, through, night_ok, night}
use Rattle.machine.proofs.Turns.{night_made, Woken, woken}
use Rattle.image.specs.Layout.{image_length}
use Rattle.image.specs.View.{view}
use Rattle.image.specs.Formed.{formed}
use Rattle.image.specs.Fresh.{fresh_image}
use Rattle.image.specs.Records.{flag_code}
use Rattle.image.proofs.Freshened.{shows_fresh, formed_fresh}
use Rattle.image.proofs.Scanned.{formed_length, formed_state}
use Rattle.controller.specs.declared.nights.Night.{Night}
use Rattle.controller.specs.Claims.{Claims}
use Rattle.controller.specs.Fresh.{Freshens}
use Rattle.controller.proofs.Freshened.{fresh_is}
use Rattle.controller.specs.Nights.{room_after, fitting, night_in, Nights}
use Rattle.northbound.specs.Packing.{unpacked, unpacked_night}
use Rattle.northbound.specs.Exports as north
use Rattle.link.specs.Runs.{Calling, next, replies_from}
use Rattle.link.specs.Runs as runs
use Rattle.link.proofs.Link.{Shows, shows_next, shows_run, state_run_holds, events_run, event_of}
use Rattle.link.proofs.Fresh.{fresh_bytes}
use Rattle.link.proofs.Nights.{calling_on, replies_in, in_formed, HasRoom, job_room, night_calling, night_leaves, night_shows}
use Rattle.machine.specs.Notes.{notes}
use Rattle.history.specs.Demand3.{Demand3}
use Rattle.history.specs.Finished.{Slept}
use Rattle.history.proofs.Nights as history
use Rattle.history.proofs.Nights.{none_goes, some_goes, none_lineless, some_lineless, stopped_cases, AllGo, turns_low, turns_full, turns_go}
use Rattle.promise.specs.Demands.{Demand3C}
use Rattle.promise.specs.Nights.{answer_to, AnyNight, Shown, tried, SomeJob, NoJob, Stopped, Accepted, NightJobs, Acting, none, call, nightly, ActingC, nothing, further, overnight, AreCalls, Suffices}
use Rattle.promise.proofs.Promise.{in_c, reached_3, reached_3_c}
use Rattle.promise.proofs.EventRoom.{AllRoom, room_length, fits_none, shown}

-- ---- any bytes, any numbers
module _ (l : List ℕ) (n b : ℕ) (os : List ℕ) where
  abbrev ranged : (ok master : Bool) → machine.Night
  ranged v m = night_not (view l) 2 v (night_not (view l) 10 m (through (view l) n b os))

  answer_in : (night_in l n b os).answer ≡ answer_to l n b os
  unfolding night_in night
  answer_in = by (formed l) refl
    where
      go : (v m : Bool) → (ranged v m).answer ≡ cond v (cond m 0 10) 2
      go false m = refl
      go true false = refl
      go true true = refl

      by : (x : Bool) → formed l ≡ x
          → (night_not (view l) 1 x (night_not (view l) 1 (well_formed (view l)) (ranged (night_ok n b os) (is_master (view l).net n)))).answer
          ≡ cond x (cond (night_ok n b os) (cond (is_master (view l).net n) 0 10) 2) 1
      by true e = rw (formed_state l e) (go (night_ok n b os) (is_master (view l).net n))
      by false e = refl

  -- refused, it did nothing
  nothing_in : ((night_in l n b os).answer ≡ 0 → ⊥) → ((night_in l n b os).jobs ≡ 0) × ((night_in l n b os).stopped ≡ 0)
  unfolding night_in night
  nothing_in = go (formed l) (well_formed (view l)) (night_ok n b os) (is_master (view l).net n)
    where
      go : (x w v m : Bool)
          → (let o = night_not (view l) 1 x (night_not (view l) 1 w (ranged v m)) in (o.answer ≡ 0 → ⊥) → (o.jobs ≡ 0) × (o.stopped ≡ 0))
      go false w v m e = (refl, refl)
      go true false v m e = (refl, refl)
      go true true false m e = (refl, refl)
      go true true true false e = (refl, refl)
      go true true true true e = absurd (e refl)

module _ (l : List ℕ) (n b : ℕ) (os x : List ℕ) (r : Night) (m y : List ℕ) (p : Nights l n b os x r m y) (bytes : Bytes l) where
  answered : r.answer ≡ (night_in l n b os).answer
  answered = ap (λ (w : Night). w.answer) p.0

  pub any_night : AnyNight l n b os x r m y
  any_night =
      let leaves : (r.answer ≡ 0 → ⊥) → (m ≡ l) × (y ≡ x) = night_leaves l n b os x r m y p in
      record {
        answer = answered ∙ answer_in l n b os;
        refused = leaves;
        nothing = λ f.
            let q = nothing_in l n b os (λ z. f (answered ∙ z)) in (
              ap (λ (w : Night). w.jobs) p.0 ∙ q.0,
              ap (λ (w : Night). w.stopped) p.0 ∙ q.1,
              ap (λ (w : Night). w.events) p.0 ∙ ap (λ (k : ℕ). fitting k (length x)) q.0 ∙ fits_none (length x),
            );
        room = ap length p.2 ∙ room_length x (night_in l n b os).events;
        length = by (formed l) refl leaves;
      }
    where
      by : (b' : Bool) → formed l ≡ b' → ((r.answer ≡ 0 → ⊥) → (m ≡ l) × (y ≡ x)) → length m ≡ length l
      by true w f = formed_length m (shows_run (night_calling l n b os x r m y p) bytes w).formed ∙ sym (formed_length l w)
      by false w f =
          let e : r.answer ≡ 1 = answered ∙ answer_in l n b os ∙ ap (λ (v : Bool). cond v (cond (night_ok n b os) (cond (is_master (view l).net n) 0 10) 2) 1) w in
          ap length (f (λ z. omega arith)).0

-- ---- the jobs of a night
-- the machine's replies to them are accepted, and their events have room
accepted_from : (s : State) (n : ℕ) (cs : List Call) → AllGo s n cs → Accepted (replies_from s cs)
unfolding AllGo Accepted replies_from
accepted_from s n [] g = tt
accepted_from s n (c ∷ cs) g = (g.0.accepted, accepted_from s n cs g.1)

rooms_from : (s : State) (n : ℕ) (cs : List Call) → AllGo s n cs → AllRoom (events_from s cs)
unfolding AllGo AllRoom events_from
rooms_from s n [] g = tt
rooms_from s n (c ∷ cs) g =
    let h = g.0 in
    (subst (λ (d : Call). HasRoom (step (state_from s cs) d).reply.event) (sym h.is) (job_room (state_from s cs) n h.job h.number h.outcome 0), rooms_from s n cs g.1)

replies_length : (s : State) (cs : List Call) → length (replies_from s cs) ≡ length cs
unfolding replies_from
replies_length s [] = refl
replies_length s (c ∷ cs) = omega (arith, replies_length s cs)

events_length : (s : State) (cs : List Call) → length (events_from s cs) ≡ length cs
unfolding events_from
events_length s [] = refl
events_length s (c ∷ cs) = omega (arith, events_length s cs)

events_from_holds : (s : State) (cs : List Call) → map event_of (replies_from s cs) ≡ events_from s cs
unfolding replies_from events_from
events_from_holds s [] = refl
events_from_holds s (c ∷ cs) = ap (λ (es : List Event). (step (state_from s cs) c).reply.event ∷ es) (events_from_holds s cs)

-- ---- why it stopped
module _ (m : List ℕ) (bytes : Bytes m) (f : formed m ≡ true) (n b : ℕ) (os : List ℕ) (r : Night) where
  replied : (c : Call) (q : Reply) (z : List ℕ) → Claims m c q z → q.answer ≡ (step (view m) c).reply.answer
  replied c q z p = ap (λ (x : Reply). x.answer) (shows_next m c q z p bytes f).0

  no_job : turn (view m) os n ≡ [] → NoJob m n os 0
  no_job t j k q z p a = none_goes (view m) os n t j k (sym (replied (tried m n os j k) q z p) ∙ a)

  some_job : (a j k : ℕ) → (step (view m) (tried m n os j k)).reply.answer ≡ a → SomeJob m n os a
  some_job a j k e = record { job = j; place = k; answer = λ q z p. replied (tried m n os j k) q z p ∙ e }

  stops : r.stopped ≡ why_stopped (view m) os n → ((turn (view m) os n ≡ [] → ⊥) → r.jobs ≡ b) → Stopped m n b os r
  stops w full =
      stopped_cases (view m) os n
      (λ e t x. record {
        known = omega (arith, w, e);
        ended = λ z. (no_job t, λ j k q u p a. none_lineless (view m) os n x j k (sym (replied (tried m n os j k) q u p) ∙ a));
        lineless = λ z. absurd (omega (arith, w, e));
        spent = λ z. absurd (omega (arith, w, e));
      })
      (λ e t x. record {
        known = omega (arith, w, e);
        ended = λ z. absurd (omega (arith, w, e));
        lineless = λ z. (no_job t, some_lineless (view m) os n x (some_job 12));
        spent = λ z. absurd (omega (arith, w, e));
      })
      (λ e t. record {
        known = omega (arith, w, e);
        ended = λ z. absurd (omega (arith, w, e));
        lineless = λ z. absurd (omega (arith, w, e));
        spent = λ z. (full t, some_goes (view m) os n t (some_job 0));
      })

-- ---- accepted, of a well-formed image
module _ (l : List ℕ) (n b : ℕ) (os x : List ℕ) (r : Night) (m y : List ℕ) (p : Nights l n b os x r m y) (bytes : Bytes l) (f : formed l ≡ true) (a : r.answer ≡ 0) where
  abbrev s : State
  s = view l

  abbrev made : List Call
  made = turns s os n b

  is_night : night_in l n b os ≡ night s n b os
  is_night = in_formed l n b os f

  awake : Woken s n b os
  awake = woken s n b os (sym (ap (λ (w : machine.Night). w.answer) is_night) ∙ sym (ap (λ (w : Night). w.answer) p.0) ∙ a)

  its_calls : (night_in l n b os).calls ≡ made
  its_calls = ap (λ (w : machine.Night). w.calls) is_night ∙ awake.calls

  its_events : (night_in l n b os).events ≡ events_from s made
  its_events = ap (λ (w : machine.Night). w.events) is_night ∙ (night_made s n b os).events ∙ ap (events_from s) awake.calls

  its_jobs : r.jobs ≡ length made
  its_jobs = ap (λ (w : Night). w.jobs) p.0 ∙ ap (λ (w : machine.Night). w.jobs) is_night ∙ (night_made s n b os).jobs ∙ ap length awake.calls

  calling : Calling l made (replies_in l made) m
  calling = subst (λ (cs : List Call). Calling l cs (replies_in l cs) m) its_calls (night_calling l n b os x r m y p)

  left : Shows s made (replies_in l made) m
  left = shows_run calling bytes f

  replied_events : events_from s made ≡ map event_of (replies_in l made)
  replied_events = sym (events_from_holds s made) ∙ ap (map event_of) (sym left.replies)

  its_room : Shown x (map event_of (replies_in l made)) r.events y
  its_room =
      let es = events_from s made in
      let c : fitting (length es) (length x) ≡ r.events
      = ap (λ (k : ℕ). fitting k (length x)) (events_length s made ∙ sym its_jobs ∙ ap (λ (w : Night). w.jobs) p.0) ∙ sym (ap (λ (w : Night). w.events) p.0) in
      subst (λ (z : List ℕ). Shown x (map event_of (replies_in l made)) r.events z) (sym (p.2 ∙ ap (room_after x) its_events))
      (subst (λ (k : ℕ). Shown x (map event_of (replies_in l made)) k (room_after x es)) c
      (subst (λ (fs : List Event). Shown x fs (fitting (length es) (length x)) (room_after x es)) replied_events (shown x es (rooms_from s n made (turns_go s os n b)))))

  its_end : Stopped m n b os r
  its_end =
      stops m left.bytes left.formed n b os r
      (ap (λ (w : Night). w.stopped) p.0 ∙ ap (λ (w : machine.Night). w.stopped) is_night ∙ awake.stopped ∙ ap (λ (v : State). why_stopped v os n) (sym left.state))
      (λ t. its_jobs ∙ turns_full s os n b (λ e. t (ap (λ (v : State). turn v os n) left.state ∙ e)))

  pub night_jobs : NightJobs l n b os x r m y
  night_jobs =
      record {
        replies = replies_in l made;
        made = calling;
        accepted = subst Accepted (sym left.replies) (accepted_from s n made (turns_go s os n b));
        jobs = its_jobs ∙ sym (replies_length s made) ∙ ap length (sym left.replies);
        within = omega (arith, its_jobs, turns_low s os n b);
        room = its_room;
        counted = (its_calls, its_events ∙ replied_events);
        stopped = its_end;
      }

-- ---- calls and nights are calls
map_on : (rs qs : List Reply) → map event_of (rs ++ qs) ≡ map event_of rs ++ map event_of qs
map_on [] qs = refl
map_on (r ∷ rs) qs = ap (λ (es : List Event). r.event ∷ es) (map_on rs qs)

night_events : (l : List ℕ) (n b : ℕ) (os x : List ℕ) (r : Night) (m y : List ℕ) → Nights l n b os x r m y → Bytes l → formed l ≡ true
    → map event_of (replies_in l (night_in l n b os).calls) ≡ (night_in l n b os).events
night_events l n b os x r m y p bytes f =
    let cs = (night_in l n b os).calls in
    let z : night_in l n b os ≡ night (view l) n b os = in_formed l n b os f in
    ap (map event_of) (shows_run (night_calling l n b os x r m y p) bytes f).replies ∙ events_from_holds (view l) cs
    ∙ ap (λ (w : machine.Night). events_from (view l) w.calls) z ∙ sym (night_made (view l) n b os).events ∙ sym (ap (λ (w : machine.Night). w.events) z)

pub acting_calls : {l : List ℕ} {cs : List Call} {es : List Event} {m : List ℕ} → Acting l cs es m → Bytes l → formed l ≡ true → AreCalls l cs es m
acting_calls none bytes f = record { replies = []; calls = runs.none; events = refl }
acting_calls {l} (call {cs = cs} {es = es} {k = k} d c r m p) bytes f =
    let a : AreCalls l cs es k = acting_calls d bytes f in
    record { replies = r ∷ a.replies; calls = next a.calls c r m p; events = ap (λ (fs : List Event). r.event ∷ fs) a.events }
acting_calls {l} (nightly {cs = cs} {es = es} {k = k} d n b os x r m y p) bytes f =
    let a : AreCalls l cs es k = acting_calls d bytes f in
    let h : Shows (view l) cs a.replies k = shows_run a.calls bytes f in
    let qs = replies_in k (night_in k n b os).calls in
    record {
      replies = qs ++ a.replies;
      calls = calling_on a.calls (night_calling k n b os x r m y p);
      events = map_on qs a.replies ∙ ap₂ (λ (fs gs : List Event). fs ++ gs) (night_events k n b os x r m y p h.bytes h.formed) a.events;
    }

-- ---- from bytes that `fresh` was called on
pub record Reached (kind : Bool) (cs : List Call) (es : List Event) (m : List ℕ) : Type 0 where
  pub state : view m ≡ (run kind cs).state
  pub events : (run kind cs).events ≡ es
  pub formed : formed m ≡ true
  pub bytes : Bytes m

module _ (kind : Bool) (l k : List ℕ) (u : Reply) (z : length l ≡ image_length) (f : Freshens l (flag_code kind) u k) {cs : List Call} {es : List Event} {m : List ℕ} (d : Acting k cs es m) where
  pub acted : Reached kind cs es m
  acted =
      let e : k ≡ fresh_image kind = fresh_is kind l k u z f in
      let a : AreCalls (fresh_image kind) cs es m = acting_calls (subst (λ (x : List ℕ). Acting x cs es m) e d) (fresh_bytes kind) (formed_fresh kind) in
      let h : Shows (view (fresh_image kind)) cs a.replies m = shows_run a.calls (fresh_bytes kind) (formed_fresh kind) in
      record {
        state = h.state ∙ ap (λ (s : State). state_from s cs) (shows_fresh kind) ∙ state_run_holds kind cs;
        events = sym (events_run kind cs) ∙ ap (λ (s : State). map event_of (replies_from s cs)) (sym (shows_fresh kind)) ∙ ap (map event_of) (sym h.replies) ∙ a.events;
        formed = h.formed;
        bytes = h.bytes;
      }

  -- demand 3 counts the events of nights
  pub acting_demand_3 : Demand3 (view m) es (notes kind cs)
  acting_demand_3 = reached_3 kind cs es m acted.state acted.events acted.formed

  -- 6 jobs for each transaction kept are enough
  module _ (n b : ℕ) (os x : List ℕ) (r : Night) (m' y : List ℕ) (p : Nights m n b os x r m' y) where
    pub six_enough : Suffices 6 m n b r m'
    six_enough a line low =
        let w : machine.Night = night (view m) n b os in
        let h = night_shows m n b os x r m' y p acted.bytes acted.formed in
        let o : Bytes m' = (shows_run (night_calling m n b os x r m' y p) acted.bytes acted.formed).bytes in
        let t : Slept w = slept (view m) acted.state (sym (ap (λ (v : Night). v.answer) h.0) ∙ a) line low in
        record {
          stopped = ap (λ (v : Night). v.stopped) h.0 ∙ t.stopped;
          none = λ n' j i o' c q v e g.
              t.none n' j i o' c
              (ap (λ (st : State). (step st (work n' j i o' c)).reply.answer) (sym h.1)
              ∙ sym (ap (λ (q' : Reply). q'.answer) (shows_next m' (work n' j i o' c) q v e o h.2).0) ∙ g);
          ended = rw h.1 t.ended;
        }
      where
        slept : (v : State) → v ≡ (run kind cs).state → (night v n b os).answer ≡ 0 → line_open_for v.net n ≡ true → 6 * length v.log.entries ≤ b → Slept (night v n b os)
        slept v e =
            subst (λ (w : State). (night w n b os).answer ≡ 0 → line_open_for w.net n ≡ true → 6 * length w.log.entries ≤ b → Slept (night w n b os)) (sym e)
            (history.night_enough kind cs n b os)

    -- as the order says it
    pub eight_enough : Suffices 8 m n b r m'
    eight_enough a line low = six_enough a line (omega arith)

-- ---- as C sees it
-- a packed answer reads back as the controller's
pub night_in_c : (l : List ℕ) (n b : ℕ) (os x : List ℕ) (p : ℕ) (m y : List ℕ) → north.Nights l n b os x p m y → Nights l n b os x (unpacked_night p) m y
night_in_c l n b os x p m y q = (q.0.1, q.1, q.2)

pub acting_in_c : {l : List ℕ} {cs : List Call} {es : List Event} {m : List ℕ} → ActingC l cs es m → Acting l cs es m
acting_in_c nothing = none
acting_in_c (further {k = k} d c x m p) = call (acting_in_c d) c (unpacked x) m (in_c k c x m p)
acting_in_c (overnight {k = k} d n b os x p m y q) = nightly (acting_in_c d) n b os x (unpacked_night p) m y (night_in_c k n b os x p m y q)

pub acting_calls_c : {l : List ℕ} {cs : List Call} {es : List Event} {m : List ℕ} → ActingC l cs es m → Bytes l → formed l ≡ true → AreCalls l cs es m
acting_calls_c d = acting_calls (acting_in_c d)

module _ (l : List ℕ) (n b : ℕ) (os x : List ℕ) (p : ℕ) (m y : List ℕ) (q : north.Nights l n b os x p m y) (bytes : Bytes l) where
  pub any_night_c : AnyNight l n b os x (unpacked_night p) m y
  any_night_c = any_night l n b os x (unpacked_night p) m y (night_in_c l n b os x p m y q) bytes

  pub night_jobs_c : formed l ≡ true → (unpacked_night p).answer ≡ 0 → NightJobs l n b os x (unpacked_night p) m y
  night_jobs_c = night_jobs l n b os x (unpacked_night p) m y (night_in_c l n b os x p m y q) bytes

module _ (kind : Bool) (l k : List ℕ) (u : ℕ) (z : length l ≡ image_length) (f : north.Freshens l (flag_code kind) u k) {cs : List Call} {es : List Event} {m : List ℕ} (d : ActingC k cs es m) where
  acted_c : Reached kind cs es m
  acted_c = acted kind l k (unpacked u) z (f.0.1, f.1) (acting_in_c d)

  pub acting_demand_3_c : Demand3C kind cs es m
  acting_demand_3_c = reached_3_c kind cs es m acted_c.state acted_c.events acted_c.formed

  module _ (n b : ℕ) (os x : List ℕ) (p : ℕ) (m' y : List ℕ) (q : north.Nights m n b os x p m' y) where
    pub six_enough_c : Suffices 6 m n b (unpacked_night p) m'
    six_enough_c = six_enough kind l k (unpacked u) z (f.0.1, f.1) (acting_in_c d) n b os x (unpacked_night p) m' y (night_in_c m n b os x p m' y q)

    pub eight_enough_c : Suffices 8 m n b (unpacked_night p) m'
    eight_enough_c = eight_enough kind l k (unpacked u) z (f.0.1, f.1) (acting_in_c d) n b os x (unpacked_night p) m' y (night_in_c m n b os x p m' y q)
