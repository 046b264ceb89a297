-- THE LINK: what every public call's contract claims of the image's bytes is what the machine does with the state that
-- they show. A claim names no call: each theorem is of all of them. Assumes nothing.
use Prim.Native.Nat.{ℕ}
use mathlib.Core.Path.{◌≡◌, refl, ap, ap₂, sym, ◌∙◌, subst}
use mathlib.Core.Bool.{Bool, true, false}
use mathlib.Core.List.{List, [], ◌∷◌, map}
use Rattle.kinds.specs.declared.Reply.{Reply}
use Rattle.kinds.specs.declared.Event.{Event}
use Rattle.kinds.specs.Events.{refusal}
use Rattle.fields.proofs.Laws.{Bytes}
use Rattle.machine.specs.State.{State, fresh}
use Rattle.machine.specs.Calls.{Call, Outcome, decide}
use Rattle.machine.specs.Step.{outcome, step, run, state_from}
use Rattle.image.specs.View.{view, written}
use Rattle.image.specs.Formed.{formed}
use Rattle.controller.specs.Claims.{outcome_of, Claims}
use Rattle.link.specs.Runs.{Calling, none, next, replies_from}
use Rattle.staying.proofs.Lent.{bytes_written}
use Rattle.staying.proofs.Stays as stays
use Rattle.staying.proofs.Stays.{steps}
use Rattle.link.proofs.Refused.{refusal_stores_nothing}

-- ---- of a well-formed image, the outcome is what is decided
decided : (l : List ℕ) (c : Call) → formed l ≡ true → outcome_of l c ≡ decide (view l) c
unfolding outcome_of
decided l c w = rw w

-- ---- one call
module _ (l : List ℕ) (c : Call) (r : Reply) (m : List ℕ) (p : Claims l c r m) where
  left : formed l ≡ true → m ≡ written l (decide (view l) c).stores
  left w = p.1 ∙ ap (λ (o : Outcome). written l o.stores) (decided l c w)

  -- the reply is the machine's, and the image that is left shows the machine's next state
  pub shows_next : Bytes l → formed l ≡ true → (r ≡ (step (view l) c).reply) × (view m ≡ (step (view l) c).next)
  unfolding step
  shows_next y w = (p.0 ∙ ap (λ (o : Outcome). o.reply) (decided l c w ∙ sym (steps l c w)), ap view (left w) ∙ stays.shows l c y w)

  -- an image that is not well-formed is refused with 1, and stays as it is
  pub not_formed : formed l ≡ false → (r ≡ refusal 1) × (m ≡ l)
  unfolding outcome_of written
  not_formed w = (p.0 ∙ rw w, p.1 ∙ rw w)

  -- a refused call leaves every byte, whatever the image is
  pub refused_same : (r.answer ≡ 0 → ⊥) → m ≡ l
  unfolding written
  refused_same x = p.1 ∙ ap (written l) (refusal_stores_nothing l c (λ z. x (ap (λ (q : Reply). q.answer) p.0 ∙ z)))

  -- bytes stay bytes
  pub stays_bytes : Bytes l → Bytes m
  stays_bytes y = subst (λ (x : List ℕ). Bytes x) (sym p.1) (bytes_written (outcome_of l c).stores l y)

  -- a well-formed image stays well-formed
  pub stays_formed : Bytes l → formed l ≡ true → formed m ≡ true
  stays_formed y w = ap formed (left w) ∙ stays.stays_formed l c y w

-- ---- any calls, one after another
pub record Shows (s : State) (cs : List Call) (rs : List Reply) (m : List ℕ) : Type 0 where
  pub bytes : Bytes m
  pub formed : formed m ≡ true
  pub state : view m ≡ state_from s cs
  pub replies : rs ≡ replies_from s cs

-- from any well-formed image, the image that is left shows the machine's state, and the replies are the machine's
pub shows_run : {l : List ℕ} {cs : List Call} {rs : List Reply} {m : List ℕ} → Calling l cs rs m → Bytes l → formed l ≡ true → Shows (view l) cs rs m
unfolding state_from replies_from
shows_run none y w = record { bytes = y; formed = w; state = refl; replies = refl }
shows_run {l} (next {cs = cs} {rs = rs} {k = k} d c r m p) y w =
    let h : Shows (view l) cs rs k = shows_run d y w in
    let n = shows_next k c r m p h.bytes h.formed in
    record {
      bytes = stays_bytes k c r m p h.bytes;
      formed = stays_formed k c r m p h.bytes h.formed;
      state = n.1 ∙ ap (λ (s : State). (step s c).next) h.state;
      replies = ap₂ (λ (x : Reply) (xs : List Reply). x ∷ xs) (n.0 ∙ ap (λ (s : State). (step s c).reply) h.state) h.replies;
    }

-- from fresh it is the machine's run, with its events
pub state_run_holds : (m : Bool) (cs : List Call) → state_from (fresh m) cs ≡ (run m cs).state
unfolding state_from run
state_run_holds m [] = refl
state_run_holds m (c ∷ cs) = ap (λ (s : State). (step s c).next) (state_run_holds m cs)

abbrev pub event_of : Reply → Event
event_of r = r.event

pub events_run : (m : Bool) (cs : List Call) → map event_of (replies_from (fresh m) cs) ≡ (run m cs).events
unfolding replies_from run
events_run m [] = refl
events_run m (c ∷ cs) = ap₂ (λ (x : Event) (xs : List Event). x ∷ xs) (ap (λ (s : State). (step s c).reply.event) (state_run_holds m cs)) (events_run m cs)
