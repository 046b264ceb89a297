-- Any calls on bytes that `fresh` made, of either kind: they run as the machine's from the fresh state. Assumes nothing.
use Prim.Native.Nat.{ℕ}
use mathlib.Core.Path.{◌≡◌, ap, subst, ◌∙◌}
use mathlib.Core.Bool.{Bool, true}
use mathlib.Core.List.{List, map}
use lib.ListN.{length}
use Rattle.kinds.specs.declared.Reply.{Reply}
use Rattle.fields.proofs.Laws.{Bytes}
use Rattle.machine.specs.State.{State}
use Rattle.machine.specs.Calls.{Call}
use Rattle.machine.specs.Step.{run, state_from}
use Rattle.image.specs.Layout.{image_length}
use Rattle.image.specs.Records.{flag_code}
use Rattle.image.specs.View.{view}
use Rattle.image.specs.Formed.{formed}
use Rattle.image.specs.Fresh.{fresh_image}
use Rattle.image.proofs.Freshened.{shows_fresh, formed_fresh}
use Rattle.controller.specs.Fresh.{Freshens}
use Rattle.controller.proofs.Freshened as freshened
use Rattle.link.specs.Runs.{Calling, replies_from}
use Rattle.link.proofs.Link.{Shows, shows_run, state_run_holds, events_run, event_of}

pub fresh_bytes : (kind : Bool) → Bytes (fresh_image kind)
fresh_bytes = freshened.fresh_bytes

-- the image that is left shows the state of the machine's run, and the events are the run's
pub shows_run_fresh : (kind : Bool) {cs : List Call} {rs : List Reply} {m : List ℕ} → Calling (fresh_image kind) cs rs m
    → (view m ≡ (run kind cs).state) × ((map event_of rs ≡ (run kind cs).events) × (formed m ≡ true))
shows_run_fresh kind {cs} {rs} {m} d =
    let h : Shows (view (fresh_image kind)) cs rs m = shows_run d (fresh_bytes kind) (formed_fresh kind) in (
      h.state ∙ ap (λ (s : State). state_from s cs) (shows_fresh kind) ∙ state_run_holds kind cs,
      (ap (map event_of) (h.replies ∙ ap (λ (s : State). replies_from s cs) (shows_fresh kind)) ∙ events_run kind cs, h.formed),
    )

-- the same of any bytes of the image's length, once `fresh` was called on them, of either kind
pub shows_run_freshened : (kind : Bool) (l k : List ℕ) (u : Reply) {cs : List Call} {rs : List Reply} {m : List ℕ} → length l ≡ image_length → Freshens l (flag_code kind) u k
    → Calling k cs rs m → (view m ≡ (run kind cs).state) × ((map event_of rs ≡ (run kind cs).events) × (formed m ≡ true))
shows_run_freshened kind l k u {cs} {rs} {m} e f d = shows_run_fresh kind (subst (λ (x : List ℕ). Calling x cs rs m) (freshened.fresh_is kind l k u e f) d)
