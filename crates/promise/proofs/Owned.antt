-- Who set a path, on bytes: what history's Owned says of states, said of images, in the controller and as C sees it. Assumes
-- nothing.
use Prim.Native.Nat.{ℕ, ◌<◌}
use mathlib.Core.Path.{◌≡◌, sym, ap, subst, ◌∙◌}
use mathlib.Core.Bool.{Bool, true}
use mathlib.Core.List.{List, map}
use borrow.Author.Tests.{lt-ltb}
use lib.ListN.{length, get_or}
use Rattle.kinds.specs.declared.Reply.{Reply}
use Rattle.kinds.specs.declared.Event.{Event}
use Rattle.machine.specs.State.{State}
use Rattle.machine.specs.Calls.{Call}
use Rattle.machine.specs.Step.{run}
use Rattle.machine.specs.Owner.{owner_of}
use Rattle.machine.specs.Reads.{of_table, of_owner, read}
use Rattle.image.specs.Layout.{image_length}
use Rattle.image.specs.Records.{flag_code}
use Rattle.image.specs.View.{view}
use Rattle.image.specs.Formed.{formed}
use Rattle.controller.specs.declared.reads.Read.{Read}
use Rattle.controller.specs.Fresh.{Freshens}
use Rattle.controller.specs.Reads.{read_of}
use Rattle.controller.specs.Promises.{Shows}
use Rattle.northbound.specs.Packing.{unpacked, unpacked_read}
use Rattle.northbound.specs.Exports as north
use Rattle.link.specs.Runs.{Calling}
use Rattle.link.proofs.Link.{event_of}
use Rattle.link.proofs.Fresh.{shows_run_freshened}
use Rattle.history.specs.Owners.{Owns, OwnsNewest, OwnersGive, given_by}
use Rattle.history.proofs.Owned.{owners_listed, owners_newest, owners_give}
use Rattle.promise.specs.Demands.{Serving, found, event_in}
use Rattle.promise.specs.Owners.{Owned}
use Rattle.promise.proofs.Promise.{calling, events, value}

-- the owner as it is read
owner : (m : List ℕ) (p : ℕ) → formed m ≡ true → p < 32 → read_of m (of_owner p) ≡ found (owner_of (view m) p)
unfolding read_of read
owner m p f i = rw (f, lt-ltb p 32 i)

-- ---- an image that was reached
module _ (kind : Bool) (cs : List Call) (es : List Event) (m : List ℕ) (h : view m ≡ (run kind cs).state) (g : (run kind cs).events ≡ es) (f : formed m ≡ true) where
  pub reached_owner : (p : ℕ) (r : Read) → p < 32 → Shows m (of_owner p) r → Owned es m p r
  reached_owner p r i e =
      let a : r ≡ found (owner_of (view m) p) = e ∙ owner m p f i in
      let newest : OwnsNewest (view m) es = subst (λ (s : State). OwnsNewest s es) (sym h) (subst (OwnsNewest (run kind cs).state) g (owners_newest kind cs)) in
      let listed : Owns (view m) = subst Owns (sym h) (owners_listed kind cs) in
      let gives : OwnersGive (view m) = subst OwnersGive (sym h) (owners_give kind cs) in
      record {
        newest = a ∙ ap found (newest p i);
        listed = a ∙ ap found (listed p i);
        gives = λ v s.
            s ∙ value m 1 p f (lt-ltb p 32 i) ∙ ap found (gives p i)
            ∙ ap (λ (k : ℕ). found (given_by (view m).log k p)) (sym (ap (λ (x : Read). x.value) a));
      }

-- any calls on bytes that `fresh` was called on, and then the owner
pub owner_listed :
    (kind : Bool) (l k : List ℕ) (u : Reply) → length l ≡ image_length → Freshens l (flag_code kind) u k → {cs : List Call} {rs : List Reply} {m : List ℕ} → Calling k cs rs m →
    (p : ℕ) (r : Read) → p < 32 → Shows m (of_owner p) r → Owned (map event_of rs) m p r
owner_listed kind l k u z f {cs = cs} {rs = rs} {m = m} d =
    let h = shows_run_freshened kind l k u z f d in
    reached_owner kind cs (map event_of rs) m h.0 (sym h.1.0) h.1.1

-- ---- as C sees it
-- a packed answer reads back as the controller's
pub owner_in_c : (l : List ℕ) (p x : ℕ) → north.Shows l (of_owner p) x → Shows l (of_owner p) (unpacked_read x)
owner_in_c l p x e = e.1

pub owner_listed_c :
    (kind : Bool) (l k : List ℕ) (u : ℕ) → length l ≡ image_length → north.Freshens l (flag_code kind) u k → {cs : List Call} {xs m : List ℕ} → Serving k cs xs m →
    (p x : ℕ) → p < 32 → north.Shows m (of_owner p) x → Owned (map event_in xs) m p (unpacked_read x)
owner_listed_c kind l k u z f {xs = xs} {m = m} d p x i e =
    subst (λ (es : List Event). Owned es m p (unpacked_read x)) (events xs)
    (owner_listed kind l k (unpacked u) z (f.0.1, f.1) (calling d) p (unpacked_read x) i (owner_in_c m p x e))
