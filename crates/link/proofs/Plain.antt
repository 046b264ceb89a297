-- Calls that neither append nor fold leave the log's ends, and every byte of the slots of no number kept. Assumes nothing.
use Prim.Native.Nat.{ℕ, ◌<◌}
use mathlib.Core.Path.{◌≡◌, refl, ap, sym, ◌∙◌, subst}
use mathlib.Core.Bool.{Bool, true, false, ◌&&◌, true≢false}
use mathlib.Core.List.{List, [], ◌∷◌}
use lib.ListN.{length, get_or}
use Rattle.kinds.specs.declared.Reply.{Reply}
use Rattle.fields.proofs.Laws.{Bytes}
use Rattle.machine.specs.State.{last}
use Rattle.machine.specs.Stores.{Store}
use Rattle.machine.specs.Calls.{Call, append, rollback, start, stop, connect, disconnect, master, sync, work, fold_to, decide}
use Rattle.image.specs.Layout.{last_at, image_length}
use Rattle.image.specs.Records.{last_of, folded_of}
use Rattle.image.specs.View.{view, write, written}
use Rattle.image.specs.Formed.{formed}
use Rattle.image.proofs.UpTo.{and_left, and_right}
use Rattle.image.proofs.Scanned.{Room, view_last, view_folded, formed_length, formed_room}
use Rattle.image.proofs.Shown.{last_after, folded_after, length_write, ends_write}
use Rattle.controller.specs.Claims.{outcome_of, Claims}
use Rattle.staying.proofs.Sizes.{sizes}
use Rattle.staying.proofs.Rooms.{Stills, none, more, is_plain, decide_still}
use Rattle.link.specs.Runs as runs
use Rattle.link.specs.Runs.{Calling}
use Rattle.link.proofs.Link.{stays_bytes, stays_formed}
use Rattle.staying.proofs.Unused.{Free}
use Rattle.link.proofs.Unused.{is_append, keeps_unused}

-- ---- the ends after a row of such stores
module _ (b n : ℕ) (f : Room b n) where
  written_ends : {es : List Store} → Stills b n es → (l : List ℕ) → length l ≡ image_length → folded_of l ≡ b → last_of l ≡ n
      → (folded_of (written l es) ≡ b) × (last_of (written l es) ≡ n)
  unfolding written
  written_ends none l z p q = (p, q)
  written_ends (more {e = e} h k) l z p q =
      let r : Room (folded_of l) (last_of l) = rw (p, q) f in
      let g = ends_write l z r e (rw (p, q) h.fits) in
      written_ends k (write l e) (length_write l z r e) (g.0 ∙ ap (λ (x : ℕ). folded_after x e) p ∙ h.fold) (g.1 ∙ ap (λ (x : ℕ). last_after x e) q ∙ h.last)

-- ---- what such a call leaves
pub record Leaves (l m : List ℕ) : Type 0 where
  pub folded : folded_of m ≡ folded_of l
  pub last : last_of m ≡ last_of l
  pub free : (j : ℕ) → j < last_at → Free (folded_of l) (last_of l) j → get_or m j 0 ≡ get_or l j 0

pub leaves_then : {l k m : List ℕ} → Leaves l k → Leaves k m → Leaves l m
leaves_then {l} {k} {m} a b =
    record {
      folded = b.folded ∙ a.folded;
      last = b.last ∙ a.last;
      free = λ j q f.
          b.free j q (subst (λ (n : ℕ). Free (folded_of k) n j) (sym a.last) (subst (λ (d : ℕ). Free d (last_of l) j) (sym a.folded) f)) ∙ a.free j q f;
    }

no_append : (c : Call) → is_plain c ≡ true → is_append c ≡ false
no_append (append ps) e = absurd (true≢false (sym e))
no_append (rollback i) e = refl
no_append start e = refl
no_append stop e = refl
no_append (connect n) e = refl
no_append (disconnect n) e = refl
no_append (master n) e = refl
no_append (sync n) e = refl
no_append (work n j i r c) e = refl
no_append (fold_to b) e = refl

pub plain_leaves : (l : List ℕ) (c : Call) (r : Reply) (m : List ℕ) → Claims l c r m → Bytes l → formed l ≡ true → is_plain c ≡ true → Leaves l m
unfolding outcome_of
plain_leaves l c r m p y w e =
    let s : Stills (folded_of l) (last_of l) (decide (view l) c).stores =
    subst (λ (n : ℕ). Stills (folded_of l) n (decide (view l) c).stores) (view_last l (formed_room l w).0)
    (subst (λ (b : ℕ). Stills b (last (view l).log) (decide (view l) c).stores) (view_folded l) (decide_still (view l) (sizes l y w) c e)) in
    let g = written_ends (folded_of l) (last_of l) (formed_room l w) s l (formed_length l w) refl refl in
    let q : m ≡ written l (decide (view l) c).stores = p.1 ∙ rw w refl in
    record {
      folded = ap folded_of q ∙ g.0;
      last = ap last_of q ∙ g.1;
      free = λ j h f. keeps_unused l j h c r m p y (no_append c e) f;
    }

-- ---- any such calls
unfoldable pub all_plain : List Call → Bool
all_plain [] = true
all_plain (c ∷ cs) = is_plain c && all_plain cs

pub plain_run : {l : List ℕ} {cs : List Call} {rs : List Reply} {m : List ℕ} → Calling l cs rs m → Bytes l → formed l ≡ true → all_plain cs ≡ true
    → (Leaves l m) × ((Bytes m) × (formed m ≡ true))
unfolding all_plain
plain_run runs.none y w e = (record { folded = refl; last = refl; free = λ j q f. refl }, (y, w))
plain_run {l} (runs.next {cs = cs} {k = k} d c r m p) y w e =
    let h = plain_run d y w (and_right (is_plain c) (all_plain cs) e) in (
      leaves_then h.0 (plain_leaves k c r m p h.1.0 h.1.1 (and_left (is_plain c) (all_plain cs) e)),
      (stays_bytes k c r m p h.1.0, stays_formed k c r m p h.1.0 h.1.1),
    )
