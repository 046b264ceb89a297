-- Order 6: the stores of an entry of a list, made at once, have room. Assumes nothing.
use Prim.Native.Nat.{ℕ, suc, ◌+◌, ◌≤◌, ◌<◌}
use mathlib.Core.Path.{◌≡◌, refl, subst}
use mathlib.Core.Bool.{true}
use mathlib.Core.List.{List}
use native.Mathlib.Omega.{arith}
use Rattle.kinds.specs.Numbers.{num}
use Rattle.rules.specs.declared.Lay.TheVariants.{Values, Kept}
use Rattle.machine.specs.State.{State, last}
use Rattle.machine.specs.Stores.{Store, entry, change, committed_head}
use Rattle.machine.specs.Calls.{Pair, valid_change, appended}
use Rattle.machine.specs.Entered.{changed_entry, changed_head, change_stores, newest_in, undone_entry, undone_head, undo_stores}
use Rattle.fields.proofs.Laws.{Bytes}
use Rattle.image.specs.Records.{last_of, folded_of}
use Rattle.image.specs.View.{view}
use Rattle.image.specs.Formed.{formed}
use Rattle.image.proofs.Scanned.{view_last, view_folded, formed_room}
use Rattle.image.proofs.Sized.{SizedEntry, SizedHead}
use Rattle.image.proofs.Shown.{FitsAll}
use Rattle.staying.proofs.Sizes.{Sizes, sizes}
use Rattle.staying.proofs.Rooms.{more, stills_fit, laid_owned_still, next_small, present_small, appended_sized}

module _ (s : State) (f : Sizes s) where
  module _ (ps : List Pair) (v : valid_change ps ≡ true) where
    changed_sized : SizedEntry (changed_entry s ps)
    changed_sized =
        let a = appended_sized ps v in
        record {
          phase = omega arith;
          count = a.count;
          index = f.committed.revision;
          change_ordinal = next_small s.committed.head.ordinal f.committed.ordinal;
          rollback_ordinal = omega arith;
          paths = a.paths;
          values = a.values;
          kept = present_small s.committed.values (appended ps) f.committed_values;
          owners = present_small s.committed.owners (appended ps) f.owners;
        }

    change_fits : s.log.folded.0 ≡ 0 → last s.log < 128 → FitsAll s.log.folded.0 (last s.log) (change_stores s ps)
    change_fits b n =
        let i : suc (last s.log) < 65536 = omega arith in
        let h : SizedHead (changed_head s) = record { index = i; target = i; revision = i; ordinal = next_small s.committed.head.ordinal f.committed.ordinal } in (
          (changed_sized, (omega arith, omega arith)),
          stills_fit s.log.folded.0 (last s.log + 1)
              (more {e = change (num (suc (last s.log)))} (record { fits = i; fold = refl; last = refl })
              (more {e = committed_head (changed_head s)} (record { fits = h; fold = refl; last = refl })
              (laid_owned_still s.log.folded.0 (last s.log + 1) Values (appended ps) (suc (last s.log)) i (appended_sized ps v)))),
        )

  module _ (a : s.log.folded.0 < s.committed.head.revision.0) (b : s.committed.head.revision.0 ≤ last s.log) where
    newest_sized : SizedEntry (newest_in s)
    newest_sized = f.entries s.committed.head.revision.0 a b

    undone_sized : SizedEntry (undone_entry s)
    undone_sized =
        let t = newest_sized in
        record {
          phase = omega arith;
          count = t.count;
          index = t.index;
          change_ordinal = t.change_ordinal;
          rollback_ordinal = next_small s.committed.head.ordinal f.committed.ordinal;
          paths = t.paths;
          values = t.values;
          kept = t.kept;
          owners = t.owners;
        }

    undo_fits : FitsAll s.log.folded.0 (last s.log) (undo_stores s)
    undo_fits =
        let t = newest_sized in
        let h : SizedHead (undone_head s)
        = record { index = f.committed.revision; target = t.index; revision = t.index; ordinal = next_small s.committed.head.ordinal f.committed.ordinal } in
        stills_fit s.log.folded.0 (last s.log)
        (more {e = entry s.committed.head.revision.0 (undone_entry s)} (record { fits = (undone_sized, (a, b)); fold = refl; last = refl })
        (more {e = committed_head (undone_head s)} (record { fits = h; fold = refl; last = refl })
        (laid_owned_still s.log.folded.0 (last s.log) Kept (newest_in s) s.committed.head.revision.0 f.committed.revision t)))

-- ---- of an image
module _ (l : List ℕ) (y : Bytes l) (w : formed l ≡ true) where
  in_image : (es : List Store) → FitsAll (view l).log.folded.0 (last (view l).log) es → FitsAll (folded_of l) (last_of l) es
  in_image es h =
      subst (λ (n : ℕ). FitsAll (folded_of l) n es) (view_last l (formed_room l w).0) (subst (λ (b : ℕ). FitsAll b (last (view l).log) es) (view_folded l) h)

  pub change_room : (ps : List Pair) → valid_change ps ≡ true → (view l).log.folded.0 ≡ 0 → last (view l).log < 128
      → FitsAll (folded_of l) (last_of l) (change_stores (view l) ps)
  change_room ps v b n = in_image (change_stores (view l) ps) (change_fits (view l) (sizes l y w) ps v b n)

  pub undo_room : (view l).log.folded.0 < (view l).committed.head.revision.0 → (view l).committed.head.revision.0 ≤ last (view l).log
      → FitsAll (folded_of l) (last_of l) (undo_stores (view l))
  undo_room a b = in_image (undo_stores (view l)) (undo_fits (view l) (sizes l y w) a b)
