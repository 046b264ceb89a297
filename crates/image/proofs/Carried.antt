-- What the settled scan reads is what the machine asks of the entries that the image shows. Assumes nothing.
use Prim.Native.Nat.{ℕ, ◌≤◌}
use mathlib.Core.Path.{◌≡◌, ap, ap₂, sym, ◌∙◌}
use mathlib.Core.Bool.{Bool, true, false}
use mathlib.Core.List.{List}
use native.Mathlib.Nat.{add_assoc}
use native.Mathlib.Omega.{arith}
use lib.Dec.{eqb}
use lib.ListN.{length}
use Rattle.kinds.specs.declared.Ordinal.{Ordinal}
use Rattle.kinds.specs.Numbers.{ord}
use Rattle.kinds.specs.Statuses.{done}
use Rattle.fields.specs.Field.{field, fields_at}
use Rattle.machine.specs.WellFormed.{all_entries}
use Rattle.machine.specs.Settled.{entry_settled}
use Rattle.image.specs.Packed.{apply_in}
use Rattle.image.specs.Layout.{image_length}
use Rattle.image.specs.Records.{entry_at, last_of, folded_of}
use Rattle.image.specs.View.{view}
use Rattle.image.specs.Formed.{all_kept, formed}
use Rattle.image.specs.Settled.{side_settled_at, entry_settled_at}
use Rattle.image.proofs.UpTo.{kept_same}
use Rattle.image.proofs.Scanned.{view_all, formed_room, formed_size}

settled_at : (l : List ℕ) (o k : ℕ) → entry_settled_at l o k ≡ entry_settled o k (entry_at l k)
unfolding entry_settled_at entry_at fields_at
settled_at l o k = simp add_assoc

-- ---- one side, as the code reads it: its ordinal g as x, b whether that is o, and whether it is Done
module _ (l : List ℕ) (o at g : ℕ) (x : Ordinal) (b : Bool) where
  carries : g ≡ field l at 4 → x ≡ ord g → b ≡ eqb x.0 o → eqb (field l at 4) o ≡ b
  carries p q r = sym (r ∙ ap (λ (y : Ordinal). eqb y.0 o) q ∙ ap (λ (z : ℕ). eqb z o) p)

pub side_done : (l : List ℕ) (o at g h : ℕ) (x : Ordinal) (b d : Bool) → g ≡ field l at 4 → x ≡ ord g → b ≡ eqb x.0 o → b ≡ true → d ≡ done (apply_in h)
    → d ≡ side_settled_at l o h at
side_done l o at g h x b d p q r t e = let z : eqb (field l at 4) o ≡ true = carries l o at g x b p q r ∙ t in rw (z, ← e)

pub side_other : (l : List ℕ) (o at g h : ℕ) (x : Ordinal) (b : Bool) → g ≡ field l at 4 → x ≡ ord g → b ≡ eqb x.0 o → b ≡ false
    → true ≡ side_settled_at l o h at
side_other l o at g h x b p q r t = let z : eqb (field l at 4) o ≡ false = carries l o at g x b p q r ∙ t in rw z

-- every entry kept, as the code scans them
pub settled_kept : (l : List ℕ) (o b n : ℕ) (r : Bool) → b ≡ folded_of l → n ≡ last_of l → r ≡ all_kept (entry_settled_at l o) b n
    → r ≡ all_entries (entry_settled o) (view l).log
settled_kept l o b n r f m q =
    q ∙ ap₂ (all_kept (entry_settled_at l o)) f m
    ∙ kept_same (entry_settled_at l o) (λ k. entry_settled o k (entry_at l k)) (folded_of l) (last_of l) (λ k x y. settled_at l o k)
    ∙ sym (view_all (entry_settled o) l)

-- what the scan asks of a well-formed image
pub scan_room : (l : List ℕ) (b n : ℕ) → formed l ≡ true → b ≡ folded_of l → n ≡ last_of l → (b ≤ n) × (image_length ≤ length l)
scan_room l b n w p q = (omega (arith, (formed_room l w).0), formed_size l w)
