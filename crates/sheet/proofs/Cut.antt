-- The bytes that the program keeps of an input make the text of the whole: a 65th log's line is the same whatever it has.
-- Assumes nothing.
use Prim.Native.Nat.{ℕ, zero, suc, ◌+◌, ◌*◌, ◌<◌}
use mathlib.Core.Path.{◌≡◌, refl, ap, ap₂, sym, ◌∙◌}
use mathlib.Core.List.{List, [], ◌∷◌, ◌++◌}
use native.Mathlib.Nat.{zero-add, suc-add}
use native.Mathlib.Omega.{arith}
use borrow.Author.Tests.{lt-leb}
use lib.ListN.{length, take, drop, length-take}
use lib.Seq.{take-take, take-nil}
use Rattle.machine.specs.Sheet.{totals}
use Rattle.image.specs.Layout.{image_length}
use Rattle.lines.specs.Replies.{refused_line, totals_line}
use Rattle.sheet.specs.SheetText.{logs_in, met_in, line_at, lines_from, sheet_text, Cut}
use Rattle.sheet.proofs.Reported.{logs_next}

drop_take : (n m : ℕ) (l : List ℕ) → drop n (take (n + m) l) ≡ take m (drop n l)
drop_take zero m l = ap (λ (k : ℕ). take k l) (zero-add m)
drop_take (suc n) m [] = ap (drop (suc n)) (take-nil (suc n + m)) ∙ sym (take-nil m)
drop_take (suc n) m (x ∷ l) = ap (λ (k : ℕ). drop (suc n) (take k (x ∷ l))) (suc-add n m) ∙ drop_take n m l

some : (n : ℕ) (bs : List ℕ) → 0 < length bs → 0 < length (take (n + 1) bs)
some n bs h = omega (arith, length-take (n + 1) bs)

-- one log, and so many behind it
cut_next :
    (k n : ℕ) (bs : List ℕ) → 0 < length bs →
    logs_in (suc k) (take (image_length * suc n + 1) bs) ≡ take image_length bs ∷ logs_in k (take (image_length * n + 1) (drop image_length bs))
cut_next k n bs h =
    let e : image_length * suc n + 1 ≡ image_length + (image_length * n + 1) = omega arith in
    logs_next k (take (image_length * suc n + 1) bs) (some (image_length * suc n) bs h)
    ∙ ap₂ (λ (x y : List ℕ). x ∷ logs_in k y) (take-take image_length (image_length * suc n + 1) bs (omega arith))
    (ap (λ (i : ℕ). drop image_length (take i bs)) e ∙ drop_take image_length (image_length * n + 1) bs)

-- the logs that are read
cut_logs : (n : ℕ) (bs : List ℕ) → logs_in n (take (image_length * n + 1) bs) ≡ logs_in n bs
unfolding logs_in
cut_logs zero bs = refl
cut_logs (suc n) [] = ap (logs_in (suc n)) (take-nil (image_length * suc n + 1))
cut_logs (suc n) (b ∷ bs) =
    cut_next n n (b ∷ bs) (omega arith) ∙ ap (λ (ls : List (List ℕ)). take image_length (b ∷ bs) ∷ ls) (cut_logs n (drop image_length (b ∷ bs)))
    ∙ sym (logs_next n (b ∷ bs) (omega arith))

-- the lines up to the 65th
over : (k : ℕ) → 64 < k → (l : List ℕ) → line_at k l ≡ refused_line k 2
over k h l = rw (lt-leb k 64 h)

last_line : (k : ℕ) → 64 < k → (bs : List ℕ) → 0 < length bs → lines_from k (logs_in 1 bs) ≡ refused_line k 2 ++ []
unfolding lines_from logs_in
last_line k h bs g =
    ap (lines_from k) (logs_next 0 bs g) ∙ ap (λ (t : List ℕ). t ++ []) (over k h (take image_length bs))

cut_lines : (n k : ℕ) (bs : List ℕ) → k + n ≡ 65 → lines_from k (logs_in (suc n) (take (image_length * n + 1) bs)) ≡ lines_from k (logs_in (suc n) bs)
unfolding lines_from
cut_lines zero k [] e = ap (λ (l : List ℕ). lines_from k (logs_in 1 l)) (take-nil (image_length * 0 + 1))
cut_lines zero k (b ∷ bs) e =
    last_line k (omega arith) (take (image_length * 0 + 1) (b ∷ bs)) (some (image_length * 0) (b ∷ bs) (omega arith))
    ∙ sym (last_line k (omega arith) (b ∷ bs) (omega arith))
cut_lines (suc n) k [] e = ap (λ (l : List ℕ). lines_from k (logs_in (suc (suc n)) l)) (take-nil (image_length * suc n + 1))
cut_lines (suc n) k (b ∷ bs) e =
    ap (lines_from k) (cut_next (suc n) n (b ∷ bs) (omega arith))
    ∙ ap (λ (t : List ℕ). line_at k (take image_length (b ∷ bs)) ++ t) (cut_lines n (k + 1) (drop image_length (b ∷ bs)) (omega arith))
    ∙ sym (ap (lines_from k) (logs_next (suc n) (b ∷ bs) (omega arith)))

pub sheet_cut : (bs : List ℕ) → Cut bs
unfolding sheet_text
sheet_cut bs =
    ap₂ (λ (t : List ℕ) (ls : List (List ℕ)). t ++ totals_line (totals (met_in ls))) (cut_lines 64 1 bs refl) (cut_logs 64 bs)
