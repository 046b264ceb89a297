-- The answers that wait, and a line put behind them. Assumes nothing.
use Prim.Native.Nat.{ℕ, ◌+◌, ◌-◌, ◌≤◌}
use mathlib.Core.Path.{◌≡◌, refl, ap, ap₂, sym, subst, ◌∙◌}
use mathlib.Core.Bool.{Bool}
use mathlib.Core.List.{List, ◌++◌}
use native.Mathlib.Omega.{arith}
use lib.ListN.{length, take, drop}
use lib.Seq.{length-take-le, take-append-add, take-append_seam, drop-append-add, drop-append_seam, drop-drop}
use Rattle.lines.specs.declared.reading.Line.{Line}
use Rattle.lines.specs.Replies.{closing_line, line_room, Written}
use Rattle.lines.proofs.Putting.{part_written}
use Rattle.controller.specs.declared.reads.Heads.{Heads}
use Rattle.controller.specs.Reads.{heads_of}
use Rattle.stepper.specs.declared.Answer.{Answer}
use Rattle.stepper.specs.Answers.{line_for, Answers}
use Rattle.stepper.specs.Ended.{Puts, Ends}
use Rattle.stepper.specs.Closed.{line_of_heads, closing, Closes}

module _ (out : List ℕ) (used : ℕ) (t : List ℕ) where
  -- ---- the text in its place
  spliced : used ≤ length out → length t ≤ 96 → Puts out used t (used + length t) (take used out ++ (t ++ drop (length t) (drop used out)))
  spliced h f =
      let p : List ℕ = take used out in
      let d : List ℕ = drop (length t) (drop used out) in
      let e : length p ≡ used = length-take-le used out h in
      record {
        ends = refl;
        fits = f;
        holds =
            ap (λ (k : ℕ). take (k + length t) (p ++ (t ++ d))) (sym e) ∙ take-append-add p (t ++ d) (length t) ∙ ap (λ (x : List ℕ). p ++ x)
            (take-append_seam t d);
        behind =
            ap (λ (k : ℕ). drop (k + length t) (p ++ (t ++ d))) (sym e) ∙ drop-append-add p (t ++ d) (length t) ∙ drop-append_seam t d
            ∙ drop-drop (length t) used out;
      }

  -- ---- the part lent is as long as a line may be
  puts_in :
      (w size : ℕ) (rest : List ℕ) → w ≡ 96 → used + 96 ≤ length out → Written (take w (drop used out)) t size rest →
      Puts out used t (used + size) (take used out ++ (rest ++ drop w (drop used out)))
  puts_in w size rest e h x =
      let z = part_written line_room out used t w size rest e h x in
      subst (λ (y : List ℕ). Puts out used t (used + size) (take used out ++ y)) (sym z.2)
      (subst (λ (k : ℕ). Puts out used t (used + k) (take used out ++ (t ++ drop (length t) (drop used out)))) (sym z.0) (spliced (omega arith) z.1))

  pub puts_written :
      (size : ℕ) (rest : List ℕ) → used + 96 ≤ length out → Written (take (used + 96 - used) (drop used out)) t size rest →
      Puts out used t (used + size) (take used out ++ (rest ++ drop (used + 96 - used) (drop used out)))
  puts_written size rest h x = let e : used + 96 - used ≡ 96 = omega arith in puts_in (used + 96 - used) size rest e h x

-- the line of an answer that is known
pub written_for : (a b : Answer) (l : List ℕ) (n : ℕ) (m : List ℕ) → a ≡ b → Written l (line_for b) n m → Written l (line_for a) n m
written_for a b l n m e x = subst (λ (y : Answer). Written l (line_for y) n m) (sym e) x

-- ---- a line has ended
pub ended :
    (f : Bool) (l : List ℕ) (line read : Line) (room kept out : List ℕ) (used size : ℕ) (r : Answer) (m rest : List ℕ) → read ≡ line → kept ≡ room →
    Answers f l read kept r m → used + 96 ≤ length out → Written (take (used + 96 - used) (drop used out)) (line_for r) size rest →
    Ends f l line room out used (used + size) m (take used out ++ (rest ++ drop (used + 96 - used) (drop used out)))
ended f l line read room kept out used size r m rest e k a h x =
    record {
      reply = r;
      answers = subst (λ (y : Line). Answers f l y room r m) e (subst (λ (y : List ℕ). Answers f l read y r m) k a);
      puts = puts_written out used (line_for r) size rest h x;
    }

-- ---- the closing line
pub closed :
    (l : List ℕ) (h : Heads) (out : List ℕ) (used size : ℕ) (c o a u : ℕ) (rest : List ℕ) → h ≡ heads_of l → c ≡ h.committed.revision.0 →
    o ≡ h.committed.ordinal.0 → a ≡ h.applied.revision.0 → u ≡ h.applied.ordinal.0 → used + 96 ≤ length out →
    Written (take (used + 96 - used) (drop used out)) (closing_line c o a u) size rest →
    Closes l out used (used + size) (take used out ++ (rest ++ drop (used + 96 - used) (drop used out)))
closed l h out used size c o a u rest e p q r s n x =
    let t : closing_line c o a u ≡ closing l =
    ap₂ (λ (i j : ℕ). closing_line i j a u) p q ∙ ap₂ (λ (i j : ℕ). closing_line h.committed.revision.0 h.committed.ordinal.0 i j) r s ∙ ap
    line_of_heads e in
    puts_written out used (closing l) size rest n
    (subst (λ (y : List ℕ). Written (take (used + 96 - used) (drop used out)) y size rest) t x)
