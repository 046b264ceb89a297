-- What is proved of reading a line. Assumes nothing.
use Prim.Native.Nat.{ℕ, ◌≤◌, ◌<◌}
use mathlib.Core.Path.{◌≡◌, refl, ap, sym, subst, ◌∙◌}
use mathlib.Core.Logic.{◌⊎◌, inl, inr}
use mathlib.Core.List.{List, [], ◌∷◌, foldl}
use mathlib.Core.Bool.{Bool, true, false, cond}
use native.Mathlib.Omega.{arith}
use borrow.Author.Tests.{le-leb, lt-leb, ltb-true, eqb-true, eqb-false}
use lib.Dec.{eqb, ltb}
use lib.ListN.{length, take, replicate}
use Rattle.machine.specs.State.{State}
use Rattle.machine.specs.WellFormed.{pairs_ok}
use Rattle.machine.specs.Calls as machine
use Rattle.machine.specs.Calls.{Pair, valid_change, refused, decide}
use Rattle.machine.specs.Step.{outcome, step}
use Rattle.lines.specs.declared.reading.Call.TheVariants.{Unreadable}
use Rattle.lines.specs.declared.reading.Reader.{Reader}
use Rattle.lines.specs.Forms.{Asked, calls, why, night, imports, owner, freshly}
use Rattle.lines.specs.Grammar.{Item, Says}
use Rattle.lines.specs.Reading.{pushed, fresh, last, last_in, most_of, tag_of, call_of, line_of, finished, ran, said, said_in}
use Rattle.lines.specs.Handed.{Hands, call_for}
use Rattle.lines.proofs.Goes.{AccR}
use Rattle.lines.proofs.Runs.{told, Told, run_on, run_back, ran_reader}
use Rattle.lines.proofs.Rooms.{Room, rm, put, run_puts}
use Rattle.lines.proofs.Standing.{row_of, row_from, like_start_of, tag_is, text_is}
use Rattle.lines.proofs.Complete.{fits_go}
use Rattle.lines.proofs.Sound.{goes_fit}
use Rattle.lines.proofs.Handing.{handed}

-- the reader goes through a line that says something, and tells what that tells
pub goes_through : {l : List ℕ} {x : Asked} (s : Says l x) → Told fresh l s.tells s.of.tag
goes_through {l} s =
    let f = s.of in
    let r = row_of f s.among in
    let g = fits_go s.fits r.place f.tag 0 (tag_is f s.among) r.stands in
    let a : AccR fresh l s.tells f.tag =
    record { place = r.place; above = omega (arith, r.start.is); same = like_start_of r.place r.start; then = g } in
    run_on l fresh s.tells f.tag a

module _ (m : List ℕ) (n : length m ≡ 5140) where
  -- a line that says something is handed on as what it says
  pub complete : {l : List ℕ} {x : Asked} → Says l x → Hands x (said m l) (said_in m l)
  complete {l} {x} s =
      let f = s.of in
      let y = goes_through s in
      let k : Room = foldl put (rm 0 0 m) s.tells in
      let e : rm (last (ran m l).0).used (last (ran m l).0).count (said_in m l) ≡ k =
      run_puts l fresh m ∙ ap (λ (is : List Item). foldl put (rm 0 0 m) is) (sym y.is) in
      let z : Hands x (line_of f.tag (last (ran m l).0).used (said_in m l)) (said_in m l) =
      subst (λ (k : Room). Hands x (line_of f.tag k.used k.room) k.room) (sym e) (handed f s.among s.fits m n) in
      subst (λ (t : ℕ). Hands x (line_of t (last (ran m l).0).used (said_in m l)) (said_in m l)) (sym (ap tag_of (ran_reader l fresh m) ∙ y.tag)) z

-- every line says something, or is read as unreadable
no_tag : (r : Reader) (m : List ℕ) → tag_of r ≡ 0 → (finished r m).call ≡ Unreadable
unfolding call_of
no_tag r m e = ap (λ (t : ℕ). (line_of t (last r).used (last_in r m)).call) e

pub sound : (m l : List ℕ) → ((x : Asked) × Says l x) ⊎ ((said m l).call ≡ Unreadable)
sound m l = by (eqb t 0) refl
  where
    t : ℕ
    t = tag_of (foldl pushed fresh l)

    by : (b : Bool) → eqb t 0 ≡ b → ((x : Asked) × Says l x) ⊎ ((said m l).call ≡ Unreadable)
    by true e = inr (no_tag (ran m l).0 (ran m l).1 (ap tag_of (ran_reader l fresh m) ∙ eqb-true t 0 e))
    by false e =
        let a = run_back l fresh (eqb-false t 0 e) in
        let r = row_from a.place a.same in
        let f = r.of in
        let y = goes_fit f.form f.asks a.place f.tag t 0 l (told fresh l) (text_is f r.among) (tag_is f r.among) r.stands a.then in
        inl (y.asked, record { of = f; among = r.among; tells = told fresh l; fits = y.fits })

-- no call is handed on as unreadable
told_apart : (x : Asked) → call_for x ≡ Unreadable → ⊥
told_apart (calls (machine.append ps)) e = let z : ◌≡◌ {A = ℕ} 0 1 = cc in omega arith
told_apart (calls (machine.rollback n)) e = let z : ◌≡◌ {A = ℕ} 0 1 = cc in omega arith
told_apart (calls machine.start) e = let z : ◌≡◌ {A = ℕ} 0 1 = cc in omega arith
told_apart (calls machine.stop) e = let z : ◌≡◌ {A = ℕ} 0 1 = cc in omega arith
told_apart (calls (machine.connect n)) e = let z : ◌≡◌ {A = ℕ} 0 1 = cc in omega arith
told_apart (calls (machine.disconnect n)) e = let z : ◌≡◌ {A = ℕ} 0 1 = cc in omega arith
told_apart (calls (machine.master n)) e = let z : ◌≡◌ {A = ℕ} 0 1 = cc in omega arith
told_apart (calls (machine.sync n)) e = let z : ◌≡◌ {A = ℕ} 0 1 = cc in omega arith
told_apart (calls (machine.work n j i o c)) e = let z : ◌≡◌ {A = ℕ} 0 1 = cc in omega arith
told_apart (calls (machine.fold_to n)) e = let z : ◌≡◌ {A = ℕ} 0 1 = cc in omega arith
told_apart (why n j i) e = let z : ◌≡◌ {A = ℕ} 0 1 = cc in omega arith
told_apart (night n b os) e = let z : ◌≡◌ {A = ℕ} 0 1 = cc in omega arith
told_apart (imports es) e = let z : ◌≡◌ {A = ℕ} 0 1 = cc in omega arith
told_apart (owner p) e = let z : ◌≡◌ {A = ℕ} 0 1 = cc in omega arith
told_apart (freshly r) e = let z : ◌≡◌ {A = ℕ} 0 1 = cc in omega arith

module _ (m l : List ℕ) where
  -- a readable line: the grammar has it as asking for something, and that is handed on
  pub record Readable : Type 0 where
    pub asked : Asked
    pub says : Says l asked
    pub hands : Hands asked (said m l) (said_in m l)

  -- an unreadable line: the grammar has it as asking for nothing, and the code says so
  pub record Unread : Type 0 where
    pub says : (x : Asked) → Says l x → ⊥
    pub told : (said m l).call ≡ Unreadable

-- every line is one or the other
pub read_right : (m l : List ℕ) → length m ≡ 5140 → Readable m l ⊎ Unread m l
read_right m l n = by (sound m l)
  where
    by : ((x : Asked) × Says l x) ⊎ ((said m l).call ≡ Unreadable) → Readable m l ⊎ Unread m l
    by (inl x) = inl (record { asked = x.0; says = x.1; hands = complete m n x.1 })
    by (inr e) = inr (record { says = λ c x. told_apart c (sym (complete m n x).calls ∙ e); told = e })

-- two things that one line says are handed on alike
pub hands_once : {l : List ℕ} {c d : Asked} → Says l c → Says l d → call_for c ≡ call_for d
hands_once x y = sym (complete (replicate 5140 0) refl x).calls ∙ (complete (replicate 5140 0) refl y).calls

-- what is handed on of the room lies within it
pub within : (r : Reader) (m : List ℕ) → (finished r m).length ≤ 5140
within r m = by (ltb u (most_of (tag_of r))) refl
  where
    u : ℕ
    u = (last r).used

    most : (t : ℕ) → most_of t ≤ 5140
    most t = split (eqb t 65) (eqb t 78) (eqb t 73)
      where
        split : (x y z : Bool) → cond x 20 (cond y 518 (cond z 5140 0)) ≤ 5140
        split true y z = omega arith
        split false true z = omega arith
        split false false true = omega arith
        split false false false = omega arith

    by : (x : Bool) → ltb u (most_of (tag_of r)) ≡ x → cond x u (most_of (tag_of r)) ≤ 5140
    by true e = omega (arith, ltb-true u (most_of (tag_of r)) e, most (tag_of r))
    by false e = most (tag_of r)

-- ---- five pairs are refused as more are
module _ (a b d e f : Pair) (ps : List Pair) where
  too_many : valid_change (a ∷ b ∷ d ∷ e ∷ f ∷ ps) ≡ false
  unfolding pairs_ok
  too_many =
      let n : ℕ = length (a ∷ b ∷ d ∷ e ∷ f ∷ ps) in
      let one : 1 ≤ n = omega arith in
      let four : 4 < n = omega arith in
      simp (le-leb 1 n one, lt-leb n 4 four)

refused_three : (s : State) (ps : List Pair) → valid_change ps ≡ false → decide s (machine.append ps) ≡ refused 3
unfolding decide
refused_three s ps h = rw h

same_step : (s : State) (c c' : machine.Call) → decide s c ≡ decide s c' → step s c ≡ step s c'
unfolding step outcome
same_step s c c' e = rw e

pub decides_five : (s : State) (ps : List Pair) → decide s (machine.append (take 5 ps)) ≡ decide s (machine.append ps)
decides_five s [] = refl
decides_five s (a ∷ []) = refl
decides_five s (a ∷ b ∷ []) = refl
decides_five s (a ∷ b ∷ d ∷ []) = refl
decides_five s (a ∷ b ∷ d ∷ e ∷ []) = refl
decides_five s (a ∷ b ∷ d ∷ e ∷ f ∷ ps) =
    refused_three s (a ∷ b ∷ d ∷ e ∷ f ∷ []) (too_many a b d e f []) ∙ sym (refused_three s (a ∷ b ∷ d ∷ e ∷ f ∷ ps) (too_many a b d e f ps))

pub first_five : (s : State) (ps : List Pair) → step s (machine.append (take 5 ps)) ≡ step s (machine.append ps)
first_five s ps = same_step s (machine.append (take 5 ps)) (machine.append ps) (decides_five s ps)
