-- Texts put one after another, and the digits of a number. Assumes nothing.
use Prim.Native.Nat.{ℕ, zero, suc, ◌+◌, ◌-◌, ◌/◌, ◌%◌, ◌^◌, ◌≤◌, ◌<◌}
use mathlib.Core.Path.{◌≡◌, refl, ap, ap₂, sym, subst, ◌∙◌}
use mathlib.Core.List.{List, [], ◌∷◌, ◌++◌, append_assoc, append-nil}
use mathlib.Core.Bool.{Bool, true, false, cond}
use native.Mathlib.Omega.{arith}
use native.Mathlib.Nat.{add-zero, zero-add, pow-suc}
use borrow.Author.Tests.{eq-eqb, ne_eqb, lt-ltb, le-ltb, le-leb, lt-leb}
use lib.Dec.{eqb, ltb, leb}
use lib.ListN.{length, get_or, take, set, drop, length-append, length-drop, drop_of_length-le, take-append-drop}
use lib.Seq.{sets, sets-eq, length-sets, length-take-le, drop-cons, drop-append-le, drop-drop}
use native.Mathlib.Numerals.{add-one}
use Rattle.kinds.specs.declared.Reply.{Reply}
use Rattle.kinds.specs.Statuses.{code_of}
use Rattle.lines.specs.Text.{text}
use Rattle.lines.specs.Decimal.{spelled, decimal}
use Rattle.lines.specs.Replies.{filled_at, next_at, filled_from, filled, room_of, reply_line, log_form, log_line, refused_form, refused_line, totals_form, totals_line, sheet_room, Put, Written, WrittenIn}

-- ---- a text put after a text is both put at once
pub sets_append : (s t l : List ℕ) (i : ℕ) → sets (sets l i s) (i + length s) t ≡ sets l i (s ++ t)
sets_append [] t l i = rw add-zero
sets_append (a ∷ s) t l i =
    ap (λ (k : ℕ). sets (sets (set l i a) (suc i) s) k t) (omega arith) ∙ sets_append s t (set l i a) (suc i)

pub put_then : {l m n s t : List ℕ} {at e f : ℕ} → Put l at s e m → Put m e t f n → Put l at (s ++ t) f n
put_then {l} {m} {n} {s} {t} {at} p q =
    record {
      ends = omega (arith, p.ends, q.ends, length-append s t);
      holds = q.holds ∙ ap₂ (λ (k : List ℕ) (j : ℕ). sets k j t) p.holds p.ends ∙ sets_append s t l at;
    }

-- one byte is a text
pub put_byte : (l : List ℕ) (at b : ℕ) → Put l at (b ∷ []) (at + 1) (set l at b)
put_byte l at b = record { ends = refl; holds = refl }

pub put_length : {l m t : List ℕ} {at e : ℕ} → Put l at t e m → length m ≡ length l
put_length {l} {m} {t} {at} p = ap length p.holds ∙ length-sets l at t

-- a part of a list written whole
part_set : (l t : List ℕ) (at n : ℕ) → at + n ≤ length l → n ≡ length t → take at l ++ (t ++ drop (at + n - at) (drop at l)) ≡ sets l at t
part_set l t at n h e =
    let w : at + n - at ≡ length t = omega arith in
    ap (λ (k : ℕ). take at l ++ (t ++ drop k (drop at l))) w ∙ ap (λ (y : List ℕ). take at l ++ (t ++ y)) (drop-drop (length t) at l)
    ∙ sym (append_assoc (take at l) t (drop (at + length t) l)) ∙ sym (sets-eq t l at (omega arith))

pub part_sets : (l t s : List ℕ) (at n : ℕ) → at + n ≤ length l → n ≡ length t → s ≡ t → take at l ++ (s ++ drop (at + n - at) (drop at l)) ≡ sets l at t
part_sets l t s at n h e f = ap (λ (z : List ℕ). take at l ++ (z ++ drop (at + n - at) (drop at l))) f ∙ part_set l t at n h e

pub bytes_put :
    (l t s : List ℕ) (at : ℕ) → at + length t ≤ length l → s ≡ t → Put l at t (at + length t) (take at l ++ (s ++ drop (at + length t - at) (drop at l)))
bytes_put l t s at h e = record { ends = refl; holds = part_sets l t s at (length t) h refl e }

-- ---- decimal
spelled_more : (k n : ℕ) → n < 10 ^ suc k → spelled (suc (suc k)) n ≡ spelled (suc k) n
unfolding spelled
spelled_more zero n h = rw (lt-ltb n 10 (omega arith))
spelled_more (suc k) n h =
    ap (λ (x : List ℕ). cond (ltb n 10) ((48 + n) ∷ []) (x ++ ((48 + n % 10) ∷ [])))
    (spelled_more k (n / 10) (omega (arith, pow-suc 10 (suc k))))

spelled_step : (k n : ℕ) → 10 ≤ n → spelled (suc k) n ≡ spelled k (n / 10) ++ ((48 + n % 10) ∷ [])
unfolding spelled
spelled_step k n h = rw (le-ltb n 10 h)

pub decimal_one : (n : ℕ) → n < 10 → decimal n ≡ (48 + n) ∷ []
unfolding decimal spelled
decimal_one n h = rw (lt-ltb n 10 h)

pub decimal_more : (n : ℕ) → 10 ≤ n → n < 2 ^ 32 → decimal n ≡ decimal (n / 10) ++ ((48 + n % 10) ∷ [])
unfolding decimal
decimal_more n h f =
    spelled_step 9 n h ∙ ap (λ (x : List ℕ). x ++ ((48 + n % 10) ∷ [])) (sym (spelled_more 8 (n / 10) (omega arith)))

spelled_short : (k n : ℕ) → length (spelled k n) ≤ k
unfolding spelled
spelled_short zero n = omega arith
spelled_short (suc k) n = either (spelled_short k (n / 10)) (ltb n 10)
  where
    either : length (spelled k (n / 10)) ≤ k → (b : Bool) → length (cond b ((48 + n) ∷ []) (spelled k (n / 10) ++ ((48 + n % 10) ∷ []))) ≤ suc k
    either h true = omega arith
    either h false = omega (arith, length-append (spelled k (n / 10)) ((48 + n % 10) ∷ []))

pub decimal_short : (n : ℕ) → length (decimal n) ≤ 10
unfolding decimal
decimal_short n = spelled_short 10 n

-- ---- keys of a form and their numbers, one after another
-- so much of a line stands there, and it has at most so many bytes
pub record Begun (before : List ℕ) (most : ℕ) (line : List ℕ) (at : ℕ) (after : List ℕ) : Type 0 where
  pub put : Put before 0 line at after
  pub low : at ≤ most

pub begun_none : (l : List ℕ) → Begun l 0 [] 0 l
begun_none l = record { put = record { ends = refl; holds = refl }; low = omega arith }

module _ {l m line : List ℕ} {most at : ℕ} (x : Begun l most line at m) where
  pub text_fits : (t : List ℕ) → most + length t ≤ 96 → 96 ≤ length l → at + length t ≤ length m
  text_fits t h g = omega (arith, x.low, put_length x.put)

  pub text_put : {t m' : List ℕ} {e : ℕ} → Put m at t e m' → Begun l (most + length t) (line ++ t) e m'
  text_put p = record { put = put_then x.put p; low = omega (arith, x.low, p.ends) }

  -- a number has at most ten digits
  pub key_fits : (key : List ℕ) (n : ℕ) → most + (length key + 10) ≤ 96 → 96 ≤ length l → at + length (key ++ decimal n) ≤ length m
  key_fits key n h g = omega (arith, x.low, put_length x.put, length-append key (decimal n), decimal_short n)

  pub key_put : (key : List ℕ) (n : ℕ) {m' : List ℕ} {e : ℕ} → Put m at (key ++ decimal n) e m' → Begun l (most + (length key + 10)) (line ++ (key ++ decimal n)) e m'
  key_put key n p = record { put = put_then x.put p; low = omega (arith, x.low, p.ends, length-append key (decimal n), decimal_short n) }

-- a reply's form filled in is its keys and numbers, joined
five : (a b c d e f g h i j t : List ℕ) →
    (((((a ++ b) ++ (c ++ d)) ++ (e ++ f)) ++ (g ++ h)) ++ (i ++ j)) ++ t ≡ a ++ (b ++ (c ++ (d ++ (e ++ (f ++ (g ++ (h ++ (i ++ (j ++ t)))))))))
five a b c d e f g h i j t = simp append_assoc

pub reply_filled : (r : Reply) (n s : ℕ) → n ≡ r.event.number.0 → s ≡ code_of r.event.status →
    (((((text "answer=" ++ decimal r.answer) ++ (text " phase=" ++ decimal r.event.phase)) ++ (text " stage=" ++ decimal r.event.stage))
    ++ (text " number=" ++ decimal n)) ++ (text " status=" ++ decimal s)) ++ text "\n" ≡ reply_line r
unfolding reply_line filled_from
reply_filled r n s e f =
    rw (e, f)
    (five (text "answer=") (decimal r.answer) (text " phase=") (decimal r.event.phase) (text " stage=") (decimal r.event.stage) (text " number=")
    (decimal r.event.number.0) (text " status=") (decimal (code_of r.event.status)) (text "\n"))

-- ---- a form filled in
short_at : (c n : ℕ) → length (filled_at c n) ≤ cond (eqb c 35) 10 1
short_at c n = by (eqb c 35)
  where
    by : (t : Bool) → length (cond t (decimal n) (c ∷ [])) ≤ cond t 10 1
    by true = decimal_short n
    by false = omega arith

pub filled_short : (f ns : List ℕ) (k : ℕ) → length (filled_from f ns k) ≤ room_of f
unfolding filled_from
filled_short [] ns k = omega arith
filled_short (c ∷ f) ns k =
    omega (arith, length-append (filled_at c (get_or ns k 0)) (filled_from f ns (next_at c k)), short_at c (get_or ns k 0), filled_short f ns (next_at c k))

pub room_long : (f : List ℕ) → length f ≤ room_of f
room_long [] = omega arith
room_long (c ∷ f) = omega (arith, room_long f, by (eqb c 35))
  where
    by : (t : Bool) → 1 ≤ cond t 10 1
    by true = omega arith
    by false = omega arith

-- a line of the sheet has room
module _ (n : ℕ) where
  pub log_short : (cs : List ℕ) (m d : ℕ) → length (log_line n cs m d) ≤ sheet_room
  log_short cs m d = let h : length (log_line n cs m d) ≤ 156 = filled_short log_form (n ∷ (cs ++ (m ∷ d ∷ []))) 0 in omega arith

  pub refused_short : (a : ℕ) → length (refused_line n a) ≤ sheet_room
  refused_short a = let h : length (refused_line n a) ≤ 33 = filled_short refused_form (n ∷ a ∷ []) 0 in omega arith

pub totals_short : (ts : List ℕ) → length (totals_line ts) ≤ sheet_room
totals_short ts = let h : length (totals_line ts) ≤ 108 = filled_short totals_form ts 0 in omega arith

-- six numbers, one by one
pub six_all : (l : List ℕ) → length l ≡ 6 → l ≡ get_or l 0 0 ∷ get_or l 1 0 ∷ get_or l 2 0 ∷ get_or l 3 0 ∷ get_or l 4 0 ∷ get_or l 5 0 ∷ []
six_all [] h = absurd (omega arith)
six_all (a ∷ []) h = absurd (omega arith)
six_all (a ∷ b ∷ []) h = absurd (omega arith)
six_all (a ∷ b ∷ c ∷ []) h = absurd (omega arith)
six_all (a ∷ b ∷ c ∷ d ∷ []) h = absurd (omega arith)
six_all (a ∷ b ∷ c ∷ d ∷ e ∷ []) h = absurd (omega arith)
six_all (a ∷ b ∷ c ∷ d ∷ e ∷ f ∷ []) h = refl
six_all (a ∷ b ∷ c ∷ d ∷ e ∷ f ∷ g ∷ l) h = absurd (omega arith)

pub six_same :
    (l : List ℕ) {a b c d e f : ℕ} → length l ≡ 6 → a ≡ get_or l 0 0 → b ≡ get_or l 1 0 → c ≡ get_or l 2 0 → d ≡ get_or l 3 0 → e ≡ get_or l 4 0 → f ≡ get_or l 5 0 →
    (a ∷ b ∷ c ∷ d ∷ e ∷ f ∷ []) ≡ l
six_same l h p q r s t u = rw (p, q, r, s, t, u) (sym (six_all l h))

-- and among others
pub log_same : {n o : ℕ} {l cs : List ℕ} (m : ℕ) {d e : ℕ} → n ≡ o → l ≡ cs → d ≡ e → (n ∷ (l ++ (m ∷ d ∷ []))) ≡ (o ∷ (cs ++ (m ∷ e ∷ [])))
log_same {l = l} m p q r = rw (p, q, r)

-- a letter of a form: a number, or itself
module _ (at c n : ℕ) where
  pub number_fits : (size : ℕ) → c ≡ 35 → at + length (filled_at c n) ≤ size → at + length (decimal n) ≤ size
  number_fits size e h = rw (eq-eqb c 35 e) at h

  pub self_fits : (size : ℕ) → (c ≡ 35 → ⊥) → at + length (filled_at c n) ≤ size → at < size
  self_fits size e h = let g : at + length (c ∷ []) ≤ size = rw (ne_eqb c 35 e) at h in omega arith

  pub put_number : (l : List ℕ) (e : ℕ) (m : List ℕ) → c ≡ 35 → Put l at (decimal n) e m → Put l at (filled_at c n) e m
  put_number l e m i p = rw (eq-eqb c 35 i) p

  pub put_self : (l : List ℕ) → (c ≡ 35 → ⊥) → Put l at (filled_at c n) (at + 1) (set l at c)
  put_self l e = rw (ne_eqb c 35 e) (put_byte l at c)

-- u of the line stands there, what is left of the form makes the rest
pub record Filling (before f ns : List ℕ) (at i k : ℕ) (after : List ℕ) : Type 0 where
  pub done : List ℕ
  pub put : Put before 0 done at after
  pub rest : done ++ filled_from (drop i f) ns k ≡ filled f ns
  pub some : k ≤ i

pub filling_none : (l f ns : List ℕ) → Filling l f ns 0 0 0 l
filling_none l f ns = record { done = []; put = record { ends = refl; holds = refl }; rest = refl; some = omega arith }

module _ (l f ns : List ℕ) (at i k : ℕ) (m : List ℕ) (x : Filling l f ns at i k m) where
  step : i < length f → filled_from (drop i f) ns k ≡ filled_at (get_or f i 0) (get_or ns k 0) ++ filled_from (drop (i + 1) f) ns (next_at (get_or f i 0) k)
  unfolding filled_from
  step h = ap (λ (g : List ℕ). filled_from g ns k) (drop-cons f i 0 h) ∙ ap
      (λ (j : ℕ). filled_at (get_or f i 0) (get_or ns k 0) ++ filled_from (drop j f) ns (next_at (get_or f i 0) k)) (sym (add-one i))

  pub filling_fits_in :
      (room n : ℕ) → n ≡ get_or ns k 0 → i < length f → room_of f ≤ room → room ≤ length l → at + length (filled_at (get_or f i 0) n) ≤ length m
  filling_fits_in room n y h g j =
      rw y
      (let a = filled_at (get_or f i 0) (get_or ns k 0) in
      let b = filled_from (drop (i + 1) f) ns (next_at (get_or f i 0) k) in
      let e : x.done ++ (a ++ b) ≡ filled f ns = ap (λ (z : List ℕ). x.done ++ z) (sym (step h)) ∙ x.rest in
      omega (arith, ap length e, length-append x.done (a ++ b), length-append a b, filled_short f ns 0, put_length x.put, x.put.ends))

  pub filling_fits : (n : ℕ) → n ≡ get_or ns k 0 → i < length f → room_of f ≤ 96 → 96 ≤ length l → at + length (filled_at (get_or f i 0) n) ≤ length m
  filling_fits = filling_fits_in 96

  pub filling_more :
      (q e n : ℕ) (m' : List ℕ) → i < length f → n ≡ get_or ns k 0 → q ≡ next_at (get_or f i 0) k → Put m at (filled_at (get_or f i 0) n) e m' → Filling l f ns e
      (i + 1) q m'
  filling_more q e n m' h g j p =
      let a = filled_at (get_or f i 0) (get_or ns k 0) in
      record {
        done = x.done ++ a;
        put = put_then x.put (subst (λ (u : ℕ). Put m at (filled_at (get_or f i 0) u) e m') g p);
        rest =
            append_assoc x.done a (filled_from (drop (i + 1) f) ns q)
            ∙ ap (λ (u : ℕ). x.done ++ (a ++ filled_from (drop (i + 1) f) ns u)) j
            ∙ ap (λ (z : List ℕ). x.done ++ z) (sym (step h)) ∙ x.rest;
        some = omega (arith, j, next_short (get_or f i 0), x.some);
      }
    where
      next_short : (c : ℕ) → next_at c k ≤ k + 1
      next_short c = by (eqb c 35)
        where
          by : (t : Bool) → cond t (k + 1) k ≤ k + 1
          by true = omega arith
          by false = omega arith

  pub filling_whole : length f ≤ i → Put l 0 (filled f ns) at m
  unfolding filled_from
  filling_whole h =
      subst (λ (z : List ℕ). Put l 0 z at m)
      (sym (append-nil x.done) ∙ ap (λ (g : List ℕ). x.done ++ filled_from g ns k) (sym (drop_of_length-le f h)) ∙ x.rest) x.put

-- ---- a whole line
pub written_in : {l m t : List ℕ} {e : ℕ} (room : ℕ) → Put l 0 t e m → room ≤ length l → e ≤ length l → WrittenIn room l t e m
written_in {l} {m} {t} {e} room p h k =
    let f : e ≡ length t = omega (arith, p.ends) in
    record {
      sized = rw (le-leb room (length l) h) f;
      fits = k;
      holds = rw (le-leb room (length l) h) (p.holds ∙ sets-eq t l 0 (omega arith) ∙ ap (λ (k : ℕ). t ++ drop k l) (zero-add (length t)));
    }

pub unwritten_in : (room : ℕ) (l t : List ℕ) → length l < room → WrittenIn room l t 0 l
unwritten_in room l t h = record { sized = rw (lt-leb room (length l) h); fits = omega arith; holds = rw (lt-leb room (length l) h) }

-- of 96 bytes
pub written : {l m t : List ℕ} {e : ℕ} → Put l 0 t e m → 96 ≤ length l → e ≤ length l → Written l t e m
written = written_in 96

pub whole : {l m line line' : List ℕ} {most e : ℕ} → Begun l most line e m → line ≡ line' → most ≤ 96 → 96 ≤ length l → Written l line' e m
whole {l} {m} {e = e} x i h g = written (subst (λ (t : List ℕ). Put l 0 t e m) i x.put) g (omega (arith, x.low))

pub unwritten : (l t : List ℕ) → length l < 96 → Written l t 0 l
unwritten = unwritten_in 96

-- of numbers that are known to be others
pub filled_same : {room : ℕ} {l : List ℕ} (f : List ℕ) {ns os : List ℕ} {r : ℕ} {m : List ℕ} → ns ≡ os → WrittenIn room l (filled f ns) r m → WrittenIn room l (filled f os) r m
filled_same {room} {l} f {r = r} {m = m} e x = subst (λ (ns : List ℕ). WrittenIn room l (filled f ns) r m) e x

-- ---- a line written into a part of a buffer, behind its first `used` bytes
module _ (room : ℕ) (out : List ℕ) (used : ℕ) (t : List ℕ) (w size : ℕ) (rest : List ℕ) where
  -- what stands from there on
  pub part_written :
      w ≡ room → used + room ≤ length out → WrittenIn room (take w (drop used out)) t size rest →
      (size ≡ length t) × (length t ≤ room) × (rest ++ drop w (drop used out) ≡ t ++ drop (length t) (drop used out))
  part_written e h x =
      let d : List ℕ = drop used out in
      let n : w ≤ length d = omega (arith, length-drop used out, e) in
      let q : length (take w d) ≡ w = length-take-le w d n in
      let m : room ≤ length (take w d) = omega (arith, q, e) in
      let g : leb room (length (take w d)) ≡ true = le-leb room (length (take w d)) m in
      let s : size ≡ length t = rw g at x.sized in
      let r : rest ≡ t ++ drop (length t) (take w d) = rw g at x.holds in
      let f : length t ≤ room = omega (arith, s, q, e, x.fits) in
      let i : length t ≤ length (take w d) = omega (arith, s, x.fits) in (
        s,
        f,
        ap (λ (y : List ℕ). y ++ drop w d) r ∙ append_assoc t (drop (length t) (take w d)) (drop w d) ∙ ap (λ (y : List ℕ). t ++ y)
            (sym (drop-append-le (length t) (take w d) (drop w d) i) ∙ ap (drop (length t)) (take-append-drop w d)),
      )

  pub part_put :
      w ≡ room → used + room ≤ length out → WrittenIn room (take w (drop used out)) t size rest →
      Put out used t (used + size) (take used out ++ (rest ++ drop w (drop used out)))
  part_put e h x =
      let z = part_written e h x in
      record {
        ends = omega (arith, z.0);
        holds = ap (λ (y : List ℕ). take used out ++ y) z.2 ∙ ap (λ (y : List ℕ). take used out ++ (t ++ y)) (drop-drop (length t) used out)
            ∙ sym (append_assoc (take used out) t (drop (used + length t) out)) ∙ sym (sets-eq t out used (omega (arith, z.1)));
      }
