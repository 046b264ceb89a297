-- THE TRANSCRIPT: however the reads cut the input, what is handed on to be written is the answers to its lines in order, and the
-- closing line. Assumes nothing.
use Prim.Native.Nat.{ℕ, ◌+◌, ◌-◌, ◌*◌}
use mathlib.Core.Path.{◌≡◌, refl, ap, ap₂, sym, subst, ◌∙◌}
use mathlib.Core.Logic.{◌⊎◌, inl, inr}
use mathlib.Core.Bool.{Bool, true, false, cond, ◌&&◌}
use mathlib.Core.List.{List, [], ◌∷◌, ◌++◌, foldl, append-nil, append_assoc}
use lib.Dec.{eqb, ltb}
use lib.ListN.{length, take, set, replicate, length-set}
use lib.Seq.{sets, length-sets}
use Rattle.kinds.specs.Outcome.{both}
use Rattle.lines.specs.declared.reading.Reader.{Reader}
use Rattle.lines.specs.Forms.{Asked, calls, why, night, imports, owner, freshly}
use Rattle.lines.specs.Grammar.{Says, Item, plain, inner, close, undo}
use Rattle.lines.specs.Reading.{letter_at, fresh, pushed, pushed_in, stepped, low, high, two_at, pairs_of, filled_by, closed_at, last_in, finished, ran, said, said_in}
use Rattle.lines.proofs.Goes.{tells, adds}
use Rattle.lines.proofs.Rooms.{Room, put, room_of, ended_puts, pushed_puts}
use Rattle.lines.proofs.Readable.{Readable, Unread, read_right}
use Rattle.stepper.specs.declared.Session.{Session}
use Rattle.stepper.specs.declared.Answer.{Answer}
use Rattle.stepper.specs.Answers.{line_for, Answers, first_only}
use Rattle.stepper.specs.Ended.{Ends}
use Rattle.stepper.specs.Fed.{emptied, TakesIf, Feeds, none, next, EndsLastIf}
use Rattle.stepper.specs.Closed.{closing, EndsInput}
use Rattle.stepper.specs.Runs.{begins, Runs, start, block}
use Rattle.stepper.specs.Transcript as transcript
use Rattle.stepper.specs.Transcript.{lines_from, rest_from, last_line, importing, Answered, Told, reply_lines, Transcript}
use Rattle.stepper.proofs.Joint.{answers_said, explains_said, sleeps_said, enters_said, owns_said, freshens_said, refuses_unsaid}

-- ---- the room keeps its length
two_length : (m : List ℕ) (at v : ℕ) → length (two_at m at v) ≡ length m
two_length m at v = length-set (set m at (low v)) (at + 1) (high v) ∙ length-set m at (low v)

length_if : (b : Bool) (n m : List ℕ) → length n ≡ length m → length (cond b n m) ≡ length m
length_if true n m e = e
length_if false n m e = refl

closed_length : (u n k c : ℕ) (m : List ℕ) → length (closed_at u n k c m) ≡ length m
closed_length u n k c m =
    length_if (ltb u 5121) (sets (two_at (two_at m u k) (u + 2) c) (u + 4 + filled_by n) (replicate (16 - filled_by n) 0)) m
    (length-sets (two_at (two_at m u k) (u + 2) c) (u + 4 + filled_by n) (replicate (16 - filled_by n) 0) ∙ two_length (two_at m u k) (u + 2) c ∙ two_length m u k)

put_length : (k : Room) (i : Item) → length (put k i).room ≡ length k.room
put_length k (plain v) = length_if (ltb k.used 5139) (two_at k.room k.used v) k.room (two_length k.room k.used v)
put_length k (inner v) =
    length_if (ltb k.used 5121 && ltb k.count 8) (two_at k.room (k.used + 4 + 2 * k.count) v) k.room
    (two_length k.room (k.used + 4 + 2 * k.count) v)
put_length k close = closed_length k.used k.count 1 (pairs_of k.count) k.room
put_length k (undo v) = closed_length k.used k.count 2 v k.room

puts_length : (is : List Item) (k : Room) → length (foldl put k is).room ≡ length k.room
puts_length [] k = refl
puts_length (i ∷ is) k = puts_length is (put k i) ∙ put_length k i

last_length : (r : Reader) (m : List ℕ) → length (last_in r m) ≡ length m
last_length r m =
    let c : ℕ = letter_at r.at in
    ap (λ (k : Room). length k.room) (ended_puts r m c 0) ∙ puts_length (tells c 0 r.sub r.value) (room_of r m)

pushed_length : (r : Reader) (b : ℕ) (m : List ℕ) → length (pushed_in r b m) ≡ length m
pushed_length r b m = ap (λ (k : Room). length k.room) (pushed_puts r m b) ∙ puts_length (adds r b) (room_of r m)

-- ---- the line so far
abbrev some : List ℕ → Bool
some [] = false
some (b ∷ t) = true

-- the bytes t of a line have been read, from a room of 5140 bytes on
record Stands (line : Reader) (begun : Bool) (room t : List ℕ) : Type 0 where
  from : List ℕ
  before : length from ≡ 5140
  reads : line ≡ (ran from t).0
  holds : room ≡ (ran from t).1
  after : length room ≡ 5140
  has : begun ≡ some t

stands_fresh : (line : Reader) (begun : Bool) (room : List ℕ) → line ≡ fresh → begun ≡ false → length room ≡ 5140 → Stands line begun room []
stands_fresh line begun room e f n = record { from = room; before = n; reads = e; holds = refl; after = n; has = f }

one_more : (x : Reader × List ℕ) (t : List ℕ) (b : ℕ) → foldl stepped x (t ++ (b ∷ [])) ≡ stepped (foldl stepped x t) b
one_more x [] b = refl
one_more x (c ∷ t) b = one_more (stepped x c) t b

some_more : (t : List ℕ) (b : ℕ) → true ≡ some (t ++ (b ∷ []))
some_more [] b = refl
some_more (c ∷ t) b = refl

stands_more :
    (line : Reader) (begun : Bool) (room t : List ℕ) (b : ℕ) → Stands line begun room t → Stands (pushed line b) true (pushed_in line b room) (t ++ (b ∷ []))
stands_more line begun room t b x =
    let y = one_more (fresh, x.from) t b in
    record {
      from = x.from;
      before = x.before;
      reads = ap (λ (r : Reader). pushed r b) x.reads ∙ sym (ap (λ (z : Reader × List ℕ). z.0) y);
      holds =
          ap₂ (λ (r : Reader) (m : List ℕ). pushed_in r b m) x.reads x.holds ∙ sym (ap (λ (z : Reader × List ℕ). z.1) y);
      after = pushed_length line b room ∙ x.after;
      has = some_more t b;
    }

-- ---- a line that has ended is answered
answered :
    (f : Bool) (l : List ℕ) (line : Reader) (begun : Bool) (room t out : List ℕ) (used end : ℕ) (m after : List ℕ) → Stands line begun room t →
    (x : Ends f l (finished line room) (last_in line room) out used end m after) → Answered f l t x.reply m
answered f l line begun room t out used end m after s x =
    let r : Answer = x.reply in
    let p : Answers f l (finished (ran s.from t).0 room) (last_in (ran s.from t).0 room) r m =
    subst (λ (y : Reader). Answers f l (finished y room) (last_in y room) r m) s.reads x.answers in
    let q : Answers f l (said s.from t) (said_in s.from t) r m =
    subst (λ (y : List ℕ). Answers f l (finished (ran s.from t).0 y) (last_in (ran s.from t).0 y) r m) s.holds p in
    record {
      asks = λ c y. answers_said f t s.from l r m q s.before c y;
      explains = λ n j i y. explains_said f t s.from l r m q s.before n j i y;
      sleeps = λ n b os y. sleeps_said f t s.from l r m q s.before n b os y;
      enters = λ es y. enters_said f t s.from l r m q s.before es y;
      owns = λ p y. owns_said f t s.from l r m q s.before p y;
      freshens = λ v y. freshens_said f t s.from l r m q s.before v y;
      refuses = λ y. refuses_unsaid f t s.from l r m q y;
    }

-- ---- whether no line came before
abbrev behind : Bool → List (List ℕ) → Bool
behind f [] = f
behind f (t ∷ ts) = false

behind_some : (ts : List (List ℕ)) → behind false ts ≡ false
behind_some [] = refl
behind_some (t ∷ ts) = refl

behind_more : (f : Bool) (ts us : List (List ℕ)) → behind f (ts ++ us) ≡ behind (behind f ts) us
behind_more f [] us = refl
behind_more f (t ∷ ts) us = sym (behind_some us)

-- ---- the bytes of a block
-- the lines ts were answered behind the text before, and the bytes t of a line have been read since
record Goes (f : Bool) (l : List ℕ) (ts : List (List ℕ)) (t before : List ℕ) (q : Session) (m after kept : List ℕ) : Type 0 where
  replies : List Answer
  told : Told f l ts replies m
  place : q.first ≡ behind f ts
  text : take q.used after ≡ before ++ reply_lines replies
  stands : Stands q.line q.begun kept t

-- one byte, and then the others
goes_on :
    (e : Bool) (l out room : List ℕ) (s : Session) (b : ℕ) (r : Session) (k a n t bs : List ℕ) (q : Session) (m after kept : List ℕ) →
    TakesIf e l out room s b r k a n → Stands s.line s.begun room t →
    ((u : List ℕ) → Stands r.line r.begun n u → Goes r.first k (lines_from u bs) (rest_from u bs) (take r.used a) q m after kept) →
    Goes s.first l (cond e (t ∷ lines_from [] bs) (lines_from (t ++ (b ∷ [])) bs)) (rest_from (cond e [] (t ++ (b ∷ []))) bs) (take s.used out) q m after kept
unfolding reply_lines
goes_on true l out room s b r k a n t bs q m after kept x y f =
    let z = f [] (stands_fresh r.line r.begun n x.1 x.2 (ap length x.3 ∙ last_length s.line room ∙ y.after)) in
    let w : Answer = x.0.reply in
    record {
      replies = w ∷ z.replies;
      told =
          transcript.next t w (answered s.first l s.line s.begun room t out s.used r.used k a y x.0)
          (subst (λ (g : Bool). Told g k (lines_from [] bs) z.replies m) x.4 z.told);
      place = z.place ∙ ap (λ (g : Bool). behind g (lines_from [] bs)) x.4 ∙ behind_some (lines_from [] bs);
      text =
          z.text ∙ ap (λ (i : List ℕ). i ++ reply_lines z.replies) x.0.puts.holds ∙ append_assoc (take s.used out) (line_for w)
          (reply_lines z.replies);
      stands = z.stands;
    }
goes_on false l out room s b r k a n t bs q m after kept x y f =
    let g : Stands (pushed s.line b) true (pushed_in s.line b room) (t ++ (b ∷ [])) = stands_more s.line s.begun room t b y in
    let h : Stands (pushed s.line b) true n (t ++ (b ∷ [])) =
    subst (λ (i : List ℕ). Stands (pushed s.line b) true i (t ++ (b ∷ []))) (sym x.3) g in
    let i : Stands r.line r.begun n (t ++ (b ∷ [])) =
    subst (λ (j : Session). Stands j.line j.begun n (t ++ (b ∷ []))) (sym x.0) h in
    let z = f (t ++ (b ∷ [])) i in
    let u : take r.used a ≡ take s.used out = ap₂ (λ (j : Session) (o : List ℕ). take j.used o) x.0 x.2 in
    record {
      replies = z.replies;
      told =
          subst (λ (j : Session). Told j.first l (lines_from (t ++ (b ∷ [])) bs) z.replies m) x.0
          (subst (λ (j : List ℕ). Told r.first j (lines_from (t ++ (b ∷ [])) bs) z.replies m) x.1 z.told);
      place = z.place ∙ ap (λ (j : Session). behind j.first (lines_from (t ++ (b ∷ [])) bs)) x.0;
      text = z.text ∙ ap (λ (j : List ℕ). j ++ reply_lines z.replies) u;
      stands = z.stands;
    }

goes :
    {l out room bs : List ℕ} {s q : Session} {m after kept : List ℕ} → Feeds l out room s bs q m after kept → (t : List ℕ) →
    Stands s.line s.begun room t → Goes s.first l (lines_from t bs) (rest_from t bs) (take s.used out) q m after kept
unfolding lines_from rest_from reply_lines
goes {out = out} {s = s} none t x =
    record { replies = []; told = transcript.none; place = refl; text = sym (append-nil (take s.used out)); stands = x }
goes {l = l} {out = out} {room = room} {s = s} {q = q} {m = m} {after = after} {kept = kept} (next {k = k} {a = a} {n = n} {bs = bs} {r = r} b u f) t x =
    goes_on (eqb b 10) l out room s b r k a n t bs q m after kept u x (λ v y. goes f v y)

-- ---- block after block
lines_more : (t xs bs : List ℕ) → lines_from t (xs ++ bs) ≡ lines_from t xs ++ lines_from (rest_from t xs) bs
unfolding lines_from rest_from
lines_more t [] bs = refl
lines_more t (a ∷ xs) bs = by (eqb a 10) (λ u. lines_more u xs bs)
  where
    by : (e : Bool) → ((u : List ℕ) → lines_from u (xs ++ bs) ≡ lines_from u xs ++ lines_from (rest_from u xs) bs) →
        cond e (t ∷ lines_from [] (xs ++ bs)) (lines_from (t ++ (a ∷ [])) (xs ++ bs))
        ≡ cond e (t ∷ lines_from [] xs) (lines_from (t ++ (a ∷ [])) xs) ++ lines_from (rest_from (cond e [] (t ++ (a ∷ []))) xs) bs
    by true f = ap (λ (x : List (List ℕ)). t ∷ x) (f [])
    by false f = f (t ++ (a ∷ []))

rest_more : (t xs bs : List ℕ) → rest_from t (xs ++ bs) ≡ rest_from (rest_from t xs) bs
unfolding rest_from
rest_more t [] bs = refl
rest_more t (a ∷ xs) bs = rest_more (cond (eqb a 10) [] (t ++ (a ∷ []))) xs bs

told_more :
    {f : Bool} {l k m : List ℕ} {ts us : List (List ℕ)} {rs qs : List Answer} → Told f l ts rs k → Told (behind f ts) k us qs m →
    Told f l (ts ++ us) (rs ++ qs) m
told_more transcript.none y = y
told_more {k = k} {m = m} {us = us} {qs = qs} (transcript.next {ts = ts} t r a x) y =
    transcript.next t r a (told_more x (subst (λ (g : Bool). Told g k us qs m) (sym (behind_some ts)) y))

replies_more : (rs qs : List Answer) → reply_lines (rs ++ qs) ≡ reply_lines rs ++ reply_lines qs
unfolding reply_lines
replies_more [] qs = refl
replies_more (r ∷ rs) qs = ap (λ (x : List ℕ). line_for r ++ x) (replies_more rs qs) ∙ sym (append_assoc (line_for r) (reply_lines rs) (reply_lines qs))

-- all lines that ended are answered in the text, and the bytes behind the last newline have been read
record Went (l bytes text : List ℕ) (q : Session) (m kept : List ℕ) : Type 0 where
  replies : List Answer
  told : Told true l (lines_from [] bytes) replies m
  place : q.first ≡ behind true (lines_from [] bytes)
  writes : text ≡ reply_lines replies
  stands : Stands q.line q.begun kept (rest_from [] bytes)

went :
    {l room bytes text : List ℕ} {q : Session} {m kept : List ℕ} → length room ≡ 5140 → Runs l room begins bytes text q m kept → Went l bytes text q m kept
unfolding lines_from rest_from reply_lines
went {room = room} n start =
    record { replies = []; told = transcript.none; place = refl; writes = refl; stands = stands_fresh fresh false room refl refl n }
went {l = l} n (block {bytes = bytes} {text = text} {k = k} x b out after m kept r f) =
    let y = went n x in
    let z = goes f (rest_from [] bytes) y.stands in
    record {
      replies = y.replies ++ z.replies;
      told =
          subst (λ (ts : List (List ℕ)). Told true l ts (y.replies ++ z.replies) m) (sym (lines_more [] bytes b))
          (told_more y.told (subst (λ (g : Bool). Told g k (lines_from (rest_from [] bytes) b) z.replies m) y.place z.told));
      place =
          z.place ∙ ap (λ (g : Bool). behind g (lines_from (rest_from [] bytes) b)) y.place
          ∙ sym (ap (behind true) (lines_more [] bytes b) ∙ behind_more true (lines_from [] bytes) (lines_from (rest_from [] bytes) b));
      writes = ap₂ (λ (i j : List ℕ). i ++ j) y.writes z.text ∙ sym (replies_more y.replies z.replies);
      stands = subst (λ (t : List ℕ). Stands r.line r.begun kept t) (sym (rest_more [] bytes b)) z.stands;
    }

-- ---- the input's end
record Last (f : Bool) (l t before : List ℕ) (used : ℕ) (m after : List ℕ) : Type 0 where
  replies : List Answer
  told : Told f l (last_line t) replies m
  text : take used after ≡ before ++ reply_lines replies

last_if :
    (t l out room : List ℕ) (s : Session) (used : ℕ) (m after kept : List ℕ) → Stands s.line s.begun room t →
    EndsLastIf (some t) l out room s used m after kept → Last s.first l t (take s.used out) used m after
unfolding reply_lines
last_if [] l out room s used m after kept y x =
    record {
      replies = [];
      told = subst (λ (i : List ℕ). Told s.first l [] [] i) (sym x.1) transcript.none;
      text = ap₂ (λ (i : ℕ) (o : List ℕ). take i o) x.0 x.2 ∙ sym (append-nil (take s.used out));
    }
last_if (b ∷ t) l out room s used m after kept y x =
    let w : Answer = x.0.reply in
    record {
      replies = w ∷ [];
      told = transcript.next (b ∷ t) w (answered s.first l s.line s.begun room (b ∷ t) out s.used used m after y x.0) transcript.none;
      text = x.0.puts.holds ∙ ap (λ (i : List ℕ). take s.used out ++ i) (sym (append-nil (line_for w)));
    }

-- ---- the whole
pub transcribed :
    {l room bytes text k n out m after kept : List ℕ} {q : Session} {end : ℕ} → length room ≡ 5140 → Runs l room begins bytes text q k n →
    EndsInput k out n (emptied q) end m after kept → Transcript l bytes (text ++ take end after) m
transcribed {l = l} {bytes = bytes} {text = text} {k = k} {n = n} {out = out} {m = m} {after = after} {kept = kept} {q = q} {end = end} h x y =
    let w = went h x in
    let t : List ℕ = rest_from [] bytes in
    let e : EndsLastIf (some t) k out n (emptied q) y.used m y.answers kept =
    subst (λ (b : Bool). EndsLastIf b k out n (emptied q) y.used m y.answers kept) w.stands.has y.last in
    let z = last_if t k out n (emptied q) y.used m y.answers kept w.stands e in
    record {
      replies = w.replies ++ z.replies;
      told = told_more w.told (subst (λ (g : Bool). Told g k (last_line t) z.replies m) w.place z.told);
      writes =
          ap₂ (λ (i j : List ℕ). i ++ j) w.writes (y.closes.holds ∙ ap (λ (i : List ℕ). i ++ closing m) z.text)
          ∙ sym (append_assoc (reply_lines w.replies) (reply_lines z.replies) (closing m))
          ∙ ap (λ (i : List ℕ). i ++ closing m) (sym (replies_more w.replies z.replies));
    }

-- ---- no second transcript
answered_only : (f : Bool) (l t : List ℕ) (r q : Answer) (m n : List ℕ) → Answered f l t r m → Answered f l t q n → (r ≡ q) × (m ≡ n)
answered_only f l t r q m n x y = by (read_right (replicate 5140 0) t refl)
  where
    asked : (a : Asked) → Says t a → (r ≡ q) × (m ≡ n)
    asked (calls c) s = both (x.asks c s) (y.asks c s)
    asked (why k j i) s = both (x.explains k j i s) (y.explains k j i s)
    asked (night k b os) s = both (x.sleeps k b os s) (y.sleeps k b os s)
    asked (imports es) s = first_only f _ _ l (x.enters es s) (y.enters es s)
    asked (owner p) s = both (x.owns p s) (y.owns p s)
    asked (freshly v) s = first_only f _ _ l (x.freshens v s) (y.freshens v s)

    by : Readable (replicate 5140 0) t ⊎ Unread (replicate 5140 0) t → (r ≡ q) × (m ≡ n)
    by (inl a) = asked a.asked a.says
    by (inr u) = both (x.refuses u.says) (y.refuses u.says)

told_only :
    {f : Bool} {l m n : List ℕ} {ts : List (List ℕ)} {rs qs : List Answer} → Told f l ts rs m → Told f l ts qs n → (rs ≡ qs) × (m ≡ n)
told_only transcript.none transcript.none = (refl, refl)
told_only {f = f} {l = l} {n = n} (transcript.next {k = k} {ts = ts} {rs = rs} t r x d) (transcript.next {k = j} {rs = qs} u q y e) =
    let z = answered_only f l t r q k j x y in
    let w = told_only d (subst (λ (i : List ℕ). Told false i ts qs n) (sym z.1) e) in
    (ap₂ (λ (i : Answer) (is : List Answer). i ∷ is) z.0 w.0, w.1)

pub transcript_only : (l bytes s t m n : List ℕ) → Transcript l bytes s m → Transcript l bytes t n → (s ≡ t) × (m ≡ n)
transcript_only l bytes s t m n x y =
    let z = told_only x.told y.told in
    (x.writes ∙ ap₂ (λ (rs : List Answer) (i : List ℕ). reply_lines rs ++ closing i) z.0 z.1 ∙ sym y.writes, z.1)
