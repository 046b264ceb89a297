-- THE PROGRAM: from the image that `fresh` makes, what is handed on to be written is what the machine answers to the lines of
-- the input, however the reads cut it, and then the heads of the state that is reached. Assumes nothing.
use Prim.Native.Nat.{ℕ}
use mathlib.Core.Path.{◌≡◌, refl, ap, sym, subst, ◌∙◌}
use mathlib.Core.Logic.{◌⊎◌, inl, inr}
use mathlib.Core.Bool.{Bool, true, false, cond}
use mathlib.Core.List.{List, [], ◌++◌}
use borrow.Author.Tests.{eq-eqb}
use lib.Dec.{eqb, leb}
use lib.ListN.{length, take, replicate}
use Rattle.kinds.specs.declared.Reply.{Reply}
use Rattle.kinds.specs.Events.{refusal}
use Rattle.machine.specs.State.{State, fresh}
use Rattle.machine.specs.Why as reasons
use Rattle.machine.specs.Import.{Entry, Import, import, imported}
use Rattle.machine.specs.Reads.{Query, read}
use Rattle.fields.proofs.Laws.{Bytes}
use Rattle.image.specs.Layout.{image_length}
use Rattle.image.specs.Records.{flag_of}
use Rattle.image.specs.View.{view}
use Rattle.image.specs.Formed.{formed}
use Rattle.image.specs.Fresh.{fresh_image}
use Rattle.image.proofs.Freshened.{shows_fresh, formed_fresh}
use Rattle.image.proofs.Scanned.{formed_length}
use Rattle.lines.specs.Forms.{Asked, calls, why, night, imports, owner, freshly}
use Rattle.lines.specs.Grammar.{Says}
use Rattle.lines.proofs.Readable.{Readable, Unread, read_right}
use Rattle.controller.specs.Fresh.{answer_if, image_if, Freshens}
use Rattle.controller.specs.Reads as shown
use Rattle.controller.specs.Reads.{read_of, heads_of, heads_in}
use Rattle.controller.specs.Reasons.{why_of, given}
use Rattle.controller.specs.Nights as nightly
use Rattle.controller.specs.Nights.{lent_from, night_in, room_after}
use Rattle.controller.specs.Imports.{told, image_after}
use Rattle.controller.proofs.Freshened.{fresh_is}
use Rattle.link.proofs.Link.{shows_next, stays_bytes, stays_formed, shows_run}
use Rattle.link.proofs.Fresh.{fresh_bytes, shows_run_fresh}
use Rattle.link.proofs.Nights.{lent_calling, night_calling, night_shows}
use Rattle.stepper.specs.declared.Session.{Session}
use Rattle.stepper.specs.declared.Answer.{Answer}
use Rattle.stepper.specs.declared.Answer.TheVariants.{Replied, Explained, Slept, Began, Owned}
use Rattle.stepper.specs.Answers.{table_for, BeginsIf, FreshensIf}
use Rattle.stepper.specs.Fed.{emptied}
use Rattle.stepper.specs.Closed.{line_of_heads, closing, EndsInput}
use Rattle.stepper.specs.Runs.{begins, Runs}
use Rattle.stepper.specs.Transcript as transcript
use Rattle.stepper.specs.Transcript.{importing, Answered, Told, reply_lines, Transcript}
use Rattle.stepper.specs.Steps as steps
use Rattle.stepper.specs.Steps.{Enters, Stepped, Steps, Prints}
use Rattle.stepper.proofs.Transcribed.{transcribed}

-- ---- an image
abbrev One : List ℕ → Type 0
One m = Bytes m × (formed m ≡ true)

-- ---- why
why_shown : (l : List ℕ) (n j i : ℕ) → formed l ≡ true → why_of l n j i ≡ given (reasons.why (view l) n j i)
unfolding why_of
why_shown l n j i w = rw w

-- ---- a read
read_shown : (l : List ℕ) (q : Query) → formed l ≡ true → read_of l q ≡ shown.given (read (view l) q)
unfolding read_of
read_shown l q w = rw w

-- ---- an import: the image shows what its calls leave a fresh controller, or what it showed
module _ (l : List ℕ) (es : List Entry) (w : formed l ≡ true) where
  of_an_image : importing l es ≡ import es
  of_an_image =
      ap (λ (b : Bool). cond b (import es) (record { answer = 1; position = 0; calls = [] })) (eq-eqb (length l) image_length (formed_length l w))

  image_is : (m : List ℕ) → m ≡ image_after (importing l es) l → m ≡ image_after (import es) l
  image_is m e = e ∙ ap (λ (x : Import). image_after x l) of_an_image

  entered : (f : Bool) (r : Answer) (m : List ℕ) → BeginsIf f l (importing l es) r m → Enters f (view l) es r (view m)
  entered true r m p =
      (p.0 ∙ ap (λ (x : Import). Began (told x)) of_an_image, ap view (image_is m p.1) ∙ by (eqb (import es).answer 0))
    where
      by : (b : Bool) → view (cond b (lent_from (fresh_image false) (import es).calls) l) ≡ cond b (imported es) (view l)
      by true = (shows_run_fresh false (lent_calling (fresh_image false) (import es).calls)).0
      by false = refl
  entered false r m p = (p.0, ap view p.1)

  stays_entered : (f : Bool) (r : Answer) (m : List ℕ) → Bytes l → BeginsIf f l (importing l es) r m → One m
  stays_entered true r m y p = subst One (sym (image_is m p.1)) (by (eqb (import es).answer 0))
    where
      by : (b : Bool) → One (cond b (lent_from (fresh_image false) (import es).calls) l)
      by true = let z = shows_run (lent_calling (fresh_image false) (import es).calls) (fresh_bytes false) (formed_fresh false) in (z.bytes, z.formed)
      by false = (y, w)
  stays_entered false r m y p = subst One (sym p.1) (y, w)

-- ---- a fresh start: the image shows a fresh controller of that kind, or what it showed
module _ (l : List ℕ) (v : ℕ) (w : formed l ≡ true) where
  sized : eqb (length l) image_length ≡ true
  sized = eq-eqb (length l) image_length (formed_length l w)

  left_is : (m : List ℕ) → m ≡ image_if (eqb (length l) image_length) (leb v 1) (flag_of v) l → m ≡ image_if true (leb v 1) (flag_of v) l
  left_is m e = e ∙ ap (λ (b : Bool). image_if b (leb v 1) (flag_of v) l) sized

  freshened : (f : Bool) (r : Answer) (m : List ℕ) → FreshensIf f l v r m → steps.Freshens f (view l) v r (view m)
  freshened true r m p =
      (p.0 ∙ ap (λ (b : Bool). Replied (refusal (answer_if b (leb v 1)))) sized ∙ answer (leb v 1), ap view (left_is m p.1) ∙ by (leb v 1))
    where
      answer : (b : Bool) → Replied (refusal (answer_if true b)) ≡ Replied (refusal (cond b 0 2))
      answer true = refl
      answer false = refl

      by : (b : Bool) → view (image_if true b (flag_of v) l) ≡ cond b (fresh (eqb v 1)) (view l)
      by true = shows_fresh (flag_of v)
      by false = refl
  freshened false r m p = (p.0, ap view p.1)

  stays_fresh : (f : Bool) (r : Answer) (m : List ℕ) → Bytes l → FreshensIf f l v r m → One m
  stays_fresh true r m y p = subst One (sym (left_is m p.1)) (by (leb v 1))
    where
      by : (b : Bool) → One (image_if true b (flag_of v) l)
      by true = (fresh_bytes (flag_of v), formed_fresh (flag_of v))
      by false = (y, w)
  stays_fresh false r m y p = subst One (sym p.1) (y, w)

-- ---- one line
module _ (f : Bool) (l t : List ℕ) (r : Answer) (m : List ℕ) (x : Answered f l t r m) (y : Bytes l) (w : formed l ≡ true) where
  -- a night is the controller's, in no room for events
  slept : (n b : ℕ) (os : List ℕ) → Says t (night n b os) →
      (let k = night_in l n b (table_for os) in nightly.Nights l n b (table_for os) [] (nightly.given k []) m (room_after [] k.events))
  slept n b os s = (refl, (x.sleeps n b os s).1, refl)

  stepped : Stepped f (view l) t r (view m)
  stepped =
      record {
        asks = λ c s. let z = shows_next l c _ m (refl, (x.asks c s).1) y w in ((x.asks c s).0 ∙ ap Replied z.0, z.1);
        explains = λ n j i s. ((x.explains n j i s).0 ∙ ap Explained (why_shown l n j i w), ap view (x.explains n j i s).1);
        sleeps = λ n b os s. let z = night_shows l n b (table_for os) [] _ m _ (slept n b os s) y w in ((x.sleeps n b os s).0 ∙ ap Slept z.0, z.1);
        enters = λ es s. entered l es w f r m (x.enters es s);
        owns = λ p s. ((x.owns p s).0 ∙ ap Owned (read_shown l _ w), ap view (x.owns p s).1);
        freshens = λ v s. freshened l v w f r m (x.freshens v s);
        refuses = λ n. ((x.refuses n).0, ap view (x.refuses n).1);
      }

  -- the image stays one
  stays : One m
  stays = by (read_right (replicate 5140 0) t refl)
    where
      same : m ≡ l → One m
      same e = subst One (sym e) (y, w)

      asked : (a : Asked) → Says t a → One m
      asked (calls c) s = (stays_bytes l c _ m (refl, (x.asks c s).1) y, stays_formed l c _ m (refl, (x.asks c s).1) y w)
      asked (why n j i) s = same (x.explains n j i s).1
      asked (night n b os) s = let z = shows_run (night_calling l n b (table_for os) [] _ m _ (slept n b os s)) y w in (z.bytes, z.formed)
      asked (imports es) s = stays_entered l es w f r m y (x.enters es s)
      asked (owner p) s = same (x.owns p s).1
      asked (freshly v) s = stays_fresh l v w f r m y (x.freshens v s)

      by : Readable (replicate 5140 0) t ⊎ Unread (replicate 5140 0) t → One m
      by (inl a) = asked a.asked a.says
      by (inr u) = same (x.refuses u.says).1

-- ---- the lines
told_steps :
    {f : Bool} {l m : List ℕ} {ts : List (List ℕ)} {rs : List Answer} → Told f l ts rs m → Bytes l → formed l ≡ true →
    Steps f (view l) ts rs (view m) × (formed m ≡ true)
told_steps transcript.none y w = (steps.none, w)
told_steps {f = f} {l = l} (transcript.next {k = k} t r x d) y w =
    let s = stays f l t r k x y w in
    let z = told_steps d s.0 s.1 in
    (steps.next t r (stepped f l t r k x y w) z.0, z.1)

closing_heads : (m : List ℕ) → formed m ≡ true → closing m ≡ line_of_heads (heads_in (view m))
unfolding heads_of
closing_heads m w = rw w

prints : (l bytes text m : List ℕ) → Transcript l bytes text m → Bytes l → formed l ≡ true → Prints (view l) bytes text (view m)
prints l bytes text m x y w =
    let z = told_steps x.told y w in
    record {
      replies = x.replies;
      steps = z.0;
      writes = x.writes ∙ ap (λ (i : List ℕ). reply_lines x.replies ++ i) (closing_heads m z.1);
    }

-- ---- the whole
pub printed :
    (l k : List ℕ) (u : Reply) {room bytes text i n out m after kept : List ℕ} {q : Session} {end : ℕ} → length l ≡ image_length → Freshens l 0 u k →
    length room ≡ 5140 → Runs k room begins bytes text q i n → EndsInput i out n (emptied q) end m after kept →
    Prints (fresh false) bytes (text ++ take end after) (view m)
printed l k u {bytes = bytes} {text = text} {m = m} {after = after} {end = end} e f h x y =
    let g : k ≡ fresh_image false = fresh_is false l k u e f in
    let t : Transcript (fresh_image false) bytes (text ++ take end after) m =
    subst (λ (j : List ℕ). Transcript j bytes (text ++ take end after) m) g (transcribed h x y) in
    subst (λ (s : State). Prints s bytes (text ++ take end after) (view m)) (shows_fresh false)
    (prints (fresh_image false) bytes (text ++ take end after) m t (fresh_bytes false) (formed_fresh false))
