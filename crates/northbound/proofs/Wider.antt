-- A number narrowed is answered as the number itself: each call and each read decides the same. Assumes nothing.
use Prim.Native.Nat.{ℕ, ◌≤◌, ◌<◌}
use mathlib.Core.Path.{◌≡◌, refl, sym, ap, ◌∙◌}
use mathlib.Core.Bool.{Bool, true, false, ◌&&◌, cond}
use mathlib.Core.List.{List}
use native.Mathlib.Omega.{arith}
use borrow.Author.Tests.{leb-true, leb-false, le-leb, lt-leb, le-ltb}
use lib.Dec.{eqb, leb, ltb}
use lib.ListN.{length}
use Rattle.kinds.specs.declared.Reply.{Reply}
use Rattle.kinds.specs.Events.{refusal}
use Rattle.machine.specs.State.{last, in_log, is_kept, is_node}
use Rattle.machine.specs.WellFormed.{all_entries, entry_ok, sizes_ok, heads_ok, log_ok, well_formed}
use Rattle.machine.specs.Calls.{Call, Outcome, rollback, connect, disconnect, master, sync, work, fold_to, unless, refused, work_ok, decide}
use Rattle.machine.specs.Reads.{Query, Answer, of_table, of_entry, of_state, of_node, of_owner, of_class, of_took, of_undone, is_field, read}
use Rattle.machine.specs.Reads as reads
use Rattle.machine.proofs.Cases.{and_left, and_right}
use Rattle.image.specs.Records.{flag_of}
use Rattle.image.specs.View.{view, written}
use Rattle.image.specs.Layout.{image_length}
use Rattle.image.specs.Formed.{codes_ok, formed}
use Rattle.controller.specs.declared.reads.Read.{Read}
use Rattle.controller.specs.Fresh as fresh
use Rattle.controller.specs.Claims as controller
use Rattle.controller.specs.Claims.{outcome_of}
use Rattle.controller.specs.Reads as shown
use Rattle.controller.specs.Reads.{read_of}
use Rattle.northbound.specs.declared.Job.{Job}
use Rattle.northbound.specs.Packing.{packed_read, PacksRead}
use Rattle.northbound.specs.Wide.{narrowed, outside, none, small, handed}
use Rattle.northbound.specs.Exports.{Shows}

-- ---- what a number is narrowed to
pub narrow_low : (far x : ℕ) → x ≤ 65535 → x ≡ narrowed far x
narrow_low far x h = sym (ap (λ b. cond b x far) (le-leb x 65535 h))

pub narrow_far : (far x : ℕ) → 65535 < x → far ≡ narrowed far x
narrow_far far x h = sym (ap (λ b. cond b x far) (lt-leb x 65535 h))

-- the five numbers of a job, where all of them are small
pub record Lows (n j i o c : ℕ) : Type 0 where
  pub node : n ≤ 65535
  pub job : j ≤ 65535
  pub number : i ≤ 65535
  pub outcome : o ≤ 65535
  pub cut : c ≤ 65535

pub lows : (n j i o c : ℕ) → small n j i o c ≡ true → Lows n j i o c
lows n j i o c h =
    let a = leb i 65535 in
    let b = leb c 65535 in
    let d = leb o 65535 in
    let e = leb j 65535 in
    let f = leb n 65535 in
    let h4 : a && b && d && e ≡ true = and_left (a && b && d && e) f h in
    let h3 : a && b && d ≡ true = and_left (a && b && d) e h4 in
    let h2 : a && b ≡ true = and_left (a && b) d h3 in
    record {
      node = leb-true n 65535 (and_right (a && b && d && e) f h);
      job = leb-true j 65535 (and_right (a && b && d) e h4);
      number = leb-true i 65535 (and_left a b h2);
      outcome = leb-true o 65535 (and_right (a && b) d h3);
      cut = leb-true c 65535 (and_right a b h2);
    }

pub job_low : (n j i o c : ℕ) → small n j i o c ≡ true → record { node = n; job = j; number = i; outcome = o; cut = c } ≡ handed n j i o c
job_low n j i o c h =
    let x = lows n j i o c h in
    rw (le-leb n 65535 x.node, le-leb j 65535 x.job, le-leb i 65535 x.number, le-leb o 65535 x.outcome, le-leb c 65535 x.cut)

pub job_far : (n j i o c n' j' o' c' : ℕ) → small n j i o c ≡ false
    → n' ≡ narrowed outside n → j' ≡ narrowed outside j → o' ≡ narrowed outside o → c' ≡ narrowed outside c
    → record { node = n'; job = j'; number = none; outcome = o'; cut = c' } ≡ handed n j i o c
job_far n j i o c n' j' o' c' h en ej eo ec = rw (h, en, ej, eo, ec)

-- what holds of a number that is narrowed and of one that is not, holds of every one
pub either : {A : Type 0} (f : ℕ → A) (far x : ℕ) → (65535 < x → f far ≡ f x) → f (narrowed far x) ≡ f x
either f far x h = go (leb x 65535) refl
  where
    go : (b : Bool) → leb x 65535 ≡ b → f (cond b x far) ≡ f x
    go true e = refl
    go false e = h (leb-false x 65535 e)

-- a test that holds of nothing past a bound
pub and_none : (q : Bool) → (q && false) ≡ false
and_none true = refl
and_none false = refl

pub past : (a b x : ℕ) → b < x → (leb a x && leb x b) ≡ false
past a b x h = ap (λ q. leb a x && q) (lt-leb x b h) ∙ and_none (leb a x)

-- ---- the kind of a fresh image: one past 1 is refused
pub wide_fresh : (l : List ℕ) (v x : ℕ) (r : Reply) (m : List ℕ) → x ≡ narrowed outside v → fresh.Freshens l x r m → fresh.Freshens l v r m
wide_fresh l v x r m e f =
    let b = eqb (length l) image_length in (
      f.0 ∙ ap (λ (y : ℕ). refusal (fresh.answer_if b (leb y 1))) e ∙ either (λ y. refusal (fresh.answer_if b (leb y 1))) outside v (λ h. answered b (sym (lt-leb v 1 (omega arith)))),
      f.1 ∙ ap (λ (y : ℕ). fresh.image_if b (leb y 1) (flag_of y) l) e ∙ either (λ y. fresh.image_if b (leb y 1) (flag_of y) l) outside v (λ h. left b (sym (lt-leb v 1 (omega arith)))),
    )
  where
    answered : (b : Bool) → false ≡ leb v 1 → refusal (fresh.answer_if b false) ≡ refusal (fresh.answer_if b (leb v 1))
    answered b e = ap (λ (y : Bool). refusal (fresh.answer_if b y)) e

    none_left : (b : Bool) → fresh.image_if b false (flag_of outside) l ≡ fresh.image_if b false (flag_of v) l
    none_left true = refl
    none_left false = refl

    left : (b : Bool) → false ≡ leb v 1 → fresh.image_if b false (flag_of outside) l ≡ fresh.image_if b (leb v 1) (flag_of v) l
    left b e = none_left b ∙ ap (λ (y : Bool). fresh.image_if b y (flag_of v) l) e

-- ---- refused alike
refuse_2 : (f b : Bool) (y : Outcome) → b ≡ false → unless 1 f (refused 2) ≡ unless 1 f (unless 2 b y)
refuse_2 f b y e = ap (λ q. unless 1 f (unless 2 q y)) (sym e)

both_2 : (f a b : Bool) (x y : Outcome) → a ≡ false → b ≡ false → unless 1 f (unless 2 a x) ≡ unless 1 f (unless 2 b y)
both_2 f a b x y d e = ap (λ q. unless 1 f (unless 2 q x)) d ∙ refuse_2 f b y e

refuse_5 : (f w b : Bool) (y : Outcome) → (f ≡ true → b ≡ false) → unless 1 f (unless 2 w (refused 5)) ≡ unless 1 f (unless 2 w (unless 5 b y))
refuse_5 true w b y h = ap (λ q. unless 2 w (unless 5 q y)) (sym (h refl))
refuse_5 false w b y h = refl

both_5 : (f a b : Bool) (x y : Outcome) → a ≡ false → (f ≡ true → b ≡ false) → unless 1 f (unless 5 a x) ≡ unless 1 f (unless 5 b y)
both_5 f a b x y d h = ap (λ q. unless 1 f (unless 5 q x)) d ∙ refuse_5 f true b y h

module _ (l : List ℕ) where
  -- no log goes past 65,535
  last_low : formed l ≡ true → last (view l).log ≤ 65535
  unfolding formed well_formed
  last_low e =
      let w : well_formed (view l) ≡ true = and_right (codes_ok l) (well_formed (view l)) (and_right (eqb (length l) image_length) (codes_ok l && well_formed (view l)) e) in
      leb-true (last (view l).log) 65535 (and_right (leb (length (view l).log.entries) 128) (leb (last (view l).log) 65535)
      (and_left (log_ok (view l).log) (heads_ok (view l) (last (view l).log) && (all_entries entry_ok (view l).log && sizes_ok (view l))) w))

  pub past_last : (i : ℕ) → 65535 < i → formed l ≡ true → in_log (view l) i ≡ false
  past_last i h e = past 1 (last (view l).log) i (omega (arith, last_low e))

  -- ---- the calls
  pub wide_rollback : (i : ℕ) → outcome_of l (rollback (narrowed none i)) ≡ outcome_of l (rollback i)
  unfolding outcome_of decide
  wide_rollback i = either (λ x. outcome_of l (rollback x)) none i (λ h. refuse_5 (formed l) true (in_log (view l) i) _ (past_last i h))

  pub wide_fold : (i : ℕ) → outcome_of l (fold_to (narrowed none i)) ≡ outcome_of l (fold_to i)
  unfolding outcome_of decide
  wide_fold i = either (λ x. outcome_of l (fold_to x)) none i
      (λ h. both_5 (formed l) (is_kept (view l) 0 && leb 0 (last (view l).log)) (is_kept (view l) i && leb i (last (view l).log)) _ _
      (ap (λ q. q && leb 0 (last (view l).log)) (le-ltb (view l).log.folded.0 0 (omega arith)))
      (λ e. ap (λ q. is_kept (view l) i && q) (lt-leb i (last (view l).log) (omega (arith, last_low e))) ∙ and_none (is_kept (view l) i)))

  pub wide_connect : (n : ℕ) → outcome_of l (connect (narrowed outside n)) ≡ outcome_of l (connect n)
  unfolding outcome_of decide
  wide_connect n = either (λ x. outcome_of l (connect x)) outside n (λ h. refuse_2 (formed l) (is_node n) _ (past 1 8 n (omega arith)))

  pub wide_disconnect : (n : ℕ) → outcome_of l (disconnect (narrowed outside n)) ≡ outcome_of l (disconnect n)
  unfolding outcome_of decide
  wide_disconnect n = either (λ x. outcome_of l (disconnect x)) outside n (λ h. refuse_2 (formed l) (is_node n) _ (past 1 8 n (omega arith)))

  pub wide_master : (n : ℕ) → outcome_of l (master (narrowed outside n)) ≡ outcome_of l (master n)
  unfolding outcome_of decide
  wide_master n = either (λ x. outcome_of l (master x)) outside n (λ h. refuse_2 (formed l) (is_node n) _ (past 1 8 n (omega arith)))

  pub wide_sync : (n : ℕ) → outcome_of l (sync (narrowed outside n)) ≡ outcome_of l (sync n)
  unfolding outcome_of decide
  wide_sync n = either (λ x. outcome_of l (sync x)) outside n (λ h. refuse_2 (formed l) (is_node n) _ (past 1 8 n (omega arith)))

  -- the five numbers of a job, one after another
  module _ (n j i r c : ℕ) where
    abbrev job_ok : Bool
    job_ok = leb 1 j && leb j 4

    abbrev rest_ok : Bool
    rest_ok = leb r 1 && leb c 2

    wide_node : outcome_of l (work (narrowed outside n) j i r c) ≡ outcome_of l (work n j i r c)
    unfolding outcome_of decide
    wide_node = either (λ x. outcome_of l (work x j i r c)) outside n
        (λ h. refuse_2 (formed l) (work_ok n j r c) _ (ap (λ q. (q && job_ok) && rest_ok) (past 1 8 n (omega arith))))

    wide_job : outcome_of l (work n (narrowed outside j) i r c) ≡ outcome_of l (work n j i r c)
    unfolding outcome_of decide
    wide_job = either (λ x. outcome_of l (work n x i r c)) outside j
        (λ h. both_2 (formed l) (work_ok n 65535 r c) (work_ok n j r c) _ _ (ap (λ q. q && rest_ok) (and_none (is_node n)))
        (ap (λ q. (is_node n && q) && rest_ok) (past 1 4 j (omega arith)) ∙ ap (λ q. q && rest_ok) (and_none (is_node n))))

    wide_number : outcome_of l (work n j (narrowed none i) r c) ≡ outcome_of l (work n j i r c)
    unfolding outcome_of decide
    wide_number = either (λ x. outcome_of l (work n j x r c)) none i (λ h. refuse_5 (formed l) (work_ok n j r c) (in_log (view l) i) _ (past_last i h))

    abbrev side_ok : Bool
    side_ok = is_node n && job_ok

    wide_outcome : outcome_of l (work n j i (narrowed outside r) c) ≡ outcome_of l (work n j i r c)
    unfolding outcome_of decide
    wide_outcome = either (λ x. outcome_of l (work n j i x c)) outside r
        (λ h. both_2 (formed l) (work_ok n j 65535 c) (work_ok n j r c) _ _ (and_none side_ok)
        (ap (λ q. side_ok && (q && leb c 2)) (lt-leb r 1 (omega arith)) ∙ and_none side_ok))

    wide_cut : outcome_of l (work n j i r (narrowed outside c)) ≡ outcome_of l (work n j i r c)
    unfolding outcome_of decide
    wide_cut = either (λ x. outcome_of l (work n j i r x)) outside c
        (λ h. both_2 (formed l) (work_ok n j r 65535) (work_ok n j r c) _ _ (ap (λ q. side_ok && q) (and_none (leb r 1)) ∙ and_none side_ok)
        (ap (λ q. side_ok && (leb r 1 && q)) (lt-leb c 2 (omega arith)) ∙ ap (λ q. side_ok && q) (and_none (leb r 1)) ∙ and_none side_ok))

  pub wide_work : (n j i r c : ℕ)
      → outcome_of l (work (narrowed outside n) (narrowed outside j) (narrowed none i) (narrowed outside r) (narrowed outside c)) ≡ outcome_of l (work n j i r c)
  wide_work n j i r c =
      wide_node n _ _ _ _ ∙ wide_job n j _ _ _ ∙ wide_number n j i _ _ ∙ wide_outcome n j i r _ ∙ wide_cut n j i r c

  -- a job that is refused with 2 is so whatever its number is
  any_number : (n j i k r c : ℕ) → work_ok n j r c ≡ false → outcome_of l (work n j i r c) ≡ outcome_of l (work n j k r c)
  unfolding outcome_of decide
  any_number n j i k r c e = both_2 (formed l) (work_ok n j r c) (work_ok n j r c) _ _ e e

  wide_handed : (n j i r c : ℕ)
      → outcome_of l (work (narrowed outside n) (narrowed outside j) (cond (small n j i r c) i none) (narrowed outside r) (narrowed outside c)) ≡ outcome_of l
      (work n j i r c)
  wide_handed n j i r c = by (leb i 65535) (leb c 65535) (leb r 65535) (leb j 65535) (leb n 65535) ∙ wide_work n j i r c
    where
      by : (a b d e f : Bool)
          → outcome_of l (work (cond f n outside) (cond e j outside) (cond (a && b && d && e && f) i none) (cond d r outside) (cond b c outside)) ≡ outcome_of l
          (work (cond f n outside) (cond e j outside) (cond a i none) (cond d r outside) (cond b c outside))
      by false b d e f = refl
      by true true true true true = refl
      by true false d e f =
          any_number (cond f n outside) (cond e j outside) none i (cond d r outside) outside
          (ap (λ q. side_ok (cond f n outside) (cond e j outside) 0 0 0 && q) (and_none (leb (cond d r outside) 1)) ∙ and_none (side_ok (cond f n outside)
          (cond e j outside) 0 0 0))
      by true true false e f =
          any_number (cond f n outside) (cond e j outside) none i outside c (and_none (side_ok (cond f n outside) (cond e j outside) 0 0 0))
      by true true true false f =
          any_number (cond f n outside) outside none i r c (ap (λ q. q && (leb r 1 && leb c 2)) (and_none (is_node (cond f n outside))))
      by true true true true false = any_number outside j none i r c refl

  -- ---- the reads
  refuse_read : (b : Bool) (y : Answer) → b ≡ false → shown.unless (formed l) (reads.refuses 2) ≡ shown.unless (formed l) (reads.unless 2 b y)
  refuse_read b y e = ap (λ q. shown.unless (formed l) (reads.unless 2 q y)) (sym e)

  read_5 : (f w b : Bool) (y : Answer) → (f ≡ true → b ≡ false) → shown.unless f (reads.unless 2 w (reads.refuses 5)) ≡ shown.unless f (reads.unless 2 w (reads.unless 5 b y))
  read_5 true w b y h = ap (λ q. reads.unless 2 w (reads.unless 5 q y)) (sym (h refl))
  read_5 false w b y h = refl

  -- what a read is refused with whose field or path is too great
  abbrev Far : Query → Type 0
  Far q = read_of l q ≡ shown.given (shown.unless (formed l) (reads.refuses 2))

  pub wide_table : (b p : ℕ) → read_of l (of_table (narrowed outside b) p) ≡ read_of l (of_table b p)
  unfolding read_of read
  wide_table b p = either (λ x. read_of l (of_table x p)) outside b
      (λ h. ap shown.given (refuse_read (is_field 4 b && ltb p 32) _ (ap (λ q. q && ltb p 32) (past 1 4 b (omega arith)))))

  pub far_path : (b p : ℕ) → 65535 < p → Far (of_table b p)
  unfolding read_of read
  far_path b p h =
      sym (ap shown.given (refuse_read (is_field 4 b && ltb p 32) _ (ap (λ q. is_field 4 b && q) (le-ltb p 32 (omega arith)) ∙ and_none (is_field 4 b))))

  pub wide_owner : (p : ℕ) → read_of l (of_owner (narrowed outside p)) ≡ read_of l (of_owner p)
  unfolding read_of read
  wide_owner p = either (λ x. read_of l (of_owner x)) outside p (λ h. ap shown.given (refuse_read (ltb p 32) _ (le-ltb p 32 (omega arith))))

  pub wide_entry : (i f : ℕ) → read_of l (of_entry (narrowed none i) f) ≡ read_of l (of_entry i f)
  unfolding read_of read
  wide_entry i f = either (λ x. read_of l (of_entry x f)) none i (λ h. ap shown.given (read_5 (formed l) (is_field 21 f) (in_log (view l) i) _ (past_last i h)))

  pub far_mark : (i f : ℕ) → 65535 < f → Far (of_entry i f)
  unfolding read_of read
  far_mark i f h = sym (ap shown.given (refuse_read (is_field 21 f) _ (past 1 21 f (omega arith))))

  pub wide_class : (i : ℕ) → read_of l (of_class (narrowed none i)) ≡ read_of l (of_class i)
  unfolding read_of read
  wide_class i = either (λ x. read_of l (of_class x)) none i (λ h. ap shown.given (read_5 (formed l) true (in_log (view l) i) _ (past_last i h)))

  pub wide_took : (i : ℕ) → read_of l (of_took (narrowed none i)) ≡ read_of l (of_took i)
  unfolding read_of read
  wide_took i = either (λ x. read_of l (of_took x)) none i (λ h. ap shown.given (read_5 (formed l) true (in_log (view l) i) _ (past_last i h)))

  pub wide_undone : (i : ℕ) → read_of l (of_undone (narrowed none i)) ≡ read_of l (of_undone i)
  unfolding read_of read
  wide_undone i = either (λ x. read_of l (of_undone x)) none i (λ h. ap shown.given (read_5 (formed l) true (in_log (view l) i) _ (past_last i h)))

  pub wide_record : (f : ℕ) → read_of l (of_state (narrowed outside f)) ≡ read_of l (of_state f)
  unfolding read_of read
  wide_record f = either (λ x. read_of l (of_state x)) outside f (λ h. ap shown.given (refuse_read (is_field 18 f) _ (past 1 18 f (omega arith))))

  pub wide_node_read : (n f : ℕ) → read_of l (of_node (narrowed outside n) f) ≡ read_of l (of_node n f)
  unfolding read_of read
  wide_node_read n f = either (λ x. read_of l (of_node x f)) outside n
      (λ h. ap shown.given (refuse_read (is_node n && is_field 2 f) _ (ap (λ q. q && is_field 2 f) (past 1 8 n (omega arith)))))

  pub far_side : (n f : ℕ) → 65535 < f → Far (of_node n f)
  unfolding read_of read
  far_side n f h =
      sym (ap shown.given (refuse_read (is_node n && is_field 2 f) _ (ap (λ q. is_node n && q) (past 1 2 f (omega arith)) ∙ and_none (is_node n))))

  pub shows_far : (q : Query) (r : ℕ) → Far q → r ≡ cond (formed l) 2 1 → Shows l q r
  unfolding packed_read
  shows_far q r e h = by (formed l) (read_of l q) e h
    where
      by : (b : Bool) (x : Read) → x ≡ shown.given (shown.unless b (reads.refuses 2)) → r ≡ cond b 2 1 → PacksRead x r
      by true x i k = rw (i, k) (refl, refl)
      by false x i k = rw (i, k) (refl, refl)

-- ---- so the contract of a call with a narrowed number is that of the call
claims_same : (l : List ℕ) (c d : Call) (r : Reply) (m : List ℕ) → outcome_of l c ≡ outcome_of l d → controller.Claims l c r m → controller.Claims l d r m
claims_same l c d r m e k = (k.0 ∙ ap (λ o. o.reply) e, k.1 ∙ ap (λ o. written l o.stores) e)

pub claims_wide : (l : List ℕ) (k : ℕ → Call) (far n x : ℕ) (r : Reply) (m : List ℕ) → x ≡ narrowed far n → outcome_of l (k (narrowed far n)) ≡ outcome_of l (k n)
    → controller.Claims l (k x) r m → controller.Claims l (k n) r m
claims_wide l k far n x r m e w = claims_same l (k x) (k n) r m (ap (λ y. outcome_of l (k y)) e ∙ w)

pub claims_work : (l : List ℕ) (n j i o c : ℕ) (w : Job) (r : Reply) (m : List ℕ) → w ≡ handed n j i o c
    → controller.Claims l (work w.node w.job w.number w.outcome w.cut) r m → controller.Claims l (work n j i o c) r m
claims_work l n j i o c w r m e =
    claims_same l (work w.node w.job w.number w.outcome w.cut) (work n j i o c) r m
    (ap (λ (x : Job). outcome_of l (work x.node x.job x.number x.outcome x.cut)) e ∙ wide_handed l n j i o c)

pub shows_one : (l : List ℕ) (k : ℕ → Query) (far n x : ℕ) (r : Read) → x ≡ narrowed far n → read_of l (k (narrowed far n)) ≡ read_of l (k n) → r ≡ read_of l (k x) → r ≡ read_of l (k n)
shows_one l k far n x r e w s = s ∙ ap (λ y. read_of l (k y)) e ∙ w
