-- A night, as the code makes it: the table, the four jobs of an entry, the scan of a turn, the turns one after another on the
-- bytes, and their events in the room. Assumes nothing.
use Prim.Native.Nat.{ℕ, zero, suc, ◌+◌, ◌-◌, ◌*◌, ◌/◌, ◌≤◌, ◌<◌}
use mathlib.Core.Path.{◌≡◌, refl, ap, ap₂, sym, ◌∙◌, subst}
use mathlib.Core.Bool.{Bool, true, false, ◌&&◌, ◌||◌, cond}
use mathlib.Core.List.{List, [], ◌∷◌}
use native.Mathlib.Omega.{arith}
use borrow.Author.Tests.{eqb-true, eqb-false, eq-eqb, ne_eqb, le-leb, lt-leb, lt-ltb, le-ltb, ltb-false}
use lib.Dec.{eqb, leb, ltb}
use lib.ListN.{length, get_or}
use Rattle.std.specs.List.{list_all}
use Rattle.kinds.specs.declared.Transaction.{Transaction}
use Rattle.kinds.specs.declared.Head.{Head}
use Rattle.kinds.specs.declared.Number.{Number}
use Rattle.kinds.specs.declared.Ordinal.{Ordinal}
use Rattle.kinds.specs.declared.Mastership.{Mastership}
use Rattle.kinds.specs.declared.Event.{Event}
use Rattle.kinds.specs.declared.Reply.{Reply}
use Rattle.kinds.specs.Numbers.{num, follows, next_ordinal}
use Rattle.kinds.specs.Statuses.{code_of, is_pending}
use Rattle.rules.specs.declared.Plan.{Plan}
use Rattle.rules.specs.declared.Present.{Present}
use Rattle.rules.specs.declared.CommitChangeRule.{CommitChangeRule}
use Rattle.rules.specs.declared.CommitRollbackRule.{CommitRollbackRule}
use Rattle.rules.specs.declared.CommitChangeRule.TheVariants as change
use Rattle.rules.specs.declared.CommitRollbackRule.TheVariants as rollback
use Rattle.rules.specs.CommitChange as job1
use Rattle.rules.specs.CommitRollback as job3
use Rattle.rules.specs.ApplyChange.{apply_change}
use Rattle.rules.specs.ApplyRollback.{apply_rollback}
use Rattle.machine.specs.State.{State, entry_of, last, in_log, is_kept, is_node, is_master, line_open_for}
use Rattle.machine.specs.Settled.{settled}
use Rattle.machine.specs.Rest.{rest_of}
use Rattle.machine.specs.Rows.{rows_of, event_of}
use Rattle.machine.proofs.Next.{event_of_whole}
use Rattle.machine.specs.Calls.{Call, Outcome, work, unless, work_ok, plan_of, planned, commits, present_of, decide}
use Rattle.machine.specs.Step.{step, state_from, events_from}
use Rattle.machine.specs.Night as machine
use Rattle.machine.specs.Night.{bits, table_ok, trial, turn, all, turns, needs_line, stopped_by, why_stopped, night_ok}
use Rattle.machine.proofs.Turns.{first_accepted, one_more, none_more, plan_answers, Scanned, scanned_none, scanned_more, scanned_end, found_1, found_2, found_3, found_4}
use Rattle.machine.proofs.Worked.{worked, worked_leaves}
use Rattle.fields.specs.Field.{put_field, put_fields}
use Rattle.fields.proofs.Laws.{Bytes}
use Rattle.fields.proofs.Runs.{length_puts}
use Rattle.image.specs.Layout.{committed_at, applied_at, image_length}
use Rattle.image.specs.Records.{entry_at, last_of, folded_of, change_of, head_at, mastership_of}
use Rattle.image.specs.View.{view, written}
use Rattle.image.specs.Formed.{formed}
use Rattle.image.proofs.Scanned.{formed_state}
use Rattle.image.proofs.UpTo.{and_left, and_right}
use Rattle.staying.proofs.Stays.{steps, shows, stays_bytes, stays_formed}
use Rattle.controller.specs.declared.nights.Night.{Night}
use Rattle.controller.specs.declared.nights.Scene.{Scene}
use Rattle.controller.specs.declared.nights.Tried.{Tried}
use Rattle.controller.specs.declared.nights.Found.{Found}
use Rattle.controller.specs.Claims.{outcome_of, Does}
use Rattle.controller.specs.Nights.{lent_from, put_event, room_after, event_size, fours, event_numbers, fitting, given, Leaves, Nights, night_in, refuses, Awake, scene_of, is_next, settled_at, no_present, present_at, stands, idle, idle_in, Quiet, first_of, tries, plans_by, outcome_in, Finds, Turns, stopped_at, Through, Nighted}
use Rattle.controller.proofs.Decided.{size, entry_of_holds, room, last_is, next_change_holds, next_rollback_holds, begin_present}
use Rattle.controller.proofs.Idle.{told_idle, idle_waits, folds_nothing, idle_stays}

-- ---- the table
pub bits_all : (os : List ℕ) → list_all (λ x. leb x 1) os ≡ bits os
unfolding bits
bits_all [] = refl
bits_all (o ∷ os) = ap (λ (x : Bool). leb o 1 && x) (bits_all os)

module _ (os : List ℕ) where
  pub table_bits : (r : Bool) → length os ≡ 256 → r ≡ bits os → r ≡ table_ok os
  table_bits r e q = q ∙ sym (ap (λ (x : Bool). x && bits os) (eq-eqb (length os) 256 e))

  pub table_not : (length os ≡ 256 → ⊥) → false ≡ table_ok os
  table_not n = sym (ap (λ (x : Bool). x && bits os) (ne_eqb (length os) 256 n))

  pub args_table : (n b : ℕ) (x r : Bool) → x ≡ is_node n → (x && leb b 4096) ≡ true → r ≡ table_ok os → r ≡ night_ok n b os
  args_table n b x r e t q = q ∙ sym (ap (λ (y : Bool). y && table_ok os) (ap (λ (y : Bool). y && leb b 4096) (sym e) ∙ t))

  pub args_not : (n b : ℕ) (x : Bool) → x ≡ is_node n → (x && leb b 4096) ≡ false → false ≡ night_ok n b os
  args_not n b x e t = sym (ap (λ (y : Bool). y && table_ok os) (ap (λ (y : Bool). y && leb b 4096) (sym e) ∙ t))

-- ---- what is small
module _ (j : ℕ) where
  pub stopped_1 : (x : Bool) → j ≡ 0 → x ≡ true → 1 ≡ stopped_at j x
  stopped_1 x e t = rw (eq-eqb j 0 e, t)

  pub stopped_0 : (x : Bool) → j ≡ 0 → x ≡ false → 0 ≡ stopped_at j x
  stopped_0 x e t = rw (eq-eqb j 0 e, t)

  pub stopped_2 : (x : Bool) → (j ≡ 0 → ⊥) → 2 ≡ stopped_at j x
  stopped_2 x n = rw (ne_eqb j 0 n)

module _ (k r : ℕ) where
  pub fits_all : k < r / event_size → k ≡ fitting k r
  fits_all h = rw (lt-ltb k (r / 16) h)

  pub fits_some : r / event_size ≤ k → r / event_size ≡ fitting k r
  fits_some h = rw (le-ltb k (r / 16) h)

-- of no jobs, none
fits_none : (r : ℕ) → 0 ≡ fitting 0 r
fits_none r = go (ltb 0 (r / 16)) refl
  where
    go : (x : Bool) → ltb 0 (r / 16) ≡ x → 0 ≡ cond x 0 (r / 16)
    go true e = refl
    go false e = let z : r / 16 ≤ 0 = ltb-false 0 (r / 16) e in omega arith

-- ---- an event, put
module _ (m : List ℕ) (k : ℕ) (e : Event) where
  pub event_in_holds : (m1 m2 m3 m4 : List ℕ) (i s : ℕ) → event_size * k + event_size ≤ length m
      → m1 ≡ put_field m (event_size * k) 4 e.phase → m2 ≡ put_field m1 (event_size * k + 4) 4 e.stage
      → i ≡ e.number.0 → m3 ≡ put_field m2 (event_size * k + 8) 4 i
      → s ≡ code_of e.status → m4 ≡ put_field m3 (event_size * k + 12) 4 s
      → m4 ≡ put_event m k e
  unfolding put_event put_fields
  event_in_holds m1 m2 m3 m4 i s h p1 p2 ei p3 es p4 =
      let eight : event_size * k + 4 + 4 ≡ event_size * k + 8 = omega arith in
      let twelve : event_size * k + 8 + 4 ≡ event_size * k + 12 = omega arith in
      rw (p4, p3, p2, p1, ei, es, le-leb (16 * k + 16) (length m) h, eight, twelve)

  pub event_out : length m < event_size * k + event_size → m ≡ put_event m k e
  unfolding put_event
  event_out h = rw (lt-leb (16 * k + 16) (length m) h)

-- ---- the scene
pub scene_shown : (l : List ℕ) (n : ℕ) (h g : Head) (k : Number) (q x : Bool) → h ≡ head_at l committed_at → k ≡ num (change_of l) → q ≡ rest_of (view l)
    → g ≡ head_at l applied_at → x ≡ line_open_for (view l).net n → ◌≡◌ {A = Scene} (record { committed = h; change = k; rest = q; applied = g; line = x }) (scene_of (view l) n)
unfolding view
scene_shown l n h g k q x eh ek eq eg ex = rw (eh, ek, eq, eg, ex)

-- ---- settled, asked where a side is next
module _ (a : ℕ) (t : Transaction) (s : State) (x y : Bool) (ex : x ≡ is_next a t.change) (ey : y ≡ is_next a t.rollback) where
  next_is : (z : Bool) → (x || y) ≡ z → (is_next a t.change || is_next a t.rollback) ≡ z
  next_is z e = sym (ap₂ (λ (u v : Bool). u || v) ex ey) ∙ e

  pub asked_settled : (r : Bool) → (x || y) ≡ true → r ≡ settled s → r ≡ settled_at a t s
  unfolding settled_at
  asked_settled r e q = q ∙ sym (ap (λ (z : Bool). cond z (settled s) true) (next_is true e))

  pub asked_not : (x || y) ≡ false → true ≡ settled_at a t s
  unfolding settled_at
  asked_not e = sym (ap (λ (z : Bool). cond z (settled s) true) (next_is false e))

-- ---- what is present, loaded where a change may begin
module _ (c i : ℕ) (s : State) (t : Transaction) (x y : Bool) (ex : x ≡ is_pending t.change.commit) (ey : y ≡ follows c i) where
  begins_is : (z : Bool) → (x && y) ≡ z → (is_pending t.change.commit && follows c i) ≡ z
  begins_is z e = sym (ap₂ (λ (u v : Bool). u && v) ex ey) ∙ e

  pub loaded_present : (r : Present) → (x && y) ≡ true → r ≡ present_of s t → r ≡ present_at c i t s
  unfolding present_at
  loaded_present r e q = q ∙ sym (ap (λ (z : Bool). cond z (present_of s t) no_present) (begins_is true e))

  pub loaded_none : (r : Present) → (x && y) ≡ false → r ≡ no_present → r ≡ present_at c i t s
  unfolding present_at
  loaded_none r e q = q ∙ sym (ap (λ (z : Bool). cond z (present_of s t) no_present) (begins_is false e))

-- ---- the first of four answers
-- what job 1 answers where nothing is present: its answer is asked, not its plan
pub asked_1 : (t : Transaction) (x : Scene) (i : Number) (v : Bool) (vs : Present) (p : Plan) → vs ≡ no_present
    → p ≡ job1.commit_change t x.committed x.change x.rest i v vs → p.answer ≡ (job1.commit_change t x.committed x.change x.rest i v no_present).answer
asked_1 t x i v vs p e q = ap (λ (y : Plan). y.answer) (q ∙ ap (job1.commit_change t x.committed x.change x.rest i v) e)

module _ (a b c d : ℕ) where
  pub first_1 : (p : ℕ) → p ≡ a → p ≡ 0 → ◌≡◌ {A = Tried} (record { job = 1; lacks = false }) (first_of a b c d)
  unfolding first_of
  first_1 p ea za = rw (eq-eqb a 0 (sym ea ∙ za))

  module _ (p : ℕ) (ea : p ≡ a) (na : p ≡ 0 → ⊥) where
    x : eqb a 0 ≡ false
    x = ne_eqb a 0 (λ z. na (ea ∙ z))

    pub first_2 : (q : ℕ) → q ≡ b → q ≡ 0 → ◌≡◌ {A = Tried} (record { job = 2; lacks = false }) (first_of a b c d)
    unfolding first_of
    first_2 q eb zb = rw (x, eq-eqb b 0 (sym eb ∙ zb))

    module _ (q : ℕ) (eb : q ≡ b) (nb : q ≡ 0 → ⊥) where
      y : eqb b 0 ≡ false
      y = ne_eqb b 0 (λ z. nb (eb ∙ z))

      pub first_3 : (r : ℕ) → r ≡ c → r ≡ 0 → ◌≡◌ {A = Tried} (record { job = 3; lacks = false }) (first_of a b c d)
      unfolding first_of
      first_3 r ec zc = rw (x, y, eq-eqb c 0 (sym ec ∙ zc))

      module _ (r : ℕ) (ec : r ≡ c) (nc : r ≡ 0 → ⊥) where
        pub first_4 : (s : ℕ) → s ≡ d → s ≡ 0 → ◌≡◌ {A = Tried} (record { job = 4; lacks = false }) (first_of a b c d)
        unfolding first_of
        first_4 s ed zd = rw (x, y, ne_eqb c 0 (λ z. nc (ec ∙ z)), eq-eqb d 0 (sym ed ∙ zd))

        pub first_0 : (s : ℕ) → s ≡ d → (s ≡ 0 → ⊥) → ◌≡◌ {A = Tried} (record { job = 0; lacks = eqb q 12 || eqb s 12 }) (first_of a b c d)
        unfolding first_of
        first_0 s ed nd = rw (x, y, ne_eqb c 0 (λ z. nc (ec ∙ z)), ne_eqb d 0 (λ z. nd (ed ∙ z)), eb, ed)

-- ---- the plan of one of four jobs
module _ (j : ℕ) (t : Transaction) (i : Number) (x : Scene) (q v u : Bool) (vs : Present) (p : Plan) where
  pub by_1 : (ws : Present) → j ≡ 1 → ws ≡ vs → p ≡ job1.commit_change t x.committed x.change x.rest i v ws → p ≡ plans_by j t i x q v u vs
  unfolding plans_by
  by_1 ws e ew ep = ep ∙ ap (job1.commit_change t x.committed x.change x.rest i v) ew ∙ rw (eq-eqb j 1 e)

  pub by_2 : (j ≡ 1 → ⊥) → j ≡ 2 → p ≡ apply_change t x.applied q i x.line u → p ≡ plans_by j t i x q v u vs
  unfolding plans_by
  by_2 a e ep = ep ∙ rw (ne_eqb j 1 a, eq-eqb j 2 e)

  pub by_3 : (j ≡ 1 → ⊥) → (j ≡ 2 → ⊥) → j ≡ 3 → p ≡ job3.commit_rollback t x.committed x.rest i → p ≡ plans_by j t i x q v u vs
  unfolding plans_by
  by_3 a b e ep = ep ∙ rw (ne_eqb j 1 a, ne_eqb j 2 b, eq-eqb j 3 e)

  pub by_4 : (j ≡ 1 → ⊥) → (j ≡ 2 → ⊥) → (j ≡ 3 → ⊥) → p ≡ apply_rollback t x.applied q i x.line true → p ≡ plans_by j t i x q v u vs
  unfolding plans_by
  by_4 a b e ep = ep ∙ rw (ne_eqb j 1 a, ne_eqb j 2 b, ne_eqb j 3 e)

-- ---- what the rules answer
-- what job 1 would keep does not change its answer
module _ (t : Transaction) (h : Head) (i : Number) (o : Ordinal) where
  answer_same : (r : CommitChangeRule) (vs ws : Present) → (job1.plans r t h i o vs).answer ≡ (job1.plans r t h i o ws).answer
  answer_same change.Begin vs ws = refl
  answer_same change.Aim vs ws = refl
  answer_same change.Land vs ws = refl
  answer_same change.Full vs ws = refl
  answer_same change.Reject vs ws = refl
  answer_same change.Finish vs ws = refl
  answer_same change.Close vs ws = refl
  answer_same change.Wait vs ws = refl

  -- and the commit jobs never answer 12
  open_1 : (r : CommitChangeRule) (vs : Present) → eqb (job1.plans r t h i o vs).answer 12 ≡ false
  open_1 change.Begin vs = refl
  open_1 change.Aim vs = refl
  open_1 change.Land vs = refl
  open_1 change.Full vs = refl
  open_1 change.Reject vs = refl
  open_1 change.Finish vs = refl
  open_1 change.Close vs = refl
  open_1 change.Wait vs = refl

  open_3 : (r : CommitRollbackRule) → eqb (job3.plans r t h i o).answer 12 ≡ false
  open_3 rollback.Begin = refl
  open_3 rollback.Aim = refl
  open_3 rollback.Land = refl
  open_3 rollback.Full = refl
  open_3 rollback.Finish = refl
  open_3 rollback.Wait = refl

module _ (s : State) (n i : ℕ) where
  abbrev t : Transaction
  t = entry_of s.log i

  abbrev rule1 : Bool → CommitChangeRule
  rule1 v = job1.rule t.change.commit (job1.tests s.committed.head s.change (rest_of s) (num i) v)

  abbrev rule3 : CommitRollbackRule
  rule3 = job3.rule t.rollback.commit (job3.tests s.committed.head t.index (rest_of s) (num i))

  abbrev o : Ordinal
  o = next_ordinal s.committed.head.ordinal

  tries_plans : (v u : Bool) → tries t (num i) (scene_of s n) (settled_at s.applied.head.ordinal.0 t s) v u
      ≡ first_of (plan_of s n 1 i v).answer (plan_of s n 2 i u).answer (plan_of s n 3 i true).answer (plan_of s n 4 i true).answer
  unfolding plan_of
  tries_plans v u =
      let h = s.applied.head in
      let q = settled_at h.ordinal.0 t s in
      let line = line_open_for s.net n in
      ap (λ (a : ℕ). first_of a (apply_change t h q (num i) line u).answer (plan_of s n 3 i true).answer (apply_rollback t h q (num i) line true).answer)
      (answer_same t s.committed.head (num i) o (rule1 v) no_present (present_of s t))
      ∙ ap₂ (λ (a b : Plan). first_of (plan_of s n 1 i v).answer a.answer (plan_of s n 3 i true).answer b.answer) (next_change_holds t h s (num i) line u)
      (next_rollback_holds t h s (num i) line true)

  -- the plan of a job, by the two outcomes of its number
  plans_by_holds : (j v u : ℕ) → plans_by j t (num i) (scene_of s n) (settled_at s.applied.head.ordinal.0 t s) (eqb v 0) (eqb u 0) (present_at s.change.0 i t s)
      ≡ plan_of s n j i (eqb (cond (eqb j 1) v (cond (eqb j 2) u 0)) 0)
  unfolding plan_of plans_by
  plans_by_holds j v u = go (eqb j 1) (eqb j 2) (eqb j 3)
    where
      go : (a b d : Bool)
          → (let h = s.applied.head in
          let q = settled_at h.ordinal.0 t s in
          let line = line_open_for s.net n in
          let ok = eqb (cond a v (cond b u 0)) 0 in
          cond a (job1.commit_change t s.committed.head s.change (rest_of s) (num i) (eqb v 0) (present_at s.change.0 i t s))
          (cond b (apply_change t h q (num i) line (eqb u 0))
          (cond d (job3.commit_rollback t s.committed.head (rest_of s) (num i)) (apply_rollback t h q (num i) line true)))
          ≡ cond a (job1.commit_change t s.committed.head s.change (rest_of s) (num i) ok (present_of s t))
          (cond b (apply_change t h (settled s) (num i) line ok)
          (cond d (job3.commit_rollback t s.committed.head (rest_of s) (num i)) (apply_rollback t h (settled s) (num i) line ok))))
      go true b d = begin_present t s.committed.head s.change (rest_of s) (num i) (eqb v 0) s
      go false true d = next_change_holds t s.applied.head s (num i) (line_open_for s.net n) (eqb u 0)
      go false false true = refl
      go false false false = next_rollback_holds t s.applied.head s (num i) (line_open_for s.net n) true

  never_12_1 : (v : Bool) → eqb (plan_of s n 1 i v).answer 12 ≡ false
  unfolding plan_of
  never_12_1 v = open_1 t s.committed.head (num i) o (rule1 v) (present_of s t)

  never_12_3 : (v : Bool) → eqb (plan_of s n 3 i v).answer 12 ≡ false
  unfolding plan_of
  never_12_3 v = open_3 t s.committed.head (num i) o rule3

-- ---- the scan of a turn
-- numbers b + 1 to i were tried, h being the highest given
abbrev pub Scan : (l : List ℕ) (n : ℕ) (os : List ℕ) (b h i : ℕ) → Bool → Type 0
Scan l n os b h i x = (b ≤ i) × ((i ≤ h) × Scanned (view l) os n (i - b) (h - i) x)

-- what is found of an entry: the first job that goes, or the same scan with a number more
pub record Here (l : List ℕ) (n : ℕ) (os : List ℕ) (b h i : ℕ) (x : Bool) (f : Tried) : Type 0 where
  pub more : f.job ≡ 0 → Scan l n os b h (i + 1) (x || f.lacks)
  pub done : (f.job ≡ 0 → ⊥) → turn (view l) os n ≡ work n f.job (i + 1) (outcome_in (view l) os f.job (i + 1)) 0 ∷ []

module _ (l : List ℕ) (n : ℕ) (os : List ℕ) (w : Awake l n os) (b h : ℕ) (eb : b ≡ folded_of l) (eh : h ≡ last_of l) where
  abbrev s : State
  s = view l

  low : b ≤ h
  low = omega (arith, (room l w.formed).0)

  -- how many are kept
  kept_is : length s.log.entries ≡ h - b
  unfolding view
  kept_is = let z : folded_of l + length (view l).log.entries ≡ last_of l = last_is l w.formed in omega (arith, low)

  abbrev at : ℕ
  at = s.log.folded.0

  at_is : at ≡ b
  unfolding view
  at_is = sym eb

  -- the four answers of the k-th
  abbrev answer : ℕ → ℕ → ℕ
  answer j k = (step s (trial os at n j k)).reply.answer

  says : (k : ℕ) → k < h - b → (j : ℕ) → 1 ≤ j → j ≤ 4 → answer j (suc k) ≡ (plan_of s n j (at + suc k) (eqb (machine.outcome_at os j (suc k)) 0)).answer
  says k p j y z =
      plan_answers s os n (formed_state l w.formed) w.node (and_right (eqb (length os) 256) (bits os) w.table) w.master j (suc k) y z (omega arith)
      (omega (arith, kept_is))

  -- those of which nothing is left answer 11
  module _ (i : ℕ) (q : Quiet l i) where
    eleven : (k : ℕ) → b + k < i → (j : ℕ) → 1 ≤ j → j ≤ 4 → answer j (suc k) ≡ 11
    eleven k p j y z =
        says k (omega (arith, q.last)) j y z
        ∙ idle_waits s n (at + suc k)
        (told_idle s.change.0 s.applied.head.ordinal.0 (at + suc k) (entry_of s.log (at + suc k)) (q.idle (at + suc k) (omega (arith, at_is)) (omega (arith, at_is)))) j _

    skipped : (k : ℕ) → b + k ≤ i → Scanned s os n k (h - b - k) false
    skipped zero p =
        let z : h - b ≡ h - b - 0 = omega arith in
        subst (λ (m : ℕ). Scanned s os n 0 m false) (kept_is ∙ z) (scanned_none s os n)
    skipped (suc k) p =
        let z : h - b - k ≡ suc (h - b - suc k) = omega (arith, q.last) in
        let no : (j : ℕ) → 1 ≤ j → j ≤ 4 → eqb (answer j (suc k)) 0 ≡ false = λ j y u. ap (λ (a : ℕ). eqb a 0) (eleven k (omega arith) j y u) in
        let never : (j : ℕ) → 1 ≤ j → j ≤ 4 → eqb (answer j (suc k)) 12 ≡ false = λ j y u. ap (λ (a : ℕ). eqb a 12) (eleven k (omega arith) j y u) in
        subst (λ (x : Bool). Scanned s os n (suc k) (h - b - suc k) x)
        (ap₂ (λ (x y : Bool). x || (y || (eqb (answer 3 (suc k)) 12 || eqb (answer 4 (suc k)) 12))) (never 1 (omega arith) (omega arith)) (never 2 (omega arith) (omega arith))
        ∙ ap₂ (λ (x y : Bool). x || y) (never 3 (omega arith) (omega arith)) (never 4 (omega arith) (omega arith)))
        (scanned_more s os n k (h - b - suc k) false (subst (λ (m : ℕ). Scanned s os n k m false) z (skipped k (omega arith))) (no 1 (omega arith) (omega arith)) (no 2 (omega arith) (omega arith))
        (no 3 (omega arith) (omega arith)) (no 4 (omega arith) (omega arith)))

    pub scan_from : Scan l n os b h i false
    scan_from =
        let p : b ≤ i = omega (arith, q.kept) in
        let z : h - b - (i - b) ≡ h - i = omega (arith, q.last) in
        (p, (omega (arith, q.last), subst (λ (m : ℕ). Scanned s os n (i - b) m false) z (skipped (i - b) (omega arith))))

  -- the table has two outcomes for each that is kept
  pub in_table : (i : ℕ) → b ≤ i → i < h → 2 * (i - b) + 1 < length os
  in_table i p q =
      let z : length os ≡ 256 = eqb-true (length os) 256 (and_left (eqb (length os) 256) (bits os) w.table) in
      omega (arith, (room l w.formed).1.0)

  pub scan_end : (i : ℕ) (x : Bool) (q : Plan) → Scan l n os b h i x → h ≤ i → Finds s n os (record { job = 0; number = 0; lacks = x; plan = q })
  scan_end i x q v p =
      let z : h - i ≡ 0 = omega arith in
      record {
        some = λ f. absurd (f refl);
        plan = λ f. absurd (f refl);
        none = λ f. scanned_end s os n (i - b) x (subst (λ (k : ℕ). Scanned s os n (i - b) k x) z v.1.1);
      }

  module _ (i : ℕ) (x : Bool) (v : Scan l n os b h i x) (p : i < h) where
    abbrev k : ℕ
    k = i - b

    number_is : at + suc k ≡ i + 1
    number_is = omega (arith, at_is, v.0)

    place_is : suc k ≡ i + 1 - at
    place_is = omega (arith, at_is, v.0)

    abbrev valid : ℕ
    valid = get_or os (2 * k) 0

    abbrev taken : ℕ
    taken = get_or os (2 * k + 1) 0

    says_here : (j : ℕ) → 1 ≤ j → j ≤ 4 → answer j (suc k) ≡ (plan_of s n j (at + suc k) (eqb (machine.outcome_at os j (suc k)) 0)).answer
    says_here = says k (omega (arith, v.0))

    answers_are : (t : Transaction) (c : Number) (y : Scene) (q : Bool) (f : Tried) → t ≡ entry_at l (i + 1) → c ≡ num (i + 1) → y ≡ scene_of s n
        → q ≡ settled_at y.applied.ordinal.0 t s → f ≡ tries t c y q (eqb valid 0) (eqb taken 0)
        → f ≡ first_of (answer 1 (suc k)) (answer 2 (suc k)) (answer 3 (suc k)) (answer 4 (suc k))
    answers_are t c y q f et ec ey eq ef =
        let r : t ≡ entry_of s.log (i + 1) = et ∙ sym (entry_of_holds l (i + 1) (omega (arith, v.0)) (omega arith)) in
        ef ∙ ap (λ (d : Bool). tries t c y d (eqb valid 0) (eqb taken 0)) eq
        ∙ ap₂ (λ (a : Transaction) (d : Number). tries a d y (settled_at y.applied.ordinal.0 a s) (eqb valid 0) (eqb taken 0)) r ec
        ∙ ap (λ (d : Scene). tries (entry_of s.log (i + 1)) (num (i + 1)) d (settled_at d.applied.ordinal.0 (entry_of s.log (i + 1)) s) (eqb valid 0) (eqb taken 0)) ey
        ∙ ap (λ (d : ℕ). tries (entry_of s.log d) (num d) (scene_of s n) (settled_at s.applied.head.ordinal.0 (entry_of s.log d) s) (eqb valid 0) (eqb taken 0)) (sym number_is)
        ∙ tries_plans s n (at + suc k) (eqb valid 0) (eqb taken 0)
        ∙ sym
        (ap₂ (λ (a d : ℕ). first_of a d (answer 3 (suc k)) (answer 4 (suc k))) (says_here 1 (omega arith) (omega arith)) (says_here 2 (omega arith) (omega arith))
        ∙ ap₂ (λ (a d : ℕ). first_of (plan_of s n 1 (at + suc k) (eqb valid 0)).answer (plan_of s n 2 (at + suc k) (eqb taken 0)).answer a d) (says_here 3 (omega arith) (omega arith))
        (says_here 4 (omega arith) (omega arith)))

    -- one left of those that are left
    left : Scanned s os n k (suc (h - suc i)) x
    left = let z : h - i ≡ suc (h - suc i) = omega arith in subst (λ (m : ℕ). Scanned s os n k m x) z v.1.1

    -- the scan with this number more
    next : (z : Bool) → Scanned s os n (suc k) (h - suc i) z → Scan l n os b h (i + 1) z
    next z y =
        let a : suc k ≡ i + 1 - b = omega (arith, v.0) in
        let d : h - suc i ≡ h - (i + 1) = omega arith in
        (omega (arith, v.0), (omega arith, subst (λ (m : ℕ). Scanned s os n m (h - (i + 1)) z) a (subst (λ (m : ℕ). Scanned s os n (suc k) m z) d y)))

    job_is : (j : ℕ) → turn s os n ≡ trial os at n j (suc k) ∷ [] → turn s os n ≡ work n j (i + 1) (outcome_in s os j (i + 1)) 0 ∷ []
    job_is j e = e ∙ ap₂ (λ (m r : ℕ). work n j m (machine.outcome_at os j r) 0 ∷ []) number_is place_is

    here_is : (f : Tried) → f ≡ first_of (answer 1 (suc k)) (answer 2 (suc k)) (answer 3 (suc k)) (answer 4 (suc k)) → Here l n os b h i x f
    unfolding first_of
    here_is f e = subst (λ (y : Tried). Here l n os b h i x y) (sym e) (go (eqb (answer 1 (suc k)) 0) (eqb (answer 2 (suc k)) 0) (eqb (answer 3 (suc k)) 0) (eqb (answer 4 (suc k)) 0) refl refl refl refl)
      where
        none_12 : (eqb (answer 1 (suc k)) 12 || (eqb (answer 2 (suc k)) 12 || (eqb (answer 3 (suc k)) 12 || eqb (answer 4 (suc k)) 12))) ≡ (eqb (answer 2 (suc k)) 12 || eqb (answer 4 (suc k)) 12)
        none_12 =
            let a : eqb (answer 1 (suc k)) 12 ≡ false = ap (λ (d : ℕ). eqb d 12) (says_here 1 (omega arith) (omega arith)) ∙ never_12_1 s n (at + suc k) (eqb valid 0) in
            let c : eqb (answer 3 (suc k)) 12 ≡ false = ap (λ (d : ℕ). eqb d 12) (says_here 3 (omega arith) (omega arith)) ∙ never_12_3 s n (at + suc k) true in
            ap₂ (λ (d r : Bool). d || (eqb (answer 2 (suc k)) 12 || (r || eqb (answer 4 (suc k)) 12))) a c

        found : (j : ℕ) → (j ≡ 0 → ⊥) → turn s os n ≡ trial os at n j (suc k) ∷ [] → Here l n os b h i x (record { job = j; lacks = false })
        found j d q = record { more = λ z. absurd (d z); done = λ z. job_is j q }

        go : (p q r t : Bool) → eqb (answer 1 (suc k)) 0 ≡ p → eqb (answer 2 (suc k)) 0 ≡ q → eqb (answer 3 (suc k)) 0 ≡ r → eqb (answer 4 (suc k)) 0 ≡ t
            → Here l n os b h i x (first_of (answer 1 (suc k)) (answer 2 (suc k)) (answer 3 (suc k)) (answer 4 (suc k)))
        go true q r t ep eq er et = rw ep (found 1 (λ z. omega arith) (found_1 s os n k (h - suc i) x left ep))
        go false true r t ep eq er et = rw (ep, eq) (found 2 (λ z. omega arith) (found_2 s os n k (h - suc i) x left ep eq))
        go false false true t ep eq er et = rw (ep, eq, er) (found 3 (λ z. omega arith) (found_3 s os n k (h - suc i) x left ep eq er))
        go false false false true ep eq er et = rw (ep, eq, er, et) (found 4 (λ z. omega arith) (found_4 s os n k (h - suc i) x left ep eq er et))
        go false false false false ep eq er et =
            rw (ep, eq, er, et)
            (record {
              more = λ z. next _ (subst (λ (y : Bool). Scanned s os n (suc k) (h - suc i) (x || y)) none_12 (scanned_more s os n k (h - suc i) x left ep eq er et));
              done = λ z. absurd (z refl);
            })

    pub here : (t : Transaction) (c : Number) (y : Scene) (q : Bool) (f : Tried) → t ≡ entry_at l (i + 1) → c ≡ num (i + 1) → y ≡ scene_of s n
        → q ≡ settled_at y.applied.ordinal.0 t s → f ≡ tries t c y q (eqb valid 0) (eqb taken 0) → Here l n os b h i x f
    here t c y q f et ec ey eq ef = here_is f (answers_are t c y q f et ec ey eq ef)

    pub plan_is : (j : ℕ) (t : Transaction) (c : Number) (y : Scene) (q : Bool) (g : Plan) → t ≡ entry_at l (i + 1) → c ≡ num (i + 1) → y ≡ scene_of s n
        → q ≡ settled_at y.applied.ordinal.0 t s
        → g ≡ plans_by j t c y q (eqb valid 0) (eqb taken 0) (present_at y.change.0 c.0 t s)
        → g ≡ plan_of s n j (i + 1) (eqb (outcome_in s os j (i + 1)) 0)
    plan_is j t c y q g et ec ey eq ep =
        let r : t ≡ entry_of s.log (i + 1) = et ∙ sym (entry_of_holds l (i + 1) (omega (arith, v.0)) (omega arith)) in
        ep ∙ ap (λ (d : Bool). plans_by j t c y d (eqb valid 0) (eqb taken 0) (present_at y.change.0 c.0 t s)) eq
        ∙ ap₂ (λ (a : Transaction) (d : Number). plans_by j a d y (settled_at y.applied.ordinal.0 a s) (eqb valid 0) (eqb taken 0) (present_at y.change.0 d.0 a s)) r ec
        ∙ ap (λ (d : Scene). plans_by j (entry_of s.log (i + 1)) (num (i + 1)) d (settled_at d.applied.ordinal.0 (entry_of s.log (i + 1)) s) (eqb valid 0) (eqb taken 0)
        (present_at d.change.0 (i + 1) (entry_of s.log (i + 1)) s)) ey
        ∙ plans_by_holds s n (i + 1) j valid taken
        ∙ ap (λ (d : ℕ). plan_of s n j (i + 1) (eqb (machine.outcome_at os j d) 0)) place_is

    -- a job is found
    pub here_done : (f : Tried) (p : Plan) → Here l n os b h i x f → 0 < f.job → p ≡ plan_of s n f.job (i + 1) (eqb (outcome_in s os f.job (i + 1)) 0)
        → Finds s n os (record { job = f.job; number = i + 1; lacks = false; plan = p })
    here_done f p y q e = record { some = y.done; plan = λ z. e; none = λ z. absurd (omega arith) }

-- ---- numbers of which nothing is left
pub idle_is : (t : Transaction) (c a i : ℕ) (x y z u : Bool) (k m o p : ℕ) → x ≡ stands t.change.commit → y ≡ stands t.change.apply
    → z ≡ stands t.rollback.commit → u ≡ stands t.rollback.apply → k ≡ c → m ≡ a → o ≡ t.change.ordinal.0 → p ≡ t.rollback.ordinal.0
    → (((x && y) && (z && u)) && (leb i k && (leb o m && leb p m))) ≡ idle c a i t
unfolding idle
idle_is t c a i x y z u k m o p ex ey ez eu ek em eo ep = rw (ex, ey, ez, eu, ek, em, eo, ep)

module _ (l : List ℕ) (w : formed l ≡ true) where
  pub quiet_none : (b : ℕ) → b ≡ folded_of l → Quiet l b
  quiet_none b e = record { kept = omega (arith, e); last = omega (arith, e, (room l w).0); idle = λ k p q. absurd (omega (arith, e)) }

  pub quiet_more : (i h : ℕ) (c : Number) (g : Head) (t : Transaction) (x : Bool) → Quiet l i → i < h → h ≡ last_of l → c ≡ num (change_of l) → g ≡ head_at l applied_at → t ≡ entry_at l (i + 1)
      → x ≡ idle c.0 g.ordinal.0 (i + 1) t → x ≡ true → Quiet l (i + 1)
  unfolding view
  quiet_more i h c g t x q p eh ec eg et ex f =
      let z : entry_of (view l).log (i + 1) ≡ t = entry_of_holds l (i + 1) (omega (arith, q.kept)) (omega (arith, eh)) ∙ sym et in
      let y : idle_in (view l) (i + 1) ≡ true
      = ap (λ (u : Transaction). idle (change_of l) (head_at l applied_at).ordinal.0 (i + 1) u) z
      ∙ sym (ap₂ (λ (u : Number) (v : Head). idle u.0 v.ordinal.0 (i + 1) t) ec eg) ∙ sym ex ∙ f in
      record {
        kept = omega (arith, q.kept);
        last = omega (arith, eh);
        idle = λ k a d. by_last k (eqb k (i + 1)) refl a d y;
      }
    where
      by_last : (k : ℕ) (b : Bool) → eqb k (i + 1) ≡ b → folded_of l < k → k ≤ i + 1 → idle_in (view l) (i + 1) ≡ true → idle_in (view l) k ≡ true
      by_last k true e a d y = ap (λ (m : ℕ). idle_in (view l) m) (eqb-true k (i + 1) e) ∙ y
      by_last k false e a d y = q.idle k a (let z = eqb-false k (i + 1) e in omega arith)

-- ---- a job that a turn found, done by its plan
module _ (s : State) (n j i r c : ℕ) where
  -- accepted, it is what its plan decides
  is_planned : (decide s (work n j i r c)).reply.answer ≡ 0 → decide s (work n j i r c) ≡ planned j (plan_of s n j i (eqb r 0)) i c
  unfolding decide
  is_planned e = go (work_ok n j r c) (in_log s i) (is_kept s i) (is_master s.net n) e
    where
      go : (v x z m : Bool)
          → (let o = unless 2 v (unless 5 x (unless 18 z (unless 10 m (planned j (plan_of s n j i (eqb r 0)) i c)))) in
          o.reply.answer ≡ 0 → o ≡ planned j (plan_of s n j i (eqb r 0)) i c)
      go false x z m e = absurd (omega arith)
      go true false z m e = absurd (omega arith)
      go true true false m e = absurd (omega arith)
      go true true true false e = absurd (omega arith)
      go true true true true e = refl

module _ (m os : List ℕ) (n : ℕ) (w : Awake m n os) (f : Found) (y : Finds (view m) n os f) (z : f.job ≡ 0 → ⊥) where
  abbrev its_outcome : ℕ
  its_outcome = outcome_in (view m) os f.job f.number

  abbrev call_is : Call
  call_is = work n f.job f.number its_outcome 0

  goes_on : (step (view m) call_is).reply.answer ≡ 0
  goes_on = first_accepted (view m) (all (view m) os n) call_is (y.some z)

  pub found_number : (1 ≤ f.number) × (image_length ≤ length m)
  found_number = (let q = (worked (view m) n f.job f.number its_outcome 0 goes_on).number.0 in omega arith, size m w.formed)

  found_does : (d : Bool) (m' : List ℕ) → d ≡ commits f.job → m' ≡ written m (rows_of d f.plan f.number false false)
      → Does m call_is (record { answer = f.plan.answer; event = f.plan.event }) m'
  unfolding step
  found_does d m' ed q =
      let a : (decide (view m) call_is).reply.answer ≡ 0 = ap (λ (o : Outcome). o.reply.answer) (sym (steps m call_is w.formed)) ∙ goes_on in
      let o : decide (view m) call_is ≡ planned f.job (plan_of (view m) n f.job f.number (eqb its_outcome 0)) f.number 0 = is_planned (view m) n f.job f.number its_outcome 0 a in (
        ap (λ (e : Event). record { answer = f.plan.answer; event = e }) (sym (event_of_whole f.plan))
            ∙ ap (λ (p : Plan). record { answer = p.answer; event = event_of p false }) (y.plan z) ∙ sym (ap (λ (x : Outcome). x.reply) o),
        q ∙ ap₂ (λ (x : Bool) (p : Plan). written m (rows_of x p f.number false false)) ed (y.plan z) ∙ sym (ap (λ (x : Outcome). written m x.stores) o),
      )

-- ---- a turn
module _ (m os : List ℕ) (n : ℕ) (f : Found) (y : Finds (view m) n os f) where
  -- why a night stops, by what its turn finds
  pub why_is : stopped_at f.job f.lacks ≡ why_stopped (view m) os n
  why_is = go (eqb f.job 0) refl
    where
      by_12 : (x : Bool) → cond x 1 0 ≡ stopped_by [] x
      by_12 true = refl
      by_12 false = refl

      go : (x : Bool) → eqb f.job 0 ≡ x → cond x (cond f.lacks 1 0) 2 ≡ why_stopped (view m) os n
      go true e =
          let q = y.none (eqb-true f.job 0 e) in
          by_12 f.lacks ∙ sym (ap₂ (λ (cs : List Call) (z : Bool). stopped_by cs z) q.0 q.1)
      go false e =
          sym (ap (λ (cs : List Call). stopped_by cs (needs_line (view m) (all (view m) os n))) (y.some (eqb-false f.job 0 e)))

  module _ (r : List ℕ) (k : ℕ) where
    pub turned_none : f.job ≡ 0 → Turns m n os r k (record { job = f.job; lacks = f.lacks }) m r
    turned_none e = record { found = f; finds = y; tried = refl; done = λ z. absurd (z e); kept = λ z. (refl, refl) }

    pub turned_one : (f.job ≡ 0 → ⊥) → (d : Bool) (m' r' : List ℕ) → d ≡ commits f.job
        → m' ≡ written m (rows_of d f.plan f.number false false) → r' ≡ put_event r k f.plan.event
        → Turns m n os r k (record { job = f.job; lacks = f.lacks }) m' r'
    turned_one z d m' r' ed q p =
        record {
          found = f;
          finds = y;
          tried = refl;
          done = λ _. (q ∙ ap (λ (x : Bool). written m (rows_of x f.plan f.number false false)) ed, p);
          kept = λ e. absurd (z e);
        }

-- ---- the turns, one after another
-- from l, k turns were made and each did a job, and m is left
pub record Turned (l os : List ℕ) (n k : ℕ) (m : List ℕ) : Type 0 where
  pub bytes : Bytes m
  pub awake : Awake m n os
  pub count : length (turns (view l) os n k) ≡ k
  pub lent : m ≡ lent_from l (turns (view l) os n k)
  pub state : view m ≡ state_from (view l) (turns (view l) os n k)

-- and r is the room after their events
abbrev pub Gone : (l os room : List ℕ) (n k : ℕ) (m r : List ℕ) → Type 0
Gone l os room n k m r = Turned l os n k m × ((r ≡ room_after room (events_from (view l) (turns (view l) os n k))) × (length r ≡ length room))

length_events : (s : State) (cs : List Call) → length (events_from s cs) ≡ length cs
unfolding events_from
length_events s [] = refl
length_events s (c ∷ cs) = ap suc (length_events s cs)

length_event : (r : List ℕ) (k : ℕ) (e : Event) → length (put_event r k e) ≡ length r
unfolding put_event
length_event r k e = go (leb (16 * k + 16) (length r))
  where
    go : (x : Bool) → length (cond x (put_fields r (16 * k) fours (event_numbers e)) r) ≡ length r
    go true = length_puts fours (event_numbers e) r (16 * k)
    go false = refl

module _ (l os room : List ℕ) (n : ℕ) where
  pub gone_none : Bytes l → Awake l n os → Gone l os room n 0 l room
  unfolding turns lent_from state_from events_from room_after
  gone_none y w = (record { bytes = y; awake = w; count = refl; lent = refl; state = refl }, (refl, refl))

  module _ (k : ℕ) (m r : List ℕ) (g : Gone l os room n k m r) where
    made : Turned l os n k m
    made = g.0

    -- the turn that the state after k turns makes is the one that the image shows
    seen : (cs : List Call) → turn (view m) os n ≡ cs → turn (state_from (view l) (turns (view l) os n k)) os n ≡ cs
    seen cs e = ap (λ (s : State). turn s os n) (sym made.state) ∙ e

    -- a job more
    module _ (j i o : ℕ) (e : turn (view m) os n ≡ work n j i o 0 ∷ []) (m' : List ℕ) (a : Reply) (d : Does m (work n j i o 0) a m') where
      abbrev c : Call
      c = work n j i o 0

      accepted : (step (view m) c).reply.answer ≡ 0
      accepted = first_accepted (view m) (all (view m) os n) c e

      one : turns (view l) os n (suc k) ≡ c ∷ turns (view l) os n k
      one = one_more (view l) os n k c (seen (c ∷ []) e)

      awake_more : Awake m' n os
      awake_more =
          record {
            formed = ap formed d.1 ∙ stays_formed m c made.bytes made.awake.formed;
            node = made.awake.node;
            table = made.awake.table;
            master = ap (λ (s : State). is_master s.net n) (ap view d.1 ∙ shows m c made.bytes made.awake.formed)
                ∙ (worked_leaves (view m) n j i o 0 (worked (view m) n j i o 0 accepted)).master n
                ∙ made.awake.master;
          }

      turned_more : Turned l os n (suc k) m'
      unfolding lent_from state_from outcome_of
      turned_more =
          record {
            bytes = subst Bytes (sym d.1) (stays_bytes m c made.bytes made.awake.formed);
            awake = awake_more;
            count = ap length one ∙ ap suc made.count;
            lent = d.1 ∙ rw made.awake.formed refl ∙ ap (λ (z : List ℕ). written z (outcome_of z c).stores) made.lent ∙ sym (ap (lent_from l) one);
            state = ap view d.1 ∙ shows m c made.bytes made.awake.formed ∙ ap (λ (s : State). (step s c).next) made.state ∙ sym (ap (state_from (view l)) one);
          }

      shows_more : view m' ≡ (step (view m) c).next
      shows_more = ap view d.1 ∙ shows m c made.bytes made.awake.formed

      same_fold : folded_of m' ≡ folded_of m
      unfolding view
      same_fold = ap (λ (s : State). s.log.folded.0) shows_more ∙ ap (λ (x : Number). x.0) (folds_nothing (view m) n j i o 0 accepted)

      -- of what nothing was left, nothing is left
      quiet_stays : (low : ℕ) → Quiet m low → Quiet m' low
      quiet_stays low q =
          let a : folded_of m' ≡ folded_of m = same_fold in
          let z : last_of m' ≡ last_of m = sym (last_is m' awake_more.formed) ∙ ap (λ (s : State). last s.log) shows_more
          ∙ (worked_leaves (view m) n j i o 0 (worked (view m) n j i o 0 accepted)).size ∙ last_is m made.awake.formed in
          record {
            kept = omega (arith, a, q.kept);
            last = omega (arith, z, q.last);
            idle = λ k p x. ap (λ (s : State). idle_in s k) shows_more ∙ idle_stays (view m) n j i o 0 accepted k (q.idle k (omega (arith, a)) x);
          }

      gone_more : (r' : List ℕ) → r' ≡ put_event r k a.event → Gone l os room n (k + 1) m' r'
      unfolding events_from room_after step
      gone_more r' q =
          let u : suc k ≡ k + 1 = omega arith in
          let ev : a.event ≡ (step (state_from (view l) (turns (view l) os n k)) c).reply.event
          = ap (λ (x : Reply). x.event) d.0 ∙ sym (ap (λ (x : Outcome). x.reply.event) (steps m c made.awake.formed)) ∙ ap (λ (s : State). (step s c).reply.event) made.state in
          let le : k ≡ length (events_from (view l) (turns (view l) os n k)) = sym (length_events (view l) (turns (view l) os n k) ∙ made.count) in
          subst (λ (x : ℕ). Gone l os room n x m' r') u (
            turned_more,
            (
              q ∙ ap (λ (x : List ℕ). put_event x k a.event) g.1.0
                  ∙ ap₂ (λ (x : ℕ) (y : Event). put_event (room_after room (events_from (view l) (turns (view l) os n k))) x y) le ev
                  ∙ sym (ap (λ (x : List Call). room_after room (events_from (view l) x)) one),
              ap length q ∙ length_event r k a.event ∙ g.1.1,
            ),
          )

    -- none more: the same with any budget from k on
    same_turns : (b : ℕ) → k ≤ b → turn (view m) os n ≡ [] → turns (view l) os n b ≡ turns (view l) os n k
    same_turns b p e = go (b - k) (omega arith)
      where
        go : (d : ℕ) → b ≡ d + k → turns (view l) os n b ≡ turns (view l) os n k
        go d z = ap (turns (view l) os n) z ∙ none_more (view l) os n k (seen [] e) d

    -- ---- what a turn leaves
    module _ (t : Tried) (m' r' : List ℕ) (y : Turns m n os r k t m' r') where
      its_job : t.job ≡ y.found.job
      its_job = ap (λ (x : Tried). x.job) y.tried

      module _ (z : t.job ≡ 0 → ⊥) where
        goes : y.found.job ≡ 0 → ⊥
        goes e = z (its_job ∙ e)

        does : Does m (call_is m os n made.awake y.found y.finds goes) (record { answer = y.found.plan.answer; event = y.found.plan.event }) m'
        does = found_does m os n made.awake y.found y.finds goes (commits y.found.job) m' refl (y.done goes).0

        pub turn_goes : Gone l os room n (k + 1) m' r'
        turn_goes = gone_more _ _ _ (y.finds.some goes) m' _ does r' (y.done goes).1

        pub turn_quiet : (low : ℕ) → Quiet m low → Quiet m' low
        turn_quiet = quiet_stays _ _ _ (y.finds.some goes) m' _ does

      module _ (z : t.job ≡ 0) where
        stays : (m' ≡ m) × (r' ≡ r)
        stays = y.kept (sym its_job ∙ z)

    -- ---- the end
    module _ (b j x : ℕ) (p : k ≤ b) where
      over : turns (view l) os n b ≡ turns (view l) os n k → j ≡ why_stopped (view m) os n → x ≡ fitting k (length r)
          → Through l n b os room (record { answer = 0; jobs = k; stopped = j; events = x }) m r
      over e ej ex =
          let jobs : k ≡ length (turns (view l) os n b) = sym (ap length e ∙ made.count) in
          let why : j ≡ why_stopped (state_from (view l) (turns (view l) os n b)) os n
          = ej ∙ ap (λ (s : State). why_stopped s os n) (made.state ∙ sym (ap (state_from (view l)) e)) in
          let fits : x ≡ fitting (length (turns (view l) os n b)) (length room) = ex ∙ ap₂ fitting jobs g.1.1 in
          (rw (jobs, why, fits), made.lent ∙ sym (ap (lent_from l) e), g.1.0 ∙ sym (ap (λ (x : List Call). room_after room (events_from (view l) x)) e))

      -- a turn that does nothing
      pub over_early : (t : Tried) (m' r' : List ℕ) (y : Turns m n os r k t m' r') → t.job ≡ 0 → j ≡ stopped_at t.job t.lacks → x ≡ fitting k (length r')
          → Through l n b os room (record { answer = 0; jobs = k; stopped = j; events = x }) m' r'
      over_early t m' r' y z ej ex =
          let q : (m' ≡ m) × (r' ≡ r) = stays t m' r' y z in
          let none : turn (view m) os n ≡ [] = (y.finds.none (sym (its_job t m' r' y) ∙ z)).0 in
          let why : j ≡ why_stopped (view m) os n = ej ∙ ap (λ (u : Tried). stopped_at u.job u.lacks) y.tried ∙ why_is m os n y.found y.finds in
          let o = over (same_turns b p none) why (ex ∙ ap (λ (a : List ℕ). fitting k (length a)) q.1) in
          subst (λ (a : List ℕ). Through l n b os room (record { answer = 0; jobs = k; stopped = j; events = x }) a r') (sym q.0)
          (subst (λ (a : List ℕ). Through l n b os room (record { answer = 0; jobs = k; stopped = j; events = x }) m a) (sym q.1) o)

      -- the budget spent
      pub over_spent : b ≤ k → j ≡ why_stopped (view m) os n → x ≡ fitting k (length r)
          → Through l n b os room (record { answer = 0; jobs = k; stopped = j; events = x }) m r
      over_spent q ej ex = let z : b ≡ k = omega arith in over (ap (turns (view l) os n) z) ej ex

-- ---- the call
module _ (l os m : List ℕ) (n b : ℕ) (r : Night) where
  nothing : (a : ℕ) (w : machine.Night) → r ≡ refuses a → w ≡ record { answer = a; jobs = 0; stopped = 0; next = view l; calls = []; events = [] } → Leaves w l m r l m
  unfolding lent_from room_after
  nothing a w p e =
      let z : r ≡ given (record { answer = a; jobs = 0; stopped = 0; next = view l; calls = []; events = [] }) m
      = p ∙ ap (λ (x : ℕ). record { answer = a; jobs = 0; stopped = 0; events = x }) (fits_none (length m)) in
      subst (λ (x : machine.Night). Leaves x l m r l m) (sym e) (z, refl, refl)

  pub night_1 : (x : Bool) → x ≡ formed l → x ≡ false → r ≡ refuses 1 → Nights l n b os m r l m
  unfolding night_in
  night_1 x e f p = nothing 1 (night_in l n b os) p (rw (sym e ∙ f))

  pub night_then : (x : Bool) (l' m' : List ℕ) → x ≡ formed l → x ≡ true → Nighted l n b os m r l' m' → Nights l n b os m r l' m'
  unfolding night_in
  night_then x l' m' e f q = rw (sym e ∙ f) q

  module _ (w : formed l ≡ true) (x : Bool) (ex : x ≡ night_ok n b os) where
    pub night_2 : x ≡ false → r ≡ refuses 2 → Nighted l n b os m r l m
    unfolding machine.night
    night_2 f p = nothing 2 (machine.night (view l) n b os) p (rw (formed_state l w, ← ex, f))

    module _ (f : x ≡ true) (g : Mastership) (eg : g ≡ mastership_of l) where
      is_master_holds : (y : Bool) → eqb g.master n ≡ y → is_master (view l).net n ≡ y
      unfolding view
      is_master_holds y q = ap (λ (z : Mastership). eqb z.master n) (sym eg) ∙ q

      pub night_10 : (g.master ≡ n → ⊥) → r ≡ refuses 10 → Nighted l n b os m r l m
      unfolding machine.night
      night_10 q p = nothing 10 (machine.night (view l) n b os) p (rw (formed_state l w, ← ex, f, is_master_holds false (ne_eqb _ n q)))

      pub night_made : g.master ≡ n → (l' m' : List ℕ) → Through l n b os m r l' m' → Nighted l n b os m r l' m'
      unfolding machine.night
      night_made q l' m' y = rw (formed_state l w, ← ex, f, is_master_holds true (eq-eqb _ n q)) y

-- a night that is made
module _ (os : List ℕ) (n b : ℕ) (x : Bool) (ex : x ≡ night_ok n b os) (f : x ≡ true) where
  ok : night_ok n b os ≡ true
  ok = sym ex ∙ f

  node_ok : is_node n ≡ true
  node_ok = and_left (is_node n) (leb b 4096) (and_left (is_node n && leb b 4096) (table_ok os) ok)

  pub night_awake : (l : List ℕ) → formed l ≡ true → (g : Mastership) → g ≡ mastership_of l → g.master ≡ n → Awake l n os
  unfolding view
  night_awake l w g eg q =
      record {
        formed = w;
        node = node_ok;
        table = and_right (is_node n && leb b 4096) (table_ok os) ok;
        master = ap (λ (z : Mastership). eqb z.master n) (sym eg) ∙ eq-eqb _ n q;
      }
