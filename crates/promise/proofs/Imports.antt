-- An import, on bytes: what machine's Judged and Imported say of lists, said of images, in the controller and as C sees it; and
-- demand 3 with an import in place of the fresh start, with any calls and nights behind it. Assumes nothing.
use Prim.Native.Nat.{ℕ, ◌/◌, ◌%◌}
use native.Mathlib.Omega.{arith}
use mathlib.Core.Path.{◌≡◌, refl, sym, ap, ap₂, subst, ◌∙◌}
use mathlib.Core.Bool.{Bool, true, false, cond}
use mathlib.Core.List.{List, [], ◌∷◌, ◌++◌, map, append_assoc}
use borrow.Author.Tests.{eqb-true, eqb-false, eq-eqb, leb-true, leb-false, lt-leb}
use lib.Dec.{eqb, leb}
use lib.ListN.{length}
use Rattle.kinds.specs.declared.Reply.{Reply}
use Rattle.kinds.specs.declared.Event.{Event}
use Rattle.kinds.specs.Events.{refusal}
use Rattle.fields.proofs.Laws.{Bytes}
use Rattle.machine.specs.State.{State, fresh}
use Rattle.machine.specs.Calls.{Call, values_ok}
use Rattle.machine.specs.Step.{step, run, state_from}
use Rattle.machine.specs.Notes.{notes}
use Rattle.machine.specs.WellFormed.{pairs_ok}
use Rattle.machine.specs.Reads.{of_class, of_took, of_undone}
use Rattle.machine.specs.Import.{Entry, Verdict, judged_from, judged, pairs_at, entry_in, entries_from, entries_of, import_calls, Import, import, import_by, import_of}
use Rattle.machine.specs.Imports as machine
use Rattle.machine.proofs.Judged.{judged_so}
use Rattle.machine.proofs.Verdicts.{verdicts_only}
use Rattle.machine.proofs.ImportWitnesses.{twos}
use Rattle.machine.proofs.Imported.{imported_leaves}
use Rattle.image.specs.Layout.{image_length}
use Rattle.image.specs.View.{view}
use Rattle.image.specs.Formed.{formed}
use Rattle.image.specs.Fresh.{fresh_image}
use Rattle.image.proofs.Freshened.{length_fresh, shows_fresh, formed_fresh}
use Rattle.image.proofs.Scanned.{formed_length}
use Rattle.controller.specs.declared.imports.Imported.{Imported}
use Rattle.controller.specs.declared.nights.Night.{Night}
use Rattle.controller.specs.Fresh.{Freshens}
use Rattle.controller.specs.Nights.{lent_from, night_in, Nights}
use Rattle.controller.specs.Imports.{Imports, import_in, told, image_after, Listed}
use Rattle.controller.proofs.Freshened.{fresh_is, is_fresh}
use Rattle.controller.proofs.Importing.{list_length}
use Rattle.northbound.specs.Packing.{unpacked, unpacked_read, unpacked_import, unpacked_night, unpacked_why}
use Rattle.northbound.specs.Exports as north
use Rattle.link.specs.Runs.{Calling, none, next, replies_from}
use Rattle.link.proofs.Link.{Shows, shows_run, state_run_holds, events_run, event_of}
use Rattle.link.proofs.Fresh.{fresh_bytes}
use Rattle.link.proofs.Nights.{replies_in}
use Rattle.link.proofs.Imports.{import_leaves, import_left, import_calling}
use Rattle.history.specs.Demand3.{Demand3}
use Rattle.promise.specs.Demands.{Demand3C}
use Rattle.promise.specs.Reasons.{Explained}
use Rattle.promise.specs.Nights.{Accepted, Acting, call, nightly, ActingC, AreCalls, Suffices}
use Rattle.promise.specs.Nights as acting
use Rattle.promise.specs.Owners.{Owned}
use Rattle.promise.specs.Imports.{Answers, image, list, entries, AnyImport, ImportCalls, calls_with, events_with, BehindC}
use Rattle.promise.proofs.Promise.{reached_3, reached_3_c}
use Rattle.promise.proofs.Nights.{Reached, acted, acting_calls, six_enough, acting_in_c, night_in_c}
use Rattle.promise.proofs.Explained.{why_in_c, why_explained}
use Rattle.promise.proofs.Owned.{owner_in_c, owner_listed}
use Rattle.promise.proofs.Audited.{read_audited, read_in_c}

-- ---- what is answered
answers_so : (l b : List ℕ) → Answers l b (told (import_in l b))
unfolding import_in import_of import judged
answers_so l b = by (eqb (length l) image_length) refl
  where
    by : (x : Bool) → eqb (length l) image_length ≡ x → Answers l b (told (cond x (import_of b) (record { answer = 1; position = 0; calls = [] })))
    by false x = image (eqb-false _ _ x)
    by true x = whole (eqb (length b % 20) 0) refl
      where
        size : length l ≡ image_length
        size = eqb-true _ _ x

        whole : (y : Bool) → eqb (length b % 20) 0 ≡ y → Answers l b (told (cond y (import_by (judged (entries_of b)) (entries_of b)) (record { answer = 2; position = 0; calls = [] })))
        whole false y = list size (λ z. eqb-false _ _ y z.1)
        whole true y = few (leb (length b) 5120) refl
          where
            few : (z : Bool) → leb (length b) 5120 ≡ z → Answers l b (told (import_by (judged (entries_of b)) (entries_of b)))
            few true z = entries size (leb-true _ _ z, eqb-true _ _ y) (judged_so (entries_of b))
            few false z =
                let m = eqb-true (length b % 20) 0 y in
                let n = leb-false (length b) 5120 z in
                let q = list_length b in
                let o : leb (length (entries_of b)) 256 ≡ false = lt-leb (length (entries_of b)) 256 (omega arith) in
                rw o (list size (λ w. let k = w.0 in omega arith))

-- and no answer but that one
pub answers_only : (l b : List ℕ) (r q : Imported) → Answers l b r → Answers l b q → r ≡ q
answers_only l b r q (image x) (image y) = refl
answers_only l b r q (image x) (list y z) = absurd (x y)
answers_only l b r q (image x) (entries y z w) = absurd (x y)
answers_only l b r q (list x y) (image z) = absurd (z x)
answers_only l b r q (list x y) (list z w) = refl
answers_only l b r q (list x y) (entries z o w) = absurd (y o)
answers_only l b r q (entries x o p) (image z) = absurd (z x)
answers_only l b r q (entries x o p) (list z w) = absurd (w o)
answers_only l b r q (entries {v = v} x o p) (entries {v = w} z o' p') = ap of_list (verdicts_only (entries_of b) v w p p')
  where
    of_list : Verdict → Imported
    of_list u = record { answer = u.answer; position = u.position }

-- accepted, it names no place
no_place : (es : List Entry) → (judged es).answer ≡ 0 → (judged es).position ≡ 0
no_place es e = go (judged es) (judged_so es) e
  where
    none_bad : {k : ℕ} {x : Entry} {a : ℕ} → machine.Bad es k x a → a ≡ 0 → ⊥
    none_bad (machine.pairs v) z = omega arith
    none_bad (machine.full v m) z = omega arith
    none_bad (machine.names n) z = omega arith
    none_bad machine.kind z = omega arith

    go : (v : Verdict) → machine.Verdicts es v → v.answer ≡ 0 → v.position ≡ 0
    go v (machine.accepted l g) e = refl
    go v (machine.long l) e = refl
    go v (machine.refused l f) e = absurd (none_bad f.bad e)

record Took (l b : List ℕ) : Type 0 where
  size : length l ≡ image_length
  verdict : (judged (entries_of b)).answer ≡ 0
  calls : (import_in l b).calls ≡ import_calls (entries_of b)
  position : (import_in l b).position ≡ 0

took : (l b : List ℕ) → (import_in l b).answer ≡ 0 → Took l b
unfolding import_in import_of import
took l b e = by (eqb (length l) image_length) refl (eqb (length b % 20) 0) refl e
  where
    by : (x : Bool) → eqb (length l) image_length ≡ x → (y : Bool) → eqb (length b % 20) 0 ≡ y
        → (cond x (cond y (import_by (judged (entries_of b)) (entries_of b)) (record { answer = 2; position = 0; calls = [] })) (record { answer = 1; position = 0; calls = [] })).answer ≡ 0
        → Took l b
    by false x y z e = absurd (omega arith)
    by true x false y e = absurd (omega arith)
    by true x true y e = record { size = eqb-true _ _ x; verdict = e; calls = rw (x, y, eq-eqb (judged (entries_of b)).answer 0 e) refl; position = rw (x, y) (no_place (entries_of b) e) }

-- ---- any bytes
module _ (l b : List ℕ) (r : Imported) (m : List ℕ) (p : Imports l b r m) where
  by_list : r.answer ≡ 0 → Took l b
  by_list a = took l b (sym (ap (λ (x : Imported). x.answer) p.0) ∙ a)

  shown : r.answer ≡ 0 → Shows (view (fresh_image false)) (import_in l b).calls (replies_in (fresh_image false) (import_in l b).calls) m
  shown a = shows_run (import_calling l b r m p a) (fresh_bytes false) (formed_fresh false)

  pub any_import : AnyImport l b r m
  any_import =
      record {
        answers = subst (Answers l b) (sym p.0) (answers_so l b);
        refused = import_leaves l b r m p;
        length = by (eqb r.answer 0) refl;
      }
    where
      by : (x : Bool) → eqb r.answer 0 ≡ x → length m ≡ length l
      by true x = let a = eqb-true r.answer 0 x in formed_length m (shown a).formed ∙ sym (by_list a).size
      by false x = ap length (import_leaves l b r m p (eqb-false r.answer 0 x))

  -- ---- accepted
  module _ (a : r.answer ≡ 0) where
    its_calls : List Call
    its_calls = import_calls (entries_of b)

    replied : List Reply
    replied = replies_in (fresh_image false) (import_in l b).calls

    made_on : Calling (fresh_image false) its_calls replied m
    unfolding its_calls replied
    made_on = subst (λ (cs : List Call). Calling (fresh_image false) cs replied m) (by_list a).calls (import_calling l b r m p a)

    replies_are : replied ≡ replies_from (fresh false) its_calls
    unfolding its_calls replied
    replies_are = (shows_run made_on (fresh_bytes false) (formed_fresh false)).replies ∙ ap (λ (s : State). replies_from s its_calls) (shows_fresh false)

    state_is : view m ≡ (run false its_calls).state
    unfolding its_calls
    state_is = (shows_run made_on (fresh_bytes false) (formed_fresh false)).state ∙ ap (λ (s : State). state_from s its_calls) (shows_fresh false) ∙ state_run_holds false its_calls

    accepted_from : (cs : List Call) → machine.Accepted cs → Accepted (replies_from (fresh false) cs)
    unfolding machine.Accepted Accepted replies_from
    accepted_from [] x = tt
    accepted_from (c ∷ cs) x = (ap (λ (s : State). (step s c).reply.answer) (state_run_holds false cs) ∙ x.0, accepted_from cs x.1)

    left_is : machine.Imported (entries_of b) (view m)
    unfolding its_calls
    left_is = subst (machine.Imported (entries_of b)) (sym state_is) (imported_leaves (entries_of b) (by_list a).verdict)

    pub import_calls_holds : ImportCalls l b r m
    unfolding its_calls
    import_calls_holds =
        record {
          replies = replied;
          made = λ k u f.
              let e : k ≡ (fresh_image false) = fresh_is false l k u (by_list a).size f in
              subst (λ (x : List ℕ). Calling x (import_calls (entries_of b)) replied m) (sym e) made_on;
          accepted = subst Accepted (sym replies_are) (accepted_from its_calls left_is.calls);
          position = ap (λ (x : Imported). x.position) p.0 ∙ (by_list a).position;
          formed = (shown a).formed;
          left = left_is;
        }

-- what the image held does not matter
pub import_same : (l l' b : List ℕ) (r r' : Imported) (m m' : List ℕ) → Imports l b r m → Imports l' b r' m' → length l ≡ length l' → r.answer ≡ 0 → (r ≡ r') × (m ≡ m')
unfolding import_in
import_same l l' b r r' m m' p q e a =
    let z : import_in l b ≡ import_in l' b = ap (λ (n : ℕ). cond (eqb n image_length) (import_of b) (record { answer = 1; position = 0; calls = [] })) e in
    let s : r ≡ r' = p.0 ∙ ap told z ∙ sym q.0 in
    (s, import_left l b r m p a ∙ ap (λ (x : Import). lent_from (fresh_image false) x.calls) z ∙ sym (import_left l' b r' m' q (sym (ap (λ (x : Imported). x.answer) s) ∙ a)))

-- imports are met: one change is accepted on the fresh image, and a rollback with nothing before it is refused (16) at place 1
abbrev change_bytes : List ℕ
change_bytes = twos (1 ∷ 1 ∷ 3 ∷ 7 ∷ 0 ∷ 0 ∷ 0 ∷ 0 ∷ 0 ∷ 0 ∷ [])

abbrev rollback_bytes : List ℕ
rollback_bytes = twos (2 ∷ 1 ∷ 0 ∷ 0 ∷ 0 ∷ 0 ∷ 0 ∷ 0 ∷ 0 ∷ 0 ∷ [])

abbrev pub Meets : List ℕ → (answer position : ℕ) → Type 0
Meets b a q = Imports (fresh_image false) b (record { answer = a; position = q }) (image_after (import_in (fresh_image false) b) (fresh_image false))

on_fresh : (b : List ℕ) → import_in (fresh_image false) b ≡ import_of b
unfolding import_in
on_fresh b = rw (eq-eqb (length (fresh_image false)) image_length (length_fresh false)) refl

pub import_met : Meets change_bytes 0 0
unfolding twos import_of entries_of entries_from entry_in pairs_at import judged judged_from pairs_ok values_ok
import_met = (sym (ap told (on_fresh change_bytes)), refl)

pub refusal_met : Meets rollback_bytes 16 1
unfolding twos import_of entries_of entries_from entry_in pairs_at import judged judged_from pairs_ok values_ok
refusal_met = (sym (ap told (on_fresh rollback_bytes)), refl)

-- ---- in place of the fresh start
acting_of : {l : List ℕ} {cs : List Call} {rs : List Reply} {m : List ℕ} → Calling l cs rs m → Acting l cs (map event_of rs) m
acting_of none = acting.none
acting_of (next d c r m p) = call (acting_of d) c r m p

acting_on : {l k m : List ℕ} {cs ds : List Call} {es fs : List Event} → Acting l ds fs k → Acting k cs es m → Acting l (cs ++ ds) (es ++ fs) m
acting_on p acting.none = p
acting_on p (call d c r m q) = call (acting_on p d) c r m q
acting_on {l} {k} {m} {ds = ds} {fs = fs} p (nightly {cs = cs} {es = es} {k = j} d n b os x r y z q) =
    subst (λ (c : List Call). Acting l c (((night_in j n b os).events ++ es) ++ fs) m) (sym (append_assoc (night_in j n b os).calls cs ds))
    (subst (λ (e : List Event). Acting l ((night_in j n b os).calls ++ (cs ++ ds)) e m) (sym (append_assoc (night_in j n b os).events es fs))
    (nightly (acting_on p d) n b os x r y z q))

module _ (l b : List ℕ) (r : Imported) (k : List ℕ) (p : Imports l b r k) (a : r.answer ≡ 0) where
  abbrev stands : List Call
  stands = import_calls (entries_of b)

  begun : Acting (fresh_image false) stands (run false stands).events k
  begun =
      let c = import_calls_holds l b r k p a in
      let d : Calling (fresh_image false) stands c.replies k = c.made (fresh_image false) (refusal 0) (freshens_fresh (by_list l b r k p a).size) in
      let e : map event_of c.replies ≡ (run false stands).events
      = ap (map event_of) ((shows_run d (fresh_bytes false) (formed_fresh false)).replies ∙ ap (λ (s : State). replies_from s stands) (shows_fresh false)) ∙ events_run false stands in
      subst (λ (es : List Event). Acting (fresh_image false) stands es k) e (acting_of d)
    where
      freshens_fresh : length l ≡ image_length → Freshens l 0 (refusal 0) (fresh_image false)
      freshens_fresh z = is_fresh false l z

  fresh_again : Freshens (fresh_image false) 0 (refusal 0) (fresh_image false)
  fresh_again = is_fresh false (fresh_image false) (length_fresh false)

  module _ {cs : List Call} {es : List Event} {m : List ℕ} where
    -- calls and nights behind an import are those behind its calls
    pub import_acting : Acting k cs es m → Acting (fresh_image false) (calls_with b cs) (events_with b es) m
    import_acting d = acting_on begun d

    reached : Acting k cs es m → Reached false (calls_with b cs) (events_with b es) m
    reached d = acted false (fresh_image false) (fresh_image false) (refusal 0) (length_fresh false) fresh_again (import_acting d)

    -- demand 3 counts the events of its calls
    pub import_demand_3 : Acting k cs es m → Demand3 (view m) (events_with b es) (notes false (calls_with b cs))
    import_demand_3 d = let h = reached d in reached_3 false (calls_with b cs) (events_with b es) m h.state h.events h.formed

    -- and so do nights that are long enough
    pub import_enough : Acting k cs es m → (n c : ℕ) (os x : List ℕ) (w : Night) (m' y : List ℕ) → Nights m n c os x w m' y → Suffices 6 m n c w m'
    import_enough d = six_enough false (fresh_image false) (fresh_image false) (refusal 0) (length_fresh false) fresh_again (import_acting d)

    pub import_demand_3_in_c : Acting k cs es m → Demand3C false (calls_with b cs) (events_with b es) m
    import_demand_3_in_c d = let h = reached d in reached_3_c false (calls_with b cs) (events_with b es) m h.state h.events h.formed

-- ---- as C sees it
import_in_c : (l b : List ℕ) (p : ℕ) (m : List ℕ) → north.Imports l b p m → Imports l b (unpacked_import p) m
import_in_c l b p m q = (q.0.1, q.1)

module _ (l b : List ℕ) (p : ℕ) (m : List ℕ) (q : north.Imports l b p m) where
  pub any_import_c : AnyImport l b (unpacked_import p) m
  any_import_c = any_import l b (unpacked_import p) m (import_in_c l b p m q)

  module _ (a : (unpacked_import p).answer ≡ 0) where
    pub import_calls_c : ImportCalls l b (unpacked_import p) m
    import_calls_c = import_calls_holds l b (unpacked_import p) m (import_in_c l b p m q) a

    pub import_demand_3_c : {cs : List Call} {es : List Event} {m' : List ℕ} → ActingC m cs es m' → Demand3C false (calls_with b cs) (events_with b es) m'
    import_demand_3_c d = import_demand_3_in_c l b (unpacked_import p) m (import_in_c l b p m q) a (acting_in_c d)

    -- all that is promised of what `fresh` began
    pub import_behind_c : {cs : List Call} {es : List Event} {m' : List ℕ} → ActingC m cs es m' → BehindC b cs es m'
    import_behind_c {cs} {es} {m'} d =
        let i : Imports l b (unpacked_import p) m = import_in_c l b p m q in
        let f : Freshens (fresh_image false) 0 (refusal 0) (fresh_image false) = fresh_again l b (unpacked_import p) m i a in
        let x : AreCalls (fresh_image false) (calls_with b cs) (events_with b es) m' = acting_calls (import_acting l b (unpacked_import p) m i a (acting_in_c d)) (fresh_bytes false) (formed_fresh false) in
        record {
          calls = x;
          demand = import_demand_3_c d;
          enough = λ n c os o w k y z. import_enough l b (unpacked_import p) m i a (acting_in_c d) n c os o (unpacked_night w) k y (night_in_c m' n c os o w k y z);
          explained = λ n j k w z e.
              subst (λ (fs : List Event). Explained fs m' j k (unpacked_why w)) x.events
              (why_explained false (fresh_image false) (fresh_image false) (refusal 0) (length_fresh false) f x.calls n j k (unpacked_why w) (why_in_c m' n j k w z) e);
          owned = λ k w z e.
              subst (λ (fs : List Event). Owned fs m' k (unpacked_read w)) x.events
              (owner_listed false (fresh_image false) (fresh_image false) (refusal 0) (length_fresh false) f x.calls k (unpacked_read w) z (owner_in_c m' k w e));
          audited = λ k t u v w y z n.
              read_audited false (fresh_image false) (fresh_image false) (refusal 0) (length_fresh false) f (import_acting l b (unpacked_import p) m i a (acting_in_c d))
              k (unpacked_read t) (unpacked_read u) (unpacked_read v) w (read_in_c m' (of_took k) t y) (read_in_c m' (of_undone k) u z) (read_in_c m' (of_class k) v n);
        }
