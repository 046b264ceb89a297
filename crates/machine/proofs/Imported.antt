-- Order 6: every call that an accepted list stands for is accepted, and what they leave (Imports says what that is). The proof goes
-- entry by entry; no invariant of histories is needed. Assumes nothing.
use Prim.Native.Nat.{ℕ, zero, suc, ◌+◌, ◌≤◌, ◌<◌}
use native.Mathlib.Omega.{arith}
use mathlib.Core.List.{List, [], ◌∷◌, ◌++◌, map}
use mathlib.Core.Bool.{Bool, true, false}
use mathlib.Core.Path.{◌≡◌, refl, sym, ap, ◌∙◌, subst}
use lib.Dec.{eqb, ltb}
use lib.ListN.{length}
use borrow.Author.Tests.{eqb-true, eqb-false, eq-eqb, lt-ltb, lt-leb, ltb-true, ltb-false}
use Rattle.kinds.specs.declared.Transaction.{Transaction}
use Rattle.kinds.specs.declared.Status.TheVariants.{Pending, Complete}
use Rattle.kinds.specs.Numbers.{num, is_full, ordinal_unless, next_ordinal}
use Rattle.rules.specs.Outside as outside
use Rattle.machine.specs.State.{Log, State, absent, fresh_part, entry_of, put_entry, grown, last}
use Rattle.machine.specs.Stores.{with_log, after, afters}
use Rattle.machine.specs.WellFormed.{all_from, all_at_most, head_ok, well_formed}
use Rattle.machine.specs.Calls.{Pair, Call, append, rollback, work, valid_change, appended, decide}
use Rattle.machine.specs.Step.{outcome, step, run}
use Rattle.machine.specs.Import.{Entry, adds, undoes, neither, Verdict, judged, opening, number_at, calls_of, calls_up_to, import_calls}
use Rattle.machine.specs.Entered as one
use Rattle.machine.specs.Entered.{changed_entry, changed, undone_entry}
use Rattle.machine.specs.Imports.{entry_after, Named, Newest, Good, change, rollback, Bad, pairs, full, names, kind, GoodUpTo, Verdicts, accepted, long, refused, Accepted, Committed, Ended, stays, undone, Revises, bare, newest, Imported}
use Rattle.machine.proofs.Next.{putting}
use Rattle.machine.proofs.Entries.{put_all, add_all, entry_put, entry_add, last_put, last_add}
use Rattle.machine.proofs.Kept.{reached_well_formed}
use Rattle.machine.proofs.Judged.{no_change, same_place, number_change, number_rollback, number_rises, here, Falls, falls_low, Kept, kept_none, kept_change, kept_rollback, kept_newest, Heads, newest_kept, named_before, named_cases, judged_so}
use Rattle.machine.proofs.ImportCalls.{Rested, none, forth, returned, rested_rest, change_done, rollback_done}

-- ---- the live changes' numbers, the newest first
abbrev tip_of : List ℕ → ℕ
tip_of [] = 0
tip_of (k ∷ ks) = k

record Standing (l : Log) (k : ℕ) (ks : List ℕ) : Type 0 where
  low : tip_of ks < k
  inside : k ≤ last l
  may : outside.may_roll_back (entry_of l k) ≡ true
  index : (entry_of l k).index.0 ≡ tip_of ks

unfoldable Chain : Log → List ℕ → Type 0
Chain l [] = Unit {0}
Chain l (k ∷ ks) = Standing l k ks × Chain l ks

chain_same : (l m : Log) (b : ℕ) → last l ≤ last m → ((k : ℕ) → k ≤ b → entry_of m k ≡ entry_of l k) → (ks : List ℕ) → tip_of ks ≤ b → Chain l ks → Chain m ks
unfolding Chain
chain_same l m b n e [] p c = tt
chain_same l m b n e (k ∷ ks) p c =
    let x = c.0 in (
      record {
        low = x.low;
        inside = omega (arith, x.inside);
        may = ap outside.may_roll_back (e k p) ∙ x.may;
        index = ap (λ t. t.index.0) (e k p) ∙ x.index;
      },
      chain_same l m b n e ks (omega (arith, x.low)) c.1,
    )

entries_grown : (l : Log) (t : Transaction) (k : ℕ) → k ≤ last l → entry_of (grown l t) k ≡ entry_of l k
entries_grown l t = add_all (λ k u. k ≤ last l → u ≡ entry_of l k) l t (λ k p. refl) (λ p. absurd (omega arith))

entries_put : (l : Log) (i : ℕ) (t : Transaction) (k : ℕ) → (k ≡ i → ⊥) → entry_of (put_entry l i t) k ≡ entry_of l k
entries_put l i t = put_all (λ k u. (k ≡ i → ⊥) → u ≡ entry_of l k) l i t (λ k p. refl) (λ p. absurd (p refl))

-- ---- what became of a change, one entry later
abbrev Became : List Entry → (k j : ℕ) → List Pair → Transaction → Type 0
Became es k j ps t = Committed ps t × Ended es k (suc j) t

ended_later : (es : List Entry) (k p : ℕ) (t : Transaction) → (entry_after es k ≡ undoes p → ⊥) → Ended es k p t → Ended es (suc k) p t
ended_later es k p t f (stays n x y) = stays (λ m. named_cases es k p m f n) x y
ended_later es k p t f (undone n x y z) = undone (named_before n) x y z

-- ---- after k entries: the live changes are those at places ls
record Ready (es : List Entry) (k : ℕ) (ls : List ℕ) (s : State) : Type 0 where
  is : (run false (calls_up_to es k)).state ≡ s
  all : Accepted (calls_up_to es k)
  kept : Kept es k ls
  fold : s.log.folded.0 ≡ 0
  size : last s.log ≡ number_at es k
  change : s.change.0 ≡ number_at es k
  ordinal : s.committed.head.ordinal.0 ≡ k
  master : s.net.mastership.master ≡ 1
  rests : Rested s.log s.committed.head
  live : Chain s.log (map (number_at es) ls)
  tip : s.committed.head.revision.0 ≡ tip_of (map (number_at es) ls)
  aim : s.committed.head.revision.0 ≤ s.committed.head.target.0
  target : s.committed.head.target.0 ≤ number_at es k
  index : s.committed.head.index.0 ≤ number_at es k
  commits : (j : ℕ) (ps : List Pair) → j < k → entry_after es j ≡ adds ps → Became es k j ps (entry_of s.log (number_at es (suc j)))
  applied : s.applied ≡ fresh_part
  net : s.net ≡ (run false opening).state.net
  values : s.net.values ≡ absent

next_is : (s : State) → is_full s.committed.head.ordinal.0 ≡ false → (next_ordinal s.committed.head.ordinal).0 ≡ suc s.committed.head.ordinal.0
next_is s e = ap (λ b. (ordinal_unless b s.committed.head.ordinal.0).0) e ∙ (let z : s.committed.head.ordinal.0 + 1 ≡ suc s.committed.head.ordinal.0 = omega arith in z)

module _ {es : List Entry} {k : ℕ} {s : State} (inside : k < length es) (short : length es ≤ 256) where
  module _ {ls : List ℕ} (r : Ready es k ls s) where
    formed : well_formed s ≡ true
    formed = subst (λ u. well_formed u ≡ true) r.is (reached_well_formed false (calls_up_to es k))

    room : is_full s.committed.head.ordinal.0 ≡ false
    room = lt-leb 131070 s.committed.head.ordinal.0 (omega (arith, r.ordinal))

    module _ (ps : List Pair) (e : entry_after es k ≡ adds ps) where
      number : suc (last s.log) ≡ number_at es (suc k)
      number = ap suc r.size ∙ sym (number_change es k inside e)

      calls_change : calls_up_to es (suc k) ≡ work 1 1 (suc (last s.log)) 0 0 ∷ work 1 1 (suc (last s.log)) 0 0 ∷ append ps ∷ calls_up_to es k
      unfolding calls_up_to
      calls_change = ap (λ x. calls_of es (suc k) x ++ calls_up_to es k) e ∙ ap (λ i. work 1 1 i 0 0 ∷ work 1 1 i 0 0 ∷ append ps ∷ calls_up_to es k) (sym number)

      grown_rests : Rested s.log s.committed.head → Rested (grown s.log (appended ps)) s.committed.head
      grown_rests (none e f) = none e f
      grown_rests (forth p e f) = forth p e (ap (λ t. t.change.commit) (entries_grown s.log (appended ps) s.committed.head.index.0 (omega (arith, r.index, r.size))) ∙ f)
      grown_rests (returned e p f) = returned e p (ap (λ t. t.rollback.commit) (entries_grown s.log (appended ps) s.committed.head.index.0 (omega (arith, r.index, r.size))) ∙ f)

      new : entry_of (grown s.log (changed_entry s ps)) (number_at es (suc k)) ≡ changed_entry s ps
      new = ap (entry_of (grown s.log (changed_entry s ps))) (sym number) ∙ entry_add s.log (changed_entry s ps)

      became : (j : ℕ) (qs : List Pair) → j < suc k → entry_after es j ≡ adds qs → Became es (suc k) j qs (entry_of (grown s.log (changed_entry s ps)) (number_at es (suc j)))
      became j qs l f = go (ltb j k) refl
        where
          unnamed : Named es (suc k) (suc k) → ⊥
          unnamed n = named_cases es k (suc k) n (λ z. no_change e z) (λ m. let z = r.kept.low (suc k) m in omega (arith, z))

          pairs_of : Entry → List Pair
          pairs_of (adds ps) = ps
          pairs_of (undoes p) = []
          pairs_of neither = []

          go : (b : Bool) → ltb j k ≡ b → Became es (suc k) j qs (entry_of (grown s.log (changed_entry s ps)) (number_at es (suc j)))
          go true b =
              let u = r.commits j qs (ltb-true j k b) f in
              let low = number_rises es (suc j) k (ltb-true j k b) in
              subst (Became es (suc k) j qs) (sym (entries_grown s.log (changed_entry s ps) (number_at es (suc j)) (omega (arith, low, r.size))))
              (u.0, ended_later es k (suc j) (entry_of s.log (number_at es (suc j))) (λ z. no_change e z) u.1)
          go false b =
              let z : k ≡ j = omega (arith, l, ltb-false j k b) in
              let same : ps ≡ qs = ap pairs_of (sym e ∙ ap (entry_after es) z ∙ f) in
              subst (λ i. Became es (suc k) i qs (entry_of (grown s.log (changed_entry s ps)) (number_at es (suc i)))) z
              (subst (λ qs. Became es (suc k) k qs (entry_of (grown s.log (changed_entry s ps)) (number_at es (suc k)))) same
              (subst (Became es (suc k) k ps) (sym new) (record { pairs = (refl, refl, refl); commit = refl; apply = refl }, stays unnamed refl refl)))

      ready_change : valid_change ps ≡ true → number_at es k < 128 → Ready es (suc k) (suc k ∷ ls) (changed s ps)
      unfolding Chain
      ready_change v m =
          let size = r.size in
          let x =
          change_done s formed r.fold r.master room ps v (lt-ltb (length s.log.entries) 128 (omega (arith, r.size))) (r.change ∙ sym size) (omega (arith, r.target, r.size))
          (rested_rest (with_log s (grown s.log (appended ps))) (grown_rests r.rests)) (calls_up_to es k) r.is r.all in
          record {
            is = ap (λ cs. (run false cs).state) calls_change ∙ x.0;
            all = subst Accepted (sym calls_change) x.1;
            kept = kept_change e r.kept;
            fold = r.fold;
            size = last_add s.log (changed_entry s ps) ∙ number;
            change = number;
            ordinal = next_is s room ∙ ap suc r.ordinal;
            master = r.master;
            rests = forth (omega arith) refl (ap (λ t. t.change.commit) (entry_add s.log (changed_entry s ps)));
            live = (
              record {
                low = omega (arith, r.tip, r.aim, r.target, number, r.size);
                inside = omega (arith, last_add s.log (changed_entry s ps), number);
                may = ap outside.may_roll_back new;
                index = ap (λ t. t.index.0) new ∙ r.tip;
              },
              chain_same s.log (grown s.log (changed_entry s ps)) (number_at es k) (omega (arith, last_add s.log (changed_entry s ps)))
                  (λ i p. entries_grown s.log (changed_entry s ps) i (omega (arith, r.size))) (map (number_at es) ls) (omega (arith, r.tip, r.aim, r.target)) r.live,
            );
            tip = number;
            aim = omega arith;
            target = omega (arith, number);
            index = omega (arith, number);
            commits = became;
            applied = r.applied;
            net = r.net;
            values = r.values;
          }

  module _ {p : ℕ} {ls : List ℕ} (r : Ready es k (p ∷ ls) s) (e : entry_after es k ≡ undoes p) where
    abbrev v : ℕ
    v = s.committed.head.revision.0

    abbrev u : Transaction
    u = undone_entry s

    tip : v ≡ number_at es p
    tip = r.tip

    calls_rollback : calls_up_to es (suc k) ≡ work 1 3 v 0 0 ∷ work 1 3 v 0 0 ∷ rollback v ∷ calls_up_to es k
    unfolding calls_up_to
    calls_rollback = ap (λ x. calls_of es (suc k) x ++ calls_up_to es k) e ∙ ap (λ i. work 1 3 i 0 0 ∷ work 1 3 i 0 0 ∷ rollback i ∷ calls_up_to es k) (sym tip)

    stand : Standing s.log (number_at es p) (map (number_at es) ls)
    unfolding Chain
    stand = r.live.0

    at : entry_of s.log v ≡ entry_of s.log (number_at es p)
    at = ap (entry_of s.log) tip

    low : (entry_of s.log v).index.0 < v
    low = let x = stand.index in let y = stand.low in let z = ap (λ t. t.index.0) at in omega (arith, x, y, z, tip)

    within : v ≤ last s.log
    within = let x = stand.inside in omega (arith, x, tip)

    put_rests : Rested s.log s.committed.head → Rested (put_entry s.log v (outside.rolled_back (entry_of s.log v))) s.committed.head
    put_rests (none e f) = none e f
    put_rests (forth p e f) =
        forth p e (put_all (λ j u. u.change.commit ≡ (entry_of s.log j).change.commit) s.log v (outside.rolled_back (entry_of s.log v)) (λ j. refl) refl s.committed.head.index.0 ∙ f)
    put_rests (returned e p f) =
        returned e p (ap (λ t. t.rollback.commit) (entries_put s.log v (outside.rolled_back (entry_of s.log v)) s.committed.head.index.0 (λ z. omega arith)) ∙ f)

    stored : entry_of (put_entry s.log v u) v ≡ u
    stored = entry_put s.log v u (omega (arith, r.fold, low)) within

    became_back : (j : ℕ) (qs : List Pair) → j < suc k → entry_after es j ≡ adds qs → Became es (suc k) j qs (entry_of (put_entry s.log v u) (number_at es (suc j)))
    became_back j qs l f = go (ltb j k) refl (eqb (suc j) p) refl
      where
        live : Rattle.machine.specs.Imports.Live es k p
        live = r.kept.live p (here refl)

        -- another change has another number
        apart : j < k → (suc j ≡ p → ⊥) → number_at es (suc j) ≡ v → ⊥
        apart b n z = side (ltb j live.before) refl
          where
            at_p : number_at es p ≡ suc (number_at es live.before)
            at_p = ap (number_at es) live.place ∙ number_change es live.before (omega (arith, live.early, inside)) live.change

            side : (c : Bool) → ltb j live.before ≡ c → ⊥
            side true c = let x = number_rises es (suc j) live.before (ltb-true j _ c) in omega (arith, x, at_p, z, tip)
            side false c =
                let d : live.before < j = let y = ltb-false j live.before c in let w : (live.before ≡ j → ⊥) = λ q. n (ap suc (sym q) ∙ sym live.place) in strict y w in
                let x = number_rises es (suc live.before) j d in
                let y = number_change es j (omega (arith, b, inside)) f in
                let w = number_change es live.before (omega (arith, live.early, inside)) live.change in
                omega (arith, x, y, w, at_p, z, tip)
              where
                strict : {a b : ℕ} → a ≤ b → (a ≡ b → ⊥) → a < b
                strict {a} {b} l n = omega (arith, l, n)

        go : (b : Bool) → ltb j k ≡ b → (c : Bool) → eqb (suc j) p ≡ c → Became es (suc k) j qs (entry_of (put_entry s.log v u) (number_at es (suc j)))
        go false b c d = let z : k ≡ j = omega (arith, l, ltb-false j k b) in no_change f (subst (λ i. entry_after es i ≡ undoes p) z e)
        go true b true d =
            let z = eqb-true (suc j) p d in
            let w = r.commits j qs (ltb-true j k b) f in
            let same : entry_of s.log (number_at es (suc j)) ≡ entry_of s.log v = ap (λ i. entry_of s.log (number_at es i)) z ∙ sym at in
            let x = subst (Committed qs) same w.0 in
            let here : entry_of (put_entry s.log v u) (number_at es (suc j)) ≡ u = ap (λ i. entry_of (put_entry s.log v u) (number_at es i)) z ∙ ap (entry_of (put_entry s.log v u)) (sym tip) ∙ stored in
            subst (Became es (suc k) j qs) (sym here)
            (record { pairs = x.pairs; commit = x.commit; apply = x.apply }, undone (record { before = k; early = omega arith; names = e ∙ ap undoes (sym z) }) refl refl refl)
        go true b false d =
            let n = eqb-false (suc j) p d in
            let w = r.commits j qs (ltb-true j k b) f in
            subst (Became es (suc k) j qs) (sym (entries_put s.log v u (number_at es (suc j)) (apart (ltb-true j k b) n)))
            (w.0, ended_later es k (suc j) (entry_of s.log (number_at es (suc j))) (λ z. n (same_place z e)) w.1)

    ready_rollback : Ready es (suc k) ls (one.undone s)
    unfolding Chain
    ready_rollback =
        let x =
        rollback_done s (formed r) r.fold r.master (room r) (omega (arith, low)) within (ap outside.may_roll_back at ∙ stand.may)
        (λ z. let a = r.aim in omega (arith, low, a, z)) (rested_rest (putting s v (outside.rolled_back (entry_of s.log v))) (put_rests r.rests)) (calls_up_to es k) r.is r.all in
        let n = number_rollback es k inside e in
        record {
          is = ap (λ cs. (run false cs).state) calls_rollback ∙ x.0;
          all = subst Accepted (sym calls_rollback) x.1;
          kept = kept_rollback e r.kept;
          fold = r.fold;
          size = last_put s.log v u ∙ r.size ∙ sym n;
          change = r.change ∙ sym n;
          ordinal = next_is s (room r) ∙ ap suc r.ordinal;
          master = r.master;
          rests = returned refl low (ap (λ t. t.rollback.commit) stored);
          live = chain_same s.log (put_entry s.log v u) (tip_of (map (number_at es) ls)) (omega (arith, last_put s.log v u))
              (λ j q. entries_put s.log v u j (λ z. let y = stand.low in omega (arith, y, tip, z, q))) (map (number_at es) ls) (omega arith) r.live.1;
          tip = ap (λ t. t.index.0) at ∙ stand.index;
          aim = omega arith;
          target = omega (arith, low, within, r.size, n);
          index = omega (arith, within, r.size, n);
          commits = became_back;
          applied = r.applied;
          net = r.net;
          values = r.values;
        }

-- ---- every entry
record Goes (es : List Entry) (k : ℕ) : Type 0 where
  places : List ℕ
  state : State
  ready : Ready es k places state

opened : (es : List Entry) → Goes es 0
unfolding run step outcome decide afters after well_formed all_from all_at_most head_ok Accepted Chain calls_up_to number_at
opened es =
    record {
      places = [];
      state = (run false (calls_up_to es 0)).state;
      ready =
          record {
            is = refl;
            all = (refl, (refl, (refl, tt)));
            kept = kept_none es;
            fold = refl;
            size = refl;
            change = refl;
            ordinal = refl;
            master = refl;
            rests = none refl refl;
            live = tt;
            tip = refl;
            aim = omega arith;
            target = omega arith;
            index = omega arith;
            commits = λ j ps l. absurd (omega arith);
            applied = refl;
            net = refl;
            values = refl;
          };
    }

-- the newest number is that of the newest live change
revises : (es : List Entry) (k : ℕ) (ls : List ℕ) → Kept es k ls → Revises es k (tip_of (map (number_at es) ls))
unfolding Falls
revises es k [] x = bare (λ p l. absurd (omega (arith, falls_low 0 [] tt p (x.all p l))))
revises es k (y ∷ ls) x = newest (kept_newest es k (y ∷ ls) x y (eq-eqb y y refl))

module _ (es : List Entry) (short : length es ≤ 256) (good : GoodUpTo es (length es)) where
  goes : (k : ℕ) → k ≤ length es → Goes es k
  goes zero l = opened es
  goes (suc k) l = more (goes k (omega arith)) (entry_after es k) refl (good k l)
    where
      more : Goes es k → (e : Entry) → entry_after es k ≡ e → Good es k e → Goes es (suc k)
      more g (adds ps) e (change v m) = record { places = _; state = _; ready = ready_change l short g.ready ps e v m }
      more g neither e h = elim h [ ]
      more g (undoes p) e (rollback n) =
          let h = newest_kept es k g.places g.ready.kept p n in
          record { places = h.rest; state = _; ready = ready_rollback l short (subst (λ ls. Ready es k ls g.state) h.is g.ready) e }

  pub imported_good : Imported es (run false (import_calls es)).state
  imported_good =
      let g = goes (length es) (omega arith) in
      let r = g.ready in
      subst (Imported es) (sym r.is)
      (record {
        calls = r.all;
        formed = subst (λ u. well_formed u ≡ true) r.is (reached_well_formed false (import_calls es));
        fold = r.fold;
        size = r.size;
        commits = r.commits;
        change = r.change;
        ordinal = r.ordinal;
        revision = subst (Revises es (length es)) (sym r.tip) (revises es (length es) g.places r.kept);
        rest = rested_rest g.state r.rests;
        applied = r.applied;
        net = r.net;
        target = r.values;
      })

  -- a rollback undoes the revision
  pub revision_named : (k p : ℕ) → k < length es → entry_after es k ≡ undoes p → (run false (calls_up_to es k)).state.committed.head.revision.0 ≡ number_at es p
  revision_named k p l e = go (entry_after es k) e (good k l) (goes k (omega arith))
    where
      go : (x : Entry) → x ≡ undoes p → Good es k x → Goes es k → (run false (calls_up_to es k)).state.committed.head.revision.0 ≡ number_at es p
      go (adds ps) z (change v m) g = no_change refl z
      go neither z h g = elim h [ ]
      go (undoes q) z (rollback n) g =
          let h = newest_kept es k g.places g.ready.kept q n in
          ap (λ s. s.committed.head.revision.0) g.ready.is ∙ g.ready.tip ∙ ap (λ ls. tip_of (map (number_at es) ls)) h.is ∙ ap (number_at es) (same_place refl z)

  -- what each entry's calls come to, and where it finds the log
  pub entered_change : (k : ℕ) (ps : List Pair) → k < length es → entry_after es k ≡ adds ps
      → ((run false (calls_up_to es (suc k))).state ≡ changed (run false (calls_up_to es k)).state ps) × (valid_change ps ≡ true) × (last (run false (calls_up_to es k)).state.log < 128)
  entered_change k ps l e = go (entry_after es k) refl (good k l) (goes k (omega arith))
    where
      pairs_in : Entry → List Pair
      pairs_in (adds ps) = ps
      pairs_in (undoes p) = []
      pairs_in neither = []

      go : (x : Entry) → entry_after es k ≡ x → Good es k x → Goes es k
          → ((run false (calls_up_to es (suc k))).state ≡ changed (run false (calls_up_to es k)).state ps) × (valid_change ps ≡ true) × (last (run false (calls_up_to es k)).state.log < 128)
      go (adds qs) x (change v m) g =
          let same : qs ≡ ps = ap pairs_in (sym x ∙ e) in
          let r = g.ready in
          let z = ap (λ s. last s.log) r.is in (
            (ready_change l short r ps e (subst (λ u. valid_change u ≡ true) same v) m).is ∙ ap (λ s. changed s ps) (sym r.is),
            subst (λ u. valid_change u ≡ true) same v,
            omega (arith, z, r.size, m),
          )
      go (undoes p) x (rollback n) g = no_change e x
      go neither x h g = elim h [ ]

  pub entered_rollback : (k p : ℕ) → k < length es → entry_after es k ≡ undoes p
      → (let s = (run false (calls_up_to es k)).state in
      ((run false (calls_up_to es (suc k))).state ≡ one.undone s) × (1 ≤ s.committed.head.revision.0) × (s.committed.head.revision.0 ≤ last s.log))
  entered_rollback k p l e = go (entry_after es k) e refl (good k l) (goes k (omega arith))
    where
      go : (x : Entry) → x ≡ undoes p → entry_after es k ≡ x → Good es k x → Goes es k
          → (let s = (run false (calls_up_to es k)).state in
          ((run false (calls_up_to es (suc k))).state ≡ one.undone s) × (1 ≤ s.committed.head.revision.0) × (s.committed.head.revision.0 ≤ last s.log))
      go (adds ps) z x (change v m) g = no_change refl z
      go neither z x h g = elim h [ ]
      go (undoes q) z x (rollback n) g =
          let h = newest_kept es k g.places g.ready.kept q n in
          let r = subst (λ ls. Ready es k ls g.state) h.is g.ready in
          let a = ap (λ s. s.committed.head.revision.0) r.is in
          let b = ap (λ s. last s.log) r.is in
          ((ready_rollback l short r x).is ∙ ap one.undone (sym r.is), omega (arith, a, low l short r x), omega (arith, a, b, within l short r x))

  pub entered_fold : (k : ℕ) → k ≤ length es → (run false (calls_up_to es k)).state.log.folded.0 ≡ 0
  entered_fold k l = let r = (goes k l).ready in ap (λ s. s.log.folded.0) r.is ∙ r.fold

-- ---- of a list that is accepted
pub record Taken (es : List Entry) : Type 0 where
  pub short : length es ≤ 256
  pub good : GoodUpTo es (length es)

pub taken : (es : List Entry) → (judged es).answer ≡ 0 → Taken es
taken es e = go (judged es) (judged_so es) e
  where
    none_bad : {k : ℕ} {x : Entry} {a : ℕ} → Bad es k x a → a ≡ 0 → ⊥
    none_bad (pairs v) z = omega arith
    none_bad (full v m) z = omega arith
    none_bad (names n) z = omega arith
    none_bad kind z = omega arith

    go : (v : Verdict) → Verdicts es v → v.answer ≡ 0 → Taken es
    go v (accepted l g) e = record { short = l; good = g }
    go v (long l) e = absurd (omega arith)
    go v (refused l f) e = absurd (none_bad f.bad e)

pub imported_leaves : (es : List Entry) → (judged es).answer ≡ 0 → Imported es (run false (import_calls es)).state
imported_leaves es e = let t = taken es e in imported_good es t.short t.good
