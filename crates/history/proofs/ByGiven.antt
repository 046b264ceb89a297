-- Demand 3's values are those of the changes given (Given): no call but append touches pairs, and the whole's entries are
-- those given. Nothing is lost by a fold. Assumes nothing.
use Prim.Native.Nat.{ℕ, zero, suc, ◌+◌, ◌≤◌, ◌<◌}
use native.Mathlib.Omega.{arith}
use mathlib.Core.List.{List, [], ◌∷◌, ◌++◌, append-nil}
use mathlib.Core.Bool.{Bool, true, false, ◌&&◌, cond}
use mathlib.Core.Path.{◌≡◌, refl, sym, ap, ◌∙◌, subst}
use lib.Dec.{eqb, ltb}
use lib.ListN.{length, get_or}
use borrow.Author.Tests.{le-leb, ne_eqb}
use Rattle.kinds.specs.declared.Transaction.{Transaction}
use Rattle.kinds.specs.declared.Reply.{Reply}
use Rattle.kinds.specs.Events.{numbered, refusal}
use Rattle.rules.specs.declared.Plan.{Plan}
use Rattle.rules.specs.declared.Order.{Order}
use Rattle.rules.specs.declared.Order.TheVariants.{Neither, EntryOnly, HeadOnly, EntryThenHead, HeadThenEntry, TargetThenHeadThenEntry}
use Rattle.kinds.specs.declared.Head.{Head}
use Rattle.kinds.specs.declared.Number.{Number}
use Rattle.kinds.specs.declared.Ordinal.{Ordinal}
use Rattle.kinds.specs.Numbers.{num, ord}
use Rattle.rules.specs.declared.CommitChangeRule.{CommitChangeRule}
use Rattle.rules.specs.declared.CommitChangeRule.TheVariants as change
use Rattle.rules.specs.declared.CommitRollbackRule.{CommitRollbackRule}
use Rattle.rules.specs.declared.CommitRollbackRule.TheVariants as back
use Rattle.rules.specs.declared.ApplyChangeRule.{ApplyChangeRule}
use Rattle.rules.specs.declared.ApplyChangeRule.TheVariants as apply
use Rattle.rules.specs.declared.ApplyRollbackRule.{ApplyRollbackRule}
use Rattle.rules.specs.declared.ApplyRollbackRule.TheVariants as return
use Rattle.rules.specs.CommitChange as job1
use Rattle.rules.specs.CommitRollback as job3
use Rattle.rules.specs.ApplyChange as job2
use Rattle.rules.specs.ApplyRollback as job4
use Rattle.rules.specs.declared.Present.{Present}
use Rattle.machine.specs.State.{Log, State, unfolded, entry_of, put_entry, grown, last}
use Rattle.machine.specs.Stores.{grow, with_log, after, afters}
use Rattle.machine.specs.WellFormed.{well_formed}
use Rattle.machine.specs.Calls.{Pair, Call, Outcome, append, rollback, start, stop, connect, disconnect, master, sync, work, fold_to, refused, unless, valid_change, appended, present_of, decide}
use Rattle.machine.specs.Step.{outcome, step, run}
use Rattle.machine.specs.Notes.{Note}
use Rattle.machine.proofs.Next.{performed_by, performed}
use Rattle.machine.proofs.Entries.{put_all, add_all, last_put, last_add, entry_add}
use Rattle.machine.proofs.ByCall.{Does, Calls}
use Rattle.history.specs.Demand3.{live, sets, value_at, highest, kept, Demand3}
use Rattle.history.specs.Ops.{crash}
use Rattle.history.specs.Frames.{by_eq}
use Rattle.history.proofs.ByNumber.{highest_same}
use Rattle.history.specs.Whole.{unless_fold, whole}
use Rattle.history.specs.Given.{given_by, given, ByGiven}
use Rattle.history.proofs.Reached.{folded, by_history}
use Rattle.history.proofs.Switched.{demand_3_whole}

abbrev is_append : Call → Bool
is_append (append ps) = true
is_append (rollback i) = false
is_append start = false
is_append stop = false
is_append (connect n) = false
is_append (disconnect n) = false
is_append (master n) = false
is_append (sync n) = false
is_append (work n j i r c) = false
is_append (fold_to b) = false

-- ---- two entries with the same pairs, two logs of such entries
pub record SamePairs (t u : Transaction) : Type 0 where
  pub count : u.count ≡ t.count
  pub paths : u.paths ≡ t.paths
  pub values : u.values ≡ t.values

same_pairs : (t : Transaction) → SamePairs t t
same_pairs t = record { count = refl; paths = refl; values = refl }

pub record Alike (l m : Log) : Type 0 where
  pub last : last m ≡ last l
  pub pairs : (k : ℕ) → SamePairs (entry_of l k) (entry_of m k)

alike : (l : Log) → Alike l l
alike l = record { last = refl; pairs = λ k. same_pairs (entry_of l k) }

alike_then : {l m n : Log} → Alike l m → Alike m n → Alike l n
alike_then a b =
    record {
      last = b.last ∙ a.last;
      pairs = λ k. record {
        count = (b.pairs k).count ∙ (a.pairs k).count;
        paths = (b.pairs k).paths ∙ (a.pairs k).paths;
        values = (b.pairs k).values ∙ (a.pairs k).values;
      };
    }

put_alike : (l : Log) (i : ℕ) (t : Transaction) → SamePairs (entry_of l i) t → Alike l (put_entry l i t)
put_alike l i t p =
    record { last = last_put l i t; pairs = put_all (λ k u. SamePairs (entry_of l k) u) l i t (λ k. same_pairs (entry_of l k)) p }

grow_alike : {l m : Log} (t : Transaction) → Alike l m → Alike (grown l t) (grown m t)
grow_alike {l} {m} t a =
    record {
      last = last_add m t ∙ ap suc a.last ∙ sym (last_add l t);
      pairs = λ k. by_eq k (suc (last m)) (at_end k)
          (add_all (λ k u. (k ≡ suc (last m) → ⊥) → SamePairs (entry_of (grown l t) k) u) m t
          (add_all (λ k u. (k ≡ suc (last m) → ⊥) → SamePairs u (entry_of m k)) l t (λ k x. a.pairs k) (λ x. absurd (x (ap suc (sym a.last)))))
          (λ x. absurd (x refl)) k);
    }
  where
    at_end : (k : ℕ) → k ≡ suc (last m) → SamePairs (entry_of (grown l t) k) (entry_of (grown m t) k)
    at_end k e =
        let x : entry_of (grown m t) k ≡ t = ap (entry_of (grown m t)) e ∙ entry_add m t in
        let y : entry_of (grown l t) k ≡ t = ap (entry_of (grown l t)) (e ∙ ap suc a.last) ∙ entry_add l t in
        subst (λ u. SamePairs u (entry_of (grown m t) k)) (sym y) (subst (SamePairs t) (sym x) (same_pairs t))

-- ---- no call but append touches pairs: whatever the rule, its plan's entry has those of the entry that it is made for
pairs1 : (r : CommitChangeRule) (t : Transaction) (h : Head) (i : Number) (o : Ordinal) (vs : Present) → SamePairs t (job1.plans r t h i o vs).entry
pairs1 change.Begin t h i o vs = record { count = refl; paths = refl; values = refl }
pairs1 change.Aim t h i o vs = record { count = refl; paths = refl; values = refl }
pairs1 change.Land t h i o vs = record { count = refl; paths = refl; values = refl }
pairs1 change.Full t h i o vs = record { count = refl; paths = refl; values = refl }
pairs1 change.Reject t h i o vs = record { count = refl; paths = refl; values = refl }
pairs1 change.Finish t h i o vs = record { count = refl; paths = refl; values = refl }
pairs1 change.Close t h i o vs = record { count = refl; paths = refl; values = refl }
pairs1 change.Wait t h i o vs = record { count = refl; paths = refl; values = refl }

pairs2 : (r : ApplyChangeRule) (t : Transaction) (h : Head) (i : Number) → SamePairs t (job2.plans r t h i).entry
pairs2 apply.Begin t h i = record { count = refl; paths = refl; values = refl }
pairs2 apply.Aim t h i = record { count = refl; paths = refl; values = refl }
pairs2 apply.Abort t h i = record { count = refl; paths = refl; values = refl }
pairs2 apply.Close t h i = record { count = refl; paths = refl; values = refl }
pairs2 apply.Finish t h i = record { count = refl; paths = refl; values = refl }
pairs2 apply.Fail t h i = record { count = refl; paths = refl; values = refl }
pairs2 apply.Push t h i = record { count = refl; paths = refl; values = refl }
pairs2 apply.NoLine t h i = record { count = refl; paths = refl; values = refl }
pairs2 apply.Wait t h i = record { count = refl; paths = refl; values = refl }

pairs3 : (r : CommitRollbackRule) (t : Transaction) (h : Head) (i : Number) (o : Ordinal) → SamePairs t (job3.plans r t h i o).entry
pairs3 back.Begin t h i o = record { count = refl; paths = refl; values = refl }
pairs3 back.Aim t h i o = record { count = refl; paths = refl; values = refl }
pairs3 back.Land t h i o = record { count = refl; paths = refl; values = refl }
pairs3 back.Full t h i o = record { count = refl; paths = refl; values = refl }
pairs3 back.Finish t h i o = record { count = refl; paths = refl; values = refl }
pairs3 back.Wait t h i o = record { count = refl; paths = refl; values = refl }

pairs4 : (r : ApplyRollbackRule) (t : Transaction) (h : Head) (i : Number) → SamePairs t (job4.plans r t h i).entry
pairs4 return.Begin t h i = record { count = refl; paths = refl; values = refl }
pairs4 return.Aim t h i = record { count = refl; paths = refl; values = refl }
pairs4 return.Cancel t h i = record { count = refl; paths = refl; values = refl }
pairs4 return.Close t h i = record { count = refl; paths = refl; values = refl }
pairs4 return.Finish t h i = record { count = refl; paths = refl; values = refl }
pairs4 return.Push t h i = record { count = refl; paths = refl; values = refl }
pairs4 return.NoLine t h i = record { count = refl; paths = refl; values = refl }
pairs4 return.Rejected t h i = record { count = refl; paths = refl; values = refl }
pairs4 return.Wait t h i = record { count = refl; paths = refl; values = refl }

module _ (w : State) (i : ℕ) where
  performed_alike : (o : Order) (c : Bool) (p : Plan) (first second : Bool) → SamePairs (entry_of w.log i) p.entry → Alike w.log (performed_by o c w p i first second).log
  performed_alike Neither c p first second s = alike w.log
  performed_alike EntryOnly c p first second s = put_alike w.log i p.entry s
  performed_alike HeadOnly true p first second s = alike w.log
  performed_alike HeadOnly false p first second s = alike w.log
  performed_alike EntryThenHead c p true second s = put_alike w.log i p.entry s
  performed_alike EntryThenHead true p false second s = put_alike w.log i p.entry s
  performed_alike EntryThenHead false p false second s = put_alike w.log i p.entry s
  performed_alike HeadThenEntry true p true second s = alike w.log
  performed_alike HeadThenEntry false p true second s = alike w.log
  performed_alike HeadThenEntry true p false second s = put_alike w.log i p.entry s
  performed_alike HeadThenEntry false p false second s = put_alike w.log i p.entry s
  performed_alike TargetThenHeadThenEntry c p true second s = alike w.log
  performed_alike TargetThenHeadThenEntry true p false true s = alike w.log
  performed_alike TargetThenHeadThenEntry false p false true s = alike w.log
  performed_alike TargetThenHeadThenEntry true p false false s = put_alike w.log i p.entry s
  performed_alike TargetThenHeadThenEntry false p false false s = put_alike w.log i p.entry s

module _ (w : State) (c : Call) (n : (ps : List Pair) → c ≡ append ps → ⊥) where
  abbrev Pairs : Note → Reply → State → Type 0
  Pairs x r next = Alike w.log next.log

  plan : (i : ℕ) (b cut second : Bool) (p : Plan) → SamePairs (entry_of w.log i) p.entry → Does w Pairs b i cut second p
  plan i b cut second p s = performed_alike w i p.order b p cut second s

  abbrev en : ℕ → Transaction
  en i = entry_of w.log i

  by1 : (i : ℕ) (cut second : Bool) (r : CommitChangeRule) (o : Ordinal) → Does w Pairs true i cut second (job1.plans r (en i) w.committed.head (num i) o (present_of w (en i)))
  by1 i cut second r o = plan i true cut second (job1.plans r (en i) w.committed.head (num i) o (present_of w (en i))) (pairs1 r (en i) w.committed.head (num i) o (present_of w (en i)))

  by2 : (i : ℕ) (cut second : Bool) (r : ApplyChangeRule) → Does w Pairs false i cut second (job2.plans r (en i) w.applied.head (num i))
  by2 i cut second r = plan i false cut second (job2.plans r (en i) w.applied.head (num i)) (pairs2 r (en i) w.applied.head (num i))

  by3 : (i : ℕ) (cut second : Bool) (r : CommitRollbackRule) (o : Ordinal) → Does w Pairs true i cut second (job3.plans r (en i) w.committed.head (num i) o)
  by3 i cut second r o = plan i true cut second (job3.plans r (en i) w.committed.head (num i) o) (pairs3 r (en i) w.committed.head (num i) o)

  by4 : (i : ℕ) (cut second : Bool) (r : ApplyRollbackRule) → Does w Pairs false i cut second (job4.plans r (en i) w.applied.head (num i))
  by4 i cut second r = plan i false cut second (job4.plans r (en i) w.applied.head (num i)) (pairs4 r (en i) w.applied.head (num i))

  calls : Calls w Pairs (λ ps. c ≡ append ps)
  calls =
      record {
        refused = λ a b. alike w.log;
        append = λ ps e x. absurd (n ps x);
        rollback = λ i p q e. put_alike w.log i _ (record { count = refl; paths = refl; values = refl });
        start = λ e. alike w.log;
        stop = alike w.log;
        connect = λ n p e. alike w.log;
        disconnect = λ n. alike w.log;
        elect = λ n b t e. alike w.log;
        resign = alike w.log;
        syncing = alike w.log;
        synced = alike w.log;
        job1 = λ i p q cut second. record {
          wait = alike w.log;
          full = λ a b d. alike w.log;
          begin = λ a b d. by1 i cut second change.Begin (ord 0);
          aim = λ a b d. by1 i cut second change.Aim (ord 0);
          land = λ a b d o e. by1 i cut second change.Land o;
          reject = λ a b. by1 i cut second change.Reject (ord 0);
          finish = λ a b. by1 i cut second change.Finish (ord 0);
          close = λ a b. alike w.log;
        };
        job2 = λ n i p q cut second. record {
          wait = alike w.log;
          no_line = alike w.log;
          begin = λ a b d. by2 i cut second apply.Begin;
          aim = λ a b d e. by2 i cut second apply.Aim;
          abort = λ a b d e. by2 i cut second apply.Abort;
          close_aborted = λ a b. alike w.log;
          close_failed = λ a b. alike w.log;
          finish = λ a b d. by2 i cut second apply.Finish;
          fail = λ a b. by2 i cut second apply.Fail;
          push = λ a b d. by2 i cut second apply.Push;
        };
        job3 = λ i p q cut second. record {
          wait = alike w.log;
          full = λ a b d. alike w.log;
          begin = λ a b d. by3 i cut second back.Begin (ord 0);
          aim = λ a b d. by3 i cut second back.Aim (ord 0);
          land = λ a b d o e. by3 i cut second back.Land o;
          finish = λ a b d. by3 i cut second back.Finish (ord 0);
        };
        job4 = λ n i p q cut second. record {
          wait = alike w.log;
          no_line = alike w.log;
          rejected = alike w.log;
          begin = λ a b d e. by4 i cut second return.Begin;
          aim = λ a b d e. by4 i cut second return.Aim;
          cancel = λ a b d e. by4 i cut second return.Cancel;
          close = λ a b. alike w.log;
          finish = λ a b d. by4 i cut second return.Finish;
          push = λ a b d. by4 i cut second return.Push;
        };
      }

-- an append: refused, or its entry is given
append_cases : (s : State) (ps : List Pair) (Q : Outcome → Type 0) → ((a : ℕ) → 1 ≤ a → Q (refused a))
    → Q (record { reply = record { answer = 0; event = numbered (last s.log + 1) }; stores = grow (appended ps) ∷ [] })
    → Q (outcome s (append ps))
unfolding outcome decide
append_cases s ps Q f g =
    go 1 (well_formed s) _ (omega arith)
    (go 3 (valid_change ps) _ (omega arith)
    (go 4 (ltb (length s.log.entries) 128) _ (omega arith) (go 9 (ltb (last s.log) 65535) _ (omega arith) g)))
  where
    go : (a : ℕ) (b : Bool) (o : Outcome) → 1 ≤ a → Q o → Q (unless a b o)
    go a true o p x = x
    go a false o p x = f a p

-- ---- the whole has the pairs given
module _ (m : Bool) (cs : List Call) (r : Alike (unfolded (given m cs)) (whole m cs).log) where
  -- no call but append gives any
  other : (c : Call) → ((ps : List Pair) → c ≡ append ps → ⊥) → given_by c (step (run m cs).state c).reply.answer ≡ [] → Alike (unfolded (given m (c ∷ cs))) (whole m (c ∷ cs)).log
  unfolding given
  other c n e =
      subst (λ ts. Alike (unfolded ts) (whole m (c ∷ cs)).log) (sym (ap (λ ts. given m cs ++ ts) e ∙ append-nil (given m cs)))
      (alike_then r (by_history m cs (Pairs (whole m cs) c n) (λ a. alike (whole m cs).log) c (calls (whole m cs) c n)))

  appends : (ps : List Pair) → Alike (unfolded (given m (append ps ∷ cs))) (whole m (append ps ∷ cs)).log
  unfolding given whole step afters after
  appends ps =
      append_cases (run m cs).state ps (λ o. Alike (unfolded (given m cs ++ cond (eqb o.reply.answer 0) (appended ps ∷ []) [])) (afters (whole m cs) o.stores).log)
      (λ a p. subst (λ ts. Alike (unfolded ts) (whole m cs).log) (sym (ap (λ b. given m cs ++ cond b (appended ps ∷ []) []) (ne_eqb a 0 (λ z. omega arith)) ∙ append-nil (given m cs))) r)
      (grow_alike (appended ps) r)

pub given_pairs : (m : Bool) (cs : List Call) → Alike (unfolded (given m cs)) (whole m cs).log
unfolding given whole
given_pairs m [] = alike (unfolded [])
given_pairs m (append ps ∷ cs) = appends m cs (given_pairs m cs) ps
given_pairs m (rollback i ∷ cs) = other m cs (given_pairs m cs) (rollback i) (λ ps e. crash (ap is_append e)) refl
given_pairs m (start ∷ cs) = other m cs (given_pairs m cs) start (λ ps e. crash (ap is_append e)) refl
given_pairs m (stop ∷ cs) = other m cs (given_pairs m cs) stop (λ ps e. crash (ap is_append e)) refl
given_pairs m (connect n ∷ cs) = other m cs (given_pairs m cs) (connect n) (λ ps e. crash (ap is_append e)) refl
given_pairs m (disconnect n ∷ cs) = other m cs (given_pairs m cs) (disconnect n) (λ ps e. crash (ap is_append e)) refl
given_pairs m (master n ∷ cs) = other m cs (given_pairs m cs) (master n) (λ ps e. crash (ap is_append e)) refl
given_pairs m (sync n ∷ cs) = other m cs (given_pairs m cs) (sync n) (λ ps e. crash (ap is_append e)) refl
given_pairs m (work n j i r c ∷ cs) = other m cs (given_pairs m cs) (work n j i r c) (λ ps e. crash (ap is_append e)) refl
given_pairs m (fold_to b ∷ cs) = other m cs (given_pairs m cs) (fold_to b) (λ ps e. crash (ap is_append e)) refl

-- ---- the values, by what was given
highest_alike : (l m : Log) (f : ℕ → Bool) (n p : ℕ) → Alike l m → l.base ≡ m.base → highest m f n p ≡ highest l f n p
unfolding highest
highest_alike l m f zero p a e = ap (λ vs. get_or vs p 0) (sym e)
highest_alike l m f (suc n) p a e =
    let x = a.pairs (suc n) in
    rw (x.count, x.paths, x.values, highest_alike l m f n p a e) refl

pub by_given_holds : (m : Bool) (cs : List Call) → ByGiven m cs
by_given_holds m cs =
    let x = folded m cs in
    let d = demand_3_whole m cs in
    record {
      committed = λ p q. ap (λ s. get_or s.committed.values p 0) x.shows ∙ d.committed p q ∙ read (live (run m cs).events 1) p;
      applied = λ p q. ap (λ s. get_or s.applied.values p 0) x.shows ∙ d.applied p q ∙ read (live (run m cs).events 2) p;
    }
  where
    read : (g : ℕ → Bool) (p : ℕ) → highest (whole m cs).log (kept (whole m cs) g) (last (whole m cs).log) p ≡ highest (unfolded (given m cs)) g (length (given m cs)) p
    read g p =
        let f = (folded m cs).front in
        let a = given_pairs m cs in
        let z : last (whole m cs).log ≡ length (given m cs) = omega (arith, a.last) in
        highest_same (whole m cs).log (kept (whole m cs) g) g (last (whole m cs).log) p (λ k u v. ap (λ b. b && g k) (le-leb (suc (whole m cs).log.folded.0) k (omega (arith, f.whole))))
        ∙ highest_alike (unfolded (given m cs)) (whole m cs).log g (last (whole m cs).log) p a (sym f.absent)
        ∙ ap (λ n. highest (unfolded (given m cs)) g n p) z
