-- What the target holds while a line is open, as an invariant, and each single store that keeps it (order 8). `T k` says that
-- change k has begun to apply; `h` is the transaction whose push was cut at its first store and is not yet made good, 0 if
-- none. Assumes nothing.
use Prim.Native.Nat.{ℕ, suc, ◌≤◌}
use native.Mathlib.Omega.{arith}
use mathlib.Core.List.{List, [], ◌∷◌, ◌++◌}
use mathlib.Core.Bool.{Bool, true, false, cond}
use mathlib.Core.Path.{◌≡◌, refl, sym, ap, ◌∙◌, subst}
use lib.Dec.{eqb}
use lib.ListN.{length}
use borrow.Author.Tests.{ne_eqb}
use Rattle.kinds.specs.declared.Transaction.{Transaction}
use Rattle.kinds.specs.declared.Side.{Side}
use Rattle.kinds.specs.declared.Head.{Head}
use Rattle.kinds.specs.declared.Number.{Number}
use Rattle.kinds.specs.declared.Status.{Status}
use Rattle.kinds.specs.declared.Status.TheVariants.{None, Pending, InProgress, Complete, Aborted, Canceled, Failed}
use Rattle.kinds.specs.Records.{with_change, with_rollback}
use Rattle.rules.specs.Heads.{aimed}
use Rattle.machine.specs.State.{Log, State, Part, Ledger, Net, blank, entry_of, grown, last}
use Rattle.machine.specs.Stores.{with_log, with_net, with_target_values}
use Rattle.machine.specs.Laid.{over}
use Rattle.machine.proofs.Next.{putting}
use Rattle.machine.proofs.Entries.{put_all, add_all, entry_past}
use Rattle.machine.specs.Notes.{Note, nothing, wrote, half, full}
use Rattle.history.specs.Ops.{Op, push, popped, top, stack, op_at, first_more, clash}
use Rattle.history.specs.Invariant.{is_going, is_started, led, Applied, Wired}
use Rattle.history.proofs.Line.{said_wired, push_wired}

-- ---- the transaction whose push was cut at its first store
abbrev pub half_after : Note → ℕ → ℕ
half_after nothing h = h
half_after wrote h = 0
half_after (half k) h = k
half_after (full k) h = cond (eqb h k) 0 h

unfoldable pub half_pushed : List Note → ℕ
half_pushed [] = 0
half_pushed (n ∷ ns) = half_after n (half_pushed ns)

-- ---- the target's values vs, the applied ones being ws, where the push of k was cut at its first store
pub data Partly (a : ℕ) (acts : List Op) (ws vs : List ℕ) (k : ℕ) (t : Transaction) : Type 0 where
  -- change k is still the next op, and in progress
  pushing : t.change.apply ≡ InProgress → t.change.ordinal.0 ≡ suc a → vs ≡ over t.paths t.values t.count ws → Partly a acts ws vs k t
  -- it ended Failed, and is not yet rolled back
  failed : t.change.apply ≡ Failed → popped k acts ≡ false → vs ≡ over t.paths t.values t.count ws → Partly a acts ws vs k t
  -- its rollback is still the next op, and in progress
  returning : t.rollback.apply ≡ InProgress → t.rollback.ordinal.0 ≡ suc a → vs ≡ over t.paths t.kept t.count ws → Partly a acts ws vs k t

pub record Held (l : Log) (a : ℕ) (acts : List Op) (ws : List ℕ) (h : ℕ) (vs : List ℕ) : Type 0 where
  pub whole : h ≡ 0 → vs ≡ ws
  pub partly : (k : ℕ) → h ≡ k → 1 ≤ k → Partly a acts ws vs k (entry_of l k)

-- a status that an apply has once it has begun
abbrev pub has_begun : Status → Bool
has_begun None = false
has_begun Pending = false
has_begun InProgress = true
has_begun Complete = true
has_begun Aborted = false
has_begun Canceled = false
has_begun Failed = true

pub record Switch (s : State) (T : ℕ → Type 0) (ops acts : List Op) (h : ℕ) : Type 0 where
  pub began : (k : ℕ) → has_begun (entry_of s.log k).change.apply ≡ true → T k
  -- the target has left for change k
  pub left : (s.applied.head.target.0 ≡ led ops s.applied.head.ordinal.0 → ⊥) → (k : ℕ) → op_at ops (suc s.applied.head.ordinal.0) ≡ push k → T k
  pub wired : Wired s.net (Held s.log s.applied.head.ordinal.0 acts s.applied.values h)

-- ---- an entry's side stored
module _ {a : ℕ} {acts : List Op} {ws vs : List ℕ} {k : ℕ} (t : Transaction) where
  -- a change whose push was not tried, or ended
  pub with_change_holds : (c : Side) → is_started t.change.apply ≡ false → Partly a acts ws vs k t → Partly a acts ws vs k (with_change t c)
  with_change_holds c e (pushing x y z) = clash (sym (ap is_started x) ∙ e)
  with_change_holds c e (failed x y z) = clash (sym (ap is_started x) ∙ e)
  with_change_holds c e (returning x y z) = returning x y z

  pub with_rollback_holds : (r : Side) → is_going t.rollback.apply ≡ false → Partly a acts ws vs k t → Partly a acts ws vs k (with_rollback t r)
  with_rollback_holds r e (pushing x y z) = pushing x y z
  with_rollback_holds r e (failed x y z) = failed x y z
  with_rollback_holds r e (returning x y z) = clash (sym (ap is_going x) ∙ e)

-- none of the three
pub idle_partly : {A : Type 0} {a : ℕ} {acts : List Op} {ws vs : List ℕ} {k : ℕ} (t : Transaction) → is_started t.change.apply ≡ false → is_going t.rollback.apply ≡ false
    → Partly a acts ws vs k t
    → A
idle_partly t e f (pushing x y z) = clash (sym (ap is_started x) ∙ e)
idle_partly t e f (failed x y z) = clash (sym (ap is_started x) ∙ e)
idle_partly t e f (returning x y z) = clash (sym (ap is_going x) ∙ f)

module _ {s : State} {T : ℕ → Type 0} {ops acts : List Op} {h : ℕ} (sw : Switch s T ops acts h) where
  abbrev at : ℕ
  at = s.applied.head.ordinal.0

  pub retold : (U : ℕ → Type 0) → ((k : ℕ) → T k → U k) → Switch s U ops acts h
  retold U f = record { began = λ k e. f k (sw.began k e); left = λ x k e. f k (sw.left x k e); wired = sw.wired }

  -- the commit side moves
  pub commits : (c : Number) (part : Ledger) → Switch (record { log = s.log; change = c; committed = part; applied = s.applied; net = s.net }) T ops acts h
  commits c part = record { began = sw.began; left = sw.left; wired = sw.wired }

  -- the nodes' side moves
  pub wires : (w : Net) → Wired w (Held s.log at acts s.applied.values h) → Switch (with_net s w) T ops acts h
  wires w u = record { began = sw.began; left = sw.left; wired = u }

  -- one commit more
  pub grows : (x : Op) {bad : List ℕ} → Applied s.log s.applied ops acts bad → Switch s T (x ∷ ops) acts h
  unfolding op_at
  grows x k =
      record {
        began = sw.began;
        left = λ y j e. let d : s.applied.head.target.0 ≡ led ops at → ⊥ = λ z. y (z ∙ sym (ap (λ o. top (stack o)) (first_more ops x at k.reach))) in
            sw.left d j (rw (ne_eqb (suc at) (suc (length ops)) (λ z. omega (arith, (k.aimed d).reach))) at e);
        wired = sw.wired;
      }

  -- one entry stored
  pub puts : (i : ℕ) (t : Transaction) → (has_begun t.change.apply ≡ true → T i)
      → ((vs : List ℕ) → Partly at acts s.applied.values vs i (entry_of s.log i) → Partly at acts s.applied.values vs i t)
      → Switch (putting s i t) T ops acts h
  puts i t b f =
      record {
        began = put_all (λ k u. has_begun u.change.apply ≡ true → T k) s.log i t sw.began b;
        left = sw.left;
        wired = said_wired s.net _ sw.wired _ (λ vs x. record {
          whole = x.whole;
          partly = put_all (λ k u. h ≡ k → 1 ≤ k → Partly at acts s.applied.values vs k u) s.log i t x.partly (λ y p. f vs (x.partly i y p));
        });
      }

  -- one entry more
  pub adds : (t : Transaction) → has_begun t.change.apply ≡ false → Switch (with_log s (grown s.log t)) T ops acts h
  adds t e =
      record {
        began = add_all (λ k u. has_begun u.change.apply ≡ true → T k) s.log t sw.began (λ x. clash (sym x ∙ e));
        left = sw.left;
        wired = said_wired s.net _ sw.wired _ (λ vs x. record {
          whole = x.whole;
          partly = add_all (λ k u. h ≡ k → 1 ≤ k → Partly at acts s.applied.values vs k u) s.log t x.partly
              (λ y p. idle_partly blank refl refl (subst (Partly at acts s.applied.values vs _) (entry_past s.log) (x.partly (suc (last s.log)) y p)));
        });
      }

  -- the target leaves for the next op
  pub aims : (g : Number) → ((k : ℕ) → op_at ops (suc at) ≡ push k → T k)
      → Switch (record { log = s.log; change = s.change; committed = s.committed; applied = record { head = aimed s.applied.head g; values = s.applied.values }; net = s.net }) T ops acts h
  aims g f = record { began = sw.began; left = λ x. f; wired = sw.wired }

  -- the next op is passed, and the target is where it leads: with no push, if neither it nor another is in progress there
  module _ (hd : Head) (o : hd.ordinal.0 ≡ suc at) (g : hd.target.0 ≡ led ops (suc at)) where
    arrived : {A : Type 0} → (hd.target.0 ≡ led ops hd.ordinal.0 → ⊥) → A
    arrived x = absurd (x (g ∙ ap (led ops) (sym o)))

    pub passes : ((k : ℕ) → (entry_of s.log k).change.apply ≡ InProgress → (entry_of s.log k).change.ordinal.0 ≡ suc at → ⊥)
        → ((k : ℕ) → (entry_of s.log k).rollback.apply ≡ InProgress → (entry_of s.log k).rollback.ordinal.0 ≡ suc at → ⊥)
        → Switch (record { log = s.log; change = s.change; committed = s.committed; applied = record { head = hd; values = s.applied.values }; net = s.net }) T ops acts h
    passes c r =
        record {
          began = sw.began;
          left = λ x. arrived x;
          wired = said_wired s.net _ sw.wired _ (λ vs x. record { whole = x.whole; partly = λ k y p. passed k (x.partly k y p) });
        }
      where
        passed : {vs : List ℕ} (k : ℕ) → Partly at acts s.applied.values vs k (entry_of s.log k) → Partly hd.ordinal.0 acts s.applied.values vs k (entry_of s.log k)
        passed k (pushing x y z) = absurd (c k x y)
        passed k (failed x y z) = failed x y z
        passed k (returning x y z) = absurd (r k x y)

    -- by a push that was not cut at its first store
    pub pushes : (ws vs : List ℕ) (does : List Op) → vs ≡ ws
        → Switch (record { log = s.log; change = s.change; committed = s.committed; applied = record { head = hd; values = ws }; net = with_target_values s.net vs }) T ops does 0
    pushes ws vs does e =
        record {
          began = sw.began;
          left = λ x. arrived x;
          wired = push_wired s.net _ sw.wired vs _ (record { whole = λ x. e; partly = λ k x p. absurd (omega arith) });
        }

  -- a push cut at its first store
  pub half_pushes : (i : ℕ) (vs : List ℕ) → 1 ≤ i → Partly at acts s.applied.values vs i (entry_of s.log i) → Switch (with_net s (with_target_values s.net vs)) T ops acts i
  half_pushes i vs p x =
      record {
        began = sw.began;
        left = sw.left;
        wired = push_wired s.net _ sw.wired vs _ (record { whole = λ y. absurd (omega arith); partly = λ k e q. subst (λ j. Partly at acts s.applied.values vs j (entry_of s.log j)) e x });
      }
