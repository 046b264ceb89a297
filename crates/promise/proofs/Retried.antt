-- A retry is harmless, on bytes: what machine's Retried says of states, said of images. Assumes nothing.
use Prim.Native.Nat.{ℕ, ◌≤◌, ◌<◌}
use mathlib.Core.Path.{◌≡◌, refl, sym, ap, subst, ◌∙◌}
use mathlib.Core.Logic.{◌⊎◌, inl, inr}
use mathlib.Core.Bool.{true, false, ◌&&◌, true≢false}
use mathlib.Core.List.{List, [], ◌∷◌}
use lib.ListN.{length, get_or}
use Rattle.kinds.specs.declared.Reply.{Reply}
use Rattle.fields.proofs.Laws.{Bytes}
use Rattle.machine.specs.State.{State, is_node, node_of}
use Rattle.machine.specs.Stores.{connections, after, afters}
use Rattle.machine.specs.Rows.{overlay, rows_of}
use Rattle.machine.specs.Calls.{Call, append, rollback, start, stop, connect, disconnect, master, sync, work, fold_to, values_ok, present, plan_of, decide}
use Rattle.machine.specs.Differ.{differ_row}
use Rattle.machine.specs.WellFormed.{all_from, all_at_most, pairs_ok, entry_ok, head_ok, well_formed}
use Rattle.machine.specs.Step.{outcome, step, run, state_from}
use Rattle.machine.specs.Retry as states
use Rattle.machine.specs.Retry.{elsewhere, all_elsewhere, Cut, may_retry, OneIs}
use Rattle.machine.proofs.Retried as states'
use Rattle.image.specs.Layout.{last_at, connections_at, folded_at}
use Rattle.image.specs.Records.{folded_of, last_of}
use Rattle.image.specs.View.{view}
use Rattle.image.specs.Formed.{formed}
use Rattle.image.proofs.UpTo.{and_left, and_right}
use Rattle.image.proofs.Scanned.{formed_length, formed_state}
use Rattle.staying.proofs.Rooms.{is_plain}
use Rattle.link.specs.Runs.{Calling, none}
use Rattle.link.proofs.Link.{Shows, shows_next, shows_run, stays_bytes, stays_formed}
use Rattle.staying.proofs.Unused.{Free}
use Rattle.link.proofs.Plain.{Leaves, leaves_then, plain_leaves, all_plain, plain_run}
use Rattle.staying.proofs.Same.{in_node, beside_same, image_same}
use Rattle.promise.specs.Retry.{NoOther, before, own, behind, Retry, Harmless}

-- ---- calls on other nodes' connections neither append nor fold
plain : (n : ℕ) (c : Call) → elsewhere n c ≡ true → is_plain c ≡ true
plain n (append ps) e = absurd (true≢false (sym e))
plain n (rollback i) e = absurd (true≢false (sym e))
plain n start e = absurd (true≢false (sym e))
plain n stop e = absurd (true≢false (sym e))
plain n (connect k) e = refl
plain n (disconnect k) e = refl
plain n (master k) e = absurd (true≢false (sym e))
plain n (sync k) e = absurd (true≢false (sym e))
plain n (work k j i r c) e = absurd (true≢false (sym e))
plain n (fold_to b) e = absurd (true≢false (sym e))

all_plain_holds : (n : ℕ) (cs : List Call) → all_elsewhere n cs ≡ true → all_plain cs ≡ true
unfolding all_elsewhere all_plain
all_plain_holds n [] e = refl
all_plain_holds n (c ∷ cs) e = rw (plain n c (and_left (elsewhere n c) _ e), all_plain_holds n cs (and_right (elsewhere n c) _ e)) refl

-- a slot that is free after such calls was free before them
free_too : {l m : List ℕ} {j : ℕ} → Leaves l m → Free (folded_of m) (last_of m) j → Free (folded_of l) (last_of l) j
free_too {l} {m} {j} h f = subst (λ (k : ℕ). Free (folded_of l) k j) h.last (subst (λ (k : ℕ). Free k (last_of m) j) h.folded f)

one_is : {u a b u' a' b' : Reply} → u ≡ u' → a ≡ a' → b ≡ b' → OneIs u' a' b' → OneIs u a b
one_is p q r o = rw (p, q, r) o

module _ {l : List ℕ} {n : ℕ} {a b d : Reply} {m u : List ℕ} (t : Retry l n a b d m u) where
  -- ---- the images on the way
  half_bytes : Bytes t.half
  half_bytes = stays_bytes l _ a t.half t.cut t.bytes

  half_formed : formed t.half ≡ true
  half_formed = stays_formed l _ a t.half t.cut t.bytes t.formed

  through : (Leaves t.half t.then) × ((Bytes t.then) × (formed t.then ≡ true))
  through = plain_run t.between half_bytes half_formed (all_plain_holds n t.calls t.elsewhere)

  end_bytes : Bytes m
  end_bytes = stays_bytes t.then _ b m t.again through.1.0

  end_formed : formed m ≡ true
  end_formed = stays_formed t.then _ b m t.again through.1.0 through.1.1

  uncut_bytes : Bytes u
  uncut_bytes = stays_bytes l _ d u t.uncut t.bytes

  uncut_formed : formed u ≡ true
  uncut_formed = stays_formed l _ d u t.uncut t.bytes t.formed

  -- ---- the states
  abbrev s : State
  s = view l

  promised : states.Harmless s n t.job t.number t.outcome t.at t.outcome' t.cut' t.calls
  promised = states'.retry_harmless s n t.job t.number t.outcome t.at t.outcome' t.cut' t.calls (formed_state l t.formed) t.first t.range t.elsewhere t.may

  at_cut : (a ≡ (step s (work n t.job t.number t.outcome t.at)).reply) × (view t.half ≡ (step s (work n t.job t.number t.outcome t.at)).next)
  at_cut = shows_next l _ a t.half t.cut t.bytes t.formed

  at_uncut : (d ≡ (step s (work n t.job t.number t.outcome 0)).reply) × (view u ≡ (step s (work n t.job t.number t.outcome 0)).next)
  at_uncut = shows_next l _ d u t.uncut t.bytes t.formed

  then_shows : view t.then ≡ state_from (step s (work n t.job t.number t.outcome t.at)).next t.calls
  then_shows =
      let h : Shows (view t.half) t.calls t.replies t.then = shows_run t.between half_bytes half_formed in
      h.state ∙ ap (λ (v : State). state_from v t.calls) at_cut.1

  abbrev last_call : Call
  last_call = work n t.job t.number t.outcome' t.cut'

  at_again : (b ≡ (step (view t.then) last_call).reply) × (view m ≡ (step (view t.then) last_call).next)
  at_again = shows_next t.then _ b m t.again through.1.0 through.1.1

  abbrev end : State
  end = (step (state_from (step s (work n t.job t.number t.outcome t.at)).next t.calls) last_call).next

  end_shows : view m ≡ end
  end_shows = at_again.1 ∙ ap (λ (v : State). (step v last_call).next) then_shows

  agrees : view m ≡ after (view u) (connections (view m).net.connections)
  agrees =
      let e : view m ≡ end = end_shows in
      e ∙ promised.agrees ∙ ap (λ (v : State). after v (connections end.net.connections)) (sym at_uncut.1)
      ∙ ap (λ (v : State). after (view u) (connections v.net.connections)) (sym e)

  own_agrees : node_of (view m).net.connections n ≡ node_of (view u).net.connections n
  own_agrees =
      ap (λ (v : State). node_of v.net.connections n) end_shows ∙ promised.own ∙ ap (λ (v : State). node_of v.net.connections n) (sym at_uncut.1)

  -- ---- the bytes
  whole_leaves : Leaves l u
  whole_leaves = plain_leaves l _ d u t.uncut t.bytes t.formed refl

  retry_leaves : Leaves l m
  retry_leaves =
      leaves_then (leaves_then (plain_leaves l _ a t.half t.cut t.bytes t.formed refl) through.0)
      (plain_leaves t.then _ b m t.again through.1.0 through.1.1 refl)

  free : (j : ℕ) → j < last_at → Free (folded_of u) (last_of u) j → get_or m j 0 ≡ get_or u j 0
  free j h f = let g = free_too whole_leaves f in retry_leaves.free j h g ∙ sym (whole_leaves.free j h g)

  is_node_holds : is_node n ≡ true
  is_node_holds = and_left (is_node n) _ (and_left (is_node n && _) _ t.range)

  outside : (j : ℕ) → (j < connections_at) ⊎ (folded_at ≤ j) → get_or m j 0 ≡ get_or u j 0
  outside = beside_same u m uncut_bytes end_bytes uncut_formed end_formed (view m).net.connections agrees free

  same_byte : (j : ℕ) → NoOther n j → get_or m j 0 ≡ get_or u j 0
  same_byte j (before h) = outside j (inl h)
  same_byte j (behind h) = outside j (inr h)
  same_byte j (own p q) =
      in_node u m uncut_bytes end_bytes uncut_formed end_formed (view m).net.connections agrees j n is_node_holds own_agrees p q

  pub retry_harmless : Harmless n a b d m u
  retry_harmless =
      record {
        length = formed_length m end_formed ∙ sym (formed_length u uncut_formed);
        bytes = same_byte;
        event = one_is at_uncut.0 at_cut.0 (at_again.0 ∙ ap (λ (v : State). (step v last_call).reply) then_shows) promised.event;
      }

  -- with the calls between made after the uncut job too, no byte differs
  pub retry_then : (rs : List Reply) (w : List ℕ) → Calling u t.calls rs w → m ≡ w
  retry_then rs w c =
      let h : Shows (view u) t.calls rs w = shows_run c uncut_bytes uncut_formed in
      let k : Leaves u w = (plain_run c uncut_bytes uncut_formed (all_plain_holds n t.calls t.elsewhere)).0 in
      image_same w m h.bytes end_bytes h.formed end_formed
      (end_shows ∙ promised.state ∙ ap (λ (v : State). state_from v t.calls) (sym at_uncut.1) ∙ sym h.state)
      (λ j q f. let g = free_too k f in free j q g ∙ sym (k.free j q g))

  -- with none between, the image is the uncut job's, byte for byte
  pub retry_at_once : t.calls ≡ [] → m ≡ u
  retry_at_once e = retry_then [] u (subst (λ (cs : List Call). Calling u cs [] u) (sym e) none)

-- such retries are met, one node being master: a change's commit begins, cut after the first of its two stores; and, with the
-- line open, a push cut at the first of its three
abbrev led : List Call
led = master 1 ∷ connect 1 ∷ start ∷ append (record { path = 3; value = 7 } ∷ []) ∷ []

abbrev begun : List Call
begun = work 1 2 1 0 0 ∷ work 1 1 1 0 0 ∷ work 1 1 1 0 0 ∷ sync 1 ∷ sync 1 ∷ led

-- job j of node 1 for number 1, accepted, may be cut at x and called again
pub record May (cs : List Call) (j x q c : ℕ) : Type 0 where
  pub cut : Cut (run false cs).state 1 j 1 0 x
  pub may : may_retry (plan_of (run false cs).state 1 j 1 true).order x 0 q c ≡ true

pub met : May led 1 1 1 1
unfolding run step outcome decide plan_of well_formed all_from all_at_most entry_ok head_ok pairs_ok values_ok present after afters
met = record { cut = record { args = refl; number = refl; kept = refl; master = refl }; may = refl }

pub push_met : May begun 2 1 0 0
unfolding run step outcome decide plan_of well_formed all_from all_at_most entry_ok head_ok pairs_ok values_ok present after afters rows_of overlay differ_row
push_met = record { cut = record { args = refl; number = refl; kept = refl; master = refl }; may = refl }
