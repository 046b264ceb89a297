-- A RETRY, on bytes (orders 3 and 8; of states: machine's Retry). After a crash call it again: the image is the uncut job's.
-- What C is answered, unpacked, is such a reply (Promise.in_c). No proof in it; proved in Retried. Assumes nothing.
use Rattle.std.specs.Prelude.{ℕ, ◌+◌, ◌-◌, ◌≤◌, ◌<◌, ◌≡◌, true, List, eqb, length, get_or}
use Rattle.kinds.specs.declared.Reply.{Reply}
use Rattle.fields.proofs.Laws.{Bytes}
use Rattle.machine.specs.Calls.{Call, work, plan_of, work_ok}
use Rattle.machine.specs.Retry.{all_elsewhere, Cut, may_retry, OneIs}
use Rattle.image.specs.Layout.{connections_at, node_at, node_size, folded_at}
use Rattle.image.specs.View.{view}
use Rattle.image.specs.Formed.{formed}
use Rattle.controller.specs.Claims.{Claims}
use Rattle.link.specs.Runs.{Calling}

-- a byte of no other node's connection than n's
pub data NoOther (n j : ℕ) : Type 0 where
  before : j < connections_at → NoOther n j
  own : node_at (n - 1) ≤ j → j < node_at (n - 1) + node_size → NoOther n j
  behind : folded_at ≤ j → NoOther n j

-- what was done: on the well-formed image l node n's job was cut and replied with a; after calls on other nodes' connections
-- it was called again, replied with b, and left m. Cut before its last store, it was called with any outcome and cut; a push
-- cut at the first of its three, with the same outcome and no cut. Uncut it would have replied with d, and left u
pub record Retry (l : List ℕ) (n : ℕ) (a b d : Reply) (m u : List ℕ) : Type 0 where
  pub bytes : Bytes l
  pub formed : formed l ≡ true
  pub job : ℕ
  pub number : ℕ
  pub outcome : ℕ
  pub at : ℕ
  pub first : Cut (view l) n job number outcome at
  pub half : List ℕ
  pub cut : Claims l (work n job number outcome at) a half
  pub calls : List Call
  pub elsewhere : all_elsewhere n calls ≡ true
  pub replies : List Reply
  pub then : List ℕ
  pub between : Calling half calls replies then
  pub outcome' : ℕ
  pub cut' : ℕ
  pub range : work_ok n job outcome' cut' ≡ true
  pub may : may_retry (plan_of (view l) n job number (eqb outcome 0)).order at outcome outcome' cut' ≡ true
  pub again : Claims then (work n job number outcome' cut') b m
  pub uncut : Claims l (work n job number outcome 0) d u

-- what is promised: the two images agree in every byte but other nodes' connections (and after the same calls between, in
-- every byte: Retried.retry_then); of the two calls one gives the uncut job's answer and event, the other is accepted and
-- gives none
pub record Harmless (n : ℕ) (a b d : Reply) (m u : List ℕ) : Type 0 where
  pub length : length m ≡ length u
  pub bytes : (j : ℕ) → NoOther n j → get_or m j 0 ≡ get_or u j 0
  pub event : OneIs d a b
