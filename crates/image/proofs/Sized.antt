-- What fits: each number of a record has room in its field, and a record that fits is read back as it was stored.
-- Assumes nothing.
use Prim.Native.Nat.{ℕ, zero, suc, ◌≤◌, ◌<◌}
use mathlib.Core.Path.{◌≡◌, refl}
use mathlib.Core.Bool.{Bool, true, false}
use mathlib.Core.List.{List, [], ◌∷◌}
use native.Mathlib.Omega.{arith}
use lib.ListN.{length, get_or, replicate}
use lib.Seq.{ext_get_or}
use Rattle.kinds.specs.declared.Transaction.{Transaction}
use Rattle.kinds.specs.declared.Head.{Head}
use Rattle.kinds.specs.declared.Status.{Status}
use Rattle.kinds.specs.declared.Progress.{Progress}
use Rattle.kinds.specs.declared.Progress.TheVariants as progress
use Rattle.kinds.specs.declared.Configuration.{Configuration}
use Rattle.kinds.specs.declared.Mastership.{Mastership}
use Rattle.kinds.specs.declared.Connection.{Connection}
use Rattle.kinds.specs.declared.Target.{Target}
use Rattle.kinds.specs.Statuses.{progress_code, progress_of}
use Rattle.machine.specs.State.{never}
use Rattle.fields.specs.Field.{quad}
use Rattle.fields.proofs.Laws.{quad_all}
use Rattle.fields.proofs.Runs.{Fit}
use Rattle.image.specs.Packed.{packed_of}
use Rattle.image.specs.Layout.{entry_widths, head_widths, table_widths, configuration_widths, mastership_widths, target_widths, node_widths, connections_widths}
use Rattle.image.specs.Records.{flag_code, flag_of, entry_numbers, to_entry, head_numbers, configuration_numbers, to_configuration, mastership_numbers, target_numbers, to_target, connections_numbers, to_connections, eight}
use Rattle.image.proofs.Packed.{packed_low, change_commit, change_apply, rollback_commit, rollback_apply}

-- ---- codes and back
pub progress_code_holds : (s : Progress) → progress_of (progress_code s) ≡ s
unfolding progress_of
progress_code_holds progress.Pending = refl
progress_code_holds progress.InProgress = refl
progress_code_holds progress.Complete = refl

pub progress_low : (s : Progress) → (1 ≤ progress_code s) × (progress_code s ≤ 3)
progress_low progress.Pending = (omega arith, omega arith)
progress_low progress.InProgress = (omega arith, omega arith)
progress_low progress.Complete = (omega arith, omega arith)

pub flag_code_holds : (b : Bool) → flag_of (flag_code b) ≡ b
flag_code_holds true = refl
flag_code_holds false = refl

pub flag_low : (b : Bool) → flag_code b ≤ 1
flag_low true = omega arith
flag_low false = omega arith

-- ---- what fits
-- four numbers below a bound
pub record Four (bound : ℕ) (l : List ℕ) : Type 0 where
  pub size : length l ≡ 4
  pub small : (k : ℕ) → get_or l k 0 < bound

pub record SizedEntry (t : Transaction) : Type 0 where
  pub phase : t.phase < 256
  pub count : t.count < 256
  pub index : t.index.0 < 65536
  pub change_ordinal : t.change.ordinal.0 < 4294967296
  pub rollback_ordinal : t.rollback.ordinal.0 < 4294967296
  pub paths : Four 256 t.paths
  pub values : Four 65536 t.values
  pub kept : Four 65536 t.kept
  pub owners : Four 65536 t.owners

pub record SizedHead (h : Head) : Type 0 where
  pub index : h.index.0 < 65536
  pub target : h.target.0 < 65536
  pub revision : h.revision.0 < 65536
  pub ordinal : h.ordinal.0 < 4294967296

pub record SizedMastership (m : Mastership) : Type 0 where
  pub master : m.master < 256
  pub term : m.term.0 < 4294967296
  pub conn : m.conn < 4294967296

pub record SizedTable (vs : List ℕ) : Type 0 where
  pub size : length vs ≡ 32
  pub small : (k : ℕ) → get_or vs k 0 < 65536

pub record SizedConnections (xs : List Connection) : Type 0 where
  pub size : length xs ≡ 8
  pub small : (k : ℕ) → (get_or xs k never).id < 4294967296

-- ---- room, as the laws of runs ask it
pub entry_room_holds : (t : Transaction) → SizedEntry t → Fit entry_widths (entry_numbers t)
entry_room_holds t h = let p : packed_of t < 65536 = omega (arith, packed_low t) in (p, (h.phase, (h.count, (h.index, (h.change_ordinal, (h.rollback_ordinal, (h.paths.small 0, (h.paths.small 1, (h.paths.small 2, (h.paths.small 3, (h.values.small 0, (h.values.small 1, (h.values.small 2, (h.values.small 3, (h.kept.small 0, (h.kept.small 1, (h.kept.small 2, (h.kept.small 3, (h.owners.small 0, (h.owners.small 1, (h.owners.small 2, (h.owners.small 3, tt))))))))))))))))))))))

pub head_room : (h : Head) → SizedHead h → Fit head_widths (head_numbers h)
head_room h k = (k.index, (k.target, (k.revision, (k.ordinal, tt))))

pub configuration_room : (g : Configuration) → g.term.0 < 4294967296 → Fit configuration_widths (configuration_numbers g)
configuration_room g k = let c : progress_code g.state < 256 = omega (arith, progress_low g.state) in (c, (k, tt))

pub mastership_room : (m : Mastership) → SizedMastership m → Fit mastership_widths (mastership_numbers m)
mastership_room m k = (k.master, (k.term, (k.conn, tt)))

pub target_room : (t : Target) → t.id < 4294967296 → Fit target_widths (target_numbers t)
target_room t k =
    let c : flag_code t.running < 256 = omega (arith, flag_low t.running) in
    let d : flag_code t.remembers < 256 = omega (arith, flag_low t.remembers) in
    (k, (c, (d, tt)))

twos_room : (n : ℕ) (vs : List ℕ) → length vs ≡ n → ((k : ℕ) → get_or vs k 0 < 65536) → Fit (replicate n 2) vs
twos_room zero [] z h = tt
twos_room zero (v ∷ vs) z h = absurd (omega arith)
twos_room (suc n) [] z h = absurd (omega arith)
twos_room (suc n) (v ∷ vs) z h = (h 0, twos_room n vs (omega arith) (λ k. h (suc k)))

pub table_room : (vs : List ℕ) → SizedTable vs → Fit table_widths vs
table_room vs h = twos_room 32 vs h.size h.small

-- ---- there and back
make : Transaction → Status → Status → Status → Status → List ℕ → List ℕ → List ℕ → List ℕ → Transaction
make t a b d e p v r w =
    record {
      phase = t.phase;
      count = t.count;
      paths = p;
      values = v;
      change = record { commit = a; apply = b; ordinal = t.change.ordinal };
      rollback = record { commit = d; apply = e; ordinal = t.rollback.ordinal };
      index = t.index;
      kept = r;
      owners = w;
    }

made : (t : Transaction) (a b d e : Status) (p v r w : List ℕ) → a ≡ t.change.commit → b ≡ t.change.apply → d ≡ t.rollback.commit
    → e ≡ t.rollback.apply → t.paths ≡ p → t.values ≡ v → t.kept ≡ r → t.owners ≡ w → make t a b d e p v r w ≡ t
unfolding make
made t a b d e p v r w q1 q2 q3 q4 q5 q6 q7 q8 = simp (q1, q2, q3, q4, ← q5, ← q6, ← q7, ← q8)

pub entry_back : (t : Transaction) → SizedEntry t → to_entry (entry_numbers t) ≡ t
unfolding make
entry_back t h =
    made t _ _ _ _ (quad t.paths) (quad t.values) (quad t.kept) (quad t.owners) (change_commit t) (change_apply t)
    (rollback_commit t) (rollback_apply t) (quad_all t.paths h.paths.size) (quad_all t.values h.values.size)
    (quad_all t.kept h.kept.size) (quad_all t.owners h.owners.size)

configured : (g : Configuration) (s : Progress) → s ≡ g.state → ◌≡◌ {A = Configuration} (record { state = s; term = g.term }) g
configured g s e = rw e

pub configuration_back : (g : Configuration) → to_configuration (configuration_numbers g) ≡ g
configuration_back g = configured g _ (progress_code_holds g.state)

targeted : (t : Target) (b m : Bool) → b ≡ t.running → m ≡ t.remembers → ◌≡◌ {A = Target} (record { id = t.id; running = b; remembers = m }) t
targeted t b m e f = rw (e, f)

pub target_back : (t : Target) → to_target (target_numbers t) ≡ t
target_back t = targeted t _ _ (flag_code_holds t.running) (flag_code_holds t.remembers)

joined : (x : Connection) (b : Bool) (xs ys : List Connection) → b ≡ x.connected → ys ≡ xs → ◌≡◌ {A = List Connection} (record { id = x.id; connected = b } ∷ ys) (x ∷ xs)
joined x b xs ys e f = rw (e, f)

pub connections_back : (xs : List Connection) → to_connections (connections_numbers xs) ≡ xs
connections_back [] = refl
connections_back (x ∷ xs) = joined x _ xs _ (flag_code_holds x.connected) (connections_back xs)

-- connections, in their widths
nodes_room : (n : ℕ) (xs : List Connection) → length xs ≡ n → ((k : ℕ) → (get_or xs k never).id < 4294967296) → Fit (node_widths n) (connections_numbers xs)
nodes_room zero [] z h = tt
nodes_room zero (x ∷ xs) z h = absurd (omega arith)
nodes_room (suc n) [] z h = absurd (omega arith)
nodes_room (suc n) (x ∷ xs) z h =
    let c : flag_code x.connected < 256 = omega (arith, flag_low x.connected) in (h 0, (c, nodes_room n xs (omega arith) (λ k. h (suc k))))

pub connections_room : (xs : List Connection) → SizedConnections xs → Fit connections_widths (connections_numbers xs)
connections_room xs h = nodes_room 8 xs h.size h.small

-- a table of eight is its eight elements
pub eight_all : (xs : List Connection) → length xs ≡ 8 → xs ≡ eight xs
eight_all xs z = ext_get_or never xs (eight xs) z (λ k q. go k (omega arith))
  where
    go : (k : ℕ) → k < 8 → get_or xs k never ≡ get_or (eight xs) k never
    go zero h = refl
    go (suc zero) h = refl
    go (suc (suc zero)) h = refl
    go (suc (suc (suc zero))) h = refl
    go (suc (suc (suc (suc zero)))) h = refl
    go (suc (suc (suc (suc (suc zero))))) h = refl
    go (suc (suc (suc (suc (suc (suc zero)))))) h = refl
    go (suc (suc (suc (suc (suc (suc (suc zero))))))) h = refl
    go (suc (suc (suc (suc (suc (suc (suc (suc k)))))))) h = absurd (omega arith)
