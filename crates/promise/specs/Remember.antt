-- A SWITCH THAT REMEMBERS, on bytes (order 13; of states: machine's Remember). What C is answered, unpacked, is such a reply
-- (Promise.in_c). No proof in it; proved in Remembered. Assumes nothing.
use Rattle.std.specs.Prelude.{ℕ, ◌<◌, ◌≡◌, Bool, not, cond, List, [], ◌∷◌, map, eqb, length, get_or}
use Rattle.kinds.specs.declared.Configuration.{Configuration}
use Rattle.kinds.specs.declared.Progress.TheVariants.{InProgress}
use Rattle.kinds.specs.declared.Reply.{Reply}
use Rattle.kinds.specs.Events.{numbered}
use Rattle.machine.specs.Stores.{Store, of_target, value, configuration}
use Rattle.machine.specs.Remember.{Rises, among}
use Rattle.machine.specs.Reads.{of_table}
use Rattle.image.specs.View.{view, written}
use Rattle.controller.specs.declared.reads.Read.{Read}
use Rattle.controller.specs.Promises.{Shows}
use Rattle.promise.specs.Demands.{found}

-- the configuration is stored in l, then these, and m is left
abbrev pub Stored : List ℕ → List Store → List ℕ → Type 0
Stored l es m = (g : Configuration) × (m ≡ written l (configuration g ∷ es))

-- a synchronise of the image l wrote, was replied with r, and left m
pub record Wrote (l : List ℕ) (r : Reply) (m : List ℕ) : Type 0 where
  -- the paths, each once and rising, at which the target was read other than the applied values
  pub paths : List ℕ
  pub rise : Rises 0 32 paths
  pub these : (p : ℕ) (x y : Read) → p < 32 → Shows l (of_table 3 p) x → Shows l (of_table 2 p) y → among p paths ≡ not (eqb x.value y.value)
  -- the reply tells how many, and they alone were stored
  pub count : r.event ≡ numbered (length paths)
  pub stores : Stored l (map (λ p. value of_target p (get_or (view l).applied.values p 0)) paths) m
  -- the target is read as the applied values were
  pub same : (p : ℕ) (x y : Read) → p < 32 → Shows m (of_table 3 p) x → Shows l (of_table 2 p) y → x ≡ y

-- a synchronise that is accepted: it writes where the configuration was InProgress; else it only becomes so, tells 0 and stores
-- no path
pub record Synced (l : List ℕ) (r : Reply) (m : List ℕ) : Type 0 where
  pub wrote : (view l).net.configuration.state ≡ InProgress → Wrote l r m
  pub begun : ((view l).net.configuration.state ≡ InProgress → ⊥) → (r.event ≡ numbered 0) × Stored l [] m

-- a stop that is accepted: a target that remembers is read as before, another as absent
abbrev pub Stopped : (remembers : Bool) → (before after : List ℕ) → Type 0
Stopped kind l m = (p : ℕ) (x y : Read) → p < 32 → Shows l (of_table 3 p) x → Shows m (of_table 3 p) y → y ≡ cond kind x (found 0)
