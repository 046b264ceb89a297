-- Order 6: a history that an import begins, with any calls and nights behind it, is the history of its calls, so that every
-- theorem over calls speaks of it: demand 3 with the events of the import's calls among the others. Assumes nothing.
use mathlib.Core.List.{List}
use mathlib.Core.Bool.{false}
use mathlib.Core.Path.{◌≡◌, sym, subst}
use Rattle.machine.specs.Step.{Past, run}
use Rattle.machine.specs.Notes.{notes}
use Rattle.machine.specs.Import.{Entry}
use Rattle.history.specs.Demand3.{Demand3}
use Rattle.history.specs.Finished.{imports, Act, acted, calls_in}
use Rattle.history.proofs.Switched.{demand_3}
use Rattle.history.proofs.Nights.{acted_run}

module _ (es : List Entry) (xs : List Act) where
  abbrev past : Past
  past = acted (imports es) xs

  pub import_run : past ≡ run false (calls_in (imports es) xs)
  import_run = acted_run (imports es) xs

  pub import_demand_3 : Demand3 past.state past.events (notes false (calls_in (imports es) xs))
  import_demand_3 =
      let cs = calls_in (imports es) xs in
      subst (λ (p : Past). Demand3 p.state p.events (notes false cs)) (sym import_run) (demand_3 false cs)
