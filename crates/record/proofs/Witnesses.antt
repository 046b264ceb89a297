-- The lines that the order and its decisions show, computed from the definitions: what refuses a wrong one. Assumes nothing.
use mathlib.Core.Path.{◌≡◌, refl}
use mathlib.Core.List.{[], ◌∷◌, ◌++◌}
use mathlib.Core.Bool.{false, ◌||◌}
use lib.Dec.{eqb}
use lib.ListN.{replicate}
use Rattle.kinds.specs.declared.Transaction.{Transaction}
use Rattle.machine.specs.State.{blank, absent, fresh}
use Rattle.lines.specs.Text.{text}
use Rattle.lines.specs.Decimal.{decimal, spelled}
use Rattle.lines.specs.Replies.{filled_from}
use Rattle.lines.specs.Record.{listed, entry_line, folded_line, held_line}
use Rattle.image.specs.Formed.{formed}
use Rattle.record.specs.Told.{changes_text, state_text, record_text}

-- a change of two pairs; what stands in the places that it does not use is not shown
abbrev pub change : Transaction
change =
    record {
      phase = 1;
      count = 2;
      paths = 3 ∷ 4 ∷ 9 ∷ 9 ∷ [];
      values = 7 ∷ 1 ∷ 9 ∷ 9 ∷ [];
      change = blank.change;
      rollback = blank.rollback;
      index = blank.index;
      kept = blank.kept;
      owners = blank.owners;
    }

pub entry_shown : entry_line 3 change 4 1 0 ≡ text "number=3 pairs=3:7,4:1 class=4 took=1 undone=0\n"
unfolding entry_line listed filled_from decimal spelled
entry_shown = refl

pub folded_shown : folded_line 17 (0 ∷ 0 ∷ 0 ∷ 7 ∷ 1 ∷ replicate 26 0 ++ (65535 ∷ [])) ≡ text "folded=17 base=3:7,4:1,31:65535\n"
unfolding folded_line listed filled_from decimal spelled
folded_shown = refl

pub none_folded : folded_line 0 absent ≡ text "folded=0 base=\n"
unfolding folded_line listed filled_from decimal spelled
none_folded = refl

pub held_shown : held_line (λ k. eqb k 2 || (eqb k 3 || (eqb k 5 || eqb k 7))) 2 4 ≡ text "held=3,5\n"
unfolding held_line listed decimal spelled
held_shown = refl

pub none_held : held_line (λ k. false) 2 4 ≡ text "held=\n"
unfolding held_line listed decimal spelled
none_held = refl

-- of a fresh log, and of no bytes
pub fresh_shown : state_text (fresh false) ≡ text "folded=0 base=\nheld=\n"
unfolding changes_text folded_line held_line listed filled_from decimal spelled
fresh_shown = refl

pub nothing_shown : record_text [] ≡ text "answer=1\n"
unfolding record_text formed
nothing_shown = refl
