-- `tag_at` meets its contract. Assumes nothing.
use mathlib.Core.Path.{sym, ◌∙◌}
use Rattle.lines.proofs.Table.{tag_taken, tag_left}
use Rattle.lines.proofs.reading.tag_at.Goals as goal

pub returns-then-is_tag : goal.returns-then-is_tag
returns-then-is_tag c = tag_taken _ _ c.letter-c.ensures (sym c.is_tag.ensures ∙ c.if-is_tag.true)

pub returns : goal.returns
returns c = tag_left _ _ c.letter-c.ensures (sym c.is_tag.ensures ∙ c.if-is_tag.false)
