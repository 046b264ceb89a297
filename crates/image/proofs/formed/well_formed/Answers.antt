-- `well_formed` meets its contract. Assumes nothing.
use Rattle.image.proofs.Scanned.{wrong_length, past_last, too_many, wrong_heads, by_entries}
use borrow.Author.Rules.{rules}
use Rattle.image.proofs.formed.well_formed.Goals as goal

pub returns-then-s-ne-IMAGE_LENGTH : goal.returns-then-s-ne-IMAGE_LENGTH
returns-then-s-ne-IMAGE_LENGTH c = wrong_length _ c.if-s-ne-IMAGE_LENGTH.true

pub returns-then-n-b : goal.returns-then-n-b
returns-then-n-b c = past_last _ _ _ c.if-s-ne-IMAGE_LENGTH.false c.get-n.ensures c.get-b.ensures c.if-n-b.true

pub returns-then-n-b-gt-SLOTS : goal.returns-then-n-b-gt-SLOTS
returns-then-n-b-gt-SLOTS c = too_many _ _ _ c.if-s-ne-IMAGE_LENGTH.false c.get-n.ensures c.get-b.ensures c.if-n-b.false c.if-n-b-gt-SLOTS.true

pub returns-then-heads-flags : goal.returns-then-heads-flags
returns-then-heads-flags c = by_entries _ _ _ c.if-s-ne-IMAGE_LENGTH.false c.get-n.ensures c.get-b.ensures _ _ c.if-n-b.false c.if-n-b-gt-SLOTS.false (search rules) c.heads_formed-heads.ensures c.flags_formed-flags.ensures _ c.if-heads-flags.true c.entries_formed.ensures

pub returns : goal.returns
returns c = wrong_heads _ _ _ c.if-s-ne-IMAGE_LENGTH.false c.get-n.ensures c.get-b.ensures _ _ c.if-n-b.false c.if-n-b-gt-SLOTS.false (search rules) c.heads_formed-heads.ensures c.flags_formed-flags.ensures c.if-heads-flags.false
