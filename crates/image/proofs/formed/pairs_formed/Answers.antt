-- `pairs_formed` meets its contract. Assumes nothing.
use Rattle.image.proofs.Scanned.{no_pairs, many_pairs, past_paths, one_pair, fall_two, two_pairs, fall_three, three_pairs, four_pairs}
use Rattle.image.proofs.formed.pairs_formed.Goals as goal

pub returns-then-n-lt1 : goal.returns-then-n-lt1
returns-then-n-lt1 c = no_pairs _ _ _ c.get-n.ensures c.if-n-lt1.true

pub returns-then-n-gt4 : goal.returns-then-n-gt4
returns-then-n-gt4 c = many_pairs _ _ _ c.get-n.ensures c.if-n-lt1.false c.if-n-gt4.true

pub returns-then-get-ge32 : goal.returns-then-get-ge32
returns-then-get-ge32 c = past_paths _ _ _ c.get-n.ensures _ c.get.ensures c.if-n-lt1.false c.if-n-gt4.false c.if-get-ge32.true

pub returns-then-n-lt2 : goal.returns-then-n-lt2
returns-then-n-lt2 c = one_pair _ _ _ c.get-n.ensures _ c.get.ensures c.if-n-lt1.false c.if-n-gt4.false c.if-get-ge32.false c.if-n-lt2.true

pub returns-then-n-lt3 : goal.returns-then-n-lt3
returns-then-n-lt3 c = two_pairs _ _ _ c.get-n.ensures _ c.get.ensures c.if-n-lt1.false c.if-n-gt4.false c.if-get-ge32.false c.if-n-lt2.false _ c.rises.ensures c.if-rises.true c.if-n-lt3.true

pub returns-then-n-lt4 : goal.returns-then-n-lt4
returns-then-n-lt4 c = three_pairs _ _ _ c.get-n.ensures _ c.get.ensures c.if-n-lt1.false c.if-n-gt4.false c.if-get-ge32.false c.if-n-lt2.false _ c.rises.ensures c.if-rises.true c.if-n-lt3.false _ c.rises-then-rises.ensures c.if-rises-2.true c.if-n-lt4.true

pub returns-then-rises-2 : goal.returns-then-rises-2
returns-then-rises-2 c = four_pairs _ _ _ c.get-n.ensures _ c.get.ensures c.if-n-lt1.false c.if-n-gt4.false c.if-get-ge32.false c.if-n-lt2.false _ c.rises.ensures c.if-rises.true c.if-n-lt3.false _ c.rises-then-rises.ensures c.if-rises-2.true c.if-n-lt4.false _ c.rises-then-rises-2.ensures

pub returns-then-rises : goal.returns-then-rises
returns-then-rises c = fall_three _ _ _ c.get-n.ensures _ c.get.ensures c.if-n-lt1.false c.if-n-gt4.false c.if-get-ge32.false c.if-n-lt2.false _ c.rises.ensures c.if-rises.true c.if-n-lt3.false _ c.rises-then-rises.ensures c.if-rises-2.false

pub returns : goal.returns
returns c = fall_two _ _ _ c.get-n.ensures _ c.get.ensures c.if-n-lt1.false c.if-n-gt4.false c.if-get-ge32.false c.if-n-lt2.false _ c.rises.ensures c.if-rises.false
