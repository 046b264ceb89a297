-- `lay` meets its contract. Assumes nothing.
use Rattle.controller.proofs.Performed.{laid_zero, laid_one, laid_two, laid_three, laid_four}
use Rattle.controller.proofs.perform.lay.Goals as goal

pub returns-then-n-lt1 : goal.returns-then-n-lt1
returns-then-n-lt1 c = laid_zero _ _ _ _ _ c.if-n-lt1.true

pub returns-then-n-lt2 : goal.returns-then-n-lt2
returns-then-n-lt2 c = laid_one _ _ _ _ _ _ c.store_value.ensures c.if-n-lt1.false c.if-n-lt2.true

pub returns-then-n-lt3 : goal.returns-then-n-lt3
returns-then-n-lt3 c = laid_two _ _ _ _ _ _ c.store_value.ensures _ c.store_value-2.ensures c.if-n-lt2.false c.if-n-lt3.true

pub returns-then-n-lt4 : goal.returns-then-n-lt4
returns-then-n-lt4 c = laid_three _ _ _ _ _ _ c.store_value.ensures _ c.store_value-2.ensures _ c.store_value-3.ensures c.if-n-lt3.false c.if-n-lt4.true

pub returns : goal.returns
returns c = laid_four _ _ _ _ _ _ c.store_value.ensures _ c.store_value-2.ensures _ c.store_value-3.ensures _ c.store_value-4.ensures c.if-n-lt4.false
