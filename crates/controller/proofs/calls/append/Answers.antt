-- `append` meets its contract. Assumes nothing.
use Rattle.controller.proofs.Answered.{append_3, append_4, append_9, appended_to}
use Rattle.controller.proofs.Decided.{fold_low}
use mathlib.Core.Path.{refl}
use native.Mathlib.Omega.{arith}
use Rattle.controller.proofs.calls.append.Goals as goal

pub overflow_sub-n : goal.overflow_sub-n
overflow_sub-n c = fold_low _ _ _ c.requires c.last_fold-b.ensures c.last_number-n.ensures

pub returns-then-n-lt-HIGHEST : goal.returns-then-n-lt-HIGHEST
returns-then-n-lt-HIGHEST c = appended_to _ c.args.pairs.now (λ i. omega (arith, c.shared_slice_known-1.given i)) _ _ c.valid.ensures c.requires c.if-valid.true _ _ c.last_number-n.ensures c.last_fold-b.ensures c.if-n-b-lt-SLOTS.true _ _ _ c.if-n-lt-HIGHEST.true c.entered-t.ensures c.grow.ensures c.of.ensures refl

pub returns-then-n-b-lt-SLOTS : goal.returns-then-n-b-lt-SLOTS
returns-then-n-b-lt-SLOTS c = append_9 _ c.args.pairs.now (λ i. omega (arith, c.shared_slice_known-1.given i)) _ _ c.valid.ensures c.requires c.if-valid.true _ _ c.last_number-n.ensures c.last_fold-b.ensures c.if-n-b-lt-SLOTS.true c.if-n-lt-HIGHEST.false c.of-then-n-b-lt-SLOTS.ensures

pub returns-then-valid : goal.returns-then-valid
returns-then-valid c = append_4 _ c.args.pairs.now (λ i. omega (arith, c.shared_slice_known-1.given i)) _ _ c.valid.ensures c.requires c.if-valid.true _ _ c.last_number-n.ensures c.last_fold-b.ensures c.if-n-b-lt-SLOTS.false c.of-then-valid.ensures

pub returns : goal.returns
returns c = append_3 _ c.args.pairs.now (λ i. omega (arith, c.shared_slice_known-1.given i)) _ _ c.valid.ensures c.if-valid.false c.of-2.ensures
