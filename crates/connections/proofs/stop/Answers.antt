-- `stop` meets its contract: the records before i are disconnected. Assumes nothing.
use Rattle.std.proofs.Common.{◌≡◌, ℕ, ◌+◌, ◌≤◌, ◌<◌, length, arith, suc, refl, sym, ◌∙◌, ap, subst, List, slice_set, slice_index_or}
use lib.Dec.{eqb}
use borrow.Author.Tests.{eq-eqb}
use Rattle.kinds.specs.declared.Connection.{Connection}
use Rattle.rules.specs.Outside.{off}
use Rattle.machine.specs.State.{never}
use Rattle.connections.proofs.Laws.{cleared, cleared_none, cleared_more, cleared_all, length_cleared, stopped}
use Rattle.connections.proofs.stop.Goals as goal

pub loop-i-init : goal.loop-i-init
loop-i-init c = (cleared_none _, omega arith)

next_cleared : (i : ℕ) (xs ys : List Connection) → xs ≡ cleared i ys → i < length ys → slice_set xs i (off (slice_index_or xs i never)) ≡ cleared (i + 1) ys
next_cleared i xs ys e l =
    let s : suc i ≡ i + 1 = omega arith in
    ap (λ (zs : List Connection). slice_set zs i (off (slice_index_or zs i never))) e ∙ cleared_more i ys l ∙ ap (λ (k : ℕ). cleared k ys) s

pub loop-i-preserved : goal.loop-i-preserved
loop-i-preserved c =
    let same : length c.loop-i.conns ≡ length c.args.conns.now = ap length c.loop-i.invariant.0 ∙ length_cleared _ _ in
    let l : c.loop-i.i < length c.args.conns.now = omega (arith, same, c.loop-i-test.true) in
    (next_cleared _ _ _ c.loop-i.invariant.0 l, omega (arith, l))

pub returns : goal.returns
returns c =
    let same : length c.loop-i.conns ≡ length c.args.conns.now = ap length c.loop-i.invariant.0 ∙ length_cleared _ _ in
    let l : c.loop-i.i ≡ length c.args.conns.now = omega (arith, same, c.loop-i-test.false, c.loop-i.invariant.1) in
    stopped _ _ (eq-eqb _ _ c.if-conns-ne8.false) (c.loop-i.invariant.0 ∙ ap (λ (k : ℕ). cleared k c.args.conns.now) l ∙ cleared_all _)
