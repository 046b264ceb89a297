-- `put_pairs` lists the pairs one after another: after k turns the first k of them stand there. Assumes nothing.
use Rattle.std.proofs.lemmas.Slice.Zip.{zip_turn}
use Rattle.lines.proofs.Recorded.{listed_none, pairs_more, pairs_at_holds}
use Rattle.lines.proofs.Putting.{put_length}
use lib.ListN.{take, length, length-take, length-append}
use native.Mathlib.Omega.{arith}
use Rattle.lines.proofs.recording.put_pairs.Goals as goal

pub loop-path-init : goal.loop-path-init
loop-path-init c = listed_none _ _ _ _

pub list_pair-end-requires : goal.list_pair-end-requires
list_pair-end-requires c =
    let n = c.args.t.count in
    let turn = zip_turn (take n c.args.t.paths) (take n c.args.t.values) c.loop-path.yielded _ _ c.next.new.self _ (cc) (cc) c.loop-path.yielded_by _ c.in-Some.is c.next.ensures.steps in
    omega (arith, put_length c.loop-path.invariant, pairs_at_holds _ _ _ (length c.loop-path.yielded) c.loop-path.invariant, turn.0, length-take n c.args.t.paths, c.requires.0, c.requires.1)

pub loop-path-preserved : goal.loop-path-preserved
loop-path-preserved c =
    let n = c.args.t.count in
    let turn = zip_turn (take n c.args.t.paths) (take n c.args.t.values) c.loop-path.yielded _ _ c.next.new.self _ (cc) (cc) c.loop-path.yielded_by _ c.in-Some.is c.next.ensures.steps in
    pairs_more c.args.t (length c.loop-path.yielded) _ _ _ (omega (arith, turn.0, length-take n c.args.t.paths))
    (turn.2 0) (turn.3 0) (length-append c.loop-path.yielded _) c.loop-path.invariant c.list_pair-end.ensures
