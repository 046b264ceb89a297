-- `write_form_in` fills in a form letter by letter. Assumes nothing.
use Rattle.lines.proofs.Putting.{room_long, filling_fits_in, filling_more, filling_whole, filled_short, written_in}
use native.Mathlib.Omega.{arith}
use mathlib.Core.Path.{refl}
use Rattle.lines.proofs.writing.write_form_in.Goals as goal

pub put_letter-at-requires : goal.put_letter-at-requires
put_letter-at-requires c = filling_fits_in _ _ _ _ c.loop-c.c-index c.loop-c.k _
    c.loop-c.invariant _ _ refl c.loop-c-test.true
    c.requires.0 c.if-out-room.false

pub next_at-k-requires : goal.next_at-k-requires
next_at-k-requires c = omega (
  arith,
  c.loop-c.invariant.some,
  room_long c.args.form.now,
  c.loop-c-test.true,
  c.requires.0,
  c.requires.1,
)

pub loop-c-preserved : goal.loop-c-preserved
loop-c-preserved c = filling_more _ _ _ _
    c.loop-c.c-index c.loop-c.k _
    c.loop-c.invariant _ _ _ _
    c.loop-c-test.true refl c.next_at-k.ensures c.put_letter-at.ensures

pub returns : goal.returns
returns c = let whole = filling_whole _ _ _ _ c.loop-c.c-index c.loop-c.k _ c.loop-c.invariant c.loop-c-test.false
    in written_in _ whole c.if-out-room.false (omega (
      arith,
      whole.ends,
      filled_short c.args.form.now
          c.args.numbers.now 0,
      c.if-out-room.false,
      c.requires.0,
    ))
