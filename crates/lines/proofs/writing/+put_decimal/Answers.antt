-- `put_decimal` meets its contract. Assumes nothing.
use mathlib.Core.List.{[], ◌∷◌}
use Prim.Native.Nat.{◌+◌, ◌/◌, ◌%◌}
use Rattle.lines.proofs.Putting.{put_then, put_byte, put_length, decimal_one, decimal_more}
use Rattle.lines.specs.Decimal.{decimal}
use lib.ListN.{length, length-append}
use native.Mathlib.Omega.{arith}
use mathlib.Core.Path.{ap}
use Rattle.lines.proofs.writing.+put_decimal.Goals as goal

pub bounds-out-at : goal.bounds-out-at
bounds-out-at t c = omega (arith, c.requires, ap length (decimal_one c.args.n c.if-n-lt10.true))

pub returns-then-n-lt10 : goal.returns-then-n-lt10
returns-then-n-lt10 t c = rw (decimal_one c.args.n c.if-n-lt10.true) (put_byte _ _ _)

pub put_decimal-end-requires : goal.put_decimal-end-requires
put_decimal-end-requires t c = (
  omega (arith, c.decreases, c.if-n-lt10.false),
  omega (
    arith,
    c.requires,
    ap length (decimal_more c.args.n c.if-n-lt10.false c.ranges.n.fits),
    length-append (decimal (c.args.n / 10)) ((48 + c.args.n % 10) ∷ []),
  ),
)

pub bounds-out-end : goal.bounds-out-end
bounds-out-end t c = omega (
  arith,
  put_length c.put_decimal-end.ensures,
  c.put_decimal-end.ensures.ends,
  c.requires,
  ap length (decimal_more c.args.n c.if-n-lt10.false c.ranges.n.fits),
  length-append (decimal (c.args.n / 10)) ((48 + c.args.n % 10) ∷ []),
)

pub overflow_add-result-2 : goal.overflow_add-result-2
overflow_add-result-2 t c = omega (
  arith,
  c.put_decimal-end.ensures.ends,
  c.requires,
  c.well_formed,
  ap length (decimal_more c.args.n c.if-n-lt10.false c.ranges.n.fits),
  length-append (decimal (c.args.n / 10)) ((48 + c.args.n % 10) ∷ []),
)

pub returns : goal.returns
returns t c = rw (decimal_more c.args.n c.if-n-lt10.false c.ranges.n.fits) (
    put_then c.put_decimal-end.ensures (put_byte _ _ _)
    )
