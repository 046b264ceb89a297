-- `call_of` meets its contract. Assumes nothing.
use Rattle.lines.specs.Reading.{call_of}
use borrow.Author.Tests.{ne_eqb}
use Rattle.lines.proofs.reading.call_of.Goals as goal

pub returns-in-65 : goal.returns-in-65
unfolding call_of
returns-in-65 c = rw c.in-65.is

pub returns-in-67 : goal.returns-in-67
unfolding call_of
returns-in-67 c = rw c.in-67.is

pub returns-in-68 : goal.returns-in-68
unfolding call_of
returns-in-68 c = rw c.in-68.is

pub returns-in-77 : goal.returns-in-77
unfolding call_of
returns-in-77 c = rw c.in-77.is

pub returns-in-82 : goal.returns-in-82
unfolding call_of
returns-in-82 c = rw c.in-82.is

pub returns-in-83 : goal.returns-in-83
unfolding call_of
returns-in-83 c = rw c.in-83.is

pub returns-in-84 : goal.returns-in-84
unfolding call_of
returns-in-84 c = rw c.in-84.is

pub returns-in-89 : goal.returns-in-89
unfolding call_of
returns-in-89 c = rw c.in-89.is

pub returns-in-87 : goal.returns-in-87
unfolding call_of
returns-in-87 c = rw c.in-87.is

pub returns-in-70 : goal.returns-in-70
unfolding call_of
returns-in-70 c = rw c.in-70.is

pub returns-in-81 : goal.returns-in-81
unfolding call_of
returns-in-81 c = rw c.in-81.is

pub returns-in-78 : goal.returns-in-78
unfolding call_of
returns-in-78 c = rw c.in-78.is

pub returns-in-73 : goal.returns-in-73
unfolding call_of
returns-in-73 c = rw c.in-73.is

pub returns-in-79 : goal.returns-in-79
unfolding call_of
returns-in-79 c = rw c.in-79.is

pub returns-in-66 : goal.returns-in-66
unfolding call_of
returns-in-66 c = rw c.in-66.is

pub returns-in_default : goal.returns-in_default
unfolding call_of
returns-in_default c = simp (
  ne_eqb _ _ c.in_default.in_default-own.rest.1,
  ne_eqb _ _ c.in_default.in_default-own.rest.0.1,
  ne_eqb _ _ c.in_default.in_default-own.rest.0.0.1,
  ne_eqb _ _ c.in_default.in_default-own.rest.0.0.0.1,
  ne_eqb _ _ c.in_default.in_default-own.rest.0.0.0.0.1,
  ne_eqb _ _ c.in_default.in_default-own.rest.0.0.0.0.0.1,
  ne_eqb _ _ c.in_default.in_default-own.rest.0.0.0.0.0.0.1,
  ne_eqb _ _ c.in_default.in_default-own.rest.0.0.0.0.0.0.0.1,
  ne_eqb _ _ c.in_default.in_default-own.rest.0.0.0.0.0.0.0.0.1,
  ne_eqb _ _ c.in_default.in_default-own.rest.0.0.0.0.0.0.0.0.0.1,
  ne_eqb _ _ c.in_default.in_default-own.rest.0.0.0.0.0.0.0.0.0.0.1,
  ne_eqb _ _ c.in_default.in_default-own.rest.0.0.0.0.0.0.0.0.0.0.0.1,
  ne_eqb _ _ c.in_default.in_default-own.rest.0.0.0.0.0.0.0.0.0.0.0.0.1,
  ne_eqb _ _ c.in_default.in_default-own.rest.0.0.0.0.0.0.0.0.0.0.0.0.0.1,
  ne_eqb _ _ c.in_default.in_default-own.rest.0.0.0.0.0.0.0.0.0.0.0.0.0.0.1,
)
