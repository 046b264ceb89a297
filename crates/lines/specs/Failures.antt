-- What a program says on standard error where it stopped before all that its input asks was written. Assumes nothing.
use Rattle.std.specs.Prelude.{ℕ, List, codes}
use Rattle.lines.specs.declared.failure.Failure.{Failure}
use Rattle.lines.specs.declared.failure.Failure.TheVariants.{Unread, Unwritten}

abbrev pub failure_text : Failure → List ℕ
failure_text Unread = codes "standard input cannot be read"
failure_text Unwritten = codes "standard output cannot be written"
