-- `heads_formed` meets its contract. Assumes nothing.
use Rattle.fields.specs.Field.{fields_at}
use Rattle.image.specs.Records.{head_at, change_of, mastership_of}
use Rattle.image.specs.View.{view}
use Rattle.image.proofs.formed.heads_formed.Goals as goal

pub returns : goal.returns
unfolding view head_at change_of mastership_of fields_at
returns c = simp (c.head_formed-committed.ensures, c.head_formed-applied.ensures, c.owners_formed-owners.ensures, c.get-change.ensures, c.get-revision.ensures, c.get-master.ensures)
