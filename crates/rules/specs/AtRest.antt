-- The commit side at rest (paper: The four jobs). Assumes nothing.
use Rattle.std.specs.Prelude.{Bool, ◌&&◌, ◌||◌, eqb, ltb, leb}
use Rattle.kinds.specs.declared.Head.{Head}
use Rattle.kinds.specs.declared.Status.{Status}
use Rattle.kinds.specs.Statuses.{done}

-- the head with c.commit and r.commit of the entry at its index. The third clause wants target = revision: a target
-- merely below the index is a rollback under way (the paper's first trap; crate machine, Traps)
abbrev pub at_rest : Head → Status → Status → Bool
at_rest h c r =
    (eqb h.index.0 0 && eqb h.target.0 0)
    || ((leb 1 h.index.0 && (eqb h.target.0 h.index.0 && done c))
    || (leb 1 h.index.0 && (eqb h.target.0 h.revision.0 && (ltb h.revision.0 h.index.0 && done r))))
