-- `claims::mark_atom` meets its contract: only the atom's entry is written, and only where it is 0. Assumes nothing.
use Rattle.claims.proofs.Marks.{new-marked, old-marked}
use Rattle.claims.proofs.mark_atom.Goals as goal

-- the entry read and the entry written are the atom's
pub returns-then-since-wide-eq0 : goal.returns-then-since-wide-eq0
returns-then-since-wide-eq0 c = let (sized, inside) = c.requires in
    new-marked {r = c.args.row} sized inside c.wide.ensures.0 c.if-since-wide-eq0.true
    c.wide-then-since-wide-eq0.ensures.0

pub returns-else-since-wide-eq0 : goal.returns-else-since-wide-eq0
returns-else-since-wide-eq0 c = search old-marked
