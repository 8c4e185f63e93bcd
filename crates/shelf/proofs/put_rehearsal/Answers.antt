-- `shelf::put_rehearsal` meets its contract: the line is left in front of the part that is lent (`put-part`).
-- Assumes nothing.
use native.Mathlib.Omega.{arith}
use Rattle.line.specs.Line.Laws.{put-part}
use Rattle.shelf.proofs.put_rehearsal.Goals as goal

pub returns-clause-put : goal.returns-clause-put
returns-clause-put c =
    let line = c.rehearse-n.ensures in
    put-part c.args.out.now _ _ _ _ (omega arith) line.prefix_len line.line_after
