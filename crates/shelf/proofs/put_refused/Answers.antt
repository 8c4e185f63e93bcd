-- `shelf::put_refused` meets its contract: the two lines stand one behind the other (`put_then`). Assumes nothing.
use Rattle.line.specs.Line.Laws.{put_then}
use Rattle.shelf.specs.Lines.{refused_lines}
use Rattle.shelf.proofs.put_refused.Goals as goal

pub returns-clause-put : goal.returns-clause-put
unfolding refused_lines
returns-clause-put c = put_then c.put_rehearsal-first.ensures.put c.put_rehearsal.ensures.put
