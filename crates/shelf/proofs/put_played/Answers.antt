-- `shelf::put_played` meets its contract: the four lines stand one behind another (`put_then`). Assumes nothing.
use Rattle.line.specs.Line.Laws.{put_then}
use Rattle.shelf.specs.Lines.{played_lines}
use Rattle.shelf.proofs.put_played.Goals as goal

pub returns-clause-put : goal.returns-clause-put
unfolding played_lines
returns-clause-put c =
    let on = c.put_rehearsal-first.ensures.put in
    let back = c.put_rehearsal-second.ensures.put in
    let long = c.put_rehearsal-third.ensures.put in
    let short = c.put_rehearsal.ensures.put in
    put_then (put_then (put_then on back) long) short
