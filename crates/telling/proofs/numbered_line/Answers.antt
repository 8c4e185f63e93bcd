-- `telling::numbered_line` meets its contract: the text, the number behind it and the newline (`line-numbered`). Assumes
-- nothing.
use Rattle.telling.specs.Numbered.Laws.{line-numbered}
use Rattle.telling.proofs.numbered_line.Goals as goal

pub returns-clause-line_after : goal.returns-clause-line_after
returns-clause-line_after c =
    line-numbered c.args.number c.put_text-start.ensures c.put_number-at.ensures.put c.end.ensures.line_after
