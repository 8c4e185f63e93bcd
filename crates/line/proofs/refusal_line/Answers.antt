-- `line::refusal_line` meets its contract: the text of what the refusal tells, and then the newline. Assumes nothing.
use mathlib.Core.Path.{◌∙◌, ap}
use Rattle.line.specs.Line.{refusal_text, ended, refusal_line}
use Rattle.line.proofs.refusal_line.Goals as goal

-- `end` is handed the refusal's text
pub returns : goal.returns
unfolding refusal_line
returns c = let text = c.put_told-at.ensures.0 ∙ ap refusal_text c.told_of.ensures in
    record {
      prefix_len = c.end.ensures.prefix_len;
      line_after = c.end.ensures.line_after ∙ ap ended text;
    }
