-- `line::listing_line` meets its contract: the words, and then the newline. Assumes nothing.
use mathlib.Core.Path.{◌∙◌, ap}
use Rattle.line.specs.Line.{ended, listing_line}
use Rattle.line.proofs.listing_line.Goals as goal

-- `end` is handed the words' text
pub returns : goal.returns
unfolding listing_line
returns c = record {
  prefix_len = c.end.ensures.prefix_len;
  line_after = c.end.ensures.line_after ∙ ap ended c.put_words-at.ensures.0;
}
