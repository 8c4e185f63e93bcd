-- `shelf::seven_lines` meets its contract: the translation's line, and behind it those of the rehearsals, for as many
-- parties as the book seats. Assumes nothing.
use native.Mathlib.Omega.{arith}
use Rattle.line.specs.Line.Laws.{counts-within}
use Rattle.shelf.specs.Lines.Laws.{seven-put}
use Rattle.shelf.proofs.seven_lines.Goals as goal

pub returns : goal.returns
returns c =
    let line = c.put_translation-first.ensures in
    let four = c.put_played-second.ensures in
    let two = c.put_refused.ensures in
    record {
      prefix_len = counts-within _ _ (omega arith);
      out_after = seven-put c.args.book.now c.seats_of-parties.ensures.value line.out_after four.put two.put;
    }
