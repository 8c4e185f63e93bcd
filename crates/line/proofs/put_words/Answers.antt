-- `line::put_words` meets its contract: the words so far stand in the line, and a word takes up to ten digits and the space
-- (`spelled-more`). Assumes nothing.
use Rattle.std.proofs.Common.{arith, rules}
use Rattle.line.proofs.Spelled.{spelled_none, spelled-more}
use Rattle.line.proofs.put_words.Goals as goal

pub loop-word-init : goal.loop-word-init
loop-word-init c = (search rules, spelled_none _ _)

pub loop-word-preserved : goal.loop-word-preserved
loop-word-preserved c =
    let put = rw c.from.ensures at c.put_number-at.ensures in
    (search rules, spelled-more _ c.loop-word-test.true c.loop-word.invariant.1 put.put (put.word (omega arith)))
