-- `functions::slice_size` meets its contract: the count is the word of the four bytes, and by the function it is of words
-- or of bytes (`size-words`, `size-bytes`). Assumes nothing.
use mathlib.Core.Path.{◌∙◌}
use native.Mathlib.Omega.{arith}
use Rattle.octets.specs.Octets.{word_at}
use Rattle.functions.specs.Functions.Laws.{size-words, size-bytes}
use Rattle.functions.proofs.slice_size.Goals as goal

-- of bytes
pub returns-then-on_bytes : goal.returns-then-on_bytes
unfolding word_at
returns-then-on_bytes c = let (count, few) = c.wide-count.ensures in
    let size = size-bytes c.args.function c.on_bytes.ensures c.if-on_bytes.true in
    (size (count ∙ c.word.ensures), omega arith)

-- of words
pub returns : goal.returns
unfolding word_at
returns c = let (count, few) = c.wide-count.ensures in
    let size = size-words c.args.function c.on_bytes.ensures c.if-on_bytes.false in
    (size (count ∙ c.word.ensures), omega arith)
