-- `octets::word_at` meets its contract: what `word` makes of the four bytes is the word there. Assumes nothing.
use mathlib.Core.Path.{◌≡◌, sym, ◌∙◌}
use Rattle.octets.specs.Octets.{word_at}
use Rattle.octets.specs.Octets.Laws.{words-at, words-past}
use Rattle.octets.proofs.word_at.Goals as goal

pub returns-then-i-bytes : goal.returns-then-i-bytes
unfolding word_at
returns-then-i-bytes c = let made : c.word.result ≡ word_at c.args.bytes.now c.args.i = c.word.ensures in
    made ∙ sym (words-at c.args.bytes.now c.args.i c.if-i-bytes.true)

pub returns : goal.returns
returns c = sym (words-past c.args.bytes.now c.args.i c.if-i-bytes.false)
