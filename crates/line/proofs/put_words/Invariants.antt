-- `line::put_words` meets its contract: the words so far stand in the line, each up to eleven bytes long (`spelled-more`). Assumes
-- nothing.
use Rattle.std.proofs.Common.{◌≡◌, length}
use Rattle.line.proofs.Spelled.{Spelled}
use Rattle.line.proofs.put_words.Given as goal

abbrev pub invariant-loop-word : goal.invariant-loop-word
invariant-loop-word l = (length l.line ≡ length l.initial.line) × Spelled l.words l.word-index l.line l.at
