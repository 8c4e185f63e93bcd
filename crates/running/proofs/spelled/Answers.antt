-- `running::spelled` meets its contract: the process by its first word. Assumes nothing.
use Rattle.std.proofs.Common.{sym, ◌∙◌}
use Rattle.pieces.specs.Piece.Laws.{process-inside}
use Rattle.running.specs.Rules.Pieces.{kind-at, other_word}
use Rattle.running.proofs.spelled.Goals as goal

pub returns-then-word-code : goal.returns-then-word-code
returns-then-word-code c = (process-inside _ _ c.requires, kind-at _ _ _ c.pieces_of-p.ensures _ (sym c.word.ensures ∙ c.if-word-code.true))

pub returns-else-word-code : goal.returns-else-word-code
returns-else-word-code c = (process-inside _ _ c.requires, other_word _ _ _ c.pieces_of-p.ensures _ _ c.word.ensures c.if-word-code.false)
