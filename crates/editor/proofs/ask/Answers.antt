-- `editor::ask` meets its contract: bytes that make no whole words are refused, and of others their words are asked.
-- Assumes nothing.
use mathlib.Core.Path.{sym, ◌∙◌}
use Rattle.editor.specs.Bytes.Laws.{of-whole-summary, of-odd-summary}
use Rattle.editor.proofs.ask.Goals as goal

-- the bytes are no multiple of four
pub returns-then-is_uneven : goal.returns-then-is_uneven
returns-then-is_uneven c = let a = c.args in
    sym (of-odd-summary a.summary.now a.party a.row a.step
    (sym c.is_uneven.ensures ∙ c.if-is_uneven.true))

-- they are
pub returns : goal.returns
returns c = let a = c.args in
    c.ask_words.ensures
    ∙ sym (of-whole-summary a.summary.now a.party a.row a.step
    (sym c.is_uneven.ensures ∙ c.if-is_uneven.false))
