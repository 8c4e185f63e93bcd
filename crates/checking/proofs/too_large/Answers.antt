-- `checking::too_large` meets its contract: no line before i states too many effects. Assumes nothing.
use mathlib.Core.Path.{◌∙◌}
use native.Mathlib.Omega.{arith}
use Rattle.checking.specs.Large.Laws.{lines-word, count_word, large-lines, uncrowded-none, uncrowded-next, large-effects, none-crowded}
use Rattle.checking.proofs.too_large.Goals as goal

pub returns-then-lines-gt-LINES : goal.returns-then-lines-gt-LINES
returns-then-lines-gt-LINES c = large-lines _ _ (lines-word _ _ c.word-lines.ensures) c.if-lines-gt-LINES.true

pub loop-i-init : goal.loop-i-init
loop-i-init c = uncrowded-none _

-- the first line that states too many
pub returns-then-effects-gt-EFFECTS : goal.returns-then-effects-gt-EFFECTS
returns-then-effects-gt-EFFECTS c = large-effects _ _ _ (lines-word _ _ (c.wide-i-end.ensures.0 ∙ c.word-lines.ensures)) (omega arith)
    c.loop-i.invariant c.loop-i-test.true _ (count_word _ _ _ c.line_word-effects.ensures) c.if-effects-gt-EFFECTS.true

pub loop-i-preserved : goal.loop-i-preserved
loop-i-preserved c = uncrowded-next _ _ c.loop-i.invariant _ (count_word _ _ _ c.line_word-effects.ensures) c.if-effects-gt-EFFECTS.false

pub returns : goal.returns
returns c = none-crowded _ _ _ (lines-word _ _ (c.wide-i-end.ensures.0 ∙ c.word-lines.ensures)) (omega arith) c.loop-i.invariant
    c.loop-i-test.false
