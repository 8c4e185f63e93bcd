-- `ruling::by_effect_end` meets its contract: the effect with the word 1 is end. Assumes nothing.
use Rattle.std.proofs.Common.{sym, ◌∙◌}
use Rattle.words.specs.Choice.{pick}
use Rattle.balance.specs.Sum.{effect_by}
use Rattle.ruling.specs.Line.{says_effect, says_term}
use Rattle.ruling.specs.Rules.First.{effect-end}
use Rattle.ruling.proofs.by_effect_end.Goals as goal

pub returns : goal.returns
unfolding says_effect says_term effect_by pick
returns c = c.effect_added.ensures ∙ sym (effect-end _ _ _ _ _ _ _)
