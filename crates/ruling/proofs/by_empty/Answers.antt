-- `ruling::by_empty` meets its contract: there is no entry. Assumes nothing.
use Rattle.std.proofs.Common.{sym, ◌∙◌, ap}
use lib.Dec.{eqb}
use Rattle.ruling.specs.Line.{says_environment}
use Rattle.shapes.specs.Shape.Laws.{is_none}
use Rattle.ruling.specs.Rules.First.{empty}
use Rattle.ruling.proofs.by_empty.Goals as goal

pub returns : goal.returns
unfolding says_environment
returns c = ap (λ n. eqb n 1) c.word.ensures ∙ is_none _ _ c.requires.environment ∙ sym (empty _)
