-- `running::by_match` meets its contract: the process and the pair type by their pieces, the premises, and the type with the term put in. Assumes nothing.
use Rattle.std.proofs.Common.{sym, ◌∙◌, arith}
use Rattle.words.specs.Choice.{pick}
use Rattle.changed.specs.Put.{change_by}
use Rattle.shapes.specs.Shape.Laws as shape
use Rattle.ruling.specs.Line.{says_process, says_term}
use Rattle.ruling.specs.Rules.Decide.{by-law}
use Rattle.running.specs.Rules.{rule_code, open_process}
use Rattle.running.specs.Rules.Laws.{match, match-type-other, other}
use Rattle.running.proofs.by_match.Goals as goal

pub returns-in_default : goal.returns-in_default
unfolding rule_code says_process
returns-in_default c = other _ _ _ _ _ c.in_default.ensures.1

pub returns-then-word-ne2 : goal.returns-then-word-ne2
unfolding says_term
returns-then-word-ne2 c = match-type-other _ _ _ _ _
    (λ S R e. c.if-word-ne2.true (c.word.ensures ∙ shape.pair-word _ _ c.requires.1.type _ _ e))

pub returns-then-same_at : goal.returns-then-same_at
unfolding says_process says_term change_by open_process pick
returns-then-same_at c = let types = shape.pair_parts _ _ c.requires.1.type (sym c.word.ensures ∙ c.if-word-ne2.false) _ c.behind-second.ensures in
    by-law (match _ _ _ _ _ _ _ _ _ _ _ _ _ _ _ _ _ _ _ c.in-Some.ensures.1.is types) (grind arith)

pub returns-else-same_at : goal.returns-else-same_at
unfolding says_process says_term change_by open_process pick
returns-else-same_at c = let types = shape.pair_parts _ _ c.requires.1.type (sym c.word.ensures ∙ c.if-word-ne2.false) _ c.behind-second.ensures in
    by-law (match _ _ _ _ _ _ _ _ _ _ _ _ _ _ _ _ _ _ _ c.in-Some.ensures.1.is types) (grind arith)

pub behind-second-requires : goal.behind-second-requires
behind-second-requires c = shape.pair-first _ _ c.requires.1.type (sym c.word.ensures ∙ c.if-word-ne2.false)

pub behind-last-requires : goal.behind-last-requires
behind-last-requires c = shape.pair-second _ _ c.requires.1.type (sym c.word.ensures ∙ c.if-word-ne2.false) _ c.behind-second.ensures
