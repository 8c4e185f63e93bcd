-- `ruling::by_pair` meets its contract: the term and the type by their parts, and the second type with the first term put in. Assumes nothing.
use Rattle.std.proofs.Common.{sym, ◌∙◌, arith}
use Rattle.words.specs.Choice.{pick}
use Rattle.changed.specs.Put.{change_by}
use Rattle.shapes.specs.Shape.Laws as shape
use Rattle.ruling.specs.Line.{says_term}
use Rattle.ruling.specs.Line.Terms.{term-code, join-left, join-parts}
use Rattle.ruling.specs.Rules.{join}
use Rattle.ruling.specs.Rules.Decide.{by-law}
use Rattle.ruling.specs.Rules.Terms.{pair-parts, pair-other, pair-type-other}
use Rattle.ruling.proofs.by_pair.Goals as goal
use Rattle.ruling.proofs.by_pair.Goals.{then-word-ne2-via-then-word-ne2, then-word-ne2-via-else-word-ne2+then-word-ne2-2}

pub returns-then-word-ne2 : goal.returns-then-word-ne2
unfolding says_term
returns-then-word-ne2 c = elim c.then-word-ne2.branch [
  | then-word-ne2-via-then-word-ne2 w ↦
      pair-other _ _ _ _ (λ e. w.if-word-ne2.true (c.word.ensures ∙ sym (term-code _ _ c.requires.0.term) ∙ e))
  | then-word-ne2-via-else-word-ne2+then-word-ne2-2 w ↦
      pair-type-other _ _ _ _ (λ S R e. w.if-word-ne2-2.true (w.word-else-word-ne2.ensures ∙ shape.pair-word _ _ c.requires.0.type _ _ e))
]

pub behind-right-requires : goal.behind-right-requires
behind-right-requires c = join-left _ _ c.requires.0.term 2 (omega arith) (omega arith) (sym c.word.ensures ∙ c.if-word-ne2.false)

pub behind-second-requires : goal.behind-second-requires
behind-second-requires c = shape.pair-first _ _ c.requires.0.type (sym c.word-else-word-ne2.ensures ∙ c.if-word-ne2-2.false)

pub behind-f-requires : goal.behind-f-requires
behind-f-requires c = shape.pair-second _ _ c.requires.0.type (sym c.word-else-word-ne2.ensures ∙ c.if-word-ne2-2.false) _ c.behind-second.ensures

pub term_premise-requires-then-term_premise : goal.term_premise-requires-then-term_premise
term_premise-requires-then-term_premise c =
    let parts = join-parts _ _ c.requires.0.term 2 (omega arith) (omega arith) (sym c.word.ensures ∙ c.if-word-ne2.false) _ c.behind-right.ensures in
    (c.requires.0.environment, c.requires.2, parts.0)

pub returns-then-same_at : goal.returns-then-same_at
unfolding says_term change_by join pick
returns-then-same_at c =
    let parts = join-parts _ _ c.requires.0.term 2 (omega arith) (omega arith) (sym c.word.ensures ∙ c.if-word-ne2.false) _ c.behind-right.ensures in
    let types = shape.pair_parts _ _ c.requires.0.type (sym c.word-else-word-ne2.ensures ∙ c.if-word-ne2-2.false) _ c.behind-second.ensures in
    by-law (pair-parts _ _ _ _ _ _ _ _ _ _ _ _ _ parts.1 types) (grind arith)

pub returns-else-same_at : goal.returns-else-same_at
unfolding says_term change_by join pick
returns-else-same_at c =
    let parts = join-parts _ _ c.requires.0.term 2 (omega arith) (omega arith) (sym c.word.ensures ∙ c.if-word-ne2.false) _ c.behind-right.ensures in
    let types = shape.pair_parts _ _ c.requires.0.type (sym c.word-else-word-ne2.ensures ∙ c.if-word-ne2-2.false) _ c.behind-second.ensures in
    by-law (pair-parts _ _ _ _ _ _ _ _ _ _ _ _ _ parts.1 types) (grind arith)
