-- `ruling::joined` meets its contract: the term by its parts. Assumes nothing.
use Rattle.std.proofs.Common.{sym, ◌∙◌, arith}
use Rattle.ruling.specs.Line.Terms.{term-code, join-left, join-parts}
use Rattle.ruling.specs.Rules.Decide.{by-law}
use Rattle.ruling.specs.Rules.Terms.{joined-other, joined-parts}
use Rattle.ruling.proofs.joined.Goals as goal

pub returns-then-word-code : goal.returns-then-word-code
returns-then-word-code c = joined-other _ _ _ _ _ c.requires.3 c.requires.4
    (λ e. c.if-word-code.true (c.word.ensures ∙ sym (term-code _ _ c.requires.0.term) ∙ e))

pub term_premise-requires-then-term_premise : goal.term_premise-requires-then-term_premise
term_premise-requires-then-term_premise c = let word-is = sym c.word.ensures ∙ c.if-word-code.false in
    let parts = join-parts _ _ c.requires.0.term _ c.requires.3 c.requires.4 word-is _ c.behind-right.ensures in
    (c.requires.0.environment, c.requires.2, parts.0)

pub returns-then-term_premise : goal.returns-then-term_premise
returns-then-term_premise c = let word-is = sym c.word.ensures ∙ c.if-word-code.false in
    let parts = join-parts _ _ c.requires.0.term _ c.requires.3 c.requires.4 word-is _ c.behind-right.ensures in
    by-law (joined-parts _ _ _ _ _ _ _ _ _ parts.1) (grind arith)

pub returns-else-term_premise : goal.returns-else-term_premise
returns-else-term_premise c = let word-is = sym c.word.ensures ∙ c.if-word-code.false in
    let parts = join-parts _ _ c.requires.0.term _ c.requires.3 c.requires.4 word-is _ c.behind-right.ensures in
    by-law (joined-parts _ _ _ _ _ _ _ _ _ parts.1) (grind arith)

pub behind-right-requires : goal.behind-right-requires
behind-right-requires c = let word-is = sym c.word.ensures ∙ c.if-word-code.false in
    join-left _ _ c.requires.0.term _ c.requires.3 c.requires.4 word-is
