-- `ruling::by_name` meets its contract: the term is a name, and stands in the environment with its type. Assumes nothing.
use Rattle.std.proofs.Common.{sym, ◌∙◌, ap, arith}
use Rattle.typing.specs.Term.{Term}
use Rattle.ruling.specs.Line.{says_term, says_environment}
use Rattle.ruling.specs.Line.Terms.{term-code, term-name}
use Rattle.ruling.specs.Rules.Decide.{by-law}
use Rattle.ruling.specs.Rules.Terms.{name, name-other}
use Rattle.ruling.proofs.by_name.Goals as goal

pub returns-then-word-ne1 : goal.returns-then-word-ne1
unfolding says_term
returns-then-word-ne1 c = name-other _ _ _ _
    (λ e. c.if-word-ne1.true (c.word.ensures ∙ sym (term-code _ _ c.requires.0.term) ∙ e))

pub returns-then-same_at : goal.returns-then-same_at
unfolding says_term says_environment
returns-then-same_at c = let named = term-name _ _ c.requires.0.term (sym c.word.ensures ∙ c.if-word-ne1.false) in
    by-law (name _ _ _ _ _ (named ∙ ap Term.name (sym c.word-x.ensures))) (grind arith)

pub returns-else-same_at : goal.returns-else-same_at
unfolding says_term says_environment
returns-else-same_at c = let named = term-name _ _ c.requires.0.term (sym c.word.ensures ∙ c.if-word-ne1.false) in
    by-law (name _ _ _ _ _ (named ∙ ap Term.name (sym c.word-x.ensures))) (grind arith)
