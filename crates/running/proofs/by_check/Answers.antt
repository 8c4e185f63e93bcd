-- `running::by_check` meets its contract: the process by its pieces, the nonce by its effects, and the premises. Assumes nothing.
use Rattle.std.proofs.Common.{sym, ◌∙◌, arith}
use Rattle.shapes.specs.Shape.{made_type}
use Rattle.shapes.specs.Shape.Laws as shape
use Rattle.ruling.specs.Line.{says_process, says_term}
use Rattle.ruling.specs.Line.Laws.{one-there, restates}
use Rattle.ruling.specs.Rules.Decide.{by-law}
use Rattle.running.specs.Rules.{rule_code}
use Rattle.running.specs.Rules.Own.{less-nonce}
use Rattle.running.specs.Rules.Laws.{check, check-type-other, other}
use Rattle.running.proofs.by_check.Goals as goal

pub returns-in_default : goal.returns-in_default
unfolding rule_code says_process
returns-in_default c = other _ _ _ _ _ c.in_default.ensures.1

pub returns-then-word-ne5 : goal.returns-then-word-ne5
unfolding says_term
returns-then-word-ne5 c = check-type-other _ _ _ _ _ _
    (λ gs e. c.if-word-ne5.true (c.word.ensures ∙ shape.nonce-word _ _ c.requires.2.type _ e))

pub restated-requires : goal.restated-requires
restated-requires c = let many = c.wide-many.ensures.0 ∙ c.word-2.ensures in
    let nonce = shape.nonce-reads _ _ c.requires.2.type (sym c.word.ensures ∙ c.if-word-ne5.false) _ many _ c.behind-last.ensures in
    (c.requires.0, c.requires.3, nonce, one-there _ _ _ _ (omega arith) (omega arith) c.behind-end.ensures)

pub returns-then-same_as : goal.returns-then-same_as
unfolding says_process says_term made_type
returns-then-same_as c = let many = c.wide-many.ensures.0 ∙ c.word-2.ensures in
    let nonce = shape.nonce-is _ _ c.requires.2.type (sym c.word.ensures ∙ c.if-word-ne5.false) _ many in
    let sum = restates _ c.restated.ensures (less-nonce _ _ _ _ _ _ _) in
    by-law (check _ _ _ _ _ _ _ _ _ _ _ _ _ _ _ _ c.in-Some.ensures.1.is nonce) (grind arith)

pub returns-else-same_as : goal.returns-else-same_as
unfolding says_process says_term made_type
returns-else-same_as c = let many = c.wide-many.ensures.0 ∙ c.word-2.ensures in
    let nonce = shape.nonce-is _ _ c.requires.2.type (sym c.word.ensures ∙ c.if-word-ne5.false) _ many in
    by-law (check _ _ _ _ _ _ _ _ _ _ _ _ _ _ _ _ c.in-Some.ensures.1.is nonce) (grind arith)
