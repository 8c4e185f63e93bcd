-- `functions::numbers` meets its contract: a question has three (`numbers-ask`), a judgement one (`numbers-judge`), what is
-- neither has none. Assumes nothing.
use native.Mathlib.Omega.{arith}
use Rattle.functions.specs.Functions.Laws.{numbers-ask, numbers-judge, numbers-none}
use Rattle.functions.proofs.numbers.Goals as goal

pub returns-then-is_question : goal.returns-then-is_question
returns-then-is_question c = (numbers-ask c.args.function c.is_question.ensures c.if-is_question.true, omega arith)

pub returns-then-is_judgement : goal.returns-then-is_judgement
returns-then-is_judgement c = let one = numbers-judge c.args.function c.is_question.ensures c.if-is_question.false in
    (one c.is_judgement.ensures c.if-is_judgement.true, omega arith)

pub returns : goal.returns
returns c = let none = numbers-none c.args.function c.is_question.ensures c.if-is_question.false in
    (none c.is_judgement.ensures c.if-is_judgement.false, omega arith)
