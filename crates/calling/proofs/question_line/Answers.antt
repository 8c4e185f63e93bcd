-- `calling::question_line` meets its contract: what is asked are the three numbers that the bytes make, on words by
-- number 8 and on bytes by number 10 (`calls-ask`, `calls-ask-bytes`). Assumes nothing.
use mathlib.Core.Path.{◌∙◌}
use native.Mathlib.Omega.{arith}
use Rattle.functions.specs.Functions.Laws.{asks-bytes}
use Rattle.calling.specs.Call.Laws.{calls-ask, calls-ask-bytes}
use Rattle.calling.proofs.question_line.Goals as goal

-- on words
pub returns-then-function-eq-ASK-clause-line_after : goal.returns-then-function-eq-ASK-clause-line_after
returns-then-function-eq-ASK-clause-line_after c = let args = c.args in
    let asks = calls-ask args.function args.summary.now args.numbers.now c.word_at-party.ensures in
    let picks = asks c.word_at-row.ensures c.word_at-step.ensures in
    c.reply_line.ensures.line_after ∙ picks (omega arith) c.ask_words.ensures

-- and on bytes: no other question is left
pub returns-clause-line_after : goal.returns-clause-line_after
returns-clause-line_after c = let args = c.args in
    let asks = calls-ask-bytes args.function args.summary.now args.numbers.now c.word_at-party.ensures in
    let picks = asks c.word_at-row.ensures c.word_at-step.ensures in
    let is-bytes = asks-bytes args.function c.requires.0 c.if-function-eq-ASK.false in
    c.reply_line-2.ensures.line_after ∙ picks is-bytes c.ask.ensures
