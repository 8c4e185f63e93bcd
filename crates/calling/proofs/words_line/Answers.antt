-- `calling::words_line` meets its contract: the function that the number picks is the one that is called
-- (`calls-translate` and its kin), and the line is the one of what came of it; what was written lies in the lent words.
-- Assumes nothing.
use mathlib.Core.Path.{◌∙◌}
use native.Mathlib.Omega.{arith}
use borrow.Author.Rules.{rules}
use Rattle.line.specs.Line.Laws.{inside-outcome, inside-rehearsal}
use Rattle.calling.specs.Call.Laws.{inside-summarized}
use Rattle.calling.specs.Call.Laws.{calls-verdict, calls-translate, calls-summary, calls-rehearse}
use Rattle.calling.proofs.words_line.Goals as goal

pub verdict_line-requires : goal.verdict_line-requires
verdict_line-requires c = (omega arith, omega arith, omega arith)

-- what was written had room
pub answer_line-requires : goal.answer_line-requires
answer_line-requires c = let came = c.translate-answer in
    (search rules, search rules, inside-outcome came.result _ _ _ came.ensures (omega arith))

pub answer_line-requires-then-function-eq-WRITE_SUMMARY : goal.answer_line-requires-then-function-eq-WRITE_SUMMARY
answer_line-requires-then-function-eq-WRITE_SUMMARY c = let came = c.write_summary-answer in
    (search rules, search rules, inside-summarized came.result _ _ _ came.ensures (omega arith))

pub answer_line-requires-2 : goal.answer_line-requires-2
answer_line-requires-2 c = let came = c.rehearse-answer in
    (search rules, search rules, inside-rehearsal came.result _ _ _ _ came.ensures (omega arith))

-- the line of a verdict
pub returns-then-function-lt-TRANSLATE-clause-line_after : goal.returns-then-function-lt-TRANSLATE-clause-line_after
returns-then-function-lt-TRANSLATE-clause-line_after c = let args = c.args in
    let picks = calls-verdict args.function args.first.now args.second.now args.third.now in
    c.verdict_line.ensures.line_after ∙ picks (omega arith)

-- the line of what came of the translation
pub returns-then-function-eq-TRANSLATE-clause-line_after : goal.returns-then-function-eq-TRANSLATE-clause-line_after
returns-then-function-eq-TRANSLATE-clause-line_after c = let args = c.args in
    let picks = calls-translate args.function args.first.now args.second.now args.third.now in
    c.answer_line.ensures.line_after ∙ picks (omega arith) c.translate-answer.ensures

-- of the summary
pub returns-then-function-eq-WRITE_SUMMARY-clause-line_after : goal.returns-then-function-eq-WRITE_SUMMARY-clause-line_after
returns-then-function-eq-WRITE_SUMMARY-clause-line_after c = let args = c.args in
    let picks = calls-summary args.function args.first.now args.second.now args.third.now in
    c.answer_line-then-function-eq-WRITE_SUMMARY.ensures.line_after ∙ picks (omega arith) c.write_summary-answer.ensures

-- and of the rehearsal: no other number is left
pub returns-clause-line_after : goal.returns-clause-line_after
returns-clause-line_after c = let args = c.args in
    let picks = calls-rehearse args.function args.first.now args.second.now args.third.now in
    c.answer_line-2.ensures.line_after ∙ picks (omega arith) c.rehearse-answer.ensures
