-- `calling::bytes_line` meets its contract: the function on bytes that the number picks is called, and the line is the
-- one of what came of it; what was written lies in the lent bytes. Assumes nothing.
use mathlib.Core.Path.{◌∙◌}
use native.Mathlib.Omega.{arith}
use borrow.Author.Rules.{rules}
use Rattle.calling.specs.Call.Laws.{calls-translate-bytes, calls-summary-bytes, calls-rehearse-bytes}
use Rattle.calling.specs.Call.Laws.{inside-translated, inside-summarized-bytes, inside-rehearsed}
use Rattle.calling.proofs.bytes_line.Goals as goal

-- what was written had room
pub lent_line-requires : goal.lent_line-requires
lent_line-requires c = let came = c.translate-answer in
    (search rules, search rules, inside-translated came.result _ _ _ came.ensures (omega arith))

pub lent_line-requires-then-function-eq-SUMMARY_BYTES : goal.lent_line-requires-then-function-eq-SUMMARY_BYTES
lent_line-requires-then-function-eq-SUMMARY_BYTES c = let came = c.summarize-answer in
    (search rules, search rules, inside-summarized-bytes came.result _ _ _ came.ensures (omega arith))

pub lent_line-requires-2 : goal.lent_line-requires-2
lent_line-requires-2 c = let came = c.rehearse-answer in
    (search rules, search rules, inside-rehearsed came.result _ _ _ _ came.ensures (omega arith))

-- the line of what came of the translation
pub returns-then-function-eq-TRANSLATE_BYTES-clause-line_after : goal.returns-then-function-eq-TRANSLATE_BYTES-clause-line_after
returns-then-function-eq-TRANSLATE_BYTES-clause-line_after c = let args = c.args in
    let picks = calls-translate-bytes args.function args.first.now args.second.now args.third.now in
    c.lent_line.ensures.line_after ∙ picks (omega arith) c.translate-answer.ensures

-- of the summary
pub returns-then-function-eq-SUMMARY_BYTES-clause-line_after : goal.returns-then-function-eq-SUMMARY_BYTES-clause-line_after
returns-then-function-eq-SUMMARY_BYTES-clause-line_after c = let args = c.args in
    let picks = calls-summary-bytes args.function args.first.now args.second.now args.third.now in
    c.lent_line-then-function-eq-SUMMARY_BYTES.ensures.line_after ∙ picks (omega arith) c.summarize-answer.ensures

-- and of the rehearsal: no other number is left
pub returns-clause-line_after : goal.returns-clause-line_after
returns-clause-line_after c = let args = c.args in
    let picks = calls-rehearse-bytes args.function args.first.now args.second.now args.third.now in
    c.lent_line-2.ensures.line_after ∙ picks (omega arith) c.rehearse-answer.ensures
