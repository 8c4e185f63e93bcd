-- `calling::judge_line` meets its contract: the listing is judged for the party whose number the bytes make, on words by
-- number 11 and on bytes by number 12 (`calls-judge`, `calls-judge-bytes`). Assumes nothing.
use mathlib.Core.Path.{◌∙◌}
use native.Mathlib.Omega.{arith}
use Rattle.functions.specs.Functions.Laws.{judges-bytes}
use Rattle.calling.specs.Call.Laws.{calls-judge, calls-judge-bytes}
use Rattle.calling.proofs.judge_line.Goals as goal

-- on words
pub returns-then-function-eq-JUDGE-clause-line_after : goal.returns-then-function-eq-JUDGE-clause-line_after
returns-then-function-eq-JUDGE-clause-line_after c = let args = c.args in
    let judges = calls-judge args.function args.book.now args.listing.now args.number.now in
    c.judgement_line.ensures.line_after ∙ judges c.word_at-party.ensures (omega arith) c.judge_words.ensures

-- and on bytes: no other number is left
pub returns-clause-line_after : goal.returns-clause-line_after
returns-clause-line_after c = let args = c.args in
    let judges = calls-judge-bytes args.function args.book.now args.listing.now args.number.now in
    let is-bytes = judges-bytes args.function c.requires.0 c.if-function-eq-JUDGE.false in
    c.judgement_line-2.ensures.line_after ∙ judges c.word_at-party.ensures is-bytes c.judge.ensures
