-- `calling::call_line` meets its contract: numbers above 12 are of derivations, the others of books (`calls-typing`,
-- `calls-book`). Assumes nothing.
use mathlib.Core.Path.{◌∙◌}
use native.Mathlib.Omega.{arith}
use Rattle.calling.specs.Call.Laws.{calls-typing, calls-book}
use Rattle.calling.proofs.call_line.Goals as goal

pub typing_line-requires : goal.typing_line-requires
typing_line-requires c = let (known, first, second, _, room) = c.requires in
    ((omega (arith, c.if-function-gt-JUDGE_BYTES.true), known.1), first, second, omega (arith, room))

pub book_line-requires : goal.book_line-requires
book_line-requires c = let (known, first, second, third, room) = c.requires in
    ((known.0, omega (arith, c.if-function-gt-JUDGE_BYTES.false)), first, second, third, room)

-- of derivations
pub returns-then-function-gt-JUDGE_BYTES-clause-line_after : goal.returns-then-function-gt-JUDGE_BYTES-clause-line_after
returns-then-function-gt-JUDGE_BYTES-clause-line_after c = let args = c.args in
    let picks = calls-typing args.function args.first.now args.second.now args.third.now in
    c.typing_line.ensures.line_after ∙ picks (omega (arith, c.if-function-gt-JUDGE_BYTES.true))

-- of books
pub returns-clause-line_after : goal.returns-clause-line_after
returns-clause-line_after c = let args = c.args in
    let picks = calls-book args.function args.first.now args.second.now args.third.now in
    c.book_line.ensures.line_after ∙ picks (omega (arith, c.if-function-gt-JUDGE_BYTES.false))
