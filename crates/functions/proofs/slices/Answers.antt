-- `functions::slices` meets its contract: by the number (`slices-read` and its kin). Assumes nothing.
use native.Mathlib.Omega.{arith}
use Rattle.functions.specs.Functions.Laws.{slices-read, slices-ask, slices-rehearse, slices-rehearse-bytes}
use Rattle.functions.specs.Functions.Laws.{slices-apart, slices-lent}
use Rattle.functions.proofs.slices.Goals as goal

-- of a reading
pub returns-then-function-lt-TRANSLATE : goal.returns-then-function-lt-TRANSLATE
returns-then-function-lt-TRANSLATE c = slices-read c.args.function (omega arith)

-- of a question
pub returns-then-is_question : goal.returns-then-is_question
returns-then-is_question c = slices-ask c.args.function c.is_question.ensures (omega arith) c.if-is_question.true

-- of a rehearsal, on words and on bytes
pub returns-then-function-eq-REHEARSE : goal.returns-then-function-eq-REHEARSE
returns-then-function-eq-REHEARSE c = slices-rehearse c.args.function (omega arith)

pub returns-then-function-eq-REHEARSE_BYTES : goal.returns-then-function-eq-REHEARSE_BYTES
returns-then-function-eq-REHEARSE_BYTES c = slices-rehearse-bytes c.args.function (omega arith)

-- of a test of bound names
pub returns-then-function-gt-CHECK_BYTES : goal.returns-then-function-gt-CHECK_BYTES
returns-then-function-gt-CHECK_BYTES c = let apart = slices-apart c.args.function c.is_question.ensures (omega arith) in
    apart c.if-is_question.false c.if-function-eq-REHEARSE.false c.if-function-eq-REHEARSE_BYTES.false (omega (arith, c.if-function-gt-CHECK_BYTES.true))

-- of the others
pub returns : goal.returns
returns c = let lent = slices-lent c.args.function c.is_question.ensures (omega arith) in
    lent c.if-is_question.false c.if-function-eq-REHEARSE.false c.if-function-eq-REHEARSE_BYTES.false (omega (arith, c.if-function-gt-CHECK_BYTES.false))
