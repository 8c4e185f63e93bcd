-- `calling::typing_line` meets its contract: 13 and 14 check, on words and on bytes, 15 and 16 ask about bound names
-- (`calls-check` and its kin). Assumes nothing.
use mathlib.Core.Path.{◌∙◌}
use native.Mathlib.Omega.{arith}
use Rattle.calling.specs.Call.Laws.{calls-check, calls-check-bytes, calls-apart, calls-apart-bytes, last-typing}
use Rattle.calling.proofs.typing_line.Goals as goal

-- a derivation, on words
pub returns-then-function-eq-CHECK-clause-line_after : goal.returns-then-function-eq-CHECK-clause-line_after
returns-then-function-eq-CHECK-clause-line_after c = let args = c.args in
    let checks = calls-check args.function args.asked.now args.derivation.now in
    c.checked_line.ensures.line_after ∙ checks (omega arith) c.check_words.ensures

-- and on bytes
pub returns-then-function-eq-CHECK_BYTES-clause-line_after : goal.returns-then-function-eq-CHECK_BYTES-clause-line_after
returns-then-function-eq-CHECK_BYTES-clause-line_after c = let args = c.args in
    let checks = calls-check-bytes args.function args.asked.now args.derivation.now in
    c.checked_line-then-function-eq-CHECK_BYTES.ensures.line_after ∙ checks (omega arith) c.check_bytes.ensures

-- bound names, on words
pub returns-then-function-eq-APART-clause-line_after : goal.returns-then-function-eq-APART-clause-line_after
returns-then-function-eq-APART-clause-line_after c = let args = c.args in
    let asks = calls-apart args.function args.asked.now args.derivation.now in
    c.reply_line.ensures.line_after ∙ asks (omega arith) c.apart_words.ensures

-- and on bytes: no other number is left
pub returns-clause-line_after : goal.returns-clause-line_after
returns-clause-line_after c = let args = c.args in
    let asks = calls-apart-bytes args.function args.asked.now args.derivation.now in
    let last = last-typing args.function c.requires.0.0 c.requires.0.1 in
    let is_last = last c.if-function-eq-CHECK.false c.if-function-eq-CHECK_BYTES.false c.if-function-eq-APART.false in
    c.reply_line-2.ensures.line_after ∙ asks is_last c.apart_bytes.ensures
