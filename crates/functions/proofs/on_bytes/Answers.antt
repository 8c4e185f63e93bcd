-- `functions::on_bytes` meets its contract: by the number (`bytes-before` and its kin). Assumes nothing.
use native.Mathlib.Omega.{arith}
use Rattle.functions.specs.Functions.Laws.{bytes-before, bytes-early, bytes-judge, bytes-check, bytes_apart, bytes-late}
use Rattle.functions.proofs.on_bytes.Goals as goal

pub returns-then-function-lt-TRANSLATE_BYTES : goal.returns-then-function-lt-TRANSLATE_BYTES
returns-then-function-lt-TRANSLATE_BYTES c = bytes-before c.args.function (omega arith)

pub returns-then-function-lt-WRITE_SUMMARY : goal.returns-then-function-lt-WRITE_SUMMARY
returns-then-function-lt-WRITE_SUMMARY c = bytes-early c.args.function (omega arith) (omega arith)

pub returns-then-function-eq-JUDGE : goal.returns-then-function-eq-JUDGE
returns-then-function-eq-JUDGE c = bytes-judge c.args.function (omega arith)

pub returns-then-function-eq-CHECK : goal.returns-then-function-eq-CHECK
returns-then-function-eq-CHECK c = bytes-check c.args.function (omega arith)

pub returns-then-function-eq-APART : goal.returns-then-function-eq-APART
returns-then-function-eq-APART c = bytes_apart c.args.function (omega arith)

pub returns : goal.returns
returns c = let late = bytes-late c.args.function (omega arith) (omega arith) in
    late c.if-function-eq-JUDGE.false c.if-function-eq-CHECK.false c.if-function-eq-APART.false
