-- `functions::is_question` meets its contract: by the number (`asks-words`, `asks-other`). Assumes nothing.
use native.Mathlib.Omega.{arith}
use Rattle.functions.specs.Functions.Laws.{asks-words, asks-other}
use Rattle.functions.proofs.is_question.Goals as goal

pub returns-then-function-eq-ASK : goal.returns-then-function-eq-ASK
returns-then-function-eq-ASK c = asks-words c.args.function (omega arith)

pub returns : goal.returns
returns c = asks-other c.args.function c.if-function-eq-ASK.false
