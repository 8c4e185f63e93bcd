-- `functions::is_judgement` meets its contract: by the number (`judges-words`, `judges-other`). Assumes nothing.
use native.Mathlib.Omega.{arith}
use Rattle.functions.specs.Functions.Laws.{judges-words, judges-other}
use Rattle.functions.proofs.is_judgement.Goals as goal

pub returns-then-function-eq-JUDGE : goal.returns-then-function-eq-JUDGE
returns-then-function-eq-JUDGE c = judges-words c.args.function (omega arith)

pub returns : goal.returns
returns c = judges-other c.args.function c.if-function-eq-JUDGE.false
