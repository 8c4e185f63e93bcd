-- `Rule::try_from` meets its contract: what is none of 32 numbers names no rule. Assumes nothing.
use native.Mathlib.Omega.{arith}
use Rattle.choosing.specs.Kinds.Laws.{rule-none}
use Rattle.choosing.proofs.RuleTryFromU32.try_from.Goals as goal

pub returns-in_default : goal.returns-in_default
returns-in_default c = rule-none c.args.number (λ d. omega arith)
