-- `telling::apart_bytes` meets its contract: there is room for the words (`apart-roomy`). Assumes nothing.
use mathlib.Core.Path.{ap, ◌∙◌}
use native.Mathlib.Omega.{arith}
use Rattle.translation.specs.Outcome.{Outcome}
use Rattle.examining.specs.Checked.Laws.{apart-roomy}
use Rattle.telling.proofs.apart_bytes.Goals as goal

pub returns : goal.returns
returns c = ap (λ (o : Outcome). o.says) c.apart.ensures ∙ apart-roomy c.args.asked.now _ (omega (arith, c.requires))
