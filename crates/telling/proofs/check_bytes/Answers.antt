-- `telling::check_bytes` meets its contract: there is room for both (`checked-roomy`). Assumes nothing.
use mathlib.Core.Path.{ap, ◌∙◌}
use native.Mathlib.Omega.{arith}
use Rattle.translation.specs.Outcome.{Outcome}
use Rattle.examining.specs.Checked.Laws.{checked-roomy}
use Rattle.telling.proofs.check_bytes.Goals as goal

pub returns : goal.returns
returns c = let args = c.args in
    ap (λ (o : Outcome). o.says) c.check.ensures
    ∙ checked-roomy args.asked.now args.derivation.now _ (omega (arith, c.requires))
