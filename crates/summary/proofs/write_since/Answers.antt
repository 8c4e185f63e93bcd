-- `summary::write_since` meets its contract: one row more, by its entry. Assumes nothing.
use Rattle.std.proofs.Common.{◌∙◌}
use Rattle.summary.proofs.Held.{dated-none, dated-on}
use Rattle.summary.proofs.write_since.Goals as goal

pub loop-entry-init : goal.loop-entry-init
loop-entry-init c = dated-none _ _

-- one row more is told, by its entry
pub loop-entry-preserved : goal.loop-entry-preserved
loop-entry-preserved c =
    dated-on _ _ _ c.loop-entry.invariant
    (c.unwrap_or.ensures ∙ c.since.ensures c.args.never) c.put-next.ensures
