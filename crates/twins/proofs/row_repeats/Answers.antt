-- `twins::row_repeats` meets its contract: an atom repeats nothing; any other row does, if its twin is an earlier one.
-- Assumes nothing.
use Rattle.std.proofs.Common.{◌∙◌}
use Rattle.twins.proofs.Twins.{repeats-atom, repeats-twin}
use Rattle.twins.proofs.row_repeats.Goals as goal

pub returns-then-row_kind-ne-ATOM : goal.returns-then-row_kind-ne-ATOM
returns-then-row_kind-ne-ATOM c = c.is_some.ensures ∙ repeats-twin _ _ _ c.row_kind.ensures c.if-row_kind-ne-ATOM.true _ c.twin.ensures

pub returns-else-row_kind-ne-ATOM : goal.returns-else-row_kind-ne-ATOM
returns-else-row_kind-ne-ATOM c = rw c.if-row_kind-ne-ATOM.false (repeats-atom _ _ _ c.row_kind.ensures c.if-row_kind-ne-ATOM.false)
