-- `examining::apart` meets its contract: where there is room, the words are asked about in the room. Assumes nothing.
use mathlib.Core.Path.{sym, ◌∙◌}
use native.Mathlib.Omega.{arith}
use Rattle.examining.specs.Checked.Laws.{replied_apart, apart-enough}
use Rattle.examining.proofs.apart.Goals as goal

pub returns : goal.returns
returns c = let enough = apart-enough _ _ (sym c.is_uneven.ensures ∙ c.if-is_uneven.false) in
    replied_apart _ _ ∙ c.apart_in.ensures ∙ sym (enough (omega (arith, c.if-room-needed.false)))
