-- `editor_c::nghiralum_check` meets its contract: all that is said of a derivation fits one number, capped. Assumes
-- nothing.
use mathlib.Core.Path.{ap}
use Rattle.translation.specs.Outcome.{Outcome}
use Rattle.packing.specs.Packed.Derivations.{checked-packs}
use Rattle.packing.specs.Packed.Laws.{packed-checked}
use Rattle.editor_c.proofs.nghiralum_check.Goals as goal

-- so it can be packed
pub pack_checked-requires : goal.pack_checked-requires
pack_checked-requires c = let a = c.args in
    rw (ap (λ (o : Outcome). o.says) c.check-checked.ensures)
    (checked-packs a.asked.now a.derivation.now a.room.now)

pub returns : goal.returns
returns c = packed-checked c.check-checked.ensures c.pack_checked.ensures
