-- `editor_c::nghiralum_apart` meets its contract: all that is said of bound names fits one number, capped. Assumes nothing.
use mathlib.Core.Path.{ap}
use Rattle.translation.specs.Outcome.{Outcome}
use Rattle.packing.specs.Packed.Derivations.{apart-small}
use Rattle.packing.specs.Packed.Laws.{packed-checked}
use Rattle.editor_c.proofs.nghiralum_apart.Goals as goal

-- so it can be packed
pub pack_reply-requires : goal.pack_reply-requires
pack_reply-requires c = let a = c.args in
    rw (ap (λ (o : Outcome). o.says) c.apart-reply.ensures) (apart-small a.asked.now a.room.now)

pub returns : goal.returns
returns c = packed-checked c.apart-reply.ensures c.pack_reply.ensures
