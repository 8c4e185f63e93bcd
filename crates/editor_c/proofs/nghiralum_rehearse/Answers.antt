-- `editor_c::nghiralum_rehearse` meets its contract: every answer of a rehearsal fits one number. Assumes nothing.
use mathlib.Core.Path.{ap}
use Rattle.translation.specs.Outcome.{Outcome}
use Rattle.editor.specs.Bytes.Laws.{rehearsal-bytes-small}
use Rattle.packing.specs.Packed.Laws.{packed-came}
use Rattle.editor_c.proofs.nghiralum_rehearse.Goals as goal

-- so it can be packed
pub pack-requires : goal.pack-requires
pack-requires c = let says = ap (λ (o : Outcome). o.says) c.rehearse-answer.ensures in
    rw says (rehearsal-bytes-small c.args.book.now c.args.schedule.now c.args.out.now)

pub returns : goal.returns
returns c = packed-came c.rehearse-answer.result c.rehearse-answer.ensures c.pack.ensures
