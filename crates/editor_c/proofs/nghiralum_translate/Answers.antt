-- `editor_c::nghiralum_translate` meets its contract: every answer of a translation fits one number. Assumes nothing.
use mathlib.Core.Path.{ap}
use Rattle.translation.specs.Outcome.{Outcome}
use Rattle.editor.specs.Bytes.Laws.{translation-bytes-small}
use Rattle.packing.specs.Packed.Laws.{packed-came}
use Rattle.editor_c.proofs.nghiralum_translate.Goals as goal

-- so it can be packed
pub pack-requires : goal.pack-requires
pack-requires c = let says = ap (λ (o : Outcome). o.says) c.translate-answer.ensures in
    rw says (translation-bytes-small c.args.book.now c.args.out.now)

pub returns : goal.returns
returns c = packed-came c.translate-answer.result c.translate-answer.ensures c.pack.ensures
