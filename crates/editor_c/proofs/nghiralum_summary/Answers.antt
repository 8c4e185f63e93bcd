-- `editor_c::nghiralum_summary` meets its contract: every answer about a summary fits one number. Assumes nothing.
use mathlib.Core.Path.{ap}
use Rattle.translation.specs.Outcome.{Outcome}
use Rattle.editor.specs.Bytes.Laws.{summary-bytes-small}
use Rattle.packing.specs.Packed.Laws.{packed-came}
use Rattle.editor_c.proofs.nghiralum_summary.Goals as goal

-- so it can be packed
pub pack-requires : goal.pack-requires
pack-requires c = let says = ap (λ (o : Outcome). o.says) c.summarize-answer.ensures in
    rw says (summary-bytes-small c.args.book.now c.args.out.now)

pub returns : goal.returns
returns c = packed-came c.summarize-answer.result c.summarize-answer.ensures c.pack.ensures
