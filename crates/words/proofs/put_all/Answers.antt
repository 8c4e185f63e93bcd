-- `words::put_all` meets its contract: the next word is written behind those written so far. Assumes nothing.
use Rattle.std.proofs.Common.{refl, arith, rules}
use Rattle.words.specs.Overlay.Laws.{wrote_none, wrote-more}
use Rattle.words.proofs.put_all.Goals as goal

pub loop-w-init : goal.loop-w-init
loop-w-init c = search (wrote_none, rules)

pub loop-w-preserved : goal.loop-w-preserved
loop-w-preserved c = wrote-more c.args.from.now c.loop-w.w-index (omega arith) c.loop-w.invariant c.put-next.ensures refl
