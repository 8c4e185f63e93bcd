-- `alike::entry_stands` meets its contract: no entry before the place i is it. Assumes nothing.
use Rattle.spans.specs.Behind.Laws.{ends_at}
use Rattle.alike.specs.Same.Stands.{walk-begin, walk-type, walk-found, walk-again, walk-done}
use Rattle.alike.proofs.entry_stands.Goals as goal

pub loop-i-init : goal.loop-i-init
loop-i-init c = search walk-begin

pub unwrap-own-requires : goal.unwrap-own-requires
unwrap-own-requires c = search walk-type

pub returns-then-is_entry : goal.returns-then-is_entry
returns-then-is_entry c =
    walk-found _ _ _ _ _ _ c.loop-i.invariant c.loop-i-test.true _ (ends_at _ _ _ _ _ c.type_end.ensures c.unwrap-own.ensures) c.if-is_entry.ensures

pub loop-i-preserved : goal.loop-i-preserved
loop-i-preserved c =
    walk-again _ _ _ _ _ _ c.loop-i.invariant c.loop-i-test.true _ (ends_at _ _ _ _ _ c.type_end.ensures c.unwrap-own.ensures) c.if-is_entry.ensures

pub returns : goal.returns
returns c = search walk-done
