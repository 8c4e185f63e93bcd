-- `apart::bound_twice` meets its contract: before the place i, x is bound n times. Assumes nothing.
use Rattle.std.proofs.Common.{arith}
use Rattle.spans.specs.Behind.Laws.{ends_at}
use Rattle.apart.specs.Bound.Asked.{counting-begin, counting-inside, counting-some, counting-names, counting-twice, counting-again, counting-done}
use Rattle.apart.proofs.bound_twice.Goals as goal

pub loop-due-init : goal.loop-due-init
loop-due-init c = search counting-begin

pub process_own-requires : goal.process_own-requires
process_own-requires c = search counting-inside

pub unwrap-own-requires : goal.unwrap-own-requires
unwrap-own-requires c = search counting-some

pub same_names-more-requires : goal.same_names-more-requires
same_names-more-requires c = let own = ends_at _ _ _ _ _ c.process_own.ensures c.unwrap-own.ensures in
    search counting-names

-- x is bound a second time
pub returns-then-n-more-gt1 : goal.returns-then-n-more-gt1
returns-then-n-more-gt1 c = let own = ends_at _ _ _ _ _ c.process_own.ensures c.unwrap-own.ensures in
    counting-twice _ _ _ _ _ _ _ c.loop-due.invariant c.loop-due-test.true _ own _ c.same_names-more.ensures.0 (omega arith)

pub loop-due-preserved : goal.loop-due-preserved
loop-due-preserved c = let own = ends_at _ _ _ _ _ c.process_own.ensures c.unwrap-own.ensures in
    counting-again _ _ _ _ _ _ _ c.loop-due.invariant c.loop-due-test.true _ own _ c.same_names-more.ensures.0 c.if-n-more-gt1.false _
    c.process_parts.ensures.0 c.process_parts.ensures.1

pub returns : goal.returns
returns c = search counting-done
