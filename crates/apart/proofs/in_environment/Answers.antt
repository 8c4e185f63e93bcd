-- `apart::in_environment` meets its contract: no entry before the place i is for x. Assumes nothing.
use Rattle.std.proofs.Common.{rules}
use Rattle.spans.specs.Behind.Laws.{ends_at}
use Rattle.apart.specs.Bound.Asked.{entries-begin, entries-inside, entries-end, entries-name, entries-some, entries-found, entries-again}
use Rattle.apart.proofs.in_environment.Goals as goal

pub loop-i-init : goal.loop-i-init
loop-i-init c = search entries-begin

pub offset_bounds-w-i : goal.offset_bounds-w-i
offset_bounds-w-i c = let inside = entries-inside _ _ _ _ c.loop-i.invariant in
    search rules

pub bounds-w-i : goal.bounds-w-i
bounds-w-i c = search entries-inside

-- an entry's name stands behind its first word
pub bounds-w-i-in-loop-i : goal.bounds-w-i-in-loop-i
bounds-w-i-in-loop-i c = search entries-name

pub returns-then-w-i : goal.returns-then-w-i
returns-then-w-i c = search entries-found

pub unwrap-i-requires : goal.unwrap-i-requires
unwrap-i-requires c = search entries-some

pub loop-i-preserved : goal.loop-i-preserved
loop-i-preserved c = let next = ends_at _ _ _ _ _ c.type_end.ensures c.unwrap-i.ensures in
    search entries-again

pub returns : goal.returns
returns c = search entries-end
