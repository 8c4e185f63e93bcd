-- `apart::all_apart` meets its contract: all names that are bound before the place i are apart. Assumes nothing.
use Rattle.spans.specs.Behind.Laws.{ends_at}
use Rattle.apart.specs.Bound.Asked.{passing-begin, passing-inside, passing-some, passing-names, passing-fails, passing-again, passing-done}
use Rattle.apart.proofs.all_apart.Goals as goal

pub loop-due-init : goal.loop-due-init
loop-due-init c = search passing-begin

pub process_own-requires : goal.process_own-requires
process_own-requires c = search passing-inside

pub unwrap-own-requires : goal.unwrap-own-requires
unwrap-own-requires c = search passing-some

pub names_apart-requires : goal.names_apart-requires
names_apart-requires c = let own = ends_at _ _ _ _ _ c.process_own.ensures c.unwrap-own.ensures in
    (c.requires, search passing-names)

pub returns-then-not-names_apart : goal.returns-then-not-names_apart
returns-then-not-names_apart c = let own = ends_at _ _ _ _ _ c.process_own.ensures c.unwrap-own.ensures in
    search passing-fails

pub loop-due-preserved : goal.loop-due-preserved
loop-due-preserved c = let own = ends_at _ _ _ _ _ c.process_own.ensures c.unwrap-own.ensures in
    search passing-again

pub returns : goal.returns
returns c = search passing-done
