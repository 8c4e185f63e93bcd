-- `parts::same_own` meets its contract: names, terms, types and effects, one after another. Assumes nothing.
use native.Mathlib.Omega.{arith}
use Rattle.std.proofs.lemmas.Grind.{common_steps}
use Rattle.parts.specs.Place.Lists.{own-tests}
use Rattle.parts.proofs.same_own.Goals as goal

pub returns-then-same_several-2 : goal.returns-then-same_several-2
returns-then-same_several-2 c =
    let (p, q, same) = c.requires in
    let t = own-tests _ _ _ _ _ _ p q same _ _ _ c.counts_of-counts.ensures in
    grind (arith, common_steps)

pub returns-else-same_several-2 : goal.returns-else-same_several-2
returns-else-same_several-2 c =
    let (p, q, same) = c.requires in
    let t = own-tests _ _ _ _ _ _ p q same _ _ _ c.counts_of-counts.ensures in
    grind (arith, common_steps)
