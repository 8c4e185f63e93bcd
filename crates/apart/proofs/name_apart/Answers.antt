-- `apart::name_apart` meets its contract, by its two tests. Assumes nothing.
use Rattle.std.proofs.Common.{ap, not, ◌∙◌}
use Rattle.apart.specs.Bound.Asked.{name_in, name-twice}
use Rattle.apart.proofs.name_apart.Goals as goal

pub returns-then-not-in_environment : goal.returns-then-not-in_environment
returns-then-not-in_environment c = search name-twice

pub returns-else-not-in_environment : goal.returns-else-not-in_environment
returns-else-not-in_environment c = ap not c.if-not-in_environment.false ∙ name_in _ _ _ _ c.in_environment.ensures c.if-not-in_environment.false
