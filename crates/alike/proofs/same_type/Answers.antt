-- `alike::same_type` meets its contract: no change is made, and the effects are compared as multisets. Assumes nothing.
use Rattle.std.proofs.Common.{rules}
use Rattle.alike.specs.Same.Types.{Makes_same}
use Rattle.alike.proofs.same_type.Goals as goal

pub returns : goal.returns
returns c =
    c.same_type_where.ensures (λ T. T) (λ es. es) (Makes_same _ _ _ (λ a k end b l last r p q t. search rules))
