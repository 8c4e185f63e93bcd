-- `packing::capped` meets its contract: by the number of values, each of which is capped. Assumes nothing.
use mathlib.Core.List.{[], ◌∷◌}
use mathlib.Core.Path.{sym, ap, ap₂, ◌∙◌}
use Rattle.book.specs.Said.{said, told_says}
use Rattle.packing.specs.Packed.{capped as capped_of}
use Rattle.packing.proofs.capped.Goals as goal

pub returns-in-One : goal.returns-in-One
returns-in-One c = ap (λ v. said c.in-One.number (v ∷ [])) c.min.ensures
    ∙ sym (ap (λ t. capped_of (told_says t)) c.in-One.is)

pub returns-in-Two : goal.returns-in-Two
returns-in-Two c = ap₂ (λ v w. said c.in-Two.number (v ∷ w ∷ [])) c.min-in-Two.ensures
    c.min-in-Two-2.ensures
    ∙ sym (ap (λ t. capped_of (told_says t)) c.in-Two.is)
