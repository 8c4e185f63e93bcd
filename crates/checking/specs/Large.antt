-- Refusal 24, as far as numbers go: the too large count, or none.
use Rattle.std.specs.Prelude.{ℕ, List, ltb, Option, None, Some}
use Rattle.words.specs.Choice.{pick}
use Rattle.words.specs.First.{first, any}
use Rattle.typing.specs.Derivation.{lines, effect_count, crowded, most_lines}
pub mod Laws

unfoldable pub too_large : List ℕ → Option ℕ
too_large w =
    pick (ltb most_lines (lines w)) (Some (lines w))
    (pick (any (crowded w) (lines w)) (Some (effect_count w (first (crowded w) (lines w)))) None)
