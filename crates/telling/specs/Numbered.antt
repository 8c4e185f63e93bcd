-- A line that is a text and a number behind it, in decimal.
use Rattle.std.specs.Prelude.{ℕ, List, ◌++◌}
use Rattle.line.specs.Line.{spaced, ended}
pub mod Laws

unfoldable pub numbered_line : List ℕ → ℕ → List ℕ
numbered_line text n = ended (text ++ spaced n)
