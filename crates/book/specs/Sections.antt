-- The table of sections as code has it: a struct with the same numbers (Layout).
use Rattle.std.specs.Prelude.{ℕ, ◌≡◌}
use Rattle.book.specs.Layout.{width, least, most}
use Rattle.book.specs.declared.Section.{Section}
pub mod Laws

pub record OfSection (i : ℕ) (r : Section) : Type 0 where
  pub width : r.width ≡ width i
  pub least : r.least ≡ least i
  pub most : r.most ≡ most i
