-- The table of kinds as code has it: a struct with the same numbers (terms' Kind).
use Rattle.std.specs.Prelude.{ℕ, ◌≡◌}
use Rattle.terms.specs.Kind.{of_kind}
use Rattle.book.specs.declared.Kind.{Kind}
pub mod Laws

pub record OfKind (k : ℕ) (r : Kind) : Type 0 where
  pub size : r.size ≡ (of_kind k).size
  pub fewest : r.fewest ≡ (of_kind k).fewest
  pub most : r.most ≡ (of_kind k).most
  pub tag : r.tag ≡ (of_kind k).tag
  pub code : r.code ≡ (of_kind k).code
