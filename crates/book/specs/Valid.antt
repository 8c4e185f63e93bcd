-- A book that passes refusals 1 to 9. Valid.Laws has that the verdict accepts exactly these.
use Rattle.std.specs.Prelude.{ℕ, ◌+◌, ◌≤◌, ◌<◌, List, length}
use Rattle.book.specs.Layout.{header, sections, rows, parties, steps}
use Rattle.book.specs.Rules.{CountRule, OffsetRule, RowRule, SizeRule, SingleRule, PartyRule, StepRule, TotalRule}
pub mod Laws

pub record Valid (b : List ℕ) : Type 0 where
  pub long : header ≤ length b
  pub counts : (i : ℕ) → i < sections → CountRule b i
  pub offsets : (i : ℕ) → i < sections + 1 → OffsetRule b i
  pub rows_keep : (r : ℕ) → r < rows b → RowRule b r
  pub sizes_keep : (r : ℕ) → r < rows b → SizeRule b r
  pub single : (r : ℕ) → r < rows b → SingleRule b r
  pub parties_keep : (p : ℕ) → p < parties b → PartyRule b p
  pub steps_keep : (s : ℕ) → s < steps b → StepRule b s
  pub total : TotalRule b
