-- The list of a party or a step that keeps its rule lies in the pool, behind those before it. Assumes nothing.
use Rattle.std.specs.Prelude.{ℕ, ◌+◌, ◌≤◌, false, List, ◌≡◌}
use Rattle.std.proofs.Common.{arith}
use Rattle.words.specs.Sum.Laws.{sum_more}
use Rattle.book.specs.Layout.{pool, party_count, step_count, parties_before, steps_before}
use Rattle.book.specs.Rules.{party_breaks, step_breaks}
use Rattle.book.specs.Rules.Laws.{party-exact, step-exact}
use Rattle.rows.specs.Scanned.Laws.{list-inside}

pub parties-inside : (b : List ℕ) (k : ℕ) → party_breaks b k ≡ false → parties_before b (k + 1) ≤ pool b
parties-inside b k e = let i = list-inside ((party-exact b k).0 e).listed in let z = sum_more (party_count b) k in omega arith

pub steps-inside : (b : List ℕ) (k : ℕ) → step_breaks b k ≡ false → steps_before b (k + 1) ≤ pool b
steps-inside b k e = let i = list-inside ((step-exact b k).0 e).listed in let z = sum_more (step_count b) k in omega arith
