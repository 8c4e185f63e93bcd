-- A walk over the rows, the parties or the steps, whose lists lie in the pool one after another. Assumes nothing.
use Rattle.std.specs.Prelude.{ℕ, ◌+◌, ◌≤◌, ◌<◌, Bool, true, false, List, Ok, Err, ◌≡◌}
use Rattle.std.proofs.Common.{sym, ◌∙◌, arith}
use Rattle.words.specs.Sum.Laws.{sum_more}
use Rattle.book.specs.Layout.{pool, row_count, rows_before}
use Rattle.book.specs.Rules.{ListRule, row_breaks}
use Rattle.book.specs.Rules.Laws.{row-exact}
use Rattle.header.specs.Scans.Laws.{passed_none, passed-more, found_at, found_none}
use Rattle.rows.specs.Scanned.{Summed, Scanned}

module _ {b : List ℕ} {breaks : ℕ → Bool} {before : ℕ → ℕ} where
  pub summed-begins : (s : ℕ) → s ≡ before 0 → s ≤ pool b → Summed b breaks before 0 s
  summed-begins s e i = record { passed = passed_none breaks; summed = e; inside = i }

  -- it stops at place k, of which a call said v, or behind the last of n places
  pub summed-stops : (n k s : ℕ) → Summed b breaks before k s → k < n → (v : Bool) → v ≡ breaks k → v ≡ true
      → Scanned b breaks before n (Err (record { place = k; sum = s }))
  summed-stops n k s w l v d h = (found_at breaks n k w.passed l v d h, w.summed, w.inside)

  pub summed-ends : (n k s : ℕ) → Summed b breaks before k s → k ≤ n → n ≤ k → Scanned b breaks before n (Ok s)
  summed-ends n k s w l m =
      let e : k ≡ n = omega arith in
      (found_none breaks n k w.passed l m, rw e at w.summed, w.inside)

  -- a place that keeps its rule is passed: its list of c entries lies in the pool
  pub summed-goes : (k s c : ℕ) → Summed b breaks before k s → (v : Bool) → v ≡ breaks k → v ≡ false
      → before k + c ≡ before (k + 1) → before (k + 1) ≤ pool b → Summed b breaks before (k + 1) (s + c)
  summed-goes k s c w v d h e i =
      let y = w.summed in
      record { passed = passed-more breaks k w.passed (sym d ∙ h); summed = omega arith; inside = omega arith }

-- a list of n entries that keeps its rule lies in the pool, behind those before it
pub list-inside : {b : List ℕ} {lo hi n f before bound : ℕ} → ListRule b lo hi n f before bound → before + n ≤ pool b
list-inside r = let p = r.placed in let i = r.inside in omega arith

pub rows-inside : (b : List ℕ) (k : ℕ) → row_breaks b k ≡ false → rows_before b (k + 1) ≤ pool b
rows-inside b k e = let i = list-inside ((row-exact b k).0 e).listed in let z = sum_more (row_count b) k in omega arith
