-- Where the parts of a row that keeps its rule lie. Assumes nothing.
use Rattle.std.specs.Prelude.{ℕ, ◌<◌, List, ◌≡◌}
use Rattle.std.proofs.Common.{ap, arith}
use Rattle.book.specs.Layout.{rows, kind, row_first, row_count, pooled}
use Rattle.book.specs.Kinds.Laws.{most-few}
use Rattle.rows.specs.Scanned.{RowsKeep}
use Rattle.rows.specs.Parts.{Parts}

pub parts-of : (b : List ℕ) → RowsKeep b → (k : ℕ) → k < rows b → (f n : ℕ) → f ≡ row_first b k → n ≡ row_count b k → Parts b k f n
parts-of b keep k l f n d e =
    let r = (keep k l).listed in
    let m = most-few (kind b k) in
    record {
      few = (let h = r.high in omega arith);
      inside = (let i = r.inside in omega arith);
      earlier = λ j h.
          let y : pooled b f j ≡ pooled b (row_first b k) j = ap (λ x. pooled b x j) d in
          let i = r.each j (omega arith) in
          omega arith;
    }
