-- Refusal 5: the size of a row, from the sizes of its parts. Assumes nothing.
use Prim.Native.Nat.{ℕ, ◌+◌, ◌≤◌, ◌<◌}
use mathlib.Core.Bool.{true, false}
use mathlib.Core.List.{List}
use mathlib.Core.Path.{◌≡◌, sym, ap, ◌∙◌}
use lib.ListN.{length, get_or, set, replicate, length-set, length-replicate}
use lib.Seq.{get_or-set_same, get_or-set_other}
use native.Mathlib.Omega.{arith}
use borrow.Author.Count.{below_none, below_more}
use borrow.Author.Tests.{lt-ltb, le-ltb}
use Rattle.words.specs.Run.Laws.{all-run}
use Rattle.words.specs.Sum.{sum}
use Rattle.words.specs.Sum.Laws.{sum-none, sum_same, sum_more}
use Rattle.terms.specs.Kind.{of_kind}
use Rattle.terms.specs.Table.{row_size}
use Rattle.terms.specs.Table.Laws.{size-row, total-run}
use Rattle.book.specs.Layout.{begins, rows, kind, row_first, row_count, pooled, table}
use Rattle.book.specs.Rules.{size_breaks}
use Rattle.book.specs.Rules.Laws.{size_exact}
use Rattle.rows.specs.Scanned.{RowsKeep}

-- s holds the sizes of the rows before row r
abbrev pub Sizes : List ℕ → List ℕ → ℕ → Type 0
Sizes b s r = (k : ℕ) → k < r → get_or s k 0 ≡ row_size (table b) k

-- the size of row r so far: what its kind adds, and the sizes of its first j parts, as s has them
unfoldable pub size_so_far : List ℕ → List ℕ → ℕ → ℕ → ℕ → ℕ
size_so_far b s r f j = (of_kind (kind b r)).size + sum (λ i. get_or s (pooled b f i) 0) j

-- ---- row_size, part after part
pub size-begins : (b s : List ℕ) (r f k o : ℕ) → k ≡ kind b r → o ≡ (of_kind k).size → o ≡ size_so_far b s r f 0
unfolding size_so_far
size-begins b s r f k o d e = let z = sum-none (λ i. get_or s (pooled b f i) 0) in let y = ap (λ c. (of_kind c).size) d in omega arith

-- w is the part that was read, where s is asked
pub size_step : (b s : List ℕ) (r f j size w p : ℕ) → size ≡ size_so_far b s r f j → w ≡ p → p ≡ pooled b f j
    → size + get_or s w 0 ≡ size_so_far b s r f (j + 1)
unfolding size_so_far
size_step b s r f j size w p e d h =
    let z = sum_more (λ i. get_or s (pooled b f i) 0) j in
    let y : get_or s w 0 ≡ get_or s (pooled b f j) 0 = ap (λ x. get_or s x 0) (d ∙ h) in
    omega arith

-- the parts are earlier rows, so that s has their sizes: all added are the row's size
size-all : (b : List ℕ) → RowsKeep b → (r : ℕ) → r < rows b → (s : List ℕ) → Sizes b s r
    → (f : ℕ) → f ≡ row_first b r → size_so_far b s r f (row_count b r) ≡ row_size (table b) r
unfolding table size_so_far
size-all b keep r l s h f d =
    sym (size-row (table b) (rows b) (λ q m. all-run (λ p. p < q) b (begins b 3 + row_first b q) (row_count b q) (keep q m).listed.each) r l
    ∙ ap (λ x. (of_kind (kind b r)).size + x)
    (total-run (row_size (table b)) b (begins b 3 + row_first b r) (row_count b r)
    ∙ sum_same _ _ (row_count b r)
    (λ j m. sym (h (pooled b (row_first b r) j) ((keep r l).listed.each j m)) ∙ ap (λ x. get_or s (pooled b x j) 0) (sym d))))

-- behind the last part, that is the row's size
pub size-ends : (b : List ℕ) → RowsKeep b → (r : ℕ) → r < rows b → (s : List ℕ) → Sizes b s r
    → (f n j size : ℕ) → f ≡ row_first b r → n ≡ row_count b r → size ≡ size_so_far b s r f j → j ≤ n → n ≤ j
    → size ≡ row_size (table b) r
size-ends b keep r l s h f n j size d e z i o =
    let y : j ≡ row_count b r = omega arith in
    z ∙ ap (size_so_far b s r f) y ∙ size-all b keep r l s h f d

-- an earlier row's size, as s has it, is at most 1,024
pub size-known : (b s : List ℕ) (r w p : ℕ) → Sizes b s r → ((k : ℕ) → k < r → row_size (table b) k ≤ 1024) → w ≡ p → p < r
    → get_or s w 0 ≤ 1024
size-known b s r w p h k d l = let a = h w (omega arith) in let c = k w (omega arith) in omega arith

-- ---- size_breaks: z is the size that was computed
pub size_fits : (b : List ℕ) (k : ℕ) → size_breaks b k ≡ false → row_size (table b) k ≤ 1024
size_fits b k e = (size_exact b k).0 e

pub size-over : (b : List ℕ) (r z : ℕ) → z ≡ row_size (table b) r → 1024 < z → size_breaks b r ≡ true
unfolding size_breaks
size-over b r z e h = lt-ltb 1024 (row_size (table b) r) (omega arith)

pub size-within : (b : List ℕ) (r z : ℕ) → z ≡ row_size (table b) r → z ≤ 1024 → size_breaks b r ≡ false
unfolding size_breaks
size-within b r z e h = le-ltb 1024 (row_size (table b) r) (omega arith)

-- ---- Filled: s has 1,024 entries, and holds the sizes of the rows before row r
pub record Filled (b s : List ℕ) (r : ℕ) : Type 0 where
  pub sizes : Sizes b s r
  pub long : length s ≡ 1024

pub filled_none : (b : List ℕ) → Filled b (replicate 1024 0) 0
filled_none b = record { sizes = below_none _; long = length-replicate {A = ℕ} 1024 0 }

-- the size z of row r is stored at w
pub filled_more : (b s : List ℕ) (r w z : ℕ) → Filled b s r → w ≡ r → r < 1024 → z ≡ row_size (table b) r → Filled b (set s w z) (r + 1)
filled_more b s r w z f d h e =
    let l = f.long in
    record {
      sizes = below_more (λ k. get_or (set s w z) k 0 ≡ row_size (table b) k) r
          (λ k m. get_or-set_other s w k z 0 (λ x. omega arith) ∙ f.sizes k m)
          (ap (λ k. get_or (set s w z) k 0) (sym d) ∙ get_or-set_same s w z 0 (omega arith) ∙ e);
      long = length-set s w z ∙ l;
    }
