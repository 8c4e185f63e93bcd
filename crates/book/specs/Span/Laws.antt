-- Laws of spans. Assumes nothing.
use Rattle.std.specs.Prelude.{ℕ, ◌+◌, ◌-◌, ◌≤◌, ◌<◌, List, [], ◌∷◌, ◌≡◌, refl}
use Rattle.std.proofs.Common.{ap, ◌∙◌, arith}
use Rattle.words.specs.Run.{run}
use Rattle.words.specs.Run.Laws.{run_none, run_more, all-run}
use Rattle.terms.specs.Table.{terms}
use Rattle.book.specs.Layout.{at, begins, rows, steps, pool, kind, row_first, row_count, step_first, step_count, list_at, pooled, messages, table}
use Rattle.book.specs.Kinds.Laws.{most-few, some-parts}
use Rattle.book.specs.Valid.{Valid}
use Rattle.book.specs.Valid.Laws.{row_before}
use Rattle.book.specs.Span.{entry, Span}

pub list-none : (b : List ℕ) (f n : ℕ) → n ≤ 0 → list_at b f n ≡ []
list-none b f n h = run_none b (begins b 3 + f) n h

pub list-more : (b : List ℕ) (f n : ℕ) → 0 < n → list_at b f n ≡ entry b f ∷ list_at b (f + 1) (n - 1)
list-more b f n h =
    let z : begins b 3 + f ≡ begins b 3 + f + 0 = omega arith in
    let y : begins b 3 + f + 1 ≡ begins b 3 + (f + 1) = omega arith in
    run_more b (begins b 3 + f) n h ∙ ap (λ k. at b k ∷ run b (begins b 3 + f + 1) (n - 1)) z ∙ ap (λ k. entry b f ∷ run b k (n - 1)) y

module _ (b : List ℕ) (v : Valid b) (f n : ℕ) where
  -- a row's parts
  pub span-row : (r : ℕ) → r < rows b → f ≡ row_first b r → n ≡ row_count b r → Span b r f n
  span-row r h p q =
      let o = (v.rows_keep r h).listed in
      rw (p, q) (record { inside = o.inside; below = row_before b v r h; few = (let h = o.high in let m = most-few (kind b r) in omega arith) })

  -- a step's messages
  pub span-step : (s : ℕ) → s < steps b → f ≡ step_first b s → n ≡ step_count b s → Span b (rows b) f n
  span-step s h p q =
      let o = (v.steps_keep s h).listed in
      let m = o.high in
      rw (p, q) (record { inside = o.inside; below = all-run (λ x. x < rows b) b (begins b 3 + step_first b s) (step_count b s) o.each; few = omega arith })

module _ (b : List ℕ) (d f n : ℕ) (s : Span b d f n) (h : 0 < n) where
  pub span_head : entry b f < d
  span_head = let g = rw (list-more b f n h) at s.below in g.0

  pub span_tail : Span b d (f + 1) (n - 1)
  span_tail =
      let g = rw (list-more b f n h) at s.below in
      let l = s.inside in
      let k = s.few in
      record { inside = omega arith; below = g.1; few = omega arith }

  pub span-index : f + 0 < pool b
  span-index = let l = s.inside in omega arith

-- the rest of a list that is not at its end, as a test of the count says it
pub span_rest : (b : List ℕ) (d f n : ℕ) → Span b d f n → (n ≡ 0 → ⊥) → Span b d (f + 1) (n - 1)
span_rest b d f n s z = span_tail b d f n s (omega arith)

-- a step's messages, where code has read that they stand
pub messages-at : (b : List ℕ) (s f n : ℕ) → f ≡ step_first b s → n ≡ step_count b s → terms (table b) (list_at b f n)
    ≡ terms (table b) (messages b s)
messages-at b s f n df dn = rw (df, dn)

-- ---- a row's first part: a cipher's key, a half's part
module _ (b : List ℕ) (v : Valid b) where
  pub some-part : (r : ℕ) → r < rows b → 2 ≤ kind b r → 0 < row_count b r
  some-part r h k = let l = (v.rows_keep r h).listed.low in let s = some-parts (kind b r) k in omega arith

  pub part_low : (r : ℕ) → r < rows b → 2 ≤ kind b r → entry b (row_first b r) < r
  part_low r h k = span_head b r (row_first b r) (row_count b r) (span-row b v _ _ r h refl refl) (some-part r h k)

module _ {b : List ℕ} (v : Valid b) {r f : ℕ} (h : r < rows b) (k : 2 ≤ kind b r) (d : f ≡ row_first b r) where
  pub part-index : f + 0 < pool b
  part-index = span-index b r f (row_count b r) (span-row b v f (row_count b r) r h d refl) (some-part b v r h k)

  pub part_at : {p : ℕ} → p ≡ pooled b f 0 → (p ≡ entry b (row_first b r)) × (p < r)
  part_at {p} e =
      let l = part_low b v r h k in
      let z : p ≡ entry b (row_first b r) = e ∙ ap (entry b) d in
      (z, omega arith)
