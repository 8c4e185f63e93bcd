-- The table of refusals 1 to 9, line after line: what the reader says where a line applies, and what it knows behind one that doesn't.
-- Each line's scan found the smallest place that breaks the rule, or none. Assumes nothing.
use Rattle.std.proofs.Common.{◌≡◌, ℕ, ◌+◌, ◌*◌, ◌≤◌, ◌<◌, min, Bool, List, [], ◌∷◌, Some, None, length, drop, ltb, refl, sym, ap, ◌∙◌, arith, lt-ltb, le-ltb}
use Rattle.words.specs.First.Laws.{first-fails, first-at, first-end}
use Rattle.book.specs.Layout.{header, sections, rows, parties, steps, pool, steps_before}
use Rattle.book.specs.Rules.{CountRule, count_breaks, offset_breaks, row_breaks, size_breaks, repeats, party_breaks, step_breaks, total_breaks}
use Rattle.book.specs.Rules.Laws.{count-exact, offset-exact, differs-same, differs_true, row-exact}
use Rattle.book.specs.Headed.{Headed}
use Rattle.book.specs.Headed.Laws.{rules-headed}
use Rattle.book.specs.Said.{Said, said, accepted}
use Rattle.book.specs.Refusals.{Line, line, here, zero_place, first_of, reading_table, verdict}
use Rattle.book.specs.Refusals.Laws.{first_of-none, scan-here, scan-on}
use Rattle.header.specs.Counted.{Counted}
use Rattle.header.specs.Scans.{Found}
use Rattle.header.specs.Scans.Laws.{passed_none}
use Rattle.rows.specs.Scanned.{RowsKeep}

-- what the table says from line i + 1 on
abbrev pub from : List ℕ → ℕ → Said
from b i = first_of (drop i (reading_table b)) accepted

-- ---- a line with one number: its scan found place k, or none
module _ (n m : ℕ) (t : ℕ → Bool) (f : ℕ → List ℕ) (ls : List Line) where
  line-says : (k : ℕ) → Found t m (Some k) → said n (f k) ≡ first_of (line n m t f ∷ ls) accepted
  line-says k e = sym (scan-here n m t f ls accepted k e.0 e.1)

  line-passes : Found t m None → first_of (line n m t f ∷ ls) accepted ≡ first_of ls accepted
  line-passes e = scan-on n m t f ls accepted m e (omega arith)

module _ (b : List ℕ) where
  -- ---- lines 1 to 3
  pub says-short : length b < header → said 1 (0 ∷ []) ≡ verdict b
  unfolding verdict reading_table
  says-short l =
      line-says 1 1 (λ i. ltb (length b) header) zero_place _ 0
      (first-at _ 1 0 (omega arith) (passed_none _) (lt-ltb (length b) header l), omega arith)

  module _ (l : header ≤ length b) where
    past-length : verdict b ≡ from b 1
    unfolding verdict reading_table
    past-length =
        line-passes 1 1 (λ i. ltb (length b) header) zero_place _ (first-end _ 1 1 refl (λ k h. le-ltb (length b) header l))

    pub says-count : (c : ℕ) → Found (count_breaks b) sections (Some c) → said 2 (2 * c ∷ []) ≡ verdict b
    unfolding reading_table
    says-count c e = line-says 2 sections (count_breaks b) (λ i. here (2 * i)) _ c e ∙ sym past-length

    -- the counts are within their bounds
    module _ (few : Found (count_breaks b) sections None) where
      kept : (i : ℕ) → i < sections → CountRule b i
      kept i h = (count-exact b i).0 (first-fails (count_breaks b) sections i (omega arith))

      pub counts-kept : Counted b
      counts-kept i h = (kept i h).high

      past-counts : verdict b ≡ from b 2
      unfolding reading_table
      past-counts = past-length ∙ line-passes 2 sections (count_breaks b) (λ i. here (2 * i)) _ few

      pub says-offset : (o : ℕ) → Found (offset_breaks b) (sections + 1) (Some o) → (w : ℕ) → w ≡ min (2 * o + 1) header
          → said 3 (w ∷ []) ≡ verdict b
      unfolding reading_table
      says-offset o e w d =
          let place : w ≡ min header (2 * o + 1) = omega arith in
          ap (λ x. said 3 (x ∷ [])) place
          ∙ line-says 3 (sections + 1) (offset_breaks b) (λ i. here (min header (2 * i + 1))) _ o e ∙ sym past-counts

      -- the header is in order
      module _ (placed : Found (offset_breaks b) (sections + 1) None) where
        pub header-kept : Headed b
        header-kept =
            rules-headed b kept (λ i h. (offset-exact b i).0 (first-fails (offset_breaks b) (sections + 1) i (omega arith)))

        pub says-body : (v : Said) → v ≡ from b 3 → v ≡ verdict b
        unfolding reading_table
        says-body v e =
            e ∙ sym (past-counts ∙ line-passes 3 (sections + 1) (offset_breaks b) (λ i. here (min header (2 * i + 1))) _ placed)

  -- ---- lines 4 to 6
  pub says_row : (r : ℕ) → Found (row_breaks b) (rows b) (Some r) → said 4 (r ∷ []) ≡ from b 3
  unfolding reading_table
  says_row = line-says 4 (rows b) (row_breaks b) here _

  -- all rows keep their rules
  module _ (e : Found (row_breaks b) (rows b) None) where
    pub rows-kept : RowsKeep b
    rows-kept k h = (row-exact b k).0 (first-fails (row_breaks b) (rows b) k (omega arith))

    past-rows : from b 3 ≡ from b 4
    unfolding reading_table
    past-rows = line-passes 4 (rows b) (row_breaks b) here _ e

    pub says-size : (z : ℕ) → Found (size_breaks b) (rows b) (Some z) → said 5 (z ∷ []) ≡ from b 3
    unfolding reading_table
    says-size z d = line-says 5 (rows b) (size_breaks b) here _ z d ∙ sym past-rows

    module _ (d : Found (size_breaks b) (rows b) None) where
      past-sizes : from b 3 ≡ from b 5
      unfolding reading_table
      past-sizes = past-rows ∙ line-passes 5 (rows b) (size_breaks b) here _ d

      pub says-repeat : (a : ℕ) → Found (repeats b) (rows b) (Some a) → said 6 (a ∷ []) ≡ from b 3
      unfolding reading_table
      says-repeat a c = line-says 6 (rows b) (repeats b) here _ a c ∙ sym past-sizes

      pub says-rest : Found (repeats b) (rows b) None → (v : Said) → v ≡ from b 6 → v ≡ from b 3
      unfolding reading_table
      says-rest c v h = h ∙ sym (past-sizes ∙ line-passes 6 (rows b) (repeats b) here _ c)

  -- ---- lines 7 to 9: z is the sum of all counts
  pub says-party : (p : ℕ) → Found (party_breaks b) (parties b) (Some p) → said 7 (p ∷ []) ≡ from b 6
  unfolding reading_table
  says-party = line-says 7 (parties b) (party_breaks b) here _

  module _ (e : Found (party_breaks b) (parties b) None) where
    past-parties : from b 6 ≡ from b 7
    unfolding reading_table
    past-parties = line-passes 7 (parties b) (party_breaks b) here _ e

    pub says-step : (s : ℕ) → Found (step_breaks b) (steps b) (Some s) → said 8 (s ∷ []) ≡ from b 6
    unfolding reading_table
    says-step s d = line-says 8 (steps b) (step_breaks b) here _ s d ∙ sym past-parties

    module _ (d : Found (step_breaks b) (steps b) None) (z w : ℕ) (total : z ≡ steps_before b (steps b)) (dw : w ≡ pool b) where
      past-steps : from b 6 ≡ from b 8
      unfolding reading_table
      past-steps = past-parties ∙ line-passes 8 (steps b) (step_breaks b) here _ d

      pub says-sum : (z ≡ w → ⊥) → said 9 (0 ∷ []) ≡ from b 6
      unfolding reading_table total_breaks
      says-sum n =
          let wrong = differs_true _ _ (λ y. n (total ∙ y ∙ sym dw)) in
          line-says 9 1 (λ i. total_breaks b) zero_place [] 0 (first-at _ 1 0 (omega arith) (passed_none _) wrong, omega arith) ∙ sym past-steps

      pub says-accepted : z ≡ w → accepted ≡ from b 6
      unfolding reading_table total_breaks
      says-accepted y =
          let right = differs-same _ _ (sym total ∙ y ∙ dw) in
          sym (past-steps ∙ line-passes 9 1 (λ i. total_breaks b) zero_place [] (first-end _ 1 1 refl (λ k h. right)) ∙ first_of-none accepted)
