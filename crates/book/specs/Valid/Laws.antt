-- The verdict accepts exactly the valid books; each refusal 1 to 9 is given exactly when document 01 says so, at that place; and a
-- valid book's rows form a table. Assumes nothing.
use Rattle.std.specs.Prelude.{ℕ, ◌+◌, ◌*◌, ◌≤◌, ◌<◌, min, ◌↔◌, ◌≡◌, length, ltb}
use mathlib.Core.List.{List, [], ◌∷◌, map}
use Rattle.std.proofs.Math.Path.{refl, ap}
use Rattle.std.proofs.Common.{sym, ◌∙◌, arith, ltb-false, le-ltb}
use Rattle.std.proofs.Math.Decide.{dec_lt}
use Rattle.words.specs.Run.{All}
use Rattle.words.specs.Run.Laws.{all-run, run_length}
use Rattle.terms.specs.Term.{Term, gathered}
use Rattle.terms.specs.Kind.{Shape}
use Rattle.terms.specs.Table.{Formed, form, term, terms}
use Rattle.terms.specs.Table.Laws.{kind_of, term-row, shape_row, kind_row, atom-row, term-injective}
use Rattle.book.specs.Layout.{header, sections, begins, rows, parties, steps, kind, tag, row_first, row_count, parts, table}
use Rattle.book.specs.Rules.{CountRule, count_breaks, OffsetRule, offset_breaks, RowRule, row_breaks, SizeRule, size_breaks, SingleRule, repeats, PartyRule, party_breaks, StepRule, step_breaks, TotalRule, total_breaks}
use Rattle.book.specs.Rules.Laws.{count-exact, offset-exact, row-exact, size_exact, single-exact, party-exact, step-exact, total-exact}
use Rattle.book.specs.Said.{Said, said, accepted, Reading, reading_says}
use Rattle.book.specs.Said.Laws.{reading-injective}
use Rattle.book.specs.Refusals.{Line, line, here, zero_place, first_of, reading_table, verdict}
use Rattle.book.specs.Ruled.{Ruled, AllKeep, lines, Cause, above, line_at}
use Rattle.book.specs.Refusals.Laws.{exact-line, all_keep, none-given}
use Rattle.book.specs.Valid.{Valid}

-- ---- the nine lines with their rules
module _ (b : List ℕ) where
  abbrev pub short_line : Ruled
  short_line = record {
    line = line 1 1 (λ i. ltb (length b) header) zero_place;
    rule = λ i. header ≤ length b;
    exact =
        λ i. (λ e. ltb-false _ _ e, λ h. le-ltb _ _ h);
  }

  abbrev pub count_line : Ruled
  count_line = record { line = line 2 sections (count_breaks b) (λ i. here (2 * i)); rule = CountRule b; exact = count-exact b }

  abbrev pub offset_line : Ruled
  offset_line = record { line = line 3 (sections + 1) (offset_breaks b) (λ i. here (min header (2 * i + 1))); rule = OffsetRule b; exact = offset-exact b }

  abbrev pub row_line : Ruled
  row_line = record { line = line 4 (rows b) (row_breaks b) here; rule = RowRule b; exact = row-exact b }

  abbrev pub size_line : Ruled
  size_line = record { line = line 5 (rows b) (size_breaks b) here; rule = SizeRule b; exact = size_exact b }

  abbrev pub repeat_line : Ruled
  repeat_line = record { line = line 6 (rows b) (repeats b) here; rule = SingleRule b; exact = single-exact b }

  abbrev pub party_line : Ruled
  party_line = record { line = line 7 (parties b) (party_breaks b) here; rule = PartyRule b; exact = party-exact b }

  abbrev pub step_line : Ruled
  step_line = record { line = line 8 (steps b) (step_breaks b) here; rule = StepRule b; exact = step-exact b }

  abbrev pub sum_line : Ruled
  sum_line = record { line = line 9 1 (λ i. total_breaks b) zero_place; rule = λ i. TotalRule b; exact = λ i. total-exact b }

  abbrev pub nine : List Ruled
  nine = short_line ∷ count_line ∷ offset_line ∷ row_line ∷ size_line ∷ repeat_line ∷ party_line ∷ step_line ∷ sum_line ∷ []

  pub reading-lines : reading_table b ≡ lines nine
  unfolding reading_table
  reading-lines = refl

  -- ---- accepted ⇔ Valid
  pub keep-valid : AllKeep nine → Valid b
  keep-valid k =
      record {
        long = k.0 0 (omega arith);
        counts = k.1.0;
        offsets = k.1.1.0;
        rows_keep = k.1.1.1.0;
        sizes_keep = k.1.1.1.1.0;
        single = k.1.1.1.1.1.0;
        parties_keep = k.1.1.1.1.1.1.0;
        steps_keep = k.1.1.1.1.1.1.1.0;
        total = k.1.1.1.1.1.1.1.1.0 0 (omega arith);
      }

  pub valid-keep : Valid b → AllKeep nine
  valid-keep v = (
    λ i h. v.long,
    (
      v.counts,
      (
        v.offsets,
        (
          v.rows_keep,
          (v.sizes_keep, (v.single, (v.parties_keep, (v.steps_keep, (λ i h. v.total, tt))))),
        ),
      ),
    ),
  )

  pub accepted-valid : (verdict b ≡ accepted) ↔ Valid b
  unfolding verdict reading_table first_of
  accepted-valid =
      (λ e. keep-valid (none-given nine accepted (omega arith) (ap (λ (s : Said). s.number) e)), λ v. all_keep nine [] accepted (valid-keep v))

  -- ---- given exactly when: refusal i + 1, with the lines above it kept, at the smallest place that breaks its rule
  pub exactly : (i : ℕ) → i < 9 → (vs : List ℕ) → (verdict b ≡ said (1 + i) vs) ↔ (AllKeep (above i nine) × Cause (line_at i nine short_line) vs)
  unfolding verdict
  exactly i h vs =
      let r = exact-line 1 nine short_line accepted (omega arith) i h (λ z. absurd (omega arith)) vs in
      let t = ap (λ (ls : List Line). first_of ls accepted) reading-lines in
      (λ e. r.0 (sym t ∙ e), λ c. t ∙ r.1 c)

  pub exactly-1 : (vs : List ℕ) → (verdict b ≡ said 1 vs) ↔ (AllKeep [] × Cause short_line vs)
  exactly-1 = exactly 0 (omega arith)

  pub exactly-2 : (vs : List ℕ) → (verdict b ≡ said 2 vs) ↔ (AllKeep (short_line ∷ []) × Cause count_line vs)
  exactly-2 = exactly 1 (omega arith)

  pub exactly-3 : (vs : List ℕ) → (verdict b ≡ said 3 vs) ↔ (AllKeep (short_line ∷ count_line ∷ []) × Cause offset_line vs)
  exactly-3 = exactly 2 (omega arith)

  pub exactly-4 : (vs : List ℕ) → (verdict b ≡ said 4 vs) ↔ (AllKeep (short_line ∷ count_line ∷ offset_line ∷ []) × Cause row_line vs)
  exactly-4 = exactly 3 (omega arith)

  pub exactly-5 : (vs : List ℕ) → (verdict b ≡ said 5 vs)
      ↔ (AllKeep (short_line ∷ count_line ∷ offset_line ∷ row_line ∷ []) × Cause size_line vs)
  exactly-5 = exactly 4 (omega arith)

  pub exactly-6 : (vs : List ℕ) → (verdict b ≡ said 6 vs)
      ↔ (AllKeep (short_line ∷ count_line ∷ offset_line ∷ row_line ∷ size_line ∷ []) × Cause repeat_line vs)
  exactly-6 = exactly 5 (omega arith)

  pub exactly-7 : (vs : List ℕ) → (verdict b ≡ said 7 vs)
      ↔ (AllKeep (short_line ∷ count_line ∷ offset_line ∷ row_line ∷ size_line ∷ repeat_line ∷ []) × Cause party_line vs)
  exactly-7 = exactly 6 (omega arith)

  pub exactly-8 : (vs : List ℕ) → (verdict b ≡ said 8 vs)
      ↔ (AllKeep (short_line ∷ count_line ∷ offset_line ∷ row_line ∷ size_line ∷ repeat_line ∷ party_line ∷ []) × Cause step_line vs)
  exactly-8 = exactly 7 (omega arith)

  pub exactly-9 : (vs : List ℕ) → (verdict b ≡ said 9 vs)
      ↔ (AllKeep (short_line ∷ count_line ∷ offset_line ∷ row_line ∷ size_line ∷ repeat_line ∷ party_line ∷ step_line ∷ [])
      × Cause sum_line vs)
  exactly-9 = exactly 8 (omega arith)

-- ---- what a reader returns is unique: no two readings say the verdict
pub read_one : (b : List ℕ) (r s : Reading) → reading_says r ≡ verdict b → reading_says s ≡ verdict b → r ≡ s
read_one b r s e f = reading-injective r s (e ∙ sym f)

-- ---- a valid book's rows form a table
module _ (b : List ℕ) (v : Valid b) where
  pub row_before : (r : ℕ) → r < rows b → All (λ p. p < r) (parts b r)
  row_before r l = all-run (λ p. p < r) b (begins b 3 + row_first b r) (row_count b r) (v.rows_keep r l).listed.each

  apart-rows : (r s : ℕ) → r < rows b → s < rows b → (kind b r ≡ 0 → ⊥) → kind b r ≡ kind b s → tag b r ≡ tag b s → parts b r
      ≡ parts b s → r ≡ s
  apart-rows r s l m n k g p =
      elim (dec_lt r s) [
        | yes h ↦ absurd (v.single s m (λ z. n (k ∙ z)) r h (record { kinds = k; tags = g; partss = p }))
        | no h ↦ elim (dec_lt s r) [
          | yes j ↦ absurd (v.single r l n s j (record { kinds = sym k; tags = sym g; partss = sym p }))
          | no j ↦ omega arith
        ]
      ]

  pub formed : Formed (rows b) (table b)
  unfolding table
  formed =
      record {
        kinds = λ r l. (v.rows_keep r l).kinded;
        tags = λ r l. (v.rows_keep r l).tagged;
        shapes = λ r l. (let o = v.rows_keep r l in rw (run_length b (begins b 3 + row_first b r) (row_count b r))
            (record { low = o.listed.low; high = o.listed.high }));
        before = row_before;
        single = apart-rows;
      }

  -- "so equal terms have equal row numbers, which is to be proved"
  pub equal-terms : (r s : ℕ) → r < rows b → s < rows b → term (table b) r ≡ term (table b) s → r ≡ s
  equal-terms = term-injective (rows b) (table b) formed

  -- a row's term, and what the row says of it
  module _ (r : ℕ) (l : r < rows b) where
    pub row-form : term (table b) r ≡ form r (kind b r) (tag b r) (gathered (map (term (table b)) (parts b r)))
    unfolding terms table
    row-form = term-row (rows b) (table b) formed r l

    pub row-shape : Shape (kind b r) (length (map (term (table b)) (parts b r)))
    unfolding table
    row-shape = shape_row (rows b) (table b) formed r l

    pub row-kind : kind_of (term (table b) r) ≡ kind b r
    unfolding table
    row-kind = kind_row (rows b) (table b) formed r l

    pub row-atom : kind b r ≡ 0 → term (table b) r ≡ Term.atom r
    unfolding table
    row-atom e = atom-row (rows b) (table b) formed r l e
