-- The rule of a row, a party and a step, and of the header's words: as predicates with named fields, and as tests that compute.
-- Document 01, "The book", and document 02, [5]. Rules.Laws has that each test and its predicate agree.
use Rattle.std.specs.Prelude.{ℕ, ◌+◌, ◌-◌, ◌≤◌, ◌<◌, Bool, true, false, not, ◌||◌, List, [], ◌∷◌, ◌≡◌, length, ltb, leb, eqb}
use Rattle.words.specs.Choice.{pick}
use Rattle.words.specs.First.{any}
use Rattle.words.specs.Run.{same_words}
use Rattle.terms.specs.Kind.{of_kind, last_kind}
use Rattle.terms.specs.Table.{row_size}
use Rattle.book.specs.Layout.{sections, least, most, counted, begins, offset, rows, parties, steps, pool, kind, tag, row_first, row_count, name, party_first, party_count, mark, sender, receiver, step_first, step_count, pooled, parts, rows_before, parties_before, steps_before, table}
pub mod Laws

-- ---- tests
-- one of the tests holds
unfoldable pub one_of : List Bool → Bool
one_of [] = false
one_of (t ∷ ts) = pick t true (one_of ts)

unfoldable pub outside : ℕ → ℕ → ℕ → Bool
outside lo hi x = ltb x lo || ltb hi x

unfoldable pub differs : ℕ → ℕ → Bool
differs x y = not (eqb x y)

-- ---- the header
-- "a count outside its bounds"
pub record CountRule (b : List ℕ) (i : ℕ) : Type 0 where
  pub low : least i ≤ counted b i
  pub high : counted b i ≤ most i

unfoldable pub count_breaks : List ℕ → ℕ → Bool
count_breaks b i = outside (least i) (most i) (counted b i)

-- "an offset or the total length differs": what stands where section i has to begin; behind the last, the length
unfoldable pub stated : List ℕ → ℕ → ℕ
stated b i = pick (ltb i sections) (begins b i) (length b)

abbrev pub OffsetRule : List ℕ → ℕ → Type 0
OffsetRule b i = stated b i ≡ offset b i

unfoldable pub offset_breaks : List ℕ → ℕ → Bool
offset_breaks b i = differs (stated b i) (offset b i)

-- ---- a list in the pool
-- of a row, a party or a step: `lo` to `hi` row numbers below `bound`, n of them from `first` on, with `before` words before them
pub record ListRule (b : List ℕ) (lo hi n first before bound : ℕ) : Type 0 where
  pub low : lo ≤ n
  pub high : n ≤ hi
  -- "each first is the sum of the counts before it (also where its own count is 0)"
  pub placed : first ≡ before
  -- "a list that leaves the pool"
  pub inside : first + n ≤ pool b
  pub each : (j : ℕ) → j < n → pooled b first j < bound

unfoldable pub list_breaks : List ℕ → ℕ → ℕ → ℕ → ℕ → ℕ → ℕ → Bool
list_breaks b lo hi n first before bound =
    one_of (outside lo hi n ∷ differs first before ∷ ltb (pool b) (first + n) ∷ any (λ j. leb bound (pooled b first j)) n ∷ [])

-- ---- a row
pub record RowRule (b : List ℕ) (r : ℕ) : Type 0 where
  pub kinded : kind b r ≤ last_kind
  pub tagged : tag b r ≤ (of_kind (kind b r)).tag
  -- "A row's parts are rows before it."
  pub listed : ListRule b (of_kind (kind b r)).fewest (of_kind (kind b r)).most (row_count b r) (row_first b r) (rows_before b r) r

unfoldable pub row_breaks : List ℕ → ℕ → Bool
row_breaks b r =
    one_of (ltb last_kind (kind b r) ∷ ltb (of_kind (kind b r)).tag (tag b r)
    ∷ list_breaks b (of_kind (kind b r)).fewest (of_kind (kind b r)).most (row_count b r) (row_first b r) (rows_before b r) r ∷ [])

-- "No size exceeds 1,024."
abbrev pub SizeRule : List ℕ → ℕ → Type 0
SizeRule b r = row_size (table b) r ≤ 1024

unfoldable pub size_breaks : List ℕ → ℕ → Bool
size_breaks b r = ltb 1024 (row_size (table b) r)

-- "Two rows that aren't atoms never agree in kind, tag and parts"
pub record Alike (b : List ℕ) (r k : ℕ) : Type 0 where
  pub kinds : kind b k ≡ kind b r
  pub tags : tag b k ≡ tag b r
  pub partss : parts b k ≡ parts b r

unfoldable pub alike : List ℕ → ℕ → ℕ → Bool
alike b r k =
    not (one_of (differs (kind b k) (kind b r) ∷ differs (tag b k) (tag b r) ∷ not (same_words (parts b k) (parts b r)) ∷ []))

abbrev pub SingleRule : List ℕ → ℕ → Type 0
SingleRule b r = (kind b r ≡ 0 → ⊥) → (k : ℕ) → k < r → Alike b r k → ⊥

-- "a row repeats an earlier one"
unfoldable pub repeats : List ℕ → ℕ → Bool
repeats b r = pick (eqb (kind b r) 0) false (any (alike b r) r)

-- ---- a party
pub record PartyRule (b : List ℕ) (p : ℕ) : Type 0 where
  -- "The name is an atom's row; a party that repeats an earlier party's name breaks the rule."
  pub named : name b p < rows b
  pub atomic : kind b (name b p) ≡ 0
  pub alone : (k : ℕ) → k < p → name b k ≡ name b p → ⊥
  -- "1 may make, 0 may not; anything else is refusal 7"
  pub marked : mark b p ≤ 1
  pub listed : ListRule b 0 256 (party_count b p) (party_first b p) (parties_before b p) (rows b)
  -- "the known rows stand in strictly increasing order"
  pub rising : (j : ℕ) → j < party_count b p - 1 → pooled b (party_first b p) j < pooled b (party_first b p) (j + 1)

unfoldable pub name_breaks : List ℕ → ℕ → Bool
name_breaks b p =
    one_of (leb (rows b) (name b p) ∷ differs (kind b (name b p)) 0 ∷ any (λ k. eqb (name b k) (name b p)) p ∷ [])

unfoldable pub party_breaks : List ℕ → ℕ → Bool
party_breaks b p =
    one_of (name_breaks b p ∷ ltb 1 (mark b p)
    ∷ list_breaks b 0 256 (party_count b p) (party_first b p) (parties_before b p) (rows b)
    ∷ any (λ j. leb (pooled b (party_first b p) (j + 1)) (pooled b (party_first b p) j)) (party_count b p - 1) ∷ [])

-- ---- a step
-- "Two different party numbers; 0 to 8 messages."
pub record StepRule (b : List ℕ) (s : ℕ) : Type 0 where
  pub sends : sender b s < parties b
  pub receives : receiver b s < parties b
  pub two : sender b s ≡ receiver b s → ⊥
  pub listed : ListRule b 0 8 (step_count b s) (step_first b s) (steps_before b s) (rows b)

unfoldable pub step_breaks : List ℕ → ℕ → Bool
step_breaks b s =
    one_of (leb (parties b) (sender b s) ∷ leb (parties b) (receiver b s) ∷ eqb (sender b s) (receiver b s)
    ∷ list_breaks b 0 8 (step_count b s) (step_first b s) (steps_before b s) (rows b) ∷ [])

-- ---- the pool
-- "the sum of all counts is W"
abbrev pub TotalRule : List ℕ → Type 0
TotalRule b = steps_before b (steps b) ≡ pool b

unfoldable pub total_breaks : List ℕ → Bool
total_breaks b = differs (steps_before b (steps b)) (pool b)
