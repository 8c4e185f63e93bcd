-- Who knew what, when. Document 02, [4]: "Keep a summary of 3+QT words: Q, T, L, then for each party and row 0 if given at the start,
-- s+1 if first in the dictionary after step s, L+1 if never. The question, for any party, row and step t, is answered from the summary
-- alone: yes exactly if the word is at most t+1." "Writing it for a refused book gives the book's refusal; any other length is refusal
-- 20; then a question out of range is 21."
use Rattle.std.specs.Prelude.{ℕ, ◌+◌, ◌*◌, ◌≤◌, ◌<◌, Bool, true, false, List, [], ◌∷◌, ◌++◌, ◌≡◌, length, get_or, ltb, leb, eqb}
use Rattle.words.specs.Choice.{pick}
use Rattle.words.specs.First.{first}
use Rattle.words.specs.Run.{values}
use Rattle.terms.specs.Table.{term}
use Rattle.book.specs.Layout.{table, rows, parties, steps}
use Rattle.book.specs.Said.{Said, said}
use Rattle.book.specs.Refusals.{Line, line, first_of, reading_table}
use Rattle.translation.specs.Dictionary.{is_held}
use Rattle.translation.specs.Narration.{narration}
use Rattle.translation.specs.Taken.{joined, holds_before}
use Rattle.translation.specs.Outcome.{Outcome, stop_line, room_line, laid}
pub mod Question

-- ---- the full walk
-- party p has row r in its dictionary after the first k steps: held, and not merely buildable
unfoldable pub holds : List ℕ → ℕ → ℕ → ℕ → Bool
holds b p r k = is_held (holds_before (narration b) p k (term (table b) r))

-- ---- the summary
-- the fewest steps after which party p holds row r: 0 if it is given at the start, s + 1 if it is first held after step s; one more than
-- all steps if it never is
unfoldable pub held_from : List ℕ → ℕ → ℕ → ℕ
held_from b p r = first (holds b p r) (steps b + 1)

-- "3+QT words"
abbrev pub summary_words : List ℕ → ℕ
summary_words b = 3 + parties b * rows b

-- the words of party p, and those of the first q parties
abbrev pub held_words : List ℕ → ℕ → List ℕ
held_words b p = values (held_from b p) 0 (rows b)

abbrev pub held_to : List ℕ → ℕ → List ℕ
held_to b q = joined (values (held_words b) 0 q)

-- "Q, T, L, then for each party and row"
unfoldable pub summary : List ℕ → List ℕ
summary b = parties b ∷ rows b ∷ steps b ∷ held_to b (parties b)

-- the book's refusal, and 12 is the last
unfoldable pub summary_says : List ℕ → List ℕ → Said
summary_says b out =
    first_of (reading_table b ++ stop_line b ∷ room_line (length out) (summary_words b) ∷ []) (said 0 (summary_words b ∷ []))

-- of the words b and the lent words out
unfoldable pub summarized : List ℕ → List ℕ → Outcome
summarized b out = laid (summary_says b out) out (summary b)

-- ---- the question
-- the three words before the parties' rows: Q, T and L, if the words s are a summary
abbrev pub front : ℕ
front = 3

-- "any other length is refusal 20": fewer than three words, or other than 3+QT by the words themselves. It carries the length.
unfoldable pub misfits : List ℕ → Bool
misfits s = pick (ltb (length s) front) true (pick (eqb (length s) (front + get_or s 0 0 * get_or s 1 0)) false true)

unfoldable pub length_line : List ℕ → Line
length_line s = line 20 1 (λ i. misfits s) (λ i. length s ∷ [])

-- "then a question out of range is 21": a party is below Q, a row below T, a step below L. It carries the first that isn't.
unfoldable pub question_line : List ℕ → List ℕ → Line
question_line s q = line 21 3 (λ i. leb (get_or s i 0) (get_or q i 0)) (λ i. get_or q i 0 ∷ [])

-- the word of party p and row r
abbrev pub word_at : List ℕ → ℕ → ℕ → ℕ
word_at s p r = get_or s (front + p * get_or s 1 0 + r) 0

-- "yes exactly if the word is at most t+1": 1 is yes, and 0 is no
unfoldable pub answered : List ℕ → ℕ → ℕ → ℕ → ℕ
answered s p r t = pick (leb (word_at s p r) (t + 1)) 1 0

-- of the words s: did party p hold row r after step t?
unfoldable pub asked : List ℕ → ℕ → ℕ → ℕ → Said
asked s p r t = first_of (length_line s ∷ question_line s (p ∷ r ∷ t ∷ []) ∷ []) (said 0 (answered s p r t ∷ []))

-- ---- what is said of a question
-- the words s are as many as their first two words ask for
abbrev pub Fits : List ℕ → Type 0
Fits s = length s ≡ front + get_or s 0 0 * get_or s 1 0

-- each number of the question is below its count
abbrev pub InRange : List ℕ → ℕ → ℕ → ℕ → Type 0
InRange s p r t = (p < get_or s 0 0) × (r < get_or s 1 0) × (t < get_or s 2 0)

-- refusal 21 is due with the values vs: the first of party, row and step that is not below its count
pub data OutOfRange (s : List ℕ) (p r t : ℕ) (vs : List ℕ) : Type 0 where
  party : get_or s 0 0 ≤ p → vs ≡ p ∷ [] → OutOfRange s p r t vs
  row : p < get_or s 0 0 → get_or s 1 0 ≤ r → vs ≡ r ∷ [] → OutOfRange s p r t vs
  step : p < get_or s 0 0 → r < get_or s 1 0 → get_or s 2 0 ≤ t → vs ≡ t ∷ [] → OutOfRange s p r t vs
