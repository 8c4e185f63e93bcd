-- Where a book's words lie. Document 01: "a header of counts and offsets, then four sections without gaps"; "Row: kind, tag, first,
-- count. Party: name, first, count. Step: sender, receiver, first, count. Pool: row numbers." Document 02, [5]: "The party record gets a
-- fourth word, 1 may make, 0 may not"; "Steps now start at 8+4T+4Q and the longest book is 12,616 words." Widths, bounds and offsets stand here
-- and nowhere else. A word past the book's end is read as 0; no rule is asked there of a book that refusals 1 to 3 let pass.
use Rattle.std.specs.Prelude.{ℕ, zero, suc, ◌+◌, ◌*◌, List, [], ◌∷◌, get_or}
use Rattle.words.specs.Run.{run}
use Rattle.words.specs.Sum.{sum}
use Rattle.terms.specs.Table.{Table}

-- word k
abbrev pub at : List ℕ → ℕ → ℕ
at b k = get_or b k 0

-- ---- the header: for each section its count and its offset
abbrev pub header : ℕ
header = 8

-- the sections: 0 rows, 1 parties, 2 steps, 3 pool words. The words of a record, the least and the largest count
abbrev pub sections : ℕ
sections = 4

abbrev pub width : ℕ → ℕ
width i = get_or (4 ∷ 4 ∷ 4 ∷ 1 ∷ []) i 0

abbrev pub least : ℕ → ℕ
least i = get_or (1 ∷ 1 ∷ 0 ∷ 0 ∷ []) i 0

abbrev pub most : ℕ → ℕ
most i = get_or (1024 ∷ 16 ∷ 64 ∷ 8192 ∷ []) i 0

-- the longest book, each section at its bound: "the longest book is 12,616 words". "It reads one word more than the longest book .. and no
-- further": the words that are loaded of a book, however long it is, and their bytes
abbrev pub longest : ℕ
longest = header + width 0 * most 0 + width 1 * most 1 + width 2 * most 2 + width 3 * most 3

abbrev pub loaded : ℕ
loaded = longest + 1

abbrev pub loaded_bytes : ℕ
loaded_bytes = 4 * loaded

-- what the header says of section i: how many records, and where they begin
abbrev pub counted : List ℕ → ℕ → ℕ
counted b i = at b (2 * i)

abbrev pub begins : List ℕ → ℕ → ℕ
begins b i = at b (2 * i + 1)

-- where section i has to begin; behind the last section, the book's length
unfoldable pub offset : List ℕ → ℕ → ℕ
offset b zero = header
offset b (suc i) = offset b i + width i * counted b i

abbrev pub rows : List ℕ → ℕ
rows b = counted b 0

abbrev pub parties : List ℕ → ℕ
parties b = counted b 1

abbrev pub steps : List ℕ → ℕ
steps b = counted b 2

abbrev pub pool : List ℕ → ℕ
pool b = counted b 3

-- ---- the records: word k of record r of section i
abbrev pub field : List ℕ → ℕ → ℕ → ℕ → ℕ
field b i r k = at b (begins b i + width i * r + k)

abbrev pub kind : List ℕ → ℕ → ℕ
kind b r = field b 0 r 0

abbrev pub tag : List ℕ → ℕ → ℕ
tag b r = field b 0 r 1

abbrev pub row_first : List ℕ → ℕ → ℕ
row_first b r = field b 0 r 2

abbrev pub row_count : List ℕ → ℕ → ℕ
row_count b r = field b 0 r 3

abbrev pub name : List ℕ → ℕ → ℕ
name b p = field b 1 p 0

abbrev pub party_first : List ℕ → ℕ → ℕ
party_first b p = field b 1 p 1

abbrev pub party_count : List ℕ → ℕ → ℕ
party_count b p = field b 1 p 2

abbrev pub mark : List ℕ → ℕ → ℕ
mark b p = field b 1 p 3

abbrev pub sender : List ℕ → ℕ → ℕ
sender b s = field b 2 s 0

abbrev pub receiver : List ℕ → ℕ → ℕ
receiver b s = field b 2 s 1

abbrev pub step_first : List ℕ → ℕ → ℕ
step_first b s = field b 2 s 2

abbrev pub step_count : List ℕ → ℕ → ℕ
step_count b s = field b 2 s 3

-- ---- the lists in the pool
-- word j of the list that begins at `first`, and n words of it
abbrev pub pooled : List ℕ → ℕ → ℕ → ℕ
pooled b f j = at b (begins b 3 + f + j)

abbrev pub list_at : List ℕ → ℕ → ℕ → List ℕ
list_at b f n = run b (begins b 3 + f) n

abbrev pub parts : List ℕ → ℕ → List ℕ
parts b r = list_at b (row_first b r) (row_count b r)

abbrev pub known : List ℕ → ℕ → List ℕ
known b p = list_at b (party_first b p) (party_count b p)

abbrev pub messages : List ℕ → ℕ → List ℕ
messages b s = list_at b (step_first b s) (step_count b s)

-- "The lists of all rows, then all parties, then all steps lie in it one after another, so each first is the sum of the counts
-- before it": the counts before a row, a party, a step
abbrev pub rows_before : List ℕ → ℕ → ℕ
rows_before b r = sum (row_count b) r

abbrev pub parties_before : List ℕ → ℕ → ℕ
parties_before b p = rows_before b (rows b) + sum (party_count b) p

abbrev pub steps_before : List ℕ → ℕ → ℕ
steps_before b s = parties_before b (parties b) + sum (step_count b) s

-- ---- the book's table of rows
unfoldable pub table : List ℕ → Table
table b r = record { kind = kind b r; tag = tag b r; parts = parts b r }
