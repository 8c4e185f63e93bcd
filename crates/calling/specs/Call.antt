-- What the program prints of a call: the line of what the function answers, picked by its number. The numbers stand in docs/CALLS.md.
use Rattle.std.specs.Prelude.{ℕ, ◌≤◌, List, [], ◌≡◌, eqb, ltb, get_or}
use Rattle.words.specs.Choice.{pick}
use Rattle.octets.specs.Octets.{words_in}
use Rattle.functions.specs.Functions.{on_bytes, asks, judges}
use Rattle.book.specs.Said.{Said}
use Rattle.book.specs.Refusals.{verdict}
use Rattle.translation.specs.Outcome.{Outcome, acceptance, outcome}
use Rattle.playing.specs.Rehearsal.{rehearsal}
use Rattle.renaming.specs.Verdict.{judged}
use Rattle.summary.specs.Summary.{summarized, asked}
use Rattle.typing.specs.Apart.{keeps_apart}
use Rattle.typing.specs.Derivation.{verdict as verdict_of}
use Rattle.editor.specs.Bytes.{translation_bytes, rehearsal_bytes, summary_bytes, asked_bytes, judged_bytes}
use Rattle.examining.specs.Checked.{verdict_said, checked_said, apart_said, apart_asked}
use Rattle.line.specs.Line.{reading_line, line_of}
use Rattle.telling.specs.Reply.{reply_line}
use Rattle.telling.specs.Judgement.{judgement_line}
use Rattle.telling.specs.Found.{found_line}
pub mod Laws
pub mod Numbers

-- without an output: 1 `read` and 2 `accept` of a book
unfoldable pub verdict_line : ℕ → List ℕ → List ℕ
verdict_line f a = pick (eqb f 1) (reading_line (verdict a)) (pick (eqb f 2) (reading_line (acceptance a)) [])

-- on words, of the slices in the order of the function's parameters: those, 3 `translate` of a book and lent words, 4 `rehearse` of a book,
-- a schedule and lent words, 7 `write_summary` of a book and lent words
unfoldable pub words_line : ℕ → List ℕ → List ℕ → List ℕ → List ℕ
words_line f a b c =
    pick (ltb f 3) (verdict_line f a)
    (pick (eqb f 3) (line_of (outcome a b))
    (pick (eqb f 4) (line_of (rehearsal a b c))
    (pick (eqb f 7) (line_of (summarized a b)) [])))

-- the numbers that have a line here
abbrev pub OnWords : ℕ → Type 0
OnWords f = (1 ≤ f) × (f ≤ 7) × (f ≡ 5 → ⊥) × (f ≡ 6 → ⊥)

-- of an outcome on bytes: the output's words are those that the lent bytes make
abbrev pub in_words : Outcome → Outcome
in_words o = record { says = o.says; lent = words_in o.lent }

-- on bytes: 5 `nghiralum_translate`, 6 `nghiralum_rehearse`, 9 `nghiralum_summary`
unfoldable pub bytes_line : ℕ → List ℕ → List ℕ → List ℕ → List ℕ
bytes_line f a b c =
    pick (eqb f 5) (line_of (in_words (translation_bytes a b)))
    (pick (eqb f 6) (line_of (in_words (rehearsal_bytes a b c)))
    (pick (eqb f 9) (line_of (in_words (summary_bytes a b))) []))

abbrev pub OnBytes : ℕ → Type 0
OnBytes f = (5 ≤ f) × (f ≤ 9) × (f ≡ 7 → ⊥) × (f ≡ 8 → ⊥)

-- number i of those that stand behind the slices, a word each
abbrev pub number : List ℕ → ℕ → ℕ
number bs i = get_or (words_in bs) i 0

-- of a question about the summary a: its party, row and step are the numbers that the bytes b make, in this order
abbrev pub question : (List ℕ → ℕ → ℕ → ℕ → Said) → List ℕ → List ℕ → Said
question answer a b = answer a (number b 0) (number b 1) (number b 2)

-- of questions: 8 `ask`, 10 `nghiralum_ask`
unfoldable pub question_line : ℕ → List ℕ → List ℕ → List ℕ
question_line f a b =
    pick (eqb f 8) (reply_line (question asked (words_in a) b)) (pick (eqb f 10) (reply_line (question asked_bytes a b)) [])

-- of a listing b that is judged against the book a, of the party whose number the bytes c make: 11 `judge`, 12 `nghiralum_judge`
unfoldable pub judge_line : ℕ → List ℕ → List ℕ → List ℕ → List ℕ
judge_line f a b c =
    pick (eqb f 11) (judgement_line (judged (words_in a) (number c 0) (words_in b)))
    (pick (eqb f 12) (judgement_line (judged_bytes a (number c 0) b)) [])

-- of books: of the bytes that were read of each slice, and behind them of the numbers
unfoldable pub book_line : ℕ → List ℕ → List ℕ → List ℕ → List ℕ
book_line f a b c =
    pick (asks f) (question_line f a b)
    (pick (judges f) (judge_line f a b c)
    (pick (on_bytes f) (bytes_line f a b c) (words_line f (words_in a) (words_in b) (words_in c))))

-- of derivations b of what is asked, a: 13 `check`, 14 `nghiralum_check`, lent room for the words of both; and whether a keeps its bound
-- names apart: 15 `keeps_apart`, 16 `nghiralum_apart`, lent room too
unfoldable pub typing_line : ℕ → List ℕ → List ℕ → List ℕ
typing_line f a b =
    pick (eqb f 13) (found_line (verdict_said (verdict_of (words_in a) (words_in b))))
    (pick (eqb f 14) (found_line (checked_said a b))
    (pick (eqb f 15) (reply_line (apart_said (keeps_apart (words_in a)))) (pick (eqb f 16) (reply_line (apart_asked a)) [])))

-- of any call
unfoldable pub call_line : ℕ → List ℕ → List ℕ → List ℕ → List ℕ
call_line f a b c = pick (ltb 12 f) (typing_line f a b) (book_line f a b c)
