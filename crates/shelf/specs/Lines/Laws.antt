-- Laws of a book's lines: the line of a rehearsal; the lines stand one behind another; the last two schedules are refused.
-- Assumes nothing.
use Rattle.std.specs.Prelude.{ℕ, ◌+◌, ◌/◌, ◌%◌, ◌≤◌, Bool, false, List, [], ◌∷◌, ◌++◌, ◌≡◌, refl, length, get_or, take, replicate}
use Rattle.std.proofs.Common.{sym, ◌∙◌, ap, ap₂, arith, zero-add, div-one, mod-eq_of_lt, ne_eqb}
use Rattle.words.specs.Choice.Laws.{pick-false}
use Rattle.words.specs.Run.{values}
use Rattle.words.specs.Run.Laws.{values_length, values-get_d}
use Rattle.book.specs.Layout.{least, most, parties}
use Rattle.book.specs.Said.{Said, said}
use Rattle.book.specs.Headed.Laws.{valid-headed}
use Rattle.translation.specs.Outcome.{Outcome, Plays}
use Rattle.playing.specs.Rehearsal.{rehearsal, rehearsal_says, BadMoves}
use Rattle.playing.specs.Rehearsal.Laws.{rehearsal-exactly-11}
use Rattle.line.specs.Line.{refusal_line, line_of, Put}
use Rattle.shelf.specs.Turns.{turn, seats}
use Rattle.shelf.specs.Turns.Laws.{turn_on, seats-own}
use Rattle.shelf.specs.Lines.{translated_line, rehearsed_line, played_lines, refused_lines, book_lines}

-- the line of what came of a rehearsal: of the schedule ms, and the words lent to it
pub rehearsed-came : (b ms lent : List ℕ) (moves q times : ℕ) (back : Bool) {o : Outcome} → o ≡ rehearsal b ms lent
    → ms ≡ values (turn q times back) 0 moves → lent ≡ replicate 16 0 → line_of o ≡ rehearsed_line b moves q times back
unfolding rehearsed_line
rehearsed-came b ms lent moves q times back e turns sixteen =
    ap line_of e ∙ ap₂ (λ (m l : List ℕ). line_of (rehearsal b m l)) turns sixteen

-- the lines of the rehearsals, of q parties, behind the translation's
pub seven-put : (b : List ℕ) {q p r s : ℕ} {l m new : List ℕ} → q ≡ seats b → take p l ≡ translated_line b → Put (played_lines b q) l p m r
    → Put (refused_lines b q) m r new s → take s new ≡ book_lines b
unfolding book_lines
seven-put b {q} e line four two =
    two.front ∙ ap (λ (t : List ℕ). t ++ refused_lines b q) (four.front ∙ ap (λ (t : List ℕ). t ++ played_lines b q) line)
    ∙ ap (λ (k : ℕ). translated_line b ++ played_lines b k ++ refused_lines b k) e

-- ---- the two schedules that are refused are, of every book that plays
-- refusal 11
refused-line : (b ms lent vs : List ℕ) → Plays b → BadMoves (parties b) ms vs → line_of (rehearsal b ms lent) ≡ refusal_line (said 11 vs)
unfolding line_of rehearsal
refused-line b ms lent vs plays bad =
    let says = (rehearsal-exactly-11 b ms lent vs).1 (plays, bad) in
    let number = ap (λ (s : Said). s.number) says in
    let refused : (rehearsal_says b ms lent).number ≡ 0 → ⊥ = λ z. absurd (omega arith) in
    pick-false _ _ _ (ne_eqb _ _ refused) ∙ ap refusal_line says

-- a move too many
pub refused-long : (b : List ℕ) (q times : ℕ) (back : Bool) → Plays b → rehearsed_line b 4097 q times back ≡ refusal_line (said 11 (4096 ∷ []))
unfolding rehearsed_line
refused-long b q times back plays =
    let many = values_length (turn q times back) 0 4097 in
    refused-line b _ _ _ plays (BadMoves.long (omega arith) refl)

-- a party too many in its round: the party after the last is the first that is none
pub refused-party : (b : List ℕ) → Plays b → rehearsed_line b 48 (seats b + 1) 1 false ≡ refusal_line (said 11 (parties b ∷ []))
unfolding rehearsed_line
refused-party b plays =
    refused-line b _ _ _ plays
    (BadMoves.nameless (omega (arith, many)) (parties b) (omega (arith, many, few)) (omega (arith, move (parties b) (omega arith)))
    (λ k h. omega (arith, move k (omega arith))) refl)
  where
    few : parties b ≤ most 1
    few = (valid-headed b plays.valid).few_parties

    some : least 1 ≤ parties b
    some = (valid-headed b plays.valid).some_parties

    many : length (values (turn (seats b + 1) 1 false) 0 48) ≡ 48
    many = values_length (turn (seats b + 1) 1 false) 0 48

    move : (k : ℕ) → k ≤ parties b → get_or (values (turn (seats b + 1) 1 false) 0 48) k 0 ≡ k
    move k h =
        let own = seats-own b some few in
        let first : k / 1 % (seats b + 1) ≡ k = ap (λ (i : ℕ). i % (seats b + 1)) (div-one k) ∙ mod-eq_of_lt (omega (arith, own)) in
        values-get_d (turn (seats b + 1) 1 false) 0 48 k 0 (omega (arith, few)) ∙ ap (turn (seats b + 1) 1 false) (zero-add k)
        ∙ sym (turn_on (seats b + 1) 1 k false (seats b + 1) _ refl refl refl) ∙ first
