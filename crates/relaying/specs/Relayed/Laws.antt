-- Laws of outputs that go through words between: so many words are enough. Assumes nothing.
use Rattle.std.specs.Prelude.{ℕ, ◌≤◌, min, List, [], ◌≡◌, length, ltb}
use Rattle.std.proofs.Common.{append-nil, sym, ap, ◌∙◌, arith, lt-ltb, le-ltb}
use Rattle.std.proofs.Math.Decide.{ℕ_discrete, dec_lt}
use Rattle.book.specs.Layout.{parties}
use Rattle.book.specs.Said.{accepted}
use Rattle.book.specs.Refusals.{Line, first_of}
use Rattle.book.specs.Refusals.Laws.{none-given}
use Rattle.book.specs.Headed.Laws.{valid-headed}
use Rattle.translation.specs.Outcome.{room_line, acceptance, Plays}
use Rattle.translation.specs.Outcome.Laws.{ten, ten-apart, ten-lines, book-first, keep-plays}
use Rattle.playing.specs.Rehearsal.{rehearsal_says}
use Rattle.summary.specs.Summary.{summary_words, summary_says}
use Rattle.summary.proofs.Summary.Laws.{summary-most}

-- ---- what is accepted plays
pub plays-from : (b : List ℕ) → (acceptance b).number ≡ 0 → Plays b
unfolding acceptance
plays-from b z =
    keep-plays b (none-given (ten b) accepted (ten-apart b 0 (omega arith) (omega arith) (omega arith))
    (ap (λ (ls : List Line). (first_of ls accepted).number) (sym (ten-lines b [] ∙ append-nil _)) ∙ z))

-- ---- a rehearsal needs room for no more than 16 words, a summary for no more than 16,387
room_most : (most room need : ℕ) → need ≤ most → ltb (min most room) need ≡ ltb room need
room_most most room need h = elim (dec_lt room need) [
  | yes l ↦ lt-ltb (min most room) need (omega arith) ∙ sym (lt-ltb room need l)
  | no l ↦ le-ltb (min most room) need (omega arith) ∙ sym (le-ltb room need (omega arith))
]

pub room-enough : (b ms out lent : List ℕ) → length lent ≡ min 16 (length out) → rehearsal_says b ms lent ≡ rehearsal_says b ms out
unfolding rehearsal_says room_line
room-enough b ms out lent e = elim (ℕ_discrete (acceptance b).number 0) [
  | no n ↦ book-first b _ _ n ∙ sym (book-first b _ _ n)
  | yes z ↦
      let few = (valid-headed b (plays-from b z).valid).few_parties in
      rw (e, room_most 16 (length out) (parties b) few)
]

pub summary-room-enough : (b out lent : List ℕ) → length lent ≡ min 16387 (length out) → summary_says b lent ≡ summary_says b out
unfolding summary_says room_line
summary-room-enough b out lent e = elim (ℕ_discrete (acceptance b).number 0) [
  | no n ↦ book-first b _ _ n ∙ sym (book-first b _ _ n)
  | yes z ↦ rw (e, room_most 16387 (length out) (summary_words b) (summary-most b (plays-from b z).valid))
]
