-- What is returned is unique: an answer's number and values say which case of the enum it is, so a promise about them is a promise
-- about the answer itself. Assumes nothing.
use Rattle.std.specs.Prelude.{ℕ, List, ◌≡◌, Ok, Err}
use Rattle.std.proofs.Common.{sym, ap, ◌∙◌}
use Rattle.book.specs.Said as Said
use Rattle.book.specs.Said.{Reading, reading_says}
use Rattle.book.specs.Said.Laws.{value_at, refusal-number, refusal-injective, reading-injective}
use Rattle.translation.specs.Outcome.{Answer, Outcome, acceptance, outcome, answer_says, came}

pub answer-injective : (r s : Answer) → answer_says r ≡ answer_says s → r ≡ s
answer-injective (Ok n) (Ok m) e = ap (λ (x : Said.Said). Ok (value_at x 0)) e
answer-injective (Ok n) (Err g) e = absurd (refusal-number g (sym (ap (λ (x : Said.Said). x.number) e)))
answer-injective (Err f) (Ok m) e = absurd (refusal-number f (ap (λ (x : Said.Said). x.number) e))
answer-injective (Err f) (Err g) e = ap Err (refusal-injective f g e)

-- what came of two calls is the same: so are the answers, and the lent words
pub came-injective : (r s : Answer) (new old : List ℕ) → came r new ≡ came s old → (r ≡ s) × (new ≡ old)
came-injective r s new old e = (answer-injective r s (ap (λ (o : Outcome). o.says) e), ap (λ (o : Outcome). o.lent) e)

-- no two readings keep the promise of `accept`
pub accept-one : (b : List ℕ) (r s : Reading) → reading_says r ≡ acceptance b → reading_says s ≡ acceptance b → r ≡ s
accept-one b r s e f = reading-injective r s (e ∙ sym f)

-- no two answers, and no two states of the lent words, keep the promise of `translate`
pub translate-one : (b out : List ℕ) (r s : Answer) (new old : List ℕ) → came r new ≡ outcome b out → came s old ≡ outcome b out
    → (r ≡ s) × (new ≡ old)
translate-one b out r s new old e f = came-injective r s new old (e ∙ sym f)
