-- What a rehearsal returns is unique. Assumes nothing.
use Rattle.std.specs.Prelude.{ℕ, List, ◌≡◌}
use Rattle.std.proofs.Common.{sym, ◌∙◌}
use Rattle.translation.specs.Outcome.{Answer, came}
use Rattle.translation.specs.Outcome.Returned.{came-injective}
use Rattle.playing.specs.Rehearsal.{rehearsal}

-- no two answers, and no two states of the lent words, keep the promise of `rehearse`
pub rehearse-one : (b ms out : List ℕ) (r s : Answer) (new old : List ℕ) → came r new ≡ rehearsal b ms out → came s old ≡ rehearsal b ms out
    → (r ≡ s) × (new ≡ old)
rehearse-one b ms out r s new old e f = came-injective r s new old (e ∙ sym f)
