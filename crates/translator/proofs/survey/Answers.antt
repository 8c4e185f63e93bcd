-- `translator::survey` meets its contract: the reader's refusal is given first, and an accepted book is valid. Assumes
-- nothing.
use mathlib.Core.Path.{sym}
use Rattle.book.specs.Said.Laws.{refusal-number}
use Rattle.book.specs.Valid.Laws.{accepted-valid}
use Rattle.translator.proofs.Came.{refused-accept}
use Rattle.translator.proofs.survey.Goals as goal

pub survey_valid-requires : goal.survey_valid-requires
survey_valid-requires c = (accepted-valid _).0 (sym c.in-Ok.ensures)

-- the reader refuses
pub returns-in-Err : goal.returns-in-Err
returns-in-Err c = let why = c.in-Err.why in
    record {
      says = refused-accept c.args.book.now why c.in-Err.ensures;
      writable = λ z. absurd (refusal-number why z);
      heads = λ z. absurd (refusal-number why z);
      ends = λ z. absurd (refusal-number why z);
      placed = λ z. absurd (refusal-number why z);
    }
