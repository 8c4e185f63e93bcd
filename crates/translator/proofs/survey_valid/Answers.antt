-- `translator::survey_valid` meets its contract: what `write_heads` laid into the lists is read from them, and where
-- the walks stop decides refusals 10 and 13. Assumes nothing.
use mathlib.Core.Path.{refl, sym, ap, ◌∙◌}
use Rattle.book.specs.Said.{Said}
use Rattle.book.specs.Stop.Laws.{stop_none}
use Rattle.translator.specs.Among.Laws.{among-nobody}
use Rattle.translator.proofs.Came.{stop-accept}
use Rattle.translator.proofs.Listing.{heads-found}
use Rattle.translator.proofs.survey_valid.Goals as goal

-- where no walk stops no step is refused, and the heads, the length and the places are the book's
pub returns : goal.returns
returns c = let (laid, lists) = c.write_heads-all.ensures in
    let told = c.reading_of-reading.ensures in
    let number = sym (ap (λ (s : Said). s.number) told) in
    record {
      says = told ∙ stop-accept c.requires laid.stops;
      writable = λ z. record {
        valid = c.requires;
        claims = c.claims-since.ensures;
        partners = c.partners-partners.ensures;
        nobody = among-nobody laid.stops (stop_none _ (number ∙ z));
      };
      heads = λ z. heads-found c.requires refl (laid.wrote (stop_none _ (number ∙ z)));
      ends = λ z. laid.ends (stop_none _ (number ∙ z));
      placed = λ z. laid.placed (stop_none _ (number ∙ z));
    }
