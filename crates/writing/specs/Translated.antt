-- Of the words of a book into lent bytes: what is said is what is said where the words are lent that these bytes make, and on acceptance the
-- bytes of the output are laid over them. Document 02, [1]: "Refusal 12 still counts words; up to three spare output bytes are untouched."
use Rattle.std.specs.Prelude.{ℕ, List}
use Rattle.octets.specs.Octets.{words_in, bytes_of_all}
use Rattle.translation.specs.Listing.{listing}
use Rattle.translation.specs.Outcome.{Outcome, translation_says, laid}

abbrev pub translated : List ℕ → List ℕ → Outcome
translated b out = laid (translation_says b (words_in out)) out (bytes_of_all (listing b))
