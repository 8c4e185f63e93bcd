-- The outcome on bytes, of any length each. Document 02, [1]: "translation and rehearsal callable .. on plain byte slices, low byte
-- first, same answers. A book or schedule whose byte length isn't a multiple of four is refusal 1, before all else, place 0. Refusal
-- 12 still counts words; up to three spare output bytes are untouched." Summaries, [4], are written and asked about in the same way.
use Rattle.std.specs.Prelude.{ℕ, ◌||◌, List, [], ◌∷◌, ◌≡◌, length}
use Rattle.words.specs.Choice.{pick}
use Rattle.octets.specs.Octets.{words_in, uneven, spare}
use Rattle.book.specs.Said.{Said, said}
use Rattle.translation.specs.Outcome.{Outcome}
use Rattle.summary.specs.Summary.{asked}
use Rattle.renaming.specs.Verdict.{judged}
use Rattle.examining.specs.Checked.{odd}
use Rattle.writing.specs.Translated.{translated}
use Rattle.relaying.specs.Relayed.{rehearsed, summarized_on}
pub mod Fits
pub mod Laws
pub mod Judged

-- of the bytes of a book, and of a schedule
unfoldable pub translation_bytes : List ℕ → List ℕ → Outcome
translation_bytes bs out = pick (uneven bs) (odd out) (translated (words_in bs) out)

unfoldable pub rehearsal_bytes : List ℕ → List ℕ → List ℕ → Outcome
rehearsal_bytes bs ms out = pick (uneven bs || uneven ms) (odd out) (rehearsed (words_in bs) (words_in ms) out)

unfoldable pub summary_bytes : List ℕ → List ℕ → Outcome
summary_bytes bs out = pick (uneven bs) (odd out) (summarized_on (words_in bs) out)

-- of the bytes of a summary: document 02, [4], has its question answered from the summary alone, and here that is its bytes
unfoldable pub asked_bytes : List ℕ → ℕ → ℕ → ℕ → Said
asked_bytes bs p r t = pick (uneven bs) (said 1 (0 ∷ [])) (asked (words_in bs) p r t)

-- of the bytes of a book and of another translator's listing, and a party's number: document 02, [7]
unfoldable pub judged_bytes : List ℕ → ℕ → List ℕ → Said
judged_bytes bs p ls = pick (uneven bs || uneven ls) (said 1 (0 ∷ [])) (judged (words_in bs) p (words_in ls))

-- ---- what is said of it
-- the outcome t on bytes is the outcome o on words: it says the same, its bytes make the same words, and the spare bytes are as they were
pub record AsWords (o : Outcome) (out : List ℕ) (t : Outcome) : Type 0 where
  pub says : t.says ≡ o.says
  pub words : words_in t.lent ≡ o.lent
  pub spares : spare t.lent ≡ spare out
  pub size : length t.lent ≡ length out
