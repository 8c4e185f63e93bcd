-- Of the words b of a book, and of the schedule ms, into lent bytes: what is said is what is said where the words are lent that these bytes
-- make, and on acceptance the bytes of the output are laid over them. Document 02, [1], and of summaries [4].
use Rattle.std.specs.Prelude.{ℕ, List}
use Rattle.octets.specs.Octets.{words_in, bytes_of_all}
use Rattle.translation.specs.Outcome.{Outcome, laid}
use Rattle.playing.specs.Rehearsal.{events_done, rehearsal_says}
use Rattle.summary.specs.Summary.{summary, summary_says}
pub mod Laws

abbrev pub rehearsed : List ℕ → List ℕ → List ℕ → Outcome
rehearsed b ms out = laid (rehearsal_says b ms (words_in out)) out (bytes_of_all (events_done b ms))

abbrev pub summarized_on : List ℕ → List ℕ → Outcome
summarized_on b out = laid (summary_says b (words_in out)) out (bytes_of_all (summary b))
