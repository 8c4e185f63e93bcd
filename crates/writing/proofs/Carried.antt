-- The survey's findings, carried out on bytes. Assumes nothing.
use Prim.Native.Nat.{ℕ, ◌/◌}
use mathlib.Core.List.{List}
use mathlib.Core.Path.{◌≡◌, sym, ◌∙◌}
use lib.ListN.{length}
use Rattle.words.specs.Overlay.{Wrote}
use Rattle.octets.specs.Octets.{words_in, bytes_of_all}
use Rattle.octets.specs.Octets.Laws.{words-length}
use Rattle.book.specs.declared.Refusal.{Refusal}
use Rattle.book.specs.Said.{reading_says}
use Rattle.std.specs.Prelude.{Ok, Err}
use Rattle.translation.specs.Listing.{listing}
use Rattle.translation.specs.Outcome.{answer_says, came}
use Rattle.translation.specs.Outcome.Laws.{came_refused, came-written}
use Rattle.translator.specs.declared.Findings.{Findings}
use Rattle.translator.specs.Surveyed.{Surveyed, fitted}
use Rattle.translator.specs.Surveyed.Laws.{fitted-says}
use Rattle.writing.specs.Translated.{translated}

module _ {b : List ℕ} {r : Findings} (s : Surveyed b r) (out : List ℕ) {n : ℕ} (d : n ≡ length out / 4) where
  pub refused-came : (f : Refusal) → answer_says (Err f) ≡ fitted (reading_says r.reading) r.end n → came (Err f) out ≡ translated b out
  refused-came f e = came_refused _ out (bytes_of_all (listing b)) f (sym (e ∙ fitted-says s (words_in out) (d ∙ sym (words-length out))))

  pub written-came : (i : ℕ) {j : ℕ} {new : List ℕ} → answer_says (Ok i) ≡ fitted (reading_says r.reading) r.end n
      → Wrote (bytes_of_all (listing b)) out 0 new j → came (Ok i) new ≡ translated b out
  written-came i {new = new} e w =
      came-written _ out (bytes_of_all (listing b)) new i (sym (e ∙ fitted-says s (words_in out) (d ∙ sym (words-length out)))) w.list
