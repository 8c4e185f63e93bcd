-- What translating says, and what comes of it: refusals 1 to 9 are the reader's; of a valid book refusal 10 or 13 comes next, then
-- refusal 12, and then the output. Assumes nothing.
use Prim.Native.Nat.{ℕ}
use mathlib.Core.List.{List, [], ◌∷◌, ◌++◌}
use mathlib.Core.Path.{◌≡◌, refl, sym, ap, ◌∙◌}
use native.Mathlib.Omega.{arith}
use lib.ListN.{length}
use Rattle.std.specs.Prelude.{Option, Ok, Err}
use Rattle.words.specs.First.Laws.{first-at, first-end}
use Rattle.words.specs.Overlay.{Wrote}
use Rattle.book.specs.Layout.{parties, steps}
use Rattle.book.specs.declared.Refusal.{Refusal}
use Rattle.book.specs.Said.{Said, said, accepted, refusal_says, reading_says}
use Rattle.book.specs.Said.Laws.{refusal-number}
use Rattle.book.specs.Refusals.{Line, first_of, reading_table, verdict}
use Rattle.book.specs.Refusals.Laws.{first_of-none, first_of-stop, line-here, line_on, all_keep}
use Rattle.book.specs.Stop.{stop_says}
use Rattle.book.specs.declared.Stop.{Stop}
use Rattle.book.specs.Valid.{Valid}
use Rattle.book.specs.Valid.Laws.{nine, reading-lines, valid-keep}
use Rattle.translation.specs.Narration.{narration}
use Rattle.translation.specs.Taken.{unplayable, stop_row}
use Rattle.translation.specs.Listing.{listing}
use Rattle.translation.specs.Outcome.{stop_line, acceptance, translation_says, outcome, answer_says, came}
use Rattle.translation.specs.Outcome.Laws.{came_refused, came-written}
use Rattle.walking.specs.Stops.Laws.{stop-number}
use Rattle.translator.specs.Among.{StopsAmong}
use Rattle.translator.specs.Among.Laws.{nobody-playable, refused-first}
use Rattle.translator.specs.Surveyed.{Surveyed, fitted}
use Rattle.translator.specs.Surveyed.Laws.{fitted-says}
use Rattle.translator.specs.declared.Findings.{Findings}

-- ---- the reader's answer: why it refuses
module _ (b : List ℕ) (f : Refusal) (d : refusal_says f ≡ verdict b) where
  -- so it did refuse
  refused : (verdict b).number ≡ 0 → ⊥
  refused z = refusal-number f (ap (λ (x : Said). x.number) d ∙ z)

  -- and refusals 10 and 13 are not asked
  pub refused-accept : refusal_says f ≡ acceptance b
  unfolding acceptance verdict
  refused-accept = d ∙ sym (first_of-stop (reading_table b) (stop_line b ∷ []) accepted accepted refl refused)

-- ---- refusals 10 and 13 of a valid book: where the first of the walks stops
module _ {b : List ℕ} (v : Valid b) where
  -- the reader's lines pass it
  passes : (ls : List Line) (rest : Said) → first_of (reading_table b ++ ls) rest ≡ first_of ls rest
  passes ls rest = ap (λ ms. first_of (ms ++ ls) rest) (reading-lines b) ∙ all_keep (nine b) ls rest (valid-keep b v)

  pub stop-accept : {x : Option Stop} → StopsAmong b (parties b) x → stop_says x ≡ acceptance b
  unfolding acceptance stop_line
  stop-accept (StopsAmong.none n) =
      let nowhere = first-end (unplayable (narration b)) (steps b) (steps b) refl (nobody-playable v n) in
      let on = line_on (stop_line b) [] accepted (steps b) nowhere (omega arith) in
      sym (passes _ accepted ∙ on ∙ first_of-none accepted)
  stop-accept (StopsAmong.one {s = s} {p = p} l m r n) =
      let u = refused-first v p m r n in
      let here = first-at (unplayable (narration b)) (steps b) s m u.before u.here in
      ap (λ k. said k (s ∷ stop_row (narration b) s ∷ [])) (stop-number b s)
      ∙ sym (passes _ accepted ∙ line-here (stop_line b) [] accepted s here m)

-- ---- the survey's findings are carried out: what a translation says came of the call
module _ {b : List ℕ} {r : Findings} (s : Surveyed b r) (out : List ℕ) {n : ℕ} (d : n ≡ length out) where
  pub refused-came : (f : Refusal) → answer_says (Err f) ≡ fitted (reading_says r.reading) r.end n → came (Err f) out ≡ outcome b out
  unfolding outcome
  refused-came f e = came_refused (translation_says b out) out (listing b) f (sym (e ∙ fitted-says s out d))

  pub written-came : (i : ℕ) {j : ℕ} {new : List ℕ} → answer_says (Ok i) ≡ fitted (reading_says r.reading) r.end n → Wrote (listing b) out 0 new j
      → came (Ok i) new ≡ outcome b out
  unfolding outcome
  written-came i {new = new} e w =
      came-written (translation_says b out) out (listing b) new i (sym (e ∙ fitted-says s out d)) w.list
