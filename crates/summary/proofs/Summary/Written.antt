-- Laws of writing a summary: refusals 1 to 10 and 13 are the book's, then 12; a refusal changes no lent word; the summary is laid over the
-- first words lent, and those past it stay, so that what was written answers as the full walk does; no two outcomes keep one promise. Assumes
-- nothing.
use Rattle.std.specs.Prelude.{ℕ, ◌+◌, ◌≤◌, ◌<◌, List, [], ◌∷◌, ◌++◌, ◌↔◌, ◌≡◌, refl, length, take, Ok, Err}
use Rattle.std.proofs.Common.{sym, ap₂, ◌∙◌, arith}
use Rattle.std.proofs.Math.Path.{ap}
use Rattle.std.proofs.Math.ListN.{drop}
use Rattle.std.proofs.lemmas.List.Edits.{sets}
use Rattle.std.proofs.Math.Seq.{take-append_seam}
use Rattle.words.specs.Choice.{pick}
use Rattle.book.specs.Layout.{rows, parties, steps}
use Rattle.book.specs.Said.{Said, said, reading_says}
use Rattle.book.specs.declared.Refusal.{Refusal}
use Rattle.book.specs.declared.Refusal.TheVariants.{Room}
use Rattle.book.specs.Refusals.{first_of, verdict}
use Rattle.book.specs.Valid.{Valid}
use Rattle.translation.specs.Taken.{Taken, Barred}
use Rattle.translation.specs.Outcome.{stop_line, room_line, acceptance, Outcome, Answer, came, Unplayable, Plays}
use Rattle.translation.specs.Outcome.Laws.{room-line, ends_in_room, room-exact, room_says, fits-exact, laid-keeps, laid-lays, laid-past, stop-line, stop-other, ten, ten-apart, ten-lines, reading-exact, book-first, book-came, came_refused, came-written, stop_line-10, stop_line-13, keep-plays, plays-keep}
use Rattle.translation.specs.Outcome.Returned.{came-injective}
use Rattle.summary.specs.Summary.{holds, summary_words, summary, summary_says, summarized, asked}
use Rattle.summary.proofs.Summary.Laws.{summary-length, summary-exact}

module _ (b out : List ℕ) where
  abbrev rest : Said
  rest = said 0 (summary_words b ∷ [])

  says-lines : summary_says b out ≡ ends_in_room (ten b) (length out) (summary_words b)
  unfolding summary_says room_line
  says-lines = ap (λ ls. first_of ls rest) (ten-lines b _)

  -- ---- refusals 1 to 10 and 13 are the book's: "Writing it for a refused book gives the book's refusal"
  pub summary-book-first : ((acceptance b).number ≡ 0 → ⊥) → summary_says b out ≡ acceptance b
  unfolding summary_says
  summary-book-first n = book-first b _ _ n

  pub summary-exactly-reading : (n : ℕ) → 0 < n → n ≤ 9 → (vs : List ℕ) → (summary_says b out ≡ said n vs) ↔ (verdict b ≡ said n vs)
  unfolding summary_says stop_line room_line
  summary-exactly-reading n p h vs =
      reading-exact b (stop-line b ∷ room-line (length out) (summary_words b) ∷ []) rest n
      (stop-other b n (omega arith) (omega arith), omega arith) (omega arith) p vs

  pub summary-exactly-10 : (vs : List ℕ) → (summary_says b out ≡ said 10 vs) ↔ (Valid b × Unplayable Taken b vs)
  summary-exactly-10 vs =
      let r = stop_line-10 b (room-line (length out) (summary_words b) ∷ []) rest (omega arith) (omega arith) vs in
      (λ e. r.0 (sym says-lines ∙ e), λ u. says-lines ∙ r.1 u)

  pub summary-exactly-13 : (vs : List ℕ) → (summary_says b out ≡ said 13 vs) ↔ (Valid b × Unplayable Barred b vs)
  summary-exactly-13 vs =
      let r = stop_line-13 b (room-line (length out) (summary_words b) ∷ []) rest (omega arith) (omega arith) vs in
      (λ e. r.0 (sym says-lines ∙ e), λ u. says-lines ∙ r.1 u)

  -- ---- refusal 12 is the last
  pub summary-exactly-12 : (vs : List ℕ) → (summary_says b out ≡ said 12 vs)
      ↔ (Plays b × (length out < summary_words b) × (vs ≡ summary_words b ∷ []))
  summary-exactly-12 vs =
      let r = room-exact (ten b) (length out) (summary_words b) (ten-apart b 12 (omega arith) (omega arith) (omega arith)) vs in (
        λ e. (let z = r.0 (sym says-lines ∙ e) in (keep-plays b z.0, z.1, z.2)),
        λ u. says-lines ∙ r.1 (plays-keep b u.0, u.1, u.2),
      )

  -- ---- the summary is written
  pub exactly-summarized : ((summary_says b out).number ≡ 0) ↔ (Plays b × (summary_words b ≤ length out))
  exactly-summarized =
      let n = ap (λ (s : Said). s.number) says-lines in
      let r = fits-exact (ten b) (length out) (summary_words b) (ten-apart b 0 (omega arith) (omega arith) (omega arith)) in
      (λ e. (let z = r.0 (sym n ∙ e) in (keep-plays b z.0, z.1)), λ u. n ∙ r.1 (plays-keep b u.0, u.1))

  pub summarized-says : Plays b → summary_words b ≤ length out → summary_says b out ≡ said 0 (summary_words b ∷ [])
  summarized-says p h = says-lines ∙ room_says (ten b) (length out) (summary_words b) (plays-keep b p) h

  -- and so with the length that is answered
  pub exactly-summarized-length : (summary_says b out ≡ said 0 (summary_words b ∷ [])) ↔ (Plays b × (summary_words b ≤ length out))
  exactly-summarized-length = (λ e. exactly-summarized.0 (ap (λ (s : Said). s.number) e), λ u. summarized-says u.0 u.1)

  -- ---- the lent words: a refusal changes none
  pub summarized-keeps : ((summarized b out).says.number ≡ 0 → ⊥) → (summarized b out).lent ≡ out
  unfolding summarized
  summarized-keeps n = laid-keeps (summary_says b out) out (summary b) n

  -- else the summary is laid over them
  pub summarized-lays : (summarized b out).says.number ≡ 0 → (summarized b out).lent ≡ sets out 0 (summary b)
  unfolding summarized
  summarized-lays e = laid-lays (summary_says b out) out (summary b) e

  -- and the words past it stay
  pub summarized-past : (summarized b out).says.number ≡ 0 → (summarized b out).lent ≡ summary b ++ drop (summary_words b) out
  unfolding summarized
  summarized-past e =
      let room = (exactly-summarized.0 e).1 in
      let n = summary-length b in
      laid-past (summary_says b out) out (summary b) e (omega arith) ∙ ap (λ k. summary b ++ drop k out) n

  -- the answer from the words that were written is the answer of the full walk
  pub summarized-exact : (summarized b out).says.number ≡ 0 → (p r t : ℕ) → p < parties b → r < rows b → t < steps b
      → asked (take (summary_words b) (summarized b out).lent) p r t ≡ said 0 (pick (holds b p r (t + 1)) 1 0 ∷ [])
  summarized-exact e p r t h l m =
      let n = summary-length b in
      let written : take (summary_words b) (summarized b out).lent ≡ summary b =
      ap₂ take (sym n) (summarized-past e) ∙ take-append_seam (summary b) (drop (summary_words b) out) in
      ap (λ (s : List ℕ). asked s p r t) written ∙ summary-exact b p r h l t m

  -- ---- what came of a call
  pub summary-refused-came : (f : Refusal) → reading_says (Err f) ≡ acceptance b → came (Err f) out ≡ summarized b out
  unfolding summarized summary_says
  summary-refused-came f e = book-came b _ _ out (summary b) f e

  pub summary-room-came : Plays b → length out < summary_words b → came (Err (Room (summary_words b))) out ≡ summarized b out
  unfolding summarized
  summary-room-came p h =
      came_refused (summary_says b out) out (summary b) (Room (summary_words b)) ((summary-exactly-12 (summary_words b ∷ [])).1 (p, h, refl))

  pub summary-written-came : Plays b → summary_words b ≤ length out → (new : List ℕ) → new ≡ sets out 0 (summary b)
      → came (Ok (summary_words b)) new ≡ summarized b out
  unfolding summarized
  summary-written-came p h new e = came-written (summary_says b out) out (summary b) new (summary_words b) (summarized-says p h) e

-- ---- no two outcomes keep one promise
pub summarized-one : (b out : List ℕ) (o p : Outcome) → o ≡ summarized b out → p ≡ summarized b out → o ≡ p
summarized-one b out o p e f = e ∙ sym f

-- nor do two answers, or two states of the lent words
pub write-summary-one : (b out : List ℕ) (r s : Answer) (new old : List ℕ) → came r new ≡ summarized b out → came s old ≡ summarized b out
    → (r ≡ s) × (new ≡ old)
write-summary-one b out r s new old e f = came-injective r s new old (e ∙ sym f)
