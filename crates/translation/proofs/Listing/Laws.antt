-- Laws of the listing's words: lists of events in two parts; and a party's listing depends on the table, its own knowledge and its
-- own part in the steps, and on nothing else of the book. Assumes nothing.
use Prim.Native.Nat.{ℕ, zero, suc, ◌<◌}
use Rattle.std.proofs.Math.Bool.{true}
use Rattle.std.specs.Prelude.{false, List, [], ◌∷◌, ◌++◌, map}
use Rattle.std.proofs.Common.{append_assoc, arith}
use mathlib.Core.Path.{◌≡◌, refl, sym, ap, ap₂, ◌∙◌}
use Rattle.words.specs.Choice.{choose}
use Rattle.words.specs.First.{first}
use Rattle.words.specs.First.Laws.{first-same}
use Rattle.words.specs.Run.Laws.{map_same}
use Rattle.terms.specs.Term.{Term, same, gathered}
use Rattle.terms.specs.Table.{Row, form, term, terms, number}
use Rattle.terms.specs.Table.Laws.{term-row}
use Rattle.book.specs.Layout.{table, rows}
use Rattle.book.specs.Valid.{Valid}
use Rattle.book.specs.Valid.Laws.{formed}
use Rattle.translation.specs.Receive.{Event, Stored}
use Rattle.translation.specs.Program.{acts_of}
use Rattle.translation.proofs.Program.Laws.{program-own}
use Rattle.translation.specs.Narration.{narration, known_to, program_of}
use Rattle.translation.specs.Listing.{triple_words, event_words, program_words, part_words}

-- ---- in two parts
pub program-append : (row : Term → ℕ) (es fs : List Event) → program_words row (es ++ fs) ≡ program_words row es ++ program_words row fs
unfolding program_words
program-append row [] fs = refl
program-append row (e ∷ es) fs =
    ap (λ l. event_words row e ++ l) (program-append row es fs) ∙ sym (append_assoc (event_words row e) (program_words row es) (program_words row fs))

pub triples-append : (row : Term → ℕ) (ps qs : List Stored) → triple_words row (ps ++ qs) ≡ triple_words row ps ++ triple_words row qs
unfolding triple_words
triples-append row [] qs = refl
triples-append row (p ∷ ps) qs = ap (λ l. row p.0 ∷ p.1 ∷ p.2 ∷ l) (triples-append row ps qs)

-- ---- a party's listing is its own business
-- two books have equal rows
pub record SameTable (b c : List ℕ) : Type 0 where
  pub many : rows b ≡ rows c
  pub each : (r : ℕ) → r < rows b → table b r ≡ table c r

module _ (b c : List ℕ) (v : Valid b) (w : Valid c) (s : SameTable b c) where
  terms-below : (m r : ℕ) → r < m → r < rows b → term (table b) r ≡ term (table c) r
  unfolding terms
  terms-below zero r h l = absurd (omega arith)
  terms-below (suc m) r h l =
      let ih : (p : ℕ) → p < r → term (table b) p ≡ term (table c) p = λ p q. terms-below m p (omega arith) (omega arith) in
      let e = s.each r l in
      let k = s.many in
      term-row (rows b) (table b) (formed b v) r l
      ∙ ap (λ us. form r (table b r).kind (table b r).tag (gathered us))
      (map_same (λ p. p < r) (term (table b)) (term (table c)) ih (table b r).parts ((formed b v).before r l))
      ∙ ap (λ (x : Row). form r x.kind x.tag (gathered (map (term (table c)) x.parts))) e
      ∙ sym (term-row (rows c) (table c) (formed c w) r (omega arith))

  -- equal rows stand for equal terms
  pub same-terms : (r : ℕ) → r < rows b → term (table b) r ≡ term (table c) r
  same-terms r l = terms-below (suc r) r (omega arith) l

  pub same_numbers : (t : Term) → number (table b) (rows b) t ≡ number (table c) (rows c) t
  unfolding number
  same_numbers t =
      first-same (λ r. choose (same (term (table b) r) t) true false) (λ r. choose (same (term (table c) r) t) true false) (rows b)
      (λ r l. ap (λ u. choose (same u t) true false) (same-terms r l))
      ∙ ap (λ n. first (λ r. choose (same (term (table c) r) t) true false) n) s.many

  -- with equal knowledge and equal own parts, the words of the party's program are equal
  pub part-own : (p : ℕ) → known_to (narration b) p ≡ known_to (narration c) p → acts_of p 0 (narration b).says ≡ acts_of p 0 (narration c).says
      → part_words b p ≡ part_words c p
  unfolding part_words program_of
  part-own p k o = ap₂ program_words (mathlib.Core.Path.fun_ext same_numbers) (program-own k o)
