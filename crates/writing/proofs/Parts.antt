-- The bytes of a program, of the programs and of a listing, from those of their parts. Assumes nothing.
use Prim.Native.Nat.{ℕ, ◌+◌, ◌*◌, ◌/◌, ◌≤◌}
use mathlib.Core.List.{List, [], ◌∷◌, ◌++◌}
use mathlib.Core.Path.{◌≡◌, sym, ap, ◌∙◌}
use native.Mathlib.Omega.{arith}
use lib.ListN.{length, take}
use Rattle.words.specs.Overlay.{Wrote}
use Rattle.words.specs.Overlay.Laws.{wrote_as, wrote-take}
use Rattle.words.specs.Run.{values}
use Rattle.octets.specs.Octets.{bytes_of_all}
use Rattle.octets.specs.Octets.Laws.{bytes-none, bytes-then}
use Rattle.book.specs.Layout.{parties, steps}
use Rattle.book.specs.Headed.Laws.{valid-headed}
use Rattle.translation.specs.Listing.{program_words, triple_words, bodies, part_words, listing}
use Rattle.translation.specs.Steps.{before}
use Rattle.translation.proofs.Long.Laws.{stored-few, triples-length}
use Rattle.holding.specs.View.{row_of}
use Rattle.walking.specs.Walking.Laws.{part-words}
use Rattle.translator.specs.Parts.{programs_to, heads_of, HeadsIn, bodies_of}
use Rattle.translator.specs.Parts.Laws.{bodies-more, listing-parts}
use Rattle.writing.specs.Events.{EventsReady, WroteEvents}

-- ---- a program
module _ {b ps : List ℕ} {p : ℕ} (ready : EventsReady b ps p) {log log_after out middle : List ℕ} {a next kept : ℕ} where
  -- three words for each stored term, and no more of these than rows
  triples : WroteEvents b p log log_after out a middle next kept → (kept ≡ 3 * length (before b p (steps b)).stored) × (kept ≤ 3072)
  triples w =
      let n = w.keeps.next in
      let l = triples-length (row_of b) (before b p (steps b)).stored in
      let s = stored-few b ready.valid p (steps b) (omega arith) in
      let f = (valid-headed b ready.valid).few_rows in
      (omega arith, omega arith)

  pub few-triples : WroteEvents b p log log_after out a middle next kept → kept ≤ 3072
  few-triples w = (triples w).1

  -- the events' bytes, those of END's first words, and those of the triples
  pub programmed : {between out_after : List ℕ} {m i j : ℕ} → length log ≡ 3072 → WroteEvents b p log log_after out a middle next kept
      → m ≡ kept / 3 → Wrote (bytes_of_all (6 ∷ m ∷ [])) middle next between i → Wrote (bytes_of_all (take kept log_after)) between i out_after j
      → Wrote (bytes_of_all (part_words b p)) out a out_after j
  programmed {m = m} l w third ends rest =
      let stored = (before b p (steps b)).stored in
      let count = (triples w).0 in
      let few = (triples w).1 in
      let n = triples-length (row_of b) stored in
      let thirds : m ≡ length stored = omega arith in
      let kept-triples = ap (λ k. take k log_after) (count ∙ sym n) ∙ wrote-take w.keeps (omega arith) in
      let front = wrote_as ends (ap (λ k. bytes_of_all (6 ∷ k ∷ [])) (sym thirds)) in
      let back = wrote_as rest (ap bytes_of_all (sym kept-triples)) in
      let end-words = bytes-then (6 ∷ length stored ∷ []) (triple_words (row_of b) stored) front back in
      wrote_as (bytes-then (program_words (row_of b) (before b p (steps b)).events) _ w.wrote end-words)
      (ap bytes_of_all (part-words b p ready.party))

-- ---- the programs of the first q parties
pub bodies-start : (b : List ℕ) {old : List ℕ} {at : ℕ} → Wrote (bytes_of_all (bodies (programs_to b 0))) old at old at
unfolding values bodies
bodies-start b = bytes-none

-- one party's program more
pub bodies-on : (b : List ℕ) (q : ℕ) {old new later : List ℕ} {at next r : ℕ} → Wrote (bytes_of_all (bodies (programs_to b q))) old at new next
    → Wrote (bytes_of_all (part_words b q)) new next later r → Wrote (bytes_of_all (bodies (programs_to b (q + 1)))) old at later r
bodies-on b q h w = wrote_as (bytes-then (bodies (programs_to b q)) (part_words b q) h w) (ap bytes_of_all (bodies-more b q))

-- ---- a listing: the number of parties, the heads and the programs, written one after another
pub listing-wrote : (b hs : List ℕ) {n m : ℕ} {old one two new : List ℕ} {p q r : ℕ} → n ≡ parties b → m ≡ n → HeadsIn b hs
    → Wrote (bytes_of_all (n ∷ [])) old 0 one p → Wrote (bytes_of_all (take (2 * m) hs)) one p two q
    → Wrote (bytes_of_all (bodies_of b)) two q new r → Wrote (bytes_of_all (listing b)) old 0 new r
listing-wrote b hs {n} {m} e f h x y z =
    let kept : take (2 * m) hs ≡ heads_of b = ap (λ k. take (2 * k) hs) (f ∙ e) ∙ h in
    let front = wrote_as x (ap (λ k. bytes_of_all (k ∷ [])) (sym e)) in
    let behind = bytes-then (heads_of b) (bodies_of b) (wrote_as y (ap bytes_of_all (sym kept))) z in
    wrote_as (bytes-then (parties b ∷ []) (heads_of b ++ bodies_of b) front behind) (ap bytes_of_all (listing-parts b))
