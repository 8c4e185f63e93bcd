-- Laws of the programs that words spell: the lent words of an accepted book spell each party's program. Assumes nothing.
use Rattle.std.specs.Prelude.{ℕ, zero, suc, ◌+◌, ◌*◌, ◌≤◌, ◌<◌, List, [], ◌∷◌, ◌++◌, ◌≡◌, refl, length, get_or, drop}
use Rattle.std.proofs.Common.{arith, ◌∙◌, length-append, lt-ltb, le-ltb}
use Rattle.std.proofs.Math.Option.{some}
use Rattle.std.proofs.Math.Path.{ap}
use Rattle.std.proofs.Math.ListN.{get_or-append}
use Rattle.words.specs.Choice.Laws.{pick_true, pick-false}
use Rattle.words.specs.Run.{run, values}
use Rattle.words.specs.Run.Laws.{values_length}
use Rattle.terms.specs.Table.{term}
use Rattle.book.specs.Layout.{table, parties}
use Rattle.translation.specs.Narration.{narration, program_of}
use Rattle.translation.specs.Listing.{heads, bodies, framed, part_words, listing}
use Rattle.translation.specs.Spelling.{read_program, part_of}
use Rattle.translation.proofs.Spelling.Laws.{heads-length, listing-spells}
use Rattle.translation.specs.Outcome.{outcome, Plays}
use Rattle.translation.specs.Outcome.Laws.{exactly-written, written-past}
use Rattle.translation.specs.Spelled.{or_end, spelled, Programs}

-- ---- run and part_of: words behind a listing are nobody's part
run-within : (l k : List ℕ) (a n : ℕ) → a + n ≤ length l → run (l ++ k) a n ≡ run l a n
unfolding run
run-within l k a zero h = refl
run-within l k a (suc n) h = rw (get_or-append l k 0 a (omega arith), run-within l k (suc a) n (omega arith))

heads-fit : (o : ℕ) (ls : List (List ℕ)) (p : ℕ) → p < length ls
    → get_or (heads o ls) (2 * p) 0 + get_or (heads o ls) (suc (2 * p)) 0 ≤ o + length (bodies ls)
unfolding heads bodies
heads-fit o [] p h = absurd (omega arith)
heads-fit o (l ∷ ls) zero h = let a = length-append l (bodies ls) in omega arith
heads-fit o (l ∷ ls) (suc p) h =
    let a = length-append l (bodies ls) in
    let e : 2 * suc p ≡ suc (suc (2 * p)) = omega arith in
    let r = heads-fit (o + length l) ls p (omega arith) in
    rw e (omega arith)

part-within : (ls : List (List ℕ)) (rest : List ℕ) (p : ℕ) → p < length ls → part_of (framed ls ++ rest) p ≡ part_of (framed ls) p
unfolding part_of framed
part-within ls rest p h =
    let n = length ls in
    let hs = heads (1 + 2 * n) ls in
    let w = n ∷ (hs ++ bodies ls) in
    let k = heads-length (1 + 2 * n) ls in
    let b = length-append hs (bodies ls) in
    let f = heads-fit (1 + 2 * n) ls p h in
    let e1 : 1 + 2 * p ≡ suc (2 * p) = omega arith in
    let e2 : 2 + 2 * p ≡ suc (suc (2 * p)) = omega arith in
    let w1 : get_or w (1 + 2 * p) 0 ≡ get_or hs (2 * p) 0 = ap (λ i. get_or w i 0) e1 ∙ get_or-append hs (bodies ls) 0 (2 * p) (omega arith) in
    let w2 : get_or w (2 + 2 * p) 0 ≡ get_or hs (suc (2 * p)) 0 = ap (λ i. get_or w i 0) e2 ∙ get_or-append hs (bodies ls) 0 (suc (2 * p)) (omega arith) in
    rw (get_or-append w rest 0 (1 + 2 * p) (omega arith), get_or-append w rest 0 (2 + 2 * p) (omega arith))
    (run-within w rest (get_or w (1 + 2 * p) 0) (get_or w (2 + 2 * p) 0) (omega arith))

-- ---- spelled
module _ (b : List ℕ) where
  spelled-programs : (w : List ℕ)
      → ((p : ℕ) → p < parties b → read_program (term (table b)) (part_of w p) ≡ some (program_of (narration b) p))
      → Programs (narration b) (parties b) (spelled b w)
  unfolding spelled or_end
  spelled-programs w h =
      record {
        party = λ p l. pick_true _ _ _ (lt-ltb p (parties b) l) ∙ ap or_end (h p l);
        nobody = λ p l. pick-false _ _ _ (le-ltb p (parties b) l);
      }

  -- the listing of a book that plays
  pub plays-programs : Plays b → Programs (narration b) (parties b) (spelled b (listing b))
  plays-programs plays = spelled-programs (listing b) (listing-spells b plays.valid)

-- ---- a book whose outcome is a listing
module _ (b out : List ℕ) (accepted : (outcome b out).says.number ≡ 0) where
  pub accepted-plays : Plays b
  unfolding outcome
  accepted-plays = ((exactly-written b out).0 accepted).0

  -- the words that a party's part of the lent memory holds are its program
  pub outcome-spells : (p : ℕ) → p < parties b
      → read_program (term (table b)) (part_of (outcome b out).lent p) ≡ some (program_of (narration b) p)
  unfolding listing
  outcome-spells p h =
      let n = values_length (part_words b) 0 (parties b) in
      ap (λ w. read_program (term (table b)) (part_of w p)) (written-past b out accepted)
      ∙ ap (read_program (term (table b))) (part-within (values (part_words b) 0 (parties b)) (drop (length (listing b)) out) p (omega arith))
      ∙ listing-spells b accepted-plays.valid p h

  pub accepted-programs : Programs (narration b) (parties b) (spelled b (outcome b out).lent)
  accepted-programs = spelled-programs b (outcome b out).lent outcome-spells
