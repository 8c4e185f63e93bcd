-- Laws of a listing's parts: what one party more adds to its bodies and its heads, and the whole from its parts. Assumes nothing.
use Rattle.std.specs.Prelude.{ℕ, suc, ◌+◌, ◌*◌, ◌≤◌, List, [], ◌∷◌, ◌++◌, ◌≡◌, length}
use Rattle.std.proofs.Common.{append-nil, append_assoc, sym, ap, ◌∙◌, arith, add-zero, length-append, length-take}
use Rattle.words.specs.Run.Laws.{values-last, values_length}
use Rattle.book.specs.Layout.{parties}
use Rattle.translation.specs.Listing.{heads, bodies, framed, part_words, listing}
use Rattle.translation.proofs.Spelling.Laws.{heads-length}
use Rattle.translator.specs.Parts.{programs_to, heads_of, HeadsIn, bodies_of}

-- ---- one program more, in any list of programs
bodies-last : (ls : List (List ℕ)) (l : List ℕ) → bodies (ls ++ l ∷ []) ≡ bodies ls ++ l
unfolding bodies
bodies-last [] l = append-nil l
bodies-last (k ∷ ls) l = ap (λ r. k ++ r) (bodies-last ls l) ∙ sym (append_assoc k (bodies ls) l)

heads-last : (o : ℕ) (ls : List (List ℕ)) (l : List ℕ) → heads o (ls ++ l ∷ []) ≡ heads o ls ++ (o + length (bodies ls)) ∷ length l ∷ []
unfolding heads bodies
heads-last o [] l = rw add-zero
heads-last o (k ∷ ls) l =
    let e = length-append k (bodies ls) in
    let z : o + length k + length (bodies ls) ≡ o + length (k ++ bodies ls) = omega arith in
    ap (λ r. o ∷ length k ∷ r) (heads-last (o + length k) ls l ∙ ap (λ x. heads (o + length k) ls ++ x ∷ length l ∷ []) z)

-- ---- the program of party q behind those of the parties before
module _ (b : List ℕ) (q : ℕ) where
  parts_more : programs_to b (q + 1) ≡ programs_to b q ++ part_words b q ∷ []
  parts_more =
      let z : q + 1 ≡ suc q = omega arith in
      let y : 0 + q ≡ q = omega arith in
      ap (programs_to b) z ∙ values-last (part_words b) 0 q ∙ ap (λ k. programs_to b q ++ part_words b k ∷ []) y

  pub bodies-more : bodies (programs_to b (q + 1)) ≡ bodies (programs_to b q) ++ part_words b q
  bodies-more = ap bodies parts_more ∙ bodies-last (programs_to b q) (part_words b q)

  pub length_more : length (bodies (programs_to b (q + 1))) ≡ length (bodies (programs_to b q)) + length (part_words b q)
  length_more = ap length bodies-more ∙ length-append (bodies (programs_to b q)) (part_words b q)

  pub heads-more : (o : ℕ) → heads o (programs_to b (q + 1)) ≡ heads o (programs_to b q) ++ (o + length (bodies (programs_to b q)))
      ∷ length (part_words b q) ∷ []
  heads-more o = ap (heads o) parts_more ∙ heads-last o (programs_to b q) (part_words b q)

-- ---- two words for each party
pub heads-count : (b : List ℕ) → length (heads_of b) ≡ 2 * parties b
heads-count b = heads-length (1 + 2 * parties b) (programs_to b (parties b)) ∙ ap (λ k. 2 * k) (values_length (part_words b) 0 (parties b))

-- where the heads stand, they are all there
pub heads-there : (b hs : List ℕ) → HeadsIn b hs → 2 * parties b ≤ length hs
heads-there b hs h = let c = heads-count b in let l = ap length h in let k = length-take (2 * parties b) hs in omega arith

-- ---- the number of parties, the heads and the programs
pub listing-parts : (b : List ℕ) → listing b ≡ parties b ∷ (heads_of b ++ bodies_of b)
unfolding listing framed
listing-parts b = ap (λ k. k ∷ (heads (1 + 2 * k) (programs_to b (parties b)) ++ bodies_of b)) (values_length (part_words b) 0 (parties b))
