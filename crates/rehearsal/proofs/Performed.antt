-- With the places that were found, which are the book's, the counts are the plain machine's. Assumes nothing.
use Rattle.std.proofs.Common.{ℕ, zero, suc, ◌+◌, ◌≤◌, ◌<◌, length, get_or, take, drop, drop-cons, arith}
use mathlib.Core.List.{List, [], ◌∷◌}
use mathlib.Core.Path.{◌≡◌, refl, sym, ap, ◌∙◌, fun_ext}
use lib.Dec.{ltb}
use lib.ListN.{replicate}
use Rattle.words.specs.First.{any}
use Rattle.words.specs.First.Laws.{first-same}
use Rattle.words.specs.Overlay.{Wrote}
use Rattle.words.specs.Overlay.Laws.{wrote_as}
use Rattle.words.specs.Run.{All, values}
use Rattle.words.specs.Run.Laws.{zeros}
use Rattle.book.specs.Layout.{parties, steps}
use Rattle.translation.specs.Outcome.{Plays}
use Rattle.translation.specs.Places.{places_of}
use Rattle.playing.specs.Rehearsal.{events_done}
use Rattle.playing.specs.Counting.{waits_for, waits, ticked, ticked_all}
use Rattle.playing.specs.Counting.Laws.{done-counted}
use Rattle.walking.specs.Placed.{Placed}
use Rattle.rehearsal.specs.Kept.{places, counts}

-- the first q counts, one by one
counts-from : (d : List ℕ) (i q : ℕ) → i + q ≤ length d → take q (drop i d) ≡ values (counts d) i q
unfolding values
counts-from d i zero h = refl
counts-from d i (suc q) h = rw (drop-cons d i 0 (omega arith)) (ap (λ (l : List ℕ). get_or d i 0 ∷ l) (counts-from d (suc i) q (omega arith)))

counts-front : (d : List ℕ) (q : ℕ) → q ≤ length d → take q d ≡ values (counts d) 0 q
counts-front d q h = counts-from d 0 q (omega arith)

module _ {b x y z : List ℕ} (g : Placed b x y z) where
  -- ---- each is the same with either places
  waits-same : (d : ℕ → ℕ) (p : ℕ) → waits b (places x y z) d p ≡ waits b (places_of b) d p
  unfolding waits any
  waits-same d p =
      let each : (s : ℕ) → s < steps b → waits_for b (places x y z) d p s ≡ waits_for b (places_of b) d p s =
      λ s l. unfold waits_for in rw (g.sends s l, g.receives s l)
      in ap (λ k. ltb k (steps b)) (first-same (waits_for b (places x y z) d p) (waits_for b (places_of b) d p) (steps b) each)

  -- for a party of the book, whose END has a place
  ticked-same : (p : ℕ) → p < parties b → (d : ℕ → ℕ) → ticked b (places x y z) p d ≡ ticked b (places_of b) p d
  unfolding ticked
  ticked-same p l d = rw (g.ends p l, waits-same d p)

  counted_same : (ms : List ℕ) → All (λ q. q < parties b) ms → (d : ℕ → ℕ) → ticked_all b (places x y z) ms d ≡ ticked_all b (places_of b) ms d
  unfolding ticked_all
  counted_same [] a d = refl
  counted_same (p ∷ ms) a d =
      ap (ticked_all b (places x y z) ms) (ticked-same p a.0 d) ∙ counted_same ms a.1 (ticked b (places_of b) p d)

  -- ---- from 0 events each; the first q of the counts are written
  pub performed : Plays b → (ms : List ℕ) → All (λ q. q < parties b) ms → (d : List ℕ) {old new : List ℕ} {q a : ℕ}
      → counts d ≡ ticked_all b (places x y z) ms (counts (replicate {A = ℕ} 16 0)) → q ≡ parties b → q ≤ length d
      → Wrote (take q d) old 0 new a → Wrote (events_done b ms) old 0 new a
  performed v ms a d {q = q} e f l w =
      let machine = ticked_all b (places_of b) ms in
      let done : counts d ≡ machine (λ p. 0) = e ∙ counted_same ms a (counts (replicate {A = ℕ} 16 0)) ∙ ap machine (fun_ext (λ p. zeros 16 p)) in
      wrote_as w (done-counted b v ms a ∙ ap (values (machine (λ p. 0)) 0) (sym f) ∙ ap (λ k. values k 0 q) (sym done) ∙ sym (counts-front d q l))
