-- How far the places of a walk get: behind what was written and behind what was stored. Assumes nothing.
use Prim.Native.Nat.{ℕ, ◌+◌, ◌*◌, ◌≤◌}
use native.Mathlib.Omega.{arith}
use mathlib.Core.List.{List}
use mathlib.Core.Path.{◌≡◌}
use lib.ListN.{length}
use Rattle.words.specs.Overlay.{cap}
use Rattle.book.specs.Layout.{steps}
use Rattle.book.specs.Headed.Laws.{valid-headed}
use Rattle.book.specs.Valid.{Valid}
use Rattle.translation.specs.Listing.{program_words}
use Rattle.translation.specs.Steps.{before}
use Rattle.translation.specs.Long.{most_events, most_part}
use Rattle.translation.proofs.Long.Laws.{all-within, triples-length, stored-few}
use Rattle.holding.specs.View.{row_of}
use Rattle.walking.specs.declared.Passed.{Passed}
use Rattle.walking.specs.Walking.{Along, Walking}

-- ---- the places are lengths
module _ {b : List ℕ} (v : Valid b) (p : ℕ) {i n k z : ℕ} {log log_after out out_after e : List ℕ} (h : i ≤ steps b) where
  pub ends_at : {a : ℕ} → a + most_part ≤ cap → Along b p i log log_after a out out_after e n k z → z ≡ a + length (program_words (row_of b) (before b p i).events)
  ends_at l g = let next = g.wrote.next in let w = (all-within b v (row_of b) p i h).words in omega arith

  pub ends-kept : {a : ℕ} → Along b p i log log_after a out out_after e n k z → k ≡ 3 * length (before b p i).stored
  ends-kept g =
      let next = g.keeps.next in
      let w = (all-within b v (row_of b) p i h).stored in
      let all = triples-length (row_of b) (before b p i).stored in
      omega arith

-- ---- and they are few: a log of 3,072 words has room for all triples
pub few-triples : {b : List ℕ} {p upto a : ℕ} {held log log_after out out_after x x_after y y_after : List ℕ} {r : Passed} → Valid b
    → Walking b p upto held log log_after a out out_after x x_after y y_after r → r.kept ≤ 3072
few-triples {b} {p} v g =
    let k = ends-kept v p g.within g.along in
    let s = stored-few b v p g.far g.within in
    let f = (valid-headed b v).few_rows in
    omega arith

pub record FewPlaces (r : Passed) : Type 0 where
  pub words : r.at ≤ most_events
  pub kept : r.kept ≤ 3072

pub few-places : {b : List ℕ} {p upto : ℕ} {held log log_after out out_after x x_after y y_after : List ℕ} {r : Passed} → Valid b
    → Walking b p upto held log log_after 0 out out_after x x_after y y_after r → FewPlaces r
few-places {b} {p} v g =
    let e = ends_at v p g.within (omega arith) g.along in
    let w = (all-within b v (row_of b) p g.far g.within).words in
    record { words = omega arith; kept = few-triples v g }
