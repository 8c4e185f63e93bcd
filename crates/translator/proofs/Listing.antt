-- The whole output: its heads, kept in a list of their own, and the parts that it is written in. Assumes nothing.
use Prim.Native.Nat.{ℕ, ◌*◌, ◌≤◌}
use mathlib.Core.List.{List, [], ◌∷◌, ◌++◌}
use mathlib.Core.Path.{◌≡◌, sym, ap, ◌∙◌}
use native.Mathlib.Omega.{arith}
use lib.ListN.{length, take}
use Rattle.words.specs.Overlay.{Wrote}
use Rattle.words.specs.Overlay.Laws.{wrote_then, wrote-cons, wrote_as, wrote-take}
use Rattle.book.specs.Layout.{parties}
use Rattle.book.specs.Valid.{Valid}
use Rattle.book.specs.Headed.Laws.{valid-headed}
use Rattle.translation.specs.Listing.{listing}
use Rattle.translation.specs.Long.{most_listing}
use Rattle.translator.specs.Parts.{heads_of, HeadsIn, bodies_of}
use Rattle.translator.specs.Parts.Laws.{heads-count, listing-parts}

-- ---- HeadsIn
-- in 32 words there is room for the heads of 16 parties
pub heads-found : {b : List ℕ} → Valid b → {o new : List ℕ} {r : ℕ} → length o ≡ 32 → Wrote (heads_of b) o 0 new r → HeadsIn b new
heads-found {b} v {new = new} l w =
    let c = heads-count b in
    let f = (valid-headed b v).few_parties in
    ap (λ k. take k new) (sym c) ∙ wrote-take w (omega arith)

-- ---- listing
-- behind the heads, the first program's place is low
pub front_low : {b : List ℕ} (hs : List ℕ) {n m : ℕ} {old one two : List ℕ} {p q : ℕ} → Valid b → n ≡ parties b → m ≡ n → HeadsIn b hs
    → Wrote (n ∷ []) old 0 one p → Wrote (take (2 * m) hs) one p two q → q ≤ most_listing
front_low {b} hs {m = m} v e f h x y =
    let few = (valid-headed b v).few_parties in
    let first = x.next in
    let next = y.next in
    let count : length (take (2 * m) hs) ≡ 2 * parties b = ap (λ k. length (take (2 * k) hs)) (f ∙ e) ∙ ap length h ∙ heads-count b in
    omega arith

-- the number of parties, the heads and the programs, written one after another
pub listing-wrote : (b hs : List ℕ) (n m : ℕ) {old one two new : List ℕ} {p q r : ℕ} → n ≡ parties b → m ≡ n → HeadsIn b hs
    → Wrote (n ∷ []) old 0 one p → Wrote (take (2 * m) hs) one p two q → Wrote (bodies_of b) two q new r → Wrote (listing b) old 0 new r
listing-wrote b hs n m e f h x y z =
    let kept : take (2 * m) hs ≡ heads_of b = ap (λ k. take (2 * k) hs) (f ∙ e) ∙ h in
    wrote_as (wrote-cons x (wrote_then (wrote_as y (sym kept)) z)) (listing-parts b ∙ ap (λ k. k ∷ (heads_of b ++ bodies_of b)) (sym e))
