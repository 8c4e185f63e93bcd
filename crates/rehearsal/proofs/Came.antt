-- What came of rehearsing: the book's refusal is given first, then refusal 11, then 12, and then the events done. Assumes nothing.
use Prim.Native.Nat.{ℕ, ◌≤◌, ◌<◌}
use native.Mathlib.Omega.{arith}
use mathlib.Core.List.{List}
use mathlib.Core.Path.{◌≡◌, sym, ap, ◌∙◌}
use lib.Dec.{leb}
use lib.ListN.{length, get_or}
use borrow.Author.Tests.{leb-true, leb-false, ltb-false}
use Rattle.words.specs.Overlay.{Wrote}
use Rattle.words.specs.Run.{All}
use Rattle.words.specs.Run.Laws.{get_or-all}
use Rattle.book.specs.Layout.{parties}
use Rattle.book.specs.Headed.Laws.{valid-headed}
use Rattle.book.specs.declared.Refusal.{Refusal}
use Rattle.book.specs.declared.Refusal.TheVariants.{Move, Room}
use Rattle.book.specs.Said.{reading_says}
use Rattle.std.specs.Prelude.{refl, Bool, true, false, cond, nat_lt, Some, None, Ok, Err, position}
use Rattle.std.specs.List.{position_or_len}
use Rattle.std.proofs.lemmas.List.Quantifiers.{position-Some}
use Rattle.std.proofs.lemmas.List.Sums.{fails_before_first}
use Rattle.translation.specs.Outcome.{came, Plays}
use Rattle.walking.specs.Placed.{Placed}
use Rattle.translator.specs.declared.Findings.{Findings}
use Rattle.translator.specs.Surveyed.{Surveyed}
use Rattle.translator.specs.Surveyed.Laws.{surveyed-plays}
use Rattle.playing.specs.Rehearsal.{events_done, most_moves, rehearsal}
use Rattle.playing.specs.Rehearsal.Laws.{done-length}
use Rattle.playing.specs.Rehearsal.Came.{rehearsal-refused-came, long-came, move-came, rehearsal-room-came, played-came}

-- ---- the book's own answer
module _ {b : List ℕ} {r : Findings} (s : Surveyed b r) where
  pub refused : (ms out : List ℕ) (f : Refusal) → r.reading ≡ Err f → came (Err f) out ≡ rehearsal b ms out
  refused ms out f k = rehearsal-refused-came b ms out f (sym (ap reading_says k) ∙ s.says)

  pub accepted : {u : Unit {0}} → r.reading ≡ Ok u → Plays b × Placed b r.sends r.receives r.ends
  accepted k = let z = ap (λ x. (reading_says x).number) k in (surveyed-plays s z, s.placed z)

-- ---- refusal 11: a schedule that is too long
pub long : {b : List ℕ} (ms out : List ℕ) → Plays b → {r : ℕ} → r ≡ most_moves → most_moves < length ms
    → came (Err (Move r)) out ≡ rehearsal b ms out
long {b} ms out p e h = rw e (long-came b ms out p h)

-- ---- and one with a move that names none of q parties
module _ (b ms : List ℕ) {q : ℕ} (e : q ≡ parties b) where
  -- a move that fails the test names a party
  good : (k : ℕ) → leb q (get_or ms k 0) ≡ false → get_or ms k 0 < parties b
  good k h = let g = leb-false q (get_or ms k 0) h in omega arith

  pub bad : (i : ℕ) (out : List ℕ) → Plays b → length ms ≤ most_moves → {r : ℕ} → r ≡ i → position (leb q) ms ≡ Some i
      → came (Err (Move r)) out ≡ rehearsal b ms out
  bad i out p l c h =
      let f = position-Some (leb q) ms i 0 h in
      let g = leb-true q (get_or ms i 0) f.1 in
      rw c (move-came b ms out p i l f.0 (omega arith) (λ k j. good k (f.2 k j)))

  -- else all name one
  pub named : position (leb q) ms ≡ None → All (λ k. k < parties b) ms
  named h = get_or-all (λ k. k < parties b) ms (λ k j. good k (fails_before_first (leb q) ms k 0 (before k j)))
    where
      none : (v : Bool) → nat_lt (position_or_len (leb q) ms) (length ms) ≡ v → cond v (Some (position_or_len (leb q) ms)) None ≡ None → v ≡ false
      none true g z = cc
      none false g z = refl

      before : (k : ℕ) → k < length ms → k < position_or_len (leb q) ms
      before k j = let l = ltb-false (position_or_len (leb q) ms) (length ms) (none _ refl h) in omega arith

-- ---- refusal 12, and the events done: n is the number of parties, as the code's q and as an index
module _ {b : List ℕ} (ms out : List ℕ) (p : Plays b) (l : length ms ≤ most_moves) (a : All (λ k. k < parties b) ms) {q n : ℕ}
    (e : q ≡ parties b) (c : n ≡ q) where
  pub short : length out < n → came (Err (Room n)) out ≡ rehearsal b ms out
  short h = let z : n ≡ parties b = omega arith in rw z (rehearsal-room-came b ms out p l a (omega arith))

  pub told : n ≤ length out → {new : List ℕ} {r : ℕ} → Wrote (events_done b ms) out 0 new r → came (Ok r) new ≡ rehearsal b ms out
  told h {new} {r} w =
      let d = done-length b ms in
      let x = w.next in
      let y = (valid-headed b p.valid).few_parties in
      let z : r ≡ parties b = omega arith in
      rw z (played-came b ms out p l a new (omega arith) w.list)
