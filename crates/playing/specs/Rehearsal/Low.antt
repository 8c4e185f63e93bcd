-- How large the events done can get: each move adds at most one to what one party has done, so the words of a rehearsal's output are
-- far inside 32 bits. Assumes nothing.
use Rattle.std.specs.Prelude.{ℕ, ◌+◌, ◌≤◌, ◌<◌, List, [], ◌∷◌, length}
use Rattle.std.proofs.Math.Option.{Option}
use Rattle.std.proofs.Common.{arith}
use Rattle.words.specs.Run.{All, values}
use Rattle.words.specs.Run.Laws.{values_length, values-get_d, get_or-all, all-imp}
use Rattle.terms.specs.Term.{Terms}
use Rattle.book.specs.Layout.{parties}
use Rattle.translation.specs.Narration.{narration}
use Rattle.translation.specs.Listing.{listing}
use Rattle.agreement.specs.Machine.{Party, Turn, System, Move, move, begin, started}
use Rattle.agreement.specs.Machine.Laws.{Turned, Delivered, move-parties}
use Rattle.agreement.specs.Agree.{receiver_of}
use Rattle.playing.specs.Rehearsal.{move_of, played, events_done, most_moves}

-- ---- a move
abbrev OneMore : Party → Party → Type 0
OneMore P R = R.done ≤ 1 + P.done

turned_more : (P : Party) (t : Turn) → Turned P t → OneMore P t.party
turned_more P t Turned.stayed = omega arith
turned_more P t (Turned.halted l e) = omega arith
turned_more P t (Turned.did l e) = omega arith

delivered-more : (s : ℕ) (o : Option Terms) (P R : Party) → Delivered s o P R → OneMore P R
delivered-more s o P R Delivered.dropped = omega arith
delivered-more s o P R (Delivered.halted l e n) = omega arith
delivered-more s o P R (Delivered.took l e) = omega arith

move-more : (receiver : ℕ → ℕ) (m : Move) (S : System) (q : ℕ) → OneMore (S.party q) ((move receiver m S).party q)
move-more receiver m S q = move-parties OneMore (λ P. omega arith) turned_more delivered-more receiver m S q

-- ---- a schedule: no party does more events than there are moves
pub played-most : (receiver : ℕ → ℕ) (ms : List ℕ) (S : System) (q : ℕ) → ((played receiver ms S).party q).done ≤ (S.party q).done + length ms
unfolding played
played-most receiver [] S q = omega arith
played-most receiver (p ∷ ms) S q =
    let m = move_of p (S.party p).left in
    let h = played-most receiver ms (move receiver m S) q in
    let k = move-more receiver m S q in
    omega arith

pub done-most : (b ms : List ℕ) → All (λ n. n ≤ length ms) (events_done b ms)
unfolding events_done started begin
done-most b ms =
    let S = played (receiver_of (narration b)) ms (started b (listing b)) in
    let f : ℕ → ℕ = λ p. (S.party p).done in
    get_or-all (λ n. n ≤ length ms) (values f 0 (parties b)) (λ i h.
    let l = values_length f 0 (parties b) in
    let e = values-get_d f 0 (parties b) i 0 (omega arith) in
    let k = played-most (receiver_of (narration b)) ms (started b (listing b)) (0 + i) in
    omega arith)

-- "4,096": a word of 32 bits holds what a played schedule comes to
pub done-low : (b ms : List ℕ) → length ms ≤ most_moves → All (λ w. w < 4294967296) (events_done b ms)
done-low b ms h = all-imp (λ n. n ≤ length ms) (λ w. w < 4294967296) (λ n l. omega arith) (events_done b ms) (done-most b ms)
