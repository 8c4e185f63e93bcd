-- What came of a rehearsal: refusals 1 to 10 and 13 are the book's; of a playable book refusal 11 comes next, then refusal 12, and then
-- the events done. Assumes nothing.
use Rattle.std.specs.Prelude.{ℕ, ◌≤◌, ◌<◌, List, [], ◌∷◌, ◌≡◌, refl, length, get_or, Ok, Err}
use Rattle.std.proofs.lemmas.List.Edits.{sets}
use Rattle.book.specs.Layout.{parties}
use Rattle.book.specs.declared.Refusal.{Refusal}
use Rattle.book.specs.declared.Refusal.TheVariants.{Move, Room}
use Rattle.book.specs.Said.{reading_says}
use Rattle.translation.specs.Outcome.{acceptance, came, Plays}
use Rattle.translation.specs.Outcome.Laws.{book-came, came_refused, came-written}
use Rattle.playing.specs.Rehearsal.{events_done, most_moves, rehearsal_says, rehearsal, BadMoves, Named}
use Rattle.playing.specs.Rehearsal.Laws.{rehearsal-exactly-11, rehearsal-exactly-12, played-says}

module _ (b ms out : List ℕ) where
  -- a refusal that is the book's
  pub rehearsal-refused-came : (f : Refusal) → reading_says (Err f) ≡ acceptance b → came (Err f) out ≡ rehearsal b ms out
  unfolding rehearsal rehearsal_says
  rehearsal-refused-came f e = book-came b _ _ out (events_done b ms) f e

  module _ (p : Plays b) where
    -- refusal 11
    bad-came : (i : ℕ) → BadMoves (parties b) ms (i ∷ []) → came (Err (Move i)) out ≡ rehearsal b ms out
    unfolding rehearsal
    bad-came i m = came_refused (rehearsal_says b ms out) out (events_done b ms) (Move i) ((rehearsal-exactly-11 b ms out (i ∷ [])).1 (p, m))

    pub long-came : most_moves < length ms → came (Err (Move most_moves)) out ≡ rehearsal b ms out
    long-came h = bad-came most_moves (BadMoves.long h refl)

    pub move-came : (i : ℕ) → length ms ≤ most_moves → i < length ms → parties b ≤ get_or ms i 0 → ((k : ℕ) → k < i → get_or ms k 0 < parties b)
        → came (Err (Move i)) out ≡ rehearsal b ms out
    move-came i l h n s = bad-came i (BadMoves.nameless l i h n s refl)

    -- a schedule of moves that all name a party
    module _ (l : length ms ≤ most_moves) (a : Named (parties b) ms) where
      -- refusal 12
      pub rehearsal-room-came : length out < parties b → came (Err (Room (parties b))) out ≡ rehearsal b ms out
      unfolding rehearsal
      rehearsal-room-came h =
          came_refused (rehearsal_says b ms out) out (events_done b ms) (Room (parties b))
          ((rehearsal-exactly-12 b ms out (parties b ∷ [])).1 (p, l, a, h, refl))

      -- the events done
      pub played-came : (new : List ℕ) → parties b ≤ length out → new ≡ sets out 0 (events_done b ms)
          → came (Ok (parties b)) new ≡ rehearsal b ms out
      unfolding rehearsal
      played-came new h e = came-written (rehearsal_says b ms out) out (events_done b ms) new (parties b) (played-says b ms out p l a h) e
