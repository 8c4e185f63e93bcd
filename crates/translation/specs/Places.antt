-- Where events stand in a program, counted from 0: a step's SEND in its sender's, a step's RECEIVE in its receiver's, and END.
use Rattle.std.specs.Prelude.{ℕ, suc, Bool, true, false, List, [], ◌∷◌, eqb}
use Rattle.words.specs.Choice.{pick}
use Rattle.book.specs.Layout.{sender, receiver}
use Rattle.translation.specs.Receive.{Event}
use Rattle.translation.specs.Standing.{standing_at, if_sends, if_waits, if_ended}
use Rattle.translation.specs.Narration.{narration, program_of}

-- how many events come before the first that passes the test
unfoldable pub place_of : (Event → Bool) → List Event → ℕ
place_of t [] = 0
place_of t (e ∷ es) = pick (t e) 0 (suc (place_of t es))

-- the tests: for step s's SEND, for its RECEIVE, for END
unfoldable pub is_send : ℕ → Event → Bool
is_send s e = if_sends (standing_at e) (λ a. eqb a s) false

unfoldable pub is_receive : ℕ → Event → Bool
is_receive s e = if_waits (standing_at e) (λ a f n. eqb a s) false

unfoldable pub is_end : Event → Bool
is_end e = if_ended (standing_at e) true false

-- of a book: by step, by step, and by party
pub record Places : Type 0 where
  pub sends : ℕ → ℕ
  pub receives : ℕ → ℕ
  pub ends : ℕ → ℕ

unfoldable pub places_of : List ℕ → Places
places_of b =
    record {
      sends = λ s. place_of (is_send s) (program_of (narration b) (sender b s));
      receives = λ s. place_of (is_receive s) (program_of (narration b) (receiver b s));
      ends = λ p. place_of is_end (program_of (narration b) p);
    }
