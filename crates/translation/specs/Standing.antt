-- How a party stands before its next event. Document 01, 'The rehearsal': "each move lets that party do its next event, or nothing if it
-- is at END or waits for a step not yet sent." Which of these an event is, is said here and nowhere else.
-- Decided: a party with no event left is at its end too.
use Rattle.std.specs.Prelude.{ℕ, List, [], ◌∷◌}
use Rattle.translation.specs.Receive.{Event}
pub mod Laws

pub data Standing : Type 0 where
  -- it does the event by itself
  acts : Standing
  -- so too, and by it sends the step
  sends : ℕ → Standing
  -- it waits for the step's messages: step, first placeholder, how many
  waits : ℕ → ℕ → ℕ → Standing
  ended : Standing

unfoldable pub standing_at : Event → Standing
standing_at (Event.new r) = Standing.acts
standing_at (Event.sends s is) = Standing.sends s
standing_at (Event.receives s f n) = Standing.waits s f n
standing_at (Event.checks x i) = Standing.acts
standing_at (Event.opens x f n i) = Standing.acts
standing_at (Event.ends ps) = Standing.ended

-- with these events left
unfoldable pub standing : List Event → Standing
standing [] = Standing.ended
standing (e ∷ es) = standing_at e

-- ---- the first where it stands so, made of what it sends or waits for; else the second
unfoldable pub if_sends : {A : Type 0} → Standing → (ℕ → A) → A → A
if_sends Standing.acts f x = x
if_sends (Standing.sends s) f x = f s
if_sends (Standing.waits s p n) f x = x
if_sends Standing.ended f x = x

unfoldable pub if_waits : {A : Type 0} → Standing → (ℕ → ℕ → ℕ → A) → A → A
if_waits Standing.acts f x = x
if_waits (Standing.sends s) f x = x
if_waits (Standing.waits s p n) f x = f s p n
if_waits Standing.ended f x = x

unfoldable pub if_ended : {A : Type 0} → Standing → A → A → A
if_ended Standing.acts x y = y
if_ended (Standing.sends s) x y = y
if_ended (Standing.waits s p n) x y = y
if_ended Standing.ended x y = x
