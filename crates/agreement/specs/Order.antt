-- The order of a program's events: the steps rise, a SEND is of a step that the party sends and a RECEIVE of one that it receives, and
-- END stands last. Document 01: "END .. all stored rows"; "NEWs of a step precede its SEND". And whether a step's SEND, or any event of
-- a step, is among the events left.
use Rattle.std.specs.Prelude.{ℕ, suc, ◌≤◌, ◌<◌, List, [], ◌∷◌, ◌≡◌, length}
use Rattle.terms.specs.Image.{Image, Images}
use Rattle.translation.specs.Receive.{Event, Stored}
use Rattle.translation.specs.Narration.{Narration}
use Rattle.translation.specs.Taken.{step_of}
use Rattle.agreement.specs.Agree.{receiver_of}
pub mod Laws

-- events of party p, in the steps from `low` on
pub data Rising (N : Narration) (p : ℕ) : ℕ → List Event → Type 0 where
  end : {low : ℕ} {ps : List Stored} → Rising N p low (Event.ends ps ∷ [])
  new : {low r : ℕ} {es : List Event} → Rising N p low es → Rising N p low (Event.new r ∷ es)
  sends : {low s : ℕ} {is : Images} {es : List Event} → low ≤ s → (step_of N s).sender ≡ p → Rising N p (suc s) es
      → Rising N p low (Event.sends s is ∷ es)
  receives : {low s f n : ℕ} {es : List Event} → low ≤ s → s < length N.says → receiver_of N s ≡ p → Rising N p (suc s) es
      → Rising N p low (Event.receives s f n ∷ es)
  checks : {low x : ℕ} {i : Image} {es : List Event} → Rising N p low es → Rising N p low (Event.checks x i ∷ es)
  opens : {low x f n : ℕ} {i : Image} {es : List Event} → Rising N p low es → Rising N p low (Event.opens x f n i ∷ es)

-- step s is still to be sent
pub data ToSend (s : ℕ) : List Event → Type 0 where
  here : {is : Images} {es : List Event} → ToSend s (Event.sends s is ∷ es)
  later : {e : Event} {es : List Event} → ToSend s es → ToSend s (e ∷ es)

-- an event of step s, and that there is one
pub data Of (s : ℕ) : Event → Type 0 where
  sends : {is : Images} → Of s (Event.sends s is)
  receives : {f n : ℕ} → Of s (Event.receives s f n)

pub data Among (s : ℕ) : List Event → Type 0 where
  here : {e : Event} {es : List Event} → Of s e → Among s (e ∷ es)
  later : {e : Event} {es : List Event} → Among s es → Among s (e ∷ es)
