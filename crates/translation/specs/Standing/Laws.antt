-- Laws of how a party stands: what holds where it stands so, with the event at hand, and else, holds of the choice. Assumes nothing.
use Rattle.std.specs.Prelude.{ℕ, ◌≡◌}
use Rattle.std.proofs.Math.Path.{refl}
use Rattle.terms.specs.Image.{Images}
use Rattle.translation.specs.Receive.{Event}
use Rattle.translation.specs.Standing.{standing_at, if_sends, if_waits}

module _ {A : Type 0} (P : A → Type 0) where
  pub sends-ind : (e : Event) (f : ℕ → A) (x : A)
      → ((s : ℕ) (is : Images) → e ≡ Event.sends s is → P (f s)) → P x → P (if_sends (standing_at e) f x)
  unfolding standing_at if_sends
  sends-ind (Event.new r) f x g h = h
  sends-ind (Event.sends s is) f x g h = g s is refl
  sends-ind (Event.receives s p n) f x g h = h
  sends-ind (Event.checks p i) f x g h = h
  sends-ind (Event.opens p q n i) f x g h = h
  sends-ind (Event.ends ps) f x g h = h

  pub waits-ind : (e : Event) (f : ℕ → ℕ → ℕ → A) (x : A)
      → ((s p n : ℕ) → e ≡ Event.receives s p n → P (f s p n)) → P x → P (if_waits (standing_at e) f x)
  unfolding standing_at if_waits
  waits-ind (Event.new r) f x g h = h
  waits-ind (Event.sends s is) f x g h = h
  waits-ind (Event.receives s p n) f x g h = g s p n refl
  waits-ind (Event.checks p i) f x g h = h
  waits-ind (Event.opens p q n i) f x g h = h
  waits-ind (Event.ends ps) f x g h = h
