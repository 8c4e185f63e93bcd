-- Laws: how far a program is done, what its next event is, and where its SENDs and RECEIVEs stand by then. Assumes nothing.
use Prim.Native.Nat.{ℕ, suc, ◌≤◌}
use native.Mathlib.Omega.{arith}
use Rattle.std.specs.Prelude.{Bool, true, List, ◌∷◌, ◌≡◌}
use Rattle.std.proofs.Common.{true≢false, sym, ◌∙◌, subst, eqb-true}
use Rattle.words.specs.Choice.Laws.{pick_ind}
use Rattle.translation.specs.Receive.{Event}
use Rattle.translation.specs.Narration.{Narration}
use Rattle.translation.specs.Standing.Laws.{sends-ind, waits-ind}
use Rattle.translation.specs.Places.{place_of, is_send, is_receive}
use Rattle.agreement.specs.Order.{Rising, Of, Among}
use Rattle.agreement.specs.Order.Laws.{rising-once, rising-left}

-- ---- behind the first n events of a list, a list is left
pub data Behind : ℕ → List Event → List Event → Type 0 where
  all : {es : List Event} → Behind 0 es es
  past : {n : ℕ} {e : Event} {es fs : List Event} → Behind n es fs → Behind (suc n) (e ∷ es) fs

pub behind-next : {n : ℕ} {e : Event} {es fs : List Event} → Behind n es (e ∷ fs) → Behind (suc n) es fs
behind-next Behind.all = Behind.past Behind.all
behind-next (Behind.past h) = Behind.past (behind-next h)

behind-among : {s n : ℕ} {es fs : List Event} → Behind n es fs → Among s fs → Among s es
behind-among Behind.all k = k
behind-among (Behind.past h) k = Among.later (behind-among h k)

-- ---- place_of, for any test
module _ (t : Event → Bool) where
  -- an event that passes doesn't stand before the first that does
  pub place-upto : {n : ℕ} {e : Event} {es fs : List Event} → Behind n es (e ∷ fs) → t e ≡ true → place_of t es ≤ n
  unfolding place_of
  place-upto {e = e} Behind.all k = pick_ind (λ i. i ≤ 0) (t e) _ _ (λ q. omega arith) (λ q. absurd (true≢false (sym k ∙ q)))
  place-upto {n = suc n} (Behind.past {e = x} h) k = let a = place-upto h k in pick_ind (λ i. i ≤ suc n) (t x) _ _ (λ q. omega arith) (λ q. omega arith)

  -- the event at the place, where there is one, passes
  pub place-passes : {n : ℕ} {e : Event} {es fs : List Event} → Behind n es (e ∷ fs) → place_of t es ≡ n → t e ≡ true
  unfolding place_of
  place-passes {e = e} Behind.all z = pick_ind (λ i. i ≡ 0 → t e ≡ true) (t e) _ _ (λ q y. q) (λ q y. absurd (omega arith)) z
  place-passes {n = suc n} {e = e} (Behind.past {e = x} h) z =
      pick_ind (λ i. i ≡ suc n → t e ≡ true) (t x) _ _ (λ q y. absurd (omega arith)) (λ q y. place-passes h (omega arith)) z

  -- where the test passes events of step s only, and one of that step is left, none that passes was done
  pub rising-place : {N : Narration} {p low s n : ℕ} {es fs : List Event} → ((e : Event) → t e ≡ true → Of s e) → Rising N p low es
      → Behind n es fs → Among s fs → n ≤ place_of t es
  unfolding place_of
  rising-place f h Behind.all k = omega arith
  rising-place {n = suc n} f h (Behind.past {e = x} b) k =
      let a = rising-place f (rising-left h (behind-among b k)) b k in
      pick_ind (λ i. suc n ≤ i) (t x) _ _ (λ q. absurd (rising-once h (behind-among b k) (f x q))) (λ q. omega arith)

-- ---- the tests for a step
pub send-of : (s : ℕ) (e : Event) → is_send s e ≡ true → Of s e
unfolding is_send
send-of s e =
    sends-ind (λ t. t ≡ true → Of s e) e _ _
    (λ a is z k. subst (Of s) (sym z) (subst (λ i. Of i (Event.sends a is)) (eqb-true a s k) Of.sends)) (λ k. absurd (true≢false (sym k)))

pub receive-of : (s : ℕ) (e : Event) → is_receive s e ≡ true → Of s e
unfolding is_receive
receive-of s e =
    waits-ind (λ t. t ≡ true → Of s e) e _ _
    (λ a f n z k. subst (Of s) (sym z) (subst (λ i. Of i (Event.receives a f n)) (eqb-true a s k) Of.receives)) (λ k. absurd (true≢false (sym k)))
