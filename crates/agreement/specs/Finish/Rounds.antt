-- Going round and round is fair: every party's own move, and every step's handing over, comes again after any time.
use Rattle.std.specs.Prelude.{ℕ, zero, suc, ◌+◌, ◌-◌, ◌≤◌, ◌≡◌, refl}
use native.Mathlib.Omega.{arith}
use Rattle.std.proofs.Common.{ap, ◌∙◌}
use Rattle.translation.specs.Narration.{Narration}
use Rattle.agreement.specs.Machine.{System, Move}
use Rattle.agreement.specs.Finish.{Round, next_in, round_at, rounds, Fair}

abbrev at : ℕ → Move → Round
at r m = record { number = r; now = m }

-- it comes, at time n or later
abbrev Later : ℕ → Round → Type 0
Later n x = (k : ℕ) × (n ≤ k) × (round_at k ≡ x)

-- ---- one move on
on : (n : ℕ) {r : ℕ} {m : Move} → round_at n ≡ at r m → round_at (suc n) ≡ next_in r m
unfolding round_at
on n e = ap (λ (x : Round). next_in x.number x.now) e

-- from one party's move down to another's, and from one step down to another
own-down : (d p q r n : ℕ) → q ≡ d + p → round_at n ≡ at r (Move.own q) → Later n (at r (Move.own p))
own-down zero p q r n h e = let z : q ≡ p = omega arith in (n, omega arith, e ∙ ap (λ x. at r (Move.own x)) z)
own-down (suc d) p zero r n h e = absurd (omega arith)
own-down (suc d) p (suc q) r n h e =
    let z = own-down d p q r (suc n) (omega arith) (unfold next_in in on n e) in
    let l = z.1 in
    (z.0, omega arith, z.2)

delivery-down : (d s t r n : ℕ) → t ≡ d + s → round_at n ≡ at r (Move.delivery t) → Later n (at r (Move.delivery s))
delivery-down zero s t r n h e = let z : t ≡ s = omega arith in (n, omega arith, e ∙ ap (λ x. at r (Move.delivery x)) z)
delivery-down (suc d) s zero r n h e = absurd (omega arith)
delivery-down (suc d) s (suc t) r n h e =
    let z = delivery-down d s t r (suc n) (omega arith) (unfold next_in in on n e) in
    let l = z.1 in
    (z.0, omega arith, z.2)

-- ---- from any move of round r
-- to the round's first handing over
to-deliveries : (p r n : ℕ) → round_at n ≡ at r (Move.own p) → Later n (at r (Move.delivery r))
to-deliveries p r n e =
    let z = own-down p 0 p r n (omega arith) e in
    let l = z.1 in
    (suc z.0, omega arith, unfold next_in in on z.0 z.2)

-- to the next round
past-deliveries : (s r n : ℕ) → round_at n ≡ at r (Move.delivery s) → Later n (at (suc r) (Move.own (suc r)))
past-deliveries s r n e =
    let z = delivery-down s 0 s r n (omega arith) e in
    let l = z.1 in
    (suc z.0, omega arith, unfold next_in in on z.0 z.2)

to-next : (m : Move) (r n : ℕ) → round_at n ≡ at r m → Later n (at (suc r) (Move.own (suc r)))
to-next (Move.own p) r n e =
    let z = to-deliveries p r n e in
    let y = past-deliveries r r z.0 z.2 in
    let l = z.1 in
    let k = y.1 in
    (y.0, omega arith, y.2)
to-next (Move.delivery s) r n e = past-deliveries s r n e

-- ---- from any time, to the start of a round as high as one likes
to_high : (j n : ℕ) → (r : ℕ) × (j ≤ r) × Later n (at r (Move.own r))
to_high zero n = (suc (round_at n).number, omega arith, to-next (round_at n).now (round_at n).number n refl)
to_high (suc j) n =
    let z = to_high j n in
    let y = to-next (Move.own z.0) z.0 z.2.0 z.2.2 in
    let h = z.1 in
    let l = z.2.1 in
    let k = y.1 in
    (suc z.0, omega arith, (y.0, omega arith, y.2))

own-again : (p n : ℕ) → (k : ℕ) × (n ≤ k) × (rounds k ≡ Move.own p)
own-again p n =
    let z = to_high p n in
    let h = z.1 in
    let y = own-down (z.0 - p) p z.0 z.0 z.2.0 (omega arith) z.2.2 in
    let l = z.2.1 in
    let k = y.1 in
    (y.0, omega arith, ap (λ (x : Round). x.now) y.2)

delivery-again : (s n : ℕ) → (k : ℕ) × (n ≤ k) × (rounds k ≡ Move.delivery s)
delivery-again s n =
    let z = to_high s n in
    let h = z.1 in
    let w = to-deliveries z.0 z.0 z.2.0 z.2.2 in
    let y = delivery-down (z.0 - s) s z.0 z.0 w.0 (omega arith) w.2 in
    let l = z.2.1 in
    let i = w.1 in
    let k = y.1 in
    (y.0, omega arith, ap (λ (x : Round). x.now) y.2)

-- for any narration, number of parties and start
pub round-fair : (N : Narration) (Q : ℕ) (S : System) → Fair N Q rounds S
round-fair N Q S = record { parties = λ p n l. own-again p n; carrier = λ s n ts e. delivery-again s n }
