-- Passing over several things, one turn at a time, whatever is passed over. Assumes nothing.
use Rattle.std.specs.Prelude.{ℕ, suc, ◌+◌, ◌-◌, ◌≤◌, ◌<◌, List, ◌≡◌, length, drop}
use Rattle.std.proofs.Common.{◌∙◌, ap, arith}
use Rattle.std.proofs.Math.Option.{Option, none, some}
use Rattle.std.proofs.Math.Path.{refl}
use Rattle.words.specs.Choice.{then}
use Rattle.spans.specs.Behind.{At, times}

module _ (skip : List ℕ → Option (List ℕ)) where
  times_none : (k : ℕ) (u : List ℕ) → skip u ≡ none → times skip (suc k) u ≡ none
  unfolding times then
  times_none k u e = rw (e, then)

  times-some : (k : ℕ) (u v : List ℕ) → skip u ≡ some v → times skip (suc k) u ≡ times skip k v
  unfolding times then
  times-some k u v e = rw (e, then)

  times_zero : (u : List ℕ) → times skip 0 u ≡ some u
  unfolding times
  times_zero u = refl

  -- k of them from the place a: at the place i, j of them are behind
  pub record Walk (w : List ℕ) (a k i j : ℕ) : Type 0 where
    pub same : times skip k (drop a w) ≡ times skip (k - j) (drop i w)
    pub low : 0 < i
    pub after : a ≤ i
    pub inside : i ≤ length w
    pub few : j ≤ k

  sub-zero : (k : ℕ) → k - 0 ≡ k
  sub-zero k = omega arith

  pub walk-begin : (w : List ℕ) (a k : ℕ) → 0 < a → a ≤ length w → Walk w a k a 0
  walk-begin w a k l h = record { same = rw (sub-zero k); low = l; after = omega arith; inside = h; few = omega arith }

  module _ (w : List ℕ) (a k i j : ℕ) (t : Walk w a k i j) where
    one_more : j < k → k - j ≡ suc (k - (j + 1))
    one_more h = omega arith

    pub walk_none : j < k → skip (drop i w) ≡ none → times skip k (drop a w) ≡ none
    walk_none h e = t.same ∙ rw (one_more h) (times_none (k - (j + 1)) (drop i w) e)

    pub walk-again : j < k → (r : ℕ) → At w i (skip (drop i w)) r → Walk w a k r (j + 1)
    walk-again h r b =
        record {
          same = t.same ∙ rw (one_more h) (times-some (k - (j + 1)) (drop i w) (drop r w) b.rest);
          low = b.some_word;
          after = omega (arith, t.after, b.after);
          inside = b.inside;
          few = omega arith;
        }

    pub walk-done : k ≤ j → At w a (times skip k (drop a w)) i
    walk-done h =
        let z : k - j ≡ 0 = omega arith in
        record {
          some_word = t.low;
          after = t.after;
          inside = t.inside;
          rest = t.same ∙ ap (λ (m : ℕ). times skip m (drop i w)) z ∙ times_zero (drop i w);
        }
