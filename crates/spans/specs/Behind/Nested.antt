-- Where things end that have words of their own and their parts behind them, one turn at a time, whatever they are. Assumes nothing.
use Rattle.std.specs.Prelude.{ℕ, zero, suc, ◌+◌, ◌-◌, ◌≤◌, ◌<◌, List, [], ◌∷◌, ◌≡◌, refl, length, drop, get_or}
use Rattle.std.proofs.Common.{◌∙◌, ap, arith, length-drop, drop_of_length-le, drop-cons}
use Rattle.std.proofs.Math.Option.{Option, none, some}
use Rattle.words.specs.Choice.{then}
use Rattle.spans.specs.Behind.{At, nested, nested_one}

-- reading on by two readers that are the same
pub then-same : {A B : Type 0} (o : Option A) (f g : A → Option B) → ((a : A) → f a ≡ g a) → then o f ≡ then o g
unfolding then
then-same none f g h = refl
then-same (some a) f g h = h a

module _ (own : List ℕ → Option (List ℕ)) (parts : ℕ → ℕ) where
  nested-zero : (f : ℕ) (u : List ℕ) → nested own parts 0 f u ≡ some u
  unfolding nested
  nested-zero f u = refl

  nested-empty : (m f : ℕ) → nested own parts (suc m) f [] ≡ none
  unfolding nested
  nested-empty m zero = refl
  nested-empty m (suc f) = refl

  nested-own : (m f q c : ℕ) (u : List ℕ) → q ≡ m + parts c
      → nested own parts (suc m) (suc f) (c ∷ u) ≡ then (own (c ∷ u)) (nested own parts q f)
  unfolding nested
  nested-own m f q c u e = ap (λ (n : ℕ). then (own (c ∷ u)) (nested own parts n f)) (let s : m + parts c ≡ q = omega arith in s)

  -- from the place a: at the place i, `due` of them are still to come
  pub record Walk (w : List ℕ) (a i due : ℕ) : Type 0 where
    pub fuel : ℕ
    pub enough : length w ≤ i + fuel
    pub same : nested_one own parts (drop a w) ≡ nested own parts due fuel (drop i w)
    pub few : due ≤ i + 1
    pub after : a ≤ i
    pub inside : due ≡ 0 → (0 < i) × (i ≤ length w)

  pub walk-begin : (w : List ℕ) (a : ℕ) → Walk w a a 1
  walk-begin w a =
      record {
        fuel = length (drop a w);
        enough = omega (arith, length-drop a w);
        same = refl;
        few = omega arith;
        after = omega arith;
        inside = λ e. absurd (omega arith);
      }

  sums : (due n p : ℕ) → 0 < due → n ≡ p → due + n - 1 ≡ due - 1 + p
  sums due n p h e = omega arith

  few-sum : (due n i r : ℕ) → due ≤ i + 1 → n ≤ 2 → i + 1 ≤ r → 0 < due → due + n - 1 ≤ r + 1
  few-sum due n i r d e f g = omega arith

  module _ (w : List ℕ) (a i due : ℕ) (t : Walk w a i due) where
    one_more : 0 < due → due ≡ suc (due - 1)
    one_more h = omega arith

    more-fuel : i < length w → t.fuel ≡ suc (t.fuel - 1)
    more-fuel l = omega (arith, t.enough)

    pub walk-past : 0 < due → length w ≤ i → nested_one own parts (drop a w) ≡ none
    walk-past h l =
        t.same ∙ ap (λ (m : ℕ). nested own parts m t.fuel (drop i w)) (one_more h)
        ∙ ap (λ (u : List ℕ). nested own parts (suc (due - 1)) t.fuel u) (drop_of_length-le w l) ∙ nested-empty (due - 1) t.fuel

    -- with a word at i, and q of them due behind its own words
    here : 0 < due → i < length w → (q : ℕ) → q ≡ due - 1 + parts (get_or w i 0)
        → nested own parts due t.fuel (drop i w) ≡ then (own (drop i w)) (nested own parts q (t.fuel - 1))
    here h l q e =
        ap (λ (f : ℕ). nested own parts due f (drop i w)) (more-fuel l)
        ∙ ap (λ (m : ℕ). nested own parts m (suc (t.fuel - 1)) (drop i w)) (one_more h)
        ∙ rw (drop-cons w i 0 l) (nested-own (due - 1) (t.fuel - 1) q (get_or w i 0) (drop (suc i) w) e)

    pub walk_none : 0 < due → i < length w → own (drop i w) ≡ none → nested_one own parts (drop a w) ≡ none
    unfolding then
    walk_none h l q = t.same ∙ here h l _ refl ∙ rw (q, then)

    pub walk-again : 0 < due → i < length w → (r : ℕ) → At w (i + 1) (own (drop i w)) r → (c n : ℕ)
        → c ≡ get_or w i 0 → n ≡ parts c → n ≤ 2 → Walk w a r (due + n - 1)
    unfolding then
    walk-again h l r b c n f e k =
        record {
          fuel = t.fuel - 1;
          enough = omega (arith, t.enough, b.after);
          same = t.same ∙ here h l (due + n - 1) (sums due n _ h (e ∙ ap parts f)) ∙ rw (b.rest, then);
          few = few-sum due n i r t.few k b.after h;
          after = omega (arith, t.after, b.after);
          inside = λ _. (b.some_word, b.inside);
        }

    pub walk-done : due ≤ 0 → At w a (nested_one own parts (drop a w)) i
    walk-done h =
        let z : due ≡ 0 = omega arith in
        let (b, l) = t.inside z in
        record {
          some_word = b;
          after = t.after;
          inside = l;
          rest = t.same ∙ ap (λ (m : ℕ). nested own parts m t.fuel (drop i w)) z ∙ nested-zero t.fuel (drop i w);
        }
