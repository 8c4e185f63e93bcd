-- Where types end, one turn at a time. Assumes nothing.
use Rattle.std.specs.Prelude.{ℕ, zero, suc, ◌+◌, ◌≤◌, ◌<◌, List, [], ◌∷◌, ◌≡◌, refl, length, drop, get_or}
use Rattle.std.proofs.Common.{◌∙◌, arith, add-one, drop-cons}
use Rattle.std.proofs.Math.Option.{Option, none, some}
use Rattle.words.specs.Choice.{then}
use Rattle.typing.specs.Bag.{bag}
use Rattle.typing.specs.Types.{Ty}
use Rattle.typing.specs.Reading.{joined, altered, effects, with_effects, types, type_at}
use Rattle.spans.specs.Behind.{rest_of, At, nested, nested_one, skip_type, skip_effects, type_own, type_parts}
use Rattle.spans.specs.Behind.Laws.{rest-ahead, rest-after, Counted, counted-ahead, counted-joined, counted-altered, counted_none, counted-zero, counted-then, rest-only}
use Rattle.spans.specs.Behind.Effects.{then-none, then_some}

-- ---- type_parts
pub parts-two : (c : ℕ) → c ≡ 2 → 2 ≡ type_parts c
unfolding type_parts
parts-two c e = rw e

pub parts-one : (c : ℕ) → 3 ≤ c → c ≤ 4 → 1 ≡ type_parts c
unfolding type_parts
parts-one zero d e = absurd (omega arith)
parts-one (suc zero) d e = absurd (omega arith)
parts-one (suc (suc zero)) d e = absurd (omega arith)
parts-one (suc (suc (suc zero))) d e = refl
parts-one (suc (suc (suc (suc zero)))) d e = refl
parts-one (suc (suc (suc (suc (suc c))))) d e = absurd (omega arith)

pub parts-none : (c : ℕ) → (2 ≤ c → 4 < c) → 0 ≡ type_parts c
unfolding type_parts
parts-none zero d = refl
parts-none (suc zero) d = refl
parts-none (suc (suc zero)) d = absurd (omega arith)
parts-none (suc (suc (suc zero))) d = absurd (omega arith)
parts-none (suc (suc (suc (suc zero)))) d = absurd (omega arith)
parts-none (suc (suc (suc (suc (suc c))))) d = refl

-- ---- type_own
own-small : (c : ℕ) (u : List ℕ) → 1 ≤ c → c ≤ 4 → type_own (c ∷ u) ≡ some u
unfolding type_own
own-small zero u d e = absurd (omega arith)
own-small (suc zero) u d e = refl
own-small (suc (suc zero)) u d e = refl
own-small (suc (suc (suc zero))) u d e = refl
own-small (suc (suc (suc (suc zero)))) u d e = refl
own-small (suc (suc (suc (suc (suc c))))) u d e = absurd (omega arith)

own-none : (c : ℕ) (u : List ℕ) → (c ≡ 5 → ⊥) → (1 ≤ c → 4 < c) → type_own (c ∷ u) ≡ none
unfolding type_own
own-none zero u d e = refl
own-none (suc zero) u d e = absurd (omega arith)
own-none (suc (suc zero)) u d e = absurd (omega arith)
own-none (suc (suc (suc zero))) u d e = absurd (omega arith)
own-none (suc (suc (suc (suc zero)))) u d e = absurd (omega arith)
own-none (suc (suc (suc (suc (suc zero))))) u d e = absurd (d refl)
own-none (suc (suc (suc (suc (suc (suc c)))))) u d e = refl

own-nonce : (u : List ℕ) → type_own (5 ∷ u) ≡ skip_effects u
unfolding type_own skip_effects
own-nonce [] = refl
own-nonce (n ∷ u) = refl

module _ (w : List ℕ) (i : ℕ) (l : i < length w) where
  pub type-small : 1 ≤ get_or w i 0 → get_or w i 0 ≤ 4 → At w (i + 1) (type_own (drop i w)) (i + 1)
  type-small d e =
      record {
        some_word = omega arith;
        after = omega arith;
        inside = omega arith;
        rest = rw (drop-cons w i 0 l, add-one) (own-small _ _ d e);
      }

  pub type-none : (get_or w i 0 ≡ 5 → ⊥) → (1 ≤ get_or w i 0 → 4 < get_or w i 0) → type_own (drop i w) ≡ none
  type-none d e = rw (drop-cons w i 0 l) (own-none _ _ d e)

  pub type-nonce : get_or w i 0 ≡ 5 → type_own (drop i w) ≡ skip_effects (drop (i + 1) w)
  type-nonce e = rw (drop-cons w i 0 l, e, add-one) (own-nonce (drop (suc i) w))

-- ---- types
pub types-stop : (f t : ℕ) (u : List ℕ) → type_own u ≡ none → rest_of (types (suc f) (suc t) u) ≡ none
unfolding types type_own rest_of with_effects
types-stop f t [] e = refl
types-stop f t (zero ∷ u) e = refl
types-stop f t (suc zero ∷ u) e = absurd (let z : ◌≡◌ {A = ℕ} 0 1 = cc in omega arith)
types-stop f t (suc (suc zero) ∷ u) e = absurd (let z : ◌≡◌ {A = ℕ} 0 1 = cc in omega arith)
types-stop f t (suc (suc (suc zero)) ∷ u) e = absurd (let z : ◌≡◌ {A = ℕ} 0 1 = cc in omega arith)
types-stop f t (suc (suc (suc (suc zero))) ∷ u) e = absurd (let z : ◌≡◌ {A = ℕ} 0 1 = cc in omega arith)
types-stop f t (suc (suc (suc (suc (suc zero)))) ∷ []) e = refl
types-stop f t (suc (suc (suc (suc (suc zero)))) ∷ n ∷ u) e = then-none (effects n u) _ e
types-stop f t (suc (suc (suc (suc (suc (suc c))))) ∷ u) e = refl

one_of : {u v : List ℕ} → ◌≡◌ {A = Option (List ℕ)} (some u) (some v) → u ≡ v
one_of e = cc

plus-zero : (t : ℕ) → t + 0 ≡ t
plus-zero t = omega arith

plus_one : (t : ℕ) → t + 1 ≡ suc t
plus_one t = omega arith

plus-two : (t : ℕ) → t + 2 ≡ suc (suc t)
plus-two t = omega arith

pub types-go : (f t c : ℕ) (u v : List ℕ) → type_own (c ∷ u) ≡ some v
    → rest_of (types (suc f) (suc t) (c ∷ u)) ≡ rest_of (types f (t + type_parts c) v)
unfolding types type_own type_parts with_effects
types-go f t zero u v e = absurd (let z : ◌≡◌ {A = ℕ} 0 1 = cc in omega arith)
types-go f t (suc zero) u v e = rest-ahead Ty.Un (types f t u) ∙ rw (← one_of e, plus-zero t)
types-go f t (suc (suc zero)) u v e = rest-after (joined Ty.pair) (types f (suc (suc t)) u) ∙ rw (← one_of e, plus-two t)
types-go f t (suc (suc (suc zero))) u v e = rest-after (altered Ty.channel) (types f (suc t) u) ∙ rw (← one_of e, plus_one t)
types-go f t (suc (suc (suc (suc zero)))) u v e = rest-after (altered Ty.symkey) (types f (suc t) u) ∙ rw (← one_of e, plus_one t)
types-go f t (suc (suc (suc (suc (suc zero))))) [] v e = absurd (let z : ◌≡◌ {A = ℕ} 0 1 = cc in omega arith)
types-go f t (suc (suc (suc (suc (suc zero))))) (n ∷ u) v e =
    then_some (effects n u) _ v _ e (λ es. rest-ahead (Ty.nonce (bag es)) (types f t v) ∙ rw (plus-zero t))
types-go f t (suc (suc (suc (suc (suc (suc c)))))) u v e = absurd (let z : ◌≡◌ {A = ℕ} 0 1 = cc in omega arith)

pub types-counted : (f t : ℕ) (u : List ℕ) → Counted t (types f t u)
unfolding types with_effects
types-counted zero zero u = counted-zero u
types-counted (suc f) zero u = counted-zero u
types-counted zero (suc t) u = counted_none (suc t)
types-counted (suc f) (suc t) [] = counted_none (suc t)
types-counted (suc f) (suc t) (zero ∷ u) = counted_none (suc t)
types-counted (suc f) (suc t) (suc zero ∷ u) = counted-ahead Ty.Un t (types f t u) (types-counted f t u)
types-counted (suc f) (suc t) (suc (suc zero) ∷ u) = counted-joined Ty.pair t (types f (suc (suc t)) u) (types-counted f (suc (suc t)) u)
types-counted (suc f) (suc t) (suc (suc (suc zero)) ∷ u) = counted-altered Ty.channel t (types f (suc t) u) (types-counted f (suc t) u)
types-counted (suc f) (suc t) (suc (suc (suc (suc zero))) ∷ u) = counted-altered Ty.symkey t (types f (suc t) u) (types-counted f (suc t) u)
types-counted (suc f) (suc t) (suc (suc (suc (suc (suc zero)))) ∷ []) = counted_none (suc t)
types-counted (suc f) (suc t) (suc (suc (suc (suc (suc zero)))) ∷ n ∷ u) =
    counted-then (effects n u) _ (suc t) (λ p. counted-ahead (Ty.nonce (bag p.0)) t (types f t p.1) (types-counted f t p.1))
types-counted (suc f) (suc t) (suc (suc (suc (suc (suc (suc c))))) ∷ u) = counted_none (suc t)

pub rest-type : (u : List ℕ) → rest_of (type_at u) ≡ rest_of (types (length u) 1 u)
unfolding type_at
rest-type u = rest-only (types (length u) 1 u) (types-counted (length u) 1 u)

pub types-zero : (f : ℕ) (u : List ℕ) → rest_of (types f 0 u) ≡ some u
unfolding types rest_of
types-zero zero u = refl
types-zero (suc f) u = refl

pub empty : (f t : ℕ) → rest_of (types f (suc t) []) ≡ none
unfolding types rest_of
empty zero t = refl
empty (suc f) t = refl

types-short : (t : ℕ) (u : List ℕ) → rest_of (types 0 (suc t) u) ≡ none
unfolding types rest_of
types-short t u = refl

-- ---- a type is its own words, and its parts behind them
types-nested : (t f : ℕ) (u : List ℕ) → rest_of (types f t u) ≡ nested type_own type_parts t f u
unfolding nested then
types-nested zero f u = types-zero f u
types-nested (suc t) zero u = types-short t u
types-nested (suc t) (suc f) [] = empty (suc f) t
types-nested (suc t) (suc f) (c ∷ u) = go (type_own (c ∷ u)) refl (λ v. types-nested (t + type_parts c) f v)
  where
    go : (o : Option (List ℕ)) → type_own (c ∷ u) ≡ o
        → ((v : List ℕ) → rest_of (types f (t + type_parts c) v) ≡ nested type_own type_parts (t + type_parts c) f v)
        → rest_of (types (suc f) (suc t) (c ∷ u)) ≡ then o (nested type_own type_parts (t + type_parts c) f)
    go none e h = types-stop f t (c ∷ u) e
    go (some v) e h = types-go f t c u v e ∙ h v

pub type-nested : (u : List ℕ) → skip_type u ≡ nested_one type_own type_parts u
type-nested u = rest-type u ∙ types-nested 1 (length u) u
