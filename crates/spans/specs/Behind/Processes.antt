-- Where processes end, one turn at a time. Assumes nothing.
use Prim.Native.Nat.{ℕ, zero, suc, ◌+◌, ◌-◌, ◌≤◌, ◌<◌}
use Rattle.std.specs.Prelude.{List, [], ◌∷◌, ◌⊎◌, ◌≡◌, eqb, length, drop, get_or}
use Rattle.std.proofs.Math.Logic.{inl, inr}
use Rattle.std.proofs.Math.Option.{Option, none, some}
use Rattle.std.proofs.Math.Path.{refl}
use Rattle.std.proofs.Common.{sym, ◌∙◌, ap, arith, add-one, drop_of_length-le, drop-cons, ne_eqb}
use Rattle.std.proofs.Math.Decide.{dec_lt, ℕ_discrete as dec_eq}
use Rattle.words.specs.Choice.{pick, then}
use Rattle.words.specs.Choice.Laws.{pick-false}
use Rattle.typing.specs.Term.{Term, Effect}
use Rattle.typing.specs.Bag.{bag}
use Rattle.typing.specs.Types.{Ty}
use Rattle.typing.specs.Reading.{Read, term, effects, type_at, with_effects, with_term, with_type, processes, process_at}
use Rattle.spans.specs.Behind.{rest_of, At, nested, nested_one, skip_name, skip_term, skip_type, skip_process, skip_effects, times, skips, process_own, process_parts}
use Rattle.spans.specs.Behind.Nested.{then-same}
use Rattle.spans.specs.Behind.Laws.{rest-ahead, rest-after, Counted, counted-ahead, counted-joined, counted-altered, counted_none, counted-zero, counted-then, rest-only}

-- ---- reading on, by what is passed over
pub then-assoc : {A B C : Type 0} (o : Option A) (f : A → Option B) (g : B → Option C) → then (then o f) g ≡ then o (λ a. then (f a) g)
unfolding then
then-assoc none f g = refl
then-assoc (some a) f g = refl

by-rest : {A B : Type 0} (r : Read A) (k : A → List ℕ → Read B) (g : List ℕ → Option (List ℕ))
    → ((a : A) (v : List ℕ) → rest_of (k a v) ≡ g v)
    → rest_of (then r (λ p. k p.0 p.1)) ≡ then (rest_of r) g
unfolding then rest_of
by-rest none k g h = refl
by-rest (some p) k g h = h p.0 p.1

with-term : {B : Type 0} (u : List ℕ) (k : Term → List ℕ → Read B) (g : List ℕ → Option (List ℕ))
    → ((M : Term) (v : List ℕ) → rest_of (k M v) ≡ g v) → rest_of (with_term u k) ≡ then (skip_term u) g
unfolding with_term
with-term u k g h = by-rest (term u) k g h

with-type : {B : Type 0} (u : List ℕ) (k : Ty → List ℕ → Read B) (g : List ℕ → Option (List ℕ))
    → ((T : Ty) (v : List ℕ) → rest_of (k T v) ≡ g v) → rest_of (with_type u k) ≡ then (skip_type u) g
unfolding with_type
with-type u k g h = by-rest (type_at u) k g h

with-effects : {B : Type 0} (u : List ℕ) (k : List Effect → List ℕ → Read B) (g : List ℕ → Option (List ℕ))
    → ((es : List Effect) (v : List ℕ) → rest_of (k es v) ≡ g v) → rest_of (with_effects u k) ≡ then (skip_effects u) g
unfolding with_effects skip_effects then rest_of
with-effects [] k g h = refl
with-effects (n ∷ u) k g h = by-rest (effects n u) (λ es v. k (bag es) v) g (λ es v. h (bag es) v)

-- ---- a process is its own words, and its parts behind them
pub processes-own : (f p q c : ℕ) (u : List ℕ) → q ≡ p + process_parts c
    → rest_of (processes (suc f) (suc p) (c ∷ u)) ≡ then (process_own (c ∷ u)) (λ v. rest_of (processes f q v))
unfolding processes process_own process_parts pick then skips times skip_name rest_of
processes-own f p q zero u e = refl
processes-own f p q (suc zero) [] e = refl
processes-own f p q (suc zero) (x ∷ u) e =
    let one : q ≡ suc p = omega arith in
    rw one (simp then-assoc (with-type u _ _ (λ _ v0. rest-after _ (processes f (suc p) v0))))
processes-own f p q (suc (suc zero)) u e =
    let one : q ≡ suc p = omega arith in
    rw one (simp then-assoc (with-term u _ _ (λ _ v0. with-term v0 _ _ (λ _ v1. rest-after _ (processes f (suc p) v1)))))
processes-own f p q (suc (suc (suc zero))) [] e = refl
processes-own f p q (suc (suc (suc zero))) (x ∷ u) e =
    let one : q ≡ suc p = omega arith in
    rw one (simp then-assoc (with-term u _ _ (λ _ v0. with-type v0 _ _ (λ _ v1. rest-after _ (processes f (suc p) v1)))))
processes-own f p q (suc (suc (suc (suc zero)))) u e =
    let two : q ≡ suc (suc p) = omega arith in
    rw two (rest-after _ (processes f (suc (suc p)) u))
processes-own f p q (suc (suc (suc (suc (suc zero))))) u e =
    let none_more : q ≡ p = omega arith in
    rw none_more (rest-ahead _ (processes f p u))
processes-own f p q (suc (suc (suc (suc (suc (suc zero)))))) [] e = refl
processes-own f p q (suc (suc (suc (suc (suc (suc zero)))))) (x ∷ []) e = refl
processes-own f p q (suc (suc (suc (suc (suc (suc zero)))))) (x ∷ y ∷ u) e =
    let one : q ≡ suc p = omega arith in
    rw one (simp then-assoc (with-term u _ _ (λ _ v0. with-type v0 _ _ (λ _ v1. with-type v1 _ _ (λ _ v2. rest-after _ (processes f (suc p) v2))))))
processes-own f p q (suc (suc (suc (suc (suc (suc (suc zero))))))) [] e = refl
processes-own f p q (suc (suc (suc (suc (suc (suc (suc zero))))))) (x ∷ u) e =
    let one : q ≡ suc p = omega arith in
    rw one (simp then-assoc (with-term u _ _ (λ _ v0. with-term v0 _ _ (λ _ v1. with-type v1 _ _ (λ _ v2. rest-after _ (processes f (suc p) v2))))))
processes-own f p q (suc (suc (suc (suc (suc (suc (suc (suc zero)))))))) [] e = refl
processes-own f p q (suc (suc (suc (suc (suc (suc (suc (suc zero)))))))) (x ∷ u) e =
    let one : q ≡ suc p = omega arith in
    rw one (simp then-assoc (with-term u _ _ (λ _ v0. with-term v0 _ _ (λ _ v1. with-type v1 _ _ (λ _ v2. rest-after _ (processes f (suc p) v2))))))
processes-own f p q (suc (suc (suc (suc (suc (suc (suc (suc (suc zero))))))))) u e =
    let one : q ≡ suc p = omega arith in
    rw one (simp then-assoc (with-term u _ _ (λ _ v0. rest-after _ (processes f (suc p) v0))))
processes-own f p q (suc (suc (suc (suc (suc (suc (suc (suc (suc (suc zero)))))))))) u e =
    let one : q ≡ suc p = omega arith in
    rw one (simp then-assoc (with-term u _ _ (λ _ v0. rest-after _ (processes f (suc p) v0))))
processes-own f p q (suc (suc (suc (suc (suc (suc (suc (suc (suc (suc (suc zero))))))))))) [] e = refl
processes-own f p q (suc (suc (suc (suc (suc (suc (suc (suc (suc (suc (suc zero))))))))))) (x ∷ u) e =
    let one : q ≡ suc p = omega arith in
    rw one (simp then-assoc (with-term u _ _ (λ _ v0. with-effects v0 _ _ (λ _ v1. rest-after _ (processes f (suc p) v1)))))
processes-own f p q (suc (suc (suc (suc (suc (suc (suc (suc (suc (suc (suc (suc zero)))))))))))) u e =
    let one : q ≡ suc p = omega arith in
    rw one (simp then-assoc (with-term u _ _ (λ _ v0. with-term v0 _ _ (λ _ v1. rest-after _ (processes f (suc p) v1)))))
processes-own f p q (suc (suc (suc (suc (suc (suc (suc (suc (suc (suc (suc (suc (suc c))))))))))))) u e = refl

counted-list : {B : Type 0} (u : List ℕ) (k : List Effect → List ℕ → Read (List B)) (m : ℕ)
    → ((es : List Effect) (v : List ℕ) → Counted m (k es v))
    → Counted m (with_effects u k)
unfolding with_effects
counted-list [] k m h = counted_none m
counted-list (n ∷ u) k m h = counted-then (effects n u) _ m (λ p. h (bag p.0) p.1)

pub processes-counted : (f p : ℕ) (u : List ℕ) → Counted p (processes f p u)
unfolding processes with_term with_type with_effects
processes-counted zero zero u = counted-zero u
processes-counted (suc f) zero u = counted-zero u
processes-counted zero (suc p) u = counted_none (suc p)
processes-counted (suc f) (suc p) [] = counted_none (suc p)
processes-counted (suc f) (suc p) (zero ∷ u) = counted_none (suc p)
processes-counted (suc f) (suc p) (suc zero ∷ []) = counted_none (suc p)
processes-counted (suc f) (suc p) (suc zero ∷ x ∷ u) =
    counted-then (type_at u) _ (suc p) (λ v0. counted-altered _ p (processes f (suc p) v0.1) (processes-counted f (suc p) v0.1))
processes-counted (suc f) (suc p) (suc (suc zero) ∷ u) =
    counted-then (term u) _ (suc p) (λ v0. counted-then (term v0.1) _ (suc p) (λ v1. counted-altered _ p (processes f (suc p) v1.1) (processes-counted f
    (suc p) v1.1)))
processes-counted (suc f) (suc p) (suc (suc (suc zero)) ∷ []) = counted_none (suc p)
processes-counted (suc f) (suc p) (suc (suc (suc zero)) ∷ x ∷ u) =
    counted-then (term u) _ (suc p) (λ v0. counted-then (type_at v0.1) _ (suc p) (λ v1. counted-altered _ p (processes f (suc p) v1.1) (processes-counted
    f (suc p) v1.1)))
processes-counted (suc f) (suc p) (suc (suc (suc (suc zero))) ∷ u) = counted-joined _ p (processes f (suc (suc p)) u) (processes-counted f (suc (suc p)) u)
processes-counted (suc f) (suc p) (suc (suc (suc (suc (suc zero)))) ∷ u) = counted-ahead _ p (processes f p u) (processes-counted f p u)
processes-counted (suc f) (suc p) (suc (suc (suc (suc (suc (suc zero))))) ∷ []) = counted_none (suc p)
processes-counted (suc f) (suc p) (suc (suc (suc (suc (suc (suc zero))))) ∷ x ∷ []) = counted_none (suc p)
processes-counted (suc f) (suc p) (suc (suc (suc (suc (suc (suc zero))))) ∷ x ∷ y ∷ u) =
    counted-then (term u) _ (suc p) (λ v0. counted-then (type_at v0.1) _ (suc p) (λ v1. counted-then (type_at v1.1) _ (suc p) (λ v2. counted-altered _ p
    (processes f (suc p) v2.1) (processes-counted f (suc p) v2.1))))
processes-counted (suc f) (suc p) (suc (suc (suc (suc (suc (suc (suc zero)))))) ∷ []) = counted_none (suc p)
processes-counted (suc f) (suc p) (suc (suc (suc (suc (suc (suc (suc zero)))))) ∷ x ∷ u) =
    counted-then (term u) _ (suc p) (λ v0. counted-then (term v0.1) _ (suc p) (λ v1. counted-then (type_at v1.1) _ (suc p) (λ v2. counted-altered _ p
    (processes f (suc p) v2.1) (processes-counted f (suc p) v2.1))))
processes-counted (suc f) (suc p) (suc (suc (suc (suc (suc (suc (suc (suc zero))))))) ∷ []) = counted_none (suc p)
processes-counted (suc f) (suc p) (suc (suc (suc (suc (suc (suc (suc (suc zero))))))) ∷ x ∷ u) =
    counted-then (term u) _ (suc p) (λ v0. counted-then (term v0.1) _ (suc p) (λ v1. counted-then (type_at v1.1) _ (suc p) (λ v2. counted-altered _ p
    (processes f (suc p) v2.1) (processes-counted f (suc p) v2.1))))
processes-counted (suc f) (suc p) (suc (suc (suc (suc (suc (suc (suc (suc (suc zero)))))))) ∷ u) =
    counted-then (term u) _ (suc p) (λ v0. counted-altered _ p (processes f (suc p) v0.1) (processes-counted f (suc p) v0.1))
processes-counted (suc f) (suc p) (suc (suc (suc (suc (suc (suc (suc (suc (suc (suc zero))))))))) ∷ u) =
    counted-then (term u) _ (suc p) (λ v0. counted-altered _ p (processes f (suc p) v0.1) (processes-counted f (suc p) v0.1))
processes-counted (suc f) (suc p) (suc (suc (suc (suc (suc (suc (suc (suc (suc (suc (suc zero)))))))))) ∷ []) = counted_none (suc p)
processes-counted (suc f) (suc p) (suc (suc (suc (suc (suc (suc (suc (suc (suc (suc (suc zero)))))))))) ∷ x ∷ u) =
    counted-then (term u) _ (suc p) (λ v. counted-list v.1 _ (suc p) (λ es y. counted-altered _ p (processes f (suc p) y) (processes-counted f (suc p) y)))
processes-counted (suc f) (suc p) (suc (suc (suc (suc (suc (suc (suc (suc (suc (suc (suc (suc zero))))))))))) ∷ u) =
    counted-then (term u) _ (suc p) (λ v0. counted-then (term v0.1) _ (suc p) (λ v1. counted-altered _ p (processes f (suc p) v1.1) (processes-counted f
    (suc p) v1.1)))
processes-counted (suc f) (suc p) (suc (suc (suc (suc (suc (suc (suc (suc (suc (suc (suc (suc (suc c)))))))))))) ∷ u) = counted_none (suc p)

pub rest-process : (u : List ℕ) → rest_of (process_at u) ≡ rest_of (processes (length u) 1 u)
unfolding process_at
rest-process u = rest-only (processes (length u) 1 u) (processes-counted (length u) 1 u)

processes-zero : (f : ℕ) (u : List ℕ) → rest_of (processes f 0 u) ≡ some u
unfolding processes rest_of
processes-zero zero u = refl
processes-zero (suc f) u = refl

processes-short : (p : ℕ) (u : List ℕ) → rest_of (processes 0 (suc p) u) ≡ none
unfolding processes rest_of
processes-short p u = refl

pub processes-empty : (f p : ℕ) → rest_of (processes f (suc p) []) ≡ none
unfolding processes rest_of
processes-empty zero p = refl
processes-empty (suc f) p = refl

-- ---- a process is its own words, and its parts behind them
processes-nested : (p f : ℕ) (u : List ℕ) → rest_of (processes f p u) ≡ nested process_own process_parts p f u
unfolding nested
processes-nested zero f u = processes-zero f u
processes-nested (suc p) zero u = processes-short p u
processes-nested (suc p) (suc f) [] = processes-empty (suc f) p
processes-nested (suc p) (suc f) (c ∷ u) =
    processes-own f p (p + process_parts c) c u refl
    ∙ then-same (process_own (c ∷ u)) _ _ (λ v. processes-nested (p + process_parts c) f v)

pub process-nested : (u : List ℕ) → skip_process u ≡ nested_one process_own process_parts u
process-nested u = rest-process u ∙ processes-nested 1 (length u) u

-- ---- process_parts
pub parts-two : (c : ℕ) → c ≡ 4 → 2 ≡ process_parts c
unfolding process_parts pick
parts-two c e = rw e

pub parts-none : (c : ℕ) → c ≡ 5 → 0 ≡ process_parts c
unfolding process_parts pick
parts-none c e = rw e

pub parts-one : (c : ℕ) → (c ≡ 4 → ⊥) → (c ≡ 5 → ⊥) → 1 ≡ process_parts c
unfolding process_parts
parts-one c d e = sym (pick-false (eqb c 4) 2 _ (ne_eqb c 4 d) ∙ pick-false (eqb c 5) 0 1 (ne_eqb c 5 e))

-- ---- skips
zero_more : (a : ℕ) → a ≡ a + 0
zero_more a = omega arith

suc-more : (a n : ℕ) → suc a + n ≡ a + suc n
suc-more a n = omega arith

names-some : (n a : ℕ) (w : List ℕ) → a + n ≤ length w → times skip_name n (drop a w) ≡ some (drop (a + n) w)
unfolding times skip_name then
names-some zero a w l = ap (λ (i : ℕ). some (drop i w)) (zero_more a)
names-some (suc n) a w l =
    let h = names-some n (suc a) w (omega arith) in
    rw (drop-cons w a 0 (omega arith)) (h ∙ ap (λ (i : ℕ). some (drop i w)) (suc-more a n))

names-none : (n a : ℕ) (w : List ℕ) → length w < a + n → a ≤ length w → times skip_name n (drop a w) ≡ none
unfolding times skip_name then
names-none zero a w l k = absurd (omega arith)
names-none (suc n) a w l k = elim (dec_lt a (length w)) [
  | yes i ↦ let h = names-none n (suc a) w (omega arith) (omega arith) in rw (drop-cons w a 0 i) h
  | no i ↦ rw (drop_of_length-le w {i = a} (omega arith)) refl
]

module _ (w : List ℕ) (a n m t : ℕ) (in_words_lem : a ≤ length w) where
  pub skip-short : length w - a < n → skips n m t (drop a w) ≡ none
  unfolding skips then
  skip-short s = rw (names-none n a w (omega arith) in_words_lem, then)

  past-names : n ≤ length w - a → skips n m t (drop a w) ≡ then (times skip_term m (drop (a + n) w)) (times skip_type t)
  unfolding skips then
  past-names s = rw (names-some n a w (omega arith), then)

  pub skip-no-terms : n ≤ length w - a → times skip_term m (drop (a + n) w) ≡ none → skips n m t (drop a w) ≡ none
  unfolding then
  skip-no-terms s e = past-names s ∙ rw (e, then)

  pub skip-types : n ≤ length w - a → (e : ℕ) → At w (a + n) (times skip_term m (drop (a + n) w)) e
      → skips n m t (drop a w) ≡ times skip_type t (drop e w)
  unfolding then
  skip-types s e b = past-names s ∙ rw (b.rest, then)

-- ---- a list of effects behind its count
pub list-cut : (w : List ℕ) (a : ℕ) → length w ≤ a → skip_effects (drop a w) ≡ none
unfolding skip_effects
list-cut w a l = rw (drop_of_length-le w l) refl

pub list-effects : (w : List ℕ) (a n : ℕ) → a < length w → n ≡ get_or w a 0 → skip_effects (drop a w) ≡ rest_of (effects n (drop (a + 1) w))
unfolding skip_effects
list-effects w a n l e = rw (drop-cons w a 0 l, e, add-one)

-- ---- process_own, by the first word
own-other : (c : ℕ) (u : List ℕ) → (1 ≤ c → 12 < c) → process_own (c ∷ u) ≡ none
unfolding process_own
own-other zero u d = refl
own-other (suc zero) u d = absurd (omega arith)
own-other (suc (suc zero)) u d = absurd (omega arith)
own-other (suc (suc (suc zero))) u d = absurd (omega arith)
own-other (suc (suc (suc (suc zero)))) u d = absurd (omega arith)
own-other (suc (suc (suc (suc (suc zero))))) u d = absurd (omega arith)
own-other (suc (suc (suc (suc (suc (suc zero)))))) u d = absurd (omega arith)
own-other (suc (suc (suc (suc (suc (suc (suc zero))))))) u d = absurd (omega arith)
own-other (suc (suc (suc (suc (suc (suc (suc (suc zero)))))))) u d = absurd (omega arith)
own-other (suc (suc (suc (suc (suc (suc (suc (suc (suc zero))))))))) u d = absurd (omega arith)
own-other (suc (suc (suc (suc (suc (suc (suc (suc (suc (suc zero)))))))))) u d = absurd (omega arith)
own-other (suc (suc (suc (suc (suc (suc (suc (suc (suc (suc (suc zero))))))))))) u d = absurd (omega arith)
own-other (suc (suc (suc (suc (suc (suc (suc (suc (suc (suc (suc (suc zero)))))))))))) u d = absurd (omega arith)
own-other (suc (suc (suc (suc (suc (suc (suc (suc (suc (suc (suc (suc (suc c))))))))))))) u d = refl

own-as : (w : List ℕ) (i : ℕ) → i < length w → (k : ℕ) (o : List ℕ → Option (List ℕ)) → get_or w i 0 ≡ k
    → ((u : List ℕ) → process_own (k ∷ u) ≡ o u) → process_own (drop i w) ≡ o (drop (i + 1) w)
own-as w i l k o e f = rw (drop-cons w i 0 l, e, add-one) (f (drop (suc i) w))

module _ (w : List ℕ) (i : ℕ) (l : i < length w) where
  pub own_new : get_or w i 0 ≡ 1 → process_own (drop i w) ≡ skips 1 0 1 (drop (i + 1) w)
  unfolding process_own
  own_new e = own-as w i l 1 (skips 1 0 1) e (λ u. refl)

  pub own_out : (get_or w i 0 ≡ 2) ⊎ (get_or w i 0 ≡ 12) → process_own (drop i w) ≡ skips 0 2 0 (drop (i + 1) w)
  unfolding process_own
  own_out (inl e) = own-as w i l 2 (skips 0 2 0) e (λ u. refl)
  own_out (inr e) = own-as w i l 12 (skips 0 2 0) e (λ u. refl)

  pub own-inp : get_or w i 0 ≡ 3 → process_own (drop i w) ≡ skips 1 1 1 (drop (i + 1) w)
  unfolding process_own
  own-inp e = own-as w i l 3 (skips 1 1 1) e (λ u. refl)

  pub own-first : 4 ≤ get_or w i 0 → get_or w i 0 ≤ 5 → At w (i + 1) (process_own (drop i w)) (i + 1)
  unfolding process_own skips times then
  own-first d e =
      record {
        some_word = omega arith;
        after = omega arith;
        inside = omega arith;
        rest = elim (dec_eq (get_or w i 0) 4) [
          | yes f ↦ own-as w i l 4 some f (λ u. refl)
          | no f ↦ own-as w i l 5 some (omega arith) (λ u. refl)
        ];
      }

  pub own_split : get_or w i 0 ≡ 6 → process_own (drop i w) ≡ skips 2 1 2 (drop (i + 1) w)
  unfolding process_own
  own_split e = own-as w i l 6 (skips 2 1 2) e (λ u. refl)

  pub own-match : 7 ≤ get_or w i 0 → get_or w i 0 ≤ 8 → process_own (drop i w) ≡ skips 1 2 1 (drop (i + 1) w)
  unfolding process_own
  own-match d e = elim (dec_eq (get_or w i 0) 7) [
    | yes f ↦ own-as w i l 7 (skips 1 2 1) f (λ u. refl)
    | no f ↦ own-as w i l 8 (skips 1 2 1) (omega arith) (λ u. refl)
  ]

  pub own-begin : 9 ≤ get_or w i 0 → get_or w i 0 ≤ 10 → process_own (drop i w) ≡ skips 0 1 0 (drop (i + 1) w)
  unfolding process_own
  own-begin d e = elim (dec_eq (get_or w i 0) 9) [
    | yes f ↦ own-as w i l 9 (skips 0 1 0) f (λ u. refl)
    | no f ↦ own-as w i l 10 (skips 0 1 0) (omega arith) (λ u. refl)
  ]

  own-cast : get_or w i 0 ≡ 11 → process_own (drop i w) ≡ then (skips 1 1 0 (drop (i + 1) w)) skip_effects
  unfolding process_own
  own-cast c = own-as w i l 11 (λ u. then (skips 1 1 0 u) skip_effects) c (λ u. refl)

  pub own-cast-none : get_or w i 0 ≡ 11 → skips 1 1 0 (drop (i + 1) w) ≡ none → process_own (drop i w) ≡ none
  unfolding then
  own-cast-none c q = own-cast c ∙ rw (q, then)

  pub own-cast-list : get_or w i 0 ≡ 11 → (e : ℕ) → At w (i + 1) (skips 1 1 0 (drop (i + 1) w)) e → process_own (drop i w) ≡ skip_effects (drop e w)
  unfolding then
  own-cast-list c e b = own-cast c ∙ rw (b.rest, then)

  pub own-none : (1 ≤ get_or w i 0 → 12 < get_or w i 0) → process_own (drop i w) ≡ none
  own-none d = rw (drop-cons w i 0 l) (own-other (get_or w i 0) (drop (suc i) w) d)
