-- Laws of where things end. Assumes nothing.
use Rattle.std.specs.Prelude.{ℕ, zero, suc, ◌+◌, ◌*◌, ◌-◌, ◌≤◌, ◌<◌, List, [], ◌∷◌, ◌≡◌, refl, length}
use Rattle.std.specs.Prelude.{Option as Answer, None, Some, IsSome}
use Rattle.std.proofs.Common.{sym, ◌∙◌, ap, subst, arith}
use Rattle.std.proofs.Math.Option.{Option, none, some}
use Rattle.words.specs.Choice.{then}
use Rattle.typing.specs.Term.{Term}
use Rattle.typing.specs.Reading.{Read, ahead, joined, altered, after, terms, only, term}
use Rattle.spans.specs.Behind.{rest_of, At, Ends, term_turn}

-- ---- rest_of
pub rest-ahead : {A : Type 0} (a : A) (r : Read (List A)) → rest_of (ahead a r) ≡ rest_of r
unfolding rest_of ahead then
rest-ahead a none = refl
rest-ahead a (some p) = refl

pub rest-after : {A B : Type 0} (f : A → B) (r : Read A) → rest_of (after f r) ≡ rest_of r
unfolding rest_of after then
rest-after f none = refl
rest-after f (some p) = refl

-- ---- Ends
pub ends-none : (w : List ℕ) (a : ℕ) (o : Option (List ℕ)) (r : Answer ℕ) → Ends w a o r → r ≡ None → o ≡ none
ends-none w a o None h e = h
ends-none w a o (Some r) h e = absurd (let z : ◌≡◌ {A = ℕ} 0 1 = cc in omega arith)

pub ends_at : (w : List ℕ) (a : ℕ) (o : Option (List ℕ)) (r : Answer ℕ) (e : ℕ) → Ends w a o r → r ≡ Some e → At w a o e
ends_at w a o None e h q = absurd (let z : ◌≡◌ {A = ℕ} 0 1 = cc in omega arith)
ends_at w a o (Some r) e h q = subst (λ (n : ℕ). At w a o n) (let s : r ≡ e = cc in s) h

pub ends-nothing : (w : List ℕ) (a : ℕ) (o : Option (List ℕ)) (r : Answer ℕ) → r ≡ None → o ≡ none → Ends w a o r
ends-nothing w a o None e h = h
ends-nothing w a o (Some r) e h = absurd (let z : ◌≡◌ {A = ℕ} 0 1 = cc in omega arith)

-- where something was read, there is a place
pub ends_some : (w : List ℕ) (a : ℕ) (o : Option (List ℕ)) (v : List ℕ) (r : Answer ℕ) → Ends w a o r → o ≡ some v → IsSome r
ends_some w a o v None h e = absurd (let z : ◌≡◌ {A = ℕ} 0 1 = cc in omega arith)
ends_some w a o v (Some r) h e = refl

-- what is read further on
pub ends_as : (w : List ℕ) (a b : ℕ) (o p : Option (List ℕ)) (r : Answer ℕ) → a ≤ b → o ≡ p → Ends w b p r → Ends w a o r
ends_as w a b o p None l e h = e ∙ h
ends_as w a b o p (Some r) l e h =
    record { some_word = h.some_word; after = omega (arith, h.after); inside = h.inside; rest = e ∙ h.rest }

-- ---- terms
-- the first word of a term
pub terms-nothing : (c m : ℕ) (u : List ℕ) → term_turn c ≡ 0 → rest_of (terms (c ∷ u) (suc m)) ≡ none
unfolding terms term_turn rest_of
terms-nothing zero m u e = refl
terms-nothing (suc zero) m u e = absurd (omega arith)
terms-nothing (suc (suc zero)) m u e = absurd (omega arith)
terms-nothing (suc (suc (suc zero))) m u e = absurd (omega arith)
terms-nothing (suc (suc (suc (suc zero)))) m u e = absurd (omega arith)
terms-nothing (suc (suc (suc (suc (suc c))))) m u e = refl

pub terms-two : (c m : ℕ) (u : List ℕ) → term_turn c ≡ 2 → rest_of (terms (c ∷ u) (suc m)) ≡ rest_of (terms u (suc (suc m)))
unfolding terms term_turn
terms-two zero m u e = absurd (omega arith)
terms-two (suc zero) m u e = absurd (omega arith)
terms-two (suc (suc zero)) m u e = rest-after _ _
terms-two (suc (suc (suc zero))) m u e = rest-after _ _
terms-two (suc (suc (suc (suc zero)))) m u e = absurd (omega arith)
terms-two (suc (suc (suc (suc (suc c))))) m u e = absurd (omega arith)

pub terms-one : (c m n : ℕ) (u : List ℕ) → term_turn c ≡ 1 → rest_of (terms (c ∷ n ∷ u) (suc m)) ≡ rest_of (terms u m)
unfolding terms term_turn
terms-one zero m n u e = absurd (omega arith)
terms-one (suc zero) m n u e = rest-ahead _ _
terms-one (suc (suc zero)) m n u e = absurd (omega arith)
terms-one (suc (suc (suc zero))) m n u e = absurd (omega arith)
terms-one (suc (suc (suc (suc zero)))) m n u e = rest-ahead _ _
terms-one (suc (suc (suc (suc (suc c))))) m n u e = absurd (omega arith)

pub terms-cut : (c m : ℕ) → term_turn c ≡ 1 → rest_of (terms (c ∷ []) (suc m)) ≡ none
unfolding terms term_turn rest_of
terms-cut zero m e = absurd (omega arith)
terms-cut (suc zero) m e = refl
terms-cut (suc (suc zero)) m e = absurd (omega arith)
terms-cut (suc (suc (suc zero))) m e = absurd (omega arith)
terms-cut (suc (suc (suc (suc zero)))) m e = refl
terms-cut (suc (suc (suc (suc (suc c))))) m e = absurd (omega arith)

pub terms-empty : (m : ℕ) → rest_of (terms [] (suc m)) ≡ none
unfolding terms rest_of
terms-empty m = refl

pub terms-zero : (u : List ℕ) → rest_of (terms u 0) ≡ some u
unfolding terms rest_of
terms-zero [] = refl
terms-zero (c ∷ u) = refl

pub turn_small : (c : ℕ) → term_turn c ≤ 2
unfolding term_turn
turn_small zero = omega arith
turn_small (suc zero) = omega arith
turn_small (suc (suc zero)) = omega arith
turn_small (suc (suc (suc zero))) = omega arith
turn_small (suc (suc (suc (suc zero)))) = omega arith
turn_small (suc (suc (suc (suc (suc c))))) = omega arith

-- ---- what was read is the list and the words behind it
read-list : {A : Type 0} (k l : List A) (u v : List ℕ) → ◌≡◌ {A = Read (List A)} (some (k, u)) (some (l, v)) → l ≡ k
read-list {A} k l u v e =
    let q : ◌≡◌ {A = List A × List ℕ} (k, u) (l, v) = cc in
    sym (ap (λ (z : List A × List ℕ). z.0) q)

-- ---- as many are read as are due
abbrev pub Counted : {A : Type 0} → ℕ → Read (List A) → Type 0
Counted {A} m r = (l : List A) (v : List ℕ) → r ≡ some (l, v) → length l ≡ m

pub counted-ahead : {A : Type 0} (a : A) (m : ℕ) (r : Read (List A)) → Counted m r → Counted (suc m) (ahead a r)
unfolding ahead then
counted-ahead a m none h l v e = absurd (let z : ◌≡◌ {A = ℕ} 0 1 = cc in omega arith)
counted-ahead {A} a m (some p) h l v e =
    let s = read-list (a ∷ p.0) l p.1 v e in
    ap length s ∙ ap suc (h p.0 p.1 refl)

pub counted-joined : {A : Type 0} (f : A → A → A) (m : ℕ) (r : Read (List A)) → Counted (suc (suc m)) r → Counted (suc m) (after (joined f) r)
unfolding after then joined
counted-joined f m none h l v e = absurd (let z : ◌≡◌ {A = ℕ} 0 1 = cc in omega arith)
counted-joined {A} f m (some p) h l v e =
    let s = read-list (joined f p.0) l p.1 v e in
    ap length s ∙ two p.0 (h p.0 p.1 refl)
  where
    two : (k : List A) → length k ≡ suc (suc m) → length (joined f k) ≡ suc m
    two [] d = absurd (omega arith)
    two (x ∷ []) d = absurd (omega arith)
    two (x ∷ y ∷ k) d = omega arith

pub counted-altered : {A : Type 0} (f : A → A) (m : ℕ) (r : Read (List A)) → Counted (suc m) r → Counted (suc m) (after (altered f) r)
unfolding after then altered
counted-altered f m none h l v e = absurd (let z : ◌≡◌ {A = ℕ} 0 1 = cc in omega arith)
counted-altered {A} f m (some p) h l v e =
    let s = read-list (altered f p.0) l p.1 v e in
    ap length s ∙ one p.0 (h p.0 p.1 refl)
  where
    one : (k : List A) → length k ≡ suc m → length (altered f k) ≡ suc m
    one [] d = absurd (omega arith)
    one (x ∷ k) d = omega arith

pub counted_none : {A : Type 0} (m : ℕ) → Counted {A = A} m none
counted_none m l v e = absurd (let z : ◌≡◌ {A = ℕ} 0 1 = cc in omega arith)

pub counted-zero : {A : Type 0} (u : List ℕ) → Counted {A = A} 0 (some ([], u))
counted-zero {A} u l v e = ap length (read-list [] l u v e)

pub counted-then : {A B : Type 0} (r : Read A) (f : A × List ℕ → Read (List B)) (m : ℕ) → ((p : A × List ℕ) → Counted m (f p))
    → Counted m (then r f)
unfolding then
counted-then none f m h l v e = absurd (let z : ◌≡◌ {A = ℕ} 0 1 = cc in omega arith)
counted-then (some p) f m h l v e = h p l v e

-- the one that is read is all that was
pub rest-only : {A : Type 0} (r : Read (List A)) → Counted 1 r → rest_of (only r) ≡ rest_of r
unfolding rest_of only then
rest-only none h = refl
rest-only {A} (some p) h = go p.0 p.1 (h p.0 p.1 refl)
  where
    go : (l : List A) (v : List ℕ) → length l ≡ 1
        → rest_of {A = A} (elim l as (λ _. Read A) [ [] ↦ none | a ∷ k ↦ some (a, v) ]) ≡ some v
    go [] v d = absurd (omega arith)
    go (a ∷ k) v d = refl

pub terms-counted : (u : List ℕ) (m : ℕ) → Counted m (terms u m)
unfolding terms
terms-counted [] zero = counted-zero []
terms-counted [] (suc m) = counted_none (suc m)
terms-counted (c ∷ u) zero = counted-zero (c ∷ u)
terms-counted (zero ∷ u) (suc m) = counted_none (suc m)
terms-counted (suc zero ∷ []) (suc m) = counted_none (suc m)
terms-counted (suc zero ∷ n ∷ u) (suc m) = counted-ahead (Term.name n) m (terms u m) (terms-counted u m)
terms-counted (suc (suc zero) ∷ u) (suc m) = counted-joined Term.pair m (terms u (suc (suc m))) (terms-counted u (suc (suc m)))
terms-counted (suc (suc (suc zero)) ∷ u) (suc m) = counted-joined Term.cipher m (terms u (suc (suc m))) (terms-counted u (suc (suc m)))
terms-counted (suc (suc (suc (suc zero))) ∷ []) (suc m) = counted_none (suc m)
terms-counted (suc (suc (suc (suc zero))) ∷ k ∷ u) (suc m) = counted-ahead (Term.bound k) m (terms u m) (terms-counted u m)
terms-counted (suc (suc (suc (suc (suc c)))) ∷ u) (suc m) = counted_none (suc m)

pub rest-term : (u : List ℕ) → rest_of (term u) ≡ rest_of (terms u 1)
unfolding term
rest-term u = rest-only (terms u 1) (terms-counted u 1)

pub due-more : (due n : ℕ) → n ≡ 2 → 0 < due → due + 2 * n - 3 ≡ suc (suc (due - 1))
due-more due n e l = omega arith

pub due-less : (due n : ℕ) → n ≡ 1 → 0 < due → due + 2 * n - 3 ≡ due - 1
due-less due n e l = omega arith

pub few-more : (due i : ℕ) → due ≤ i + 1 → 0 < due → suc (suc (due - 1)) ≤ suc i + 1
few-more due i h l = omega arith

pub few-less : (due i : ℕ) → due ≤ i + 1 → due - 1 ≤ suc (suc i) + 1
few-less due i h = omega arith
