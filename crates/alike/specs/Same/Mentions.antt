-- The names of several effects, one turn at a time. Assumes nothing.
use Rattle.std.specs.Prelude.{ℕ, zero, suc, ◌+◌, ◌<◌, Bool, true, false, not, ◌&&◌, ◌||◌, List, [], ◌∷◌, ◌≡◌, refl, length, drop, get_or}
use Rattle.std.specs.List.{list_all}
use Rattle.std.proofs.Math.Bool.{or_assoc, or-false}
use Rattle.std.proofs.Math.Option.{some}
use Rattle.std.proofs.Math.Path.{sym, ap}
use Rattle.std.proofs.Common.{◌∙◌, add-one, drop-cons}
use native.Mathlib.Omega.{arith}
use Rattle.words.specs.Choice.Laws.{pick_ind}
use Rattle.typing.specs.Term.{Term, Effect, about, occurs, mentions, effect_words}
use Rattle.typing.specs.Bag.{up_to, insert, plus, bag}
use Rattle.typing.specs.Reading.{Read, after, term, effect_of}
use Rattle.spans.specs.Behind.{rest_of}
use Rattle.alike.specs.Same.{value_or, term_in, effect_in}
use Rattle.alike.specs.Same.Laws.{value_after}
use Rattle.alike.specs.Same.Each.{EffectAt}

-- an effect is about the term behind its word
about-after : (f : Term → Effect) → ((M : Term) → about (f M) ≡ M) → (r : Read Term) (v : List ℕ) → rest_of r ≡ some v
    → about (value_or (Effect.end (Term.bound 0)) (after f r)) ≡ value_or (Term.bound 0) r
about-after f g r v e =
    ap about (value_after f (Term.bound 0) (Effect.end (Term.bound 0)) r v e) ∙ g (value_or (Term.bound 0) r)

about-word : (c : ℕ) (u v : List ℕ) → rest_of (effect_of (c ∷ u)) ≡ some v → rest_of (term u) ≡ some v
    → about (value_or (Effect.end (Term.bound 0)) (effect_of (c ∷ u))) ≡ value_or (Term.bound 0) (term u)
unfolding effect_of about rest_of
about-word zero u v e h = cc
about-word (suc zero) u v e h = about-after Effect.end (λ M. refl) (term u) v h
about-word (suc (suc zero)) u v e h = about-after Effect.check (λ M. refl) (term u) v h
about-word (suc (suc (suc c))) u v e h = cc

about-term : (w : List ℕ) (i r : ℕ) → i < length w → rest_of (effect_of (drop i w)) ≡ some (drop r w)
    → rest_of (term (drop (i + 1) w)) ≡ some (drop r w)
    → about (effect_in w i) ≡ term_in w (i + 1)
unfolding effect_in term_in
about-term w i r l e h =
    let c = drop-cons w i 0 l in
    let s : drop (suc i) w ≡ drop (i + 1) w = ap (λ (k : ℕ). drop k w) (sym (add-one i)) in
    ap (λ (u : List ℕ). about (value_or (Effect.end (Term.bound 0)) (effect_of u))) c
    ∙ about-word (get_or w i 0) (drop (suc i) w) (drop r w) (rw c at e) (ap (λ (u : List ℕ). rest_of (term u)) s ∙ h)
    ∙ ap (λ (u : List ℕ). value_or (Term.bound 0) (term u)) s

-- ---- no effect has the name
unfoldable pub lacks : ℕ → Effect → Bool
lacks x e = not (occurs x (about e))

-- what is told of an effect's term is told of the effect
pub effect-lacks : (w : List ℕ) (x i e : ℕ) → EffectAt w i e → (r : Bool) → r ≡ not (occurs x (term_in w (i + 1))) → r ≡ lacks x (effect_in w i)
unfolding lacks
effect-lacks w x i e t r d =
    d ∙ ap (λ (M : Term). not (occurs x M)) (sym (about-term w i e (omega (arith, t.own.after, t.own.inside)) t.effect.rest t.own.rest))

pub all-lack : (x : ℕ) (es : List Effect) → not (list_all (lacks x) es) ≡ mentions x es
unfolding lacks mentions
all-lack x [] = refl
all-lack x (e ∷ es) = de-morgan (occurs x (about e)) (list_all (lacks x) es) ∙ ap (λ (b : Bool). occurs x (about e) || b) (all-lack x es)
  where
    de-morgan : (a b : Bool) → not (not a && b) ≡ (a || not b)
    de-morgan true b = refl
    de-morgan false b = refl

-- ---- a multiset has the names of its list
or_swap : (a b c : Bool) → (a || (b || c)) ≡ (b || (a || c))
or_swap true true c = refl
or_swap true false c = refl
or_swap false true c = refl
or_swap false false c = refl

mentions-insert : (x : ℕ) (e : Effect) (es : List Effect) → mentions x (insert e es) ≡ (occurs x (about e) || mentions x es)
unfolding mentions insert
mentions-insert x e [] = refl
mentions-insert x e (f ∷ es) =
    let h = mentions-insert x e es in
    pick_ind (λ (l : List Effect). mentions x l ≡ (occurs x (about e) || (occurs x (about f) || mentions x es)))
    (up_to (effect_words e) (effect_words f)) (e ∷ f ∷ es) (f ∷ insert e es) (λ _. refl)
    (λ _. ap (λ (b : Bool). occurs x (about f) || b) h ∙ or_swap (occurs x (about f)) (occurs x (about e)) (mentions x es))

mentions-plus : (x : ℕ) (es fs : List Effect) → mentions x (plus es fs) ≡ (mentions x es || mentions x fs)
unfolding mentions plus
mentions-plus x [] fs = refl
mentions-plus x (e ∷ es) fs =
    mentions-insert x e (plus es fs) ∙ ap (λ (b : Bool). occurs x (about e) || b) (mentions-plus x es fs)
    ∙ sym (or_assoc (occurs x (about e)) (mentions x es) (mentions x fs))

pub mentions-bag : (x : ℕ) (es : List Effect) → mentions x (bag es) ≡ mentions x es
unfolding mentions bag
mentions-bag x es = mentions-plus x es [] ∙ or-false (mentions x es)
