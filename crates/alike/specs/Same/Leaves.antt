-- The leaves of a term, one turn at a time. Assumes nothing.
use Prim.Native.Nat.{ℕ, zero, suc, ◌+◌, ◌-◌, ◌≤◌, ◌<◌}
use Rattle.std.specs.Prelude.{Bool, true, ◌&&◌, ◌||◌, drop, get_or}
use Rattle.std.proofs.Math.Bool.{false, not, or_assoc, or-false}
use mathlib.Core.List.{List, [], ◌∷◌}
use Rattle.std.proofs.Math.Option.{none, some}
use Rattle.std.proofs.Math.Path.{◌≡◌, refl, sym, ap}
use Rattle.std.proofs.Common.{◌∙◌, drop_of_length-le, drop-cons}
use native.Mathlib.Omega.{arith}
use Rattle.std.proofs.Math.Decide.{dec_lt}
use Rattle.std.proofs.Math.ListN.{length}
use Rattle.words.specs.Choice.{then}
use Rattle.typing.specs.Term.{Term, closed, occurs}
use Rattle.typing.specs.Reading.{Read, ahead, joined, after, terms, only, term}
use Rattle.spans.specs.Behind.{rest_of, At, term_turn}
use Rattle.spans.specs.Behind.Laws.{Counted, terms-counted, rest-term, terms-nothing, terms-two, terms-one, terms-cut, terms-empty}
use Rattle.alike.specs.Same.{value_or, term_in, any_leaf, any_leaves, is_name, is_bound, TellsLeaf}
use Rattle.alike.specs.Same.Laws.{some-not}

-- ---- what the tests are about
pub leaf-occurs : (x : ℕ) (M : Term) → any_leaf (is_name x) M ≡ occurs x M
unfolding any_leaf is_name occurs
leaf-occurs x (Term.name n) = refl
leaf-occurs x (Term.bound k) = refl
leaf-occurs x (Term.pair M N) = ap (λ (b : Bool). b || any_leaf (is_name x) N) (leaf-occurs x M) ∙ ap (λ (b : Bool). occurs x M || b) (leaf-occurs x N)
leaf-occurs x (Term.cipher M N) = ap (λ (b : Bool). b || any_leaf (is_name x) N) (leaf-occurs x M) ∙ ap (λ (b : Bool). occurs x M || b) (leaf-occurs x N)

de-morgan : (a b : Bool) → not (a || b) ≡ (not a && not b)
de-morgan true b = refl
de-morgan false b = refl

pub leaf-closed : (M : Term) → not (any_leaf is_bound M) ≡ closed M
unfolding any_leaf is_bound closed
leaf-closed (Term.name n) = refl
leaf-closed (Term.bound k) = refl
leaf-closed (Term.pair M N) =
    de-morgan (any_leaf is_bound M) (any_leaf is_bound N) ∙ ap (λ (b : Bool). b && not (any_leaf is_bound N)) (leaf-closed M)
    ∙ ap (λ (b : Bool). closed M && b) (leaf-closed N)
leaf-closed (Term.cipher M N) =
    de-morgan (any_leaf is_bound M) (any_leaf is_bound N) ∙ ap (λ (b : Bool). b && not (any_leaf is_bound N)) (leaf-closed M)
    ∙ ap (λ (b : Bool). closed M && b) (leaf-closed N)

-- ---- what was read, with one in front and with the first two put together
module _ (p : ℕ → ℕ → Bool) where
  leaves-ahead : (M : Term) (r : Read (List Term)) (z : List ℕ) → rest_of r ≡ some z
      → any_leaves p (value_or [] (ahead M r)) ≡ (any_leaf p M || any_leaves p (value_or [] r))
  unfolding rest_of ahead then value_or any_leaves
  leaves-ahead M none z h = cc
  leaves-ahead M (some q) z h = refl

  leaves-joined : (f : Term → Term → Term) → ((M N : Term) → any_leaf p (f M N) ≡ (any_leaf p M || any_leaf p N)) → (m : ℕ) (r : Read (List Term))
      → Counted (suc (suc m)) r → (z : List ℕ) → rest_of r ≡ some z → any_leaves p (value_or [] (after (joined f) r)) ≡ any_leaves p (value_or [] r)
  unfolding rest_of after then joined value_or any_leaves
  leaves-joined f g m none c z h = cc
  leaves-joined f g m (some q) c z h = go q.0 (c q.0 q.1 refl)
    where
      go : (l : List Term) → length l ≡ suc (suc m) → any_leaves p (joined f l) ≡ any_leaves p l
      go [] d = absurd (omega arith)
      go (M ∷ []) d = absurd (omega arith)
      go (M ∷ N ∷ l) d = ap (λ (b : Bool). b || any_leaves p l) (g M N) ∙ or_assoc (any_leaf p M) (any_leaf p N) (any_leaves p l)

  -- a word of two parts, and one of a leaf
  two-parts : (c m : ℕ) (u z : List ℕ) → term_turn c ≡ 2 → rest_of (terms u (suc (suc m))) ≡ some z
      → any_leaves p (value_or [] (terms (c ∷ u) (suc m))) ≡ any_leaves p (value_or [] (terms u (suc (suc m))))
  unfolding terms term_turn any_leaf
  two-parts zero m u z e h = absurd (omega arith)
  two-parts (suc zero) m u z e h = absurd (omega arith)
  two-parts (suc (suc zero)) m u z e h = leaves-joined Term.pair (λ M N. refl) m (terms u (suc (suc m))) (terms-counted u (suc (suc m))) z h
  two-parts (suc (suc (suc zero))) m u z e h = leaves-joined Term.cipher (λ M N. refl) m (terms u (suc (suc m))) (terms-counted u (suc (suc m))) z h
  two-parts (suc (suc (suc (suc zero)))) m u z e h = absurd (omega arith)
  two-parts (suc (suc (suc (suc (suc c))))) m u z e h = absurd (omega arith)

  one-leaf : (c m n : ℕ) (u z : List ℕ) → term_turn c ≡ 1 → rest_of (terms u m) ≡ some z
      → any_leaves p (value_or [] (terms (c ∷ n ∷ u) (suc m))) ≡ (p c n || any_leaves p (value_or [] (terms u m)))
  unfolding terms term_turn any_leaf
  one-leaf zero m n u z e h = absurd (omega arith)
  one-leaf (suc zero) m n u z e h = leaves-ahead (Term.name n) (terms u m) z h
  one-leaf (suc (suc zero)) m n u z e h = absurd (omega arith)
  one-leaf (suc (suc (suc zero))) m n u z e h = absurd (omega arith)
  one-leaf (suc (suc (suc (suc zero)))) m n u z e h = leaves-ahead (Term.bound n) (terms u m) z h
  one-leaf (suc (suc (suc (suc (suc c))))) m n u z e h = absurd (omega arith)

  one-term : (r : Read (List Term)) → Counted 1 r → (z : List ℕ) → rest_of r ≡ some z
      → any_leaf p (value_or (Term.bound 0) (only r)) ≡ any_leaves p (value_or [] r)
  unfolding rest_of value_or only then any_leaves
  one-term none c z e = cc
  one-term (some q) c z e = go q.0 q.1 (c q.0 q.1 refl)
    where
      go : (l : List Term) (x : List ℕ) → length l ≡ 1
          → any_leaf p (value_or (Term.bound 0) (elim l as (λ _. Read Term) [ [] ↦ none | a ∷ k ↦ some (a, x) ])) ≡ any_leaves p l
      go [] x d = absurd (omega arith)
      go (M ∷ []) x d = sym (or-false (any_leaf p M))
      go (M ∷ N ∷ l) x d = absurd (omega arith)

-- a first word of two parts is 2 or 3
turn-two : (c : ℕ) → 2 ≤ c → c < 4 → term_turn c ≡ 2
unfolding term_turn
turn-two zero d e = absurd (omega arith)
turn-two (suc zero) d e = absurd (omega arith)
turn-two (suc (suc zero)) d e = refl
turn-two (suc (suc (suc zero))) d e = refl
turn-two (suc (suc (suc (suc c)))) d e = absurd (omega arith)

turn-one : (c : ℕ) → (2 ≤ c → 4 ≤ c) → (term_turn c ≡ 0 → ⊥) → term_turn c ≡ 1
unfolding term_turn
turn-one zero d g = absurd (g refl)
turn-one (suc zero) d g = refl
turn-one (suc (suc zero)) d g = absurd (omega arith)
turn-one (suc (suc (suc zero))) d g = absurd (omega arith)
turn-one (suc (suc (suc (suc zero)))) d g = refl
turn-one (suc (suc (suc (suc (suc c))))) d g = absurd (g refl)

-- ---- at the place i in a term's words, `due` terms are still to come, which end at `end`
abbrev Due : (w : List ℕ) (end i due : ℕ) → Type 0
Due w end i due = rest_of (terms (drop i w) due) ≡ some (drop end w)

-- any first word but one of two parts
abbrev Leaf : ℕ → Type 0
Leaf c = 2 ≤ c → 4 ≤ c

module _ (w : List ℕ) (end i due : ℕ) (reads : Due w end i due) (h : 0 < due) where
  one_more : due ≡ suc (due - 1)
  one_more = omega arith

  due-inside : i < length w
  due-inside = elim (dec_lt i (length w)) [
    | yes l ↦ l
    | no l ↦
        absurd (some-not _ _ reads
        (ap (λ (m : ℕ). rest_of (terms (drop i w) m)) one_more
        ∙ ap (λ (u : List ℕ). rest_of (terms u (suc (due - 1)))) (drop_of_length-le w {i = i} (omega arith)) ∙ terms-empty (due - 1)))
  ]

  due-word : terms (drop i w) due ≡ terms (get_or w i 0 ∷ drop (suc i) w) (suc (due - 1))
  due-word = ap (terms (drop i w)) one_more ∙ ap (λ (u : List ℕ). terms u (suc (due - 1))) (drop-cons w i 0 due-inside)

  due-parts : 2 ≤ get_or w i 0 → get_or w i 0 < 4 → Due w end (i + 1) (due + 1)
  due-parts l m =
      let more : suc (suc (due - 1)) ≡ due + 1 = omega arith in
      let at : suc i ≡ i + 1 = omega arith in
      rw (← more, ← at)
      (sym (terms-two (get_or w i 0) (due - 1) (drop (suc i) w) (turn-two (get_or w i 0) l m)) ∙ sym (ap rest_of due-word) ∙ reads)

  -- a leaf has its number behind it
  module _ (d : Leaf (get_or w i 0)) where
    one : term_turn (get_or w i 0) ≡ 1
    one =
        turn-one (get_or w i 0) d (λ z. some-not _ _ reads (ap rest_of due-word ∙ terms-nothing (get_or w i 0) (due - 1) (drop (suc i) w) z))

    due-leaf : i + 1 < length w
    due-leaf = elim (dec_lt (i + 1) (length w)) [
      | yes l ↦ l
      | no l ↦
          let f : drop (suc i) w ≡ [] = drop_of_length-le w {i = suc i} (omega arith) in
          absurd (some-not _ _ reads
          (ap rest_of due-word ∙ ap (λ (u : List ℕ). rest_of (terms (get_or w i 0 ∷ u) (suc (due - 1)))) f ∙ terms-cut (get_or w i 0) (due - 1) one))
    ]

    due-words : terms (drop i w) due ≡ terms (get_or w i 0 ∷ get_or w (i + 1) 0 ∷ drop (i + 2) w) (suc (due - 1))
    due-words =
        let at : suc i ≡ i + 1 = omega arith in
        let two : suc (i + 1) ≡ i + 2 = omega arith in
        due-word
        ∙ ap (λ (u : List ℕ). terms (get_or w i 0 ∷ u) (suc (due - 1)))
        (ap (λ (k : ℕ). drop k w) at ∙ drop-cons w (i + 1) 0 due-leaf ∙ ap (λ (k : ℕ). get_or w (i + 1) 0 ∷ drop k w) two)

    due-on : Due w end (i + 2) (due - 1)
    due-on = sym (terms-one (get_or w i 0) (due - 1) (get_or w (i + 1) 0) (drop (i + 2) w) one) ∙ sym (ap rest_of due-words) ∙ reads

-- ---- and of no leaf before it the test was told to hold
pub record Along (told : ℕ → ℕ → Bool → Type 0) (w : List ℕ) (a end i due : ℕ) : Type 0 where
  pub reads : rest_of (terms (drop i w) due) ≡ some (drop end w)
  pub few : due ≤ i + 1
  pub same : (p : ℕ → ℕ → Bool) → TellsLeaf told p → any_leaf p (term_in w a) ≡ any_leaves p (value_or [] (terms (drop i w) due))
  pub inside : 0 < due → i < length w
  pub leaf : 0 < due → (2 ≤ get_or w i 0 → 4 ≤ get_or w i 0) → i + 1 < length w

along : (told : ℕ → ℕ → Bool → Type 0) (w : List ℕ) (a end i due : ℕ) → Due w end i due → due ≤ i + 1
    → ((p : ℕ → ℕ → Bool) → TellsLeaf told p → any_leaf p (term_in w a) ≡ any_leaves p (value_or [] (terms (drop i w) due)))
    → Along told w a end i due
along told w a end i due r f s =
    record { reads = r; few = f; same = s; inside = due-inside w end i due r; leaf = due-leaf w end i due r }

pub along-begin : (told : ℕ → ℕ → Bool → Type 0) (w : List ℕ) (a end : ℕ) → At w a (rest_of (term (drop a w))) end → Along told w a end a 1
unfolding term_in term
along-begin told w a end h =
    let r = sym (rest-term (drop a w)) ∙ h.rest in
    along told w a end a 1 r (omega arith) (λ p g. one-term p (terms (drop a w) 1) (terms-counted (drop a w) 1) (drop end w) r)

module _ (told : ℕ → ℕ → Bool → Type 0) (w : List ℕ) (a end i due : ℕ) (t : Along told w a end i due) where
  -- a word of two parts
  pub along-parts : 0 < due → 2 ≤ get_or w i 0 → get_or w i 0 < 4 → Along told w a end (i + 1) (due + 1)
  along-parts h l m =
      let more : suc (suc (due - 1)) ≡ due + 1 = omega arith in
      let at : suc i ≡ i + 1 = omega arith in
      let r = due-parts w end i due t.reads h l m in
      along told w a end (i + 1) (due + 1) r (omega (arith, t.few))
      (λ p g. rw (← more, ← at)
      (t.same p g ∙ ap (λ (o : Read (List Term)). any_leaves p (value_or [] o)) (due-word w end i due t.reads h)
      ∙ two-parts p (get_or w i 0) (due - 1) (drop (suc i) w) (drop end w) (turn-two (get_or w i 0) l m) (rw (more, at) r)))

  -- a leaf
  module _ (h : 0 < due) (d : 2 ≤ get_or w i 0 → 4 ≤ get_or w i 0) where
    leaf-same : (p : ℕ → ℕ → Bool) → TellsLeaf told p
        → any_leaf p (term_in w a) ≡ (p (get_or w i 0) (get_or w (i + 1) 0) || any_leaves p (value_or [] (terms (drop (i + 2) w) (due - 1))))
    leaf-same p g =
        t.same p g ∙ ap (λ (r : Read (List Term)). any_leaves p (value_or [] r)) (due-words w end i due t.reads h d)
        ∙ one-leaf p (get_or w i 0) (due - 1) (get_or w (i + 1) 0) (drop (i + 2) w) (drop end w) (one w end i due t.reads h d)
        (due-on w end i due t.reads h d)

    -- it is of the kind
    pub along-found : told (get_or w i 0) (get_or w (i + 1) 0) true → (p : ℕ → ℕ → Bool) → TellsLeaf told p → true ≡ any_leaf p (term_in w a)
    along-found y p g =
        sym (leaf-same p g ∙ ap (λ (b : Bool). b || any_leaves p (value_or [] (terms (drop (i + 2) w) (due - 1)))) (sym (g _ _ true y)))

    -- it is not: on to the next word
    pub along-again : told (get_or w i 0) (get_or w (i + 1) 0) false → Along told w a end (i + 2) (due - 1)
    along-again y =
        along told w a end (i + 2) (due - 1) (due-on w end i due t.reads h d) (omega (arith, t.few))
        (λ p g. leaf-same p g ∙ ap (λ (b : Bool). b || any_leaves p (value_or [] (terms (drop (i + 2) w) (due - 1)))) (sym (g _ _ false y)))

  pub along-done : due ≤ 0 → (p : ℕ → ℕ → Bool) → TellsLeaf told p → false ≡ any_leaf p (term_in w a)
  unfolding terms value_or any_leaves
  along-done h p g =
      let z : due ≡ 0 = omega arith in
      sym (t.same p g ∙ ap (λ (m : ℕ). any_leaves p (value_or [] (terms (drop i w) m))) z ∙ go (drop i w))
    where
      go : (u : List ℕ) → any_leaves p (value_or [] (terms u 0)) ≡ false
      go [] = refl
      go (c ∷ u) = refl
