-- Slots in order, one at a time: what is used has been handed out, a run begins at the next placeholder. And what is said of the names,
-- of one word: where it agrees, a renaming that turns the names into our placeholders turns the word; where a one-to-one renaming turns
-- the word, it agrees. Assumes nothing.
use Rattle.std.specs.Prelude.{ℕ, zero, suc, ◌+◌, ◌-◌, ◌<◌, true, List, [], ◌∷◌, ◌++◌, ◌≡◌, refl, length, get_or}
use Rattle.std.proofs.Math.Path.{sym, ap}
use Rattle.std.proofs.Common.{◌∙◌, arith}
use borrow.Author.Tests.{lt-ltb, leb-true, le-leb, eqb-true, eq-eqb}
use Rattle.translation.specs.Dictionary.Laws.{and_both, both-and}
use Rattle.renaming.specs.Slot.{Slot, InOrder, handed}
use Rattle.renaming.specs.Renaming.{agrees, numbers, named, OneToOne, Turns}
use Rattle.renaming.specs.Renaming.Laws.{NoName, fresh-exact, named_new, NameAt, name-at, named-old, named-length}

-- ---- slots in order, where n is the next placeholder
abbrev pub OrderedFrom : ℕ → List Slot → Type 0
OrderedFrom n ss = InOrder (λ x. ⊥) 0 n ss

-- of the first
abbrev pub Fitting : ℕ → Slot → Type 0
Fitting n (Slot.plain w) = Unit {0}
Fitting n (Slot.uses x) = x < n
Fitting n (Slot.runs f k) = f ≡ n

pub ordered-first : {n : ℕ} {s : Slot} {ss : List Slot} → OrderedFrom n (s ∷ ss) → Fitting n s
ordered-first (InOrder.plain o) = tt
ordered-first (InOrder.kept z o) = absurd z
ordered-first (InOrder.since l h o) = h
ordered-first (InOrder.runs o) = refl

-- and of the rest
pub ordered-rest : {n : ℕ} {s : Slot} {ss : List Slot} → OrderedFrom n (s ∷ ss) → OrderedFrom (n + handed (s ∷ [])) ss
unfolding handed
ordered-rest {n} (InOrder.plain o) = let e : n + 0 ≡ n = omega arith in rw e o
ordered-rest (InOrder.kept z o) = absurd z
ordered-rest {n} (InOrder.since l h o) = let e : n + 0 ≡ n = omega arith in rw e o
ordered-rest {n} (InOrder.runs {k = k} o) = let e : n + (k + 0) ≡ n + k = omega arith in rw e o

-- behind a word, the next placeholder is the number of names
pub ordered-named : (names : List ℕ) (s : Slot) (ss : List Slot) (y : ℕ) → OrderedFrom (length names) (s ∷ ss)
    → OrderedFrom (length (named names s y)) ss
ordered-named names s ss y o = rw (named-length names s y) (ordered-rest o)

-- ---- τ turns the names into our placeholders
abbrev pub Unnames : (ℕ → ℕ) → List ℕ → Type 0
Unnames τ names = (x : ℕ) → x < length names → τ (get_or names x 0) ≡ x

pub unnames-before : (τ : ℕ → ℕ) (names : List ℕ) (s : Slot) (y : ℕ) → Unnames τ (named names s y) → Unnames τ names
unnames-before τ names s y u x h =
    let l = named-length names s y in
    ap τ (sym (named-old names s y x h)) ∙ u x (omega arith)

pub unnames-run : (τ : ℕ → ℕ) (names : List ℕ) (y n : ℕ) → Unnames τ names → ((j : ℕ) → j < n → τ (y + j) ≡ length names + j)
    → Unnames τ (names ++ numbers y n)
unnames-run τ names y n u r x h = go (name-at names y n x h)
  where
    go : {m : ℕ} → NameAt names y n x m → τ m ≡ x
    go (NameAt.older l e) = ap τ e ∙ u x l
    go (NameAt.newer j l z e) = ap τ e ∙ r j l ∙ sym z

module _ (τ : ℕ → ℕ) (names : List ℕ) where
  -- where a word agrees, it is turned
  pub agrees-turns : (s : Slot) (y : ℕ) → Fitting (length names) s → agrees names s y ≡ true → Unnames τ (named names s y) → Turns τ s y
  unfolding agrees named handed
  agrees-turns (Slot.plain w) y f e u = eqb-true y w e
  agrees-turns (Slot.uses x) y f e u = ap τ (eqb-true y (get_or names x 0) (and_both _ _ e).1) ∙ u x f
  agrees-turns (Slot.runs f zero) y o e u = eqb-true y f e
  agrees-turns (Slot.runs f (suc n)) y o e u = (
    leb-true _ _ (and_both _ _ e).0,
    λ j h. (let l = named-length names (Slot.runs f (suc n)) y in
        ap τ (sym (named_new names y (suc n) j h)) ∙ u (length names + j) (omega arith) ∙ ap (λ k. k + j) (sym o)),
  )

  module _ (u : Unnames τ names) where
    -- a number that is a name and in the run would be turned into two
    turned-fresh : (y n : ℕ) → ((j : ℕ) → j < n → τ (y + j) ≡ length names + j) → NoName names y n
    turned-fresh y n t x h l m =
        let e : y + (get_or names x 0 - y) ≡ get_or names x 0 = omega arith in
        let v = t (get_or names x 0 - y) (omega arith) in
        let w = u x h in
        let z = ap τ e in
        omega arith

    -- where a one-to-one τ turns a word, it agrees
    pub turns-agrees : OneToOne τ → (s : Slot) (y : ℕ) → Fitting (length names) s → Turns τ s y → agrees names s y ≡ true
    unfolding agrees
    turns-agrees one (Slot.plain w) y f t = eq-eqb y w t
    turns-agrees one (Slot.uses x) y f t =
        both-and _ _ (lt-ltb x (length names) f) (eq-eqb y (get_or names x 0) (one _ _ (t ∙ sym (u x f))))
    turns-agrees one (Slot.runs f zero) y o t = eq-eqb y f t
    turns-agrees one (Slot.runs f (suc n)) y o t =
        both-and _ _ (le-leb _ _ t.0)
        ((fresh-exact names y (suc n)).1 (turned-fresh y (suc n) (λ j h. t.1 j h ∙ ap (λ k. k + j) o)))

    -- and the names behind it are turned
    pub turns-named : (s : Slot) (y : ℕ) → Fitting (length names) s → Turns τ s y → Unnames τ (named names s y)
    unfolding named
    turns-named (Slot.plain w) y f t = u
    turns-named (Slot.uses x) y f t = u
    turns-named (Slot.runs f zero) y o t = unnames-run τ names y 0 u (λ j h. absurd (omega arith))
    turns-named (Slot.runs f (suc n)) y o t = unnames-run τ names y (suc n) u (λ j h. t.1 j h ∙ ap (λ k. k + j) o)
