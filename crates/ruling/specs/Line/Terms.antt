-- Terms by their first word. Assumes nothing.
use Rattle.std.specs.Prelude.{ℕ, zero, suc, ◌+◌, ◌≤◌, ◌<◌, refl, length, get_or}
use mathlib.Core.List.{List, [], ◌∷◌}
use Rattle.std.proofs.Math.Option.{none, some}
use Rattle.std.proofs.Math.Path.{◌≡◌, sym, ap}
use Rattle.std.proofs.Common.{◌∙◌, arith, add-one, drop_of_length-le, drop-cons}
use Rattle.std.proofs.Math.Decide.{dec_lt}
use Rattle.std.proofs.Math.ListN.{drop}
use Rattle.words.specs.Choice.{pick, then}
use Rattle.typing.specs.Term.{Term}
use Rattle.typing.specs.Reading.{Read, ahead, joined, after, only, terms, term, several}
use Rattle.typing.specs.Reading.Laws.{two_of, two-joined, some-joined}
use Rattle.spans.specs.Behind.{rest_of, At}
use Rattle.alike.specs.Same.{value_or, term_in}
use Rattle.shapes.specs.Shape.{Reads}
use Rattle.ruling.specs.Rules.{join}

-- ---- several terms are read one by one
more : ℕ → Term × List ℕ → Read (List Term)
more t p = ahead p.0 (several term t p.1)

abbrev OneByOne : ℕ → Type 0
OneByOne n = (u : List ℕ) (m : ℕ) → length u ≤ n → terms u m ≡ several term m u

leaf-from : (M : Term) (u : List ℕ) → only (ahead M (terms u 0)) ≡ some (M, u)
unfolding only ahead then terms
leaf-from M [] = refl
leaf-from M (c ∷ u) = refl

start : OneByOne 0
unfolding terms several term only then
start [] zero l = refl
start [] (suc m) l = refl
start (c ∷ u) m l = absurd (omega arith)

step : (n : ℕ) → OneByOne n → OneByOne (suc n)
unfolding terms several term only then more
step n ih [] zero l = refl
step n ih [] (suc m) l = refl
step n ih (c ∷ u) zero l = refl
step n ih (zero ∷ u) (suc m) l = refl
step n ih (suc zero ∷ []) (suc m) l = refl
step n ih (suc zero ∷ k ∷ u) (suc m) l =
    ap (ahead (Term.name k)) (ih u m (omega arith)) ∙ ap (λ (o : Read Term). then o (more m)) (sym (leaf-from (Term.name k) u))
step n ih (suc (suc zero) ∷ u) (suc m) l =
    ap (after (joined Term.pair)) (ih u (suc (suc m)) (omega arith)) ∙ some-joined term Term.pair m u
    ∙ ap (λ (o : Read Term). then o (more m))
    (sym (ap (λ (r : Read (List Term)). only (after (joined Term.pair) r)) (ih u 2 (omega arith)) ∙ two-joined term Term.pair u))
step n ih (suc (suc (suc zero)) ∷ u) (suc m) l =
    ap (after (joined Term.cipher)) (ih u (suc (suc m)) (omega arith)) ∙ some-joined term Term.cipher m u
    ∙ ap (λ (o : Read Term). then o (more m))
    (sym (ap (λ (r : Read (List Term)). only (after (joined Term.cipher) r)) (ih u 2 (omega arith)) ∙ two-joined term Term.cipher u))
step n ih (suc (suc (suc (suc zero))) ∷ []) (suc m) l = refl
step n ih (suc (suc (suc (suc zero))) ∷ k ∷ u) (suc m) l =
    ap (ahead (Term.bound k)) (ih u m (omega arith)) ∙ ap (λ (o : Read Term). then o (more m)) (sym (leaf-from (Term.bound k) u))
step n ih (suc (suc (suc (suc (suc c)))) ∷ u) (suc m) l = refl

one_by_one : (n : ℕ) → OneByOne n
one_by_one zero = start
one_by_one (suc n) = step n (one_by_one n)

term-pair : (u : List ℕ) → term (2 ∷ u) ≡ two_of term Term.pair u
unfolding term terms
term-pair u = ap (λ (r : Read (List Term)). only (after (joined Term.pair) r)) (one_by_one (length u) u 2 (omega arith)) ∙ two-joined term Term.pair u

term-cipher : (u : List ℕ) → term (3 ∷ u) ≡ two_of term Term.cipher u
unfolding term terms
term-cipher u = ap (λ (r : Read (List Term)). only (after (joined Term.cipher) r)) (one_by_one (length u) u 2 (omega arith)) ∙ two-joined term Term.cipher u

two-go : (f : Term → Term → Term) (o : Read Term) (v : List ℕ)
    → rest_of (then o (λ p. then (term p.1) (λ q. some (f p.0 q.0, q.1)))) ≡ some v
    → (x : List ℕ) × (rest_of o ≡ some x) × (rest_of (term x) ≡ some v)
    × (value_or (Term.bound 0) (then o (λ p. then (term p.1) (λ q. some (f p.0 q.0, q.1))))
    ≡ f (value_or (Term.bound 0) o) (value_or (Term.bound 0) (term x)))
unfolding rest_of then value_or
two-go f none v e = absurd (let z : ◌≡◌ {A = ℕ} 0 1 = cc in omega arith)
two-go f (some p) v e = let (x, y) = go (term p.1) e in (p.1, refl, x, y)
  where
    go : (o : Read Term) → rest_of (then o (λ q. some (f p.0 q.0, q.1))) ≡ some v
        → (rest_of o ≡ some v) × (value_or (Term.bound 0) (then o (λ q. some (f p.0 q.0, q.1))) ≡ f p.0 (value_or (Term.bound 0) o))
    go none h = absurd (let z : ◌≡◌ {A = ℕ} 0 1 = cc in omega arith)
    go (some q) h = (h, refl)

-- ---- the word that a term is spelled with
abbrev pub code_of : Term → ℕ
code_of (Term.name n) = 1
code_of (Term.pair M N) = 2
code_of (Term.cipher M N) = 3
code_of (Term.bound k) = 4

-- ---- a term that is made of two, by its word
term-join : (c : ℕ) → 2 ≤ c → c ≤ 3 → (u : List ℕ) → term (c ∷ u) ≡ two_of term (join c) u
unfolding join pick
term-join zero l h = absurd (omega arith)
term-join (suc zero) l h = absurd (omega arith)
term-join (suc (suc zero)) l h = term-pair
term-join (suc (suc (suc zero))) l h = term-cipher
term-join (suc (suc (suc (suc c)))) l h = absurd (omega arith)

pub join-code : (c : ℕ) (M N : Term) → 2 ≤ c → c ≤ 3 → code_of (join c M N) ≡ c
unfolding join pick
join-code zero M N l h = absurd (omega arith)
join-code (suc zero) M N l h = absurd (omega arith)
join-code (suc (suc zero)) M N l h = refl
join-code (suc (suc (suc zero))) M N l h = refl
join-code (suc (suc (suc (suc c)))) M N l h = absurd (omega arith)

code-from : (c : ℕ) (u v : List ℕ) → rest_of (term (c ∷ u)) ≡ some v → code_of (value_or (Term.bound 0) (term (c ∷ u))) ≡ c
unfolding term terms rest_of only then value_or ahead
code-from zero u v e = absurd (let z : ◌≡◌ {A = ℕ} 0 1 = cc in omega arith)
code-from (suc zero) [] v e = absurd (let z : ◌≡◌ {A = ℕ} 0 1 = cc in omega arith)
code-from (suc zero) (n ∷ u) v e = ap (λ (r : Read Term). code_of (value_or (Term.bound 0) r)) (leaf-from (Term.name n) u)
code-from (suc (suc zero)) u v e =
    let (x, p, q, s) = two-go Term.pair (term u) v (sym (ap rest_of (term-pair u)) ∙ e) in
    ap code_of (ap (value_or (Term.bound 0)) (term-pair u) ∙ s)
code-from (suc (suc (suc zero))) u v e =
    let (x, p, q, s) = two-go Term.cipher (term u) v (sym (ap rest_of (term-cipher u)) ∙ e) in
    ap code_of (ap (value_or (Term.bound 0)) (term-cipher u) ∙ s)
code-from (suc (suc (suc (suc zero)))) [] v e = absurd (let z : ◌≡◌ {A = ℕ} 0 1 = cc in omega arith)
code-from (suc (suc (suc (suc zero)))) (n ∷ u) v e = ap (λ (r : Read Term). code_of (value_or (Term.bound 0) r)) (leaf-from (Term.bound n) u)
code-from (suc (suc (suc (suc (suc c))))) u v e = absurd (let z : ◌≡◌ {A = ℕ} 0 1 = cc in omega arith)

name-from : (u v : List ℕ) → rest_of (term (1 ∷ u)) ≡ some v → (n : ℕ) × (x : List ℕ) × (u ≡ n ∷ x)
    × (value_or (Term.bound 0) (term (1 ∷ u)) ≡ Term.name n)
unfolding term terms rest_of only then value_or ahead
name-from [] v e = absurd (let z : ◌≡◌ {A = ℕ} 0 1 = cc in omega arith)
name-from (n ∷ u) v e = (n, u, refl, ap (λ (r : Read Term). value_or (Term.bound 0) r) (leaf-from (Term.name n) u))

term-empty : term [] ≡ none
unfolding term terms only then
term-empty = refl

module _ (w : List ℕ) (s : ℕ) (t : Reads term w s) where
  pub term-inside : s < length w
  unfolding rest_of
  term-inside = elim (dec_lt s (length w)) [
    | yes l ↦ l
    | no l ↦
        let q : none ≡ some t.behind = sym (ap rest_of (ap term (drop_of_length-le w {i = s} (omega arith)) ∙ term-empty)) ∙ t.reads in
        absurd (let z : ◌≡◌ {A = ℕ} 0 1 = cc in omega arith)
  ]

  whole : drop s w ≡ get_or w s 0 ∷ drop (s + 1) w
  whole = rw add-one (drop-cons w s 0 term-inside)

  reads_as : (c : ℕ) → get_or w s 0 ≡ c → rest_of (term (c ∷ drop (s + 1) w)) ≡ some t.behind
  reads_as c e = ap (λ (x : ℕ). rest_of (term (x ∷ drop (s + 1) w))) (sym e) ∙ sym (ap (λ (u : List ℕ). rest_of (term u)) whole) ∙ t.reads

  value_as : (c : ℕ) → get_or w s 0 ≡ c → term_in w s ≡ value_or (Term.bound 0) (term (c ∷ drop (s + 1) w))
  unfolding term_in
  value_as c e = ap (λ (u : List ℕ). value_or (Term.bound 0) (term u)) (whole ∙ ap (λ (x : ℕ). x ∷ drop (s + 1) w) e)

  pub term-code : code_of (term_in w s) ≡ get_or w s 0
  term-code = ap code_of (value_as (get_or w s 0) refl) ∙ code-from (get_or w s 0) (drop (s + 1) w) t.behind (reads_as (get_or w s 0) refl)

  pub term-name : get_or w s 0 ≡ 1 → term_in w s ≡ Term.name (get_or w (s + 1) 0)
  term-name e =
      let (n, x, p, q) = name-from (drop (s + 1) w) t.behind (reads_as 1 e) in
      value_as 1 e ∙ q ∙ ap Term.name (number n x p)
    where
      number : (n : ℕ) (x : List ℕ) → drop (s + 1) w ≡ n ∷ x → n ≡ get_or w (s + 1) 0
      number n x p = elim (dec_lt (s + 1) (length w)) [
        | yes l ↦ let d : get_or w (s + 1) 0 ∷ drop (suc (s + 1)) w ≡ n ∷ x = sym (drop-cons w (s + 1) 0 l) ∙ p in cc
        | no l ↦
            let d : [] ≡ n ∷ x = sym (drop_of_length-le w {i = s + 1} (omega arith)) ∙ p in
            absurd (let z : ◌≡◌ {A = ℕ} 0 1 = cc in omega arith)
      ]

  parts-by : (c : ℕ) (f : Term → Term → Term) → ((u : List ℕ) → term (c ∷ u) ≡ two_of term f u) → get_or w s 0 ≡ c
      → (x : List ℕ) × (rest_of (term (drop (s + 1) w)) ≡ some x) × (rest_of (term x) ≡ some t.behind)
      × (term_in w s ≡ f (term_in w (s + 1)) (value_or (Term.bound 0) (term x)))
  unfolding term_in
  parts-by c f g e =
      let (x, p, q, o) = two-go f (term (drop (s + 1) w)) t.behind (sym (ap rest_of (g (drop (s + 1) w))) ∙ reads_as c e) in
      (x, p, q, value_as c e ∙ ap (value_or (Term.bound 0)) (g (drop (s + 1) w)) ∙ o)

  module _ (c : ℕ) (f : Term → Term → Term) (g : (u : List ℕ) → term (c ∷ u) ≡ two_of term f u) (e : get_or w s 0 ≡ c) where
    first_reads : Reads term w (s + 1)
    first_reads = record { behind = (parts-by c f g e).0; reads = (parts-by c f g e).1 }

    module _ (r : ℕ) (q : At w (s + 1) (rest_of (term (drop (s + 1) w))) r) where
      both-parts : Reads term w r × (term_in w s ≡ f (term_in w (s + 1)) (term_in w r))
      unfolding term_in first_reads
      both-parts =
          let (x, p, m, o) = parts-by c f g e in
          let z : some x ≡ some (drop r w) = sym p ∙ q.rest in
          let is : x ≡ drop r w = cc in (
            record { behind = t.behind; reads = ap (λ (u : List ℕ). rest_of (term u)) (sym is) ∙ m },
            o ∙ ap (λ (u : List ℕ). f (term_in w (s + 1)) (value_or (Term.bound 0) (term u))) is,
          )

  module _ (c : ℕ) (l : 2 ≤ c) (h : c ≤ 3) (e : get_or w s 0 ≡ c) where
    pub join-left : Reads term w (s + 1)
    join-left = first_reads c (join c) (term-join c l h) e

    pub join-parts : (r : ℕ) → At w (s + 1) (rest_of (term (drop (s + 1) w))) r → Reads term w r
        × (term_in w s ≡ join c (term_in w (s + 1)) (term_in w r))
    join-parts r q = both-parts c (join c) (term-join c l h) e r q
