-- Laws of terms. Assumes nothing.
use Rattle.std.specs.Prelude.{ℕ, suc, ◌≤◌, true, List, [], ◌∷◌, ◌≡◌, refl, length}
use Rattle.std.proofs.Common.{true≢false, sym, ap, subst, arith, eqb-true, eq-eqb}
use Rattle.words.specs.Choice.Laws.{or_cases, or_left, or_right}
use Rattle.terms.specs.Term.{Term, Terms, count, listed, gathered, partner, size, occurs, occurs_in, Occurs, OccursIn}

-- ---- lists of terms
pub count-listed : (ts : Terms) → length (listed ts) ≡ count ts
unfolding count listed
count-listed Terms.nil = refl
count-listed (Terms.cons t ts) = ap suc (count-listed ts)

pub count-gathered : (ts : List Term) → count (gathered ts) ≡ length ts
unfolding count gathered
count-gathered [] = refl
count-gathered (t ∷ ts) = ap suc (count-gathered ts)

pub listed-gathered : (ts : List Term) → listed (gathered ts) ≡ ts
unfolding listed gathered
listed-gathered [] = refl
listed-gathered (t ∷ ts) = ap (λ (l : List Term). t ∷ l) (listed-gathered ts)

-- ---- partner
pub partner-partner : (t : Term) → partner (partner t) ≡ t
unfolding partner
partner-partner (Term.atom r) = refl
partner-partner (Term.operation g ts) = refl
partner-partner (Term.cipher k ts) = refl
partner-partner (Term.public t) = refl
partner-partner (Term.private t) = refl

-- ---- size
pub size-two : (t : Term) → 2 ≤ size t
unfolding size
size-two (Term.atom r) = omega arith
size-two (Term.operation g ts) = omega arith
size-two (Term.cipher k ts) = omega arith
size-two (Term.public t) = let h = size-two t in omega arith
size-two (Term.private t) = let h = size-two t in omega arith

pub size-partner : (t : Term) → size (partner t) ≡ size t
unfolding size partner
size-partner (Term.atom r) = refl
size-partner (Term.operation g ts) = refl
size-partner (Term.cipher k ts) = refl
size-partner (Term.public t) = refl
size-partner (Term.private t) = refl

-- ---- occurs: the test and the path to the atom agree
mutual
  unfolding occurs

  pub occurs-path : (q : ℕ) (t : Term) → occurs q t ≡ true → Occurs q t
  occurs-path q (Term.atom r) e = subst (λ z. Occurs q (Term.atom z)) (sym (eqb-true r q e)) Occurs.atom
  occurs-path q (Term.operation g ts) e = Occurs.operation (occurs_in-path q ts e)
  occurs-path q (Term.cipher k ts) e =
      or_cases (occurs q k) (occurs_in q ts) e (λ x. Occurs.key (occurs-path q k x)) (λ x. Occurs.contents (occurs_in-path q ts x))
  occurs-path q (Term.public t) e = Occurs.public (occurs-path q t e)
  occurs-path q (Term.private t) e = Occurs.private (occurs-path q t e)

  pub occurs_in-path : (q : ℕ) (ts : Terms) → occurs_in q ts ≡ true → OccursIn q ts
  occurs_in-path q Terms.nil e = absurd (true≢false (sym e))
  occurs_in-path q (Terms.cons t ts) e =
      or_cases (occurs q t) (occurs_in q ts) e (λ x. OccursIn.here (occurs-path q t x)) (λ x. OccursIn.later (occurs_in-path q ts x))

mutual
  unfolding occurs

  pub path-occurs : {q : ℕ} {t : Term} → Occurs q t → occurs q t ≡ true
  path-occurs {q} Occurs.atom = eq-eqb q q refl
  path-occurs (Occurs.operation h) = path-occurs_in h
  path-occurs (Occurs.key h) = or_left _ _ (path-occurs h)
  path-occurs {q} (Occurs.contents {k = k} h) = or_right (occurs q k) _ (path-occurs_in h)
  path-occurs (Occurs.public h) = path-occurs h
  path-occurs (Occurs.private h) = path-occurs h

  pub path-occurs_in : {q : ℕ} {ts : Terms} → OccursIn q ts → occurs_in q ts ≡ true
  path-occurs_in (OccursIn.here h) = or_left _ _ (path-occurs h)
  path-occurs_in {q} (OccursIn.later {t = t} h) = or_right (occurs q t) _ (path-occurs_in h)
