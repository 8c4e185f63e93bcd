-- Laws of the kinds. Assumes nothing.
use Rattle.std.specs.Prelude.{ℕ, zero, suc, ◌≤◌, ◌<◌, Bool, true, ◌&&◌, List, [], ◌∷◌, ◌≡◌, refl, eqb, ltb, length}
use Rattle.std.proofs.Math.Option.{Option, none, some}
use Rattle.std.proofs.Common.{true≢false, sym, ◌∙◌, ap, arith, eqb-true, eq-eqb, ltb-true}
use Rattle.typing.specs.Judgement.{Judgement}
use Rattle.typing.specs.Rule.{Rule, Instance}
use Rattle.typing.specs.Check.{printed, follows}
use Rattle.typing.proofs.Check.Laws.{both, follows-instance}
use Rattle.typing.specs.Derivation.{Kind, Numbered, rules, nth, rule_of}
use Rattle.choosing.specs.Kinds.{kind_number, is_kind, kind_of, kinds_of, premise_kinds, all_kinds, kind_at, premises_of}

-- ---- kinds by number
abbrev kind_from : ℕ → Option Kind
kind_from zero = none
kind_from (suc zero) = some Kind.of_environment
kind_from (suc (suc zero)) = some Kind.of_type
kind_from (suc (suc (suc zero))) = some Kind.of_effect
kind_from (suc (suc (suc (suc zero)))) = some Kind.of_term
kind_from (suc (suc (suc (suc (suc k))))) = some Kind.of_process

kind-from : (k : Kind) → kind_from (kind_number k) ≡ some k
unfolding kind_number
kind-from Kind.of_environment = refl
kind-from Kind.of_type = refl
kind-from Kind.of_effect = refl
kind-from Kind.of_term = refl
kind-from Kind.of_process = refl

pub kind-injective : (j k : Kind) → kind_number j ≡ kind_number k → j ≡ k
kind-injective j k e =
    let q : some j ≡ some k = sym (kind-from j) ∙ ap kind_from e ∙ kind-from k in
    cc

-- ---- a kind that is there
pub is_kind-at : (k : Kind) (o : Option Kind) → o ≡ some k → is_kind k o ≡ true
unfolding is_kind
is_kind-at k o e = ap (is_kind k) e ∙ eq-eqb (kind_number k) (kind_number k) refl

pub kind_is : (k : Kind) (o : Option Kind) → is_kind k o ≡ true → o ≡ some k
unfolding is_kind
kind_is k none e = absurd (true≢false (sym e))
kind_is k (some j) e = ap some (kind-injective j k (eqb-true _ _ e))

-- ---- what stands in a list
abbrev every : {A : Type 0} → (A → Bool) → List A → Bool
every f [] = true
every f (a ∷ l) = f a && every f l

nth-every : {A : Type 0} (f : A → Bool) (l : List A) → every f l ≡ true → (n : ℕ) (a : A) → nth l n ≡ some a → f a ≡ true
unfolding nth
nth-every f [] t n a e = absurd (let z : ◌≡◌ {A = ℕ} 0 1 = cc in omega arith)
nth-every f (b ∷ l) t zero a e =
    let q : b ≡ a = cc in
    ap f (sym q) ∙ (both (f b) (every f l) t).0
nth-every f (b ∷ l) t (suc n) a e = nth-every f l (both (f b) (every f l) t).1 n a e

nth_inside : {A : Type 0} (l : List A) (n : ℕ) (a : A) → nth l n ≡ some a → n < length l
unfolding nth
nth_inside [] n a e = absurd (let z : ◌≡◌ {A = ℕ} 0 1 = cc in omega arith)
nth_inside (b ∷ l) zero a e = omega arith
nth_inside (b ∷ l) (suc n) a e = let h = nth_inside l n a e in omega arith

-- ---- rules by number
pub rule-range : (n : ℕ) (r : Numbered) → rule_of n ≡ some r → (0 < n) × (n < 33)
unfolding rule_of rules
rule-range zero r e = absurd (let z : ◌≡◌ {A = ℕ} 0 1 = cc in omega arith)
rule-range (suc n) r e = let h = nth_inside rules n r e in (omega arith, omega arith)

abbrev many_are : Numbered → Bool
many_are r = eqb (length (premise_kinds r.rule)) r.premises

pub premises-many : (n : ℕ) (r : Numbered) → rule_of n ≡ some r → length (premise_kinds r.rule) ≡ r.premises
unfolding rule_of rules premise_kinds kinds_of kind_of printed
premises-many zero r e = absurd (let z : ◌≡◌ {A = ℕ} 0 1 = cc in omega arith)
premises-many (suc n) r e = eqb-true _ _ (nth-every many_are rules refl n r e)

abbrev few_are : Numbered → Bool
few_are r = ltb r.premises 4

pub premises-few : (n : ℕ) (r : Numbered) → rule_of n ≡ some r → r.premises < 4
unfolding rule_of rules
premises-few zero r e = absurd (let z : ◌≡◌ {A = ℕ} 0 1 = cc in omega arith)
premises-few (suc n) r e = ltb-true _ _ (nth-every few_are rules refl n r e)

pub kind-rule : (n : ℕ) (r : Numbered) → rule_of n ≡ some r → kind_at n 0 ≡ some r.kind
unfolding kind_at all_kinds nth
kind-rule n r e = ap (λ (o : Option Numbered). nth (all_kinds o) 0) e

pub kind-none : (n : ℕ) → rule_of n ≡ none → kind_at n 0 ≡ none
unfolding kind_at all_kinds nth
kind-none n e = ap (λ (o : Option Numbered). nth (all_kinds o) 0) e

pub premises-none : (n : ℕ) → rule_of n ≡ none → premises_of n ≡ []
unfolding premises_of
premises-none n e = ap (λ (o : Option Numbered). elim o [ none ↦ [] | some r ↦ premise_kinds r.rule ]) e

pub premises-rule : (n : ℕ) (r : Numbered) → rule_of n ≡ some r → premises_of n ≡ premise_kinds r.rule
unfolding premises_of
premises-rule n r e = ap (λ (o : Option Numbered). elim o [ none ↦ [] | some r ↦ premise_kinds r.rule ]) e

pub premises_short : (n : ℕ) → length (premises_of n) ≤ 3
premises_short n = go (rule_of n) refl
  where
    go : (o : Option Numbered) → rule_of n ≡ o → length (premises_of n) ≤ 3
    go none e = omega (arith, ap (length {A = Kind}) (premises-none n e))
    go (some r) e = omega (arith, ap (length {A = Kind}) (premises-rule n r e), premises-many n r e, premises-few n r e)

-- the kinds of the premises stand behind the conclusion's
pub kind-premise : (n q : ℕ) → kind_at n (suc q) ≡ nth (premises_of n) q
unfolding kind_at premises_of all_kinds nth
kind-premise n q = go (rule_of n)
  where
    go : (o : Option Numbered) → nth (all_kinds o) (suc q) ≡ nth (elim o [ none ↦ [] | some r ↦ premise_kinds r.rule ]) q
    go none = refl
    go (some r) = refl

-- ---- a number that names no rule
nth_past : {A : Type 0} (l : List A) (n : ℕ) → length l ≤ n → nth l n ≡ none
unfolding nth
nth_past [] n h = refl
nth_past (a ∷ l) zero h = absurd (omega arith)
nth_past (a ∷ l) (suc n) h = nth_past l n (omega arith)

rule-past : (n : ℕ) → 32 < n → rule_of n ≡ none
unfolding rule_of rules
rule-past zero h = absurd (omega arith)
rule-past (suc n) h = nth_past rules n (omega arith)

pub rule-none : (n : ℕ) → ((n ≡ 0 → ⊥) → 32 < n) → rule_of n ≡ none
unfolding rule_of
rule-none zero h = refl
rule-none (suc n) h = rule-past (suc n) (h (λ e. omega arith))

-- ---- premises from which something follows are of the rule's own kinds
instance-kinds : {r : Rule} {Js : List Judgement} {J : Judgement} → Instance r Js J → kinds_of Js ≡ premise_kinds r
unfolding premise_kinds kinds_of kind_of printed
instance-kinds Instance.empty = refl
instance-kinds Instance.entry = refl
instance-kinds Instance.effect-none = refl
instance-kinds Instance.effect-end = refl
instance-kinds Instance.effect-check = refl
instance-kinds Instance.type-Un = refl
instance-kinds Instance.type-pair = refl
instance-kinds Instance.type-channel = refl
instance-kinds Instance.type-symkey = refl
instance-kinds Instance.type-nonce = refl
instance-kinds (Instance.name m) = refl
instance-kinds Instance.pair = refl
instance-kinds Instance.cipher = refl
instance-kinds Instance.cipher-Un = refl
instance-kinds Instance.pair-Un = refl
instance-kinds Instance.stop = refl
instance-kinds (Instance.begin e) = refl
instance-kinds (Instance.end e) = refl
instance-kinds Instance.parallel = refl
instance-kinds (Instance.new g e) = refl
instance-kinds Instance.out = refl
instance-kinds (Instance.inp e) = refl
instance-kinds (Instance.split e d) = refl
instance-kinds (Instance.match e) = refl
instance-kinds (Instance.cast e) = refl
instance-kinds Instance.check = refl
instance-kinds (Instance.decrypt e) = refl
instance-kinds Instance.out-Un = refl
instance-kinds (Instance.inp-Un e) = refl
instance-kinds (Instance.split-Un e d) = refl
instance-kinds (Instance.match-Un e) = refl
instance-kinds (Instance.decrypt-Un e) = refl

pub follows-kinds : (r : Rule) (Js : List Judgement) (J : Judgement) → follows r Js J ≡ true → kinds_of Js ≡ premise_kinds r
follows-kinds r Js J e = instance-kinds (follows-instance r Js J e)
