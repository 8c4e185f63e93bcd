-- Laws of what is read at a place. Assumes nothing.
use Rattle.std.specs.Prelude.{ℕ, zero, suc, ◌+◌, ◌-◌, ◌≤◌, Bool, true, false, List, [], ◌∷◌, ◌++◌, ◌≡◌, refl, eqb, length, drop, take}
use Rattle.std.specs.Cmp.Lexicographic.{pointwise}
use Rattle.std.proofs.Common.{true≢false, append_assoc, ◌∙◌, ap₂, length-drop, length-append, take_at}
use Rattle.std.proofs.lemmas.Bool.Decides.{Decides-eqb, same_from_decides}
use Rattle.std.proofs.lemmas.Slice.Eq.{slice_eq-Decides}
use Rattle.std.proofs.Math.Option.{Option, none, some}
use Rattle.std.proofs.Math.Path.{sym, ap}
use native.Mathlib.Omega.{arith}
use Rattle.words.specs.Choice.{choose, then}
use Rattle.words.specs.Choice.Laws.{choose_yes, choose_no}
use Rattle.words.specs.Run.{run, same_words}
use Rattle.words.specs.Run.Laws.{run_take, same-exact}
use Rattle.typing.specs.Term.{Term, same_term, term_words}
use Rattle.typing.proofs.Bag.Laws.{words-term}
use Rattle.typing.specs.Reading.{Read, ahead, joined, after, terms, only, term}
use Rattle.spans.specs.Behind.{rest_of, At}
use Rattle.spans.specs.Behind.Laws.{Counted, terms-counted}
use Rattle.alike.specs.Same.{value_or, term_in, test, all_term_words}

-- ---- what was read, from what is behind it
pub read-value : {A : Type 0} (a : A) (r : Read A) (v : List ℕ) → rest_of r ≡ some v → r ≡ some (value_or a r, v)
unfolding rest_of value_or
read-value a none v e = cc
read-value {A} a (some q) v e =
    let s : q.1 ≡ v = cc in
    ap {B = Read A} (λ (u : List ℕ). some (q.0, u)) s

-- with one in front, and with what is made of it
pub value-ahead : {A : Type 0} (a : A) (r : Read (List A)) (z : List ℕ) → rest_of r ≡ some z → value_or [] (ahead a r) ≡ a ∷ value_or [] r
unfolding rest_of ahead then value_or
value-ahead a none z h = cc
value-ahead a (some p) z h = refl

pub value_after : {A B : Type 0} (f : A → B) (a : A) (b : B) (r : Read A) (z : List ℕ) → rest_of r ≡ some z
    → value_or b (after f r) ≡ f (value_or a r)
unfolding rest_of after then value_or
value_after f a b none z h = cc
value_after f a b (some p) z h = refl

-- what was read is not nothing
pub some-not : (v : List ℕ) (o : Option (List ℕ)) → o ≡ some v → o ≡ none → ⊥
some-not v o d e = cc

-- ---- test
pub test-yes : {P : Type 0} (d : Dec P) → P → test d ≡ true
unfolding test
test-yes d p = choose_yes d true false p

pub test-no : {P : Type 0} (d : Dec P) → (P → ⊥) → test d ≡ false
unfolding test
test-no d p = choose_no d true false p

pub test-true : {P : Type 0} (d : Dec P) → test d ≡ true → P
unfolding test choose
test-true (yes p) e = p
test-true (no p) e = absurd (true≢false (sym e))

-- ---- terms are spelled by their words
Spelled : Read (List Term) → List ℕ → Type 0
Spelled r u = (l : List Term) (v : List ℕ) → r ≡ some (l, v) → u ≡ all_term_words l ++ v

abbrev pair_of : (k l : List Term) (u v : List ℕ) → Type 0
pair_of k l u v = ◌≡◌ {A = Read (List Term)} (some (k, u)) (some (l, v))

firsts : (k l : List Term) (u v : List ℕ) → pair_of k l u v → l ≡ k
firsts k l u v e =
    let q : ◌≡◌ {A = List Term × List ℕ} (k, u) (l, v) = cc in
    sym (ap (λ (z : List Term × List ℕ). z.0) q)

seconds : (k l : List Term) (u v : List ℕ) → pair_of k l u v → v ≡ u
seconds k l u v e =
    let q : ◌≡◌ {A = List Term × List ℕ} (k, u) (l, v) = cc in
    sym (ap (λ (z : List Term × List ℕ). z.1) q)

spelled-ahead : (M : Term) (ws u : List ℕ) (r : Read (List Term)) → term_words M ≡ ws → Spelled r u → Spelled (ahead M r) (ws ++ u)
unfolding Spelled ahead then all_term_words
spelled-ahead M ws u none e h l v d = cc
spelled-ahead M ws u (some p) e h l v d =
    rw (firsts (M ∷ p.0) l p.1 v d, seconds (M ∷ p.0) l p.1 v d)
    (ap (λ (k : List ℕ). k ++ u) (sym e) ∙ ap (λ (k : List ℕ). term_words M ++ k) (h p.0 p.1 refl)
    ∙ sym (append_assoc (term_words M) (all_term_words p.0) p.1))

spelled-joined : (c : ℕ) (f : Term → Term → Term) (m : ℕ) (u : List ℕ) (r : Read (List Term))
    → ((A B : Term) → term_words (f A B) ≡ c ∷ (term_words A ++ term_words B))
    → Counted (suc (suc m)) r → Spelled r u → Spelled (after (joined f) r) (c ∷ u)
unfolding Spelled after then joined all_term_words
spelled-joined c f m u none g k h l v d = cc
spelled-joined c f m u (some p) g k h l v d =
    rw (firsts (joined f p.0) l p.1 v d, seconds (joined f p.0) l p.1 v d) (go p.0 (k p.0 p.1 refl) (h p.0 p.1 refl))
  where
    go : (t : List Term) → length t ≡ suc (suc m) → u ≡ all_term_words t ++ p.1 → c ∷ u ≡ all_term_words (joined f t) ++ p.1
    go [] b e = absurd (omega arith)
    go (A ∷ []) b e = absurd (omega arith)
    go (A ∷ B ∷ t) b e =
        rw (g A B) (ap (λ (x : List ℕ). c ∷ x)
        (e ∙ ap (λ (x : List ℕ). x ++ p.1) (sym (append_assoc (term_words A) (term_words B) (all_term_words t)))))

none-spelled : (u : List ℕ) → Spelled none u
unfolding Spelled
none-spelled u l v e = cc

zero-spelled : (u : List ℕ) → Spelled (some ([], u)) u
unfolding Spelled all_term_words
zero-spelled u l v e = rw (firsts [] l u v e, seconds [] l u v e) refl

terms-spelled : (u : List ℕ) (m : ℕ) → Spelled (terms u m) u
unfolding terms term_words
terms-spelled [] zero = zero-spelled []
terms-spelled [] (suc m) = none-spelled []
terms-spelled (c ∷ u) zero = zero-spelled (c ∷ u)
terms-spelled (zero ∷ u) (suc m) = none-spelled (zero ∷ u)
terms-spelled (suc zero ∷ []) (suc m) = none-spelled (1 ∷ [])
terms-spelled (suc zero ∷ n ∷ u) (suc m) = spelled-ahead (Term.name n) (1 ∷ n ∷ []) u (terms u m) refl (terms-spelled u m)
terms-spelled (suc (suc zero) ∷ u) (suc m) =
    spelled-joined 2 Term.pair m u (terms u (suc (suc m))) (λ A B. refl) (terms-counted u (suc (suc m))) (terms-spelled u (suc (suc m)))
terms-spelled (suc (suc (suc zero)) ∷ u) (suc m) =
    spelled-joined 3 Term.cipher m u (terms u (suc (suc m))) (λ A B. refl) (terms-counted u (suc (suc m))) (terms-spelled u (suc (suc m)))
terms-spelled (suc (suc (suc (suc zero))) ∷ []) (suc m) = none-spelled (4 ∷ [])
terms-spelled (suc (suc (suc (suc zero))) ∷ k ∷ u) (suc m) = spelled-ahead (Term.bound k) (4 ∷ k ∷ []) u (terms u m) refl (terms-spelled u m)
terms-spelled (suc (suc (suc (suc (suc c)))) ∷ u) (suc m) = none-spelled (suc (suc (suc (suc (suc c)))) ∷ u)

one-spelled : (u : List ℕ) (r : Read (List Term)) → Counted 1 r → Spelled r u → (M : Term) (v : List ℕ) → only r ≡ some (M, v)
    → u ≡ term_words M ++ v
unfolding Spelled only then all_term_words
one-spelled u none c h M v e = cc
one-spelled u (some q) c h M v e = go q.0 q.1 (c q.0 q.1 refl) (h q.0 q.1 refl) e
  where
    go : (l : List Term) (x : List ℕ) → length l ≡ 1 → u ≡ all_term_words l ++ x
        → ◌≡◌ {A = Read Term} (elim l as (λ _. Read Term) [ [] ↦ none | a ∷ k ↦ some (a, x) ]) (some (M, v)) → u ≡ term_words M ++ v
    go [] x d s k = absurd (omega arith)
    go (A ∷ []) x d s k =
        let p : ◌≡◌ {A = Term × List ℕ} (A, x) (M, v) = cc in
        s ∙ append_assoc (term_words A) [] x ∙ ap (λ (z : Term × List ℕ). term_words z.0 ++ z.1) p
    go (A ∷ B ∷ l) x d s k = absurd (omega arith)

pub term-spelled : (u : List ℕ) (M : Term) (v : List ℕ) → term u ≡ some (M, v) → u ≡ term_words M ++ v
unfolding term
term-spelled u M v e = one-spelled u (terms u 1) (terms-counted u 1) (terms-spelled u 1) M v e

pub lengths : (n a e x y k : ℕ) → x ≡ n - a → y ≡ n - e → x ≡ k + y → a ≤ e → e ≤ n → k ≡ e - a
lengths n a e x y k p q r s t = omega arith

-- the words between a term's place and its end are its words
pub term-run : (w : List ℕ) (a e : ℕ) → At w a (rest_of (term (drop a w))) e → take (e - a) (drop a w) ≡ term_words (term_in w a)
unfolding term_in
term-run w a e b =
    let r = read-value (Term.bound 0) (term (drop a w)) (drop e w) b.rest in
    let s = term-spelled (drop a w) (value_or (Term.bound 0) (term (drop a w))) (drop e w) r in
    let n : length (term_words (value_or (Term.bound 0) (term (drop a w)))) ≡ e - a =
    lengths (length w) a e (length (drop a w)) (length (drop e w)) (length (term_words (value_or (Term.bound 0) (term (drop a w)))))
    (length-drop a w) (length-drop e w) (ap length s ∙ length-append (term_words (value_or (Term.bound 0) (term (drop a w)))) (drop e w)) b.after
    b.inside in
    ap (take (e - a)) s ∙ take_at (term_words (value_or (Term.bound 0) (term (drop a w)))) (drop e w) (e - a) n

pub run-term : (w : List ℕ) (a e : ℕ) → At w a (rest_of (term (drop a w))) e → run w a (e - a) ≡ term_words (term_in w a)
run-term w a e b = run_take w a (e - a) (omega (arith, b.after, b.inside)) ∙ term-run w a e b

-- ---- parts of the words compared
pub runs_compared : (u v : List ℕ) (a b n : ℕ) → a + n ≤ length u → b + n ≤ length v → (r : Bool)
    → r ≡ pointwise eqb (take (a + n - a) (drop a u)) (take (b + n - b) (drop b v)) → r ≡ same_words (run u a n) (run v b n)
runs_compared u v a b n l k r e =
    same_from_decides r _ (slice_eq-Decides Decides-eqb _ _ r (e ∙ sym (ap₂ (pointwise eqb) (taken u a l) (taken v b k)))) (same-exact (run u a n) (run v b n))
  where
    taken : (w : List ℕ) (x : ℕ) → x + n ≤ length w → run w x n ≡ take (x + n - x) (drop x w)
    taken w x h =
        let d : n ≡ x + n - x = omega arith in
        run_take w x n h ∙ ap (λ (m : ℕ). take m (drop x w)) d

-- ---- things that are spelled by their words: the same words, the same thing
pub spelled-same : {A : Type 0} (same : (x y : A) → Dec (x ≡ y)) (words : A → List ℕ) → ((x y : A) → words x ≡ words y → x ≡ y) → (x y : A)
    → (xs ys : List ℕ) → xs ≡ words x → ys ≡ words y → (r : Bool) → r ≡ pointwise eqb xs ys → r ≡ test (same x y)
spelled-same same words exact x y xs ys p q r e =
    let d = slice_eq-Decides Decides-eqb xs ys r e in
    same_from_decides r (test (same x y)) (λ h. exact x y (sym p ∙ d.0 h ∙ q), λ h. d.1 (p ∙ ap words h ∙ sym q))
    (test-true (same x y), test-yes (same x y))

pub terms_compared : (u v : List ℕ) (a e b f : ℕ) → At u a (rest_of (term (drop a u))) e → At v b (rest_of (term (drop b v))) f
    → (r : Bool) → r ≡ pointwise eqb (take (e - a) (drop a u)) (take (f - b) (drop b v)) → r ≡ test (same_term (term_in u a) (term_in v b))
terms_compared u v a e b f s t r d =
    spelled-same same_term term_words (λ M N h. (words-term M N [] [] (ap (λ (l : List ℕ). l ++ []) h)).0) (term_in u a) (term_in v b) _ _
    (term-run u a e s) (term-run v b f t) r d
