-- Multisets of effects are what their name says: + adds up how often each effect stands there, − is the cut-off difference, and two lists
-- are one multiset exactly if each effect stands in them equally often. Assumes nothing.
use Rattle.std.specs.Prelude.{ℕ, suc, ◌+◌, ◌-◌, ◌<◌, true, false, List, [], ◌∷◌, ◌++◌, ◌↔◌, ◌≡◌, refl, ltb, eqb}
use Rattle.std.proofs.Common.{true≢false, append_assoc, sym, ◌∙◌, ap, subst, arith, lt-ltb, le-ltb, eq-eqb, ne_eqb}
use Rattle.std.proofs.Math.Decide.{dec_lt}
use Rattle.words.specs.Choice.{choose}
use Rattle.words.specs.Choice.Laws.{pick_true, pick-false, pick_ind, choose_yes, choose_no, choose-ind}
use Rattle.words.specs.First.Laws.{clash}
use Rattle.typing.specs.Term.{Term, Effect, same_effect, term_words, effect_words}
use Rattle.typing.specs.Bag.{up_to, insert, plus, bag, remove, minus, count}

-- ---- count
pub count_none : (e : Effect) → count e [] ≡ 0
unfolding count
count_none e = refl

pub count-here : (e : Effect) (f : Effect) (fs : List Effect) → e ≡ f → count e (f ∷ fs) ≡ suc (count e fs)
unfolding count
count-here e f fs p = choose_yes (same_effect e f) _ _ p

pub count-other : (e : Effect) (f : Effect) (fs : List Effect) → (e ≡ f → ⊥) → count e (f ∷ fs) ≡ count e fs
unfolding count
count-other e f fs p = choose_no (same_effect e f) _ _ p

-- what stands in front is counted first, whatever is behind it
count-cons : (e f : Effect) (fs gs : List Effect) → count e fs ≡ count e gs → count e (f ∷ fs) ≡ count e (f ∷ gs)
unfolding count
count-cons e f fs gs h = ap (λ (n : ℕ). choose (same_effect e f) (suc n) n) h

count-swap : (e f g : Effect) (fs : List Effect) → count e (f ∷ g ∷ fs) ≡ count e (g ∷ f ∷ fs)
unfolding count choose
count-swap e f g fs = go (same_effect e f) (same_effect e g)
  where
    go : (c : Dec (e ≡ f)) (d : Dec (e ≡ g))
        → choose c (suc (choose d (suc (count e fs)) (count e fs))) (choose d (suc (count e fs)) (count e fs))
        ≡ choose d (suc (choose c (suc (count e fs)) (count e fs))) (choose c (suc (count e fs)) (count e fs))
    go (yes p) (yes q) = refl
    go (yes p) (no q) = refl
    go (no p) (yes q) = refl
    go (no p) (no q) = refl

pub count-insert : (e f : Effect) (fs : List Effect) → count e (insert f fs) ≡ count e (f ∷ fs)
unfolding insert
count-insert e f [] = refl
count-insert e f (g ∷ fs) =
    let h = count-insert e f fs in
    pick_ind (λ l. count e l ≡ count e (f ∷ g ∷ fs)) (up_to (effect_words f) (effect_words g)) (f ∷ g ∷ fs) (g ∷ insert f fs) (λ _. refl)
    (λ _. count-cons e g (insert f fs) (f ∷ fs) h ∙ count-swap e g f fs)

-- es + fs has each effect as often as es and fs together
pub count-plus : (e : Effect) (es fs : List Effect) → count e (plus es fs) ≡ count e es + count e fs
unfolding plus count choose
count-plus e [] fs = omega arith
count-plus e (f ∷ es) fs = count-insert e f (plus es fs) ∙ go (same_effect e f) (count-plus e es fs)
  where
    go : (d : Dec (e ≡ f)) → count e (plus es fs) ≡ count e es + count e fs
        → choose d (suc (count e (plus es fs))) (count e (plus es fs)) ≡ choose d (suc (count e es)) (count e es) + count e fs
    go (yes p) h = omega arith
    go (no p) h = h

pub count-bag : (e : Effect) (es : List Effect) → count e (bag es) ≡ count e es
unfolding bag count
count-bag e es = let h = count-plus e es [] in omega arith

pub count-remove : (e f : Effect) (fs : List Effect) → count e (remove f fs) ≡ count e fs - count e (f ∷ [])
unfolding remove count choose
count-remove e f [] = omega arith
count-remove e f (g ∷ fs) = go (same_effect f g) (same_effect e f) (same_effect e g) (count-remove e f fs)
  where
    go : (b : Dec (f ≡ g)) (c : Dec (e ≡ f)) (d : Dec (e ≡ g)) → count e (remove f fs) ≡ count e fs - choose c 1 0
        → count e (choose b fs (g ∷ remove f fs)) ≡ choose d (suc (count e fs)) (count e fs) - choose c 1 0
    go (yes p) (yes q) (yes r) h = omega arith
    go (yes p) (yes q) (no r) h = absurd (r (q ∙ p))
    go (yes p) (no q) (yes r) h = absurd (q (r ∙ sym p))
    go (yes p) (no q) (no r) h = omega arith
    go (no p) (yes q) (yes r) h = absurd (p (sym q ∙ r))
    go (no p) (yes q) (no r) h = count-other e g (remove f fs) r ∙ h
    go (no p) (no q) (yes r) h = count-here e g (remove f fs) r ∙ (omega arith)
    go (no p) (no q) (no r) h = count-other e g (remove f fs) r ∙ h

-- es − fs has each effect as often as es, less as often as fs, and none where that is none: what isn't there takes nothing away
pub count-minus : (e : Effect) (es fs : List Effect) → count e (minus es fs) ≡ count e es - count e fs
unfolding minus count choose
count-minus e es [] = omega arith
count-minus e es (f ∷ fs) = count-minus e (remove f es) fs ∙ go (same_effect e f) (count-remove e f es)
  where
    go : (d : Dec (e ≡ f)) → count e (remove f es) ≡ count e es - choose d 1 0
        → count e (remove f es) - count e fs ≡ count e es - choose d (suc (count e fs)) (count e fs)
    go (yes p) h = omega arith
    go (no p) h = omega arith

-- ---- the order of words
up_to-here : (x y : ℕ) (xs ys : List ℕ) → x < y → up_to (x ∷ xs) (y ∷ ys) ≡ true
unfolding up_to
up_to-here x y xs ys l = pick_true (ltb x y) _ _ (lt-ltb x y l)

up_to-on : (x y : ℕ) (xs ys : List ℕ) → x ≡ y → up_to (x ∷ xs) (y ∷ ys) ≡ up_to xs ys
unfolding up_to
up_to-on x y xs ys e = pick-false (ltb x y) _ _ (le-ltb x y (omega arith)) ∙ pick_true (eqb x y) _ _ (eq-eqb x y e)

up_to-past : (x y : ℕ) (xs ys : List ℕ) → y < x → up_to (x ∷ xs) (y ∷ ys) ≡ false
unfolding up_to
up_to-past x y xs ys l = pick-false (ltb x y) _ _ (le-ltb x y (omega arith)) ∙ pick-false (eqb x y) _ _ (ne_eqb x y (λ e. omega arith))

-- by cases of the first words
order {ℓ} : {C : Type ℓ} (x y : ℕ) → (x < y → C) → (x ≡ y → C) → (y < x → C) → C
order x y f g h = elim (dec_lt x y) [ yes p ↦ f p | no p ↦ elim (dec_lt y x) [ yes q ↦ h q | no q ↦ g (omega arith) ] ]

up_to-total : (xs ys : List ℕ) → up_to xs ys ≡ false → up_to ys xs ≡ true
unfolding up_to
up_to-total [] ys e = absurd (true≢false e)
up_to-total (x ∷ xs) [] e = refl
up_to-total (x ∷ xs) (y ∷ ys) e =
    let r = up_to-total xs ys in
    order x y (λ l. absurd (clash (up_to-here x y xs ys l) e)) (λ l. up_to-on y x ys xs (sym l) ∙ r (sym (up_to-on x y xs ys l) ∙ e))
    (λ l. up_to-here y x ys xs l)

up_to-same : (xs ys : List ℕ) → up_to xs ys ≡ true → up_to ys xs ≡ true → xs ≡ ys
unfolding up_to
up_to-same [] [] d e = refl
up_to-same [] (y ∷ ys) d e = absurd (true≢false (sym e))
up_to-same (x ∷ xs) [] d e = absurd (true≢false (sym d))
up_to-same (x ∷ xs) (y ∷ ys) d e =
    let r = up_to-same xs ys in
    order x y (λ l. absurd (clash e (up_to-past y x ys xs l)))
    (λ l.
    let t : xs ≡ ys = r (sym (up_to-on x y xs ys l) ∙ d) (sym (up_to-on y x ys xs (sym l)) ∙ e) in
    cc) (λ l. absurd (clash d (up_to-past x y xs ys l)))

up_to-trans : (xs ys zs : List ℕ) → up_to xs ys ≡ true → up_to ys zs ≡ true → up_to xs zs ≡ true
unfolding up_to
up_to-trans [] ys zs d e = refl
up_to-trans (x ∷ xs) [] zs d e = absurd (true≢false (sym d))
up_to-trans (x ∷ xs) (y ∷ ys) [] d e = absurd (true≢false (sym e))
up_to-trans (x ∷ xs) (y ∷ ys) (z ∷ zs) d e =
    let r = up_to-trans xs ys zs in
    order x y
    (λ l. order y z (λ m. up_to-here x z xs zs (omega arith)) (λ m. up_to-here x z xs zs (omega arith))
    (λ m. absurd (clash e (up_to-past y z ys zs m))))
    (λ l. order y z (λ m. up_to-here x z xs zs (omega arith))
    (λ m. up_to-on x z xs zs (omega arith) ∙ r (sym (up_to-on x y xs ys l) ∙ d) (sym (up_to-on y z ys zs m) ∙ e))
    (λ m. absurd (clash e (up_to-past y z ys zs m)))) (λ l. absurd (clash d (up_to-past x y xs ys l)))

-- ---- a term's words say which term it is, and where it ends
pub words-term : (M N : Term) (u v : List ℕ) → term_words M ++ u ≡ term_words N ++ v → (M ≡ N) × (u ≡ v)
unfolding term_words
words-term (Term.name n) (Term.name m) u v e = (cc, cc)
words-term (Term.name n) (Term.bound m) u v e = absurd (let z : ◌≡◌ {A = ℕ} 1 4 = cc in omega arith)
words-term (Term.name n) (Term.pair M N) u v e = absurd (let z : ◌≡◌ {A = ℕ} 1 2 = cc in omega arith)
words-term (Term.name n) (Term.cipher M N) u v e = absurd (let z : ◌≡◌ {A = ℕ} 1 3 = cc in omega arith)
words-term (Term.bound n) (Term.name m) u v e = absurd (let z : ◌≡◌ {A = ℕ} 4 1 = cc in omega arith)
words-term (Term.bound n) (Term.bound m) u v e = (cc, cc)
words-term (Term.bound n) (Term.pair M N) u v e = absurd (let z : ◌≡◌ {A = ℕ} 4 2 = cc in omega arith)
words-term (Term.bound n) (Term.cipher M N) u v e = absurd (let z : ◌≡◌ {A = ℕ} 4 3 = cc in omega arith)
words-term (Term.pair A B) (Term.name m) u v e = absurd (let z : ◌≡◌ {A = ℕ} 2 1 = cc in omega arith)
words-term (Term.pair A B) (Term.bound m) u v e = absurd (let z : ◌≡◌ {A = ℕ} 2 4 = cc in omega arith)
words-term (Term.pair A B) (Term.pair M N) u v e = two (words-term A M) (words-term B N) e
  where
    two : ((s t : List ℕ) → term_words A ++ s ≡ term_words M ++ t → (A ≡ M) × (s ≡ t))
        → ((s t : List ℕ) → term_words B ++ s ≡ term_words N ++ t → (B ≡ N) × (s ≡ t))
        → 2 ∷ (term_words A ++ term_words B ++ u) ≡ 2 ∷ (term_words M ++ term_words N ++ v) → (Term.pair A B ≡ Term.pair M N) × (u ≡ v)
    two f g h =
        let t : term_words A ++ term_words B ++ u ≡ term_words M ++ term_words N ++ v = cc in
        let (p, q) =
        f (term_words B ++ u) (term_words N ++ v) (sym (append_assoc (term_words A) (term_words B) u) ∙ t ∙ append_assoc (term_words M) (term_words N) v) in
        let (r, s) = g u v q in
        (cc, s)
words-term (Term.pair A B) (Term.cipher M N) u v e = absurd (let z : ◌≡◌ {A = ℕ} 2 3 = cc in omega arith)
words-term (Term.cipher A B) (Term.name m) u v e = absurd (let z : ◌≡◌ {A = ℕ} 3 1 = cc in omega arith)
words-term (Term.cipher A B) (Term.bound m) u v e = absurd (let z : ◌≡◌ {A = ℕ} 3 4 = cc in omega arith)
words-term (Term.cipher A B) (Term.pair M N) u v e = absurd (let z : ◌≡◌ {A = ℕ} 3 2 = cc in omega arith)
words-term (Term.cipher A B) (Term.cipher M N) u v e = two (words-term A M) (words-term B N) e
  where
    two : ((s t : List ℕ) → term_words A ++ s ≡ term_words M ++ t → (A ≡ M) × (s ≡ t))
        → ((s t : List ℕ) → term_words B ++ s ≡ term_words N ++ t → (B ≡ N) × (s ≡ t))
        → 3 ∷ (term_words A ++ term_words B ++ u) ≡ 3 ∷ (term_words M ++ term_words N ++ v) → (Term.cipher A B ≡ Term.cipher M N) × (u ≡ v)
    two f g h =
        let t : term_words A ++ term_words B ++ u ≡ term_words M ++ term_words N ++ v = cc in
        let (p, q) =
        f (term_words B ++ u) (term_words N ++ v) (sym (append_assoc (term_words A) (term_words B) u) ∙ t ∙ append_assoc (term_words M) (term_words N) v) in
        let (r, s) = g u v q in
        (cc, s)

pub words-effect : (e f : Effect) → effect_words e ≡ effect_words f → e ≡ f
unfolding effect_words
words-effect (Effect.end M) (Effect.end N) e =
    let h : term_words M ≡ term_words N = cc in
    ap Effect.end (words-term M N [] [] (ap (λ (l : List ℕ). l ++ []) h)).0
words-effect (Effect.end M) (Effect.check N) e = absurd (let z : ◌≡◌ {A = ℕ} 1 2 = cc in omega arith)
words-effect (Effect.check M) (Effect.end N) e = absurd (let z : ◌≡◌ {A = ℕ} 2 1 = cc in omega arith)
words-effect (Effect.check M) (Effect.check N) e =
    let h : term_words M ≡ term_words N = cc in
    ap Effect.check (words-term M N [] [] (ap (λ (l : List ℕ). l ++ []) h)).0

-- ---- lists in order
-- e is no later than any of es
abbrev Least : Effect → List Effect → Type 0
Least e [] = Unit {0}
Least e (f ∷ fs) = (up_to (effect_words e) (effect_words f) ≡ true) × Least e fs

abbrev pub Ordered : List Effect → Type 0
Ordered [] = Unit {0}
Ordered (e ∷ es) = Least e es × Ordered es

least-trans : (e f : Effect) (fs : List Effect) → up_to (effect_words e) (effect_words f) ≡ true → Least f fs → Least e fs
least-trans e f [] h l = tt
least-trans e f (g ∷ fs) h l = (up_to-trans _ _ _ h l.0, least-trans e f fs h l.1)

least-insert : (e f : Effect) (fs : List Effect) → up_to (effect_words e) (effect_words f) ≡ true → Least e fs → Least e (insert f fs)
unfolding insert
least-insert e f [] h l = (h, tt)
least-insert e f (g ∷ fs) h l =
    let r = least-insert e f fs h l.1 in
    pick_ind (Least e) (up_to (effect_words f) (effect_words g)) (f ∷ g ∷ fs) (g ∷ insert f fs) (λ _. (h, l)) (λ _. (l.0, r))

pub insert-ordered : (e : Effect) (es : List Effect) → Ordered es → Ordered (insert e es)
unfolding insert
insert-ordered e [] o = (tt, tt)
insert-ordered e (f ∷ fs) o =
    let r = insert-ordered e fs o.1 in
    pick_ind Ordered (up_to (effect_words e) (effect_words f)) (e ∷ f ∷ fs) (f ∷ insert e fs) (λ h. ((h, least-trans e f fs h o.0), o))
    (λ h. (least-insert f e fs (up_to-total _ _ h) o.0, r))

pub plus-ordered : (es fs : List Effect) → Ordered fs → Ordered (plus es fs)
unfolding plus
plus-ordered [] fs o = o
plus-ordered (e ∷ es) fs o = insert-ordered e (plus es fs) (plus-ordered es fs o)

pub bag-ordered : (es : List Effect) → Ordered (bag es)
unfolding bag
bag-ordered es = plus-ordered es [] tt

least-remove : (e f : Effect) (fs : List Effect) → Least e fs → Least e (remove f fs)
unfolding remove
least-remove e f [] l = tt
least-remove e f (g ∷ fs) l =
    let r = least-remove e f fs l.1 in
    choose-ind (Least e) (same_effect f g) fs (g ∷ remove f fs) (λ _. l.1) (λ _. (l.0, r))

remove-ordered : (f : Effect) (es : List Effect) → Ordered es → Ordered (remove f es)
unfolding remove
remove-ordered f [] o = tt
remove-ordered f (g ∷ es) o =
    let r = remove-ordered f es o.1 in
    choose-ind Ordered (same_effect f g) es (g ∷ remove f es) (λ _. o.1) (λ _. (least-remove g f es o.0, r))

pub minus-ordered : (es fs : List Effect) → Ordered es → Ordered (minus es fs)
unfolding minus
minus-ordered es [] o = o
minus-ordered es (f ∷ fs) o = minus-ordered (remove f es) fs (remove-ordered f es o)

-- the first of a list in order is no later than what is counted in it
least-counted : (e f : Effect) (fs : List Effect) → Least f fs → 0 < count e fs → up_to (effect_words f) (effect_words e) ≡ true
unfolding count
least-counted e f [] l h = absurd (omega arith)
least-counted e f (g ∷ fs) l h =
    let r = least-counted e f fs l.1 in
    elim (same_effect e g) [
      | yes p ↦ subst (λ (k : Effect). up_to (effect_words f) (effect_words k) ≡ true) (sym p) l.0
      | no p ↦
          r (omega (arith, count-other e g fs p))
    ]

up_to-refl : (xs : List ℕ) → up_to xs xs ≡ true
unfolding up_to
up_to-refl [] = refl
up_to-refl (x ∷ xs) = up_to-on x x xs xs refl ∙ up_to-refl xs

head-counted : (e f : Effect) (fs : List Effect) → Least f fs → 0 < count e (f ∷ fs) → up_to (effect_words f) (effect_words e) ≡ true
head-counted e f fs l h = least-counted e f (f ∷ fs) (up_to-refl (effect_words f), l) h

-- lists in order in which each effect stands equally often are equal
pub ordered_same : (es fs : List Effect) → Ordered es → Ordered fs → ((e : Effect) → count e es ≡ count e fs) → es ≡ fs
ordered_same [] [] o p h = refl
ordered_same [] (f ∷ fs) o p h = absurd (omega (arith, h f, count-here f f fs refl, count_none f))
ordered_same (e ∷ es) [] o p h = absurd (omega (arith, h e, count-here e e es refl, count_none e))
ordered_same (e ∷ es) (f ∷ fs) o p h =
    let q = head-counted e f fs p.0 (omega (arith, h e, count-here e e es refl)) in
    let r = head-counted f e es o.0 (omega (arith, h f, count-here f f fs refl)) in
    let same : e ≡ f = words-effect e f (up_to-same _ _ r q) in
    let rest : es ≡ fs = ordered_same es fs o.1 p.1 (λ g. elim (same_effect g e) [
      | yes s ↦ omega (arith, h g, count-here g e es s, count-here g f fs (s ∙ same))
      | no s ↦ omega (arith, h g, count-other g e es s, count-other g f fs (λ t. s (t ∙ sym same)))
    ]) in
    cc

-- two lists are one multiset exactly if each effect stands in them equally often
pub bag-same : (es fs : List Effect) → (bag es ≡ bag fs) ↔ ((e : Effect) → count e es ≡ count e fs)
bag-same es fs = (
  λ h e. sym (count-bag e es) ∙ ap (count e) h ∙ count-bag e fs,
  λ h. ordered_same (bag es) (bag fs) (bag-ordered es) (bag-ordered fs) (λ e. count-bag e es ∙ h e ∙ sym (count-bag e fs)),
)
