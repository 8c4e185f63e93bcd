-- Types compared word by word, and nonces' effects as multisets. Assumes nothing.
use Prim.Native.Nat.{ℕ, zero, suc, ◌+◌, ◌-◌, ◌≤◌, ◌<◌}
use Rattle.std.specs.Prelude.{Bool, true, false, ◌≡◌, eqb, length, get_or, Option as Answer, None, Some, IsSome}
use mathlib.Core.List.{List, [], ◌∷◌, map}
use Rattle.std.proofs.lemmas.List.{length-map, map-id}
use Rattle.std.proofs.Common.{◌∙◌, subst, length-drop, drop_of_length-le, eq-eqb, ne_eqb}
use Rattle.std.proofs.Math.Option.{Option, none, some}
use Rattle.std.proofs.Math.Path.{refl, sym, ap}
use native.Mathlib.Omega.{arith}
use Rattle.std.proofs.Math.Decide.{dec_lt, ℕ_discrete}
use Rattle.std.proofs.Math.ListN.{drop}
use Rattle.std.proofs.Math.Seq.{drop-cons}
use Rattle.words.specs.Choice.{pick, then}
use Rattle.words.specs.Choice.Laws.{pick_true, pick-false}
use Rattle.typing.specs.Term.{Effect}
use Rattle.typing.specs.Bag.{bag}
use Rattle.typing.specs.Types.{Ty, same_type, same_effects}
use Rattle.typing.specs.Reading.{Read, ahead, joined, altered, only, effects, with_effects, types, type_at}
use Rattle.spans.specs.Behind.{rest_of, At, Ends, type_own, type_parts}
use Rattle.spans.specs.Behind.Laws.{Counted}
use Rattle.spans.specs.Behind.Types.{types-counted, types-go, types-stop, rest-type, empty}
use Rattle.alike.specs.Same.{value_or, effects_in, type_in, test, own_effects, form}
use Rattle.alike.specs.Same.Laws.{read-value, value-ahead, value_after, some-not, test-yes, test-no, test-true}
use Rattle.words.specs.First.Laws.{clash}

-- ---- what was read, with one in front and with the first put together
value-then : {A B : Type 0} (r : Read A) (a : A) (k : A → List ℕ → Read (List B)) (v : List ℕ) → rest_of r ≡ some v
    → value_or [] (then r (λ p. k p.0 p.1)) ≡ value_or [] (k (value_or a r) v)
unfolding rest_of then value_or
value-then none a k v h = cc
value-then (some p) a k v h =
    let s : p.1 ≡ v = cc in
    ap (λ (u : List ℕ). value_or [] (k p.0 u)) s

one_of : {u v : List ℕ} → ◌≡◌ {A = Option (List ℕ)} (some u) (some v) → u ≡ v
one_of e = cc

plus-zero : (t : ℕ) → t + 0 ≡ t
plus-zero t = omega arith

plus_one : (t : ℕ) → t + 1 ≡ suc t
plus_one t = omega arith

plus-two : (t : ℕ) → t + 2 ≡ suc (suc t)
plus-two t = omega arith

-- the types that begin with a word are formed as it says
types-form : (f t c : ℕ) (u v z : List ℕ) → type_own (c ∷ u) ≡ some v → rest_of (types f (t + type_parts c) v) ≡ some z
    → value_or [] (types (suc f) (suc t) (c ∷ u)) ≡ form c (own_effects (c ∷ u)) (value_or [] (types f (t + type_parts c) v))
unfolding types type_own type_parts with_effects form own_effects pick
types-form f t zero u v z o r = cc
types-form f t (suc zero) u v z o r =
    let q = rw (plus-zero t, ← one_of o) at r in
    rw (plus-zero t, ← one_of o) (value-ahead Ty.Un (types f t u) z q)
types-form f t (suc (suc zero)) u v z o r =
    let q = rw (plus-two t, ← one_of o) at r in
    rw (plus-two t, ← one_of o) (value_after (joined Ty.pair) [] [] (types f (suc (suc t)) u) z q)
types-form f t (suc (suc (suc zero))) u v z o r =
    let q = rw (plus_one t, ← one_of o) at r in
    rw (plus_one t, ← one_of o) (value_after (altered Ty.channel) [] [] (types f (suc t) u) z q)
types-form f t (suc (suc (suc (suc zero)))) u v z o r =
    let q = rw (plus_one t, ← one_of o) at r in
    rw (plus_one t, ← one_of o) (value_after (altered Ty.symkey) [] [] (types f (suc t) u) z q)
types-form f t (suc (suc (suc (suc (suc zero))))) [] v z o r = cc
types-form f t (suc (suc (suc (suc (suc zero))))) (n ∷ u) v z o r =
    let q = rw (plus-zero t) at r in
    rw (plus-zero t)
    (value-then (effects n u) [] (λ es w. ahead (Ty.nonce (bag es)) (types f t w)) v o
    ∙ value-ahead (Ty.nonce (bag (value_or [] (effects n u)))) (types f t v) z q)
types-form f t (suc (suc (suc (suc (suc (suc c)))))) u v z o r = cc

-- ---- forms
pub code_of : Ty → ℕ
code_of Ty.Un = 1
code_of (Ty.pair T U) = 2
code_of (Ty.channel T) = 3
code_of (Ty.symkey T) = 4
code_of (Ty.nonce es) = 5

pub head_code : List Ty → ℕ
head_code [] = 0
head_code (T ∷ l) = code_of T

-- a word that begins a type
abbrev pub Begins : ℕ → Type 0
Begins c = (0 < c) × (c ≤ 5)

pub form-code : (c : ℕ) (es : List Effect) (l : List Ty) → Begins c → type_parts c ≤ length l → head_code (form c es l) ≡ c
unfolding form type_parts head_code code_of joined altered
form-code zero es l b h = absurd (omega arith)
form-code (suc zero) es l b h = refl
form-code (suc (suc zero)) es [] b h = absurd (omega arith)
form-code (suc (suc zero)) es (T ∷ []) b h = absurd (omega arith)
form-code (suc (suc zero)) es (T ∷ U ∷ l) b h = refl
form-code (suc (suc (suc zero))) es [] b h = absurd (omega arith)
form-code (suc (suc (suc zero))) es (T ∷ l) b h = refl
form-code (suc (suc (suc (suc zero)))) es [] b h = absurd (omega arith)
form-code (suc (suc (suc (suc zero)))) es (T ∷ l) b h = refl
form-code (suc (suc (suc (suc (suc zero))))) es l b h = refl
form-code (suc (suc (suc (suc (suc (suc c)))))) es l b h = absurd (omega arith)

pub form-rest : (c : ℕ) (es fs : List Effect) (l m : List Ty) → Begins c → type_parts c ≤ length l → type_parts c ≤ length m
    → form c es l ≡ form c fs m → l ≡ m
unfolding form type_parts joined altered
form-rest zero es fs l m b h k e = absurd (omega arith)
form-rest (suc zero) es fs l m b h k e = cc
form-rest (suc (suc zero)) es fs [] m b h k e = absurd (omega arith)
form-rest (suc (suc zero)) es fs (T ∷ []) m b h k e = absurd (omega arith)
form-rest (suc (suc zero)) es fs (T ∷ U ∷ l) [] b h k e = absurd (omega arith)
form-rest (suc (suc zero)) es fs (T ∷ U ∷ l) (R ∷ []) b h k e = absurd (omega arith)
form-rest (suc (suc zero)) es fs (T ∷ U ∷ l) (R ∷ S ∷ m) b h k e = cc
form-rest (suc (suc (suc zero))) es fs [] m b h k e = absurd (omega arith)
form-rest (suc (suc (suc zero))) es fs (T ∷ l) [] b h k e = absurd (omega arith)
form-rest (suc (suc (suc zero))) es fs (T ∷ l) (R ∷ m) b h k e = cc
form-rest (suc (suc (suc (suc zero)))) es fs [] m b h k e = absurd (omega arith)
form-rest (suc (suc (suc (suc zero)))) es fs (T ∷ l) [] b h k e = absurd (omega arith)
form-rest (suc (suc (suc (suc zero)))) es fs (T ∷ l) (R ∷ m) b h k e = cc
form-rest (suc (suc (suc (suc (suc zero))))) es fs l m b h k e = cc
form-rest (suc (suc (suc (suc (suc (suc c)))))) es fs l m b h k e = absurd (omega arith)

pub form-effects : (es fs : List Effect) (l m : List Ty) → form 5 es l ≡ form 5 fs m → es ≡ fs
unfolding form
form-effects es fs l m e = cc

own-begins : (c : ℕ) (u v : List ℕ) → type_own (c ∷ u) ≡ some v → Begins c
unfolding type_own
own-begins zero u v o = cc
own-begins (suc zero) u v o = (omega arith, omega arith)
own-begins (suc (suc zero)) u v o = (omega arith, omega arith)
own-begins (suc (suc (suc zero))) u v o = (omega arith, omega arith)
own-begins (suc (suc (suc (suc zero)))) u v o = (omega arith, omega arith)
own-begins (suc (suc (suc (suc (suc zero))))) u v o = (omega arith, omega arith)
own-begins (suc (suc (suc (suc (suc (suc c)))))) u v o = cc

-- ---- along a type's words: at the place i, `due` types are still to come, which end at `end`
pub record Along (w : List ℕ) (end i due : ℕ) : Type 0 where
  pub fuel : ℕ
  pub enough : length w ≤ i + fuel
  pub reads : rest_of (types fuel due (drop i w)) ≡ some (drop end w)
  pub few : due ≤ i + 1

-- those types
pub list_of : (w : List ℕ) (end i due : ℕ) → Along w end i due → List Ty
list_of w end i due t = value_or [] (types t.fuel due (drop i w))

pub along-begin : (w : List ℕ) (a end : ℕ) → At w a (rest_of (type_at (drop a w))) end → Along w end a 1
along-begin w a end h =
    record { fuel = length (drop a w); enough = omega (arith, length-drop a w); reads = sym (rest-type (drop a w)) ∙ h.rest; few = omega arith }

one_list : (r : Read (List Ty)) → Counted 1 r → (z : List ℕ) → rest_of r ≡ some z → value_or [] r ≡ value_or Ty.Un (only r) ∷ []
unfolding rest_of value_or only then
one_list none c z e = cc
one_list (some p) c z e = go p.0 p.1 (c p.0 p.1 refl)
  where
    go : (l : List Ty) (x : List ℕ) → length l ≡ 1 → l ≡ value_or Ty.Un (elim l as (λ _. Read Ty) [ [] ↦ none | a ∷ k ↦ some (a, x) ]) ∷ []
    go [] x d = absurd (omega arith)
    go (T ∷ []) x d = refl
    go (T ∷ U ∷ l) x d = absurd (omega arith)

pub begin-list : (w : List ℕ) (a end : ℕ) (h : At w a (rest_of (type_at (drop a w))) end) → list_of w end a 1 (along-begin w a end h) ≡ type_in w a ∷ []
unfolding list_of along-begin type_in type_at
begin-list w a end h = one_list (types (length (drop a w)) 1 (drop a w)) (types-counted (length (drop a w)) 1 (drop a w)) (drop end w)
    (sym (rest-type (drop a w)) ∙ h.rest)

sums : (due n p : ℕ) → 0 < due → n ≡ p → due - 1 + p ≡ due + n - 1
sums due n p h e = omega arith

few-sum : (due n i r : ℕ) → due ≤ i + 1 → n ≤ 2 → i + 1 ≤ r → 0 < due → due + n - 1 ≤ r + 1
few-sum due n i r d e f g = omega arith

many : (due n p k : ℕ) → 0 < due → n ≡ p → k ≡ due + n - 1 → p ≤ k
many due n p k h e d = omega arith

length-of : (f due : ℕ) (u z : List ℕ) → rest_of (types f due u) ≡ some z → length (value_or [] (types f due u)) ≡ due
length-of f due u z e =
    let r = read-value [] (types f due u) z e in
    types-counted f due u (value_or [] (types f due u)) z r

pub parts-small : (c : ℕ) → type_parts c ≤ 2
unfolding type_parts
parts-small zero = omega arith
parts-small (suc zero) = omega arith
parts-small (suc (suc zero)) = omega arith
parts-small (suc (suc (suc zero))) = omega arith
parts-small (suc (suc (suc (suc zero)))) = omega arith
parts-small (suc (suc (suc (suc (suc c))))) = omega arith

-- one turn
pub record Turn (w : List ℕ) (end i due : ℕ) (t : Along w end i due) (r n : ℕ) : Type 0 where
  pub next : Along w end r (due + n - 1)
  pub list : list_of w end i due t ≡ form (get_or w i 0) (own_effects (drop i w)) (list_of w end r (due + n - 1) next)
  pub long : type_parts (get_or w i 0) ≤ length (list_of w end r (due + n - 1) next)
  pub begins : (0 < get_or w i 0) × (get_or w i 0 ≤ 5)

module _ (w : List ℕ) (end i due : ℕ) (t : Along w end i due) where
  one_more : 0 < due → due ≡ suc (due - 1)
  one_more h = omega arith

  pub along-inside : 0 < due → i < length w
  along-inside h = elim (dec_lt i (length w)) [
    | yes l ↦ l
    | no l ↦
        absurd (some-not _ _ t.reads
        (ap (λ (m : ℕ). rest_of (types t.fuel m (drop i w))) (one_more h)
        ∙ ap (λ (u : List ℕ). rest_of (types t.fuel (suc (due - 1)) u)) (drop_of_length-le w {i = i} (omega arith)) ∙ empty t.fuel (due - 1)))
  ]

  more-fuel : 0 < due → t.fuel ≡ suc (t.fuel - 1)
  more-fuel h = omega (arith, t.enough, along-inside h)

  reading : 0 < due → types t.fuel due (drop i w) ≡ types (suc (t.fuel - 1)) (suc (due - 1)) (drop i w)
  reading h = ap (λ (f : ℕ). types f due (drop i w)) (more-fuel h) ∙ ap (λ (m : ℕ). types (suc (t.fuel - 1)) m (drop i w)) (one_more h)

  pub along-found : 0 < due → (o : Answer ℕ) → Ends w (i + 1) (type_own (drop i w)) o → IsSome o
  along-found h None n = absurd (some-not _ _ t.reads (ap rest_of (reading h) ∙ types-stop (t.fuel - 1) (due - 1) (drop i w) n))
  along-found h (Some r) b = refl

  pub along-turn : 0 < due → (r : ℕ) → At w (i + 1) (type_own (drop i w)) r → (n : ℕ) → n ≡ type_parts (get_or w i 0) → n ≤ 2
      → Turn w end i due t r n
  unfolding list_of
  along-turn h r b n e k =
      let c = drop-cons w i 0 (along-inside h) in
      let own : type_own (get_or w i 0 ∷ drop (suc i) w) ≡ some (drop r w) = rw c at b.rest in
      let d = sums due n (type_parts (get_or w i 0)) h e in
      let go = types-go (t.fuel - 1) (due - 1) (get_or w i 0) (drop (suc i) w) (drop r w) own in
      let whole = reading h ∙ ap (types (suc (t.fuel - 1)) (suc (due - 1))) c in
      let reads : rest_of (types (t.fuel - 1) (due - 1 + type_parts (get_or w i 0)) (drop r w)) ≡ some (drop end w) = sym go ∙ sym (ap rest_of whole)
      ∙ t.reads in
      let formed = types-form (t.fuel - 1) (due - 1) (get_or w i 0) (drop (suc i) w) (drop r w) (drop end w) own reads in
      let there : rest_of (types (t.fuel - 1) (due + n - 1) (drop r w)) ≡ some (drop end w) = rw d at reads in
      record {
        next = record { fuel = t.fuel - 1; enough = omega (arith, t.enough, b.after); reads = there; few = few-sum due n i r t.few k b.after h };
        list = ap (value_or []) whole ∙ formed
            ∙ ap (λ (m : ℕ). form (get_or w i 0) (own_effects (get_or w i 0 ∷ drop (suc i) w)) (value_or [] (types (t.fuel - 1) m (drop r w)))) d
            ∙ ap (λ (u : List ℕ). form (get_or w i 0) (own_effects u) (value_or [] (types (t.fuel - 1) (due + n - 1) (drop r w)))) (sym c);
        long = many due n (type_parts (get_or w i 0)) _ h e (length-of (t.fuel - 1) (due + n - 1) (drop r w) (drop end w) there);
        begins = own-begins (get_or w i 0) (drop (suc i) w) (drop r w) own;
      }

  pub along-none : due ≤ 0 → list_of w end i due t ≡ []
  unfolding list_of types value_or
  along-none h =
      let z : due ≡ 0 = omega arith in
      ap (λ (m : ℕ). value_or [] (types t.fuel m (drop i w))) z ∙ go t.fuel
    where
      go : (f : ℕ) → value_or [] (types f 0 (drop i w)) ≡ []
      go zero = refl
      go (suc f) = refl

own-other : (c : ℕ) (x : List ℕ) → (c ≡ 5 → ⊥) → own_effects (c ∷ x) ≡ []
unfolding own_effects
own-other c [] d = refl
own-other c (n ∷ x) d = pick-false (eqb c 5) _ _ (ne_eqb c 5 d)

own-past : own_effects [] ≡ []
unfolding own_effects
own-past = refl

pub own-not : (w : List ℕ) (i : ℕ) → (get_or w i 0 ≡ 5 → ⊥) → own_effects (drop i w) ≡ []
own-not w i d = elim (dec_lt i (length w)) [
  | yes l ↦ ap own_effects (drop-cons w i 0 l) ∙ own-other (get_or w i 0) (drop (suc i) w) d
  | no l ↦ ap own_effects (drop_of_length-le w {i = i} (omega arith)) ∙ own-past
]

-- ---- two types, the second with a change made: what is still to come is the same exactly if they are
-- what a test told of two lists of effects, the first from a to end, the second from b to last
abbrev pub Told : Type 1
Told = ℕ → ℕ → ℕ → ℕ → ℕ → ℕ → Bool → Type 0

-- a change of types makes of each the type that is formed alike, of what it makes of the parts and of the effects; the test tells whether
-- a list is what it makes of another
pub record Makes (u v : List ℕ) (told : Told) (ch : Ty → Ty) (g : List Effect → List Effect) : Type 0 where
  pub forms : (c : ℕ) (es : List Effect) (l : List Ty) → map ch (form c es l) ≡ form c (g es) (map ch l)
  pub none : g [] ≡ []
  pub tells : (a k end b l last : ℕ) (r : Bool) → rest_of (effects k (drop a u)) ≡ some (drop end u)
      → rest_of (effects l (drop b v)) ≡ some (drop last v)
      → told a k end b l last r → r ≡ test (same_effects (bag (effects_in u a k)) (g (bag (effects_in v b l))))

-- whether a type's own effects are what the change makes of another's
abbrev pub Agree : List ℕ → List ℕ → Told → ℕ → ℕ → Bool → Type 0
Agree u v told i j r = (ch : Ty → Ty) (g : List Effect → List Effect) → Makes u v told ch g
    → r ≡ test (same_effects (own_effects (drop i u)) (g (own_effects (drop j v))))

pub record Pairing (u v : List ℕ) (told : Told) (a e b f i j due : ℕ) : Type 0 where
  pub left : Along u e i due
  pub right : Along v f j due
  pub to : (ch : Ty → Ty) (g : List Effect → List Effect) → Makes u v told ch g → type_in u a ≡ ch (type_in v b)
      → list_of u e i due left ≡ map ch (list_of v f j due right)
  pub from : (ch : Ty → Ty) (g : List Effect → List Effect) → Makes u v told ch g → list_of u e i due left ≡ map ch (list_of v f j due right)
      → type_in u a ≡ ch (type_in v b)
  pub left-inside : 0 < due → i < length u
  pub right-inside : 0 < due → j < length v

module _ (u v : List ℕ) (told : Told) (a e b f : ℕ) where
  pub pairing-begin : At u a (rest_of (type_at (drop a u))) e → At v b (rest_of (type_at (drop b v))) f → Pairing u v told a e b f a b 1
  pairing-begin s t =
      let p = begin-list u a e s in
      let q = begin-list v b f t in
      record {
        left = along-begin u a e s;
        right = along-begin v b f t;
        to = λ ch g m h. p ∙ ap (λ (T : Ty). T ∷ []) h ∙ sym (ap (map ch) q);
        from = λ ch g m h. heads (sym p ∙ h ∙ ap (map ch) q);
        left-inside = along-inside u e a 1 (along-begin u a e s);
        right-inside = along-inside v f b 1 (along-begin v b f t);
      }
    where
      heads : {T U : Ty} → T ∷ [] ≡ U ∷ [] → T ≡ U
      heads h = cc

  module _ (i j due : ℕ) (t : Pairing u v told a e b f i j due) where
    pub pairing-left : 0 < due → (o : Answer ℕ) → Ends u (i + 1) (type_own (drop i u)) o → IsSome o
    pairing-left h o q = along-found u e i due t.left h o q

    pub pairing-right : 0 < due → (o : Answer ℕ) → Ends v (j + 1) (type_own (drop j v)) o → IsSome o
    pairing-right h o q = along-found v f j due t.right h o q

    module _ (h : 0 < due) (r : ℕ) (q : At u (i + 1) (type_own (drop i u)) r) (s : ℕ) (p : At v (j + 1) (type_own (drop j v)) s) where
      first-turn : (n : ℕ) → n ≡ type_parts (get_or u i 0) → Turn u e i due t.left r n
      first-turn n k = along-turn u e i due t.left h r q n k (rw k (parts-small (get_or u i 0)))

      second-turn : (n : ℕ) → n ≡ type_parts (get_or v j 0) → Turn v f j due t.right s n
      second-turn n k = along-turn v f j due t.right h s p n k (rw k (parts-small (get_or v j 0)))

      module _ (ch : Ty → Ty) (g : List Effect → List Effect) (m : Makes u v told ch g) where
        unequal : (list_of u e i due t.left ≡ map ch (list_of v f j due t.right) → ⊥) → false ≡ test (same_type (type_in u a) (ch (type_in v b)))
        unequal d = sym (test-no (same_type (type_in u a) (ch (type_in v b))) (λ z. d (t.to ch g m z)))

        -- the second list, one turn on
        right-list : (n : ℕ) (y : Turn v f j due t.right s n) → map ch (list_of v f j due t.right)
            ≡ form (get_or v j 0) (g (own_effects (drop j v))) (map ch (list_of v f s (due + n - 1) y.next))
        right-list n y = ap (map ch) y.list ∙ m.forms (get_or v j 0) (own_effects (drop j v)) (list_of v f s (due + n - 1) y.next)

        right-long : (n : ℕ) (y : Turn v f j due t.right s n)
            → type_parts (get_or v j 0) ≤ length (map ch (list_of v f s (due + n - 1) y.next))
        right-long n y = omega (arith, y.long, length-map (list_of v f s (due + n - 1) y.next) ch)

        pub pairing-words : (get_or u i 0 ≡ get_or v j 0 → ⊥) → false ≡ test (same_type (type_in u a) (ch (type_in v b)))
        pairing-words d =
            let n = type_parts (get_or v j 0) in
            let x = first-turn (type_parts (get_or u i 0)) refl in
            let y = second-turn (type_parts (get_or v j 0)) refl in
            unequal (λ z. d (sym (form-code (get_or u i 0) _ _ x.begins x.long)
            ∙ ap head_code (sym x.list ∙ z ∙ right-list (type_parts (get_or v j 0)) y)
            ∙ form-code (get_or v j 0) _ _ y.begins (right-long (type_parts (get_or v j 0)) y)))

        module _ (same : get_or u i 0 ≡ get_or v j 0) where
          -- the second list is formed by the first's word
          formed : (fs : List Effect) (l : List Ty) → form (get_or v j 0) fs l ≡ form (get_or u i 0) fs l
          formed fs l = ap (λ (c : ℕ). form c fs l) (sym same)

          pub pairing-effects : Agree u v told i j false → false ≡ test (same_type (type_in u a) (ch (type_in v b)))
          pairing-effects d =
              let x = first-turn (type_parts (get_or u i 0)) refl in
              let y = second-turn (type_parts (get_or v j 0)) refl in
              unequal (λ z. effects-clash _ _ (sym x.list ∙ z ∙ right-list (type_parts (get_or v j 0)) y ∙ formed _ _))
            where
              differ : own_effects (drop i u) ≡ g (own_effects (drop j v)) → ⊥
              differ z = clash (test-yes (same_effects (own_effects (drop i u)) (g (own_effects (drop j v)))) z) (sym (d ch g m))

              effects-clash : (l k : List Ty) → form (get_or u i 0) (own_effects (drop i u)) l ≡ form (get_or u i 0) (g (own_effects (drop j v))) k → ⊥
              effects-clash l k z = elim (ℕ_discrete (get_or u i 0) 5) [
                | yes five ↦
                    differ (form-effects (own_effects (drop i u)) (g (own_effects (drop j v))) l k
                    (ap (λ (c : ℕ). form c (own_effects (drop i u)) l) (sym five) ∙ z ∙ ap (λ (c : ℕ). form c (g (own_effects (drop j v))) k) five))
                | no other ↦ differ (own-not u i other ∙ sym (ap g (own-not v j (λ five. other (same ∙ five))) ∙ m.none))
              ]

          -- one turn on, in both lists
          turned : Agree u v told i j true → (n : ℕ) (k : n ≡ type_parts (get_or u i 0))
              → (l : n ≡ type_parts (get_or v j 0)) → map ch (list_of v f j due t.right)
              ≡ form (get_or u i 0) (own_effects (drop i u)) (map ch (list_of v f s (due + n - 1) (second-turn n l).next))
          turned d n k l =
              right-list n (second-turn n l) ∙ formed _ _
              ∙ ap (λ (fs : List Effect). form (get_or u i 0) fs (map ch (list_of v f s (due + n - 1) (second-turn n l).next)))
              (sym (test-true (same_effects (own_effects (drop i u)) (g (own_effects (drop j v)))) (sym (d ch g m))))

      pub pairing-again : get_or u i 0 ≡ get_or v j 0 → Agree u v told i j true → (n : ℕ) → n ≡ type_parts (get_or u i 0)
          → Pairing u v told a e b f r s (due + n - 1)
      pairing-again same d n k =
          let l : n ≡ type_parts (get_or v j 0) = k ∙ ap type_parts same in
          let x = first-turn n k in
          let y = second-turn n l in
          record {
            left = x.next;
            right = y.next;
            left-inside = along-inside u e r (due + n - 1) x.next;
            right-inside = along-inside v f s (due + n - 1) y.next;
            to = λ ch g m z. form-rest (get_or u i 0) _ _ _ _ x.begins x.long
                (subst (λ (c : ℕ). type_parts c ≤ length (map ch (list_of v f s (due + n - 1) y.next))) (sym same) (right-long ch g m n y))
                (sym x.list ∙ t.to ch g m z ∙ turned ch g m same d n k l);
            from = λ ch g m z. t.from ch g m
                (x.list ∙ ap (form (get_or u i 0) (own_effects (drop i u))) z ∙ sym (turned ch g m same d n k l));
          }

    pub pairing-done : due ≤ 0 → (ch : Ty → Ty) (g : List Effect → List Effect) → Makes u v told ch g
        → true ≡ test (same_type (type_in u a) (ch (type_in v b)))
    pairing-done h ch g m =
        sym (test-yes (same_type (type_in u a) (ch (type_in v b)))
        (t.from ch g m (along-none u e i due t.left h ∙ sym (ap (map ch) (along-none v f j due t.right h)))))

-- ---- a nonce's own effects
own-cut : (c : ℕ) (x v : List ℕ) → c ≡ 5 → type_own (c ∷ x) ≡ some v → 0 < length x
unfolding type_own
own-cut c [] v e o = let q : none ≡ some v = rw e at o in cc
own-cut c (n ∷ x) v e o = omega arith

pub own-list : (c n : ℕ) (x : List ℕ) → c ≡ 5 → (type_own (c ∷ n ∷ x) ≡ rest_of (effects n x)) ×
    (own_effects (c ∷ n ∷ x) ≡ bag (value_or [] (effects n x)))
unfolding type_own own_effects
own-list c n x e = (rw e, pick_true (eqb c 5) _ _ (eq-eqb c 5 e))

module _ (w : List ℕ) (i own : ℕ) (l : i < length w) (b : At w (i + 1) (type_own (drop i w)) own) (five : get_or w i 0 ≡ 5) where
  pub nonce-inside : i + 1 < length w
  nonce-inside =
      let o : type_own (get_or w i 0 ∷ drop (suc i) w) ≡ some (drop own w) = rw (drop-cons w i 0 l) at b.rest in
      omega (arith, own-cut (get_or w i 0) (drop (suc i) w) (drop own w) five o, length-drop (suc i) w)

  words : drop i w ≡ get_or w i 0 ∷ get_or w (i + 1) 0 ∷ drop (i + 2) w
  words =
      let one : suc i ≡ i + 1 = omega arith in
      let two : suc (i + 1) ≡ i + 2 = omega arith in
      drop-cons w i 0 l ∙ ap (λ (k : ℕ). get_or w i 0 ∷ drop k w) one
      ∙ ap (λ (x : List ℕ). get_or w i 0 ∷ x) (drop-cons w (i + 1) 0 nonce-inside) ∙ ap (λ (k : ℕ). get_or w i 0 ∷ get_or w (i + 1) 0 ∷ drop k w) two

  pub nonce-reads : (n : ℕ) → n ≡ get_or w (i + 1) 0 → rest_of (effects n (drop (i + 2) w)) ≡ some (drop own w)
  nonce-reads n e =
      ap (λ (k : ℕ). rest_of (effects k (drop (i + 2) w))) e ∙ sym (own-list (get_or w i 0) (get_or w (i + 1) 0) (drop (i + 2) w) five).0
      ∙ sym (ap type_own words) ∙ b.rest

  pub nonce-effects : (n : ℕ) → n ≡ get_or w (i + 1) 0 → bag (effects_in w (i + 2) n) ≡ own_effects (drop i w)
  unfolding effects_in
  nonce-effects n e =
      ap (λ (k : ℕ). bag (value_or [] (effects k (drop (i + 2) w)))) e
      ∙ sym (ap own_effects words ∙ (own-list (get_or w i 0) (get_or w (i + 1) 0) (drop (i + 2) w) five).1)

module _ (u v : List ℕ) (told : Told) (i j : ℕ) (same : get_or u i 0 ≡ get_or v j 0) where
  pub agree-none : (get_or u i 0 ≡ 5 → ⊥) → Agree u v told i j true
  agree-none d ch g m =
      sym (test-yes (same_effects (own_effects (drop i u)) (g (own_effects (drop j v))))
      (own-not u i d ∙ sym (ap g (own-not v j (λ e. d (same ∙ e))) ∙ m.none)))

  pub agree-nonces : (own other : ℕ) (l : i < length u) (k : j < length v) (s : At u (i + 1) (type_own (drop i u)) own)
      (t : At v (j + 1) (type_own (drop j v)) other) → get_or u i 0 ≡ 5 → (n m : ℕ) → n ≡ get_or u (i + 1) 0 → m ≡ get_or v (j + 1) 0
      → (r : Bool) → told (i + 2) n own (j + 2) m other r → Agree u v told i j r
  agree-nonces own other l k s t five n m e f r d ch g makes =
      let five2 = sym same ∙ five in
      makes.tells (i + 2) n own (j + 2) m other r (nonce-reads u i own l s five n e) (nonce-reads v j other k t five2 m f) d
      ∙ ap (λ (es : List Effect). test (same_effects es (g (bag (effects_in v (j + 2) m))))) (nonce-effects u i own l s five n e)
      ∙ ap (λ (fs : List Effect). test (same_effects (own_effects (drop i u)) (g fs))) (nonce-effects v j other k t five2 m f)

-- ---- no change
pub Makes_same : (u v : List ℕ) (told : Told) → ((a k end b l last : ℕ) (r : Bool) → rest_of (effects k (drop a u)) ≡ some (drop end u)
    → rest_of (effects l (drop b v)) ≡ some (drop last v)
    → told a k end b l last r → r ≡ test (same_effects (bag (effects_in u a k)) (bag (effects_in v b l))))
    → Makes u v told (λ T. T) (λ es. es)
Makes_same u v told tells =
    record { forms = λ c es l. map-id (form c es l) ∙ ap (form c es) (sym (map-id l)); none = refl; tells = tells }
