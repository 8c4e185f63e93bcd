-- Laws of the words of a line: what it names is there exactly if it gives a judgement, and its premises are there exactly if they fit.
-- Assumes nothing.
use Prim.Native.Nat.{ℕ, zero, suc, ◌+◌, ◌≤◌, ◌<◌}
use Rattle.std.specs.Prelude.{Bool, ◌&&◌, refl, ltb, length, drop, get_or, map}
use Rattle.std.proofs.Math.Bool.{true, false}
use Rattle.std.proofs.Common.{◌∙◌, arith, add-one, drop-cons, drop_of_length-le}
use Rattle.std.proofs.lemmas.List.{length-map, get_or-map}
use mathlib.Core.List.{List, [], ◌∷◌}
use Rattle.std.proofs.Math.Option.{Option, none, some}
use Rattle.std.proofs.Math.Path.{◌≡◌, sym, ap, ap₂, subst}
use borrow.Author.Tests.{ltb-true, lt-ltb, le-ltb}
use Rattle.words.specs.Choice.{then}
use Rattle.words.specs.Choice.Laws.{pick_true, pick_ind}
use Rattle.words.specs.First.Laws.{clash}
use Rattle.typing.specs.Term.{Term}
use Rattle.typing.specs.Types.{Ty}
use Rattle.typing.specs.Process.{Process}
use Rattle.typing.specs.Judgement.{Judgement}
use Rattle.typing.proofs.Check.Laws.{both, and_both, instance-follows}
use Rattle.typing.specs.Reading.{Read, term, effects, type_at, environment_at, process_at}
use Rattle.typing.specs.Derivation.{Kind, Numbered, rule_of, line_word, effect_count, read, judgement, given, earlier, premises_from}
use Rattle.typing.specs.Derivation.{IsInstance, by_rule, holds, passes}
use Rattle.typing.proofs.Derivation.Laws.{then-came, then-goes, line-exact}
use Rattle.spans.specs.Behind.{rest_of}
use Rattle.alike.specs.Same.{value_or, term_in, effects_in, type_in, environment_in}
use Rattle.parts.specs.Place.{process_in}
use Rattle.shapes.specs.Shape.{Reads}
use Rattle.ruling.specs.Line.{says_environment, says_type, says_effect, says_term, says_process}
use Rattle.ruling.specs.declared.Line.{Line}
use Rattle.choosing.specs.Kinds.{is_kind, kind_of, kinds_of, premise_kinds, kind_at, premises_of}
use Rattle.choosing.specs.Kinds.Laws.{follows-kinds, premises-many, premises-few, premises_short, premises-rule, kind-rule, kind-none, kind_is, is_kind-at}
use Rattle.choosing.specs.Choose.Laws.{there-test, test-there}
use Rattle.choosing.specs.Choose.{says, There, is_there, says_all, AllThere, Ready, follows_by}
use Rattle.checking.specs.Lines.{line_of, fits_at, fits_from, fits_all, Passed}

-- ---- what is read at a place
read-value : {A : Type 0} (r : List ℕ → Read A) (a : A) (w : List ℕ) (i : ℕ) → Reads r w i → read r w i ≡ some (value_or a (r (drop i w)))
unfolding read then value_or rest_of
read-value r a w i t = go (r (drop i w)) t.reads
  where
    go : (o : Read _) → rest_of o ≡ some t.behind → then o (λ p. some p.0) ≡ some (value_or a o)
    go none e = absurd (let z : ◌≡◌ {A = ℕ} 0 1 = cc in omega arith)
    go (some p) e = refl

value_read : {A : Type 0} (r : List ℕ → Read A) (a : A) (w : List ℕ) (i : ℕ) → read r w i ≡ some a → Reads r w i
unfolding read then rest_of
value_read r a w i e = go (r (drop i w)) refl e
  where
    go : (o : Read _) → r (drop i w) ≡ o → then o (λ p. some p.0) ≡ some a → Reads r w i
    go none d h = absurd (let z : ◌≡◌ {A = ℕ} 0 1 = cc in omega arith)
    go (some p) d h = record { behind = p.1; reads = ap rest_of d }

pub some_is : {A : Type 0} {a b : A} → ◌≡◌ {A = Option A} (some a) (some b) → a ≡ b
some_is e = cc

-- ---- the judgement that a line of a kind gives
module _ (w : List ℕ) (i : ℕ) where
  there-judgement : (k : Kind) → There k w (line_of w i) → judgement k w i ≡ some (says k w (line_of w i))
  unfolding judgement says says_environment says_type says_effect says_term says_process line_of environment_in type_in term_in effects_in process_in then
  there-judgement Kind.of_environment t = rw (read-value environment_at [] w _ t.environment, then)
  there-judgement Kind.of_type t = rw (read-value environment_at [] w _ t.environment, then, read-value type_at Ty.Un w _ t.type, then)
  there-judgement Kind.of_effect t = rw (read-value environment_at [] w _ t.environment, then, read-value (effects _) [] w _ t.effects, then)
  there-judgement Kind.of_term t =
      rw (
        read-value environment_at [] w _ t.environment,
        then,
        read-value term (Term.bound 0) w _ t.term,
        then,
        read-value type_at Ty.Un w _ t.type,
        then,
      )
  there-judgement Kind.of_process t =
      rw (
        read-value environment_at [] w _ t.environment,
        then,
        read-value process_at Process.stop w _ t.process,
        then,
        read-value (effects _) [] w _ t.effects,
        then,
      )

  -- where one is given, it is of the kind, and what the line names is there
  judgement-there : (k : Kind) (K : Judgement) → judgement k w i ≡ some K → There k w (line_of w i) × (kind_of K ≡ k)
  unfolding judgement line_of kind_of
  judgement-there Kind.of_environment K e =
      let (E, p, q) = then-came (read environment_at w (line_word w i 4)) _ K e in
      (record { environment = value_read environment_at E w _ p }, ap kind_of (sym (some_is q)))
  judgement-there Kind.of_type K e =
      let (E, p, d) = then-came (read environment_at w (line_word w i 4)) _ K e in
      let (T, q, c) = then-came (read type_at w (line_word w i 6)) _ K d in
      (record { environment = value_read environment_at E w _ p; type = value_read type_at T w _ q }, ap kind_of (sym (some_is c)))
  judgement-there Kind.of_effect K e =
      let (E, p, d) = then-came (read environment_at w (line_word w i 4)) _ K e in
      let (es, q, c) = then-came (read (effects (effect_count w i)) w (line_word w i 7)) _ K d in
      (record { environment = value_read environment_at E w _ p; effects = value_read (effects (effect_count w i)) es w _ q }, ap kind_of (sym (some_is c)))
  judgement-there Kind.of_term K e =
      let (E, p, d) = then-came (read environment_at w (line_word w i 4)) _ K e in
      let (M, q, c) = then-came (read term w (line_word w i 5)) _ K d in
      let (T, s, b) = then-came (read type_at w (line_word w i 6)) _ K c in
      (record { environment = value_read environment_at E w _ p; term = value_read term M w _ q; type = value_read type_at T w _ s }, ap kind_of (sym (some_is b)))
  judgement-there Kind.of_process K e =
      let (E, p, d) = then-came (read environment_at w (line_word w i 4)) _ K e in
      let (P, q, c) = then-came (read process_at w (line_word w i 5)) _ K d in
      let (es, s, b) = then-came (read (effects (effect_count w i)) w (line_word w i 7)) _ K c in (
        record {
          environment = value_read environment_at E w _ p;
          process = value_read process_at P w _ q;
          effects = value_read (effects (effect_count w i)) es w _ s;
        },
        ap kind_of (sym (some_is b)),
      )

  -- ---- the judgement that line i gives, by its own rule
  pub rule-given : (r : Numbered) → rule_of (line_word w i 0) ≡ some r → There r.kind w (line_of w i) → given w i ≡ some (says r.kind w (line_of w i))
  unfolding given
  rule-given r e t = then-goes (rule_of (line_word w i 0)) (λ s. judgement s.kind w i) r e ∙ there-judgement r.kind t

  pub given-kind : (K : Judgement) → given w i ≡ some K → kind_at (line_word w i 0) 0 ≡ some (kind_of K)
  unfolding given
  given-kind K e =
      let (r, n, d) = then-came (rule_of (line_word w i 0)) _ K e in
      kind-rule _ r n ∙ ap some (sym (judgement-there r.kind K d).1)

  -- a line that passes has a rule, and what it names is there
  pub passes-there : passes w i ≡ true → (r : Numbered) × (rule_of (line_word w i 0) ≡ some r) × There r.kind w (line_of w i)
  passes-there e =
      let h = (line-exact w i).0 e in
      (h.numbered, h.named, (judgement-there h.numbered.kind h.conclusion h.gives).0)

  -- ---- the lines that line i names as its premises
  pub fits_by : (p j : ℕ) (k : Kind) (o : Option Kind) → j ≡ line_word w i p → j < i → o ≡ kind_at (line_word w j 0) 0
      → is_kind k o ≡ fits_at w i p k
  unfolding fits_at
  fits_by p j k o f l e =
      ap (is_kind k) (e ∙ ap (λ (x : ℕ). kind_at (line_word w x 0) 0) f)
      ∙ ap (λ (b : Bool). b && is_kind k (kind_at (line_word w (line_word w i p) 0) 0)) (sym (lt-ltb _ _ (omega arith)))

  pub fits-late : (p j : ℕ) (k : Kind) → j ≡ line_word w i p → i ≤ j → false ≡ fits_at w i p k
  unfolding fits_at
  fits-late p j k f l = ap (λ (b : Bool). b && is_kind k (kind_at (line_word w (line_word w i p) 0) 0)) (sym (le-ltb _ _ (omega arith)))

-- an earlier line of a kind
record Fit (w : List ℕ) (i p : ℕ) (k : Kind) : Type 0 where
  pub before : line_word w i p < i
  pub kind : kind_at (line_word w (line_word w i p) 0) 0 ≡ some k

module _ (w : List ℕ) (i : ℕ) where
  fits-fit : (p : ℕ) (k : Kind) → fits_at w i p k ≡ true → Fit w i p k
  unfolding fits_at
  fits-fit p k e =
      let (l, h) = both (ltb (line_word w i p) i) (is_kind k (kind_at (line_word w (line_word w i p) 0) 0)) e in
      record { before = ltb-true _ _ l; kind = kind_is k _ h }

  fit-fits : (p : ℕ) (k : Kind) → Fit w i p k → fits_at w i p k ≡ true
  unfolding fits_at
  fit-fits p k h = and_both _ _ (lt-ltb _ _ h.before) (is_kind-at k _ h.kind)

  earlier-came : (j : ℕ) (K : Judgement) → earlier w i j ≡ some K → (j < i) × (given w j ≡ some K)
  unfolding earlier
  earlier-came j K e =
      pick_ind (λ o. o ≡ some K → (j < i) × (given w j ≡ some K)) (ltb j i) (given w j) none (λ l h. (ltb-true _ _ l, h))
      (λ l h. absurd (let z : ◌≡◌ {A = ℕ} 0 1 = cc in omega arith)) e

  came-earlier : (j : ℕ) (K : Judgement) → j < i → given w j ≡ some K → earlier w i j ≡ some K
  unfolding earlier
  came-earlier j K l e = pick_true _ _ _ (lt-ltb j i l) ∙ e

  -- those that are found are of the kinds that they are
  found-fit : (k m : ℕ) (Ks : List Judgement) → premises_from w i k m ≡ some Ks → fits_from w i k (kinds_of Ks) ≡ true
  unfolding premises_from fits_from kinds_of
  found-fit k zero Ks e = ap (λ (l : List Judgement). fits_from w i k (kinds_of l)) (sym (some_is e))
  found-fit k (suc m) Ks e =
      let (K, p, d) = then-came (earlier w i (line_word w i k)) _ Ks e in
      let (Ls, f, c) = then-came (premises_from w i (suc k) m) _ Ks d in
      let (l, g) = earlier-came (line_word w i k) K p in
      let here : fits_at w i k (kind_of K) ≡ true = fit-fits k (kind_of K) (record { before = l; kind = given-kind w (line_word w i k) K g }) in
      subst (λ (Js : List Judgement). fits_from w i k (kinds_of Js) ≡ true) (some_is c) (and_both _ _ here (found-fit (suc k) m Ls f))

  -- those that fit are found, where the lines before pass
  premise_lines : ℕ → ℕ → List Line
  premise_lines k zero = []
  premise_lines k (suc m) = line_of w (line_word w i k) ∷ premise_lines (suc k) m

  fit_found : Passed w i → (ks : List Kind) (k m : ℕ) → length ks ≤ m → fits_from w i k ks ≡ true
      → (premises_from w i k (length ks) ≡ some (says_all ks w (premise_lines k m))) × AllThere ks w (premise_lines k m)
  unfolding premises_from fits_from says_all premise_lines then
  fit_found b [] k m l h = (refl, tt)
  fit_found b (c ∷ ks) k zero l h = absurd (omega arith)
  fit_found b (c ∷ ks) k (suc m) l h =
      let (here, behind) = both (fits_at w i k c) (fits_from w i (suc k) ks) h in
      let f = fits-fit k c here in
      let (r, n, t) = passes-there w (line_word w i k) (b (line_word w i k) f.before) in
      let same : r.kind ≡ c = some_is (sym (kind-rule _ r n) ∙ f.kind) in
      let there : There c w (line_of w (line_word w i k)) = subst (λ (d : Kind). There d w (line_of w (line_word w i k))) same t in
      let says-it : given w (line_word w i k) ≡ some (says c w (line_of w (line_word w i k))) =
      rule-given w (line_word w i k) r n t ∙ ap (λ (d : Kind). some (says d w (line_of w (line_word w i k)))) same in
      let (p, all) = fit_found b ks (suc k) m (omega arith) behind in
      (rw (came-earlier (line_word w i k) _ f.before says-it, then, p, then), (there, all))

-- ---- premise by premise, where the kinds are those of some list
module _ {A : Type 0} (w : List ℕ) (i n : ℕ) (f : A → Kind) (cs : List A) (e : map f cs ≡ premises_of n) (p : ℕ)
    (h : fits_from w i (p + 1) (drop p (premises_of n)) ≡ fits_all w i n) where
  fits-step : p < length cs → (d : A)
      → fits_all w i n ≡ (fits_at w i (p + 1) (f (get_or cs p d)) && fits_from w i (p + 1 + 1) (drop (p + 1) (premises_of n)))
  unfolding fits_from
  fits-step l d =
      let m : p < length (map f cs) = omega (arith, length-map cs f) in
      let here : drop p (premises_of n) ≡ f (get_or cs p d) ∷ drop (suc p) (premises_of n) =
      ap (drop p) (sym e) ∙ drop-cons (map f cs) p (f d) m
      ∙ ap₂ (λ (k : Kind) (ks : List Kind). k ∷ drop (suc p) ks) (get_or-map f cs p d (f d) l) e in
      sym h ∙ ap (fits_from w i (p + 1)) here
      ∙ ap₂ (λ (q r : ℕ). fits_at w i (p + 1) (f (get_or cs p d)) && fits_from w i q (drop r (premises_of n))) (sym (add-one (p + 1))) (sym (add-one p))

  module _ (l : p < length cs) (d : A) (v : Bool) (is : v ≡ fits_at w i (p + 1) (f (get_or cs p d))) where
    pub fits-stop : v ≡ false → false ≡ fits_all w i n
    fits-stop q = sym (fits-step l d ∙ ap (λ (b : Bool). b && fits_from w i (p + 1 + 1) (drop (p + 1) (premises_of n))) (sym is ∙ q))

    pub fits-next : v ≡ true → fits_from w i (p + 1 + 1) (drop (p + 1) (premises_of n)) ≡ fits_all w i n
    fits-next q = sym (fits-step l d ∙ ap (λ (b : Bool). b && fits_from w i (p + 1 + 1) (drop (p + 1) (premises_of n))) (sym is ∙ q))

  pub fits-over : length cs ≤ p → true ≡ fits_all w i n
  unfolding fits_from
  fits-over l =
      let m : length (premises_of n) ≤ p = omega (arith, length-map cs f, ap (length {A = Kind}) e) in
      sym (ap (fits_from w i (p + 1)) (drop_of_length-le (premises_of n) {i = p} m)) ∙ h

pub fits-begin : (w : List ℕ) (i n : ℕ) → fits_from w i (0 + 1) (drop 0 (premises_of n)) ≡ fits_all w i n
unfolding fits_all
fits-begin w i n = refl

pub premises_few : {A : Type 0} (n : ℕ) (f : A → Kind) (cs : List A) → map f cs ≡ premises_of n → length cs ≤ 3
premises_few n f cs e = omega (arith, length-map cs f, ap (length {A = Kind}) e, premises_short n)

-- ---- a line whose things are there has a rule
ruled : (w : List ℕ) (n : ℕ) (k : Kind) (l : Line) → some k ≡ kind_at n 0 → is_there k w l ≡ true
    → (r : Numbered) × (rule_of n ≡ some r) × There r.kind w l
ruled w n k l c e = go (rule_of n) refl
  where
    go : (o : Option Numbered) → rule_of n ≡ o → (r : Numbered) × (rule_of n ≡ some r) × There r.kind w l
    go none d = absurd (let z : none ≡ some k = sym (c ∙ kind-none n d) in let y : ◌≡◌ {A = ℕ} 0 1 = cc in omega arith)
    go (some r) d = (r, d, there-test r.kind w l (ap (λ (j : Kind). is_there j w l) (sym (some_is (c ∙ kind-rule n r d))) ∙ e))

-- ---- line i, by the rule that it names
module _ (w : List ℕ) (i : ℕ) where
  abbrev premise : ℕ → Line
  premise p = line_of w (line_word w i p)

  abbrev three : List Line
  three = premise 1 ∷ premise 2 ∷ premise 3 ∷ []

  module _ (b : Passed w i) (n : ℕ) (k : Kind) (c : some k ≡ kind_at n 0) (t : is_there k w (line_of w i) ≡ true)
      (f : fits_all w i n ≡ true) where
    all_found : (r : Numbered) → rule_of n ≡ some r
        → (premises_from w i 1 r.premises ≡ some (says_all (premise_kinds r.rule) w three)) × AllThere (premise_kinds r.rule) w three
    unfolding premise_lines fits_all
    all_found r e =
        let fit : fits_from w i 1 (premise_kinds r.rule) ≡ true = ap (fits_from w i 1) (sym (premises-rule n r e)) ∙ f in
        let (p, all) = fit_found w i b (premise_kinds r.rule) 1 3 (omega (arith, premises-many n r e, premises-few n r e)) fit in
        (ap (premises_from w i 1) (sym (premises-many n r e)) ∙ p, all)

    ready-line : Ready (rule_of n) w (line_of w i) three
    ready-line =
        let (r, e, h) = ruled w n k (line_of w i) c t in
        subst (λ (o : Option Numbered). Ready o w (line_of w i) three) (sym e) (h, (all_found r e).1)

    passes_line : n ≡ line_word w i 0 → passes w i ≡ follows_by (rule_of n) w (line_of w i) three
    unfolding passes by_rule holds follows_by
    passes_line is =
        let (r, e, h) = ruled w n k (line_of w i) c t in
        let named : rule_of (line_word w i 0) ≡ some r = ap rule_of (sym is) ∙ e in
        rw (
          then-goes (rule_of (line_word w i 0)) (by_rule w i) r named,
          then-goes (premises_from w i 1 r.premises) _ _ (all_found r e).0,
          then-goes (judgement r.kind w i) _ _ (there-judgement w i r.kind h),
          e,
        )

  -- what fails a test is no instance of its rule
  instance-fits : IsInstance w i → fits_all w i (line_word w i 0) ≡ true
  unfolding fits_all
  instance-fits h =
      let kinds : kinds_of h.premises ≡ premise_kinds h.numbered.rule =
      follows-kinds _ _ _ (instance-follows h.numbered.rule h.premises h.conclusion h.instance) in
      ap (fits_from w i 1) (premises-rule (line_word w i 0) h.numbered h.named ∙ sym kinds) ∙ found-fit w i 1 h.numbered.premises h.premises h.found

  refused-line : (passes w i ≡ true → ⊥) → false ≡ passes w i
  refused-line d = go (passes w i) refl
    where
      go : (v : Bool) → passes w i ≡ v → false ≡ passes w i
      go true e = absurd (d e)
      go false e = sym e

  pub line-unruled : rule_of (line_word w i 0) ≡ none → false ≡ passes w i
  line-unruled z =
      refused-line (λ e.
      let (r, m, t) = passes-there w i e in
      let q : none ≡ some r = sym z ∙ m in
      absurd (let y : ◌≡◌ {A = ℕ} 0 1 = cc in omega arith))

  pub line-not-there : (n : ℕ) (k : Kind) (own : Line) (v : Bool) → line_word w i 0 ≡ n → own ≡ line_of w i → some k ≡ kind_at n 0
      → v ≡ is_there k w own → v ≡ false → false ≡ passes w i
  line-not-there n k own v is at kind test h =
      refused-line (λ e.
      let (r, m, t) = passes-there w i e in
      let same : k ≡ r.kind = some_is (kind ∙ ap (λ (x : ℕ). kind_at x 0) (sym is) ∙ kind-rule _ r m) in
      clash (test-there r.kind w (line_of w i) t)
      (ap (λ (x : Kind). is_there x w (line_of w i)) (sym same) ∙ ap (is_there k w) (sym at) ∙ sym test ∙ h))

  pub line-unfit : (n : ℕ) (v : Bool) → line_word w i 0 ≡ n → v ≡ fits_all w i n → v ≡ false → false ≡ passes w i
  line-unfit n v is test h =
      refused-line (λ e. clash (instance-fits ((line-exact w i).0 e)) (ap (fits_all w i) is ∙ sym test ∙ h))

  -- ---- the same, of what the functions answer
  pub record Named (n : ℕ) (own j k l : Line) : Type 0 where
    pub rule : line_word w i 0 ≡ n
    pub line : own ≡ line_of w i
    pub first : j ≡ premise 1
    pub second : k ≡ premise 2
    pub third : l ≡ premise 3

  module _ (b : Passed w i) (n : ℕ) (kind : Kind) (own j k l : Line) (h : Named n own j k l) (c : some kind ≡ kind_at n 0)
      (t : is_there kind w own ≡ true) (f : fits_all w i n ≡ true) where
    there-line : is_there kind w (line_of w i) ≡ true
    there-line = ap (is_there kind w) (sym h.line) ∙ t

    lines_same : three ≡ j ∷ k ∷ l ∷ []
    lines_same = rw (h.first, h.second, h.third)

    pub line-ready : Ready (rule_of n) w own (j ∷ k ∷ l ∷ [])
    line-ready =
        subst (λ (o : Line). Ready (rule_of n) w o (j ∷ k ∷ l ∷ [])) (sym h.line)
        (subst (Ready (rule_of n) w (line_of w i)) lines_same (ready-line b n kind c there-line f))

    pub line-by : (v : Bool) → v ≡ follows_by (rule_of n) w own (j ∷ k ∷ l ∷ []) → v ≡ passes w i
    line-by v e =
        e ∙ ap (λ (o : Line). follows_by (rule_of n) w o (j ∷ k ∷ l ∷ [])) h.line
        ∙ ap (follows_by (rule_of n) w (line_of w i)) (sym lines_same) ∙ sym (passes_line b n kind c there-line f (sym h.rule))
