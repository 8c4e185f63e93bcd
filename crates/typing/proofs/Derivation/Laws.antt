-- A line passes exactly if it is an instance of its rule (`line-exact`); each verdict is given exactly when (`refused-exact`,
-- `bad-exact`, `another-exact`, `safe-exact`); what is safe holds (`safe-holds`). Assumes nothing.
use Rattle.std.specs.Prelude.{ℕ, zero, suc, ◌-◌, ◌≤◌, ◌<◌, Bool, true, false, not, List, [], ◌∷◌, ◌↔◌, ◌≡◌, refl, ltb, eqb}
use Rattle.std.proofs.Common.{true≢false, inl, inr, sym, ◌∙◌, ap, subst, arith, ltb-true, ltb-false, lt-ltb, le-ltb, ne_eqb}
use Rattle.std.proofs.Math.Option.{Option, none, some}
use Rattle.std.proofs.Math.Decide.{dec_lt}
use Rattle.std.proofs.lemmas.Bool.{eqb-false, not-true, not-false}
use Rattle.words.specs.Choice.{pick, choose, then}
use Rattle.words.specs.Choice.Laws.{pick_true, pick-false, pick_ind, choose_yes}
use Rattle.words.specs.First.{first, any}
use Rattle.words.specs.First.Laws.{clash, first_holds, first-fails, first-at, any_at, any_none, none_any, any-first}
use Rattle.typing.specs.Judgement.{Judgement, same_judgement}
use Rattle.typing.specs.Types.{Environment}
use Rattle.typing.specs.Process.{Process}
use Rattle.typing.specs.Rule.{Holds, AllHold}
use Rattle.typing.specs.Reading.{Read, environment_at, process_at}
use Rattle.typing.proofs.Check.Laws.{follows-instance, instance-follows}
use Rattle.typing.specs.Derivation.{rule_of, lines, line_word, effect_count, judgement, given, earlier, premises_from, IsInstance, by_rule, holds, passes, whole, asked, Spells, agree, answers, Verdict, most_lines, most_effects, crowded, fails, verdict, Within, Answers, Right}

-- ---- then
-- where a value comes out, one went in
pub then-came : {A B : Type 0} (o : Option A) (f : A → Option B) (b : B) → then o f ≡ some b → (a : A) × (o ≡ some a) × (f a ≡ some b)
unfolding then
then-came none f b e = absurd (let z : ◌≡◌ {A = ℕ} 0 1 = cc in omega arith)
then-came (some a) f b e = (a, refl, e)

pub then-goes : {A B : Type 0} (o : Option A) (f : A → Option B) (a : A) → o ≡ some a → then o f ≡ f a
unfolding then
then-goes o f a e = rw (e, then)

-- ---- holds
pub holds-came : (o : Option Bool) → holds o ≡ true → o ≡ some true
unfolding holds
holds-came none e = absurd (true≢false (sym e))
holds-came (some b) e = ap {B = Option Bool} some e

-- ---- passes
passes-instance : (w : List ℕ) (i : ℕ) → passes w i ≡ true → IsInstance w i
unfolding passes by_rule
passes-instance w i e =
    let (r, n, c) = then-came (rule_of (line_word w i 0)) (by_rule w i) true (holds-came _ e) in
    let (Js, p, d) = then-came (premises_from w i 1 r.premises) _ true c in
    let (J, g, f) = then-came (judgement r.kind w i) _ true d in
    record { numbered = r; named = n; premises = Js; found = p; conclusion = J; gives = g; instance = follows-instance r.rule Js J cc }

instance-passes : (w : List ℕ) (i : ℕ) → IsInstance w i → passes w i ≡ true
unfolding passes by_rule holds
instance-passes w i h =
    rw (
      then-goes (rule_of (line_word w i 0)) (by_rule w i) h.numbered h.named,
      then-goes (premises_from w i 1 h.numbered.premises) _ h.premises h.found,
      then-goes (judgement h.numbered.kind w i) _ h.conclusion h.gives,
    ) (instance-follows h.numbered.rule h.premises h.conclusion h.instance)

-- a line passes exactly if it is an instance of its rule
pub line-exact : (w : List ℕ) (i : ℕ) → (passes w i ≡ true) ↔ IsInstance w i
line-exact w i = (passes-instance w i, instance-passes w i)

passes-not : (w : List ℕ) (i : ℕ) → fails w i ≡ true → IsInstance w i → ⊥
unfolding fails
passes-not w i e h = clash (instance-passes w i h) (not-true _ e)

fails-not : (w : List ℕ) (i : ℕ) → fails w i ≡ false → IsInstance w i
unfolding fails
fails-not w i e = passes-instance w i (not-false _ e)

not-fails : (w : List ℕ) (i : ℕ) → IsInstance w i → fails w i ≡ false
unfolding fails
not-fails w i h = ap not (instance-passes w i h)

passes-fails : (w : List ℕ) (i : ℕ) → (IsInstance w i → ⊥) → fails w i ≡ true
unfolding fails
passes-fails w i h = go (passes w i) refl
  where
    go : (b : Bool) → passes w i ≡ b → not (passes w i) ≡ true
    go true e = absurd (h (passes-instance w i e))
    go false e = ap not e

-- ---- answers
agree-came : (o p : Option Judgement) → agree o p ≡ true → (J : Judgement) × (o ≡ some J) × (p ≡ some J)
unfolding agree choose
agree-came none p e = absurd (true≢false (sym e))
agree-came (some J) none e = absurd (true≢false (sym e))
agree-came (some J) (some K) e = go (same_judgement J K) e
  where
    go : (d : Dec (J ≡ K)) → choose d true false ≡ true → (L : Judgement) × (some J ≡ some L) × (some K ≡ some L)
    go (yes p) h = (J, refl, ap {B = Option Judgement} some (sym p))
    go (no p) h = absurd (true≢false (sym h))

came-agree : (o p : Option Judgement) (J : Judgement) → o ≡ some J → p ≡ some J → agree o p ≡ true
unfolding agree
came-agree o p J d e = rw (d, e, agree) (choose_yes (same_judgement J J) true false refl)

answers-came : (a w : List ℕ) → answers a w ≡ true → Answers a w
unfolding answers
answers-came a w e =
    pick_ind (λ v. v ≡ true → Answers a w) (eqb (lines w) 0) false (agree (given w (lines w - 1)) (asked a)) (λ z h. absurd (true≢false (sym h)))
    (λ z h.
    let (J, p, q) = agree-came _ _ h in
    record { some-line = omega (arith, eqb-false (lines w) 0 z); judgement = J; last = p; asks = q }) e

came-answers : (a w : List ℕ) → Answers a w → answers a w ≡ true
unfolding answers
came-answers a w h =
    pick-false (eqb (lines w) 0) _ _ (ne_eqb (lines w) 0 (λ z. omega (arith, h.some-line)))
    ∙ came-agree _ _ h.judgement h.last h.asks

-- ---- crowded
crowded-many : (w : List ℕ) (i : ℕ) → crowded w i ≡ true → most_effects < effect_count w i
unfolding crowded
crowded-many w i e = ltb-true _ _ e

crowded-not : (w : List ℕ) (i : ℕ) → crowded w i ≡ false → effect_count w i ≤ most_effects
unfolding crowded
crowded-not w i e = ltb-false _ _ e

many-crowded : (w : List ℕ) (i : ℕ) → most_effects < effect_count w i → crowded w i ≡ true
unfolding crowded
many-crowded w i e = lt-ltb _ _ e

not-crowded : (w : List ℕ) (i : ℕ) → effect_count w i ≤ most_effects → crowded w i ≡ false
unfolding crowded
not-crowded w i e = le-ltb _ _ e

-- ---- the verdict that is given is right
pub verdict-right : (a w : List ℕ) → Right a w (verdict a w)
unfolding verdict
verdict-right a w =
    pick_ind (Right a w) _ _ _ (λ e. inl (record { many = ltb-true _ _ e; count = refl })) (λ few.
    pick_ind (Right a w) _ _ _ (λ e.
    inr (record {
      few = ltb-false _ _ few;
      line = first (crowded w) (lines w);
      inside = any-first (crowded w) (lines w) e;
      many = crowded-many w _ (first_holds (crowded w) (lines w) (any-first (crowded w) (lines w) e));
      count = refl;
      before = λ k l. crowded-not w k (first-fails (crowded w) (lines w) k l);
    })) (λ small.
    let within : Within w = record { few = ltb-false _ _ few; small = λ i l. crowded-not w i (none_any (crowded w) (lines w) small i l) } in
    pick_ind (Right a w) _ _ _ (λ e.
    record {
      within = within;
      line = any-first (fails w) (lines w) e;
      no-instance = passes-not w _ (first_holds (fails w) (lines w) (any-first (fails w) (lines w) e));
      before = λ k l. fails-not w k (first-fails (fails w) (lines w) k l);
    }) (λ all.
    let pass : ((i : ℕ) → i < lines w → IsInstance w i) = λ i l. fails-not w i (none_any (fails w) (lines w) all i l) in
    pick_ind (Right a w) _ _ _ (λ e. record { within = within; all = pass; answers = answers-came a w e })
    (λ e. record { within = within; all = pass; answers-not = λ h. clash (came-answers a w h) e }))))

-- ---- a verdict that is right is the one that is given
-- past the refusals
past : (a w : List ℕ) → Within w
    → verdict a w ≡ pick (any (fails w) (lines w)) (Verdict.bad (first (fails w) (lines w))) (pick (answers a w) Verdict.safe Verdict.another)
unfolding verdict
past a w h =
    pick-false _ _ _ (le-ltb most_lines (lines w) h.few)
    ∙ pick-false _ _ _ (any_none (crowded w) (lines w) (λ i l. not-crowded w i (h.small i l)))

-- past the lines
past-lines : (a w : List ℕ) → Within w → ((i : ℕ) → i < lines w → IsInstance w i)
    → verdict a w ≡ pick (answers a w) Verdict.safe Verdict.another
past-lines a w h all = past a w h ∙ pick-false _ _ _ (any_none (fails w) (lines w) (λ i l. not-fails w i (all i l)))

pub right-verdict : (a w : List ℕ) (v : Verdict) → Right a w v → verdict a w ≡ v
unfolding verdict
right-verdict a w Verdict.safe h = past-lines a w h.within h.all ∙ pick_true _ _ _ (came-answers a w h.answers)
right-verdict a w (Verdict.bad i) h =
    past a w h.within ∙ pick_true _ _ _ (any_at (fails w) (lines w) i h.line (passes-fails w i h.no-instance))
    ∙ ap Verdict.bad
    (sym (first-at (fails w) (lines w) i h.line (λ k l. not-fails w k (h.before k l)) (passes-fails w i h.no-instance)))
right-verdict a w Verdict.another h = past-lines a w h.within h.all ∙ pick-false _ _ _ (go (answers a w) refl)
  where
    go : (b : Bool) → answers a w ≡ b → answers a w ≡ false
    go true e = absurd (h.answers-not (answers-came a w e))
    go false e = e
right-verdict a w (Verdict.refused n) (inl h) = pick_true _ _ _ (lt-ltb most_lines (lines w) h.many) ∙ ap Verdict.refused (sym h.count)
right-verdict a w (Verdict.refused n) (inr h) =
    pick-false _ _ _ (le-ltb most_lines (lines w) h.few)
    ∙ pick_true _ _ _ (any_at (crowded w) (lines w) h.line h.inside (many-crowded w h.line h.many))
    ∙ ap (λ (k : ℕ). Verdict.refused (effect_count w k))
    (sym (first-at (crowded w) (lines w) h.line h.inside (λ k l. not-crowded w k (h.before k l)) (many-crowded w h.line h.many)))
    ∙ ap Verdict.refused (sym h.count)

-- each verdict is given exactly when it is right
pub verdict-exact : (a w : List ℕ) (v : Verdict) → (verdict a w ≡ v) ↔ Right a w v
verdict-exact a w v = (λ e. subst (Right a w) e (verdict-right a w), right-verdict a w v)

-- no two are
pub right_unique : (a w : List ℕ) (u v : Verdict) → Right a w u → Right a w v → u ≡ v
right_unique a w u v p q = sym (right-verdict a w u p) ∙ right-verdict a w v q

-- ---- what a derivation without a bad line gives holds
earlier-came : (w : List ℕ) (i j : ℕ) (J : Judgement) → earlier w i j ≡ some J → (j < i) × (given w j ≡ some J)
unfolding earlier
earlier-came w i j J e =
    pick_ind (λ o. o ≡ some J → (j < i) × (given w j ≡ some J)) (ltb j i) (given w j) none (λ l h. (ltb-true _ _ l, h))
    (λ l h. absurd (let z : ◌≡◌ {A = ℕ} 0 1 = cc in omega arith)) e

Before : List ℕ → ℕ → Type 0
Before w i = (j : ℕ) → j < i → (J : Judgement) → given w j ≡ some J → Holds J

premises-hold : (w : List ℕ) (i : ℕ) → Before w i → (k n : ℕ) (Js : List Judgement) → premises_from w i k n ≡ some Js → AllHold Js
unfolding premises_from Before
premises-hold w i b k zero Js e = subst AllHold (cc) AllHold.none
premises-hold w i b k (suc n) Js e =
    let (J, p, d) = then-came (earlier w i (line_word w i k)) _ Js e in
    let (Ks, q, c) = then-came (premises_from w i (suc k) n) _ Js d in
    let (l, g) = earlier-came w i (line_word w i k) J p in
    let more : AllHold (J ∷ Ks) = AllHold.more (b (line_word w i k) l J g) (premises-hold w i b (suc k) n Ks q) in
    subst AllHold (cc) more

instance-holds : (w : List ℕ) (i : ℕ) → Before w i → IsInstance w i → (J : Judgement) → given w i ≡ some J → Holds J
unfolding given
instance-holds w i b h J e =
    let all = premises-hold w i b 1 h.numbered.premises h.premises h.found in
    let g = then-goes (rule_of (line_word w i 0)) (λ r. judgement r.kind w i) h.numbered h.named in
    let held : Holds h.conclusion = Holds.by h.instance all in
    let same : h.conclusion ≡ J = cc h.gives in
    subst Holds same held

lines-hold : (w : List ℕ) (n : ℕ) → ((i : ℕ) → i < n → IsInstance w i) → Before w n
unfolding Before
lines-hold w zero all j l J e = absurd (omega arith)
lines-hold w (suc n) all j l J e =
    let b = lines-hold w n (λ i m. all i (omega arith)) in
    elim (dec_lt j n) [ yes p ↦ b j p J e | no p ↦ instance-holds w j (λ k m. b k (omega arith)) (all j l) J e ]

-- every line of it holds
pub all_hold : (w : List ℕ) → ((i : ℕ) → i < lines w → IsInstance w i) → (i : ℕ) → i < lines w → (J : Judgement) → given w i ≡ some J
    → Holds J
unfolding Before
all_hold w all = lines-hold w (lines w) all

-- ---- what is asked
pub whole-came : {A : Type 0} (r : Read A) (a : A) → whole r ≡ some a → r ≡ some (a, [])
unfolding whole then
whole-came none a e = absurd (let z : ◌≡◌ {A = ℕ} 0 1 = cc in omega arith)
whole-came {A} (some p) a e = go p.0 p.1 e
  where
    go : (b : A) (l : List ℕ) → (elim l as (λ _. Option A) [ [] ↦ some b | x ∷ m ↦ none ]) ≡ some a
        → ◌≡◌ {A = Read A} (some (b, l)) (some (a, []))
    go b [] h = let same : b ≡ a = cc in ap {B = Read A} (λ (c : A). some (c, [])) same
    go b (x ∷ m) h = absurd (let z : ◌≡◌ {A = ℕ} 0 1 = cc in omega arith)

-- it is that a process, spelled behind an environment, has the empty effect
pub asked-came : (a : List ℕ) (J : Judgement) → asked a ≡ some J
    → (E : Environment) × (P : Process) × Spells a E P × (J ≡ Judgement.process E P [])
unfolding asked
asked-came a J e =
    let ((E, v), p, d) = then-came (environment_at a) _ J e in
    let (P, q, c) = then-came (whole (process_at v)) _ J d in
    let same : J ≡ Judgement.process E P [] = cc in
    (E, P, record { behind = v; environment = p; process = whole-came _ P q }, same)

pub spells-asked : (a : List ℕ) (E : Environment) (P : Process) → Spells a E P → asked a ≡ some (Judgement.process E P [])
unfolding asked whole then
spells-asked a E P h = rw (h.environment, then, h.process, then)

-- what is safe holds: the asked process has the empty effect in the asked environment
pub safe-holds : (a w : List ℕ) → verdict a w ≡ Verdict.safe
    → (E : Environment) × (P : Process) × Spells a E P × Holds (Judgement.process E P [])
safe-holds a w e =
    let s = subst (Right a w) e (verdict-right a w) in
    let h = s.answers in
    let held : Holds h.judgement = all_hold w s.all (lines w - 1) (omega (arith, h.some-line)) h.judgement h.last in
    let (E, P, spelled, same) = asked-came a h.judgement h.asks in
    (E, P, spelled, subst Holds same held)
