-- Laws of what is found: the scan over the lines, the last line against what is asked, and the verdict. Assumes nothing.
use Rattle.std.specs.Prelude.{ℕ, ◌+◌, ◌-◌, ◌≤◌, ◌<◌, Bool, true, false, ◌≡◌, refl, length, Option as Answer, None, Some, IsSome}
use Rattle.std.proofs.Math.Bool.{not}
use mathlib.Core.List.{List, []}
use Rattle.std.proofs.Math.Option.{Option, none, some}
use Rattle.std.proofs.Math.Path.{sym, ap, subst}
use Rattle.std.proofs.Common.{◌∙◌, arith}
use Rattle.std.proofs.Math.Decide.{ℕ_discrete as dec_eq}
use Rattle.std.proofs.Math.ListN.{drop, drop_of_length-le}
use Rattle.std.proofs.Math.Seq.{drop-cons}
use Rattle.std.proofs.lemmas.Option.{none-some, same_Some}
use borrow.Author.Tests.{le-ltb, eq-eqb, ne_eqb, not-false}
use Rattle.words.specs.Choice.{pick, then}
use Rattle.words.specs.Choice.Laws.{pick_true, pick-false, pick_ind, choose_yes, choose_no}
use Rattle.words.specs.First.{first, any}
use Rattle.words.specs.First.Laws.{clash, first-at, any_at, any_none, none_any}
use Rattle.typing.specs.Bag.{bag}
use Rattle.typing.specs.Types.{Environment, same_environment, same_effects}
use Rattle.typing.specs.Process.{Process, same_process}
use Rattle.typing.specs.Judgement.{Judgement, same_judgement}
use Rattle.typing.specs.Reading.{Read, environment_at, process_at}
use Rattle.typing.specs.Derivation.{Kind, lines, line_word, effect_count, given, passes, fails, crowded, whole, asked, agree, answers}
use Rattle.typing.specs.Derivation.{Verdict, verdict, most_lines, most_effects, Within}
use Rattle.spans.specs.Behind.{rest_of, At, Ends}
use Rattle.spans.specs.Behind.Laws.{ends_some}
use Rattle.alike.specs.Same.{environment_in, effects_in, test}
use Rattle.alike.specs.Same.Laws.{read-value, test-yes, test-true}
use Rattle.parts.specs.Place.{process_in}
use Rattle.ruling.specs.Line.{says_process, ProcessThere}
use Rattle.ruling.specs.Line.Laws.{none-stated}
use Rattle.ruling.specs.declared.Line.{Line}
use Rattle.choosing.specs.Kinds.{kind_of, kind_at}
use Rattle.choosing.specs.Kinds.Laws.{kind-rule}
use Rattle.choosing.specs.Choose.{There, says}
use Rattle.checking.specs.Large.{too_large}
use Rattle.checking.specs.Large.Laws.{lines-word, large-exact, large-refused}
use Rattle.checking.specs.Lines.{line_of, first_failing, Passed}
use Rattle.checking.specs.Lines.Laws.{some_is, passes-there, rule-given, given-kind}

-- ---- the scan over the lines: those before line i pass
pub passed-none : (w : List ℕ) → Passed w 0
passed-none w k l = absurd (omega arith)

module _ (w : List ℕ) (n i : ℕ) (h : Passed w i) where
  none-fails : (k : ℕ) → k < i → fails w k ≡ false
  unfolding fails
  none-fails k l = ap not (h k l)

  pub passed-next : (v : Bool) → v ≡ passes w i → v ≡ true → Passed w (i + 1)
  passed-next v e t k m = elim (dec_eq k i) [ yes p ↦ ap (passes w) p ∙ sym e ∙ t | no p ↦ h k (omega arith) ]

  pub passed-bad : i < n → (v : Bool) → v ≡ passes w i → v ≡ false → Some i ≡ first_failing w n
  unfolding fails first_failing
  passed-bad l v e f =
      let so : fails w i ≡ true = ap not (sym e ∙ f) in
      ap Some (first-at (fails w) n i l none-fails so) ∙ sym (pick_true _ _ _ (any_at (fails w) n i l so))

  pub passed-all : n ≤ i → None ≡ first_failing w n
  unfolding first_failing
  passed-all l = sym (pick-false _ _ _ (any_none (fails w) n (λ k m. none-fails k (omega arith))))

-- ---- what is asked
agree-none : (o p : Option Judgement) → p ≡ none → false ≡ agree o p
unfolding agree
agree-none none p e = refl
agree-none (some J) p e = sym (ap (agree (some J)) e)

none_of : {A : Type 0} (r : Read A) → rest_of r ≡ none → r ≡ none
unfolding rest_of
none_of none e = refl
none_of (some p) e = absurd (let z : ◌≡◌ {A = ℕ} 0 1 = cc in omega arith)

pub no-environment : (a : List ℕ) (o : Option Judgement) → rest_of (environment_at a) ≡ none → false ≡ agree o (asked a)
unfolding asked then
no-environment a o z = agree-none o _ (rw (none_of (environment_at a) z, then))

module _ (a : List ℕ) (p : ℕ) (q : At a 0 (rest_of (environment_at a)) p) where
  environment-read : environment_at a ≡ some (environment_in a 0, drop p a)
  unfolding environment_in
  environment-read = read-value [] (environment_at a) (drop p a) q.rest

  pub no-process : (o : Option Judgement) → rest_of (process_at (drop p a)) ≡ none → false ≡ agree o (asked a)
  unfolding asked then whole
  no-process o z = agree-none o _ (rw (environment-read, then, none_of (process_at (drop p a)) z, then))

  module _ (e : ℕ) (r : At a p (rest_of (process_at (drop p a))) e) where
    process-read : process_at (drop p a) ≡ some (process_in a p, drop e a)
    unfolding process_in
    process-read = read-value Process.stop (process_at (drop p a)) (drop e a) r.rest

    pub more-words : (o : Option Judgement) → (e ≡ length a → ⊥) → false ≡ agree o (asked a)
    unfolding asked then whole
    more-words o d =
        let c = drop-cons a e 0 (omega (arith, r.inside)) in
        agree-none o _ (rw (environment-read, then, process-read, then, c))

    pub asked_is : e ≡ length a → asked a ≡ some (Judgement.process (environment_in a 0) (process_in a p) [])
    unfolding asked then whole
    asked_is d =
        let c : drop e a ≡ [] = drop_of_length-le a {i = e} (omega arith) in
        rw (environment-read, then, process-read, then, c)

-- ---- a line against it
agree-no : (o p : Option Judgement) (J K : Judgement) → o ≡ some J → p ≡ some K → (J ≡ K → ⊥) → false ≡ agree o p
unfolding agree
agree-no o p J K d e f = rw (d, e) (sym (choose_no (same_judgement J K) true false f))

agree-yes : (o p : Option Judgement) (J K : Judgement) → o ≡ some J → p ≡ some K → J ≡ K → true ≡ agree o p
unfolding agree
agree-yes o p J K d e f = rw (d, e) (sym (choose_yes (same_judgement J K) true false f))

module _ (w : List ℕ) (i : ℕ) (h : passes w i ≡ true) where
  pub given-other : (a : List ℕ) (E : Environment) (P : Process) → asked a ≡ some (Judgement.process E P [])
      → (kind_at (line_word w i 0) 0 ≡ some Kind.of_process → ⊥) → false ≡ agree (given w i) (asked a)
  unfolding kind_of
  given-other a E P e d =
      let (r, n, t) = passes-there w i h in
      let g = rule-given w i r n t in
      agree-no _ _ _ _ g e (λ same. d (given-kind w i _ g ∙ ap (λ (J : Judgement). some (kind_of J)) same))

  module _ (k : kind_at (line_word w i 0) 0 ≡ some Kind.of_process) where
    process-there : ProcessThere w (line_of w i)
    process-there =
        let (r, n, t) = passes-there w i h in
        let same : r.kind ≡ Kind.of_process = some_is (sym (kind-rule _ r n) ∙ k) in
        subst (λ (c : Kind). There c w (line_of w i)) same t

    process-given : given w i ≡ some (says_process w (line_of w i))
    unfolding says
    process-given =
        let (r, n, t) = passes-there w i h in
        let same : r.kind ≡ Kind.of_process = some_is (sym (kind-rule _ r n) ∙ k) in
        rule-given w i r n t ∙ ap (λ (c : Kind). some (says c w (line_of w i))) same

    -- the line's own places
    module _ (l : Line) (at : l ≡ line_of w i) where
      line-there : ProcessThere w l
      line-there = subst (ProcessThere w) (sym at) process-there

      line-given : given w i ≡ some (Judgement.process (environment_in w l.e) (process_in w l.s) (bag (effects_in w l.f l.k)))
      unfolding says_process
      line-given = process-given ∙ ap (λ (x : Line). some (says_process w x)) (sym at)

      pub line-environment : (e : Answer ℕ) → Ends w l.e (rest_of (environment_at (drop l.e w))) e → IsSome e
      line-environment e q = ends_some w l.e _ _ e q line-there.environment.reads

      pub line-process : (e : Answer ℕ) → Ends w l.s (rest_of (process_at (drop l.s w))) e → IsSome e
      line-process e q = ends_some w l.s _ _ e q line-there.process.reads

      none_left : l.k ≡ 0 → bag (effects_in w l.f l.k) ≡ []
      none_left z = test-true (same_effects _ _) (sym (none-stated w l.f l.k line-there.effects) ∙ eq-eqb l.k 0 z)

      module _ (a : List ℕ) (E : Environment) (P : Process) (s : asked a ≡ some (Judgement.process E P [])) where
        pub given-effects : (l.k ≡ 0 → ⊥) → false ≡ agree (given w i) (asked a)
        given-effects d =
            agree-no _ _ _ _ line-given s (λ same.
            let none_is : bag (effects_in w l.f l.k) ≡ [] = cc same in
            clash (none-stated w l.f l.k line-there.effects ∙ test-yes (same_effects _ _) none_is) (ne_eqb l.k 0 d))

        pub given-environment : (v : Bool) → v ≡ test (same_environment (environment_in w l.e) E) → v ≡ false
            → false ≡ agree (given w i) (asked a)
        given-environment v e f =
            agree-no _ _ _ _ line-given s (λ same.
            let is : environment_in w l.e ≡ E = cc same in
            clash (test-yes (same_environment _ _) is) (sym e ∙ f))

        pub given-process : l.k ≡ 0 → (v : Bool) → v ≡ test (same_environment (environment_in w l.e) E) → v ≡ true → (u : Bool)
            → u ≡ test (same_process (process_in w l.s) P) → u ≡ agree (given w i) (asked a)
        given-process z v e t true d =
            agree-yes _ _ _ _ line-given s (
            let same-environment : environment_in w l.e ≡ E = test-true (same_environment _ _) (sym e ∙ t) in
            let same-process : process_in w l.s ≡ P = test-true (same_process _ _) (sym d) in
            rw (same-environment, same-process, none_left z)
            )
        given-process z v e t false d =
            agree-no _ _ _ _ line-given s (λ same.
            let is : process_in w l.s ≡ P = cc same in
            clash (test-yes (same_process _ _) is) (sym d))

-- ---- the verdict
module _ (a w : List ℕ) (z : None ≡ too_large w) (n : ℕ) (is : n ≡ lines w) where
  within : Within w
  within = (large-exact w).0 (sym z)

  -- the verdict on so many lines, where none is refused
  on_lines : ℕ → Verdict
  on_lines k = pick (any (fails w) k) (Verdict.bad (first (fails w) k)) (pick (answers a w) Verdict.safe Verdict.another)

  past-refusals : verdict a w ≡ on_lines n
  unfolding verdict crowded on_lines
  past-refusals =
      pick-false _ _ _ (le-ltb most_lines (lines w) within.few)
      ∙ pick-false _ _ _ (any_none (crowded w) (lines w) (λ i l. le-ltb most_effects (effect_count w i) (within.small i l)))
      ∙ ap on_lines (sym is)

  pub found-bad : (b : ℕ) → Some b ≡ first_failing w n → verdict a w ≡ Verdict.bad b
  unfolding first_failing on_lines
  found-bad b e =
      past-refusals ∙ pick_ind (λ (o : Answer ℕ). Some b ≡ o → on_lines n ≡ Verdict.bad b) (any (fails w) n) _ _
      (λ t q. pick_true _ _ _ t ∙ ap Verdict.bad (sym (same_Some _ _ q))) (λ t q. absurd (none-some b (sym q))) e

  module _ (e : None ≡ first_failing w n) where
    none-failing : any (fails w) n ≡ false
    unfolding first_failing
    none-failing =
        pick_ind (λ (o : Answer ℕ). None ≡ o → any (fails w) n ≡ false) (any (fails w) n) _ _ (λ t q. absurd (none-some _ q))
        (λ t q. t) e

    pub all_pass : (i : ℕ) → i < n → passes w i ≡ true
    unfolding fails
    all_pass i m = not-false _ (none_any (fails w) n none-failing i m)

    past-lines : verdict a w ≡ pick (answers a w) Verdict.safe Verdict.another
    unfolding on_lines
    past-lines = past-refusals ∙ pick-false _ _ _ none-failing

    pub found-no-line : n ≡ 0 → verdict a w ≡ Verdict.another
    unfolding answers
    found-no-line e = past-lines ∙ pick-false _ _ _ (pick_true _ _ _ (eq-eqb (lines w) 0 (sym is ∙ e)))

    module _ (d : n ≡ 0 → ⊥) (v : Bool) (gives : v ≡ agree (given w (n - 1)) (asked a)) where
      answers-is : answers a w ≡ v
      unfolding answers
      answers-is =
          pick-false _ _ _ (ne_eqb (lines w) 0 (λ e. d (is ∙ e)))
          ∙ ap (λ (k : ℕ). agree (given w (k - 1)) (asked a)) (sym is) ∙ sym gives

      pub found-safe : v ≡ true → verdict a w ≡ Verdict.safe
      found-safe t = past-lines ∙ pick_true _ _ _ (answers-is ∙ t)

      pub found-another : v ≡ false → verdict a w ≡ Verdict.another
      found-another f = past-lines ∙ pick-false _ _ _ (answers-is ∙ f)

-- ---- what the check finds alone: the verdict, and the scan over the lines
pub ruleset verdicts = (lines-word, large-refused, found-bad, all_pass, found-no-line, found-safe, found-another)

pub ruleset passing = (passed-none, passed-next, passed-bad, passed-all)
