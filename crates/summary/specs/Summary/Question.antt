-- Laws of the question: refusals 20 and 21 are given exactly when document 02 says so, 20 before 21, with the values that they carry; and
-- else it is answered, yes exactly if the word is at most t + 1. Assumes nothing.
use Rattle.std.specs.Prelude.{ℕ, zero, suc, ◌+◌, ◌*◌, ◌≤◌, ◌<◌, Bool, List, [], ◌∷◌, ◌↔◌, length, get_or, ltb, eqb}
use Rattle.std.proofs.Math.Bool.{true, false}
use Rattle.std.proofs.Math.Path.{◌≡◌, refl, sym}
use Rattle.std.proofs.Common.{ap, ◌∙◌, arith}
use Rattle.std.proofs.Math.Dec.{leb}
use borrow.Author.Tests.{le-ltb, leb-true, leb-false, le-leb, lt-leb, eqb-true, eq-eqb}
use Rattle.words.specs.Choice.{pick}
use Rattle.words.specs.Choice.Laws.{pick_true, pick-false}
use Rattle.words.specs.First.Laws.{clash}
use Rattle.book.specs.Said.{Said, said}
use Rattle.book.specs.Refusals.{line, first_of}
use Rattle.book.specs.Ruled.{Ruled, lines, Cause}
use Rattle.book.specs.Refusals.Laws.{given, caused, all_keep, none-given, first_of-none}
use Rattle.summary.specs.Summary.{front, misfits, length_line, question_line, word_at, answered, asked, Fits, InRange, OutOfRange}

-- ---- the length
misfits-fits : (s : List ℕ) → misfits s ≡ false → Fits s
unfolding misfits pick
misfits-fits s e = go (ltb (length s) front) refl (eqb (length s) (front + get_or s 0 0 * get_or s 1 0)) refl
  where
    go : (v : Bool) → ltb (length s) front ≡ v → (w : Bool) → eqb (length s) (front + get_or s 0 0 * get_or s 1 0) ≡ w → Fits s
    go v f true g = eqb-true _ _ g
    go true f false g = absurd (clash (pick_true _ _ _ f) e)
    go false f false g = absurd (clash (pick-false _ _ _ f ∙ pick-false _ _ _ g) e)

fits-misfits : (s : List ℕ) → Fits s → misfits s ≡ false
unfolding misfits
fits-misfits s h = pick-false _ _ _ (le-ltb (length s) front (omega arith)) ∙ pick_true _ _ _ (eq-eqb _ _ h)

-- ---- the two lines with their rules
abbrev length-line : List ℕ → Ruled
length-line s =
    record {
      line = line 20 1 (λ i. misfits s) (λ i. length s ∷ []);
      rule = λ i. Fits s;
      exact = λ i. (misfits-fits s, fits-misfits s);
    }

abbrev question-line : List ℕ → List ℕ → Ruled
question-line s q =
    record {
      line = line 21 3 (λ i. leb (get_or s i 0) (get_or q i 0)) (λ i. get_or q i 0 ∷ []);
      rule = λ i. get_or q i 0 < get_or s i 0;
      exact = λ i. (λ e. leb-false _ _ e, λ h. lt-leb _ _ h);
    }

module _ (s : List ℕ) (p r t : ℕ) where
  abbrev question : List ℕ
  question = p ∷ r ∷ t ∷ []

  abbrev both : List Ruled
  both = length-line s ∷ question-line s question ∷ []

  abbrev rest : Said
  rest = said 0 (answered s p r t ∷ [])

  asked-lines : asked s p r t ≡ first_of (lines both) rest
  unfolding asked length_line question_line
  asked-lines = refl

  -- ---- refusal 20
  pub exactly-20 : (vs : List ℕ) → (asked s p r t ≡ said 20 vs) ↔ ((Fits s → ⊥) × (vs ≡ length s ∷ []))
  exactly-20 vs = (
    λ e. (let c = (caused [] (length-line s) (question-line s question ∷ []) rest vs tt (omega arith) (omega arith) (sym asked-lines ∙ e)).1.0 in
        (c.broken, c.says)),
    λ u. asked-lines ∙ given [] (length-line s) (question-line s question ∷ []) rest vs tt
        (record { place = 0; within = omega arith; broken = u.0; smallest = λ k h. absurd (omega arith); says = u.1 }),
  )

  -- ---- refusal 21
  out_of_range : (vs : List ℕ) (i : ℕ) → i < 3 → (get_or question i 0 < get_or s i 0 → ⊥)
      → ((k : ℕ) → k < i → get_or question k 0 < get_or s k 0) → vs ≡ get_or question i 0 ∷ [] → OutOfRange s p r t vs
  out_of_range vs zero h n b e = OutOfRange.party (omega arith) e
  out_of_range vs (suc zero) h n b e = OutOfRange.row (b 0 (omega arith)) (omega arith) e
  out_of_range vs (suc (suc zero)) h n b e = OutOfRange.step (b 0 (omega arith)) (b 1 (omega arith)) (omega arith) e
  out_of_range vs (suc (suc (suc i))) h n b e = absurd (omega arith)

  below_two : p < get_or s 0 0 → (k : ℕ) → k < 1 → get_or question k 0 < get_or s k 0
  below_two h zero l = h
  below_two h (suc k) l = absurd (omega arith)

  below-three : p < get_or s 0 0 → r < get_or s 1 0 → (k : ℕ) → k < 2 → get_or question k 0 < get_or s k 0
  below-three h g zero l = h
  below-three h g (suc zero) l = g
  below-three h g (suc (suc k)) l = absurd (omega arith)

  range-cause : (vs : List ℕ) → OutOfRange s p r t vs → Cause (question-line s question) vs
  range-cause vs (OutOfRange.party n e) =
      record { place = 0; within = omega arith; broken = λ h. omega arith; smallest = λ k h. absurd (omega arith); says = e }
  range-cause vs (OutOfRange.row h n e) =
      record { place = 1; within = omega arith; broken = λ h. omega arith; smallest = below_two h; says = e }
  range-cause vs (OutOfRange.step h g n e) =
      record { place = 2; within = omega arith; broken = λ h. omega arith; smallest = below-three h g; says = e }

  pub exactly-21 : (vs : List ℕ) → (asked s p r t ≡ said 21 vs) ↔ (Fits s × OutOfRange s p r t vs)
  exactly-21 vs = (
    λ e. (let z = caused (length-line s ∷ []) (question-line s question) [] rest vs (omega arith) tt (omega arith) (sym asked-lines ∙ e) in
        let c = z.1.0 in
        (z.0.0 0 (omega arith), out_of_range vs c.place c.within c.broken c.smallest c.says)),
    λ u. asked-lines ∙ given (length-line s ∷ []) (question-line s question) [] rest vs (λ i h. u.0, tt) (range-cause vs u.1),
  )

  -- ---- else it is answered
  range-kept : InRange s p r t → (k : ℕ) → k < 3 → get_or question k 0 < get_or s k 0
  range-kept h zero l = h.0
  range-kept h (suc zero) l = h.1
  range-kept h (suc (suc zero)) l = h.2
  range-kept h (suc (suc (suc k))) l = absurd (omega arith)

  pub asked-answers : Fits s → InRange s p r t → asked s p r t ≡ said 0 (answered s p r t ∷ [])
  asked-answers f h = asked-lines ∙ all_keep both [] rest (λ i l. f, (range-kept h, tt)) ∙ first_of-none rest

  pub exactly-answered : ((asked s p r t).number ≡ 0) ↔ (Fits s × InRange s p r t)
  exactly-answered = (
    λ e. (let k = none-given both rest (omega arith) (ap (λ (x : Said). x.number) (sym asked-lines) ∙ e) in
        let q = k.1.0 in
        (k.0 0 (omega arith), (q 0 (omega arith), q 1 (omega arith), q 2 (omega arith)))),
    λ u. ap (λ (x : Said). x.number) (asked-answers u.0 u.1),
  )

  -- "yes exactly if the word is at most t+1"
  answered-yes : (answered s p r t ≡ 1) ↔ (word_at s p r ≤ t + 1)
  unfolding answered
  answered-yes = (λ e. go (leb (word_at s p r) (t + 1)) refl e, λ h. pick_true _ _ _ (le-leb _ _ h))
    where
      go : (v : Bool) → leb (word_at s p r) (t + 1) ≡ v → ◌≡◌ {A = ℕ} (pick (leb (word_at s p r) (t + 1)) 1 0) 1 → word_at s p r ≤ t + 1
      go true f e = leb-true _ _ f
      go false f e = let z = sym (pick-false _ _ _ f) ∙ e in absurd (omega arith)

  answered-no : (answered s p r t ≡ 0) ↔ (t + 1 < word_at s p r)
  unfolding answered
  answered-no = (λ e. go (leb (word_at s p r) (t + 1)) refl e, λ h. pick-false _ _ _ (lt-leb _ _ h))
    where
      go : (v : Bool) → leb (word_at s p r) (t + 1) ≡ v → ◌≡◌ {A = ℕ} (pick (leb (word_at s p r) (t + 1)) 1 0) 0 → t + 1 < word_at s p r
      go true f e = let z = sym (pick_true _ _ _ f) ∙ e in absurd (omega arith)
      go false f e = leb-false _ _ f

  value : {v : ℕ} → asked s p r t ≡ said 0 (v ∷ []) → (Fits s × InRange s p r t) × (answered s p r t ≡ v)
  value e =
      let u = exactly-answered.0 (ap (λ (x : Said). x.number) e) in
      (u, ap (λ (x : Said). get_or x.values 0 0) (sym (asked-answers u.0 u.1) ∙ e))

  pub exactly-yes : (asked s p r t ≡ said 0 (1 ∷ [])) ↔ (Fits s × InRange s p r t × (word_at s p r ≤ t + 1))
  exactly-yes = (
    λ e. (let z = value e in (z.0.0, z.0.1, answered-yes.0 z.1)),
    λ u. asked-answers u.0 u.1 ∙ ap (λ v. said 0 (v ∷ [])) (answered-yes.1 u.2),
  )

  pub exactly-no : (asked s p r t ≡ said 0 (0 ∷ [])) ↔ (Fits s × InRange s p r t × (t + 1 < word_at s p r))
  exactly-no = (
    λ e. (let z = value e in (z.0.0, z.0.1, answered-no.0 z.1)),
    λ u. asked-answers u.0 u.1 ∙ ap (λ v. said 0 (v ∷ [])) (answered-no.1 u.2),
  )
