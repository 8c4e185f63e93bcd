-- Laws of the summary: what is held stays held; the summary's length and its words, each exactly when; and the answer from the summary
-- is the answer of the full walk. Assumes nothing.
use Prim.Native.Nat.{ℕ, zero, suc, ◌+◌, ◌*◌, ◌≤◌, ◌<◌}
use Rattle.std.proofs.Math.Nat.{suc-mul, zero-mul, zero-add}
use Rattle.std.proofs.Common.{mul-le-mul, ◌∙◌, le-leb}
use Rattle.std.specs.Prelude.{Bool, true, false, ◌↔◌, ◌≡◌, leb}
use mathlib.Core.List.{List, [], ◌∷◌, ◌++◌, map, Memᴰ}
use Rattle.std.proofs.Math.Path.{refl, sym, ap}
use native.Mathlib.Omega.{arith}
use Rattle.std.proofs.Math.Decide.{dec_lt}
use Rattle.std.proofs.Math.ListN.{length, get_or, length-append, get_or-append}
use Rattle.std.proofs.Math.Seq.{get_or-append-add}
use Rattle.std.proofs.lemmas.Bool.{lt-leb}
use Rattle.words.specs.Choice.{pick}
use Rattle.words.specs.Choice.Laws.{pick_true, pick-false}
use Rattle.words.specs.First.{first}
use Rattle.words.specs.First.Laws.{clash, first-le, first_holds, first-fails, first-end}
use Rattle.words.specs.Run.{values}
use Rattle.words.specs.Run.Laws.{values_length, values-get_d}
use Rattle.terms.specs.Table.{term}
use Rattle.book.specs.Layout.{table, rows, parties, steps, known}
use Rattle.book.specs.Said.{Said, said}
use Rattle.book.specs.Said.Laws.{value_at}
use Rattle.book.specs.Headed.Laws.{valid-headed}
use Rattle.book.specs.Valid.{Valid}
use Rattle.translation.specs.Dictionary.{Dictionary, is_held}
use Rattle.translation.specs.Dictionary.Laws.{start-exact}
use Rattle.translation.specs.Low.{word_limit, Low}
use Rattle.translation.proofs.Low.Laws.{low-append}
use Rattle.translation.proofs.Rows.Laws.{party-known}
use Rattle.translation.specs.Source.{source_of, since_of}
use Rattle.translation.proofs.Source.Laws.{known-term, term-known, since-first}
use Rattle.translation.specs.Steps.{before}
use Rattle.translation.proofs.Steps.Laws.{before-none, before-grows, before-holds}
use Rattle.translation.specs.Taken.{joined}
use Rattle.summary.specs.Summary.{holds, held_from, summary_words, summary, word_at, answered, asked, Fits}
use Rattle.summary.specs.Summary.Question.{asked-answers}

-- ---- the full walk
module _ (b : List ℕ) (p r : ℕ) (h : p < parties b) where
  pub holds-before : (k : ℕ) → k ≤ steps b → holds b p r k ≡ is_held ((before b p k).dictionary (term (table b) r))
  unfolding holds
  holds-before k l = ap (λ (δ : Dictionary). is_held (δ (term (table b) r))) (before-holds b p h k l)

  -- what is held stays held
  pub holds_more : (k m : ℕ) → k ≤ m → m ≤ steps b → holds b p r k ≡ true → holds b p r m ≡ true
  holds_more k m l n e = holds-before m n ∙ before-grows b p k m l (term (table b) r) (sym (holds-before k (omega arith)) ∙ e)

  -- ---- when it is first held
  -- by k steps exactly if the word is at most k
  pub held_from-most : (k : ℕ) → k ≤ steps b → (held_from b p r ≤ k) ↔ (holds b p r k ≡ true)
  unfolding held_from
  held_from-most k l = (
    λ m. holds_more (first (holds b p r) (steps b + 1)) k m l (first_holds (holds b p r) (steps b + 1) (omega arith)),
    λ e. elim (dec_lt k (first (holds b p r) (steps b + 1))) [
      | yes m ↦ absurd (clash e (first-fails (holds b p r) (steps b + 1) k m))
      | no m ↦ omega arith
    ],
  )

  not_yet : (s : ℕ) → s < held_from b p r → holds b p r s ≡ false
  unfolding held_from
  not_yet s m = first-fails (holds b p r) (steps b + 1) s m

  -- s + 1: after step s, and not before it
  pub held_from-after : (s : ℕ) → s < steps b → (held_from b p r ≡ s + 1) ↔ ((holds b p r (s + 1) ≡ true) × (holds b p r s ≡ false))
  held_from-after s l = (
    λ e. ((held_from-most (s + 1) (omega arith)).0 (omega arith), not_yet s (omega arith)),
    λ u. (let most = (held_from-most (s + 1) (omega arith)).1 u.0 in
        elim (dec_lt s (held_from b p r)) [
          | yes m ↦ omega arith
          | no m ↦ absurd (clash ((held_from-most s (omega arith)).0 (omega arith)) u.1)
        ]),
  )

  -- 0: at the start
  pub held_from-start : (held_from b p r ≡ 0) ↔ (holds b p r 0 ≡ true)
  held_from-start = (
    λ e. (held_from-most 0 (omega arith)).0 (omega arith),
    λ e. (let most = (held_from-most 0 (omega arith)).1 e in omega arith),
  )

  -- one more than all steps: never
  pub held_from-never : (held_from b p r ≡ steps b + 1) ↔ ((k : ℕ) → k ≤ steps b → holds b p r k ≡ false)
  unfolding held_from
  held_from-never = (
    λ e k l. first-fails (holds b p r) (steps b + 1) k (omega arith),
    λ n. sym (first-end (holds b p r) (steps b + 1) (steps b + 1) refl (λ k l. n k (omega arith))),
  )

-- and it is read off how the row is held in the end
pub held_from-source : (b : List ℕ) (p r : ℕ) → p < parties b → held_from b p r ≡ since_of (steps b + 1) (source_of b p r)
unfolding held_from holds
held_from-source b p r h = since-first b p h r

pub held_from-low : (b : List ℕ) (p r : ℕ) → held_from b p r ≤ steps b + 1
unfolding held_from
held_from-low b p r = first-le (holds b p r) (steps b + 1)

-- ---- "given at the start": the rows that the party knows
pub holds-known : (b : List ℕ) → Valid b → (p r : ℕ) → p < parties b → r < rows b → (holds b p r 0 ≡ true) ↔ Memᴰ r (known b p)
holds-known b v p r h l =
    let start = holds-before b p r h 0 (omega arith) ∙ ap (λ d. is_held (d.dictionary (term (table b) r))) (before-none b p) in
    let Known-as = start-exact (map (term (table b)) (known b p)) (term (table b) r) in (
      λ e. known-term b v r l (known b p) (party-known b v p h) (Known-as.0 (sym start ∙ e)),
      λ m. start ∙ Known-as.1 (term-known b r (known b p) m),
    )

-- ---- lists of w words each, one behind another
module _ (f : ℕ → List ℕ) (w : ℕ) (each : (p : ℕ) → length (f p) ≡ w) where
  pub joined_length : (i q : ℕ) → length (joined (values f i q)) ≡ q * w
  unfolding joined values
  joined_length i zero = sym (zero-mul w)
  joined_length i (suc q) =
      let rest = joined_length (suc i) q in
      let one = each i in
      length-append (f i) (joined (values f (suc i) q)) ∙ omega (arith, suc-mul q w)

  pub joined_at : (i q p r : ℕ) → p < q → r < w → get_or (joined (values f i q)) (p * w + r) 0 ≡ get_or (f (i + p)) r 0
  unfolding joined values
  joined_at i zero p r h l = absurd (omega arith)
  joined_at i (suc q) zero r h l =
      let one = each i in
      let z : 0 * w + r ≡ r = omega (arith, zero-mul w) in
      let here : i ≡ i + 0 = omega arith in
      ap (λ k. get_or (f i ++ joined (values f (suc i) q)) k 0) z ∙ get_or-append (f i) (joined (values f (suc i) q)) 0 r (omega arith)
      ∙ ap (λ k. get_or (f k) r 0) here
  joined_at i (suc q) (suc p) r h l =
      let one = each i in
      let z : suc p * w + r ≡ length (f i) + (p * w + r) = omega (arith, suc-mul p w) in
      let there : suc i + p ≡ i + suc p = omega arith in
      ap (λ k. get_or (f i ++ joined (values f (suc i) q)) k 0) z
      ∙ get_or-append-add (f i) (joined (values f (suc i) q)) (p * w + r) 0 ∙ joined_at (suc i) q p r (omega arith) l
      ∙ ap (λ k. get_or (f k) r 0) there

-- ---- the summary's words
past_three : (x y z : ℕ) (l : List ℕ) (i k : ℕ) → k ≡ 3 + i → get_or (x ∷ y ∷ z ∷ l) k 0 ≡ get_or l i 0
past_three x y z l i k e = let f : k ≡ suc (suc (suc i)) = omega arith in rw f

module _ (b : List ℕ) where
  each_row : (p : ℕ) → length (values (held_from b p) 0 (rows b)) ≡ rows b
  each_row p = values_length (held_from b p) 0 (rows b)

  -- "3+QT words"
  pub summary-length : length (summary b) ≡ summary_words b
  unfolding summary
  summary-length = let n = joined_length (λ p. values (held_from b p) 0 (rows b)) (rows b) each_row 0 (parties b) in omega arith

  -- "Q, T, L"
  pub summary-front : (get_or (summary b) 0 0 ≡ parties b) × (get_or (summary b) 1 0 ≡ rows b) × (get_or (summary b) 2 0 ≡ steps b)
  unfolding summary
  summary-front = (refl, refl, refl)

  pub summary-fits : Fits (summary b)
  unfolding summary
  summary-fits = summary-length

  -- "then for each party and row"
  module _ (p r : ℕ) (h : p < parties b) (l : r < rows b) where
    pub summary-word : word_at (summary b) p r ≡ held_from b p r
    unfolding summary
    summary-word =
        let party : ℕ → List ℕ = λ q. values (held_from b q) 0 (rows b) in
        let z : 0 + p ≡ p = zero-add p in
        past_three (parties b) (rows b) (steps b) (joined (values party 0 (parties b))) (p * rows b + r) (3 + p * rows b + r) (omega arith)
        ∙ joined_at party (rows b) each_row 0 (parties b) p r h l ∙ values-get_d (held_from b (0 + p)) 0 (rows b) r 0 l
        ∙ ap (held_from b (0 + p)) (zero-add r) ∙ ap (λ q. held_from b q r) z

    -- "0 if given at the start"
    pub word-start : (word_at (summary b) p r ≡ 0) ↔ (holds b p r 0 ≡ true)
    word-start = rw summary-word (held_from-start b p r h)

    pub word-known : Valid b → (word_at (summary b) p r ≡ 0) ↔ Memᴰ r (known b p)
    word-known v =
        let given = holds-known b v p r h l in
        (λ e. given.0 (word-start.0 e), λ m. word-start.1 (given.1 m))

    -- "s+1 if first in the dictionary after step s"
    pub word_after : (s : ℕ) → s < steps b
        → (word_at (summary b) p r ≡ s + 1) ↔ ((holds b p r (s + 1) ≡ true) × (holds b p r s ≡ false))
    word_after s k = rw summary-word (held_from-after b p r h s k)

    -- "L+1 if never"
    pub word-never : (word_at (summary b) p r ≡ steps b + 1) ↔ ((k : ℕ) → k ≤ steps b → holds b p r k ≡ false)
    word-never = rw summary-word (held_from-never b p r h)

    -- ---- the answer from the summary is the answer of the full walk
    at_most : (k : ℕ) → k ≤ steps b → leb (word_at (summary b) p r) k ≡ holds b p r k
    at_most k m = go (holds b p r k) refl
      where
        go : (v : Bool) → holds b p r k ≡ v → leb (word_at (summary b) p r) k ≡ v
        go true e = let w = summary-word in le-leb (word_at (summary b) p r) k (let n = (held_from-most b p r h k m).1 e in omega arith)
        go false e =
            let w = summary-word in
            lt-leb (word_at (summary b) p r) k (elim (dec_lt k (held_from b p r)) [
              | yes n ↦ omega arith
              | no n ↦ absurd (clash ((held_from-most b p r h k m).0 (omega arith)) e)
            ])

    pub summary-exact : (t : ℕ) → t < steps b → asked (summary b) p r t ≡ said 0 (pick (holds b p r (t + 1)) 1 0 ∷ [])
    unfolding answered
    summary-exact t m =
        let (q, w, n) = summary-front in
        asked-answers (summary b) p r t summary-fits (omega arith, omega arith, omega arith)
        ∙ ap (λ v. said 0 (pick v 1 0 ∷ [])) (at_most (t + 1) (omega arith))

    -- yes exactly if it is held after step t, and no exactly if it is not
    pub summary-yes : (t : ℕ) → t < steps b → (asked (summary b) p r t ≡ said 0 (1 ∷ [])) ↔ (holds b p r (t + 1) ≡ true)
    summary-yes t m = go (holds b p r (t + 1)) refl
      where
        go : (v : Bool) → holds b p r (t + 1) ≡ v → (asked (summary b) p r t ≡ said 0 (1 ∷ [])) ↔ (holds b p r (t + 1) ≡ true)
        go true e = (λ f. e, λ f. summary-exact t m ∙ ap (λ x. said 0 (x ∷ [])) (pick_true _ _ _ e))
        go false e = (
          λ f. (let z = sym (pick-false _ 1 0 e) ∙ ap (λ (x : Said). value_at x 0) (sym (summary-exact t m) ∙ f) in absurd (omega arith)),
          λ f. absurd (clash f e),
        )

    pub summary-no : (t : ℕ) → t < steps b → (asked (summary b) p r t ≡ said 0 (0 ∷ [])) ↔ (holds b p r (t + 1) ≡ false)
    summary-no t m = go (holds b p r (t + 1)) refl
      where
        go : (v : Bool) → holds b p r (t + 1) ≡ v → (asked (summary b) p r t ≡ said 0 (0 ∷ [])) ↔ (holds b p r (t + 1) ≡ false)
        go false e = (λ f. e, λ f. summary-exact t m ∙ ap (λ x. said 0 (x ∷ [])) (pick-false _ _ _ e))
        go true e = (
          λ f. (let z = sym (pick_true _ 1 0 e) ∙ ap (λ (x : Said). value_at x 0) (sym (summary-exact t m) ∙ f) in absurd (omega arith)),
          λ f. absurd (clash e f),
        )

-- ---- its words are below 2^32
low_values : (f : ℕ → ℕ) → ((k : ℕ) → f k < word_limit) → (i n : ℕ) → Low (values f i n)
unfolding values
low_values f h i zero = tt
low_values f h i (suc n) = (h i, low_values f h (suc i) n)

low-joined : (f : ℕ → List ℕ) → ((k : ℕ) → Low (f k)) → (i n : ℕ) → Low (joined (values f i n))
unfolding values joined
low-joined f h i zero = tt
low-joined f h i (suc n) = low-append (f i) (joined (values f (suc i) n)) (h i) (low-joined f h (suc i) n)

pub summary-low : (b : List ℕ) → Valid b → Low (summary b)
unfolding summary
summary-low b v =
    let headed = valid-headed b v in
    let q = headed.few_parties in
    let w = headed.few_rows in
    let l = headed.few_steps in
    let word : (p r : ℕ) → held_from b p r < word_limit = λ p r. (let low = held_from-low b p r in omega arith) in
    (omega arith, (omega arith, (omega arith, low-joined _ (λ p. low_values (held_from b p) (word p) 0 (rows b)) 0 (parties b))))

-- and it has at most 16,387 of them
pub summary-most : (b : List ℕ) → Valid b → summary_words b ≤ 16387
summary-most b v =
    let headed = valid-headed b v in
    let product = mul-le-mul {n₂ = 16} {m₂ = 1024} headed.few_parties headed.few_rows in
    omega arith
