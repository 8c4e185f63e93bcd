-- Laws of refusal 24: the scan over the lines' counts, and that the number is the verdict's. Assumes nothing.
use Rattle.std.specs.Prelude.{ℕ, zero, suc, ◌+◌, ◌*◌, ◌≤◌, ◌<◌, List, [], ◌∷◌, ◌↔◌, ◌≡◌, refl, ltb, length, get_or, take, Option, None, Some}
use Rattle.std.proofs.Math.Bool.{true, false}
use Rattle.std.proofs.Math.Path.{sym, ap}
use Rattle.std.proofs.Common.{◌∙◌, arith}
use Rattle.std.proofs.Math.Decide.{dec_lt, ℕ_discrete as dec_eq}
use Rattle.std.proofs.Math.Seq.{get_or-take}
use Rattle.std.proofs.lemmas.Option.{none-some, same_Some}
use borrow.Author.Tests.{lt-ltb, le-ltb, ltb-false}
use Rattle.words.specs.Choice.{pick}
use Rattle.words.specs.Choice.Laws.{pick_true, pick-false, pick_ind}
use Rattle.words.specs.First.{first, any}
use Rattle.words.specs.First.Laws.{first-same, first-at, any_at, any_none, none_any}
use Rattle.typing.specs.Derivation.{lines, line_word, effect_count, crowded, most_lines, most_effects, Verdict, verdict, Within}
use Rattle.checking.specs.Large.{too_large}

-- ---- the words of the lines
pub lines-word : (w : List ℕ) (n : ℕ) → n ≡ get_or w 0 0 → n ≡ lines w
unfolding lines
lines-word w n e = e

pub count_word : (w : List ℕ) (i n : ℕ) → n ≡ line_word w i 8 → n ≡ effect_count w i
unfolding effect_count
count_word w i n e = e

-- ---- too many lines
pub large-lines : (w : List ℕ) (n : ℕ) → n ≡ lines w → 1024 < n → Some n ≡ too_large w
unfolding too_large
large-lines w n e h = ap Some e ∙ sym (pick_true (ltb most_lines (lines w)) _ _ (lt-ltb most_lines (lines w) (omega arith)))

-- ---- the scan: no line before i is crowded
abbrev pub Uncrowded : List ℕ → ℕ → Type 0
Uncrowded w i = (k : ℕ) → k < i → crowded w k ≡ false

pub uncrowded-none : (w : List ℕ) → Uncrowded w 0
uncrowded-none w k l = absurd (omega arith)

pub uncrowded-next : (w : List ℕ) (i : ℕ) → Uncrowded w i → (c : ℕ) → c ≡ effect_count w i → c ≤ 64 → Uncrowded w (i + 1)
unfolding crowded
uncrowded-next w i t c e h =
    let so : crowded w i ≡ false = le-ltb most_effects (effect_count w i) (omega arith) in
    λ k m. elim (dec_eq k i) [ yes p ↦ ap (crowded w) p ∙ so | no p ↦ t k (omega arith) ]

module _ (w : List ℕ) (n i : ℕ) (count : n ≡ lines w) (few : n ≤ 1024) (t : Uncrowded w i) where
  past : too_large w ≡ pick (any (crowded w) (lines w)) (Some (effect_count w (first (crowded w) (lines w)))) None
  unfolding too_large
  past = pick-false (ltb most_lines (lines w)) _ _ (le-ltb most_lines (lines w) (omega arith))

  pub large-effects : i < n → (c : ℕ) → c ≡ effect_count w i → 64 < c → Some c ≡ too_large w
  unfolding crowded
  large-effects l c e h =
      let m : i < lines w = omega arith in
      let so : crowded w i ≡ true = lt-ltb most_effects (effect_count w i) (omega arith) in
      ap Some (e ∙ ap (effect_count w) (first-at (crowded w) (lines w) i m t so))
      ∙ sym (past ∙ pick_true (any (crowded w) (lines w)) _ _ (any_at (crowded w) (lines w) i m so))

  pub none-crowded : n ≤ i → None ≡ too_large w
  none-crowded h = sym (past ∙ pick-false (any (crowded w) (lines w)) _ _ (any_none (crowded w) (lines w) (λ k l. t k (omega arith))))

-- ---- the number is the verdict's, where there is one
pub large-refused : (a w : List ℕ) (n : ℕ) → too_large w ≡ Some n → verdict a w ≡ Verdict.refused n
unfolding too_large verdict
large-refused a w n h =
    pick_ind (λ (o : Option ℕ). o ≡ Some n → verdict a w ≡ Verdict.refused n) (ltb most_lines (lines w)) _ _
    (λ e z. pick_true (ltb most_lines (lines w)) _ _ e ∙ ap Verdict.refused (same_Some _ _ z))
    (λ e z.
    pick_ind (λ (o : Option ℕ). o ≡ Some n → verdict a w ≡ Verdict.refused n) (any (crowded w) (lines w)) _ _
    (λ f y.
    pick-false (ltb most_lines (lines w)) _ _ e ∙ pick_true (any (crowded w) (lines w)) _ _ f ∙ ap Verdict.refused (same_Some _ _ y))
    (λ f y. absurd (none-some n y)) z) h

-- a word past the end is 0
pub word-past : (w : List ℕ) (i : ℕ) → length w ≤ i → 0 ≡ get_or w i 0
word-past [] i l = refl
word-past (x ∷ w) zero l = absurd (omega arith)
word-past (x ∷ w) (suc i) l = word-past w i (omega arith)

-- there is none exactly if no count is too large
large-none : (w : List ℕ) → Within w → too_large w ≡ None
unfolding too_large crowded
large-none w h =
    pick-false (ltb most_lines (lines w)) _ _ (le-ltb most_lines (lines w) h.few)
    ∙ pick-false (any (crowded w) (lines w)) _ _ (any_none (crowded w) (lines w) (λ i l. le-ltb most_effects (effect_count w i) (h.small i l)))

none-large : (w : List ℕ) → too_large w ≡ None → Within w
unfolding too_large crowded
none-large w =
    pick_ind (λ (o : Option ℕ). o ≡ None → Within w) (ltb most_lines (lines w)) _ _ (λ e z. absurd (none-some _ (sym z)))
    (λ e.
    pick_ind (λ (o : Option ℕ). o ≡ None → Within w) (any (crowded w) (lines w)) _ _ (λ f z. absurd (none-some _ (sym z)))
    (λ f z.
    record { few = ltb-false most_lines (lines w) e; small = λ i l. ltb-false most_effects (effect_count w i) (none_any (crowded w) (lines w) f i l) }))

pub large-exact : (w : List ℕ) → (too_large w ≡ None) ↔ Within w
large-exact w = (none-large w, large-none w)

-- ---- the lines' own words are enough: one, and nine for each of 1,024 lines
module _ (w : List ℕ) (n : ℕ) (h : 9217 ≤ n) where
  lines-front : lines (take n w) ≡ lines w
  unfolding lines
  lines-front = get_or-take n w 0 0 (omega arith)

  count-front : (i : ℕ) → i < 1024 → effect_count (take n w) i ≡ effect_count w i
  unfolding effect_count line_word
  count-front i l = get_or-take n w (1 + 9 * i + 8) 0 (omega arith)

  -- so many lines, and the first of them that states too many effects
  stated : List ℕ → ℕ → Option ℕ
  stated v k = pick (any (crowded v) k) (Some (effect_count v (first (crowded v) k))) None

  stated-front : (k : ℕ) → k ≤ 1024 → stated (take n w) k ≡ stated w k
  unfolding stated any crowded
  stated-front k l =
      let same : first (crowded (take n w)) k ≡ first (crowded w) k =
      first-same (crowded (take n w)) (crowded w) k (λ i m. ap (ltb most_effects) (count-front i (omega arith))) in
      elim (dec_lt (first (crowded w) k) k) [
        | yes m ↦
            pick_true _ _ _ (lt-ltb (first (crowded (take n w)) k) k (omega arith))
            ∙ ap Some (ap (effect_count (take n w)) same ∙ count-front (first (crowded w) k) (omega arith))
            ∙ sym (pick_true _ _ _ (lt-ltb (first (crowded w) k) k m))
        | no m ↦
            pick-false _ _ _ (le-ltb (first (crowded (take n w)) k) k (omega arith))
            ∙ sym (pick-false _ _ _ (le-ltb (first (crowded w) k) k (omega arith)))
      ]

  pub large-front : too_large (take n w) ≡ too_large w
  unfolding too_large stated
  large-front = elim (dec_lt most_lines (lines w)) [
    | yes l ↦
        pick_true _ _ _ (lt-ltb most_lines (lines (take n w)) (omega (arith, lines-front))) ∙ ap Some lines-front
        ∙ sym (pick_true _ _ _ (lt-ltb most_lines (lines w) l))
    | no l ↦
        pick-false _ _ _ (le-ltb most_lines (lines (take n w)) (omega (arith, lines-front)))
        ∙ ap (stated (take n w)) lines-front ∙ stated-front (lines w) (omega arith)
        ∙ sym (pick-false _ _ _ (le-ltb most_lines (lines w) (omega arith)))
  ]
