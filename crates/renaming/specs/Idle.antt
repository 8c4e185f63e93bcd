-- Idle judges. Each is caught: it breaks the promise at a computed book, party and words. One that accepts all words, and one that accepts
-- none; one that accepts ours alone, as if no placeholder could be renamed; one that lets two placeholders have one name; one that doesn't
-- look past our last word; and those that don't look at the party's number or at the book. The first five may refuse rightly: they are idle
-- only where a listing is judged. Assumes nothing.
use Rattle.std.specs.Prelude.{ℕ, suc, zero, ◌+◌, Bool, true, false, List, [], ◌∷◌, ◌++◌, ◌≡◌, refl, get_or, leb, eqb}
use Rattle.std.proofs.Common.{sym, ap, ◌∙◌, arith}
use Rattle.words.specs.Choice.{pick}
use Rattle.book.specs.Said.{Said, said}
use Rattle.book.specs.Said.Laws.{value_at}
use Rattle.translation.specs.Low.{word_limit}
use Rattle.translation.specs.Listing.{part_words}
use Rattle.renaming.specs.Slot.{Slot, part_slots}
use Rattle.renaming.specs.Slot.Trials.{example}
use Rattle.renaming.specs.Renaming.{named}
use Rattle.renaming.specs.Verdict.{judged}
use Rattle.renaming.specs.Trials.{calling_b, unplayable_book, all_judged}

-- of a book, a party's number and words
abbrev pub Judge : Type 0
Judge = List ℕ → ℕ → List ℕ → Said

-- it doesn't keep the promise for all of them
abbrev pub Caught : Judge → Type 0
Caught f = ((b : List ℕ) (p : ℕ) (ws : List ℕ) → f b p ws ≡ judged b p ws) → ⊥

-- the answer that accepts
abbrev pub accepts : Said
accepts = said 0 (1 ∷ [])

-- whatever is judged, it accepts; example 1 and no words
pub accepts-all-caught : (f : Judge) → ((b : List ℕ) (p : ℕ) (ws : List ℕ) → (judged b p ws).number ≡ 0 → f b p ws ≡ accepts) → Caught f
unfolding all_judged example
accepts-all-caught f n h =
    let e : ◌≡◌ {A = ℕ} 1 0 = ap (λ (s : Said). value_at s 0) (sym (n example 1 [] refl) ∙ h example 1 []) in
    omega arith

-- it accepts nothing; ours
pub accepts-none-caught : (f : Judge) → ((b : List ℕ) (p : ℕ) (ws : List ℕ) → f b p ws ≡ accepts → ⊥) → Caught f
unfolding all_judged example
accepts-none-caught f n h = n example 1 (calling_b 0 1 1 2) (h example 1 (calling_b 0 1 1 2))

-- it accepts ours alone; ours with other placeholders
pub accepts-ours-caught : (f : Judge) → ((b : List ℕ) (p : ℕ) (ws : List ℕ) → f b p ws ≡ accepts → ws ≡ part_words b p) → Caught f
unfolding all_judged example
accepts-ours-caught f n h =
    let e : ◌≡◌ {A = ℕ} 7 0 = ap (λ (l : List ℕ). get_or l 9 0) (n example 1 (calling_b 7 8 8 9) (h example 1 (calling_b 7 8 8 9))) in
    omega arith

-- it lets two placeholders have one name: a run need not be fresh
unfoldable pub agrees_anyway : List ℕ → Slot → ℕ → Bool
agrees_anyway names (Slot.plain w) y = eqb y w
agrees_anyway names (Slot.uses x) y = eqb y (get_or names x 0)
agrees_anyway names (Slot.runs f zero) y = eqb y f
agrees_anyway names (Slot.runs f (suc n)) y = leb (y + suc n) word_limit

unfoldable pub all_anyway : List ℕ → List Slot → List ℕ → Bool
all_anyway names [] [] = true
all_anyway names [] (y ∷ ws) = false
all_anyway names (s ∷ ss) [] = false
all_anyway names (s ∷ ss) (y ∷ ws) = pick (agrees_anyway names s y) (all_anyway (named names s y) ss ws) false

-- the cipher is called 5, and its contents 4 and 5
pub accepts-overlap-caught : (f : Judge)
    → ((b : List ℕ) (p : ℕ) (ws : List ℕ) → (judged b p ws).number ≡ 0 → all_anyway [] (part_slots b p) ws ≡ true → f b p ws ≡ accepts)
    → Caught f
unfolding all_judged example agrees_anyway all_anyway
accepts-overlap-caught f n h =
    let ws : List ℕ = calling_b 5 4 4 5 in
    let e : ◌≡◌ {A = ℕ} 1 0 = ap (λ (s : Said). value_at s 0) (sym (n example 1 ws refl refl) ∙ h example 1 ws) in
    omega arith

-- it doesn't look past our last word; ours and a word more
pub accepts-longer-caught : (f : Judge)
    → ((b : List ℕ) (p : ℕ) (ws : List ℕ) (w : ℕ) → judged b p ws ≡ accepts → f b p (ws ++ w ∷ []) ≡ accepts) → Caught f
unfolding all_judged example
accepts-longer-caught f n h =
    let ws : List ℕ = calling_b 0 1 1 2 in
    let e : ◌≡◌ {A = ℕ} 1 0 = ap (λ (s : Said). value_at s 0) (sym (n example 1 ws 0 refl) ∙ h example 1 (ws ++ 0 ∷ [])) in
    omega arith

-- it doesn't look at the party's number, or at the book
pub ignores-party-caught : (f : Judge) → ((b : List ℕ) (p q : ℕ) (ws : List ℕ) → f b p ws ≡ f b q ws) → Caught f
unfolding all_judged example
ignores-party-caught f n h =
    let ws : List ℕ = calling_b 0 1 1 2 in
    let e : ◌≡◌ {A = ℕ} 0 1 = ap (λ (s : Said). value_at s 0) (sym (h example 0 ws) ∙ n example 0 1 ws ∙ h example 1 ws) in
    omega arith

pub ignores-book-caught : (f : Judge) → ((b c : List ℕ) (p : ℕ) (ws : List ℕ) → f b p ws ≡ f c p ws) → Caught f
unfolding all_judged example unplayable_book
ignores-book-caught f n h =
    let e : ◌≡◌ {A = ℕ} 0 10 = ap (λ (s : Said). s.number) (sym (h example 1 []) ∙ n example unplayable_book 1 [] ∙ h unplayable_book 1 []) in
    omega arith
