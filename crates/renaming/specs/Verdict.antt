-- The judge's verdict on any words. Document 02, [7]: "We want a judge of one party's listing against a book .. Any words may be handed
-- in; a book that is refused gives the book's refusal, then a party number out of range is 22." It carries that number.
-- Counted: 1 where it is ours up to a renaming; else 0, and the place.
use Rattle.std.specs.Prelude.{ℕ, List, [], ◌∷◌, ◌++◌, leb, Result, Ok, Err}
use Rattle.words.specs.Choice.{pick}
use Rattle.book.specs.Layout.{parties}
use Rattle.book.specs.Said.{Said, said, refusal_says}
use Rattle.book.specs.Refusals.{Line, line, first_of, reading_table}
use Rattle.translation.specs.Outcome.{stop_line}
use Rattle.renaming.specs.Slot.{Slot, part_slots}
use Rattle.renaming.specs.Renaming.{all_agree, place_of}
use Rattle.renaming.specs.declared.Verdict.{Verdict}
use Rattle.renaming.specs.declared.Verdict.TheVariants.{Same, Differs}
use Rattle.book.specs.declared.Refusal.{Refusal}

-- of our slots and their words
unfoldable pub verdict_of : List Slot → List ℕ → Said
verdict_of ss ws = pick (all_agree ss ws) (said 0 (1 ∷ [])) (said 0 (0 ∷ place_of ss ws ∷ []))

-- no party of the book has this number
unfoldable pub nobody_line : List ℕ → ℕ → Line
nobody_line b p = line 22 1 (λ i. leb (parties b) p) (λ i. p ∷ [])

-- of the words b, the number p and the words ws
unfoldable pub judged : List ℕ → ℕ → List ℕ → Said
judged b p ws = first_of (reading_table b ++ stop_line b ∷ nobody_line b p ∷ []) (verdict_of (part_slots b p) ws)

-- what a judge answers: a verdict, or why there is none
abbrev pub Judgement : Type 0
Judgement = Result Verdict Refusal

-- number and values of each
abbrev pub verdict_says : Judgement → Said
verdict_says (Ok Same) = said 0 (1 ∷ [])
verdict_says (Ok (Differs k)) = said 0 (0 ∷ k ∷ [])
verdict_says (Err f) = refusal_says f
