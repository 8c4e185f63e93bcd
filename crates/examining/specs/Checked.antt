-- Derivations on bytes, with the words that they make in a room that the caller lends. Document 02, [14]: the verdict is "safe", the
-- smallest bad line, or that the last line gives something else; "at most 1,024 lines and 64 effects a line; beyond that refusal 24, ..
-- place the too large count". Neither what is asked nor a derivation has a bound on its words, so that no buffer of our own holds them.
-- Bytes that make no whole words are refusal 1, as of a book, [1]; then comes 24, by the words that the derivation makes; and last, as
-- document 01 has it, 12, where the room is too little, with the words that are needed. On a refusal no word of the room changes; else the
-- derivation's words lie at its front, those of what is asked behind them, and the rest stays.
use Rattle.std.specs.Prelude.{ℕ, ◌+◌, ◌/◌, Bool, ◌||◌, List, [], ◌∷◌, ◌++◌, length, ltb, Option, None, Some, Result, Ok, Err}
use Rattle.std.proofs.lemmas.List.Edits.{sets}
use Rattle.words.specs.Choice.{pick}
use Rattle.octets.specs.Octets.{words_in, uneven}
use Rattle.typing.specs.Apart.{keeps_apart}
use Rattle.typing.specs.Derivation.{Verdict, verdict}
use Rattle.checking.specs.declared.Finding.{Finding}
use Rattle.checking.specs.Finding.{found_verdict}
use Rattle.checking.specs.Large.{too_large}
use Rattle.book.specs.declared.Refusal.{Refusal}
use Rattle.book.specs.Said.{Said, said, refusal_says}
use Rattle.translation.specs.Outcome.{Outcome}
use Rattle.summary.specs.Reply.{reply_says}
pub mod Laws

-- ---- what is said
-- a verdict as it is counted: no verdict but 24 is a refusal; safe is 1, another 2, and a bad line 0 with its number behind
abbrev pub verdict_said : Verdict → Said
verdict_said Verdict.safe = said 0 (1 ∷ [])
verdict_said (Verdict.bad i) = said 0 (0 ∷ i ∷ [])
verdict_said Verdict.another = said 0 (2 ∷ [])
verdict_said (Verdict.refused n) = said 24 (n ∷ [])

abbrev pub found_says : Finding → Said
found_says f = verdict_said (found_verdict f)

-- what is found of a derivation's bytes, or why they were not checked
abbrev pub checked_says : Result Finding Refusal → Said
checked_says (Ok f) = found_says f
checked_says (Err r) = refusal_says r

-- of bound names: 1 where they are kept apart, else 0
abbrev pub apart_said : Bool → Said
apart_said b = said 0 (pick b 1 0 ∷ [])

-- what came of a call: what is said, and the room afterwards
abbrev pub checked : Result Finding Refusal → List ℕ → Outcome
checked c room = record { says = checked_says c; lent = room }

abbrev pub apart_found : Bool → List ℕ → Outcome
apart_found b room = record { says = apart_said b; lent = room }

abbrev pub replied : Result Bool Refusal → List ℕ → Outcome
replied r room = record { says = reply_says r; lent = room }

-- refusal 1, place 0: what is lent does not change
abbrev pub odd : List ℕ → Outcome
odd lent = record { says = said 1 (0 ∷ []); lent = lent }

-- refusal 12: so many words are needed, and none of the room changes
abbrev pub short : ℕ → List ℕ → Outcome
short n room = record { says = said 12 (n ∷ []); lent = room }

-- refusal 24: so many lines or effects, and none of the room changes
abbrev pub many : ℕ → List ℕ → Outcome
many n room = record { says = said 24 (n ∷ []); lent = room }

-- where a count is too large, and where none is
abbrev pub unless_many : Option ℕ → List ℕ → Outcome → Outcome
unless_many None room o = o
unless_many (Some n) room o = many n room

-- ---- a derivation
-- the words of both
abbrev pub needed : List ℕ → List ℕ → ℕ
needed xs ds = length ds / 4 + length xs / 4

-- where there is room
abbrev pub checked_in : List ℕ → List ℕ → List ℕ → Outcome
checked_in xs ds room =
    record { says = verdict_said (verdict (words_in xs) (words_in ds)); lent = sets room 0 (words_in ds ++ words_in xs) }

-- of the bytes of what is asked, and of a derivation
unfoldable pub checked_bytes : List ℕ → List ℕ → List ℕ → Outcome
checked_bytes xs ds room =
    pick (uneven xs || uneven ds) (odd room)
    (unless_many (too_large (words_in ds)) room
    (pick (ltb (length room) (needed xs ds)) (short (needed xs ds) room) (checked_in xs ds room)))

-- the same where room is no matter
unfoldable pub checked_said : List ℕ → List ℕ → Said
checked_said xs ds = pick (uneven xs || uneven ds) (said 1 (0 ∷ [])) (verdict_said (verdict (words_in xs) (words_in ds)))

-- ---- bound names
abbrev pub apart_in : List ℕ → List ℕ → Outcome
apart_in xs room = record { says = apart_said (keeps_apart (words_in xs)); lent = sets room 0 (words_in xs) }

unfoldable pub apart_bytes : List ℕ → List ℕ → Outcome
apart_bytes xs room =
    pick (uneven xs) (odd room) (pick (ltb (length room) (length xs / 4)) (short (length xs / 4) room) (apart_in xs room))

unfoldable pub apart_asked : List ℕ → Said
apart_asked xs = pick (uneven xs) (said 1 (0 ∷ [])) (apart_said (keeps_apart (words_in xs)))
