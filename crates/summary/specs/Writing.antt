-- What writing a party's words asks for, and how they are read off what it holds.
use Rattle.std.specs.Prelude.{ℕ, List, get_or}
use Rattle.words.specs.Run.{values}
use Rattle.book.specs.Layout.{steps}
use Rattle.translation.specs.Source.{since_of}
use Rattle.holding.specs.Entry.{held_of}
use Rattle.walking.specs.Walk.{Unrefused}
use Rattle.walking.specs.Walking.{WalkReady}

-- party p can be taken through all steps, and none is refused for it
pub record PartyReady (b since ps : List ℕ) (p : ℕ) : Type 0 where
  pub ready : WalkReady b since ps p (steps b) 0
  pub unrefused : Unrefused b p (steps b)

-- since when each of the first n rows is held, by the entries e; z if never
abbrev pub since_words : List ℕ → ℕ → ℕ → List ℕ
since_words e z n = values (λ r. since_of z (held_of (get_or e r 0))) 0 n
