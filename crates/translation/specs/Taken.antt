-- Refusals 10 and 13. Document 01: "An atom is taken at a step if it is a party's name, or occurs at any depth in any party's starting
-- knowledge or in a message of an earlier step. Making a taken atom is refusal 10." Its place is the "smallest step, and the first
-- such row in building order". Document 02, [5]: "New refusal 13: a party marked 0 would have to make an atom; place is step and row. 10
-- and 13 share one line of the order: the walk stops at the first atom that can't be made, with 10 if it is taken and else 13."
use Rattle.std.specs.Prelude.{ℕ, ◌<◌, ◌≡◌, Bool, true, false, not, ◌||◌, length, get_or, take}
use mathlib.Core.List.{List, [], ◌∷◌, ◌++◌, Memᴰ}
use Rattle.words.specs.Choice.{pick}
use Rattle.words.specs.First.{first, any}
use Rattle.terms.specs.Term.{Term, Terms, listed, occurs, Occurs}
use Rattle.translation.specs.Dictionary.{Dictionary, Derives, DerivesAll}
use Rattle.translation.specs.Build.{build_all}
use Rattle.translation.specs.Program.{Step, acts_of, walked}
use Rattle.translation.specs.Narration.{Narration, known_to, may_make}
pub mod Laws

unfoldable pub joined : {A : Type 0} → List (List A) → List A
joined [] = []
joined (l ∷ ls) = l ++ joined ls

unfoldable pub all_messages : List Step → List Term
all_messages [] = []
all_messages (s ∷ ss) = listed s.messages ++ all_messages ss

-- the terms whose atoms are taken at step s
unfoldable pub claimed : Narration → ℕ → List Term
claimed N s = N.names ++ (joined N.knows ++ all_messages (take s N.says))

unfoldable pub occurs_in_one : ℕ → List Term → Bool
occurs_in_one q [] = false
occurs_in_one q (t ∷ ts) = occurs q t || occurs_in_one q ts

unfoldable pub taken : Narration → ℕ → ℕ → Bool
taken N s q = occurs_in_one q (claimed N s)

-- the same as the paper's three ways
pub data Taken (N : Narration) (s q : ℕ) : Type 0 where
  name : {t : Term} → Memᴰ t N.names → Occurs q t → Taken N s q
  known : {k : List Term} {t : Term} → Memᴰ k N.knows → Memᴰ t k → Occurs q t → Taken N s q
  earlier : {a : Step} {t : Term} → Memᴰ a (take s N.says) → Memᴰ t (listed a.messages) → Occurs q t → Taken N s q

-- an atom that is nobody's yet
abbrev pub Nobodys : Narration → ℕ → ℕ → Type 0
Nobodys N s q = Taken N s q → ⊥

-- a step that is not there says nothing
unfoldable pub step_of : Narration → ℕ → Step
step_of N s = get_or N.says s (record { sender = 0; receiver = 0; messages = Terms.nil })

-- what party p holds before step s
unfoldable pub holds_before : Narration → ℕ → ℕ → Dictionary
holds_before N p s = (walked (known_to N p) (acts_of p 0 (take s N.says))).dictionary

-- the atoms that step s makes its sender make, in building order
unfoldable pub made_at : Narration → ℕ → List ℕ
made_at N s = (build_all s (step_of N s).messages (holds_before N (step_of N s).sender s)).made

-- the sender of step s may make atoms
unfoldable pub sender_makes : Narration → ℕ → Bool
sender_makes N s = may_make N (step_of N s).sender

-- atom q can't be made at step s: it is taken, or the sender makes nothing
unfoldable pub unmakeable : Narration → ℕ → ℕ → Bool
unmakeable N s q = taken N s q || not (sender_makes N s)

-- the same, said: it can be made, or it can't, though it is nobody's
pub record Makeable (N : Narration) (s q : ℕ) : Type 0 where
  pub nobodys : Nobodys N s q
  pub maker : sender_makes N s ≡ true

pub record Barred (N : Narration) (s q : ℕ) : Type 0 where
  pub nobodys : Nobodys N s q
  pub no-maker : sender_makes N s ≡ false

-- atom j of those that step s makes can't be made
unfoldable pub stops_at : Narration → ℕ → ℕ → Bool
stops_at N s j = unmakeable N s (get_or (made_at N s) j 0)

-- "unplayable": an atom would have to be made that can't
unfoldable pub unplayable : Narration → ℕ → Bool
unplayable N s = any (stops_at N s) (length (made_at N s))

-- the first of them in building order
unfoldable pub stop_row : Narration → ℕ → ℕ
stop_row N s = get_or (made_at N s) (first (stops_at N s) (length (made_at N s))) 0

-- "with 10 if it is taken and else 13"
unfoldable pub stop_number : Narration → ℕ → ℕ
stop_number N s = pick (taken N s (stop_row N s)) 10 13

-- Each message of step s can be built from what its sender holds by then and atoms that are nobody's yet, which it may make.
abbrev pub Playable : Narration → ℕ → Type 0
Playable N s = DerivesAll (Makeable N s) (holds_before N (step_of N s).sender s) (step_of N s).messages

-- some message of step s has no derivation
pub record NoDerivation (N : Narration) (s : ℕ) : Type 0 where
  pub message : Term
  pub among : Memᴰ message (listed (step_of N s).messages)
  pub none : Derives (Makeable N s) (holds_before N (step_of N s).sender s) message → ⊥

-- the row of the refusal: made at this step, with `why` against it, and every atom made before it can be made
pub record FirstStop (N : Narration) (s : ℕ) (why : ℕ → Type 0) : Type 0 where
  pub place : ℕ
  pub within : place < length (made_at N s)
  pub row : stop_row N s ≡ get_or (made_at N s) place 0
  pub reason : why (get_or (made_at N s) place 0)
  pub first-such : (k : ℕ) → k < place → Makeable N s (get_or (made_at N s) k 0)
