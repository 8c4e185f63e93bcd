-- Demand 3, stated: what holds in every state that the plain machine reaches. Document 01, 'The rehearsal': "A party can move there if
-- its next event gets done, by its own move or by a handing over; a move that does nothing doesn't count." The five clauses are the
-- fields of `Agree`. That they hold of the programs which an accepted book's listing spells is in Agree.Laws.
-- "The very term that the narration has there" is said without the machine: the walk of the translation notes, for each placeholder
-- that it hands out, the step's message or the opened cipher's content that it is handed out for (`given`).
use Rattle.std.specs.Prelude.{ℕ, suc, ◌<◌, false, ◌⊎◌, ◌≡◌, length}
use mathlib.Core.List.{List, [], ◌∷◌, Memᴰ}
use Rattle.std.proofs.Math.Option.{some}
use Rattle.std.proofs.Math.ListN.{get_elem?}
use Rattle.terms.specs.Term.{Term, Terms}
use Rattle.translation.specs.Receive.{Event, Stored}
use Rattle.translation.specs.Standing.{Standing, standing}
use Rattle.words.specs.Run.{NoRepeat}
use Rattle.translation.specs.Program.{acts_of, walked}
use Rattle.translation.specs.Narration.{Narration, known_to}
use Rattle.translation.specs.Taken.{Nobodys, step_of}
use Rattle.agreement.specs.Machine.{Effect, effect, System, Move, move, Reach}
pub mod Laws

-- ---- the narration's side
-- the terms that the narration has at party p's placeholders, from 0 on
unfoldable pub meant : Narration → ℕ → List Term
meant N p = (walked (known_to N p) (acts_of p 0 N.says)).given

unfoldable pub receiver_of : Narration → ℕ → ℕ
receiver_of N s = (step_of N s).receiver

-- step s of the narration has the messages ts
pub record Narrated (N : Narration) (s : ℕ) (ts : Terms) : Type 0 where
  pub within : s < length N.says
  pub messages : (step_of N s).messages ≡ ts

-- ---- the machine's side
-- only END is left
pub data AtEnd : List Event → Type 0 where
  end : {ps : List Stored} → AtEnd (Event.ends ps ∷ [])

-- by the move m, party p's next event gets done
pub record Does (N : Narration) (S : System) (m : Move) (p : ℕ) : Type 0 where
  pub event : Event
  pub rest : List Event
  pub before : (S.party p).left ≡ event ∷ rest
  pub after : ((move (receiver_of N) m S).party p).left ≡ rest
  pub one_more : ((move (receiver_of N) m S).party p).done ≡ suc (S.party p).done

-- party p's next event gets done, by its own move or by a handing over
pub data CanMove (N : Narration) (S : System) (p : ℕ) : Type 0 where
  by_own : Does N S (Move.own p) p → CanMove N S p
  by_delivery : (s : ℕ) → Does N S (Move.delivery s) p → CanMove N S p

-- one of the first Q parties can move
pub record SomeCanMove (N : Narration) (Q : ℕ) (S : System) : Type 0 where
  pub who : ℕ
  pub within : who < Q
  pub can : CanMove N S who

-- a copy of step s, handed over, is dropped: nothing changes
abbrev pub Dropped : Narration → ℕ → System → Type 0
Dropped N s S = move (receiver_of N) (Move.delivery s) S ≡ S

-- it is taken: the step's receiver waits for that step, its RECEIVE gets done, and from then on, whatever moves are made, every further
-- copy of the step is dropped
pub record TakesCopy (N : Narration) (s : ℕ) (S : System) : Type 0 where
  pub first : ℕ
  pub many : ℕ
  pub waits : standing (S.party (receiver_of N s)).left ≡ Standing.waits s first many
  pub does : Does N S (Move.delivery s) (receiver_of N s)
  pub none_later : {T : System} → Reach (receiver_of N) (move (receiver_of N) (Move.delivery s) S) T → Dropped N s T

-- ---- the five clauses
-- (a) every placeholder that a party has bound stands for the very term that the narration has there
abbrev pub Bound : Narration → System → Type 0
Bound N S = (p x : ℕ) (t : Term) → (S.party p).sight.placeholders x ≡ some t → get_elem? (meant N p) x ≡ some t

-- (b) no comparison and no opening fails, nor any other event; no party has halted; every message sent is the narration's
pub record Faithful (N : Narration) (S : System) : Type 0 where
  pub succeeds : (p : ℕ) (e : Event) (es : List Event) → (S.party p).left ≡ e ∷ es → effect e (S.party p).sight ≡ Effect.fails → ⊥
  pub unhalted : (p : ℕ) → (S.party p).halted ≡ false
  pub messages : (s : ℕ) (ts : Terms) → S.sent s ≡ some ts → Narrated N s ts

-- (c) no atom is made twice, and none that is taken before the first step: a party's name, or at any depth in what one knows at the
-- start
pub record MadeOnce (N : Narration) (S : System) : Type 0 where
  pub once : NoRepeat S.made
  pub untaken : (r : ℕ) → Memᴰ r S.made → Nobodys N 0 r

-- (d) while a party is unfinished, some party can move
abbrev pub Moves : Narration → ℕ → System → Type 0
Moves N Q S = (p : ℕ) → p < Q → (AtEnd (S.party p).left → ⊥) → SomeCanMove N Q S

-- (e) a delivery is taken once, and only by one that waits: a copy of a step is dropped, or it is the one that its receiver takes
abbrev pub TakenOnce : Narration → System → Type 0
TakenOnce N S = (s : ℕ) → Dropped N s S ⊎ TakesCopy N s S

-- what END names: at END each of its placeholders is bound, to the term of the triple's row
abbrev pub EndsBound : System → Type 0
EndsBound S =
    (p : ℕ) (ps : List Stored) (es : List Event) → (S.party p).left ≡ Event.ends ps ∷ es → (t : Term) (x s : ℕ) → Memᴰ (t, x, s) ps
    → (S.party p).sight.placeholders x ≡ some t

-- of the first Q parties
pub record Agree (N : Narration) (Q : ℕ) (S : System) : Type 0 where
  pub bound : Bound N S
  pub faithful : Faithful N S
  pub made : MadeOnce N S
  pub moves : Moves N Q S
  pub taken_once : TakenOnce N S
