-- One party's program. Document 01: "Going through the steps [the dictionary] changes only so"; "NEWs of a step precede its SEND in
-- the order of making"; "A party that is neither sender nor receiver does nothing." So a program is made of the party's knowledge
-- and of its own part in the steps, and of nothing else.
use Rattle.std.specs.Prelude.{ℕ, suc, ◌+◌, List, [], ◌∷◌, ◌++◌, map, length, eqb}
use Rattle.words.specs.Choice.{pick}
use Rattle.terms.specs.Term.{Term, Terms, count, listed}
use Rattle.translation.specs.Dictionary.{Dictionary, start}
use Rattle.translation.specs.Build.{AllBuilt, build_all}
use Rattle.translation.specs.Receive.{Event, Did, nothing, followed, receive_all}

pub record Step : Type 0 where
  pub sender : ℕ
  pub receiver : ℕ
  pub messages : Terms

-- a party's part in a step: the step's number and its messages
pub data Act : Type 0 where
  sends : ℕ → Terms → Act
  receives : ℕ → Terms → Act

-- the parts of party p in the steps, the first of which has the number i
unfoldable pub acts_of : ℕ → ℕ → List Step → List Act
acts_of p i [] = []
acts_of p i (s ∷ ss) =
    let rest = acts_of p (suc i) ss in
    pick (eqb s.sender p) (Act.sends i s.messages ∷ rest) (pick (eqb s.receiver p) (Act.receives i s.messages ∷ rest) rest)

-- ---- what an act adds, where n is the next placeholder
abbrev pub sent : ℕ → AllBuilt → Did
sent i b = record { dictionary = b.dictionary; given = []; events = map Event.new b.made ++ Event.sends i b.images ∷ []; stored = [] }

abbrev pub arrived : ℕ → Terms → Dictionary → ℕ → Did
arrived i ts δ n = record { dictionary = δ; given = listed ts; events = Event.receives i n (count ts) ∷ []; stored = [] }

unfoldable pub act : Act → Dictionary → ℕ → Did
act (Act.sends i ts) δ n = sent i (build_all i ts δ)
act (Act.receives i ts) δ n = followed (arrived i ts δ n) (receive_all i ts n δ (n + count ts))

unfoldable pub walk : List Act → Dictionary → ℕ → Did
walk [] δ n = nothing δ
walk (a ∷ acts) δ n = let d = act a δ n in followed d (walk acts d.dictionary (n + length d.given))

-- ---- the whole program of a party that knows some terms at the start
unfoldable pub walked : List Term → List Act → Did
walked known acts = walk acts (start known) 0

unfoldable pub program : List Term → List Act → List Event
program known acts = let d = walked known acts in d.events ++ Event.ends d.stored ∷ []
