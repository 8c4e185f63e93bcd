-- Answers as document 01 counts them: "The first that applies .. carries its number and a place." "On acceptance the answer is the
-- output's length." An answer is its number, 0 for acceptance, and its values; and so is every case of the enums that answer.
use Rattle.std.specs.Prelude.{ℕ, List, [], ◌∷◌, Result, Ok, Err}
use Rattle.book.specs.declared.Refusal.{Refusal}
use Rattle.book.specs.declared.Refusal.TheVariants.{Short, Count, Offset, Row, Size, Repeat, Party, Step, Sum, Taken, Move, Room, Summary, Question, Maker, Nobody, Large}
use Rattle.book.specs.declared.Told.{Told}
use Rattle.book.specs.declared.Told.TheVariants.{One, Two}
pub mod Laws

pub record Said : Type 0 where
  pub number : ℕ
  pub values : List ℕ

abbrev pub said : ℕ → List ℕ → Said
said n vs = record { number = n; values = vs }

abbrev pub accepted : Said
accepted = said 0 []

-- the paper's number and place of each refusal
abbrev pub refusal_says : Refusal → Said
refusal_says Short = said 1 (0 ∷ [])
refusal_says (Count w) = said 2 (w ∷ [])
refusal_says (Offset w) = said 3 (w ∷ [])
refusal_says (Row r) = said 4 (r ∷ [])
refusal_says (Size r) = said 5 (r ∷ [])
refusal_says (Repeat r) = said 6 (r ∷ [])
refusal_says (Party p) = said 7 (p ∷ [])
refusal_says (Step s) = said 8 (s ∷ [])
refusal_says Sum = said 9 (0 ∷ [])
refusal_says (Taken s r) = said 10 (s ∷ r ∷ [])
refusal_says (Move m) = said 11 (m ∷ [])
refusal_says (Room n) = said 12 (n ∷ [])
refusal_says (Summary n) = said 20 (n ∷ [])
refusal_says (Question n) = said 21 (n ∷ [])
refusal_says (Maker s r) = said 13 (s ∷ r ∷ [])
refusal_says (Nobody p) = said 22 (p ∷ [])
refusal_says (Large n) = said 24 (n ∷ [])

-- what is read of a book: acceptance, or why it is refused
abbrev pub Reading : Type 0
Reading = Result (Unit {0}) Refusal

abbrev pub reading_says : Reading → Said
reading_says (Ok u) = accepted
reading_says (Err f) = refusal_says f

-- a refusal as it is told
abbrev pub told_says : Told → Said
told_says (One n x) = said n (x ∷ [])
told_says (Two n x y) = said n (x ∷ y ∷ [])
