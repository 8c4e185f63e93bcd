-- `parts::counts_of` meets its contract, word by word of the table. Assumes nothing.
use native.Mathlib.Omega.{arith}
use Rattle.parts.specs.Own.Laws.{counted-new, counted-out, counted-inp, counted-split, counted-match, counted-begin, counted-cast, counted-check, counted_none}
use Rattle.parts.proofs.counts_of.Goals as goal

pub returns-in-1 : goal.returns-in-1
returns-in-1 c = counted-new _ c.in-1.is

pub returns-in-2 : goal.returns-in-2
returns-in-2 c = counted-out _ c.in-2.is

pub returns-in-3 : goal.returns-in-3
returns-in-3 c = counted-inp _ c.in-3.is

pub returns-in-6 : goal.returns-in-6
returns-in-6 c = counted-split _ c.in-6.is

pub returns-in-11 : goal.returns-in-11
returns-in-11 c = counted-cast _ c.in-11.is

pub returns-in-7 : goal.returns-in-7
returns-in-7 c = counted-match _ (omega arith) (omega arith)

pub returns-in-9 : goal.returns-in-9
returns-in-9 c = counted-begin _ (omega arith) (omega arith)

pub returns-in-12 : goal.returns-in-12
returns-in-12 c = counted-check _ c.in-12.is

pub returns-in_default : goal.returns-in_default
returns-in_default c = counted_none _ (λ l m. omega arith) (λ l m. omega arith)

pub returns-in_default-2 : goal.returns-in_default-2
returns-in_default-2 c = counted_none _ (λ l m. omega arith) (λ l m. omega arith)
