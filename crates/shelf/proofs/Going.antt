-- What `run` knows in its loop. Assumes nothing.
use Rattle.std.specs.Prelude.{ℕ, suc, ◌+◌, ◌-◌, ◌<◌, ◌≤◌, ◌≡◌, Bool, true, false, ◌&&◌, Option, None, Some, IfSome, Result, Ok, Err, is_ok, List, [], ◌++◌, length}
use Rattle.std.proofs.Common.{arith, sym, ap, ap₂, ◌∙◌, subst, append-nil, append_assoc}
use Rattle.std.proofs.KnownBytes.{Appends-trans}
use Rattle.std.specs.Io.KnownBytes.{Appends, Consumes}
use Rattle.book.specs.Layout.{loaded_bytes}
use Rattle.input.specs.declared.Failed.{Failed}
use Rattle.line.specs.Line.{Printed}
use Rattle.shelf.specs.Lines.{bytes_lines}
use Rattle.shelf.specs.Shelf.{has_book, shelf_lines, Counted, Ran}
use Rattle.shelf.specs.Shelf.Laws.{lines-counted, lines_none}

-- where so far no read and no write failed, the lines of k books were printed, and the others stand behind them
abbrev pub Going : Bool → ℕ → Option (List ℕ) → Option (List ℕ) → Option (List ℕ) → Option (List ℕ) → Type 0
Going false k left rest old out = Unit {0}
Going true k None rest old out = Unit {0}
Going true k (Some bs) None old out = ⊥
Going true k (Some bs) (Some rest) old out =
    (done : List ℕ) × Appends old out done × (shelf_lines 65536 bs ≡ done ++ shelf_lines (65536 - k) rest)

-- a book more
pub going-more : (all : Bool) (printed : Result (Unit {0}) Failed) (k : ℕ) (left rest new old out next : Option (List ℕ)) (head book line : List ℕ) → k < 65536
    → Going all k left rest old out → Counted head book → length book ≤ loaded_bytes → Consumes rest new (head ++ book)
    → line ≡ bytes_lines book → Printed printed out next line → Going (all && is_ok printed) (k + 1) left new old next
going-more false printed k left rest new old out next head book line h going counted most came e p = tt
going-more true (Err f) k left rest new old out next head book line h going counted most came e p = tt
going-more true (Ok u) k None rest new old out next head book line h going counted most came e p = tt
going-more true (Ok u) k (Some bs) None new old out next head book line h going counted most came e p = absurd going
going-more true (Ok u) k (Some bs) (Some rest) None old out next head book line h going counted most came e p = absurd came
going-more true (Ok u) k (Some bs) (Some rest) (Some new) old out next head book line h going counted most came e p =
    let less : 65536 - k ≡ suc (65536 - (k + 1)) = omega arith in
    let front : rest ≡ head ++ (book ++ new) = came ∙ append_assoc head book new in
    let lines : shelf_lines (65536 - k) rest ≡ line ++ shelf_lines (65536 - (k + 1)) new =
    ap₂ shelf_lines less front ∙ lines-counted head book new counted (65536 - (k + 1)) most
    ∙ ap (λ l. l ++ shelf_lines (65536 - (k + 1)) new) (sym e) in (
      going.0 ++ line,
      Appends-trans _ _ _ _ _ going.1 p,
      going.2 ∙ ap (λ l. going.0 ++ l) lines ∙ sym (append_assoc going.0 line _),
    )

-- the last one
ran-done : (bs done behind : List ℕ) (old out : Option (List ℕ)) → Appends old out done → shelf_lines 65536 bs ≡ done ++ behind → behind ≡ []
    → Appends old out (shelf_lines 65536 bs)
ran-done bs done behind old out p e none = subst (Appends old out) (sym (e ∙ ap (λ l. done ++ l) none ∙ append-nil done)) p

pub ran-all : (all : Bool) (k : ℕ) (left rest old out : Option (List ℕ)) → 65536 ≤ k → Going all k left rest old out → Ran all left old out
unfolding shelf_lines
ran-all false k left rest old out h going = tt
ran-all true k None rest old out h going = tt
ran-all true k (Some bs) None old out h going = absurd going
ran-all true k (Some bs) (Some rest) old out h going =
    let none : 65536 - k ≡ 0 = omega arith in
    ran-done bs _ _ old out going.1 going.2 (ap (λ n. shelf_lines n rest) none)

pub ran_none : (all : Bool) (k : ℕ) (left rest old out : Option (List ℕ)) → IfSome rest (λ bs. has_book bs ≡ false) → Going all k left rest old out
    → Ran all left old out
ran_none false k left rest old out none going = tt
ran_none true k None rest old out none going = tt
ran_none true k (Some bs) None old out none going = absurd going
ran_none true k (Some bs) (Some rest) old out none going = ran-done bs _ _ old out going.1 going.2 (lines_none (65536 - k) rest none)
