-- `changed::leaf_end` meets its contract: by the change and the leaf. Assumes nothing.
use native.Mathlib.Omega.{arith}
use Rattle.changed.specs.Put.Laws.{bind-bound, bind-here, bind-name, put-name, put-here, put-bound, put-words, no-word}
use Rattle.changed.proofs.leaf_end.Goals as goal

pub returns-in_err-checked_add-in_default : goal.returns-in_err-checked_add-in_default
returns-in_err-checked_add-in_default c =
    rw (c.from_residual.ensures, bind-bound c.args.w.now _ _ c.in-Bind.is _ _ c.in_default.is-0.1)
    (no-word c.args.w.now _ _ _ (λ k. omega (arith, c.type_inv.w k)) c.in_err-checked_add-in_default.ensures)

pub returns-in-1-true : goal.returns-in-1-true
returns-in-1-true c = rw (bind-here c.args.w.now _ _ c.in-Bind.is _ _ c.in-1-true.is-0 c.in-1-true.is-1) c.words_end.ensures

pub returns-in-1-false : goal.returns-in-1-false
returns-in-1-false c = rw (bind-name c.args.w.now _ _ c.in-Bind.is _ _ c.in-1-false.is-0 c.in-1-false.is-1) c.words_end-in-1-false.ensures

pub returns-in_ok-checked_add-in_default : goal.returns-in_ok-checked_add-in_default
returns-in_ok-checked_add-in_default c =
    rw (bind-bound c.args.w.now _ _ c.in-Bind.is _ _ c.in_default.is-0.1, ← c.in_ok-checked_add-in_default.ensures.1)
    c.words_end-in_default.ensures

pub returns-in-1-default : goal.returns-in-1-default
returns-in-1-default c = rw (put-name c.args.w.now _ _ _ c.in-Put.is _ _ c.in-1-default.is-0) c.words_end-in-1-default.ensures

pub returns-in_default-eq0 : goal.returns-in_default-eq0
returns-in_default-eq0 c =
    rw (put-words c.args.w.now _ _ _ c.in-Put.is _ _ c.requires.2
    (put-here c.args.w.now _ _ _ c.in-Put.is _ _ c.in_default-eq0.is-0.1 c.in_default-eq0.is-1))
    c.words_end-in_default-eq0.ensures

pub returns-in_default-2 : goal.returns-in_default-2
returns-in_default-2 c = rw (put-bound c.args.w.now _ _ _ c.in-Put.is _ _ c.in_default-2.is-0.1 c.in_default-2.is-1.1) c.words_end-in_default-2.ensures
