-- `changed::same_changed_term` meets its contract: what comes at i is what the terms still to come at j become.
-- Assumes nothing.
use Prim.Native.Nat.{◌-◌}
use lib.ListN.{length}
use Rattle.changed.specs.Put.{change_by}
use Rattle.changed.specs.Put.Laws.{Along}
use Rattle.changed.proofs.same_changed_term.Given as goal

abbrev pub invariant-loop-due : goal.invariant-loop-due
invariant-loop-due l = Along l.w (change_by l.w l.by) l.a l.b l.f l.i l.j l.due

abbrev pub decreases-loop-due : goal.decreases-loop-due
decreases-loop-due l = length l.w - l.j
