-- `naming::keep_names` meets its contract: the names of the first triples are written, and each turn writes the next.
-- Assumes nothing.
use Prim.Native.Nat.{◌-◌}
use Rattle.words.specs.Overlay.{Wrote}
use Rattle.naming.specs.Called.{recent_names}
use Rattle.naming.proofs.keep_names.Given as goal

abbrev pub invariant-loop-k : goal.invariant-loop-k
invariant-loop-k l = Wrote (recent_names l.log l.begin l.table l.first (l.k - l.first)) l.initial.called l.first l.called l.next
