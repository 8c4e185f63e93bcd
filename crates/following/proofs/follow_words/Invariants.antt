-- `following::follow_words` meets its contract: ours are compared up to a word (`UpTo`), and each turn goes a word on.
-- Assumes nothing.
use Rattle.naming.specs.Mirror.{theirs}
use Rattle.following.specs.Agreeing.{UpTo}
use Rattle.following.proofs.follow_words.Given as goal

abbrev pub invariant-loop-k : goal.invariant-loop-k
invariant-loop-k l = UpTo (theirs l.words l.bytes) l.ours l.place l.k l.at l.mode l.begin l.filled l.table l.log l.n l.called l.all
