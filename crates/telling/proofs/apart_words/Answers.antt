-- `telling::apart_words` meets its contract: what is asked are all the words that the bytes make (`loaded-words`). Assumes
-- nothing.
use Rattle.std.specs.Prelude.{◌≡◌, Bool, true, false, Ok}
use Prim.Native.Nat.{◌≤◌}
use mathlib.Core.Path.{refl, sym, ap, ◌∙◌}
use native.Mathlib.Omega.{arith}
use lib.Seq.{length-take-le}
use Rattle.octets.specs.Octets.Laws.{loaded-many}
use Rattle.typing.specs.Apart.{keeps_apart}
use Rattle.examining.specs.Checked.{apart_said}
use Rattle.summary.specs.Reply.{reply_says}
use Rattle.words.specs.Choice.{pick}
use Rattle.telling.specs.Loaded.{loaded-words}
use Rattle.telling.proofs.apart_words.Goals as goal
use Rattle.telling.proofs.apart_words.Goals.{After-load-n}

-- what was loaded has room
few : (c : After-load-n) → c.load-n.result ≤ 16384
few c = loaded-many _ refl c.load-n.ensures

pub slice_bounds-a-end : goal.slice_bounds-a-end
slice_bounds-a-end c = omega (arith, few (goal.at.slice_bounds-a-end c).After-load-n)

pub slice_bounds-keeps_apart-end : goal.slice_bounds-keeps_apart-end
slice_bounds-keeps_apart-end c = sym (length-take-le _ _ (omega (arith, few (goal.at.slice_bounds-keeps_apart-end c).After-load-n)))

-- what is replied, either way
said_of : (t : Bool) → reply_says (Ok t) ≡ apart_said t
unfolding pick
said_of true = refl
said_of false = refl

pub returns : goal.returns
returns c =
    let all = loaded-words c.args.asked.now refl c.load-n.ensures c.requires in
    said_of c.keeps_apart.result ∙ ap apart_said (c.keeps_apart.ensures ∙ ap keeps_apart all)
