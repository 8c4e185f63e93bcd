-- `telling::ask_words` meets its contract: what is asked are all the words that the bytes make (`loaded-words`). Assumes
-- nothing.
use Prim.Native.Nat.{◌≤◌}
use mathlib.Core.Path.{refl, ◌∙◌, ap}
use native.Mathlib.Omega.{arith}
use lib.ListN.{length-take}
use Rattle.octets.specs.Octets.Laws.{loaded-many}
use Rattle.summary.specs.Summary.{asked}
use Rattle.telling.specs.Loaded.{loaded-words}
use Rattle.telling.proofs.ask_words.Goals as goal
use Rattle.telling.proofs.ask_words.Goals.{After-load-n}

-- what was loaded has room
few : (c : After-load-n) → c.load-n.result ≤ 16384
few c = loaded-many c.args.summary.now refl c.load-n.ensures

pub slice_bounds-words-end : goal.slice_bounds-words-end
slice_bounds-words-end c = omega (arith, few (goal.at.slice_bounds-words-end c).After-load-n)

pub slice_bounds-ask-end : goal.slice_bounds-ask-end
slice_bounds-ask-end c = simp length-take (omega (arith, few (goal.at.slice_bounds-ask-end c).After-load-n))

pub returns : goal.returns
returns c = let args = c.args in
    let all = loaded-words args.summary.now refl c.load-n.ensures c.requires in
    c.ask.ensures ∙ ap (λ ws. asked ws args.party args.row args.step) all
