-- `telling::check_words` meets its contract: what is checked are all the words that the bytes of both make
-- (`loaded-words`). Assumes nothing.
use Prim.Native.Nat.{◌≤◌}
use mathlib.Core.Path.{refl, sym, ◌∙◌}
use native.Mathlib.Omega.{arith}
use lib.Seq.{length-take-le}
use Rattle.octets.specs.Octets.Laws.{loaded-many}
use Rattle.examining.specs.Checked.Laws.{finding-said}
use Rattle.telling.specs.Loaded.{loaded-words, checks-loaded}
use Rattle.telling.proofs.check_words.Goals as goal
use Rattle.telling.proofs.check_words.Goals.{After-load-m, After-load-n}

-- what was loaded has room: of what is asked,
asked-few : (c : After-load-m) → c.load-m.result ≤ 16384
asked-few c = loaded-many _ refl c.load-m.ensures

-- and of the derivation
derivation-few : (c : After-load-n) → c.load-n.result ≤ 16384
derivation-few c = loaded-many _ refl c.load-n.ensures

pub slice_bounds-a-end : goal.slice_bounds-a-end
slice_bounds-a-end c = omega (arith, asked-few (goal.at.slice_bounds-a-end c).After-load-m)

pub slice_bounds-d-end : goal.slice_bounds-d-end
slice_bounds-d-end c = omega (arith, derivation-few (goal.at.slice_bounds-d-end c).After-load-n)

pub slice_bounds-check-end : goal.slice_bounds-check-end
slice_bounds-check-end c = sym (length-take-le _ _ (omega (arith, asked-few (goal.at.slice_bounds-check-end c).After-load-m)))

pub slice_bounds-check-end-2 : goal.slice_bounds-check-end-2
slice_bounds-check-end-2 c = sym (length-take-le _ _ (omega (arith, derivation-few (goal.at.slice_bounds-check-end-2 c).After-load-n)))

pub returns : goal.returns
returns c = let args = c.args in
    let a = loaded-words args.asked.now refl c.load-m.ensures c.requires.0 in
    let b = loaded-words args.derivation.now refl c.load-n.ensures c.requires.1 in
    finding-said _ _ c.check.ensures ∙ checks-loaded args.asked.now args.derivation.now a b
