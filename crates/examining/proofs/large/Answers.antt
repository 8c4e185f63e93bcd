-- `examining::large` meets its contract: the lines' own words are loaded, and are enough (`large-front`). Assumes nothing.
use Prim.Native.Nat.{◌≤◌}
use mathlib.Core.Path.{refl}
use native.Mathlib.Omega.{arith}
use lib.ListN.{length-take}
use Rattle.octets.specs.Octets.Laws.{loaded-many}
use Rattle.examining.specs.Checked.Laws.{large-loaded}
use Rattle.examining.proofs.large.Goals as goal
use Rattle.examining.proofs.large.Goals.{After-load-n}

-- what was loaded has room
few : (c : After-load-n) → c.load-n.result ≤ 9217
few c = loaded-many c.args.derivation.now refl c.load-n.ensures

pub slice_bounds-words-end : goal.slice_bounds-words-end
slice_bounds-words-end c = omega (arith, few (goal.at.slice_bounds-words-end c).After-load-n)

pub slice_bounds-too_large-end : goal.slice_bounds-too_large-end
slice_bounds-too_large-end c = simp length-take (omega (arith, few (goal.at.slice_bounds-too_large-end c).After-load-n))

pub returns : goal.returns
returns c = large-loaded c.args.derivation.now refl c.load-n.ensures c.too_large.ensures
