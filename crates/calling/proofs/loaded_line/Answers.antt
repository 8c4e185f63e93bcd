-- `calling::loaded_line` meets its contract: what is called are the words that the bytes of each slice make, all of
-- them (`loaded-words`). Assumes nothing.
use Prim.Native.Nat.{◌≤◌}
use mathlib.Core.Path.{refl, sym, ◌∙◌}
use native.Mathlib.Omega.{arith}
use lib.Seq.{length-take-le}
use Rattle.octets.specs.Octets.Laws.{loaded-many}
use Rattle.telling.specs.Loaded.{loaded-words}
use Rattle.calling.specs.Call.Laws.{front-few, words-loaded}
use Rattle.calling.proofs.loaded_line.Goals as goal
use Rattle.calling.proofs.loaded_line.Goals.{After-load-l, After-load-m, After-load-n}

-- what was loaded has room: of the first slice,
first-few : (c : After-load-l) → c.load-l.result ≤ 16384
first-few c = loaded-many _ refl c.load-l.ensures

-- of the second,
second-few : (c : After-load-m) → c.load-m.result ≤ 16384
second-few c = loaded-many _ refl c.load-m.ensures

-- and of the third
third-few : (c : After-load-n) → c.load-n.result ≤ 16384
third-few c = loaded-many _ refl c.load-n.ensures

pub slice_bounds-a-end : goal.slice_bounds-a-end
slice_bounds-a-end c = omega (arith, first-few (goal.at.slice_bounds-a-end c).After-load-l)

pub slice_bounds-words_line-end : goal.slice_bounds-words_line-end
slice_bounds-words_line-end c = sym (length-take-le _ _ (omega (arith, first-few (goal.at.slice_bounds-words_line-end c).After-load-l)))

pub slice_bounds-b-end : goal.slice_bounds-b-end
slice_bounds-b-end c = omega (arith, second-few (goal.at.slice_bounds-b-end c).After-load-m)

pub slice_bounds-words_line-end-2 : goal.slice_bounds-words_line-end-2
slice_bounds-words_line-end-2 c = sym (length-take-le _ _ (omega (arith, second-few (goal.at.slice_bounds-words_line-end-2 c).After-load-m)))

pub slice_bounds-c-end : goal.slice_bounds-c-end
slice_bounds-c-end c = omega (arith, third-few (goal.at.slice_bounds-c-end c).After-load-n)

pub slice_bounds-words_line-end-3 : goal.slice_bounds-words_line-end-3
slice_bounds-words_line-end-3 c = sym (length-take-le _ _ (omega (arith, third-few (goal.at.slice_bounds-words_line-end-3 c).After-load-n)))

pub words_line-requires : goal.words_line-requires
words_line-requires c = let (known, _, _, _, room) = c.requires in (
  known,
  front-few _ _ (second-few (goal.at.words_line-requires c).After-load-m),
  front-few _ _ (third-few (goal.at.words_line-requires c).After-load-n),
  room,
)

-- each slice's words are those of its own bytes
pub returns-clause-line_after : goal.returns-clause-line_after
returns-clause-line_after c = let args = c.args in
    let (_, few, few2, few3, _) = c.requires in
    let a = loaded-words _ refl c.load-l.ensures few in
    let b = loaded-words _ refl c.load-m.ensures few2 in
    let d = loaded-words _ refl c.load-n.ensures few3 in
    let all = words-loaded args.function args.first.now args.second.now args.third.now in
    c.words_line.ensures.line_after ∙ all a b d
