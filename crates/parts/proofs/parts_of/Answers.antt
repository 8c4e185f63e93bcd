-- `parts::parts_of` meets its contract: the parts are there, one behind another. Assumes nothing.
use borrow.Author.Rules.{rules}
use native.Mathlib.Omega.{arith}
use Rattle.spans.specs.Behind.Laws.{ends_at}
use Rattle.parts.specs.Place.Laws.{spelled-word, found-names, found-terms-some, found-types-some, places-no-list, found-list-some, places-list}
use Rattle.parts.proofs.parts_of.Goals as goal

pub offset_bounds-w-i : goal.offset_bounds-w-i
offset_bounds-w-i c = let l = spelled-word _ _ c.requires in search rules

pub bounds-w-i : goal.bounds-w-i
bounds-w-i c = omega (arith, spelled-word)

pub overflow_add-terms : goal.overflow_add-terms
overflow_add-terms c = omega (arith, spelled-word)

pub overflow_add-terms-2 : goal.overflow_add-terms-2
overflow_add-terms-2 c = omega (arith, spelled-word)

pub several_end-requires : goal.several_end-requires
several_end-requires c = found-names _ _ c.requires _ _ _ c.counts_of-counts.ensures

pub unwrap-types-requires : goal.unwrap-types-requires
unwrap-types-requires c = found-terms-some _ _ c.requires _ _ _ c.counts_of-counts.ensures _ c.several_end.ensures

pub unwrap-list-requires : goal.unwrap-list-requires
unwrap-list-requires c =
    let types = ends_at _ _ _ _ _ c.several_end.ensures c.unwrap-types.ensures in
    found-types-some _ _ c.requires _ _ _ c.counts_of-counts.ensures _ types _ c.several_end-2.ensures

pub unwrap-next-requires : goal.unwrap-next-requires
unwrap-next-requires c =
    let types = ends_at _ _ _ _ _ c.several_end.ensures c.unwrap-types.ensures in
    let list = ends_at _ _ _ _ _ c.several_end-2.ensures c.unwrap-list.ensures in
    found-list-some _ _ c.requires _ _ _ c.counts_of-counts.ensures _ types _ list c.if-c-eq11.true _ c.list_end.ensures

pub returns-then-c-eq11 : goal.returns-then-c-eq11
returns-then-c-eq11 c =
    let types = ends_at _ _ _ _ _ c.several_end.ensures c.unwrap-types.ensures in
    let list = ends_at _ _ _ _ _ c.several_end-2.ensures c.unwrap-list.ensures in
    let next = ends_at _ _ _ _ _ c.list_end.ensures c.unwrap-next.ensures in
    places-list _ _ c.requires _ _ _ c.counts_of-counts.ensures _ types _ list c.if-c-eq11.true _ next

pub returns-else-c-eq11 : goal.returns-else-c-eq11
returns-else-c-eq11 c =
    let types = ends_at _ _ _ _ _ c.several_end.ensures c.unwrap-types.ensures in
    let list = ends_at _ _ _ _ _ c.several_end-2.ensures c.unwrap-list.ensures in
    places-no-list _ _ c.requires _ _ _ c.counts_of-counts.ensures _ types _ list c.if-c-eq11.false
