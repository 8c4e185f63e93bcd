-- `following::follow_step` meets its contract: the step's words agree, and what they call what it stored is kept
-- (`stepped-on`), or they don't
-- (`stepped-broken`). Assumes nothing.
use Rattle.std.proofs.lemmas.Result.{err_from_is_err_and}
use Rattle.following.specs.Stepping.Step.{stepped-ready, stepped-few, stepped-sized, stepped-compare, stepped-broken, stepped-keep, stepped-on}
use Rattle.following.proofs.follow_step.Goals as goal

-- what was done so far leaves room for the step
pub act-acted-requires : goal.act-acted-requires
act-acted-requires c = stepped-ready c.requires.0 c.requires.2 c.requires.1

-- the step's words are in front of the buffer
pub slice_bounds-follow_words-end : goal.slice_bounds-follow_words-end
slice_bounds-follow_words-end c = stepped-few c.requires.0 c.requires.2 c.act-acted.ensures

pub slice_bounds-follow_words-end-2 : goal.slice_bounds-follow_words-end-2
slice_bounds-follow_words-end-2 c = stepped-sized c.requires.0 c.requires.2 c.act-acted.ensures

-- its words can be compared
pub follow_words-requires : goal.follow_words-requires
follow_words-requires c = stepped-compare c.requires.0 c.requires.2 c.act-acted.ensures

-- they don't agree
pub returns-in_err-far : goal.returns-in_err-far
returns-in_err-far c =
    let p = err_from_is_err_and c.from_residual.result c.from_residual.ensures.1 in
    rw (p.1, p.2) (stepped-broken c.requires.0 c.requires.2 c.act-acted.ensures c.in_err-far.ensures)

-- there is room for the names of what is stored
pub keep_names-requires : goal.keep_names-requires
keep_names-requires c = stepped-keep c.requires.0 c.requires.2 c.act-acted.ensures c.in_ok-far.ensures

-- they agree
pub returns : goal.returns
returns c = stepped-on c.requires.0 c.requires.2 c.act-acted.ensures c.in_ok-far.ensures c.keep_names.ensures
