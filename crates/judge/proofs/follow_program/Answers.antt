-- `judge::follow_program` meets its contract: the steps don't all agree, or END is compared behind them. Assumes
-- nothing.
use Rattle.std.proofs.Common.{sym, length-take-le}
use Rattle.std.proofs.lemmas.Result.{err_from_is_err_and}
use Rattle.judge.specs.Program.End.{program-broken, end_kept, end-narrow, end-few, end-sized, end-compare, end-followed}
use Rattle.judge.proofs.follow_program.Goals as goal

-- not all steps agree
pub returns-in_err-reached : goal.returns-in_err-reached
returns-in_err-reached c =
    let p = err_from_is_err_and c.from_residual.result c.from_residual.ensures.1 in
    rw (p.1, p.2) (program-broken c.requires.0.party c.in_err-reached.ensures.0)

pub narrow-requires : goal.narrow-requires
narrow-requires c = end-narrow c.requires.0.valid c.requires.0.party c.in_ok-reached.ensures.0 c.in_ok-reached.ensures.1

pub slice_bounds-put_all-end : goal.slice_bounds-put_all-end
slice_bounds-put_all-end c = end_kept c.requires.0.valid c.requires.0.party c.in_ok-reached.ensures.0 c.in_ok-reached.ensures.1

pub slice_bounds-put_all-end-2 : goal.slice_bounds-put_all-end-2
slice_bounds-put_all-end-2 c =
    sym (length-take-le _ c.follow_steps.new.log (end_kept c.requires.0.valid c.requires.0.party c.in_ok-reached.ensures.0 c.in_ok-reached.ensures.1))

pub slice_bounds-follow_words-end : goal.slice_bounds-follow_words-end
slice_bounds-follow_words-end c =
    end-few c.requires.0.valid c.requires.0.party c.in_ok-reached.ensures.0 c.in_ok-reached.ensures.1 c.narrow.ensures
    c.put_each-triples.ensures c.put_all-end.ensures

pub slice_bounds-follow_words-end-2 : goal.slice_bounds-follow_words-end-2
slice_bounds-follow_words-end-2 c =
    end-sized c.requires.0.valid c.requires.0.party c.in_ok-reached.ensures.0 c.in_ok-reached.ensures.1 c.narrow.ensures
    c.put_each-triples.ensures c.put_all-end.ensures

-- END can be compared
pub follow_words-requires : goal.follow_words-requires
follow_words-requires c =
    end-compare c.requires.0.valid c.requires.0.party c.in_ok-reached.ensures.0 c.in_ok-reached.ensures.1 c.narrow.ensures
    c.put_each-triples.ensures c.put_all-end.ensures

-- END is compared
pub returns : goal.returns
returns c =
    end-followed c.requires.0.valid c.requires.0.party c.in_ok-reached.ensures.0 c.in_ok-reached.ensures.1 c.narrow.ensures
    c.put_each-triples.ensures c.put_all-end.ensures c.follow_words.ensures
