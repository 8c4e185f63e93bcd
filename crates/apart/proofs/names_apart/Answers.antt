-- `apart::names_apart` meets its contract: each of the names is asked for. Assumes nothing.
use Rattle.std.proofs.Common.{rules, tests, ◌+◌, take, drop, get_or}
use Rattle.std.proofs.lemmas.Iterator.{YieldsList-from_slice}
use Rattle.std.proofs.lemmas.Iterator.Search.{all_from_yields_List}
use Rattle.typing.specs.Reading.{environment_at}
use Rattle.apart.specs.Bound.{process_names, names_in, binders_at, name_apart}
use Rattle.apart.specs.Bound.Asked.{each_apart}
use Rattle.apart.proofs.names_apart.Goals as goal

pub returns : goal.returns
returns c =
    each_apart _ _ _ _
    (all_from_yields_List (λ x. name_apart (names_in (environment_at c.args.w.now)) (binders_at c.args.w.now c.args.p) x) _ _ _ c.all.ensures.ran
    (YieldsList-from_slice (take (process_names (get_or c.args.w.now c.args.i 0)) (drop (c.args.i + 1) c.args.w.now)) (cc)) (λ x r q k. search (rules, tests)))
