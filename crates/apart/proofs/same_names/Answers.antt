-- `apart::same_names` meets its contract: the names that are x are counted. Assumes nothing.
use Rattle.std.proofs.Common.{rules, ◌≡◌, ◌==◌, ◌+◌, take, drop, get_or}
use Rattle.std.specs.List.{count_by}
use Rattle.apart.specs.Bound.{process_names}
use Rattle.apart.specs.Bound.Asked.{count-few}
use Rattle.apart.proofs.same_names.Goals as goal

pub returns : goal.returns
returns c =
    let m : c.count.result ≡ count_by (λ y. y == c.args.x) (take (process_names (get_or c.args.w.now c.args.i 0)) (drop (c.args.i + 1) c.args.w.now)) = search rules in
    count-few c.args.w.now c.args.i _ _ m
