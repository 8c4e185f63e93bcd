-- `changed::same_changed` meets its contract: the second's effects are compared as they are changed. Assumes nothing.
use Rattle.std.proofs.Common.{rules}
use Rattle.changed.specs.Put.{change_by}
use Rattle.changed.specs.Put.Types.{changed_own, Makes_changed}
use Rattle.typing.specs.Types.{change_type}
use Rattle.changed.proofs.same_changed.Goals as goal

pub returns : goal.returns
returns c =
    let ch = change_by c.args.w.now c.args.by in
    c.same_type_where.ensures (change_type ch) (changed_own ch) (Makes_changed ch c.args.w.now _ (λ a k end b l last r p q t. search rules))
