-- `calls::read_slice` meets its contract: the count and then the bytes came, and the slice is their front (`slice_behind`). Assumes
-- nothing.
use Rattle.std.proofs.Common.{rules}
use Rattle.std.proofs.KnownBytes.{Consumes-trans}
use Rattle.calls.specs.Request.Laws.{slice_behind}
use Rattle.calls.proofs.read_slice.Goals as goal

pub returns-clause-came : goal.returns-clause-came
returns-clause-came g c =
    let head = c.read_all.new.bytes in
    let filled = c.read_all-2.new.bytes in (
      _,
      slice_behind c.args.function c.slice_size-size.result head filled _ c.slice_size-size.ensures.0 (search rules) (search rules),
      Consumes-trans _ _ _ head filled c.in_ok-read_all.ensures c.in_ok-read_all-2.ensures,
    )
