-- `pieces::pieces_of` meets its contract: the pieces stand where the parts do. Assumes nothing.
use Rattle.std.proofs.Common.{arith}
use Rattle.pieces.specs.Piece.Laws.{process-inside, process-spelled, found_at, pieced, cast-inside}
use Rattle.pieces.proofs.pieces_of.Goals as goal

pub parts_of-parts-requires : goal.parts_of-parts-requires
parts_of-parts-requires c = process-spelled _ _ c.requires

pub bounds-w-s : goal.bounds-w-s
bounds-w-s c = process-inside _ _ c.requires

pub bounds-w-parts : goal.bounds-w-parts
bounds-w-parts c = cast-inside _ _ _ c.parts_of-parts.ensures c.if-w-s-eq11.true

pub returns : goal.returns
returns c = pieced _ _ c.requires _ c.parts_of-parts.ensures _ _ _
    (λ t. found_at _ _ _ _ _ _ _ c.term_end.ensures c.unwrap_or-n.ensures t.reads)
    (λ t. found_at _ _ _ _ _ _ _ c.type_end.ensures c.unwrap_or-u.ensures t.reads)
    (λ e. grind arith)
