-- `input::fill` meets its contract: what a read brought stands behind what came before it (`came-more`), and both together are what
-- the reader gave. Assumes nothing.
use Rattle.std.proofs.Common.{◌≡◌, ℕ, ◌+◌, ◌-◌, ◌≤◌, List, ◌++◌, rules, length, take, sym, ap, ◌∙◌, subst, length-take-le}
use Rattle.std.proofs.lemmas.List.{take-append-le}
use Rattle.std.specs.Io.KnownBytes.{Consumes}
use Rattle.std.proofs.KnownBytes.{Consumes-trans}
use borrow.Rule.Slice.PartMut.{put_mid, post_of}
use lib.Seq.{take-append-add}
use Rattle.input.proofs.fill.Goals as goal

-- n bytes more, that were put behind the first at
came-more : (at room n : ℕ) (old part : List ℕ) → at ≤ length old → n ≤ length part
    → take (at + n) (put_mid at room old part) ≡ take at old ++ take n part
came-more at room n old part within fits =
    let rest = post_of at room old in
    rw (length-take-le at old within) at (take-append-add (take at old) (part ++ rest) n)
    ∙ ap (λ l. take at old ++ l) (take-append-le n part rest fits)

pub loop-n-preserved : goal.loop-n-preserved
loop-n-preserved g c =
    let more = came-more c.loop-n.n (length c.loop-n.bytes - c.loop-n.n) c.in-Ok.more c.loop-n.bytes c.read.new.buf c.loop-n.invariant.0 c.in-Ok.ensures.bound.0 in (
      search rules,
      search rules,
      subst (Consumes _ _) (sym more) (Consumes-trans _ _ _ _ _ c.loop-n.invariant.2 c.in-Ok.ensures.bytes.0),
    )
