-- `translator::write_listing` meets its contract: the number of parties, the heads and the programs, one after
-- another (`listing-wrote`). Assumes nothing.
use Prim.Native.Nat.{ℕ}
use native.Mathlib.Omega.{arith}
use Rattle.std.proofs.lemmas.List.{length-take}
use Rattle.translator.specs.Parts.Laws.{heads-there}
use Rattle.translator.proofs.Listing.{front_low, listing-wrote}
use Rattle.translator.proofs.write_listing.Goals as goal

pub slice_bounds-put_all-end : goal.slice_bounds-put_all-end
slice_bounds-put_all-end c = omega (arith, heads-there, length-take {A = ℕ})

-- in front of the programs there are few words
pub write_bodies-requires : goal.write_bodies-requires
write_bodies-requires c = let (writable, heads) = c.requires in (
  writable,
  front_low _ writable.valid c.parties-n.ensures c.wide.ensures.0
      heads c.put-first.ensures c.put_all-next.ensures,
)

pub returns : goal.returns
returns c = search listing-wrote
