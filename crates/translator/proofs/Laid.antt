-- What `write_bodies` knows in its loop over the parties: the programs so far. Assumes nothing.
use Prim.Native.Nat.{ℕ, ◌+◌, ◌≤◌, ◌<◌}
use mathlib.Core.List.{List}
use mathlib.Core.Path.{◌≡◌}
use native.Mathlib.Omega.{arith}
use Rattle.words.specs.Overlay.{cap, Wrote}
use Rattle.words.specs.Overlay.Laws.{wrote_then, wrote_none, wrote_as}
use Rattle.words.specs.Run.{values}
use Rattle.book.specs.Layout.{parties}
use Rattle.book.specs.Valid.{Valid}
use Rattle.book.specs.Headed.Laws.{few-parties}
use Rattle.translation.specs.Listing.{bodies, part_words}
use Rattle.translation.specs.Long.{most_part, most_listing}
use Rattle.translation.proofs.Long.Laws.{bodies-short}
use Rattle.translator.specs.Parts.{programs_to, bodies_of}
use Rattle.translator.specs.Parts.Laws.{bodies-more}

-- those of the first q parties
pub record Laid (b : List ℕ) (q : ℕ) (old : List ℕ) (at : ℕ) (new : List ℕ) (next : ℕ) : Type 0 where
  pub wrote : Wrote (bodies (programs_to b q)) old at new next

pub bodies-start : {b : List ℕ} {old : List ℕ} {at : ℕ} → Laid b 0 old at old at
unfolding values bodies
bodies-start = record { wrote = wrote_none }

-- the next program is so low that it is counted
pub bodies-low : {b : List ℕ} {q : ℕ} {old new : List ℕ} {at next : ℕ} → Valid b → q < parties b → at ≤ most_listing
    → Laid b q old at new next → next + most_part ≤ cap
bodies-low {b} {q = q} v l low h =
    let short = bodies-short b v q (omega arith) in
    let few = few-parties b v in
    let next = h.wrote.next in
    omega arith

-- one party's program more
pub bodies-on : {b : List ℕ} {q : ℕ} {old new later : List ℕ} {at next r : ℕ} → Laid b q old at new next
    → Wrote (part_words b q) new next later r → Laid b (q + 1) old at later r
bodies-on {b} {q = q} h w = record { wrote = wrote_as (wrote_then h.wrote w) (bodies-more b q) }
