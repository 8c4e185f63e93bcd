-- Laws of what code leaves behind that does a party's doing: nothing, and one doing after another. Assumes nothing.
use Rattle.std.specs.Prelude.{ℕ, List, [], ◌≡◌, refl, length}
use Rattle.std.proofs.Common.{arith, length-append}
use Rattle.words.specs.Overlay.{forward}
use Rattle.words.specs.Overlay.Laws.{wrote_then, wrote_none, wrote_as, wrote-counted}
use Rattle.translation.specs.Receive.{Did, nothing, followed}
use Rattle.translation.specs.Listing.{program_words, triple_words}
use Rattle.translation.proofs.Listing.Laws.{program-append, triples-append}
use Rattle.holding.specs.View.{row_of, view}
use Rattle.holding.specs.Doing.{Doing}

-- the doing may be named otherwise
pub doing-as : {b : List ℕ} {d e : Did} {n k : ℕ} {l m : List ℕ} {a : ℕ} {o s x : List ℕ} {next kept place : ℕ}
    → Doing b d n k l m a o s x next kept place → e ≡ d → Doing b e n k l m a o s x next kept place
doing-as f e = rw e f

pub doing-none : {b : List ℕ} {n k : ℕ} {l : List ℕ} {a : ℕ} {o x : List ℕ} → Doing b (nothing (view b x)) n k l l a o o x n k a
unfolding program_words triple_words
doing-none = record { holds = refl; goes = omega arith; wrote = wrote_none; keeps = wrote_none }

-- a doing whose words went to a buffer, as one whose words are counted from another place on
pub doing-counted : {b : List ℕ} {d : Did} {n k : ℕ} {l m : List ℕ} {a : ℕ} {o s x : List ℕ} {i j q : ℕ}
    → Doing b d n k l m a o s x i j q → (c : ℕ) → Doing b d n k l m c [] [] x i j (forward c (length (program_words (row_of b) d.events)))
doing-counted f c = record { holds = f.holds; goes = f.goes; wrote = wrote-counted _ c; keeps = f.keeps }

-- one after another
pub doing-then : (b : List ℕ) (d e : Did) {n k : ℕ} {l m z : List ℕ} {a : ℕ} {o s t x y : List ℕ} {i j q i' j' q' : ℕ}
    → Doing b d n k l m a o s x i j q → Doing b e i j m z q s t y i' j' q' → Doing b (followed d e) n k l z a o t y i' j' q'
doing-then b d e f g =
    record {
      holds = g.holds;
      goes = let u = f.goes in let v = g.goes in let w = length-append d.given e.given in omega arith;
      wrote = wrote_as (wrote_then f.wrote g.wrote) (program-append (row_of b) d.events e.events);
      keeps = wrote_as (wrote_then f.keeps g.keeps) (triples-append (row_of b) d.stored e.stored);
    }
