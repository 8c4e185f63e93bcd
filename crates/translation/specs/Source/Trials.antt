-- How each row is known, computed from the definitions: a book, a party, and the source of each row. Assumes nothing.
use Rattle.std.specs.Prelude.{ℕ, List, [], ◌∷◌, ◌≡◌, refl}
use Rattle.words.specs.Run.{values}
use Rattle.book.specs.Layout.{rows}
use Rattle.translation.specs.Dictionary.{Held}
use Rattle.translation.specs.Source.{source_of}
use Rattle.translation.specs.Trials.{computed}

pub record Known : Type 0 where
  pub book : List ℕ
  pub party : ℕ
  pub wanted : List Held

abbrev known : List ℕ → ℕ → List Held → Known
known b p hs = record { book = b; party = p; wanted = hs }

unfoldable example : List ℕ
example =
    5 ∷ 8 ∷ 2 ∷ 28 ∷ 2 ∷ 36 ∷ 11 ∷ 44 ∷ 0 ∷ 0 ∷ 0 ∷ 0 ∷ 0 ∷ 0 ∷ 0 ∷ 0 ∷ 0 ∷ 0 ∷ 0 ∷ 0 ∷ 0 ∷ 0 ∷ 0
    ∷ 0 ∷ 2 ∷ 0 ∷ 0 ∷ 3 ∷ 0 ∷ 3 ∷ 3 ∷ 1 ∷ 1 ∷ 6 ∷ 3 ∷ 1 ∷ 1 ∷ 0 ∷ 9 ∷ 1 ∷ 0 ∷ 1 ∷ 10 ∷ 1 ∷ 2 ∷ 3 ∷ 1 ∷ 0
    ∷ 1 ∷ 2 ∷ 0 ∷ 1 ∷ 2 ∷ 3 ∷ 4 ∷ []

unfoldable pub sources : List Known
unfolding example
sources =
    -- example 1 of source 000: A stores N at step 0, and B made it there; nobody enters the cipher
    known example 0 (Held.given ∷ Held.given ∷ Held.given ∷ Held.stored 0 0 ∷ Held.free ∷ [])
    ∷ known example 1 (Held.given ∷ Held.given ∷ Held.given ∷ Held.made 0 ∷ Held.free ∷ [])
    ∷  -- the cipher of N under K, then K, then the cipher again: each stored at its step, under its placeholder
    known (5 ∷ 8 ∷ 2 ∷ 28 ∷ 4 ∷ 36 ∷ 11 ∷ 52 ∷ 0 ∷ 0 ∷ 0 ∷ 0 ∷ 0 ∷ 0 ∷ 0 ∷ 0 ∷ 0 ∷ 0 ∷ 0 ∷ 0 ∷ 0 ∷ 0 ∷ 0
    ∷ 0 ∷ 2 ∷ 0 ∷ 0 ∷ 2 ∷ 0 ∷ 2 ∷ 3 ∷ 1 ∷ 1 ∷ 5 ∷ 2 ∷ 1 ∷ 0 ∷ 1 ∷ 7 ∷ 1 ∷ 0 ∷ 1 ∷ 8 ∷ 1 ∷ 0 ∷ 1 ∷ 9 ∷ 1
    ∷ 1 ∷ 0 ∷ 10 ∷ 1 ∷ 2 ∷ 3 ∷ 0 ∷ 1 ∷ 2 ∷ 0 ∷ 1 ∷ 4 ∷ 2 ∷ 4 ∷ 3 ∷ [])
    1 (Held.given ∷ Held.given ∷ Held.stored 1 1 ∷ Held.stored 2 3 ∷ Held.stored 0 0 ∷ [])
    ∷  -- given and later received: it stays given
    known (3 ∷ 8 ∷ 2 ∷ 20 ∷ 1 ∷ 28 ∷ 7 ∷ 32 ∷ 0 ∷ 0 ∷ 0 ∷ 0 ∷ 0 ∷ 0 ∷ 0 ∷ 0 ∷ 0 ∷ 0 ∷ 0 ∷ 0 ∷ 0 ∷ 0 ∷ 3 ∷ 1 ∷ 1
    ∷ 3 ∷ 3 ∷ 1 ∷ 0 ∷ 1 ∷ 6 ∷ 1 ∷ 0 ∷ 1 ∷ 2 ∷ 0 ∷ 1 ∷ 2 ∷ 2 ∷ [])
    1 (Held.given ∷ Held.given ∷ Held.given ∷ [])
    ∷  -- made at step 0 and received back at step 1: it stays made
    known (3 ∷ 8 ∷ 2 ∷ 20 ∷ 2 ∷ 28 ∷ 6 ∷ 36 ∷ 0 ∷ 0 ∷ 0 ∷ 0 ∷ 0 ∷ 0 ∷ 0 ∷ 0 ∷ 0 ∷ 0 ∷ 0 ∷ 0 ∷ 0 ∷ 0 ∷ 2 ∷ 1 ∷ 1
    ∷ 2 ∷ 2 ∷ 1 ∷ 0 ∷ 1 ∷ 4 ∷ 1 ∷ 1 ∷ 0 ∷ 5 ∷ 1 ∷ 0 ∷ 1 ∷ 0 ∷ 1 ∷ 2 ∷ 2 ∷ [])
    0 (Held.given ∷ Held.given ∷ Held.made 0 ∷ [])
    ∷ []

unfoldable pub told : List Known → List (List Held)
unfolding computed source_of
told [] = []
told (k ∷ ks) = values (source_of k.book k.party) 0 (rows k.book) ∷ told ks

unfoldable pub wanted : List Known → List (List Held)
wanted [] = []
wanted (k ∷ ks) = k.wanted ∷ wanted ks

pub sources-hold : told sources ≡ wanted sources
unfolding told wanted sources
sources-hold = refl
