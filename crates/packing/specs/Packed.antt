-- An answer in one number, for callers in another language: an answer that came back through a lent place would be a lent word that a
-- refusal changes.
use Rattle.std.specs.Prelude.{ℕ, ◌+◌, ◌*◌, ◌/◌, ◌%◌, ◌<◌, min, Bool, ◌||◌, List, [], ◌∷◌, map, ◌⊎◌, ◌≡◌, get_or, eqb}
use Rattle.words.specs.Choice.{pick}
use Rattle.book.specs.Said.{Said, said}
use Rattle.translation.specs.Outcome.{Outcome}
pub mod Laws
pub mod Derivations

-- the answer's number in 8 bits, its first value in 32, its second, or 0, in 24
unfoldable pub pack : Said → ℕ
pack s = s.number + 256 * get_or s.values 0 0 + 1099511627776 * get_or s.values 1 0

-- of the answers, refusals 10 and 13 alone have two values, a step and a row
abbrev pub two_values : ℕ → Bool
two_values n = eqb n 10 || eqb n 13

unfoldable pub unpack : ℕ → Said
unpack n = said (n % 256) (n / 256 % 4294967296 ∷ pick (two_values (n % 256)) (n / 1099511627776 ∷ []) [])

-- a summary may have more words than 32 bits count, and so may what is asked and a derivation: refusals 20 and 12 then tell the largest
-- number that they hold
abbrev pub capped : Said → Said
capped s = said s.number (map (min 4294967295) s.values)

-- an answer that fits
pub data Small : Said → Type 0 where
  one : {n v : ℕ} → n < 256 → (n ≡ 10 → ⊥) → (n ≡ 13 → ⊥) → v < 4294967296 → Small (said n (v ∷ []))
  two : {n v w : ℕ} → (n ≡ 10) ⊎ (n ≡ 13) → v < 4294967296 → w < 16777216 → Small (said n (v ∷ w ∷ []))

-- the number and each value fits its bits
pub data Packs : Said → Type 0 where
  one : {n v : ℕ} → n < 256 → v < 4294967296 → Packs (said n (v ∷ []))
  two : {n v w : ℕ} → n < 256 → v < 4294967296 → w < 16777216 → Packs (said n (v ∷ w ∷ []))

-- a judge's verdict, read back: where number and first value are 0 the listing differs, and the second value is the place
unfoldable pub unpack_verdict : ℕ → Said
unpack_verdict n = pick (eqb (n % 1099511627776) 0) (said 0 (0 ∷ n / 1099511627776 ∷ [])) (unpack n)

-- what such a caller gets: the number, and the lent bytes afterwards
pub record Returned : Type 0 where
  pub answer : ℕ
  pub lent : List ℕ

abbrev pub returned : ℕ → List ℕ → Returned
returned n bs = record { answer = n; lent = bs }

abbrev pub packed : Outcome → Returned
packed o = returned (pack o.says) o.lent

-- the same, where a value may not fit 32 bits
abbrev pub packed_capped : Outcome → Returned
packed_capped o = returned (pack (capped o.says)) o.lent
