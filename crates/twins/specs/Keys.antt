-- Row keys: a sum over kind, tag and parts that wraps around at 32 bits on purpose (document 02, [3]). Rows that are alike have equal
-- keys, so unequal keys prove unequal rows. Rows are chained by what their key leaves when divided by the number of chains.
use Rattle.std.specs.Prelude.{◌≡◌, ℕ, ◌+◌, ◌%◌, ◌^◌, ◌<◌, ◌≤◌, List, [], ◌∷◌, length, ◌≢◌, slice_index}
use Rattle.book.specs.Layout.{rows, kind, tag, parts}
pub mod Laws

-- ---- keys
-- a sum of 32 bits
abbrev pub wrapping : ℕ → ℕ → ℕ
wrapping a b = (a + b) % 2 ^ 32

-- twice a number, by such a sum
abbrev pub twice : ℕ → ℕ
twice k = wrapping k k

-- 33 times the key so far, and one word more
unfoldable pub mixed : ℕ → ℕ → ℕ
mixed k x = wrapping (wrapping (twice (twice (twice (twice (twice k))))) k) x

unfoldable pub mixed_all : ℕ → List ℕ → ℕ
mixed_all k [] = k
mixed_all k (x ∷ xs) = mixed_all (mixed k x) xs

-- the key of row r: kind, tag, and its parts in order
unfoldable pub key_of : List ℕ → ℕ → ℕ
key_of b r = mixed_all (mixed (kind b r) (tag b r)) (parts b r)

-- ---- chains
abbrev pub chains : ℕ
chains = 1024

-- the chain that row r is in
unfoldable pub chain_of : List ℕ → ℕ → ℕ
chain_of b r = key_of b r % chains

-- `to` is the first row from `from` on that is in chain c, or the number of rows where there is none
pub record NextIn (b : List ℕ) (c from to : ℕ) : Type 0 where
  pub after : from ≤ to
  pub within : to ≤ rows b
  pub none : (j : ℕ) → from ≤ j → j < to → chain_of b j ≢ c
  pub inside : to < rows b → chain_of b to ≡ c

-- the rows from i on are chained: each has its key and the next row of its chain, and each chain has its first row
pub record ChainedFrom (b : List ℕ) (i : ℕ) (keys heads nexts : List ℕ) : Type 0 where
  pub within : i ≤ rows b
  pub keys-size : length keys ≡ 1024
  pub heads-size : length heads ≡ chains
  pub nexts-size : length nexts ≡ 1024
  pub key : (r : ℕ) → i ≤ r → r < rows b → slice_index keys r ≡ key_of b r
  pub first : (c : ℕ) → c < chains → NextIn b c i (slice_index heads c)
  pub next : (r : ℕ) → i ≤ r → r < rows b → NextIn b (chain_of b r) (r + 1) (slice_index nexts r)
