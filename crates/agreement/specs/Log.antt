-- What stays true of the atoms made and of those that the events left will make, whatever moves are made: each is made once, by one
-- party, and is fresh. Clause (c) rests on it.
use Rattle.std.specs.Prelude.{ℕ, ◌≡◌}
use mathlib.Core.List.{List, Memᴰ}
use Rattle.words.specs.Run.{NoRepeat}
use Rattle.agreement.specs.Machine.{System}
use Rattle.agreement.specs.News.{news}
pub mod Laws

-- `Fresh` says which atoms may be made; `made` were made, and party p will make those of `later p`
pub record Log (Fresh : ℕ → Type 0) (made : List ℕ) (later : ℕ → List ℕ) : Type 0 where
  pub once : NoRepeat made
  pub fresh : (r : ℕ) → Memᴰ r made → Fresh r
  pub not_yet : (p r : ℕ) → Memᴰ r (later p) → Memᴰ r made → ⊥
  pub fresh_later : (p r : ℕ) → Memᴰ r (later p) → Fresh r
  pub once_later : (p : ℕ) → NoRepeat (later p)
  pub apart : (p q r : ℕ) → Memᴰ r (later p) → Memᴰ r (later q) → p ≡ q

abbrev pub Logged : (ℕ → Type 0) → System → Type 0
Logged Fresh S = Log Fresh S.made (λ p. news (S.party p).left)
