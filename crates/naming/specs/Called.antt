-- What they call our placeholders, as code keeps it: of the step at hand all, in a table, from the step's first on; of the steps before
-- those that are stored, beside the log of triples, in its order. And the range of all their numbers so far.
use Rattle.std.specs.Prelude.{ℕ, ◌+◌, ◌-◌, ◌*◌, ◌≤◌, ◌<◌, Bool, List, ◌⊎◌, ◌≡◌, length, get_or, leb, eqb}
use Rattle.words.specs.Choice.{pick}
use Rattle.words.specs.First.{first}
use Rattle.words.specs.Run.{All, values}
use Rattle.translation.specs.Long.{step_size}
pub mod Laws

-- all names are from low on and below high
pub record Ranged (low high : ℕ) (names : List ℕ) : Type 0 where
  pub all : All (λ m. (low ≤ m) × (m < high)) names

-- and so with the n numbers from y on
pub record Wider (low high y n low' high' : ℕ) : Type 0 where
  pub lower : low' ≤ low
  pub higher : high ≤ high'
  pub begins : 0 < n → low' ≤ y
  pub ends : 0 < n → y + n ≤ high'

-- the placeholder of the k-th triple
abbrev pub placeholder_at : List ℕ → ℕ → ℕ
placeholder_at log k = get_or log (3 * k + 1) 0

abbrev pub is_placeholder : List ℕ → ℕ → ℕ → Bool
is_placeholder log x k = eqb (placeholder_at log k) x

-- of n stored placeholders
unfoldable pub name_of : ℕ → ℕ → List ℕ → List ℕ → ℕ → List ℕ → ℕ
name_of x begin table log n called = pick (leb begin x) (get_or table (x - begin) 0) (get_or called (first (is_placeholder log x) n) 0)

-- n placeholders were stored before the step, whose first placeholder is `begin`
pub record Called (names : List ℕ) (begin : ℕ) (table log : List ℕ) (n : ℕ) (called : List ℕ) : Type 0 where
  pub recent : (x : ℕ) → begin ≤ x → x < length names → get_or table (x - begin) 0 ≡ get_or names x 0
  pub older : (k : ℕ) → k < n → get_or called k 0 ≡ get_or names (placeholder_at log k) 0
  pub below : (k : ℕ) → k < n → placeholder_at log k < begin
  pub begun : begin ≤ length names
  pub size : length table ≡ step_size
  pub few : n ≤ 1024

-- placeholder x is one of the n that are stored
pub record StoredIn (log : List ℕ) (n x : ℕ) : Type 0 where
  pub index : ℕ
  pub within : index < n
  pub there : placeholder_at log index ≡ x

-- the names of the n stored placeholders from triple k on, by the step's table
abbrev pub recent_names : List ℕ → ℕ → List ℕ → ℕ → ℕ → List ℕ
recent_names log begin table k n = values (λ j. get_or table (placeholder_at log j - begin) 0) k n
