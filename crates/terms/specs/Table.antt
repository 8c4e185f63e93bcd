-- A table of rows, and the term that a row stands for. Document 01: "A book holds a table of terms"; "Row: kind, tag, first, count";
-- "A row's parts are rows before it." A table is read by row number, so that how its words lie is nobody's business here.
use Prim.Native.Nat.{ℕ, zero, suc, ◌+◌, ◌≤◌, ◌<◌}
use Rattle.std.specs.Prelude.{true, false, ◌≡◌, length}
use mathlib.Core.List.{List, [], ◌∷◌, map}
use Rattle.words.specs.First.{first}
use Rattle.words.specs.Choice.{choose}
use Rattle.words.specs.Run.{All}
use Rattle.terms.specs.Kind.{Form, of_kind, last_kind, Shape, Tagged}
use Rattle.terms.specs.Term.{Term, Terms, atom, operation, cipher, public, private, nil, cons, same, gathered}
pub mod Laws

pub record Row : Type 0 where
  pub kind : ℕ
  pub tag : ℕ
  pub parts : List ℕ

abbrev pub Table : Type 0
Table = ℕ → Row

-- ---- from a row to its parts
-- n levels deep: what f makes of the row and of what its parts gave
unfoldable pub level : {X : Type 0} → (ℕ → List X → X) → Table → ℕ → ℕ → X
level f tab zero r = f r []
level f tab (suc n) r = f r (map (level f tab n) (tab r).parts)

-- as deep as parts can go, since each is before its row
unfoldable pub unfold_by : {X : Type 0} → (ℕ → List X → X) → Table → ℕ → X
unfold_by f tab r = level f tab (suc r) r

-- the row r of a form, with a tag, over its parts' terms. A row without the part that its form asks for stands for no term: it breaks
-- its rule (refusal 4), and is given the atom of its number here
unfoldable pub formed : Form → ℕ → ℕ → Terms → Term
formed Form.atom r g ts = atom r
formed Form.operation r g ts = operation g ts
formed Form.cipher r g nil = atom r
formed Form.cipher r g (cons k ts) = cipher k ts
formed Form.public r g nil = atom r
formed Form.public r g (cons t ts) = public t
formed Form.private r g nil = atom r
formed Form.private r g (cons t ts) = private t

-- the row r, of a kind and with a tag, over its parts' terms
unfoldable pub form : ℕ → ℕ → ℕ → Terms → Term
unfolding formed
form r k g ts = formed (of_kind k).form r g ts

-- the term that a row stands for
unfoldable pub term : Table → ℕ → Term
term tab r = unfold_by (λ q us. form q (tab q).kind (tab q).tag (gathered us)) tab r

-- the terms of a list of rows
unfoldable pub terms : Table → List ℕ → Terms
terms tab rs = gathered (map (term tab) rs)

unfoldable pub total : List ℕ → ℕ
total [] = 0
total (z ∷ zs) = z + total zs

-- "A row's size": what its kind adds, and its parts' sizes
unfoldable pub row_size : Table → ℕ → ℕ
row_size tab r = unfold_by (λ q zs. (of_kind (tab q).kind).size + total zs) tab r

-- the row of a term among the first n rows, or n where it is no row's
unfoldable pub number : Table → ℕ → Term → ℕ
number tab n t = first (λ r. choose (same (term tab r) t) true false) n

-- ---- a table whose rows keep their rule
pub record Formed (n : ℕ) (tab : Table) : Type 0 where
  pub kinds : (r : ℕ) → r < n → (tab r).kind ≤ last_kind
  pub tags : (r : ℕ) → r < n → Tagged (tab r).kind (tab r).tag
  pub shapes : (r : ℕ) → r < n → Shape (tab r).kind (length (tab r).parts)
  pub before : (r : ℕ) → r < n → All (λ p. p < r) (tab r).parts
  -- "Two rows that aren't atoms never agree in kind, tag and parts"
  pub single : (r s : ℕ) → r < n → s < n → ((tab r).kind ≡ 0 → ⊥) → (tab r).kind ≡ (tab s).kind → (tab r).tag ≡ (tab s).tag
      → (tab r).parts ≡ (tab s).parts → r ≡ s

-- ---- terms that are rows
-- t is the term of one of the first n rows
pub record IsRow (tab : Table) (n : ℕ) (t : Term) : Type 0 where
  pub row : ℕ
  pub within : row < n
  pub stands : term tab row ≡ t

abbrev pub AllRows : Table → ℕ → Terms → Type 0
AllRows tab n nil = Unit {0}
AllRows tab n (cons t ts) = IsRow tab n t × AllRows tab n ts

abbrev pub PartsRows : Table → ℕ → Term → Type 0
PartsRows tab n (atom r) = Unit {0}
PartsRows tab n (operation g ts) = AllRows tab n ts
PartsRows tab n (cipher k ts) = IsRow tab n k × AllRows tab n ts
PartsRows tab n (public t) = IsRow tab n t
PartsRows tab n (private t) = IsRow tab n t
