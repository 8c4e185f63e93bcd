-- Terms, as in figure 1 of source 000. Document 01: "Kind 0 atom; 1 operation (0 to 8 arguments); 2 cipher (.. the key first, then
-- 0 to 8 contents); 3 public half and 4 private half of a key." An atom is told from others by its row number.
-- Departs from the figure in this: a variable X with subscripts is an atom like any other.
use Rattle.std.specs.Prelude.{ℕ, suc, ◌+◌, Bool, false, ◌||◌, List, [], ◌∷◌, ◌≡◌, eqb}
use Rattle.std.proofs.Math.Decide.{ℕ_discrete}
pub mod Laws

mutual
  pub data Term : Type 0 where
    -- by its row
    atom : ℕ → Term
    -- tag, arguments
    operation : ℕ → Terms → Term
    -- key, contents
    cipher : Term → Terms → Term
    public : Term → Term
    private : Term → Term
    deriving Discrete as Term-discrete

  pub data Terms : Type 0 where
    nil : Terms
    cons : Term → Terms → Terms
    deriving Discrete as Terms-discrete

unfoldable pub same : (t u : Term) → Dec (t ≡ u)
unfolding ℕ_discrete
same t u = Term-discrete ℕ_discrete t u

unfoldable pub count : Terms → ℕ
count nil = 0
count (cons t ts) = suc (count ts)

-- the same terms as a list, and back
unfoldable pub listed : Terms → List Term
listed nil = []
listed (cons t ts) = t ∷ listed ts

unfoldable pub gathered : List Term → Terms
gathered [] = nil
gathered (t ∷ ts) = cons t (gathered ts)

-- "The partner of M+ is M-, of M- is M+, of any other key itself."
unfoldable pub partner : Term → Term
partner (atom r) = atom r
partner (operation g ts) = operation g ts
partner (cipher k ts) = cipher k ts
partner (public t) = private t
partner (private t) = public t

-- "atom 2; operation 3 plus its parts' sizes; cipher 2 plus its parts' sizes; public or private half 1 plus its part's"
unfoldable mutual
  pub size : Term → ℕ
  size (atom r) = 2
  size (operation g ts) = 3 + sizes ts
  size (cipher k ts) = 2 + (size k + sizes ts)
  size (public t) = 1 + size t
  size (private t) = 1 + size t

  pub sizes : Terms → ℕ
  sizes nil = 0
  sizes (cons t ts) = size t + sizes ts

-- "occurs at any depth": the atom of row q
unfoldable mutual
  pub occurs : ℕ → Term → Bool
  occurs q (atom r) = eqb r q
  occurs q (operation g ts) = occurs_in q ts
  occurs q (cipher k ts) = occurs q k || occurs_in q ts
  occurs q (public t) = occurs q t
  occurs q (private t) = occurs q t

  pub occurs_in : ℕ → Terms → Bool
  occurs_in q nil = false
  occurs_in q (cons t ts) = occurs q t || occurs_in q ts

-- the same as a path to the atom
mutual
  pub data Occurs (q : ℕ) : Term → Type 0 where
    atom : Occurs q (Term.atom q)
    operation : {g : ℕ} {ts : Terms} → OccursIn q ts → Occurs q (Term.operation g ts)
    key : {k : Term} {ts : Terms} → Occurs q k → Occurs q (Term.cipher k ts)
    contents : {k : Term} {ts : Terms} → OccursIn q ts → Occurs q (Term.cipher k ts)
    public : {t : Term} → Occurs q t → Occurs q (Term.public t)
    private : {t : Term} → Occurs q t → Occurs q (Term.private t)

  pub data OccursIn (q : ℕ) : Terms → Type 0 where
    here : {t : Term} {ts : Terms} → Occurs q t → OccursIn q (Terms.cons t ts)
    later : {t : Term} {ts : Terms} → OccursIn q ts → OccursIn q (Terms.cons t ts)
