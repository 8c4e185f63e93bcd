-- Laws of tables: unfolding's equation; equal terms have equal row numbers; a row's size is its term's. Assumes nothing.
use Prim.Native.Nat.{ℕ, zero, suc, ◌+◌, ◌≤◌, ◌<◌}
use Rattle.std.proofs.Math.Bool.{true, false}
use mathlib.Core.List.{List, [], ◌∷◌, map, map-map}
use Rattle.std.specs.Prelude.{◌≡◌, refl, length, get_or}
use Rattle.std.proofs.Math.Path.{sym, ap}
use Rattle.std.proofs.Common.{ap₂, ◌∙◌, subst, arith}
use Rattle.std.proofs.Math.Decide.{ℕ_discrete}
use Rattle.std.proofs.lemmas.List.{length-map}
use Rattle.words.specs.Choice.{choose}
use Rattle.words.specs.Choice.Laws.{choose_yes, choose_no}
use Rattle.words.specs.First.Laws.{first-is}
use Rattle.words.specs.Run.{run, All}
use Rattle.words.specs.Sum.{sum}
use Rattle.words.specs.Sum.Laws.{sum-none, sum_same}
use Rattle.words.specs.Run.Laws.{map_same, all-imp}
use Rattle.terms.specs.Term.{Term, Terms, same, gathered, listed, size, sizes, Occurs, OccursIn}
use Rattle.terms.specs.Term.Laws.{listed-gathered}
use Rattle.terms.specs.Kind.{of_kind, Shape, Tagged}
use Rattle.terms.specs.Table.{Table, level, unfold_by, form, term, terms, total, row_size, number, Formed, IsRow, AllRows, PartsRows}

-- ---- unfold_by
module _ {X : Type 0} (f : ℕ → List X → X) (tab : Table) (n : ℕ) (before : (r : ℕ) → r < n → All (λ p. p < r) (tab r).parts) where
  -- more levels than the row's number change nothing
  level-enough : (i j r : ℕ) → r < n → r < i → r < j → level f tab i r ≡ level f tab j r
  unfolding level
  level-enough zero j r l h k = absurd (omega arith)
  level-enough (suc i) zero r l h k = absurd (omega arith)
  level-enough (suc i) (suc j) r l h k =
      ap (f r) (map_same (λ p. p < r) (level f tab i) (level f tab j) (λ p q. level-enough i j p (omega arith) (omega arith) (omega arith))
      (tab r).parts (before r l))

  -- a row's value is made of its parts' values
  pub unfold-row : (r : ℕ) → r < n → unfold_by f tab r ≡ f r (map (unfold_by f tab) (tab r).parts)
  unfolding unfold_by level
  unfold-row r l =
      ap (f r) (map_same (λ p. p < r) (level f tab r) (unfold_by f tab) (λ p q. level-enough r (suc p) p (omega arith) q (omega arith)) (tab r).parts
      (before r l))

-- a row's size from its parts' sizes
pub size-row : (tab : Table) (n : ℕ) → ((r : ℕ) → r < n → All (λ p. p < r) (tab r).parts) → (r : ℕ) → r < n → row_size tab r
    ≡ (of_kind (tab r).kind).size + total (map (row_size tab) (tab r).parts)
unfolding row_size
size-row tab n before r l = unfold-row (λ q zs. (of_kind (tab q).kind).size + total zs) tab n before r l

-- ---- total: over a run it is a sum
sum-front : (f : ℕ → ℕ) (n : ℕ) → sum f (suc n) ≡ f 0 + sum (λ j. f (suc j)) n
unfolding sum
sum-front f zero = omega arith
sum-front f (suc n) = let h = sum-front f n in omega arith

pub total-run : (f : ℕ → ℕ) (l : List ℕ) (a n : ℕ) → total (map f (run l a n)) ≡ sum (λ j. f (get_or l (a + j) 0)) n
unfolding total run
total-run f l a zero = sym (sum-none (λ j. f (get_or l (a + j) 0)))
total-run f l a (suc n) =
    let z : a + 0 ≡ a = omega arith in
    ap₂ ◌+◌ (ap (λ k. f (get_or l k 0)) (sym z)) (total-run f l (suc a) n
    ∙ sum_same _ _ n (λ j h. let y : suc a + j ≡ a + suc j = omega arith in ap (λ k. f (get_or l k 0)) y))
    ∙ sym (sum-front (λ j. f (get_or l (a + j) 0)) n)

-- ---- form: its kind, tag and parts read back
unfoldable pub kind_of : Term → ℕ
kind_of (Term.atom r) = 0
kind_of (Term.operation g ts) = 1
kind_of (Term.cipher k ts) = 2
kind_of (Term.public t) = 3
kind_of (Term.private t) = 4

tag_of : Term → ℕ
tag_of (Term.atom r) = 0
tag_of (Term.operation g ts) = g
tag_of (Term.cipher k ts) = 0
tag_of (Term.public t) = 0
tag_of (Term.private t) = 0

parts_of : Term → List Term
parts_of (Term.atom r) = []
parts_of (Term.operation g ts) = listed ts
parts_of (Term.cipher k ts) = k ∷ listed ts
parts_of (Term.public t) = t ∷ []
parts_of (Term.private t) = t ∷ []

atom_of : Term → ℕ
atom_of (Term.atom r) = r
atom_of (Term.operation g ts) = 0
atom_of (Term.cipher k ts) = 0
atom_of (Term.public t) = 0
atom_of (Term.private t) = 0

form-kind : (r k g : ℕ) (ts : List Term) → k ≤ 4 → Shape k (length ts) → kind_of (form r k g (gathered ts)) ≡ k
unfolding form kind_of gathered
form-kind r zero g ts h s = refl
form-kind r (suc zero) g ts h s = refl
form-kind r (suc (suc zero)) g [] h s = absurd (omega arith)
form-kind r (suc (suc zero)) g (t ∷ ts) h s = refl
form-kind r (suc (suc (suc zero))) g [] h s = absurd (omega arith)
form-kind r (suc (suc (suc zero))) g (t ∷ ts) h s = refl
form-kind r (suc (suc (suc (suc zero)))) g [] h s = absurd (omega arith)
form-kind r (suc (suc (suc (suc zero)))) g (t ∷ ts) h s = refl
form-kind r (suc (suc (suc (suc (suc k))))) g ts h s = absurd (omega arith)

form-tag : (r k g : ℕ) (ts : List Term) → k ≤ 4 → Tagged k g → Shape k (length ts) → tag_of (form r k g (gathered ts)) ≡ g
unfolding form tag_of gathered
form-tag r zero g ts h e s = omega arith
form-tag r (suc zero) g ts h e s = refl
form-tag r (suc (suc zero)) g [] h e s = absurd (omega arith)
form-tag r (suc (suc zero)) g (t ∷ ts) h e s = omega arith
form-tag r (suc (suc (suc zero))) g [] h e s = absurd (omega arith)
form-tag r (suc (suc (suc zero))) g (t ∷ ts) h e s = omega arith
form-tag r (suc (suc (suc (suc zero)))) g [] h e s = absurd (omega arith)
form-tag r (suc (suc (suc (suc zero)))) g (t ∷ ts) h e s = omega arith
form-tag r (suc (suc (suc (suc (suc k))))) g ts h e s = absurd (omega arith)

form-parts : (r k g : ℕ) (ts : List Term) → k ≤ 4 → Shape k (length ts) → parts_of (form r k g (gathered ts)) ≡ ts
unfolding form parts_of gathered
form-parts r zero g [] h s = refl
form-parts r zero g (t ∷ ts) h s = absurd (omega arith)
form-parts r (suc zero) g ts h s = listed-gathered ts
form-parts r (suc (suc zero)) g [] h s = absurd (omega arith)
form-parts r (suc (suc zero)) g (t ∷ ts) h s = ap (λ (l : List Term). t ∷ l) (listed-gathered ts)
form-parts r (suc (suc (suc zero))) g [] h s = absurd (omega arith)
form-parts r (suc (suc (suc zero))) g (t ∷ []) h s = refl
form-parts r (suc (suc (suc zero))) g (t ∷ u ∷ ts) h s = absurd (omega arith)
form-parts r (suc (suc (suc (suc zero)))) g [] h s = absurd (omega arith)
form-parts r (suc (suc (suc (suc zero)))) g (t ∷ []) h s = refl
form-parts r (suc (suc (suc (suc zero)))) g (t ∷ u ∷ ts) h s = absurd (omega arith)
form-parts r (suc (suc (suc (suc (suc k))))) g ts h s = absurd (omega arith)

sizes-total : (ts : List Term) → sizes (gathered ts) ≡ total (map size ts)
unfolding size gathered total
sizes-total [] = refl
sizes-total (t ∷ ts) = ap (λ n. size t + n) (sizes-total ts)

form-size : (r k g : ℕ) (ts : List Term) → k ≤ 4 → Shape k (length ts) → size (form r k g (gathered ts)) ≡ (of_kind k).size + total (map size ts)
unfolding form size gathered total
form-size r zero g [] h s = refl
form-size r zero g (t ∷ ts) h s = absurd (omega arith)
form-size r (suc zero) g ts h s = ap (λ n. 3 + n) (sizes-total ts)
form-size r (suc (suc zero)) g [] h s = absurd (omega arith)
form-size r (suc (suc zero)) g (t ∷ ts) h s = ap (λ n. 2 + (size t + n)) (sizes-total ts)
form-size r (suc (suc (suc zero))) g [] h s = absurd (omega arith)
form-size r (suc (suc (suc zero))) g (t ∷ []) h s = omega arith
form-size r (suc (suc (suc zero))) g (t ∷ u ∷ ts) h s = absurd (omega arith)
form-size r (suc (suc (suc (suc zero)))) g [] h s = absurd (omega arith)
form-size r (suc (suc (suc (suc zero)))) g (t ∷ []) h s = omega arith
form-size r (suc (suc (suc (suc zero)))) g (t ∷ u ∷ ts) h s = absurd (omega arith)
form-size r (suc (suc (suc (suc (suc k))))) g ts h s = absurd (omega arith)

map_injective : (f : ℕ → Term) (n m : ℕ) (us vs : List ℕ) → All (λ p. p < n) us → All (λ p. p < m) vs
    → ((x y : ℕ) → x < n → y < m → f x ≡ f y → x ≡ y) → map f us ≡ map f vs → us ≡ vs
map_injective f n m [] [] p q i e = refl
map_injective f n m [] (v ∷ vs) p q i e = let z : ◌≡◌ {A = ℕ} 0 1 = cc in absurd (omega arith)
map_injective f n m (u ∷ us) [] p q i e = let z : ◌≡◌ {A = ℕ} 0 1 = cc in absurd (omega arith)
map_injective f n m (u ∷ us) (v ∷ vs) p q i e =
    let x : f u ≡ f v = cc in
    let y : map f us ≡ map f vs = cc in
    ap₂ ◌∷◌ (i u v p.0 q.0 x) (map_injective f n m us vs p.1 q.1 i y)

-- ---- term
module _ (n : ℕ) (tab : Table) (ok : Formed n tab) where
  -- unfolding's equation
  pub term-row : (r : ℕ) → r < n → term tab r ≡ form r (tab r).kind (tab r).tag (terms tab (tab r).parts)
  unfolding term terms
  term-row r l = unfold-row (λ q us. form q (tab q).kind (tab q).tag (gathered us)) tab n ok.before r l

  pub shape_row : (r : ℕ) → r < n → Shape (tab r).kind (length (map (term tab) (tab r).parts))
  shape_row r l = rw (length-map (tab r).parts (term tab)) (ok.shapes r l)

  pub kind_row : (r : ℕ) → r < n → kind_of (term tab r) ≡ (tab r).kind
  unfolding terms
  kind_row r l = rw (term-row r l) (form-kind r _ _ _ (ok.kinds r l) (shape_row r l))

  tag-row : (r : ℕ) → r < n → tag_of (term tab r) ≡ (tab r).tag
  unfolding terms
  tag-row r l = rw (term-row r l) (form-tag r _ _ _ (ok.kinds r l) (ok.tags r l) (shape_row r l))

  parts-row : (r : ℕ) → r < n → parts_of (term tab r) ≡ map (term tab) (tab r).parts
  unfolding terms
  parts-row r l = rw (term-row r l) (form-parts r _ _ _ (ok.kinds r l) (shape_row r l))

  pub atom-row : (r : ℕ) → r < n → (tab r).kind ≡ 0 → term tab r ≡ Term.atom r
  unfolding form
  atom-row r l e = rw (term-row r l, e)

  injective : (m r s : ℕ) → r < m → r < n → s < n → term tab r ≡ term tab s → r ≡ s
  unfolding atom_of
  injective zero r s b l k e = absurd (omega arith)
  injective (suc m) r s b l k e = go (ℕ_discrete (tab r).kind 0) (injective m)
    where
      kinds : (tab r).kind ≡ (tab s).kind
      kinds = sym (kind_row r l) ∙ ap kind_of e ∙ kind_row s k

      go : Dec ((tab r).kind ≡ 0) → ((x y : ℕ) → x < m → x < n → y < n → term tab x ≡ term tab y → x ≡ y) → r ≡ s
      go (yes z) f = sym (ap atom_of (atom-row r l z)) ∙ ap atom_of e ∙ ap atom_of (atom-row s k (sym kinds ∙ z))
      go (no z) f =
          ok.single r s l k z kinds (sym (tag-row r l) ∙ ap tag_of e ∙ tag-row s k)
          (map_injective (term tab) r s _ _ (ok.before r l) (ok.before s k) (λ x y p q. f x y (omega arith) (omega arith) (omega arith))
          (sym (parts-row r l) ∙ ap parts_of e ∙ parts-row s k))

  -- "equal terms have equal row numbers"
  pub term-injective : (r s : ℕ) → r < n → s < n → term tab r ≡ term tab s → r ≡ s
  term-injective r s l k e = injective (suc r) r s (omega arith) l k e

  -- ---- row_size
  size_below : (m r : ℕ) → r < m → r < n → row_size tab r ≡ size (term tab r)
  unfolding terms
  size_below zero r b l = absurd (omega arith)
  size_below (suc m) r b l =
      let ih : (p : ℕ) → p < r → row_size tab p ≡ size (term tab p) = λ p q. size_below m p (omega arith) (omega arith) in
      size-row tab n ok.before r l ∙ ap (λ zs. (of_kind (tab r).kind).size + total zs)
      (map_same (λ p. p < r) (row_size tab) (λ p. size (term tab p)) ih (tab r).parts (ok.before r l) ∙ sym (map-map size (term tab) (tab r).parts))
      ∙ sym (ap size (term-row r l) ∙ form-size r _ _ _ (ok.kinds r l) (shape_row r l))

  -- a row's size is its term's
  pub size-term : (r : ℕ) → r < n → row_size tab r ≡ size (term tab r)
  size-term r l = size_below (suc r) r (omega arith) l

  -- ---- number
  pub number-row : (r : ℕ) → r < n → number tab n (term tab r) ≡ r
  unfolding number
  number-row r l =
      sym (first-is (λ s. choose (same (term tab s) (term tab r)) true false) n r (omega arith)
      (λ k h. choose_no (same (term tab k) (term tab r)) true false (λ e. let z = term-injective k r (omega arith) l e in omega arith))
      (λ h. choose_yes (same (term tab r) (term tab r)) true false refl))

  -- ---- IsRow
  pub is_row : (r : ℕ) → r < n → IsRow tab n (term tab r)
  is_row r l = record { row = r; within = l; stands = refl }

  -- the row of such a term stands for it
  pub number-back : (t : Term) → IsRow tab n t → term tab (number tab n t) ≡ t
  number-back t i = ap (λ u. term tab (number tab n u)) (sym i.stands) ∙ ap (term tab) (number-row i.row i.within) ∙ i.stands

  pub rows-listed : (rs : List ℕ) → All (λ r. r < n) rs → AllRows tab n (terms tab rs)
  unfolding terms gathered
  rows-listed [] a = tt
  rows-listed (r ∷ rs) a = (is_row r a.0, rows-listed rs a.1)

  form-rows : (r k g : ℕ) (ts : Terms) → AllRows tab n ts → PartsRows tab n (form r k g ts)
  unfolding form
  form-rows r zero g ts h = tt
  form-rows r (suc zero) g ts h = h
  form-rows r (suc (suc zero)) g Terms.nil h = tt
  form-rows r (suc (suc zero)) g (Terms.cons t ts) h = h
  form-rows r (suc (suc (suc zero))) g Terms.nil h = tt
  form-rows r (suc (suc (suc zero))) g (Terms.cons t ts) h = h.0
  form-rows r (suc (suc (suc (suc zero)))) g Terms.nil h = tt
  form-rows r (suc (suc (suc (suc zero)))) g (Terms.cons t ts) h = h.0
  form-rows r (suc (suc (suc (suc (suc k))))) g ts h = tt

  -- a row's parts are rows
  pub parts-rows : (t : Term) → IsRow tab n t → PartsRows tab n t
  parts-rows t i =
      let l = i.within in
      subst (PartsRows tab n) (sym (term-row i.row l) ∙ i.stands)
      (form-rows i.row _ _ _ (rows-listed (tab i.row).parts
      (all-imp (λ p. p < i.row) (λ p. p < n) (λ p q. omega arith) (tab i.row).parts (ok.before i.row l))))

  -- and so are the atoms that occur in it
  mutual
    pub atoms-rows : {q : ℕ} {t : Term} → IsRow tab n t → Occurs q t → IsRow tab n (Term.atom q)
    atoms-rows h Occurs.atom = h
    atoms-rows h (Occurs.operation o) = atoms_in-rows (parts-rows _ h) o
    atoms-rows h (Occurs.key o) = atoms-rows (parts-rows _ h).0 o
    atoms-rows h (Occurs.contents o) = atoms_in-rows (parts-rows _ h).1 o
    atoms-rows h (Occurs.public o) = atoms-rows (parts-rows _ h) o
    atoms-rows h (Occurs.private o) = atoms-rows (parts-rows _ h) o

    pub atoms_in-rows : {q : ℕ} {ts : Terms} → AllRows tab n ts → OccursIn q ts → IsRow tab n (Term.atom q)
    atoms_in-rows h (OccursIn.here o) = atoms-rows h.0 o
    atoms_in-rows h (OccursIn.later o) = atoms_in-rows h.1 o
