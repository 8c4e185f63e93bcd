-- Laws of marking: one atom, a row by its parts, terms one after another. Assumes nothing.
use Rattle.std.specs.Prelude.{ℕ, zero, suc, ◌+◌, ◌-◌, ◌≤◌, ◌<◌, Bool, true, false, ◌||◌, List, [], ◌∷◌, ◌++◌, map, ◌≡◌, refl, length, get_or, set, eqb}
use Rattle.std.proofs.Math.Bool.{or-false, or_assoc}
use Rattle.std.proofs.Common.{true≢false, append-nil, append_assoc, sym, ap, ap₂, ◌∙◌, arith, length-set, get_or-set_same, get_or-set_other, eq-eqb, ne_eqb}
use Rattle.std.proofs.Math.Decide.{ℕ_discrete}
use Rattle.words.specs.Choice.{pick}
use Rattle.words.specs.Run.{run, values}
use Rattle.words.specs.Run.Laws.{values-last, run-append}
use Rattle.terms.specs.Term.{Term, gathered, occurs, occurs_in}
use Rattle.terms.specs.Kind.{Shape}
use Rattle.terms.specs.Table.{form, term}
use Rattle.book.specs.Layout.{table, begins, rows, kind, tag, pooled, parts, list_at}
use Rattle.book.specs.Valid.{Valid}
use Rattle.book.specs.Valid.Laws.{row-form, row-shape, row-atom}
use Rattle.translation.specs.Taken.{joined, occurs_in_one}
use Rattle.book.specs.Span.{entry}
use Rattle.book.specs.Span.Laws.{list-none, list-more}
use Rattle.claims.specs.Marked.{marked, Marked, Seen}

-- ---- occurs_in_one
pub one-append : (q : ℕ) (ts us : List Term) → occurs_in_one q (ts ++ us) ≡ (occurs_in_one q ts || occurs_in_one q us)
unfolding occurs_in_one
one-append q [] us = refl
one-append q (t ∷ ts) us = ap (λ x. occurs q t || x) (one-append q ts us) ∙ sym (or_assoc (occurs q t) (occurs_in_one q ts) (occurs_in_one q us))

-- ---- a row by its parts
in-gathered : (q : ℕ) (ts : List Term) → occurs_in q (gathered ts) ≡ occurs_in_one q ts
unfolding gathered occurs occurs_in_one
in-gathered q [] = refl
in-gathered q (t ∷ ts) = ap (λ x. occurs q t || x) (in-gathered q ts)

occurs-form : (q r k g : ℕ) (ts : List Term) → (k ≡ 0 → ⊥) → k ≤ 4 → Shape k (length ts)
    → occurs q (form r k g (gathered ts)) ≡ occurs_in_one q ts
unfolding form occurs gathered occurs_in_one
occurs-form q r zero g ts n l s = absurd (n refl)
occurs-form q r (suc zero) g ts n l s = in-gathered q ts
occurs-form q r (suc (suc zero)) g [] n l s = absurd (omega arith)
occurs-form q r (suc (suc zero)) g (t ∷ ts) n l s = ap (λ x. occurs q t || x) (in-gathered q ts)
occurs-form q r (suc (suc (suc zero))) g [] n l s = absurd (omega arith)
occurs-form q r (suc (suc (suc zero))) g (t ∷ []) n l s = sym (or-false (occurs q t))
occurs-form q r (suc (suc (suc zero))) g (t ∷ u ∷ ts) n l s = absurd (omega arith)
occurs-form q r (suc (suc (suc (suc zero)))) g [] n l s = absurd (omega arith)
occurs-form q r (suc (suc (suc (suc zero)))) g (t ∷ []) n l s = sym (or-false (occurs q t))
occurs-form q r (suc (suc (suc (suc zero)))) g (t ∷ u ∷ ts) n l s = absurd (omega arith)
occurs-form q r (suc (suc (suc (suc (suc k))))) g ts n l s = absurd (omega arith)

module _ (b : List ℕ) (v : Valid b) (r : ℕ) (h : r < rows b) where
  row-parts : (kind b r ≡ 0 → ⊥) → (q : ℕ) → occurs q (term (table b) r) ≡ occurs_in_one q (map (term (table b)) (parts b r))
  row-parts n q =
      ap (occurs q) (row-form b v r h)
      ∙ occurs-form q r (kind b r) (tag b r) (map (term (table b)) (parts b r)) n (v.rows_keep r h).kinded (row-shape b v r h)

-- ---- marked
marked-never : (e x : ℕ) → marked e false x ≡ e
unfolding marked pick
marked-never zero x = refl
marked-never (suc e) x = refl

marked-twice : (e : ℕ) (o p : Bool) (x : ℕ) → marked (marked e o x) p x ≡ marked e (o || p) x
unfolding marked pick
marked-twice (suc e) o p x = refl
marked-twice zero false p x = refl
marked-twice zero true p (suc x) = refl
marked-twice zero true true zero = refl
marked-twice zero true false zero = refl

kept : (e x : ℕ) (o : Bool) → (e ≡ 0 → ⊥) → marked e o x ≡ e
unfolding marked
kept zero x o n = absurd (n refl)
kept (suc e) x o n = refl

-- ---- Marked
pub marked-none : (x : ℕ) (l : List ℕ) → length l ≡ 1024 → Marked [] x l l
unfolding occurs_in_one
marked-none x l h = record { sized = h; each = λ q. sym (marked-never (get_or l q 0) x) }

pub marked-then : {ts us : List Term} {x : ℕ} {l m n : List ℕ} → Marked ts x l m → Marked us x m n → Marked (ts ++ us) x l n
marked-then {ts} {us} {x} {l} d e =
    record {
      sized = e.sized;
      each =
          λ q. e.each q ∙ ap (λ y. marked y (occurs_in_one q us) x) (d.each q) ∙ marked-twice (get_or l q 0) _ _ x
          ∙ ap (λ o. marked (get_or l q 0) o x) (sym (one-append q ts us));
    }

-- the same of terms in which the same atoms occur
pub marked-as : {ts us : List Term} {x : ℕ} {l m : List ℕ} → Marked ts x l m → ((q : ℕ) → occurs_in_one q us ≡ occurs_in_one q ts) → Marked us x l m
marked-as {x = x} {l} d e = record { sized = d.sized; each = λ q. d.each q ∙ ap (λ o. marked (get_or l q 0) o x) (sym (e q)) }

-- an atom that has no entry gets one
pub marked-new : (r x : ℕ) (l : List ℕ) → length l ≡ 1024 → r < 1024 → get_or l r 0 ≡ 0 → Marked (Term.atom r ∷ []) x l (set l r x)
unfolding marked pick occurs_in_one occurs
marked-new r x l h k z = record { sized = length-set l r x ∙ h; each = λ q. go q (ℕ_discrete q r) }
  where
    go : (q : ℕ) → Dec (q ≡ r) → get_or (set l r x) q 0 ≡ marked (get_or l q 0) (eqb r q || false) x
    go q (yes e) = rw (e, get_or-set_same l r x 0 (omega arith), z, eq-eqb r r refl)
    go q (no n) =
        get_or-set_other l r q x 0 n ∙ sym (ap (λ o. marked (get_or l q 0) (o || false) x) (ne_eqb r q (λ e. n (sym e))) ∙ marked-never (get_or l q 0) x)

-- and one that has an entry keeps it
pub marked-old : (r x : ℕ) (l : List ℕ) → length l ≡ 1024 → (get_or l r 0 ≡ 0 → ⊥) → Marked (Term.atom r ∷ []) x l l
unfolding occurs_in_one occurs
marked-old r x l h n = record { sized = h; each = λ q. go q (ℕ_discrete q r) }
  where
    go : (q : ℕ) → Dec (q ≡ r) → get_or l q 0 ≡ marked (get_or l q 0) (eqb r q || false) x
    go q (yes e) = sym (kept (get_or l q 0) x _ (λ z. n (ap (λ i. get_or l i 0) (sym e) ∙ z)))
    go q (no k) = sym (ap (λ o. marked (get_or l q 0) (o || false) x) (ne_eqb r q (λ e. k (sym e))) ∙ marked-never (get_or l q 0) x)

-- ---- a row
module _ (b : List ℕ) (v : Valid b) (r : ℕ) (h : r < rows b) {x : ℕ} {l m : List ℕ} where
  pub marked-atom : kind b r ≡ 0 → Marked (Term.atom r ∷ []) x l m → Marked (term (table b) r ∷ []) x l m
  marked-atom e d = rw (row-atom b v r h e) d

  pub marked_row : (kind b r ≡ 0 → ⊥) → Marked (map (term (table b)) (parts b r)) x l m → Marked (term (table b) r ∷ []) x l m
  unfolding occurs_in_one
  marked_row n d = marked-as d (λ q. or-false (occurs q (term (table b) r)) ∙ row-parts b v r h n q)

-- ---- a list of rows, one after another
pub marked-end : (b : List ℕ) (f n x : ℕ) (l : List ℕ) → n ≡ 0 → length l ≡ 1024 → Marked (map (term (table b)) (list_at b f n)) x l l
marked-end b f n x l z h = rw (list-none b f n (omega arith)) (marked-none x l h)

pub marked_more : (b : List ℕ) (f n x : ℕ) {l m k : List ℕ} → 0 < n → Marked (term (table b) (entry b f) ∷ []) x l m
    → Marked (map (term (table b)) (list_at b (f + 1) (n - 1))) x m k → Marked (map (term (table b)) (list_at b f n)) x l k
marked_more b f n x h d e = rw (list-more b f n h) (marked-then d e)

-- ---- one term more, as loops count
joined-last : {X : Type 0} (ls : List (List X)) (l : List X) → joined (ls ++ (l ∷ [])) ≡ joined ls ++ l
unfolding joined
joined-last [] l = append-nil l
joined-last (k ∷ ls) l = ap (λ m. k ++ m) (joined-last ls l) ∙ sym (append_assoc k (joined ls) l)

map_last : {X Y : Type 0} (f : X → Y) (xs : List X) (x : X) → map f (xs ++ (x ∷ [])) ≡ map f xs ++ (f x ∷ [])
map_last f [] x = refl
map_last {Y = Y} f (y ∷ xs) x = ap (λ (l : List Y). f y ∷ l) (map_last f xs x)

turned : (a b c d : Bool) → ((a || b) || (c || d)) ≡ ((a || c) || (b || d))
turned true b c d = refl
turned false true true d = refl
turned false true false d = refl
turned false false c d = refl

-- a party's name and what it knows, beside those of the parties before it
pub marked-party : (f : ℕ → Term) (g : ℕ → List Term) (n : ℕ) {x : ℕ} {l m k o : List ℕ} → Marked (values f 0 n ++ joined (values g 0 n)) x l m
    → Marked (f n ∷ []) x m k → Marked (g n) x k o → Marked (values f 0 (n + 1) ++ joined (values g 0 (n + 1))) x l o
marked-party f g n d e c =
    let z : n + 1 ≡ suc n = omega arith in
    let y : 0 + n ≡ n = omega arith in
    let names = values f 0 n in
    let known = joined (values g 0 n) in
    rw (z, values-last f 0 n, values-last g 0 n, y, joined-last (values g 0 n) (g n)) (marked-as (marked-then d (marked-then e c))
    (λ q.
    one-append q (names ++ (f n ∷ [])) (known ++ g n)
    ∙ ap₂ ◌||◌ (one-append q names (f n ∷ [])) (one-append q known (g n))
    ∙ turned (occurs_in_one q names) (occurs_in_one q (f n ∷ [])) (occurs_in_one q known) (occurs_in_one q (g n))
    ∙ sym (one-append q (names ++ known) ((f n ∷ []) ++ g n)
    ∙ ap₂ ◌||◌ (one-append q names known) (one-append q (f n ∷ []) (g n)))))

module _ {x : ℕ} {l m k : List ℕ} where
  -- knowledge of one
  pub marked-pooled : (b : List ℕ) (f n : ℕ) → Marked (map (term (table b)) (list_at b f n)) x l m → Marked (term (table b) (pooled b f n) ∷ []) x m k
      → Marked (map (term (table b)) (list_at b f (n + 1))) x l k
  unfolding run
  marked-pooled b f n d e = rw (run-append b (begins b 3 + f) n 1, map_last (term (table b)) (list_at b f n) (pooled b f n)) (marked-then d e)

-- ---- Seen
filled : (e x : ℕ) → 0 < x → marked e true x ≡ 0 → ⊥
unfolding marked pick
filled zero x h z = omega arith
filled (suc e) x h z = omega arith

pub seen_none : (b : List ℕ) (k : List Bool) (l : List ℕ) → ((r : ℕ) → get_or k r false ≡ false) → Seen b k l
seen_none b k l z r q n o = absurd (true≢false (sym n ∙ z r))

-- marking takes no entry away
pub seen-marked : (b : List ℕ) (k : List Bool) {ts : List Term} {x : ℕ} {l m : List ℕ} → Seen b k l → Marked ts x l m → Seen b k m
seen-marked b k {ts} {x} {l} {m} s d r q n o z = s r q n o (sym (kept (get_or l q 0) x (occurs_in_one q ts) (s r q n o)) ∙ sym (d.each q) ∙ z)

-- a row that was marked is seen
pub seen_more : (b : List ℕ) (k : List Bool) (r : ℕ) {x : ℕ} {l m : List ℕ} → 0 < x → r < length k → Marked (term (table b) r ∷ []) x l m → Seen b k m
    → Seen b (set k r true) m
unfolding occurs_in_one
seen_more b k r {x} {l} {m} h j d s p q n o z = go (ℕ_discrete p r)
  where
    go : Dec (p ≡ r) → ⊥
    go (yes e) =
        let w : (occurs q (term (table b) r) || false) ≡ true = or-false _ ∙ ap (λ i. occurs q (term (table b) i)) (sym e) ∙ o in
        filled (get_or l q 0) x h (ap (λ y. marked (get_or l q 0) y x) (sym w) ∙ sym (d.each q) ∙ z)
    go (no e) = s p q (sym (get_or-set_other k r p true false e) ∙ n) o z

-- and need not be marked again
pub marked-seen : (b : List ℕ) (k : List Bool) (r x : ℕ) (l : List ℕ) → length l ≡ 1024 → Seen b k l → get_or k r false ≡ true
    → Marked (term (table b) r ∷ []) x l l
unfolding occurs_in_one
marked-seen b k r x l h s n = record { sized = h; each = λ q. go q (occurs q (term (table b) r)) refl }
  where
    go : (q : ℕ) (o : Bool) → occurs q (term (table b) r) ≡ o → get_or l q 0 ≡ marked (get_or l q 0) (occurs q (term (table b) r) || false) x
    go q true e = sym (kept (get_or l q 0) x _ (s r q n e))
    go q false e = sym (ap (λ y. marked (get_or l q 0) (y || false) x) e ∙ marked-never (get_or l q 0) x)
