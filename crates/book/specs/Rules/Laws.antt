-- Each test and its predicate agree. Assumes nothing.
use Rattle.std.specs.Prelude.{ℕ, ◌≤◌, Bool, true, false, not, ◌||◌, List, [], ◌∷◌, ◌↔◌, ◌≡◌, refl, ltb, eqb}
use Rattle.std.proofs.Common.{true≢false, sym, ap, ◌∙◌, ltb-false, leb-false, eqb-true, le-ltb, eq-eqb, ne_eqb}
use Rattle.std.proofs.lemmas.Bool.{eqb-false, lt-leb, not-false, not-true}
use Rattle.words.specs.Choice.{pick}
use Rattle.words.specs.Choice.Laws.{pick_true, pick-false}
use Rattle.words.specs.Run.Laws.{same-exact}
use Rattle.words.specs.First.{any}
use Rattle.words.specs.First.Laws.{any_none, none_any}
use Rattle.book.specs.Layout.{kind}
use Rattle.book.specs.Rules.{one_of, outside, differs, CountRule, count_breaks, OffsetRule, offset_breaks, ListRule, list_breaks, RowRule, row_breaks, SizeRule, size_breaks, Alike, alike, SingleRule, repeats, PartyRule, name_breaks, party_breaks, StepRule, step_breaks, TotalRule, total_breaks}

-- ---- the small tests
-- none of the tests holds
abbrev pub NoneOf : List Bool → Type 0
NoneOf [] = Unit {0}
NoneOf (t ∷ ts) = (t ≡ false) × NoneOf ts

pub none_of : (ts : List Bool) → one_of ts ≡ false → NoneOf ts
unfolding one_of
none_of [] e = tt
none_of (t ∷ ts) e = go t refl (none_of ts)
  where
    go : (v : Bool) → t ≡ v → (one_of ts ≡ false → NoneOf ts) → (t ≡ false) × NoneOf ts
    go true q h = absurd (true≢false (sym (pick_true t true (one_of ts) q) ∙ e))
    go false q h = (q, h (sym (pick-false t true (one_of ts) q) ∙ e))

pub of_none : (ts : List Bool) → NoneOf ts → one_of ts ≡ false
unfolding one_of
of_none [] n = refl
of_none (t ∷ ts) n = pick-false t true (one_of ts) n.0 ∙ of_none ts n.1

pub outside-false : (lo hi x : ℕ) → outside lo hi x ≡ false → (lo ≤ x) × (x ≤ hi)
unfolding outside
outside-false lo hi x w = go (ltb x lo) (ltb hi x) refl refl w
  where
    go : (p q : Bool) → ltb x lo ≡ p → ltb hi x ≡ q → (p || q) ≡ false → (lo ≤ x) × (x ≤ hi)
    go true q u v w = absurd (true≢false w)
    go false true u v w = absurd (true≢false w)
    go false false u v w = (ltb-false x lo u, ltb-false hi x v)

pub outside-in : (lo hi x : ℕ) → lo ≤ x → x ≤ hi → outside lo hi x ≡ false
unfolding outside
outside-in lo hi x h k = rw (le-ltb x lo h, le-ltb hi x k)

pub differs_false : (x y : ℕ) → differs x y ≡ false → x ≡ y
unfolding differs
differs_false x y e = eqb-true x y (not-false (eqb x y) e)

pub differs-same : (x y : ℕ) → x ≡ y → differs x y ≡ false
unfolding differs
differs-same x y e = rw (eq-eqb x y e)

pub differs_true : (x y : ℕ) → (x ≡ y → ⊥) → differs x y ≡ true
unfolding differs
differs_true x y n = rw (ne_eqb x y n)

-- ---- the header
pub count-exact : (b : List ℕ) (i : ℕ) → (count_breaks b i ≡ false) ↔ CountRule b i
unfolding count_breaks
count-exact b i =
    (λ e. (let o = outside-false _ _ _ e in record { low = o.0; high = o.1 }), λ r. outside-in _ _ _ r.low r.high)

pub offset-exact : (b : List ℕ) (i : ℕ) → (offset_breaks b i ≡ false) ↔ OffsetRule b i
unfolding offset_breaks
offset-exact b i = (λ e. differs_false _ _ e, λ r. differs-same _ _ r)

-- ---- a list in the pool
pub list-exact : (b : List ℕ) (lo hi n f before bound : ℕ) → (list_breaks b lo hi n f before bound ≡ false) ↔ ListRule b lo hi n f before bound
unfolding list_breaks
list-exact b lo hi n f before bound = (
  λ e.
      let t = none_of _ e in
      let o = outside-false _ _ _ t.0 in
      record {
        low = o.0;
        high = o.1;
        placed = differs_false _ _ t.1.0;
        inside = ltb-false _ _ t.1.1.0;
        each = λ j h. leb-false _ _ (none_any _ _ t.1.1.1.0 j h);
      },
  λ r. of_none _ (
    outside-in _ _ _ r.low r.high,
    (differs-same _ _ r.placed, (le-ltb _ _ r.inside, (any_none _ _ (λ j h. lt-leb _ _ (r.each j h)), tt))),
  ),
)

-- ---- a row
pub row-exact : (b : List ℕ) (r : ℕ) → (row_breaks b r ≡ false) ↔ RowRule b r
unfolding row_breaks
row-exact b r = (
  λ e. (let t = none_of _ e in record { kinded = ltb-false _ _ t.0; tagged = ltb-false _ _ t.1.0; listed = (list-exact b _ _ _ _ _ _).0 t.1.1.0 }),
  λ o. of_none _ (le-ltb _ _ o.kinded, (le-ltb _ _ o.tagged, ((list-exact b _ _ _ _ _ _).1 o.listed, tt))),
)

pub size_exact : (b : List ℕ) (r : ℕ) → (size_breaks b r ≡ false) ↔ SizeRule b r
unfolding size_breaks
size_exact b r = (λ e. ltb-false _ _ e, λ h. le-ltb _ _ h)

pub alike-exact : (b : List ℕ) (r k : ℕ) → (alike b r k ≡ true) ↔ Alike b r k
unfolding alike
alike-exact b r k = (
  λ e.
      let t = none_of _ (not-true _ e) in
      record { kinds = differs_false _ _ t.0; tags = differs_false _ _ t.1.0; partss = (same-exact _ _).0 (not-false _ t.1.1.0) },
  λ a. ap not (of_none _ (differs-same _ _ a.kinds, (differs-same _ _ a.tags, (ap not ((same-exact _ _).1 a.partss), tt)))),
)

pub not_alike : (b : List ℕ) (r k : ℕ) → (Alike b r k → ⊥) → alike b r k ≡ false
not_alike b r k h = go (alike b r k) refl
  where
    go : (v : Bool) → alike b r k ≡ v → alike b r k ≡ false
    go true e = absurd (h ((alike-exact b r k).0 e))
    go false e = e

pub single-exact : (b : List ℕ) (r : ℕ) → (repeats b r ≡ false) ↔ SingleRule b r
unfolding repeats
single-exact b r = (λ e. to e, λ h. from (eqb (kind b r) 0) refl h)
  where
    to : pick (eqb (kind b r) 0) false (any (alike b r) r) ≡ false → SingleRule b r
    to e n k l a =
        true≢false (sym ((alike-exact b r k).1 a) ∙ none_any (alike b r) r (sym (pick-false _ _ _ (ne_eqb _ _ n)) ∙ e) k l)

    from : (v : Bool) → eqb (kind b r) 0 ≡ v → SingleRule b r → pick (eqb (kind b r) 0) false (any (alike b r) r) ≡ false
    from true e h = pick_true _ _ _ e
    from false e h = pick-false _ _ _ e ∙ any_none (alike b r) r (λ k l. not_alike b r k (h (eqb-false _ _ e) k l))

-- ---- a party
pub party-exact : (b : List ℕ) (p : ℕ) → (party_breaks b p ≡ false) ↔ PartyRule b p
unfolding party_breaks name_breaks
party-exact b p = (
  λ e.
      let t = none_of _ e in
      let n = none_of _ t.0 in
      record {
        named = leb-false _ _ n.0;
        atomic = differs_false _ _ n.1.0;
        alone = λ k h. eqb-false _ _ (none_any _ _ n.1.1.0 k h);
        marked = ltb-false _ _ t.1.0;
        listed = (list-exact b _ _ _ _ _ _).0 t.1.1.0;
        rising = λ j h. leb-false _ _ (none_any _ _ t.1.1.1.0 j h);
      },
  λ o. of_none _ (
    of_none _ (lt-leb _ _ o.named, (differs-same _ _ o.atomic, (any_none _ _ (λ k h. ne_eqb _ _ (o.alone k h)), tt))),
    (
      le-ltb _ _ o.marked,
      ((list-exact b _ _ _ _ _ _).1 o.listed, (any_none _ _ (λ j h. lt-leb _ _ (o.rising j h)), tt)),
    ),
  ),
)

-- ---- a step
pub step-exact : (b : List ℕ) (s : ℕ) → (step_breaks b s ≡ false) ↔ StepRule b s
unfolding step_breaks
step-exact b s = (
  λ e.
      let t = none_of _ e in
      record {
        sends = leb-false _ _ t.0;
        receives = leb-false _ _ t.1.0;
        two = eqb-false _ _ t.1.1.0;
        listed = (list-exact b _ _ _ _ _ _).0 t.1.1.1.0;
      },
  λ o. of_none _ (lt-leb _ _ o.sends, (lt-leb _ _ o.receives, (ne_eqb _ _ o.two, ((list-exact b _ _ _ _ _ _).1 o.listed, tt)))),
)

-- ---- the pool
pub total-exact : (b : List ℕ) → (total_breaks b ≡ false) ↔ TotalRule b
unfolding total_breaks
total-exact b = (λ e. differs_false _ _ e, λ r. differs-same _ _ r)
