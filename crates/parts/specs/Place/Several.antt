-- Several things compared one by one, whatever they are. Assumes nothing.
use Rattle.std.specs.Prelude.{ℕ, suc, ◌+◌, ◌-◌, ◌≤◌, ◌<◌, true, false, drop, Option as Answer, IsSome}
use mathlib.Core.List.{List, [], ◌∷◌}
use Rattle.std.proofs.Common.{sym, ◌∙◌, arith}
use Rattle.std.proofs.Math.Option.{none, some}
use Rattle.std.proofs.Math.Path.{◌≡◌, refl, ap}
use Rattle.words.specs.Choice.{then}
use Rattle.words.specs.First.Laws.{clash}
use Rattle.typing.specs.Types.{same_list}
use Rattle.typing.specs.Reading.{Read, ahead, several}
use Rattle.spans.specs.Behind.{rest_of, At, Ends}
use Rattle.spans.specs.Behind.Laws.{rest-ahead, ends_some}
use Rattle.alike.specs.Same.{value_or, test}
use Rattle.alike.specs.Same.Laws.{test-yes, test-no, test-true}
use Rattle.parts.specs.Place.{list_in}
use Rattle.parts.specs.Place.Laws.{rest_some}

module _ {A : Type 0} (r : List ℕ → Read A) (d : A) (same : (x y : A) → Dec (x ≡ y)) where
  -- the first of several, and the others
  pub first_of : (k : ℕ) (u z : List ℕ) → rest_of (several r (suc k) u) ≡ some z
      → (v : List ℕ) × (r u ≡ some (value_or d (r u), v)) × (rest_of (several r k v) ≡ some z)
      × (value_or [] (several r (suc k) u) ≡ value_or d (r u) ∷ value_or [] (several r k v))
  unfolding several then value_or rest_of ahead
  first_of k u z e = go (r u) e
    where
      others : (a : A) (o : Read (List A)) → rest_of (ahead a o) ≡ some z → value_or [] (ahead a o) ≡ a ∷ value_or [] o
      others a none h = cc
      others a (some q) h = refl

      go : (o : Read A) → rest_of (then o (λ p. ahead p.0 (several r k p.1))) ≡ some z
          → (v : List ℕ) × (o ≡ some (value_or d o, v)) × (rest_of (several r k v) ≡ some z)
          × (value_or [] (then o (λ p. ahead p.0 (several r k p.1))) ≡ value_or d o ∷ value_or [] (several r k v))
      go none h = cc
      go (some p) h = (p.1, refl, sym (rest-ahead p.0 (several r k p.1)) ∙ h, others p.0 (several r k p.1) h)

-- ---- two lists of things
module _ {A : Type 0} (r : List ℕ → Read A) where
  -- m of them are still to come from the place i on, and end at `end`
  pub record Along (w : List ℕ) (end m i : ℕ) : Type 0 where
    pub reads : rest_of (several r m (drop i w)) ≡ some (drop end w)

  list-none : (w : List ℕ) (i : ℕ) → list_in r w i 0 ≡ []
  unfolding list_in several value_or
  list-none w i = refl

  -- n of k are passed, and were the same: what is still to come is the same exactly if all are
  pub record Pairing (u : List ℕ) (a e : ℕ) (v : List ℕ) (b f k i j n : ℕ) : Type 0 where
    pub left : Along u e (k - n) i
    pub right : Along v f (k - n) j
    pub to : list_in r u a k ≡ list_in r v b k → list_in r u i (k - n) ≡ list_in r v j (k - n)
    pub from : list_in r u i (k - n) ≡ list_in r v j (k - n) → list_in r u a k ≡ list_in r v b k

  sub-zero : (k : ℕ) → k - 0 ≡ k
  sub-zero k = omega arith

  pub pairing-begin : (u : List ℕ) (a e : ℕ) (v : List ℕ) (b f k : ℕ) → At u a (rest_of (several r k (drop a u))) e
      → At v b (rest_of (several r k (drop b v))) f
      → Pairing u a e v b f k a b 0
  pairing-begin u a e v b f k x y =
      record {
        left = record { reads = rw (sub-zero k) x.rest };
        right = record { reads = rw (sub-zero k) y.rest };
        to = λ z. rw (sub-zero k) z;
        from = λ z. rw (sub-zero k) at z;
      }

-- ---- where each has its value at its place
module _ {A : Type 0} (r : List ℕ → Read A) (value : List ℕ → ℕ → A) (same : (x y : A) → Dec (x ≡ y))
    (reads : (w : List ℕ) (a e : ℕ) → rest_of (r (drop a w)) ≡ some (drop e w) → r (drop a w) ≡ some (value w a, drop e w)) where
  module _ (w : List ℕ) (end m i : ℕ) (t : Along r w end m i) (h : 0 < m) where
    more : m ≡ suc (m - 1)
    more = omega arith

    head : (v : List ℕ) × (r (drop i w) ≡ some (value_or (value w i) (r (drop i w)), v)) × (rest_of (several r (m - 1) v) ≡ some (drop end w))
        × (value_or [] (several r (suc (m - 1)) (drop i w)) ≡ value_or (value w i) (r (drop i w)) ∷ value_or [] (several r (m - 1) v))
    head = first_of r (value w i) same (m - 1) (drop i w) (drop end w) (ap (λ (k : ℕ). rest_of (several r k (drop i w))) (sym more) ∙ t.reads)

    along-found : (o : Answer ℕ) → Ends w i (rest_of (r (drop i w))) o → IsSome o
    along-found o q = ends_some w i _ head.0 o q (rest_some _ _ _ head.1)

    module _ (e : ℕ) (b : At w i (rest_of (r (drop i w))) e) where
      behind-is : head.0 ≡ drop e w
      behind-is =
          let c : some head.0 ≡ some (drop e w) = sym (rest_some _ _ _ head.1) ∙ b.rest in
          cc

      value_is : value_or (value w i) (r (drop i w)) ≡ value w i
      unfolding value_or
      value_is = ap (value_or (value w i)) (reads w i e b.rest)

      along-next : Along r w end (m - 1) e
      along-next = record { reads = ap (λ (u : List ℕ). rest_of (several r (m - 1) u)) (sym behind-is) ∙ head.2 }

      along-list : list_in r w i m ≡ value w i ∷ list_in r w e (m - 1)
      unfolding list_in
      along-list =
          ap (λ (k : ℕ). value_or [] (several r k (drop i w))) more ∙ head.3 ∙ ap (λ (x : A). x ∷ value_or [] (several r (m - 1) head.0)) value_is
          ∙ ap (λ (u : List ℕ). value w i ∷ value_or [] (several r (m - 1) u)) behind-is

  module _ (u : List ℕ) (a e : ℕ) (v : List ℕ) (b f k i j n : ℕ) (t : Pairing r u a e v b f k i j n) where
    module _ (h : n < k) where
      due : 0 < k - n
      due = omega arith

      less : k - n - 1 ≡ k - (n + 1)
      less = omega arith

      pub pairing-left : (o : Answer ℕ) → Ends u i (rest_of (r (drop i u))) o → IsSome o
      pairing-left o q = along-found u e (k - n) i t.left due o q

      pub pairing-right : (o : Answer ℕ) → Ends v j (rest_of (r (drop j v))) o → IsSome o
      pairing-right o q = along-found v f (k - n) j t.right due o q

      module _ (x : ℕ) (p : At u i (rest_of (r (drop i u))) x) (y : ℕ) (q : At v j (rest_of (r (drop j v))) y) where
        left-list : list_in r u i (k - n) ≡ value u i ∷ list_in r u x (k - (n + 1))
        left-list = along-list u e (k - n) i t.left due x p ∙ ap (λ (m : ℕ). value u i ∷ list_in r u x m) less

        right-list : list_in r v j (k - n) ≡ value v j ∷ list_in r v y (k - (n + 1))
        right-list = along-list v f (k - n) j t.right due y q ∙ ap (λ (m : ℕ). value v j ∷ list_in r v y m) less

        pub pairing-differ : false ≡ test (same (value u i) (value v j)) → false ≡ test (same_list same (list_in r u a k) (list_in r v b k))
        pairing-differ m =
            sym (test-no (same_list same (list_in r u a k) (list_in r v b k)) (λ g.
            let l : value u i ∷ list_in r u x (k - (n + 1)) ≡ value v j ∷ list_in r v y (k - (n + 1)) = sym left-list ∙ t.to g ∙ right-list in
            let s : value u i ≡ value v j = cc in
            clash (test-yes (same (value u i) (value v j)) s) (sym m)))

        pub pairing-again : true ≡ test (same (value u i) (value v j)) → Pairing r u a e v b f k x y (n + 1)
        pairing-again m =
            let s : value u i ≡ value v j = test-true (same (value u i) (value v j)) (sym m) in
            record {
              left = rw less at (along-next u e (k - n) i t.left due x p);
              right = rw less at (along-next v f (k - n) j t.right due y q);
              to = λ g. tails (sym left-list ∙ t.to g ∙ right-list);
              from = λ g. t.from (left-list ∙ joined-up s g ∙ sym right-list);
            }
          where
            tails : {k l : List A} {x y : A} → x ∷ k ≡ y ∷ l → k ≡ l
            tails o = cc

            joined-up : {k l : List A} {x y : A} → x ≡ y → k ≡ l → x ∷ k ≡ y ∷ l
            joined-up o g = cc

    pub pairing-done : k ≤ n → true ≡ test (same_list same (list_in r u a k) (list_in r v b k))
    pairing-done h =
        let z : k - n ≡ 0 = omega arith in
        sym (test-yes (same_list same (list_in r u a k) (list_in r v b k))
        (t.from (ap (list_in r u i) z ∙ list-none r u i ∙ sym (list-none r v j) ∙ ap (list_in r v j) (sym z))))
