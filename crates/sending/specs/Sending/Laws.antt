-- Laws of sending: what building a row makes, by the row's kind; the first atom that can't be made; a SEND's words. Assumes nothing.
use Prim.Native.Nat.{ℕ, zero, suc, ◌+◌, ◌-◌, ◌≤◌, ◌<◌}
use Rattle.std.specs.Prelude.{Bool, ◌⊎◌, ◌≡◌, eqb, get_or, set, Option, None, Some}
use Rattle.std.proofs.Math.Bool.{true, false}
use mathlib.Core.List.{List, [], ◌∷◌, ◌++◌, map, map-map, append-nil}
use Rattle.std.proofs.Math.Logic.{inl, inr, ⊎_elim}
use Rattle.std.proofs.Math.Path.{refl, ap}
use Rattle.std.proofs.Common.{sym, ap₂, ◌∙◌, arith}
use Rattle.std.proofs.Math.ListN.{length}
use Rattle.std.proofs.lemmas.List.{length-map}
use borrow.Author.Tests.{eq-eqb, ne_eqb}
use Rattle.words.specs.Choice.{pick}
use Rattle.words.specs.First.{first, any}
use Rattle.words.specs.First.Laws.{clash, first-at, any_at, any_none}
use Rattle.words.specs.Run.Laws.{run_length}
use Rattle.terms.specs.Term.{Term, gathered}
use Rattle.terms.specs.Image.{words}
use Rattle.terms.specs.Kind.{Shape}
use Rattle.terms.specs.Table.{form, term, terms}
use Rattle.book.specs.Layout.{table, rows, begins, kind, parts, list_at}
use Rattle.book.specs.Valid.{Valid}
use Rattle.book.specs.Valid.Laws.{row-form, row-shape, row-atom}
use Rattle.translation.specs.Dictionary.{Held, Dictionary, is_held, enter, image, images}
use Rattle.translation.specs.Build.{Built, built_or, build, build_all}
use Rattle.translation.specs.Along.Laws.{build_all-images}
use Rattle.translation.specs.Receive.{Event}
use Rattle.translation.specs.Program.{sent}
use Rattle.translation.specs.Listing.{event_words, program_words}
use Rattle.translation.proofs.Listing.Laws.{program-append}
use Rattle.book.specs.Stop.{stop}
use Rattle.book.specs.declared.Against.{Against}
use Rattle.book.specs.declared.Stop.{Stop}
use Rattle.book.specs.Span.{entry}
use Rattle.book.specs.Span.Laws.{list-none, list-more}
use Rattle.holding.specs.Entry.{held_of}
use Rattle.holding.specs.View.{row_of, view}
use Rattle.holding.specs.View.Laws.{view-row, view-set}
use Rattle.holding.specs.AtRow.{concat, images_at}
use Rattle.holding.specs.AtRow.Laws.{count-all, words-all}
use Rattle.sending.specs.Sending.{Making, making, all_making, or_stop, first_in}

-- ---- making: nothing, one atom, one after another
abbrev pub nothing : Dictionary → Making
nothing δ = record { dictionary = δ; made = [] }

abbrev pub one : ℕ → ℕ → Dictionary → Making
one i r δ = record { dictionary = enter δ (Term.atom r) (Held.made i); made = r ∷ [] }

abbrev pub both : Making → Making → Making
both g h = record { dictionary = h.dictionary; made = g.made ++ h.made }

both-nothing : (g : Making) → g ≡ both g (nothing g.dictionary)
both-nothing g = sym (ap (λ l. record { dictionary = g.dictionary; made = l }) (append-nil g.made))

making-or : (h : Held) (t : Term) (δ : Dictionary) (b : Built) → making (built_or h t δ b) ≡ pick (is_held h) (nothing δ) (making b)
unfolding built_or pick
making-or Held.free t δ b = refl
making-or Held.given t δ b = refl
making-or (Held.made i) t δ b = refl
making-or (Held.stored i x) t δ b = refl

-- ---- making, of a form
making-form : (i r k g : ℕ) (ts : List Term) (δ : Dictionary) → k ≤ 4 → Shape k (length ts)
    → making (build i (form r k g (gathered ts)) δ)
    ≡ pick (is_held (δ (form r k g (gathered ts)))) (nothing δ) (pick (eqb k 0) (one i r δ) (all_making (build_all i (gathered ts) δ)))
unfolding form build gathered pick
making-form i r zero g ts δ l s = making-or _ _ δ _
making-form i r (suc zero) g ts δ l s = making-or _ _ δ _
making-form i r (suc (suc zero)) g [] δ l s = absurd (omega arith)
making-form i r (suc (suc zero)) g (t ∷ ts) δ l s = making-or _ _ δ _
making-form i r (suc (suc (suc zero))) g [] δ l s = absurd (omega arith)
making-form i r (suc (suc (suc zero))) g (t ∷ []) δ l s =
    making-or _ _ δ _ ∙ ap (pick (is_held (δ (Term.public t))) (nothing δ)) (both-nothing (making (build i t δ)))
making-form i r (suc (suc (suc zero))) g (t ∷ u ∷ ts) δ l s = absurd (omega arith)
making-form i r (suc (suc (suc (suc zero)))) g [] δ l s = absurd (omega arith)
making-form i r (suc (suc (suc (suc zero)))) g (t ∷ []) δ l s =
    making-or _ _ δ _ ∙ ap (pick (is_held (δ (Term.private t))) (nothing δ)) (both-nothing (making (build i t δ)))
making-form i r (suc (suc (suc (suc zero)))) g (t ∷ u ∷ ts) δ l s = absurd (omega arith)
making-form i r (suc (suc (suc (suc (suc k))))) g ts δ l s = absurd (omega arith)

-- ---- a row of a valid book
module _ (i : ℕ) (b e : List ℕ) (v : Valid b) (r : ℕ) (h : r < rows b) where
  making-row : making (build i (term (table b) r) (view b e))
      ≡ pick (is_held (held_of (get_or e r 0))) (nothing (view b e))
      (pick (eqb (kind b r) 0) (one i r (view b e)) (all_making (build_all i (terms (table b) (parts b r)) (view b e))))
  unfolding terms
  making-row =
      ap (λ t. making (build i t (view b e))) (row-form b v r h) ∙ making-form i r _ _ _ (view b e) (v.rows_keep r h).kinded (row-shape b v r h)
      ∙ rw (← row-form b v r h, view-row b v e r h)

  pub making-held : is_held (held_of (get_or e r 0)) ≡ true → making (build i (term (table b) r) (view b e)) ≡ nothing (view b e)
  unfolding pick
  making-held n = rw (making-row, n)

  pub making-atom : is_held (held_of (get_or e r 0)) ≡ false → kind b r ≡ 0 → making (build i (term (table b) r) (view b e)) ≡ one i r (view b e)
  unfolding pick
  making-atom n k = rw (making-row, n, eq-eqb (kind b r) 0 k)

  pub making-parts : is_held (held_of (get_or e r 0)) ≡ false → (kind b r ≡ 0 → ⊥)
      → making (build i (term (table b) r) (view b e)) ≡ all_making (build_all i (terms (table b) (parts b r)) (view b e))
  unfolding pick
  making-parts n k = rw (making-row, n, ne_eqb (kind b r) 0 k)

  -- the made atom's entry, the word x
  pub one_set : (x : ℕ) → held_of x ≡ Held.made i → kind b r ≡ 0 → r < length e → view b (set e r x) ≡ (one i r (view b e)).dictionary
  one_set x d k l = view-set b v e r x h l ∙ ap₂ (enter (view b e)) (row-atom b v r h k) d

-- ---- lists of rows, one after another
pub making-none : (i : ℕ) (b : List ℕ) (f n : ℕ) (δ : Dictionary) → n ≡ 0 → all_making (build_all i (terms (table b) (list_at b f n)) δ) ≡ nothing δ
unfolding build terms gathered
making-none i b f n δ z = rw (list-none b f n (omega arith))

pub making-more : (i : ℕ) (b : List ℕ) (f n : ℕ) (δ : Dictionary) → 0 < n
    → all_making (build_all i (terms (table b) (list_at b f n)) δ)
    ≡ both (making (build i (term (table b) (entry b f)) δ))
    (all_making (build_all i (terms (table b) (list_at b (f + 1) (n - 1))) (build i (term (table b) (entry b f)) δ).dictionary))
unfolding build terms gathered
making-more i b f n δ h = rw (list-more b f n h)

-- ---- first_in
pub first-append : (w : ℕ → Option Against) (s : ℕ) (x : Option Stop) (l m : List ℕ) → first_in w s x (l ++ m) ≡ first_in w s (first_in w s x l) m
unfolding first_in
first-append w s x [] m = refl
first-append w s x (r ∷ l) m = first-append w s (or_stop x (w r) s r) l m

first-stays : (w : ℕ → Option Against) (s : ℕ) (x : Stop) (rs : List ℕ) → first_in w s (Some x) rs ≡ Some x
unfolding first_in
first-stays w s x [] = refl
first-stays w s x (r ∷ rs) = first-stays w s x rs

-- t tells against which rows something stands, and a what
module _ (w : ℕ → Option Against) (s : ℕ) (t : ℕ → Bool) (a : ℕ → Against)
    (free : (r : ℕ) → t r ≡ false → w r ≡ None) (bars : (r : ℕ) → t r ≡ true → w r ≡ Some (a r)) where
  -- nothing stands against the rows, or something does against one and nothing against those before it
  record NoneStops (rs : List ℕ) : Type 0 where
    none : (k : ℕ) → k < length rs → t (get_or rs k 0) ≡ false
    passes : first_in w s None rs ≡ None

  record OneStops (rs : List ℕ) : Type 0 where
    place : ℕ
    within : place < length rs
    before : (k : ℕ) → k < place → t (get_or rs k 0) ≡ false
    barred : t (get_or rs place 0) ≡ true
    stops : first_in w s None rs ≡ Some (stop (a (get_or rs place 0)) s (get_or rs place 0))

  none-or-one : (rs : List ℕ) → NoneStops rs ⊎ OneStops rs
  unfolding first_in
  none-or-one [] = inl (record { none = λ k h. absurd (omega arith); passes = refl })
  none-or-one (r ∷ rs) = go (t r) refl (none-or-one rs)
    where
      go : (x : Bool) → t r ≡ x → NoneStops rs ⊎ OneStops rs → NoneStops (r ∷ rs) ⊎ OneStops (r ∷ rs)
      go true e o =
          inr (record {
            place = 0;
            within = omega arith;
            before = λ k h. absurd (omega arith);
            barred = e;
            stops = ap (λ y. first_in w s (or_stop None y s r) rs) (bars r e) ∙ first-stays w s (stop (a r) s r) rs;
          })
      go false e o = ⊎_elim
          (λ (n : NoneStops rs). inl (record {
            none = λ k h. later k h n.none;
            passes = ap (λ y. first_in w s (or_stop None y s r) rs) (free r e) ∙ n.passes;
          }))
          (λ (n : OneStops rs). inr (record {
            place = suc n.place;
            within = let l = n.within in omega arith;
            before = λ k h. sooner k n.place h n.before;
            barred = n.barred;
            stops = ap (λ y. first_in w s (or_stop None y s r) rs) (free r e) ∙ n.stops;
          }))
          o
        where
          later : (k : ℕ) → k < length (r ∷ rs) → ((j : ℕ) → j < length rs → t (get_or rs j 0) ≡ false) → t (get_or (r ∷ rs) k 0) ≡ false
          later zero h f = e
          later (suc k) h f = f k (omega arith)

          sooner : (k p : ℕ) → k < suc p → ((j : ℕ) → j < p → t (get_or rs j 0) ≡ false) → t (get_or (r ∷ rs) k 0) ≡ false
          sooner zero p h f = e
          sooner (suc k) p h f = f k (omega arith)

  module _ (rs : List ℕ) where
    -- it stops at the first of the rows against which something stands, where there is one
    pub some-stops : any (λ j. t (get_or rs j 0)) (length rs) ≡ true
        → first_in w s None rs
        ≡ Some (stop (a (get_or rs (first (λ j. t (get_or rs j 0)) (length rs)) 0)) s (get_or rs (first (λ j. t (get_or rs j 0)) (length rs)) 0))
    some-stops e = ⊎_elim
        (λ (n : NoneStops rs). absurd (clash e (any_none (λ j. t (get_or rs j 0)) (length rs) n.none)))
        (λ (n : OneStops rs). n.stops
        ∙ ap (λ k. Some (stop (a (get_or rs k 0)) s (get_or rs k 0)))
        (first-at (λ j. t (get_or rs j 0)) (length rs) n.place n.within n.before n.barred))
        (none-or-one rs)

    -- and else nowhere
    pub none-stops : any (λ j. t (get_or rs j 0)) (length rs) ≡ false → first_in w s None rs ≡ None
    none-stops e = ⊎_elim (λ (n : NoneStops rs). n.passes)
        (λ (n : OneStops rs). absurd (clash (any_at (λ j. t (get_or rs j 0)) (length rs) n.place n.within n.barred) e))
        (none-or-one rs)

-- ---- the words of events
module _ (row : Term → ℕ) where
  pub news-append : (l m : List ℕ) → program_words row (map Event.new (l ++ m)) ≡ program_words row (map Event.new l) ++ program_words row (map Event.new m)
  unfolding program_words event_words
  news-append [] m = refl
  news-append (r ∷ l) m = ap (λ k. 1 ∷ r ∷ k) (news-append l m)

-- of a SEND in the dictionary that the entries hold
send-words : (b e : List ℕ) (s f n : ℕ)
    → program_words (row_of b) (Event.sends s (images (view b e) (terms (table b) (list_at b f n))) ∷ []) ≡ 2 ∷ s ∷ n ∷ images_at b e f n
unfolding program_words event_words terms images_at
send-words b e s f n =
    append-nil _
    ∙ ap₂ (λ c l. 2 ∷ s ∷ c ∷ l)
    (count-all (view b e) (map (term (table b)) (list_at b f n)) ∙ length-map (list_at b f n) (term (table b))
    ∙ run_length b (begins b 3 + f) n)
    (words-all (row_of b) (view b e) (map (term (table b)) (list_at b f n))
    ∙ ap concat (map-map (λ t. words (row_of b) (image (view b e) t)) (term (table b)) (list_at b f n)))

-- a step's events: the NEWs, then the SEND with the images in the dictionary afterwards
pub sent-words : (b e : List ℕ) (s f n : ℕ) (δ : Dictionary) → view b e ≡ (build_all s (terms (table b) (list_at b f n)) δ).dictionary
    → program_words (row_of b) (sent s (build_all s (terms (table b) (list_at b f n)) δ)).events
    ≡ program_words (row_of b) (map Event.new (build_all s (terms (table b) (list_at b f n)) δ).made) ++ (2 ∷ s ∷ n ∷ images_at b e f n)
sent-words b e s f n δ d =
    let ts = terms (table b) (list_at b f n) in
    program-append (row_of b) (map Event.new (build_all s ts δ).made) (Event.sends s (build_all s ts δ).images ∷ [])
    ∙ ap (λ l. program_words (row_of b) (map Event.new (build_all s ts δ).made) ++ l)
    (ap (λ i. program_words (row_of b) (Event.sends s i ∷ [])) (build_all-images s ts δ ∙ ap (λ ε. images ε ts) (sym d)) ∙ send-words b e s f n)
