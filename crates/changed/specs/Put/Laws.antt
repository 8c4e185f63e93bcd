-- Laws of changed words. Assumes nothing.
use Prim.Native.Nat.{ℕ, zero, suc, ◌+◌, ◌*◌, ◌-◌, ◌≤◌, ◌<◌}
use Rattle.std.specs.Prelude.{Bool, true, false, eqb, take, Option as Answer, None, IsSome}
use Rattle.std.proofs.Common.{true≢false, ◌∙◌, subst, length-drop, length-append, get_or-drop, drop_of_length-le, drop-cons, drop-drop, eq-eqb, ne_eqb}
use mathlib.Core.List.{List, [], ◌∷◌, ◌++◌, append_assoc}
use Rattle.std.proofs.Math.Option.{none, some}
use Rattle.std.proofs.Math.Path.{◌≡◌, refl, sym, ap}
use native.Mathlib.Omega.{arith}
use Rattle.std.proofs.Math.Decide.{dec_lt, ℕ_discrete as dec_eq}
use Rattle.std.proofs.Math.ListN.{length, drop, get_or}
use Rattle.std.specs.List.{starts_with}
use Rattle.std.proofs.Math.Seq.{take-length}
use Rattle.std.proofs.lemmas.Bool.Decides.{Decides-eqb}
use Rattle.std.proofs.lemmas.Slice.Eq.{starts_is}
use Rattle.words.specs.Choice.{pick, then}
use Rattle.words.specs.Choice.Laws.{pick_true, pick-false}
use Rattle.words.specs.First.Laws.{clash}
use Rattle.words.specs.Run.Laws.{run_take}
use Rattle.typing.specs.Term.{Term, Change, same_term, at_name, at_bound, change_term, term_words}
use Rattle.typing.proofs.Bag.Laws.{words-term}
use Rattle.typing.specs.Reading.{Read, ahead, joined, after, terms, only, term}
use Rattle.spans.specs.Behind.{rest_of, At, Ends, term_turn, term_own, term_parts}
use Rattle.spans.specs.Behind.Terms.{own_at, own-turn, parts-turn}
use Rattle.spans.specs.Behind.Laws.{Counted, ends_some, terms-counted, rest-term, terms-nothing, terms-two, terms-one, terms-cut, terms-empty, turn_small, due-more, due-less, few-more, few-less}
use Rattle.alike.specs.Same.{value_or, term_in, test, all_term_words}
use Rattle.alike.specs.Same.Laws.{some-not, read-value, test-yes, test-no, term-spelled, run-term}
use Rattle.changed.specs.Put.{change_by, There, Found, Stood, leaf_term, step_words, changed_words}
use Rattle.changed.specs.declared.By.{By}
use Rattle.changed.specs.declared.By.TheVariants.{Bind, Put}

-- ---- words that stand at a place: what is left there begins with them
module _ (w : List ℕ) (i : ℕ) (ws : List ℕ) (r : Bool) (l : i ≤ length w) (e : r ≡ starts_with eqb (take (length w - i) (drop i w)) ws) where
  begins : (r ≡ true → drop i w ≡ ws ++ drop (length ws) (drop i w)) × ((v : List ℕ) → drop i w ≡ ws ++ v → r ≡ true)
  begins =
      let whole : take (length w - i) (drop i w) ≡ drop i w =
      ap (λ (n : ℕ). take n (drop i w)) (sym (length-drop i w)) ∙ take-length (drop i w) in
      starts_is Decides-eqb (drop i w) ws r (rw whole at e)

  pub words-here : r ≡ true → Found w i ws (i + length ws)
  words-here h =
      let s = begins.0 h in
      record {
        inside = omega (arith, ap length s, length-append ws (drop (length ws) (drop i w)), length-drop i w);
        words = s ∙ ap (λ (u : List ℕ). ws ++ u) (drop-drop (length ws) i w);
      }

  pub words-not : r ≡ false → (v : List ℕ) → drop i w ≡ ws ++ v → ⊥
  words-not h v d = clash (begins.1 v d) h

-- ---- what a name or a variable becomes
leaf-name : (c n : ℕ) → c ≡ 1 → leaf_term c n ≡ Term.name n
unfolding leaf_term
leaf-name c n e = pick_true (eqb c 1) _ _ (eq-eqb c 1 e)

leaf-bound : (c n : ℕ) → (c ≡ 1 → ⊥) → leaf_term c n ≡ Term.bound n
unfolding leaf_term
leaf-bound c n e = pick-false (eqb c 1) _ _ (ne_eqb c 1 e)

name-here : (n x : ℕ) → n ≡ x → at_name (Change.bind x) n ≡ Term.bound 0
unfolding at_name
name-here n x e = go (eqb n x) (eq-eqb n x e)
  where
    go : (b : Bool) → b ≡ true → (elim b as (λ _. Term) [ true ↦ Term.bound 0 | false ↦ Term.name n ]) ≡ Term.bound 0
    go true h = refl
    go false h = absurd (true≢false (sym h))

name-other : (n x : ℕ) → (n ≡ x → ⊥) → at_name (Change.bind x) n ≡ Term.name n
unfolding at_name
name-other n x e = go (eqb n x) (ne_eqb n x e)
  where
    go : (b : Bool) → b ≡ false → (elim b as (λ _. Term) [ true ↦ Term.bound 0 | false ↦ Term.name n ]) ≡ Term.name n
    go true h = absurd (true≢false h)
    go false h = refl

abbrev becomes : List ℕ → By → ℕ → ℕ → List ℕ
becomes w by c n = term_words (change_term (change_by w by) (leaf_term c n))

module _ (w : List ℕ) (by : By) (x : ℕ) (q : by ≡ Bind x) (c n : ℕ) where
  pub bind-bound : (c ≡ 1 → ⊥) → becomes w by c n ≡ 4 ∷ (n + 1) ∷ []
  unfolding change_term at_bound term_words change_by
  bind-bound d = let one : n + 1 ≡ suc n = omega arith in rw (q, leaf-bound c n d, one)

  pub bind-here : c ≡ 1 → n ≡ x → becomes w by c n ≡ 4 ∷ 0 ∷ []
  unfolding change_term at_name term_words change_by
  bind-here d e = rw (q, leaf-name c n d) (ap term_words (name-here n x e))

  pub bind-name : c ≡ 1 → (n ≡ x → ⊥) → becomes w by c n ≡ 1 ∷ n ∷ []
  unfolding change_term at_name term_words change_by
  bind-name d e = rw (q, leaf-name c n d) (ap term_words (name-other n x e))

pub put-there : (w : List ℕ) (by : By) (m end : ℕ) → by ≡ Put m end → There w by → At w m (rest_of (term (drop m w))) end
put-there w by m end q h = subst (There w) q h

module _ (w : List ℕ) (by : By) (m end : ℕ) (q : by ≡ Put m end) (c n : ℕ) where
  pub put-name : c ≡ 1 → becomes w by c n ≡ 1 ∷ n ∷ []
  unfolding change_term at_name term_words change_by
  put-name d = rw (q, leaf-name c n d)

  pub put-here : (c ≡ 1 → ⊥) → n ≡ 0 → becomes w by c n ≡ term_words (term_in w m)
  unfolding change_term at_bound change_by
  put-here d e = rw (q, leaf-bound c n d, e)

  pub put-bound : (c ≡ 1 → ⊥) → (n ≡ 0 → ⊥) → becomes w by c n ≡ 4 ∷ (n - 1) ∷ []
  unfolding change_term at_bound term_words change_by
  put-bound d e =
      let more : n ≡ suc (n - 1) = omega arith in
      rw (q, leaf-bound c n d) (ap (λ (z : ℕ). term_words (at_bound (Change.put (term_in w m)) z)) more)

  -- the words of the term that is put
  pub put-words : There w by → becomes w by c n ≡ term_words (term_in w m) → becomes w by c n ≡ take (end - m) (drop m w)
  put-words h e =
      let t = put-there w by m end q h in
      e ∙ sym (run-term w m end t) ∙ run_take w m (end - m) (omega (arith, t.after, t.inside))

-- a number that is no word stands nowhere
pub no-word : (w : List ℕ) (i c n : ℕ) → ((k : ℕ) → get_or w k 0 < 4294967296) → (n < 4294967296 → ⊥) → (v : List ℕ)
    → drop i w ≡ c ∷ n ∷ v → ⊥
no-word w i c n f d v e = d (subst (λ (k : ℕ). k < 4294967296) (sym (get_or-drop i w 1 0) ∙ ap (λ (u : List ℕ). get_or u 1 0) e) (f (i + 1)))

-- ---- one step
module _ (ch : Change) (c n m : ℕ) (h : 0 < term_turn c) (e : m ≡ term_parts c) where
  pub step-two : m ≡ 2 → step_words ch c n ≡ c ∷ []
  unfolding step_words
  step-two d = pick_true (eqb (term_turn c) 2) _ _ (eq-eqb (term_turn c) 2 (omega (arith, parts-turn c h)))

  pub step-leaf : (m ≡ 2 → ⊥) → step_words ch c n ≡ term_words (change_term ch (leaf_term c n))
  unfolding step_words
  step-leaf d = pick-false (eqb (term_turn c) 2) _ _ (ne_eqb (term_turn c) 2 (λ z. d (omega (arith, parts-turn c h))))

  pub leaf-inside : (m ≡ 2 → ⊥) → term_turn c ≡ 1
  leaf-inside d = omega (arith, parts-turn c h, turn_small c)

-- ---- several terms changed, by the first word
module _ (ch : Change) where
  words-cons : (M : Term) (l : List Term) → changed_words ch (M ∷ l) ≡ term_words (change_term ch M) ++ changed_words ch l
  unfolding changed_words all_term_words
  words-cons M l = refl

  words-none : changed_words ch [] ≡ []
  unfolding changed_words all_term_words
  words-none = refl

  words-ahead : (M : Term) (r : Read (List Term)) (z : List ℕ) → rest_of r ≡ some z
      → changed_words ch (value_or [] (ahead M r)) ≡ term_words (change_term ch M) ++ changed_words ch (value_or [] r)
  unfolding rest_of ahead then value_or
  words-ahead M none z h = cc
  words-ahead M (some q) z h = words-cons M q.0

  words-joined : (c : ℕ) (f : Term → Term → Term)
      → ((M N : Term) → term_words (change_term ch (f M N)) ≡ c ∷ (term_words (change_term ch M) ++ term_words (change_term ch N)))
      → (m : ℕ) (r : Read (List Term)) → Counted (suc (suc m)) r → (z : List ℕ) → rest_of r ≡ some z
      → changed_words ch (value_or [] (after (joined f) r)) ≡ c ∷ changed_words ch (value_or [] r)
  unfolding rest_of after then joined value_or
  words-joined c f g m none k z h = cc
  words-joined c f g m (some q) k z h = go q.0 (k q.0 q.1 refl)
    where
      go : (l : List Term) → length l ≡ suc (suc m) → changed_words ch (joined f l) ≡ c ∷ changed_words ch l
      go [] d = absurd (omega arith)
      go (M ∷ []) d = absurd (omega arith)
      go (M ∷ N ∷ l) d =
          words-cons (f M N) l ∙ ap (λ (u : List ℕ). u ++ changed_words ch l) (g M N)
          ∙ ap (λ (u : List ℕ). c ∷ u) (append_assoc (term_words (change_term ch M)) (term_words (change_term ch N)) (changed_words ch l)
          ∙ ap (λ (u : List ℕ). term_words (change_term ch M) ++ u) (sym (words-cons N l)) ∙ sym (words-cons M (N ∷ l)))

  two-parts : (c m : ℕ) (u z : List ℕ) → term_turn c ≡ 2 → rest_of (terms u (suc (suc m))) ≡ some z
      → changed_words ch (value_or [] (terms (c ∷ u) (suc m))) ≡ c ∷ changed_words ch (value_or [] (terms u (suc (suc m))))
  unfolding terms term_turn change_term term_words
  two-parts zero m u z e h = absurd (omega arith)
  two-parts (suc zero) m u z e h = absurd (omega arith)
  two-parts (suc (suc zero)) m u z e h = words-joined 2 Term.pair (λ M N. refl) m (terms u (suc (suc m))) (terms-counted u (suc (suc m))) z h
  two-parts (suc (suc (suc zero))) m u z e h = words-joined 3 Term.cipher (λ M N. refl) m (terms u (suc (suc m))) (terms-counted u (suc (suc m))) z h
  two-parts (suc (suc (suc (suc zero)))) m u z e h = absurd (omega arith)
  two-parts (suc (suc (suc (suc (suc c))))) m u z e h = absurd (omega arith)

  one-leaf : (c m n : ℕ) (u z : List ℕ) → term_turn c ≡ 1 → rest_of (terms u m) ≡ some z
      → changed_words ch (value_or [] (terms (c ∷ n ∷ u) (suc m))) ≡ term_words (change_term ch (leaf_term c n)) ++ changed_words ch (value_or [] (terms u m))
  unfolding terms term_turn leaf_term pick
  one-leaf zero m n u z e h = absurd (omega arith)
  one-leaf (suc zero) m n u z e h = words-ahead (Term.name n) (terms u m) z h
  one-leaf (suc (suc zero)) m n u z e h = absurd (omega arith)
  one-leaf (suc (suc (suc zero))) m n u z e h = absurd (omega arith)
  one-leaf (suc (suc (suc (suc zero)))) m n u z e h = words-ahead (Term.bound n) (terms u m) z h
  one-leaf (suc (suc (suc (suc (suc c))))) m n u z e h = absurd (omega arith)

-- ---- along a term's words: what comes at i is what the terms still to come at j become
abbrev pub Begins : List ℕ → List ℕ → Type 0
Begins u ws = (v : List ℕ) × (u ≡ ws ++ v)

pub record Along (w : List ℕ) (ch : Change) (a b f i j due : ℕ) : Type 0 where
  pub reads : rest_of (terms (drop j w) due) ≡ some (drop f w)
  pub few : due ≤ j + 1
  pub inside : i ≤ length w
  pub next : 0 < due → j < length w
  pub to : term_in w a ≡ change_term ch (term_in w b) → Begins (drop i w) (changed_words ch (value_or [] (terms (drop j w) due)))
  pub from : Begins (drop i w) (changed_words ch (value_or [] (terms (drop j w) due))) → term_in w a ≡ change_term ch (term_in w b)

-- where terms are still to come, a word is there
reads-inside : (w : List ℕ) (f j due : ℕ) → rest_of (terms (drop j w) due) ≡ some (drop f w) → 0 < due → j < length w
reads-inside w f j due r h =
    let one_more : due ≡ suc (due - 1) = omega arith in
    elim (dec_lt j (length w)) [
      | yes l ↦ l
      | no l ↦
          absurd (some-not _ _ r
          (ap (λ (m : ℕ). rest_of (terms (drop j w) m)) one_more
          ∙ ap (λ (u : List ℕ). rest_of (terms u (suc (due - 1)))) (drop_of_length-le w {i = j} (omega arith)) ∙ terms-empty (due - 1)))
    ]

one_list : (r : Read (List Term)) → Counted 1 r → (z : List ℕ) → rest_of r ≡ some z → value_or [] r ≡ value_or (Term.bound 0) (only r) ∷ []
unfolding rest_of value_or only then
one_list none c z e = cc
one_list (some p) c z e = go p.0 p.1 (c p.0 p.1 refl)
  where
    go : (l : List Term) (x : List ℕ) → length l ≡ 1
        → l ≡ value_or (Term.bound 0) (elim l as (λ _. Read Term) [ [] ↦ none | a ∷ k ↦ some (a, x) ]) ∷ []
    go [] x d = absurd (omega arith)
    go (T ∷ []) x d = refl
    go (T ∷ U ∷ l) x d = absurd (omega arith)

append-none : (l : List ℕ) → l ++ [] ≡ l
append-none [] = refl
append-none (x ∷ l) = ap (λ (k : List ℕ). x ∷ k) (append-none l)

pub along-begin : (w : List ℕ) (ch : Change) (a e b f : ℕ) → At w a (rest_of (term (drop a w))) e → At w b (rest_of (term (drop b w))) f
    → Along w ch a b f a b 1
unfolding term_in term
along-begin w ch a e b f s t =
    let r = sym (rest-term (drop b w)) ∙ t.rest in
    let one : changed_words ch (value_or [] (terms (drop b w) 1)) ≡ term_words (change_term ch (term_in w b)) =
    ap (changed_words ch) (one_list (terms (drop b w) 1) (terms-counted (drop b w) 1) (drop f w) r) ∙ words-one (term_in w b) in
    let spelled = term-spelled (drop a w) (term_in w a) (drop e w) (read-value (Term.bound 0) (term (drop a w)) (drop e w) s.rest) in
    record {
      reads = r;
      few = omega arith;
      inside = omega (arith, s.after, s.inside);
      next = reads-inside w f b 1 r;
      to = λ z. (drop e w, spelled ∙ ap (λ (M : Term). term_words M ++ drop e w) z ∙ ap (λ (u : List ℕ). u ++ drop e w) (sym one));
      from = λ z.
          (words-term (term_in w a) (change_term ch (term_in w b)) (drop e w) z.0 (sym spelled ∙ z.1 ∙ ap (λ (u : List ℕ). u ++ z.0) one)).0;
    }
  where
    words-one : (M : Term) → changed_words ch (M ∷ []) ≡ term_words (change_term ch M)
    words-one M = words-cons ch M [] ∙ ap (λ (u : List ℕ). term_words (change_term ch M) ++ u) (words-none ch) ∙ append-none (term_words (change_term ch M))

-- what begins with words behind others
begins-past : (w : List ℕ) (i r : ℕ) (us vs : List ℕ) → Found w i us r → Begins (drop i w) (us ++ vs) → Begins (drop r w) vs
begins-past w i r us vs s (v, e) = (v, cancel us (sym s.words ∙ e ∙ append_assoc us vs v))
  where
    cancel : (us : List ℕ) → us ++ drop r w ≡ us ++ (vs ++ v) → drop r w ≡ vs ++ v
    cancel [] d = d
    cancel (u ∷ us) d = cancel us (cc)

begins-before : (w : List ℕ) (i r : ℕ) (us vs : List ℕ) → Found w i us r → Begins (drop r w) vs → Begins (drop i w) (us ++ vs)
begins-before w i r us vs s (v, e) = (v, s.words ∙ ap (λ (u : List ℕ). us ++ u) e ∙ sym (append_assoc us vs v))

begins-not : (w : List ℕ) (i : ℕ) (us vs : List ℕ) → Stood w i us None → Begins (drop i w) (us ++ vs) → ⊥
begins-not w i us vs s (v, e) = s (vs ++ v) (e ∙ append_assoc us vs v)

module _ (w : List ℕ) (ch : Change) (a b f i j due : ℕ) (t : Along w ch a b f i j due) where
  module _ (h : 0 < due) where
    one_more : due ≡ suc (due - 1)
    one_more = omega arith

    reading : terms (drop j w) due ≡ terms (get_or w j 0 ∷ drop (suc j) w) (suc (due - 1))
    reading = ap (terms (drop j w)) one_more ∙ ap (λ (u : List ℕ). terms u (suc (due - 1))) (drop-cons w j 0 (t.next h))

    pub along-word : 0 < term_turn (get_or w j 0)
    along-word = elim (dec_lt 0 (term_turn (get_or w j 0))) [
      | yes l ↦ l
      | no l ↦ absurd (some-not _ _ t.reads (ap rest_of reading ∙ terms-nothing (get_or w j 0) (due - 1) (drop (suc j) w) (omega arith)))
    ]

    pub along-leaf : term_turn (get_or w j 0) ≡ 1 → j + 1 < length w
    along-leaf one = elim (dec_lt (j + 1) (length w)) [
      | yes l ↦ l
      | no l ↦
          absurd (some-not _ _ t.reads
          (ap rest_of reading ∙ ap (λ (u : List ℕ). rest_of (terms (get_or w j 0 ∷ u) (suc (due - 1)))) (drop_of_length-le w {i = suc j} (omega arith))
          ∙ terms-cut (get_or w j 0) (due - 1) one))
    ]

    leaf-reading : term_turn (get_or w j 0) ≡ 1 → terms (drop j w) due ≡ terms (get_or w j 0 ∷ get_or w (j + 1) 0 ∷ drop (j + 2) w) (suc (due - 1))
    leaf-reading one =
        let at : suc j ≡ j + 1 = omega arith in
        let two : suc (j + 1) ≡ j + 2 = omega arith in
        reading ∙ ap (λ (u : List ℕ). terms (get_or w j 0 ∷ u) (suc (due - 1)))
        (ap (λ (k : ℕ). drop k w) at ∙ drop-cons w (j + 1) 0 (along-leaf one) ∙ ap (λ (k : ℕ). get_or w (j + 1) 0 ∷ drop k w) two)

    -- the terms still to come behind the word at j
    abbrev Behind : ℕ → ℕ → Type 0
    Behind k d =
        (rest_of (terms (drop k w) d) ≡ some (drop f w))
        × (changed_words ch (value_or [] (terms (drop j w) due))
        ≡ step_words ch (get_or w j 0) (get_or w (j + 1) 0) ++ changed_words ch (value_or [] (terms (drop k w) d)))

    behind-leaf : term_turn (get_or w j 0) ≡ 1 → Behind (j + 2) (due - 1)
    unfolding step_words
    behind-leaf one =
        let r : rest_of (terms (drop (j + 2) w) (due - 1)) ≡ some (drop f w) =
        sym (terms-one (get_or w j 0) (due - 1) (get_or w (j + 1) 0) (drop (j + 2) w) one) ∙ sym (ap rest_of (leaf-reading one)) ∙ t.reads in
        let st : step_words ch (get_or w j 0) (get_or w (j + 1) 0) ≡ term_words (change_term ch (leaf_term (get_or w j 0) (get_or w (j + 1) 0))) =
        pick-false (eqb (term_turn (get_or w j 0)) 2) _ _ (ne_eqb (term_turn (get_or w j 0)) 2 (λ z. omega arith)) in (
          r,
          ap (λ (q : Read (List Term)). changed_words ch (value_or [] q)) (leaf-reading one)
              ∙ one-leaf ch (get_or w j 0) (due - 1) (get_or w (j + 1) 0) (drop (j + 2) w) (drop f w) one r
              ∙ ap (λ (u : List ℕ). u ++ changed_words ch (value_or [] (terms (drop (j + 2) w) (due - 1)))) (sym st),
        )

    behind-two : term_turn (get_or w j 0) ≡ 2 → Behind (suc j) (suc (suc (due - 1)))
    unfolding step_words
    behind-two two =
        let r : rest_of (terms (drop (suc j) w) (suc (suc (due - 1)))) ≡ some (drop f w) =
        sym (terms-two (get_or w j 0) (due - 1) (drop (suc j) w) two) ∙ sym (ap rest_of reading) ∙ t.reads in
        let st : step_words ch (get_or w j 0) (get_or w (j + 1) 0) ≡ get_or w j 0 ∷ [] =
        pick_true (eqb (term_turn (get_or w j 0)) 2) _ _ (eq-eqb (term_turn (get_or w j 0)) 2 two) in (
          r,
          ap (λ (q : Read (List Term)). changed_words ch (value_or [] q)) reading
              ∙ two-parts ch (get_or w j 0) (due - 1) (drop (suc j) w) (drop f w) two r
              ∙ ap (λ (u : List ℕ). u ++ changed_words ch (value_or [] (terms (drop (suc j) w) (suc (suc (due - 1)))))) (sym st),
        )

    behind : (n : ℕ) → n ≡ term_turn (get_or w j 0) → n ≤ 2 → Behind (j + 3 - n) (due + 2 * n - 3) × (due + 2 * n - 3 ≤ j + 3 - n + 1)
    behind n e k = elim (dec_eq n 1) [
      | yes one ↦
          let at : j + 3 - n ≡ j + 2 = omega arith in
          let less = due-less due n one h in
          (rw (at, less) (behind-leaf (sym e ∙ one)), rw (at, less) (omega (arith, few-less due j t.few)))
      | no other ↦
          let two : n ≡ 2 = omega (arith, along-word) in
          let at : j + 3 - n ≡ suc j = omega arith in
          let more = due-more due n two h in
          (rw (at, more) (behind-two (sym e ∙ two)), rw (at, more) (few-more due j t.few h))
    ]

    pub along-fails : Stood w i (step_words ch (get_or w j 0) (get_or w (j + 1) 0)) None
        → false ≡ test (same_term (term_in w a) (change_term ch (term_in w b)))
    along-fails s =
        sym (test-no (same_term (term_in w a) (change_term ch (term_in w b))) (λ g.
        let (q, l) = behind (term_turn (get_or w j 0)) refl (turn_small (get_or w j 0)) in
        begins-not w i _ _ s (rw q.1 at (t.to g))))

    -- the own words of the term at j end
    pub along-found : (o : Answer ℕ) → Ends w (j + 1) (term_own (drop j w)) o → IsSome o
    along-found o q = ends_some _ _ _ _ o q (own_at w j (t.next h) along-word along-leaf).rest

    pub along-again : (r : ℕ) → Found w i (step_words ch (get_or w j 0) (get_or w (j + 1) 0)) r → (s : ℕ)
        → At w (j + 1) (term_own (drop j w)) s → (n : ℕ) → n ≡ term_parts (get_or w j 0) → Along w ch a b f r s (due + n - 1)
    along-again r m s b n e =
        let t1 = own-turn w j (t.next h) s b n e in
        let c = term_turn (get_or w j 0) in
        let at : j + 3 - c ≡ s = omega (arith, t1.place) in
        let many : due + 2 * c - 3 ≡ due + n - 1 = omega (arith, t1.more) in
        let (q, l) = rw (at, many) at (behind c refl (turn_small (get_or w j 0))) in
        record {
          reads = q.0;
          few = l;
          inside = m.inside;
          next = reads-inside w f s (due + n - 1) q.0;
          to = λ g. begins-past w i r _ _ m (rw q.1 at (t.to g));
          from = λ g. t.from (rw q.1 (begins-before w i r _ _ m g));
        }

  pub along-done : due ≤ 0 → true ≡ test (same_term (term_in w a) (change_term ch (term_in w b)))
  unfolding terms value_or
  along-done h =
      let z : due ≡ 0 = omega arith in
      sym (test-yes (same_term (term_in w a) (change_term ch (term_in w b)))
      (t.from (
        drop i w,
        sym (ap (λ (u : List ℕ). u ++ drop i w)
            (ap (λ (m : ℕ). changed_words ch (value_or [] (terms (drop j w) m))) z ∙ go (drop j w))),
      )))
    where
      go : (u : List ℕ) → changed_words ch (value_or [] (terms u 0)) ≡ []
      go [] = words-none ch
      go (c ∷ u) = words-none ch
