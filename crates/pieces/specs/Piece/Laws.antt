-- Laws of a process's pieces. Assumes nothing.
use Prim.Native.Nat.{ℕ, zero, suc, ◌+◌, ◌≤◌, ◌<◌}
use mathlib.Core.List.{List, [], ◌∷◌}
use Rattle.std.proofs.Common.{◌∙◌, arith, drop_of_length-le, drop-cons, eq-eqb, ne_eqb}
use Rattle.std.proofs.Math.Option.{Option, none, some}
use Rattle.std.proofs.Math.Path.{◌≡◌, refl, sym, ap}
use Rattle.std.proofs.Math.Decide.{dec_lt}
use Rattle.std.specs.Prelude.{eqb, length, get_or, Option as Answer, None, Some}
use Rattle.std.specs.Option.{unwrap_or}
use Rattle.std.proofs.Math.ListN.{drop}
use Rattle.words.specs.Choice.{pick, then}
use Rattle.words.specs.Choice.Laws.{pick_true, pick-false}
use Rattle.words.specs.Run.{run}
use Rattle.typing.specs.Term.{Term, same_term}
use Rattle.typing.specs.Bag.{bag}
use Rattle.typing.specs.Types.{Ty, same_type}
use Rattle.typing.specs.Process.{Process, same_process}
use Rattle.typing.specs.Reading.{Read, ahead, after, joined, altered, only, term, type_at, several, processes, process_at}
use Rattle.typing.proofs.Derivation.Laws.{then-goes}
use Rattle.spans.specs.Behind.{rest_of, At, Ends, process_parts}
use Rattle.spans.specs.Behind.Laws.{ends_at}
use Rattle.spans.specs.Behind.Processes.{parts-one, parts-none, parts-two}
use Rattle.alike.specs.Same.{value_or, term_in, effects_in, type_in}
use Rattle.parts.specs.Own.{Own, names_of, terms_of, types_of, own_of, fore, next, around_by, around, formed}
use Rattle.parts.specs.Own.Laws.{several-own}
use Rattle.parts.specs.Place.{list_in, process_in, Spelled, own_in, Places}
use Rattle.parts.specs.Place.Laws.{rest-came, rest_some}
use Rattle.parts.specs.Place.Several.{first_of}
use Rattle.parts.specs.Place.Lists.{list_inside, list-reads, list-value}
use Rattle.parts.specs.declared.Parts.{Parts}
use Rattle.shapes.specs.Shape.{Reads}
use Rattle.pieces.specs.Piece.{built, Pieced}
use Rattle.pieces.specs.declared.Pieces.{Pieces}

-- ---- the place behind what is there
pub found_at : (w : List ℕ) (a : ℕ) (o : Option (List ℕ)) (v : List ℕ) (r : Answer ℕ) (n d : ℕ) → Ends w a o r → n ≡ unwrap_or r d → o ≡ some v
    → At w a o n
found_at w a o v None n d h q e = absurd (let z : ◌≡◌ {A = ℕ} 0 1 = cc in omega arith)
found_at w a o v (Some r) n d h q e = ends_at w a o (Some r) n h (ap Some (sym q))

-- ---- the first and the second of what is read
module _ {A : Type 0} (r : List ℕ → Read A) (d : A) (same : (x y : A) → Dec (x ≡ y)) (w : List ℕ) (a : ℕ) where
  some_first : (k : ℕ) (v : List ℕ) → 1 ≤ k → rest_of (several r k (drop a w)) ≡ some v
      → Reads r w a × (fore d (value_or [] (several r k (drop a w))) ≡ value_or d (r (drop a w)))
  unfolding fore
  some_first zero v l e = absurd (omega arith)
  some_first (suc k) v l e =
      let (x, p, q, s) = first_of r d same k (drop a w) v e in
      (record { behind = x; reads = rest_some _ _ _ p }, ap (fore d) s)

  some-second : (k : ℕ) (v : List ℕ) → 2 ≤ k → rest_of (several r k (drop a w)) ≡ some v → (e : ℕ) → At w a (rest_of (r (drop a w))) e
      → Reads r w e × (next d (value_or [] (several r k (drop a w))) ≡ value_or d (r (drop e w)))
  unfolding next
  some-second zero v l h e f = absurd (omega arith)
  some-second (suc zero) v l h e f = absurd (omega arith)
  some-second (suc (suc k)) v l h e f =
      let (x, p, q, s) = first_of r d same (suc k) (drop a w) v h in
      let (y, o, m, n) = first_of r d same k x v q in
      let there : Reads r w a = record { behind = x; reads = rest_some _ _ _ p } in
      let z : some x ≡ some (drop e w) = sym there.reads ∙ f.rest in
      let b : x ≡ drop e w = cc in (
        record { behind = y; reads = ap (λ (u : List ℕ). rest_of (r u)) (sym b) ∙ rest_some _ _ _ o },
        ap (next d) (s ∙ ap (λ (t : List A). value_or d (r (drop a w)) ∷ t) n) ∙ ap (λ (u : List ℕ). value_or d (r u)) b,
      )

-- ---- names
run-first : (w : List ℕ) (a n : ℕ) → 1 ≤ n → fore 0 (run w a n) ≡ get_or w a 0
unfolding fore run
run-first w a zero l = absurd (omega arith)
run-first w a (suc n) l = refl

run-second : (w : List ℕ) (a b n : ℕ) → 2 ≤ n → b ≡ suc a → next 0 (run w a n) ≡ get_or w b 0
unfolding next run
run-second w a b zero l e = absurd (omega arith)
run-second w a b (suc zero) l e = absurd (omega arith)
run-second w a b (suc (suc n)) l e = ap (λ (i : ℕ). get_or w i 0) (sym e)

-- ---- one process, and two
one_value : (u v : List ℕ) → rest_of (process_at u) ≡ some v
    → (rest_of (several process_at 1 u) ≡ some v) × (value_or [] (several process_at 1 u) ≡ value_or Process.stop (process_at u) ∷ [])
unfolding several then ahead rest_of value_or
one_value u v e = go (process_at u) e
  where
    go : (o : Read Process) → rest_of o ≡ some v → (rest_of (then o (λ p. ahead p.0 (some ([], p.1)))) ≡ some v)
        × (value_or [] (then o (λ p. ahead p.0 (some ([], p.1)))) ≡ value_or Process.stop o ∷ [])
    go none h = absurd (let z : ◌≡◌ {A = ℕ} 0 1 = cc in omega arith)
    go (some p) h = (h, refl)

value_after : (f : List Process → List Process) (r : Read (List Process)) (z : List ℕ) → rest_of (after f r) ≡ some z
    → (rest_of r ≡ some z) × (value_or [] (after f r) ≡ f (value_or [] r))
unfolding rest_of after then value_or
value_after f none z h = absurd (let y : ◌≡◌ {A = ℕ} 0 1 = cc in omega arith)
value_after f (some p) z h = (h, refl)

first-process : (k : ℕ) (u v : List ℕ) → rest_of (several process_at (suc k) u) ≡ some v
    → (x : List ℕ) × (process_at u ≡ some (value_or Process.stop (process_at u), x)) × (rest_of (several process_at k x) ≡ some v)
    × (value_or [] (several process_at (suc k) u) ≡ value_or Process.stop (process_at u) ∷ value_or [] (several process_at k x))
first-process k u v e = first_of process_at Process.stop same_process k u v e

heads : {P Q : Process} → P ∷ [] ≡ Q ∷ [] → P ≡ Q
heads z = cc

none_left : (u : List ℕ) → value_or [] (several process_at 0 u) ≡ []
unfolding several value_or
none_left u = refl

module _ (w : List ℕ) (s : ℕ) (t : Reads process_at w s) where
  process-empty : process_at [] ≡ none
  unfolding process_at processes only then
  process-empty = refl

  pub process-inside : s < length w
  unfolding rest_of
  process-inside = elim (dec_lt s (length w)) [
    | yes l ↦ l
    | no l ↦
        let q : none ≡ some t.behind = sym (ap rest_of (ap process_at (drop_of_length-le w {i = s} (omega arith)) ∙ process-empty)) ∙ t.reads in
        absurd (let z : ◌≡◌ {A = ℕ} 0 1 = cc in omega arith)
  ]

  turn : several process_at 1 (drop s w)
      ≡ then (own_of (drop s w)) (λ z. after (formed z.0) (several process_at (process_parts (get_or w s 0)) z.1))
  turn = rw (drop-cons w s 0 process-inside) (several-own 0 (process_parts (get_or w s 0)) (get_or w s 0) (drop (suc s) w) (omega arith))

  single : (rest_of (several process_at 1 (drop s w)) ≡ some t.behind) × (value_or [] (several process_at 1 (drop s w)) ≡ process_in w s ∷ [])
  unfolding process_in
  single = one_value (drop s w) t.behind t.reads

  -- its own words are there
  pub process-spelled : Spelled w s
  process-spelled =
      let (o, v, d, z) = rest-came (own_of (drop s w)) _ t.behind (sym (ap rest_of turn) ∙ single.0) in
      record { behind = v; reads = rest_some _ o v d }

  module _ (r : Parts) (pl : Places w s r) where
    abbrev o : Own
    o = own_in w s r

    inner : (rest_of (several process_at (process_parts (get_or w s 0)) (drop r.next w)) ≡ some t.behind)
        × (process_in w s ∷ [] ≡ formed o (value_or [] (several process_at (process_parts (get_or w s 0)) (drop r.next w))))
    inner =
        let e = turn ∙ then-goes (own_of (drop s w)) (λ z. after (formed z.0) (several process_at (process_parts (get_or w s 0)) z.1)) _ pl.own in
        let (p, q) = value_after (formed o) (several process_at (process_parts (get_or w s 0)) (drop r.next w)) t.behind (sym (ap rest_of e) ∙ single.0) in
        (p, sym single.1 ∙ ap (value_or []) e ∙ q)

    -- a process with one in it
    inner-one : (get_or w s 0 ≡ 4 → ⊥) → (get_or w s 0 ≡ 5 → ⊥) → (process_in w s ≡ around o (process_in w r.next))
        × Reads process_at w r.next
    unfolding formed own_in process_in altered
    inner-one d e =
        let one : process_parts (get_or w s 0) ≡ 1 = sym (parts-one (get_or w s 0) d e) in
        let (p, q) = inner in
        let there = ap (λ (k : ℕ). rest_of (several process_at k (drop r.next w))) (sym one) ∙ p in
        let (x, a, b, c) = first-process 0 (drop r.next w) t.behind there in
        let f : formed o (value_or [] (several process_at (process_parts (get_or w s 0)) (drop r.next w)))
        ≡ altered (around o) (value_or [] (several process_at 1 (drop r.next w))) =
        pick-false (eqb (get_or w s 0) 4) _ _ (ne_eqb (get_or w s 0) 4 d) ∙ pick-false (eqb (get_or w s 0) 5) _ _ (ne_eqb (get_or w s 0) 5 e)
        ∙ ap (λ (k : ℕ). altered (around o) (value_or [] (several process_at k (drop r.next w)))) one in
        let g = c ∙ ap (λ (l : List Process). value_or Process.stop (process_at (drop r.next w)) ∷ l) (none_left x) in
        (heads (q ∙ f ∙ ap (altered (around o)) g), record { behind = x; reads = rest_some _ _ _ a })

    -- two processes: the first, and the second in the words behind it
    inner-both : get_or w s 0 ≡ 4 → (x : List ℕ) × (rest_of (process_at (drop r.next w)) ≡ some x) × (y : List ℕ) × (rest_of (process_at x) ≡ some y)
        × (process_in w s ≡ Process.parallel (process_in w r.next) (value_or Process.stop (process_at x)))
    unfolding formed own_in process_in joined
    inner-both d =
        let two : process_parts (get_or w s 0) ≡ 2 = sym (parts-two (get_or w s 0) d) in
        let (p, h) = inner in
        let there = ap (λ (k : ℕ). rest_of (several process_at k (drop r.next w))) (sym two) ∙ p in
        let (x, a, b, c) = first-process 1 (drop r.next w) t.behind there in
        let (y, e, f, g) = first-process 0 x t.behind b in
        let form : formed o (value_or [] (several process_at (process_parts (get_or w s 0)) (drop r.next w)))
        ≡ joined Process.parallel (value_or [] (several process_at 2 (drop r.next w))) =
        pick_true (eqb (get_or w s 0) 4) _ _ (eq-eqb (get_or w s 0) 4 d)
        ∙ ap (λ (k : ℕ). joined Process.parallel (value_or [] (several process_at k (drop r.next w)))) two in
        let list = c ∙ ap (λ (l : List Process). value_or Process.stop (process_at (drop r.next w)) ∷ l)
        (g ∙ ap (λ (l : List Process). value_or Process.stop (process_at x) ∷ l) (none_left y)) in
        (x, rest_some _ _ _ a, y, rest_some _ _ _ e, heads (h ∙ form ∙ ap (joined Process.parallel) list))

    inner-two : get_or w s 0 ≡ 4 → Reads process_at w r.next × ((q : ℕ) → At w r.next (rest_of (process_at (drop r.next w))) q
        → (process_in w s ≡ Process.parallel (process_in w r.next) (process_in w q)) × Reads process_at w q)
    unfolding process_in
    inner-two d =
        let (x, a, y, e, is) = inner-both d in (
          record { behind = x; reads = a },
          λ q ends.
              let z : some x ≡ some (drop q w) = sym a ∙ ends.rest in
              let there : x ≡ drop q w = cc in (
                is ∙ ap (λ (u : List ℕ). Process.parallel (process_in w r.next) (value_or Process.stop (process_at u))) there,
                record { behind = y; reads = ap (λ (u : List ℕ). rest_of (process_at u)) (sym there) ∙ e },
              ),
        )

    inner-parallel : get_or w s 0 ≡ 4 → (A : Process) × (B : Process) × (process_in w s ≡ Process.parallel A B)
    inner-parallel d =
        let (x, a, y, e, is) = inner-both d in
        (_, _, is)

    -- STOP
    inner-stop : get_or w s 0 ≡ 5 → process_in w s ≡ Process.stop
    unfolding formed own_in
    inner-stop d =
        let none_in : process_parts (get_or w s 0) ≡ 0 = sym (parts-none (get_or w s 0) d) in
        let (p, h) = inner in
        let form : formed o (value_or [] (several process_at (process_parts (get_or w s 0)) (drop r.next w))) ≡ Process.stop ∷ [] =
        pick-false (eqb (get_or w s 0) 4) _ _ (ne_eqb (get_or w s 0) 4 (λ e. omega arith)) ∙ pick_true (eqb (get_or w s 0) 5) _ _ (eq-eqb (get_or w s 0) 5 d)
        ∙ ap (λ (k : ℕ). Process.stop ∷ value_or [] (several process_at k (drop r.next w))) none_in
        ∙ ap (λ (l : List Process). Process.stop ∷ l) (none_left (drop r.next w)) in
        heads (h ∙ form)

    module _ (n u k : ℕ) (tn : Reads term w r.terms → At w r.terms (rest_of (term (drop r.terms w))) n)
        (tu : Reads type_at w r.types → At w r.types (rest_of (type_at (drop r.types w))) u) (tk : get_or w s 0 ≡ 11 → k ≡ get_or w r.list 0) where
      abbrev R : Pieces
      R = record { m = r.terms; n = n; t = r.types; u = u; f = r.list + 1; k = k; p = r.next }

      is_m : 1 ≤ terms_of (get_or w s 0) → Reads term w r.terms × (fore (Term.bound 0) o.terms ≡ term_in w r.terms)
      unfolding own_in list_in term_in
      is_m l = some_first term (Term.bound 0) same_term w r.terms (terms_of (get_or w s 0)) _ l pl.terms.rest

      is-n : 2 ≤ terms_of (get_or w s 0) → Reads term w n × (next (Term.bound 0) o.terms ≡ term_in w n)
      unfolding own_in list_in term_in
      is-n l = some-second term (Term.bound 0) same_term w r.terms (terms_of (get_or w s 0)) _ l pl.terms.rest n (tn (is_m (omega arith)).0)

      is-t : 1 ≤ types_of (get_or w s 0) → Reads type_at w r.types × (fore Ty.Un o.types ≡ type_in w r.types)
      unfolding own_in list_in type_in
      is-t l = some_first type_at Ty.Un same_type w r.types (types_of (get_or w s 0)) _ l pl.types.rest

      is-u : 2 ≤ types_of (get_or w s 0) → Reads type_at w u × (next Ty.Un o.types ≡ type_in w u)
      unfolding own_in list_in type_in
      is-u l = some-second type_at Ty.Un same_type w r.types (types_of (get_or w s 0)) _ l pl.types.rest u (tu (is-t (omega arith)).0)

      is_x : 1 ≤ names_of (get_or w s 0) → fore 0 o.names ≡ get_or w (s + 1) 0
      unfolding own_in
      is_x l = run-first w (s + 1) (names_of (get_or w s 0)) l

      is_y : 2 ≤ names_of (get_or w s 0) → next 0 o.names ≡ get_or w (s + 2) 0
      unfolding own_in
      is_y l = run-second w (s + 1) (s + 2) (names_of (get_or w s 0)) l (omega arith)

      is-es : get_or w s 0 ≡ 11 → o.effects ≡ bag (effects_in w (r.list + 1) k)
      unfolding own_in
      is-es d = sym (list-value w (get_or w s 0) r.list r.next pl.effects d k (tk d))

      -- how many of each, by the word
      many : (f : ℕ → ℕ) (c n : ℕ) → get_or w s 0 ≡ c → n ≤ f c → n ≤ f (get_or w s 0)
      many f c n e l = rw e l

      built-by : (c : ℕ) → get_or w s 0 ≡ c → 0 < c → c ≤ 12 → (c ≡ 4 → ⊥) → (c ≡ 5 → ⊥)
          → around_by o (process_in w r.next) c ≡ built w s R c
      unfolding around_by built names_of terms_of types_of pick
      built-by zero e l h p q = absurd (omega arith)
      built-by (suc zero) e l h p q =
          let a = is_x (many names_of 1 1 e (omega arith)) in
          let i = (is-t (many types_of 1 1 e (omega arith))).1 in
          cc
      built-by (suc (suc zero)) e l h p q =
          let f = (is_m (many terms_of 2 1 e (omega arith))).1 in
          let g = (is-n (many terms_of 2 2 e (omega arith))).1 in
          cc
      built-by (suc (suc (suc zero))) e l h p q =
          let a = is_x (many names_of 3 1 e (omega arith)) in
          let f = (is_m (many terms_of 3 1 e (omega arith))).1 in
          let i = (is-t (many types_of 3 1 e (omega arith))).1 in
          cc
      built-by (suc (suc (suc (suc zero)))) e l h p q = absurd (p refl)
      built-by (suc (suc (suc (suc (suc zero))))) e l h p q = absurd (q refl)
      built-by (suc (suc (suc (suc (suc (suc zero)))))) e l h p q =
          let a = is_x (many names_of 6 1 e (omega arith)) in
          let b = is_y (many names_of 6 2 e (omega arith)) in
          let f = (is_m (many terms_of 6 1 e (omega arith))).1 in
          let i = (is-t (many types_of 6 1 e (omega arith))).1 in
          let j = (is-u (many types_of 6 2 e (omega arith))).1 in
          cc
      built-by (suc (suc (suc (suc (suc (suc (suc zero))))))) e l h p q =
          let a = is_x (many names_of 7 1 e (omega arith)) in
          let f = (is_m (many terms_of 7 1 e (omega arith))).1 in
          let g = (is-n (many terms_of 7 2 e (omega arith))).1 in
          let i = (is-t (many types_of 7 1 e (omega arith))).1 in
          cc
      built-by (suc (suc (suc (suc (suc (suc (suc (suc zero)))))))) e l h p q =
          let a = is_x (many names_of 8 1 e (omega arith)) in
          let f = (is_m (many terms_of 8 1 e (omega arith))).1 in
          let g = (is-n (many terms_of 8 2 e (omega arith))).1 in
          let i = (is-t (many types_of 8 1 e (omega arith))).1 in
          cc
      built-by (suc (suc (suc (suc (suc (suc (suc (suc (suc zero))))))))) e l h p q =
          let f = (is_m (many terms_of 9 1 e (omega arith))).1 in
          cc
      built-by (suc (suc (suc (suc (suc (suc (suc (suc (suc (suc zero)))))))))) e l h p q =
          let f = (is_m (many terms_of 10 1 e (omega arith))).1 in
          cc
      built-by (suc (suc (suc (suc (suc (suc (suc (suc (suc (suc (suc zero))))))))))) e l h p q =
          let a = is_x (many names_of 11 1 e (omega arith)) in
          let f = (is_m (many terms_of 11 1 e (omega arith))).1 in
          let k' = is-es e in
          cc
      built-by (suc (suc (suc (suc (suc (suc (suc (suc (suc (suc (suc (suc zero)))))))))))) e l h p q =
          let f = (is_m (many terms_of 12 1 e (omega arith))).1 in
          let g = (is-n (many terms_of 12 2 e (omega arith))).1 in
          cc
      built-by (suc (suc (suc (suc (suc (suc (suc (suc (suc (suc (suc (suc (suc c))))))))))))) e l h p q = absurd (omega arith)

      around-built : (get_or w s 0 ≡ 4 → ⊥) → (get_or w s 0 ≡ 5 → ⊥) → around o (process_in w r.next) ≡ built w s R (get_or w s 0)
      unfolding around own_in
      around-built d e = built-by (get_or w s 0) refl pl.exact.low pl.exact.high d e

      pub pieced : Pieced w s R
      unfolding own_in
      pieced =
          record {
            low = pl.exact.low;
            high = pl.exact.high;
            inside = process-inside;
            names = pl.names;
            one = λ d e.
                let (p, q) = inner-one d e in
                (p ∙ around-built d e, q);
            two = inner-two;
            parallel = inner-parallel;
            stop = inner-stop;
            first-term = λ l. (is_m l).0;
            second-term = λ l. (is-n l).0;
            first-type = λ l. (is-t l).0;
            second_type = λ l. (is-u l).0;
            effects = λ d.
                record { behind = drop r.next w; reads = list-reads w (get_or w s 0) r.list r.next pl.effects d k (tk d) };
          }

-- a cast's count is inside
pub cast-inside : (w : List ℕ) (s : ℕ) (r : Parts) → Places w s r → get_or w s 0 ≡ 11 → r.list < length w
cast-inside w s r pl d = list_inside w (get_or w s 0) r.list r.next pl.effects d
