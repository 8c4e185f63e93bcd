-- Processes compared by their own words, one after another. Assumes nothing.
use Rattle.std.specs.Prelude.{ℕ, suc, ◌+◌, ◌-◌, ◌≤◌, ◌<◌, true, false, List, [], ◌∷◌, eqb, length, drop, get_or}
use Rattle.std.proofs.Math.Option.{none, some}
use Rattle.std.proofs.Math.Path.{◌≡◌, refl, sym, ap}
use Rattle.std.proofs.Common.{◌∙◌, arith, drop_of_length-le, drop-cons}
use Rattle.std.proofs.Math.Decide.{dec_lt}
use Rattle.words.specs.Choice.{then}
use Rattle.words.specs.Choice.Laws.{pick_ind}
use Rattle.words.specs.First.Laws.{clash}
use Rattle.typing.specs.Process.{Process, same_process}
use Rattle.typing.specs.Reading.{Read, ahead, after, only, processes, process_at, several}
use Rattle.typing.proofs.Derivation.Laws.{then-goes}
use Rattle.spans.specs.Behind.{rest_of, At, process_parts}
use Rattle.spans.specs.Behind.Laws.{rest-after}
use Rattle.alike.specs.Same.{value_or, test}
use Rattle.alike.specs.Same.Laws.{value_after, test-yes, test-no}
use Rattle.parts.specs.Own.{own_of, formed}
use Rattle.parts.specs.Own.Laws.{several-own}
use Rattle.parts.specs.Own.Same.{Parted, codes_same, parts_same, same-formed}
use Rattle.parts.specs.Place.{list_in, process_in, Spelled, own_in, Places, same_own}
use Rattle.parts.specs.Place.Laws.{rest-came, rest_some, several-length}
use Rattle.parts.specs.Place.Lists.{own_same, same-own}
use Rattle.parts.specs.declared.Parts.{Parts}

-- ---- `due` processes are still to come from the place i on, and end at `end`
pub record Along (w : List ℕ) (end i due : ℕ) : Type 0 where
  pub reads : rest_of (several process_at due (drop i w)) ≡ some (drop end w)
  pub few : due ≤ i + 1

one-rest : (o : Read Process) → rest_of (then o (λ p. ahead p.0 (some ([], p.1)))) ≡ rest_of o
unfolding then ahead rest_of
one-rest none = refl
one-rest (some p) = refl

one_value : (o : Read Process) (v : List ℕ) → rest_of o ≡ some v
    → value_or [] (then o (λ p. ahead p.0 (some ([], p.1)))) ≡ value_or Process.stop o ∷ []
unfolding then ahead rest_of value_or
one_value none v e = cc
one_value (some p) v e = refl

along-begin : (w : List ℕ) (a end : ℕ) → At w a (rest_of (process_at (drop a w))) end → Along w end a 1
unfolding several
along-begin w a end b = record { reads = one-rest (process_at (drop a w)) ∙ b.rest; few = omega arith }

begin-list : (w : List ℕ) (a end : ℕ) → At w a (rest_of (process_at (drop a w))) end → list_in process_at w a 1 ≡ process_in w a ∷ []
unfolding several list_in process_in
begin-list w a end b = one_value (process_at (drop a w)) (drop end w) b.rest

several-empty : (t : ℕ) → several process_at (suc t) [] ≡ none
unfolding several process_at processes only then
several-empty t = refl

-- the places follow one another
pub places-after : (w : List ℕ) (i : ℕ) (r : Parts) → Places w i r → (i < r.next) × (r.next ≤ length w)
places-after w i r p =
    (omega (arith, p.at-terms, p.terms.after, p.types.after, p.effects.after), p.effects.inside)

-- one turn
pub record Turn (w : List ℕ) (end i due : ℕ) (r : Parts) (n : ℕ) : Type 0 where
  pub next : Along w end r.next (due + n - 1)
  pub list : list_in process_at w i due ≡ formed (own_in w i r) (list_in process_at w r.next (due + n - 1))
  pub long : process_parts (get_or w i 0) ≤ length (list_in process_at w r.next (due + n - 1))

sums : (due n p : ℕ) → 0 < due → n ≡ p → due + n - 1 ≡ due - 1 + p
sums due n p h e = omega arith

module _ (w : List ℕ) (end i due : ℕ) (t : Along w end i due) (h : 0 < due) where
  one_more : due ≡ suc (due - 1)
  one_more = omega arith

  reads_more : rest_of (several process_at (suc (due - 1)) (drop i w)) ≡ some (drop end w)
  reads_more = ap (λ (m : ℕ). rest_of (several process_at m (drop i w))) (sym one_more) ∙ t.reads

  pub along-inside : i < length w
  unfolding rest_of
  along-inside = elim (dec_lt i (length w)) [
    | yes l ↦ l
    | no l ↦
        let c : none ≡ some (drop end w) =
        sym (ap rest_of (ap (several process_at (suc (due - 1))) (drop_of_length-le w {i = i} (omega arith)) ∙ several-empty (due - 1))) ∙ reads_more in
        cc
  ]

  turn-of : (q : ℕ) → q ≡ due - 1 + process_parts (get_or w i 0)
      → several process_at (suc (due - 1)) (drop i w) ≡ then (own_of (drop i w)) (λ z. after (formed z.0) (several process_at q z.1))
  turn-of q e = rw (drop-cons w i 0 along-inside) (several-own (due - 1) q (get_or w i 0) (drop (suc i) w) e)

  pub along-spelled : Spelled w i
  along-spelled =
      let e = turn-of (due - 1 + process_parts (get_or w i 0)) refl in
      let (o, v, d, z) = rest-came (own_of (drop i w)) _ (drop end w) (sym (ap rest_of e) ∙ reads_more) in
      record { behind = v; reads = rest_some _ o v d }

  pub along-turn : (r : Parts) → Places w i r → (n : ℕ) → n ≡ process_parts (get_or w i 0) → n ≤ 2 → Turn w end i due r n
  unfolding list_in
  along-turn r p n e k =
      let q = due + n - 1 in
      let whole : several process_at due (drop i w) ≡ after (formed (own_in w i r)) (several process_at (due + n - 1) (drop r.next w)) =
      ap (λ (m : ℕ). several process_at m (drop i w)) one_more ∙ turn-of (due + n - 1) (sums due n (process_parts (get_or w i 0)) h e)
      ∙ then-goes (own_of (drop i w)) (λ z. after (formed z.0) (several process_at (due + n - 1) z.1)) _ p.own in
      let there : rest_of (several process_at (due + n - 1) (drop r.next w)) ≡ some (drop end w) =
      sym (rest-after (formed (own_in w i r)) (several process_at (due + n - 1) (drop r.next w))) ∙ sym (ap rest_of whole) ∙ t.reads in
      let (b, l) = places-after w i r p in
      record {
        next = record { reads = there; few = omega (arith, t.few) };
        list = ap (value_or []) whole ∙ value_after (formed (own_in w i r)) [] [] (several process_at (due + n - 1) (drop r.next w)) (drop end w) there;
        long = omega (arith, several-length process_at (due + n - 1) (drop r.next w) (drop end w) there);
      }

  pub along-parts : (r : Parts) → Places w i r → Turn w end i due r (process_parts (get_or w i 0))
  unfolding process_parts
  along-parts r p = along-turn r p (process_parts (get_or w i 0)) refl (few-parts (get_or w i 0))
    where
      few-parts : (c : ℕ) → process_parts c ≤ 2
      few-parts c = pick_ind (λ (k : ℕ). k ≤ 2) (eqb c 4) 2 _ (λ _. omega arith)
          (λ _. pick_ind (λ (k : ℕ). k ≤ 2) (eqb c 5) 0 1 (λ _. omega arith) (λ _. omega arith))

list-none : (w : List ℕ) (i : ℕ) → list_in process_at w i 0 ≡ []
unfolding list_in several value_or
list-none w i = refl

-- ---- two processes: what is still to come is the same exactly if they are
pub record Pairing (u : List ℕ) (a e : ℕ) (v : List ℕ) (b f i j due : ℕ) : Type 0 where
  pub left : Along u e i due
  pub right : Along v f j due
  pub to : process_in u a ≡ process_in v b → list_in process_at u i due ≡ list_in process_at v j due
  pub from : list_in process_at u i due ≡ list_in process_at v j due → process_in u a ≡ process_in v b

pub pairing-begin : (u : List ℕ) (a e : ℕ) (v : List ℕ) (b f : ℕ) → At u a (rest_of (process_at (drop a u))) e
    → At v b (rest_of (process_at (drop b v))) f
    → Pairing u a e v b f a b 1
pairing-begin u a e v b f s t =
    record {
      left = along-begin u a e s;
      right = along-begin v b f t;
      to = λ z. begin-list u a e s ∙ ap (λ (P : Process). P ∷ []) z ∙ sym (begin-list v b f t);
      from = λ z. heads (sym (begin-list u a e s) ∙ z ∙ begin-list v b f t);
    }
  where
    heads : {P Q : Process} → P ∷ [] ≡ Q ∷ [] → P ≡ Q
    heads z = cc

module _ (u : List ℕ) (a e : ℕ) (v : List ℕ) (b f i j due : ℕ) (t : Pairing u a e v b f i j due) where
  unequal : (list_in process_at u i due ≡ list_in process_at v j due → ⊥) → false ≡ test (same_process (process_in u a) (process_in v b))
  unequal d = sym (test-no (same_process (process_in u a) (process_in v b)) (λ z. d (t.to z)))

  module _ (h : 0 < due) where
    pub pairing-left-spelled : Spelled u i
    pairing-left-spelled = along-spelled u e i due t.left h

    pub pairing-right-spelled : Spelled v j
    pairing-right-spelled = along-spelled v f j due t.right h

    module _ (p : Parts) (x : Places u i p) (q : Parts) (y : Places v j q) where
      left-turn : Turn u e i due p (process_parts (get_or u i 0))
      left-turn = along-parts u e i due t.left h p x

      right-turn : Turn v f j due q (process_parts (get_or v j 0))
      right-turn = along-parts v f j due t.right h q y

      abbrev more_left : List Process
      more_left = list_in process_at u p.next (due + process_parts (get_or u i 0) - 1)

      abbrev more_right : List Process
      more_right = list_in process_at v q.next (due + process_parts (get_or v j 0) - 1)

      formed-both : list_in process_at u i due ≡ list_in process_at v j due → formed (own_in u i p) more_left ≡ formed (own_in v j q) more_right
      formed-both z = sym left-turn.list ∙ z ∙ right-turn.list

      pub pairing-words : (get_or u i 0 ≡ get_or v j 0 → ⊥) → false ≡ test (same_process (process_in u a) (process_in v b))
      unfolding own_in
      pairing-words d =
          unequal (λ z. d (codes_same (own_in u i p) (own_in v j q) more_left more_right x.exact y.exact left-turn.long right-turn.long
          (formed-both z)))

      module _ (same : get_or u i 0 ≡ get_or v j 0) where
        parted : list_in process_at u i due ≡ list_in process_at v j due → Parted (own_in u i p) (own_in v j q) more_left more_right
        unfolding own_in
        parted z =
            parts_same (own_in u i p) (own_in v j q) more_left more_right same x.exact y.exact left-turn.long right-turn.long (formed-both z)

        pub pairing-own : false ≡ same_own (own_in u i p) (own_in v j q) → false ≡ test (same_process (process_in u a) (process_in v b))
        pairing-own m =
            unequal (λ z.
            let (w, k, l, o, r) = parted z in
            clash (same-own (own_in u i p) (own_in v j q) w k l o) (sym m))

        pub pairing-again : true ≡ same_own (own_in u i p) (own_in v j q) → (n : ℕ) → n ≡ process_parts (get_or u i 0) → n ≤ 2
            → Pairing u a e v b f p.next q.next (due + n - 1)
        unfolding own_in
        pairing-again m n k l =
            let (w, r, s, z) = own_same (own_in u i p) (own_in v j q) (sym m) in
            let lt = along-turn u e i due t.left h p x n k l in
            let rt = along-turn v f j due t.right h q y n (k ∙ ap process_parts same) l in
            record {
              left = lt.next;
              right = rt.next;
              to = λ g.
                  (parts_same (own_in u i p) (own_in v j q) (list_in process_at u p.next (due + n - 1)) (list_in process_at v q.next (due + n - 1)) same
                  x.exact y.exact lt.long rt.long (sym lt.list ∙ t.to g ∙ rt.list)).4;
              from = λ g.
                  t.from (lt.list ∙ same-formed (own_in u i p) (own_in v j q) (list_in process_at u p.next (due + n - 1))
                  (list_in process_at v q.next (due + n - 1)) same (w, r, s, z, g) ∙ sym rt.list);
            }

  pub pairing-done : due ≤ 0 → true ≡ test (same_process (process_in u a) (process_in v b))
  pairing-done h =
      let z : due ≡ 0 = omega arith in
      sym (test-yes (same_process (process_in u a) (process_in v b))
      (t.from (ap (list_in process_at u i) z ∙ list-none u i ∙ sym (list-none v j) ∙ ap (list_in process_at v j) (sym z))))
