-- What `new` generates, and the name that its own words spell; the effects of a nonce. Assumes nothing.
use Prim.Native.Nat.{ℕ, suc, ◌+◌, ◌<◌}
use Rattle.std.specs.Prelude.{true, false, not, ◌&&◌, ◌≡◌, refl, eqb, length}
use mathlib.Core.List.{List, [], ◌∷◌}
use Rattle.std.proofs.Common.{sym, ◌∙◌, eq-eqb, ne_eqb}
use Rattle.std.proofs.Math.Path.{ap}
use native.Mathlib.Omega.{arith}
use Rattle.std.proofs.Math.Decide.{ℕ_discrete as dec_eq}
use Rattle.std.proofs.Math.ListN.{drop, get_or}
use Rattle.std.proofs.Math.Seq.{drop-cons}
use Rattle.words.specs.Choice.{pick}
use Rattle.typing.specs.Term.{Term, Effect}
use Rattle.typing.specs.Bag.{insert, plus, minus, bag}
use Rattle.typing.specs.Types.{Ty, generatable}
use Rattle.typing.specs.Reading.{term, terms, effects, type_at}
use Rattle.spans.specs.Behind.{rest_of, At, term_turn}
use Rattle.spans.specs.Behind.Laws.{rest-term, terms-one, terms-zero}
use Rattle.alike.specs.Same.{value_or, term_in, effects_in, type_in}
use Rattle.balance.specs.Sum.{effect_by, list_of}
use Rattle.balance.specs.declared.Effects.TheVariants.{One, Many}
use Rattle.shapes.specs.Shape.{Reads}
use Rattle.shapes.specs.Shape.Laws.{code_of, type-code}
use Rattle.ruling.specs.Line.Terms.{term-name}

-- ---- generatable, by the word
by_code : (T : Ty) → (code_of T ≡ 2 → generatable T ≡ false) × (code_of T ≡ 5 → generatable T ≡ false)
    × ((code_of T ≡ 2 → ⊥) → (code_of T ≡ 5 → ⊥) → generatable T ≡ true)
unfolding generatable
by_code Ty.Un = (λ e. absurd (omega arith), λ e. absurd (omega arith), λ d e. refl)
by_code (Ty.pair T U) = (λ e. refl, λ e. refl, λ d e. absurd (d refl))
by_code (Ty.channel T) = (λ e. absurd (omega arith), λ e. absurd (omega arith), λ d e. refl)
by_code (Ty.symkey T) = (λ e. absurd (omega arith), λ e. absurd (omega arith), λ d e. refl)
by_code (Ty.nonce es) = (λ e. refl, λ e. refl, λ d e. absurd (e refl))

module _ (w : List ℕ) (t c : ℕ) (r : Reads type_at w t) (word : c ≡ get_or w t 0) where
  code_is : code_of (type_in w t) ≡ c
  code_is = type-code w t r ∙ sym word

  pub generates : generatable (type_in w t) ≡ (not (eqb c 2) && not (eqb c 5))
  generates = elim (dec_eq c 2) [
    | yes e ↦ rw (eq-eqb c 2 e) ((by_code (type_in w t)).0 (code_is ∙ e))
    | no d ↦ rw (ne_eqb c 2 d) (elim (dec_eq c 5) [
      | yes e ↦ rw (eq-eqb c 5 e) ((by_code (type_in w t)).1 (code_is ∙ e))
      | no e ↦ rw (ne_eqb c 5 e) ((by_code (type_in w t)).2 (λ z. d (sym code_is ∙ z)) (λ z. e (sym code_is ∙ z)))
    ])
  ]

-- ---- the words 1, x spell the name x
module _ (w : List ℕ) (s : ℕ) (one : get_or w s 0 ≡ 1) (l : s + 1 < length w) where
  pub name-at : At w s (rest_of (term (drop s w))) (s + 2)
  unfolding term_turn
  name-at =
      let two : suc (s + 1) ≡ s + 2 = omega arith in
      let next : suc s ≡ s + 1 = omega arith in
      let words : drop s w ≡ get_or w s 0 ∷ get_or w (s + 1) 0 ∷ drop (s + 2) w =
      drop-cons w s 0 (omega arith) ∙ ap (λ (k : ℕ). get_or w s 0 ∷ drop k w) next
      ∙ ap (λ (u : List ℕ). get_or w s 0 ∷ u) (drop-cons w (s + 1) 0 l ∙ ap (λ (k : ℕ). get_or w (s + 1) 0 ∷ drop k w) two) in
      record {
        some_word = omega arith;
        after = omega arith;
        inside = omega arith;
        rest = rest-term (drop s w) ∙ ap (λ (u : List ℕ). rest_of (terms u 1)) words
            ∙ terms-one (get_or w s 0) 0 (get_or w (s + 1) 0) (drop (s + 2) w) (ap term_turn one) ∙ terms-zero (drop (s + 2) w);
      }

  pub name-is : (x : ℕ) → x ≡ get_or w (s + 1) 0 → term_in w s ≡ Term.name x
  name-is x e = term-name w s (record { behind = drop (s + 2) w; reads = name-at.rest }) one ∙ ap Term.name (sym e)

-- ---- differences
pub less-check : (w : List ℕ) (es : List Effect) (a e : ℕ) (M : Term) → term_in w a ≡ M
    → plus (bag (list_of w (Many 0 0 0))) (minus es (bag (list_of w (One 2 a e)))) ≡ minus es (Effect.check M ∷ [])
unfolding list_of effect_by pick bag plus insert minus effects_in effects value_or
less-check w es a e M d = ap (λ (N : Term). minus es (Effect.check N ∷ [])) d

pub less-nonce : (w : List ℕ) (es : List Effect) (a e b n h : ℕ)
    → plus (bag (list_of w (One 2 a e))) (minus es (bag (list_of w (Many b n h))))
    ≡ insert (Effect.check (term_in w a)) (minus es (bag (effects_in w b n)))
unfolding list_of effect_by pick bag plus insert minus
less-nonce w es a e b n h = refl
