-- What a change makes of types, by how they are formed. Assumes nothing.
use Prim.Native.Nat.{ℕ, zero, suc}
use Rattle.std.specs.Prelude.{Bool, ◌≡◌, drop}
use mathlib.Core.List.{List, [], ◌∷◌, map}
use Rattle.std.proofs.Math.Option.{some}
use Rattle.std.proofs.Math.Path.{refl}
use Rattle.std.proofs.Common.{sym, ◌∙◌, ap}
use Rattle.typing.specs.Term.{Effect, Change}
use Rattle.typing.specs.Bag.{bag, plus}
use Rattle.typing.specs.Types.{Ty, same_effects, change_type}
use Rattle.typing.specs.Reading.{joined, altered, effects}
use Rattle.spans.specs.Behind.{rest_of}
use Rattle.alike.specs.Same.{effects_in, test, form}
use Rattle.alike.specs.Same.Types.{Told, Makes}
use Rattle.changed.specs.Put.{changed_effects}
use Rattle.changed.specs.Put.Effects.{bag-changed}

-- ---- types that are formed, changed
module _ (ch : Change) where
  abbrev pub changed_own : List Effect → List Effect
  changed_own es = bag (changed_effects ch es)

  form-changed : (c : ℕ) (es : List Effect) (l : List Ty) → map (change_type ch) (form c es l) ≡ form c (changed_own es) (map (change_type ch) l)
  unfolding form joined altered change_type changed_effects
  form-changed zero es l = refl
  form-changed (suc zero) es l = refl
  form-changed (suc (suc zero)) es [] = refl
  form-changed (suc (suc zero)) es (T ∷ []) = refl
  form-changed (suc (suc zero)) es (T ∷ U ∷ l) = refl
  form-changed (suc (suc (suc zero))) es [] = refl
  form-changed (suc (suc (suc zero))) es (T ∷ l) = refl
  form-changed (suc (suc (suc (suc zero)))) es [] = refl
  form-changed (suc (suc (suc (suc zero)))) es (T ∷ l) = refl
  form-changed (suc (suc (suc (suc (suc zero))))) es l = refl
  form-changed (suc (suc (suc (suc (suc (suc c)))))) es l = refl

  none-changed : changed_own [] ≡ []
  unfolding changed_effects bag plus
  none-changed = refl

  -- a test that compares the first list with the second, changed, tells what is made of a nonce's effects
  pub Makes_changed : (w : List ℕ) (told : Told) → ((a k end b l last : ℕ) (r : Bool) → rest_of (effects k (drop a w)) ≡ some (drop end w)
      → rest_of (effects l (drop b w)) ≡ some (drop last w)
      → told a k end b l last r → r ≡ test (same_effects (bag (effects_in w a k)) (changed_own (effects_in w b l))))
      → Makes w w told (change_type ch) changed_own
  Makes_changed w told tells =
      record {
        forms = form-changed;
        none = none-changed;
        tells = λ a k end b l last r p q t. tells a k end b l last r p q t
            ∙ ap (λ (es : List Effect). test (same_effects (bag (effects_in w a k)) es)) (sym (bag-changed ch (effects_in w b l)));
      }
