-- Along a process's words: what is still to come, and the names that it binds. Assumes nothing.
use Prim.Native.Nat.{ℕ, zero, suc, ◌+◌, ◌-◌, ◌≤◌, ◌<◌}
use mathlib.Core.List.{List, [], ◌∷◌, ◌++◌}
use Rattle.std.proofs.Common.{◌∙◌, length-drop, drop_of_length-le, drop-cons}
use Rattle.std.proofs.Math.Option.{none, some}
use Rattle.std.proofs.Math.Path.{◌≡◌, refl, sym, ap}
use native.Mathlib.Omega.{arith}
use Rattle.std.proofs.Math.Decide.{dec_lt}
use Rattle.std.proofs.Math.Numerals.{add-one}
use Rattle.std.specs.Prelude.{length, drop, take, get_or, Option as Answer, None, Some, IsSome}
use Rattle.words.specs.Choice.{pick, then}
use Rattle.typing.specs.Reading.{processes, process_at}
use Rattle.spans.specs.Behind.{rest_of, At, Ends, skip_name, times, skips, process_own, process_parts}
use Rattle.spans.specs.Behind.Processes.{rest-process, processes-empty, processes-own}
use Rattle.apart.specs.Bound.{all_binders, bound_in, process_names, binders_at}
use Rattle.apart.specs.Bound.Laws.{processes-bound}

-- a process's names stand behind its first word
names-there : (c : ℕ) (u v : List ℕ) → process_own (c ∷ u) ≡ some v → process_names c ≤ length u
unfolding process_own process_names pick skips times skip_name then
names-there zero u v o = omega arith
names-there (suc zero) [] v o = absurd (let y : ◌≡◌ {A = ℕ} 0 1 = cc in omega arith)
names-there (suc zero) (x ∷ u) v o = omega arith
names-there (suc (suc zero)) u v o = omega arith
names-there (suc (suc (suc zero))) [] v o = absurd (let y : ◌≡◌ {A = ℕ} 0 1 = cc in omega arith)
names-there (suc (suc (suc zero))) (x ∷ u) v o = omega arith
names-there (suc (suc (suc (suc zero)))) u v o = omega arith
names-there (suc (suc (suc (suc (suc zero))))) u v o = omega arith
names-there (suc (suc (suc (suc (suc (suc zero)))))) [] v o = absurd (let y : ◌≡◌ {A = ℕ} 0 1 = cc in omega arith)
names-there (suc (suc (suc (suc (suc (suc zero)))))) (x ∷ []) v o = absurd (let y : ◌≡◌ {A = ℕ} 0 1 = cc in omega arith)
names-there (suc (suc (suc (suc (suc (suc zero)))))) (x ∷ y ∷ u) v o = omega arith
names-there (suc (suc (suc (suc (suc (suc (suc zero))))))) [] v o = absurd (let y : ◌≡◌ {A = ℕ} 0 1 = cc in omega arith)
names-there (suc (suc (suc (suc (suc (suc (suc zero))))))) (x ∷ u) v o = omega arith
names-there (suc (suc (suc (suc (suc (suc (suc (suc zero)))))))) [] v o = absurd (let y : ◌≡◌ {A = ℕ} 0 1 = cc in omega arith)
names-there (suc (suc (suc (suc (suc (suc (suc (suc zero)))))))) (x ∷ u) v o = omega arith
names-there (suc (suc (suc (suc (suc (suc (suc (suc (suc zero))))))))) u v o = omega arith
names-there (suc (suc (suc (suc (suc (suc (suc (suc (suc (suc zero)))))))))) u v o = omega arith
names-there (suc (suc (suc (suc (suc (suc (suc (suc (suc (suc (suc zero))))))))))) [] v o = absurd (let y : ◌≡◌ {A = ℕ} 0 1 = cc in omega arith)
names-there (suc (suc (suc (suc (suc (suc (suc (suc (suc (suc (suc zero))))))))))) (x ∷ u) v o = omega arith
names-there (suc (suc (suc (suc (suc (suc (suc (suc (suc (suc (suc (suc zero)))))))))))) u v o = omega arith
names-there (suc (suc (suc (suc (suc (suc (suc (suc (suc (suc (suc (suc (suc c))))))))))))) u v o = absurd (let y : ◌≡◌ {A = ℕ} 0 1 = cc in omega arith)

-- ---- along the words: at the place i, `due` processes are still to come, which bind the names bs and end at the place end
pub record Along (w : List ℕ) (end i due : ℕ) (bs : List ℕ) : Type 0 where
  pub fuel : ℕ
  pub enough : length w ≤ i + fuel
  pub reads : rest_of (processes fuel due (drop i w)) ≡ some (drop end w)
  pub few : due ≤ i + 1
  pub left : bound_in (processes fuel due (drop i w)) ≡ bs

pub along-begin : (w : List ℕ) (a end : ℕ) → At w a (rest_of (process_at (drop a w))) end → Along w end a 1 (binders_at w a)
unfolding binders_at
along-begin w a end h =
    record {
      fuel = length (drop a w);
      enough = omega (arith, length-drop a w);
      reads = sym (rest-process (drop a w)) ∙ h.rest;
      few = omega arith;
      left = refl;
    }

sums : (due n p : ℕ) → 0 < due → n ≡ p → due + n - 1 ≡ due - 1 + p
sums due n p h e = omega arith

few-sum : (due n i r : ℕ) → due ≤ i + 1 → n ≤ 2 → i + 1 ≤ r → 0 < due → due + n - 1 ≤ r + 1
few-sum due n i r d e f g = omega arith

-- one turn: the process's own words end at r; its names, and the rest
pub record Next (w : List ℕ) (end i due : ℕ) (bs : List ℕ) (r n : ℕ) : Type 0 where
  pub later : List ℕ
  pub along : Along w end r (due + n - 1) later
  pub bound : bs ≡ take (process_names (get_or w i 0)) (drop (i + 1) w) ++ later

module _ (w : List ℕ) (end i due : ℕ) (bs : List ℕ) (t : Along w end i due bs) where
  one_more : 0 < due → due ≡ suc (due - 1)
  one_more h = omega arith

  pub along-inside : 0 < due → i < length w
  along-inside h = elim (dec_lt i (length w)) [
    | yes l ↦ l
    | no l ↦
        let d : drop i w ≡ [] = drop_of_length-le w {i = i} (omega arith) in
        let e = ap (λ (m : ℕ). rest_of (processes t.fuel m (drop i w))) (one_more h)
        ∙ ap (λ (u : List ℕ). rest_of (processes t.fuel (suc (due - 1)) u)) d ∙ processes-empty t.fuel (due - 1) in
        let clash : some (drop end w) ≡ none = sym t.reads ∙ e in
        absurd (let y : ◌≡◌ {A = ℕ} 0 1 = cc in omega arith)
  ]

  more-fuel : 0 < due → t.fuel ≡ suc (t.fuel - 1)
  more-fuel h = omega (arith, t.enough, along-inside h)

  reading : 0 < due → processes t.fuel due (drop i w) ≡ processes (suc (t.fuel - 1)) (suc (due - 1)) (get_or w i 0 ∷ drop (suc i) w)
  reading h =
      ap (λ (f : ℕ). processes f due (drop i w)) (more-fuel h) ∙ ap (λ (m : ℕ). processes (suc (t.fuel - 1)) m (drop i w)) (one_more h)
      ∙ ap (λ (u : List ℕ). processes (suc (t.fuel - 1)) (suc (due - 1)) u) (drop-cons w i 0 (along-inside h))

  -- with q processes due behind its own words
  here : 0 < due → (q : ℕ) → q ≡ due - 1 + process_parts (get_or w i 0)
      → then (process_own (drop i w)) (λ v. rest_of (processes (t.fuel - 1) q v)) ≡ some (drop end w)
  here h q e =
      rw (drop-cons w i 0 (along-inside h)) (sym (processes-own (t.fuel - 1) (due - 1) q (get_or w i 0) (drop (suc i) w) e))
      ∙ sym (ap rest_of (reading h)) ∙ t.reads

  pub along-some : 0 < due → (r : Answer ℕ) → Ends w (i + 1) (process_own (drop i w)) r → IsSome r
  unfolding then
  along-some h None n =
      let e : none ≡ some (drop end w) = rw (n, then) at (here h _ refl) in
      absurd (let y : ◌≡◌ {A = ℕ} 0 1 = cc in omega arith)
  along-some h (Some r) b = refl

  own-words : 0 < due → (r : ℕ) → At w (i + 1) (process_own (drop i w)) r → process_own (get_or w i 0 ∷ drop (suc i) w) ≡ some (drop r w)
  own-words h r b = rw (drop-cons w i 0 (along-inside h)) at b.rest

  pub along-names : 0 < due → (r : ℕ) → At w (i + 1) (process_own (drop i w)) r → i + process_names (get_or w i 0) < length w
  along-names h r b =
      let n = names-there (get_or w i 0) (drop (suc i) w) (drop r w) (own-words h r b) in
      omega (arith, length-drop (suc i) w, along-inside h)

  pub along-next : 0 < due → (r : ℕ) → At w (i + 1) (process_own (drop i w)) r → (n : ℕ) → n ≡ process_parts (get_or w i 0) → n ≤ 2
      → Next w end i due bs r n
  unfolding then
  along-next h r b n e k =
      let s = sums due n _ h e in
      let reads : rest_of (processes (t.fuel - 1) (due + n - 1) (drop r w)) ≡ some (drop end w) = rw (b.rest, then) at (here h (due + n - 1) s) in
      let bound = processes-bound (t.fuel - 1) (due - 1) (due + n - 1) (get_or w i 0) (drop (suc i) w) (drop r w) (drop end w) s (own-words h r b) reads in
      record {
        later = bound_in (processes (t.fuel - 1) (due + n - 1) (drop r w));
        along = record {
          fuel = t.fuel - 1;
          enough = omega (arith, t.enough, b.after);
          reads = reads;
          few = few-sum due n i r t.few k
              b.after h;
          left = refl;
        };
        bound = sym t.left ∙ ap bound_in (reading h) ∙ rw add-one bound;
      }

  pub along-done : due ≤ 0 → bs ≡ []
  unfolding processes bound_in all_binders
  along-done h =
      let z : due ≡ 0 = omega arith in
      sym t.left ∙ ap (λ (m : ℕ). bound_in (processes t.fuel m (drop i w))) z ∙ go t.fuel
    where
      go : (f : ℕ) → bound_in (processes f 0 (drop i w)) ≡ []
      go zero = refl
      go (suc f) = refl
