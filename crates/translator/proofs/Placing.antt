-- The places of all parties' events, party by party: behind the last party they are all there. Assumes nothing.
use Prim.Native.Nat.{ℕ, ◌+◌, ◌<◌}
use native.Mathlib.Decide.{ℕ_discrete}
use native.Mathlib.Omega.{arith}
use mathlib.Core.List.{List, [], ◌∷◌}
use mathlib.Core.Path.{◌≡◌, ap, ◌∙◌}
use lib.ListN.{length, get_or}
use lib.Seq.{sets}
use Rattle.words.specs.Overlay.{Wrote}
use Rattle.book.specs.Layout.{parties, steps, sender, receiver}
use Rattle.book.specs.Valid.{Valid}
use Rattle.book.specs.Headed.Laws.{few-steps, few-parties}
use Rattle.translation.specs.Places.{places_of}
use Rattle.walking.specs.Placed.{Placed}
use Rattle.walking.specs.Noted.{Noted, PartyNoted}
use Rattle.walking.specs.Noted.Laws.{noted-set}
use Rattle.translator.specs.Surveyed.{Lists}

-- the first q parties noted their parts: x, y and z are the lists of SENDs, RECEIVEs and ENDs
pub record PartiesNoted (b : List ℕ) (q : ℕ) (x y z : List ℕ) : Type 0 where
  pub sends : (s : ℕ) → s < steps b → sender b s < q → get_or x s 0 ≡ (places_of b).sends s
  pub receives : (s : ℕ) → s < steps b → receiver b s < q → get_or y s 0 ≡ (places_of b).receives s
  pub ends : (p : ℕ) → p < q → get_or z p 0 ≡ (places_of b).ends p

pub parties-start : {b x y z : List ℕ} → PartiesNoted b 0 x y z
parties-start = record { sends = λ s h k. absurd (omega arith); receives = λ s h k. absurd (omega arith); ends = λ p k. absurd (omega arith) }

-- party q noted its part, and e, the place of its END, was put into z at i, which is q
pub parties-on : {b : List ℕ} {q : ℕ} {x l y m z n : List ℕ} {e i r : ℕ} → Valid b → q < parties b → Lists x y z → PartiesNoted b q x y z
    → PartyNoted b q x l y m e → i ≡ q → Wrote (e ∷ []) z i n r → PartiesNoted b (q + 1) l m n
parties-on {b} {q} {l = l} {m = m} {z = z} {n = n} {e = e} v h lists f g d w =
    let few = few-parties b v in
    let low = few-steps b v in
    let x-size = g.noted.sends.size in
    let y-size = g.noted.receives.size in
    let x-long = lists.sends in
    let y-long = lists.receives in
    record {
      sends = λ s i k. sent-by s i k (omega arith) (ℕ_discrete (sender b s) q);
      receives = λ s i k. received-by s i k (omega arith) (ℕ_discrete (receiver b s) q);
      ends = λ p k. ended p k (let z-long = lists.ends in omega arith) (ℕ_discrete p q);
    }
  where
    sent-by : (s : ℕ) → s < steps b → sender b s < q + 1 → s < length l → Dec (sender b s ≡ q) → get_or l s 0 ≡ (places_of b).sends s
    sent-by s i k room (yes o) = g.noted.sends.notes s (i, o) room
    sent-by s i k room (no o) = g.noted.sends.keeps s (f.sends s i (omega arith))

    received-by : (s : ℕ) → s < steps b → receiver b s < q + 1 → s < length m → Dec (receiver b s ≡ q) → get_or m s 0 ≡ (places_of b).receives s
    received-by s i k room (yes o) = g.noted.receives.notes s (i, o) room
    received-by s i k room (no o) = g.noted.receives.keeps s (f.receives s i (omega arith))

    put : Noted (places_of b).ends (λ p. p ≡ q) z n
    put = rw (w.list ∙ ap (λ k. sets z k (e ∷ [])) d) (noted-set (places_of b).ends z q e g.ends (λ p. p ≡ q) (λ p o. o))

    ended : (p : ℕ) → p < q + 1 → q < length z → Dec (p ≡ q) → get_or n p 0 ≡ (places_of b).ends p
    ended p k room (yes o) = put.notes p o (let same = put.size in omega arith)
    ended p k room (no o) = put.keeps p (f.ends p (omega arith))

-- each step has its sender and its receiver among the parties
pub parties-end : {b x y z : List ℕ} → Valid b → PartiesNoted b (parties b) x y z → Placed b x y z
parties-end v f =
    record {
      sends = λ s i. f.sends s i (v.steps_keep s i).sends;
      receives = λ s i. f.receives s i (v.steps_keep s i).receives;
      ends = λ p i. f.ends p i;
    }
