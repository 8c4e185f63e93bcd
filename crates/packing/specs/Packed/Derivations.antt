-- What is said of derivations on bytes fits one number, and is read back from it. Assumes nothing.
use Rattle.std.specs.Prelude.{ℕ, ◌/◌, ◌<◌, min, Bool, true, false, List, [], ◌∷◌, ◌⊎◌, ◌≡◌, refl, length}
use Rattle.std.proofs.Common.{inl, inr, arith}
use Rattle.std.proofs.Math.Decide.{dec_lt}
use Rattle.words.specs.Choice.{pick}
use Rattle.octets.specs.Octets.{words_in, uneven}
use Rattle.typing.specs.Apart.{keeps_apart}
use Rattle.typing.specs.Derivation.{Verdict, verdict, Right}
use Rattle.typing.proofs.Derivation.Laws.{verdict-right}
use Rattle.book.specs.Said.{said}
use Rattle.translation.specs.Outcome.{Outcome}
use Rattle.examining.specs.Checked.{verdict_said, odd, short, checked_bytes, apart_in, apart_bytes}
use Rattle.examining.specs.Checked.Laws.{checked-by, apart-odd, apart-short, apart-enough}
use Rattle.packing.specs.Packed.{pack, unpack, unpack_verdict, capped, Small, Packs}
use Rattle.packing.specs.Packed.Laws.{unpack-pack, verdict-told, verdict-placed}

-- ---- all that is said fits
-- a bad line is one of at most 1,024
said-packs : (a w : List ℕ) (v : Verdict) → Right a w v → Packs (capped (verdict_said v))
said-packs a w Verdict.safe r = Packs.one {n = 0} {v = min 4294967295 1} (omega arith) (omega arith)
said-packs a w (Verdict.bad i) r =
    let low : i < 1024 = omega (arith, r.line, r.within.few) in
    Packs.two {n = 0} {v = min 4294967295 0} {w = min 4294967295 i} (omega arith) (omega arith) (omega arith)
said-packs a w Verdict.another r = Packs.one {n = 0} {v = min 4294967295 2} (omega arith) (omega arith)
said-packs a w (Verdict.refused n) r = Packs.one {n = 24} {v = min 4294967295 n} (omega arith) (omega arith)

one-packs : (n v : ℕ) → n < 256 → Packs (capped (said n (v ∷ [])))
one-packs n v l = Packs.one {n = n} {v = min 4294967295 v} l (omega arith)

pub checked-packs : (xs ds room : List ℕ) → Packs (capped (checked_bytes xs ds room).says)
checked-packs xs ds room =
    checked-by xs ds room (λ s. Packs (capped s)) (one-packs 1 0 (omega arith)) (λ n. one-packs 24 n (omega arith))
    (λ n. one-packs 12 n (omega arith))
    (said-packs (words_in xs) (words_in ds) (verdict (words_in xs) (words_in ds)) (verdict-right (words_in xs) (words_in ds)))

-- ---- and is read back
one-back : (n v : ℕ) → n < 256 → (n ≡ 10 → ⊥) → (n ≡ 13 → ⊥) → (0 < n) ⊎ (0 < min 4294967295 v)
    → unpack_verdict (pack (capped (said n (v ∷ [])))) ≡ capped (said n (v ∷ []))
one-back n v l t u h = verdict-told _ (Small.one {n = n} {v = min 4294967295 v} l t u (omega arith)) h

said-back : (v : Verdict) → unpack_verdict (pack (capped (verdict_said v))) ≡ capped (verdict_said v)
said-back Verdict.safe = one-back 0 1 (omega arith) (omega arith) (omega arith) (inr (omega arith))
said-back (Verdict.bad i) = verdict-placed (min 4294967295 i)
said-back Verdict.another = one-back 0 2 (omega arith) (omega arith) (omega arith) (inr (omega arith))
said-back (Verdict.refused n) = one-back 24 n (omega arith) (omega arith) (omega arith) (inl (omega arith))

pub checked-unpacked : (xs ds room : List ℕ)
    → unpack_verdict (pack (capped (checked_bytes xs ds room).says)) ≡ capped (checked_bytes xs ds room).says
checked-unpacked xs ds room =
    checked-by xs ds room (λ s. unpack_verdict (pack (capped s)) ≡ capped s)
    (one-back 1 0 (omega arith) (omega arith) (omega arith) (inl (omega arith)))
    (λ n. one-back 24 n (omega arith) (omega arith) (omega arith) (inl (omega arith)))
    (λ n. one-back 12 n (omega arith) (omega arith) (omega arith) (inl (omega arith)))
    (said-back (verdict (words_in xs) (words_in ds)))

one-small : (n v : ℕ) → n < 256 → (n ≡ 10 → ⊥) → (n ≡ 13 → ⊥) → Small (capped (said n (v ∷ [])))
one-small n v l t u = Small.one {n = n} {v = min 4294967295 v} l t u (omega arith)

pub apart-small : (xs room : List ℕ) → Small (capped (apart_bytes xs room).says)
apart-small xs room = go (uneven xs) refl
  where
    from : (o : Outcome) → apart_bytes xs room ≡ o → Small (capped o.says) → Small (capped (apart_bytes xs room).says)
    from o e p = rw e p

    go : (v : Bool) → uneven xs ≡ v → Small (capped (apart_bytes xs room).says)
    go true e = from (odd room) (apart-odd xs room e) (one-small 1 0 (omega arith) (omega arith) (omega arith))
    go false e = elim (dec_lt (length room) (length xs / 4)) [
      | yes h ↦ from (short (length xs / 4) room) (apart-short xs room e h)
          (one-small 12 (length xs / 4) (omega arith) (omega arith) (omega arith))
      | no h ↦ from (apart_in xs room) (apart-enough xs room e (omega arith))
          (one-small 0 (pick (keeps_apart (words_in xs)) 1 0) (omega arith) (omega arith) (omega arith))
    ]

pub apart-unpacked : (xs room : List ℕ) → unpack (pack (capped (apart_bytes xs room).says)) ≡ capped (apart_bytes xs room).says
apart-unpacked xs room = unpack-pack _ (apart-small xs room)
