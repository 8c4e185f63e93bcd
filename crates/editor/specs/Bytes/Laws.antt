-- Laws of the outcome on bytes: it is the outcome on words, with the spare bytes as they were; what is longer than a book or a schedule
-- may be changes nothing by its length; and a question to bytes is a question to their words. Assumes nothing.
use Prim.Native.Nat.{ℕ, zero, suc, ◌+◌, ◌*◌, ◌/◌, ◌≤◌, ◌<◌, min}
use Rattle.std.specs.Prelude.{Bool, true, List, [], ◌∷◌, ◌↔◌, ◌≡◌, length, get_or, take, ltb}
use Rattle.std.proofs.Math.Bool.{false}
use Rattle.std.proofs.Math.Path.{refl, sym, ap}
use Rattle.std.proofs.Common.{ap₂, ◌∙◌, arith, length-take-le, take_all, get_or-take, below_more, lt-ltb, le-ltb}
use Rattle.std.proofs.Math.Decide.{ℕ_discrete, dec_lt}
use Rattle.std.proofs.Math.Seq.{length-sets}
use Rattle.words.specs.Choice.{pick}
use Rattle.words.specs.Choice.Laws.{pick_true, pick-false}
use Rattle.words.specs.Run.{All}
use Rattle.words.specs.First.{first}
use Rattle.words.specs.First.Laws.{first-same, first-le, first-at, first-end, first_holds, first-fails}
use Rattle.octets.specs.Octets.{words_in, uneven, spare, bytes_of_all}
use Rattle.octets.specs.Octets.Laws.{words-length, bytes-even, bytes_back, words-laid, spare-laid}
use Rattle.book.specs.Layout.{header, sections, longest, loaded, offset}
use Rattle.book.specs.Rules.{count_breaks, OffsetRule, stated, offset_breaks}
use Rattle.book.specs.Rules.Laws.{count-exact, offset-exact}
use Rattle.book.specs.Said.{Said, said, accepted}
use Rattle.book.specs.Refusals.{reading_table, verdict}
use Rattle.book.specs.Refusals.Laws.{scan-here, scan-on}
use Rattle.translation.specs.Listing.{listing}
use Rattle.book.specs.Headed.Laws.{rules-headed, long-most}
use Rattle.translation.proofs.Low.Laws.{listing-low}
use Rattle.translation.specs.Outcome.{Outcome, acceptance, translation_says, laid, outcome}
use Rattle.translation.specs.Outcome.Laws.{laid-keeps, laid-lays, exactly-reading, exactly-written}
use Rattle.playing.specs.Rehearsal.{events_done, rehearsal_says, rehearsal, BadMoves}
use Rattle.playing.specs.Rehearsal.Laws.{rehearsal-acceptance-first, rehearsal-exactly-reading, rehearsal-exactly-11, exactly-played, done-length}
use Rattle.playing.specs.Rehearsal.Low.{done-low}
use Rattle.summary.specs.Summary.{summary, summary_says, summarized, asked}
use Rattle.summary.proofs.Summary.Laws.{summary-length, summary-low}
use Rattle.summary.proofs.Summary.Written.{summary-exactly-reading, exactly-summarized}
use Rattle.examining.specs.Checked.{odd}
use Rattle.writing.specs.Translated.{translated}
use Rattle.relaying.specs.Relayed.{rehearsed, summarized_on}
use Rattle.relaying.specs.Relayed.Laws.{plays-from}
use Rattle.packing.specs.Packed.{pack, unpack, capped, packed, Small}
use Rattle.packing.specs.Packed.Laws.{unpack-pack, capped-back}
use Rattle.editor.specs.Bytes.{translation_bytes, rehearsal_bytes, summary_bytes, asked_bytes, AsWords}
use Rattle.editor.specs.Bytes.Fits.{translation-small, rehearsal-small, summary-small, asked-small, asked-whole, asked-never-1}

-- ---- a book that is longer than a book can be
-- of as many words as are loaded, the first of more
module _ (b : List ℕ) (long : loaded < length b) where
  abbrev front : List ℕ
  front = take loaded b

  front_length : length front ≡ loaded
  front_length = length-take-le loaded b (omega arith)

  same_at : (k : ℕ) → k < loaded → get_or front k 0 ≡ get_or b k 0
  same_at k h = get_or-take loaded b k 0 h

  same_count : (i : ℕ) → i < sections → count_breaks front i ≡ count_breaks b i
  unfolding count_breaks
  same_count i h = rw (same_at (2 * i) (omega arith))

  same-offset : (i : ℕ) → i ≤ sections → offset front i ≡ offset b i
  unfolding offset
  same-offset zero h = refl
  same-offset (suc i) h = rw (same-offset i (omega arith), same_at (2 * i) (omega arith))

  same-breaks : (i : ℕ) → i < sections → offset_breaks front i ≡ offset_breaks b i
  unfolding offset_breaks stated pick
  same-breaks i h = rw (lt-ltb i sections h, same_at (2 * i + 1) (omega arith), same-offset i (omega arith))

-- where counts and offsets are what they have to be, the length breaks the rule
length-breaks : (b : List ℕ) → longest < length b → ((i : ℕ) → i < sections → count_breaks b i ≡ false)
    → ((i : ℕ) → i < sections → offset_breaks b i ≡ false) → offset_breaks b sections ≡ true
length-breaks b h counts offsets = go (offset_breaks b sections) refl
  where
    go : (v : Bool) → offset_breaks b sections ≡ v → offset_breaks b sections ≡ true
    go true e = e
    go false e =
        let each : (i : ℕ) → i < sections + 1 → OffsetRule b i =
        below_more (λ i. OffsetRule b i) sections (λ i l. (offset-exact b i).0 (offsets i l)) ((offset-exact b sections).0 e) in
        let most = long-most b (rules-headed b (λ i l. (count-exact b i).0 (counts i l)) each) in
        absurd (omega arith)

-- the place of refusal 3: the first section whose offset is wrong, or behind them all
place_at : (b : List ℕ) (r : ℕ) → r ≤ sections → ((k : ℕ) → k < r → offset_breaks b k ≡ false) → offset_breaks b r ≡ true
    → r ≡ first (offset_breaks b) (sections + 1)
place_at b r h below holds = first-at (offset_breaks b) (sections + 1) r (omega arith) below holds

-- the place that both name
record Third (b c : List ℕ) : Type 0 where
  place : ℕ
  within : place < sections + 1
  one : place ≡ first (offset_breaks b) (sections + 1)
  other : place ≡ first (offset_breaks c) (sections + 1)

third : (b : List ℕ) → loaded < length b → ((i : ℕ) → i < sections → count_breaks b i ≡ false) → Third (take loaded b) b
third b long counts =
    let same = same-breaks b long in
    elim (dec_lt (first (offset_breaks b) sections) sections) [
      | yes h ↦
          let r = first (offset_breaks b) sections in
          let holds = first_holds (offset_breaks b) sections h in
          let below : (k : ℕ) → k < r → offset_breaks b k ≡ false = first-fails (offset_breaks b) sections in
          record {
            place = r;
            within = omega arith;
            one = place_at (take loaded b) r (omega arith) (λ k l. same k (omega arith) ∙ below k l) (same r h ∙ holds);
            other = place_at b r (omega arith) below holds;
          }
      | no h ↦
          let n = front_length b long in
          let below : (k : ℕ) → k < sections → offset_breaks b k ≡ false = λ k l. first-fails (offset_breaks b) sections k (omega arith) in
          let below-front : (k : ℕ) → k < sections → offset_breaks (take loaded b) k ≡ false = λ k l. same k l ∙ below k l in
          let counts-front : (k : ℕ) → k < sections → count_breaks (take loaded b) k ≡ false = λ k l. same_count b long k l ∙ counts k l in
          record {
            place = sections;
            within = omega arith;
            one = place_at (take loaded b) sections (omega arith) below-front (length-breaks (take loaded b) (omega arith) counts-front below-front);
            other = place_at b sections (omega arith) below (length-breaks b (omega arith) counts below);
          }
    ]

-- refusal 2 or 3, and of which place
pub record Misfit (b c : List ℕ) : Type 0 where
  pub number : ℕ
  pub values : List ℕ
  pub some : 0 < number
  pub few : number ≤ 9
  pub one : verdict b ≡ said number values
  pub other : verdict c ≡ said number values

module _ (b : List ℕ) (long : loaded < length b) where
  -- the first line is passed
  not_short : (c : List ℕ) → header ≤ length c → 1 ≡ first (λ i. ltb (length c) header) 1
  not_short c h = first-end (λ i. ltb (length c) header) 1 1 refl (λ k l. le-ltb (length c) header h)

  pub misfit : Misfit (take loaded b) b
  unfolding verdict reading_table
  misfit =
      let n = front_length b long in
      elim (dec_lt (first (count_breaks b) sections) sections) [
        | yes h ↦
            let r = first (count_breaks b) sections in
            record {
              number = 2;
              values = 2 * r ∷ [];
              some = omega arith;
              few = omega arith;
              one = scan-on 1 1 _ _ _ accepted 1 (not_short (take loaded b) (omega arith)) (omega arith)
                  ∙ scan-here 2 sections _ _ _ accepted r (sym (first-same (count_breaks (take loaded b)) (count_breaks b) sections (same_count b long))) h;
              other = scan-on 1 1 _ _ _ accepted 1 (not_short b (omega arith)) (omega arith) ∙ scan-here 2 sections _ _ _ accepted r refl h;
            }
        | no h ↦
            let counts : (i : ℕ) → i < sections → count_breaks b i ≡ false = λ i l. first-fails (count_breaks b) sections i (omega arith) in
            let r = third b long counts in
            let all : sections ≡ first (count_breaks b) sections = (let l = first-le (count_breaks b) sections in omega arith) in
            let passes : sections ≡ first (count_breaks (take loaded b)) sections =
            all ∙ sym (first-same (count_breaks (take loaded b)) (count_breaks b) sections (same_count b long)) in
            record {
              number = 3;
              values = min header (2 * r.place + 1) ∷ [];
              some = omega arith;
              few = omega arith;
              one = scan-on 1 1 _ _ _ accepted 1 (not_short (take loaded b) (omega arith)) (omega arith)
                  ∙ scan-on 2 sections _ _ _ accepted sections passes (omega arith)
                  ∙ scan-here 3 (sections + 1) _ _ _ accepted r.place r.one r.within;
              other = scan-on 1 1 _ _ _ accepted 1 (not_short b (omega arith)) (omega arith) ∙ scan-on 2 sections _ _ _ accepted sections all (omega arith)
                  ∙ scan-here 3 (sections + 1) _ _ _ accepted r.place r.other r.within;
            }
      ]

-- ---- a refusal, whatever the output would be
abbrev of : Said → List ℕ → Outcome
of s l = record { says = s; lent = l }

refused-same : (s t : Said) (out ws vs : List ℕ) → s ≡ t → (t.number ≡ 0 → ⊥) → laid s out ws ≡ laid t out vs
refused-same s t out ws vs e n =
    ap₂ of e (laid-keeps s out ws (λ z. n (ap (λ (x : Said). x.number) (sym e) ∙ z)) ∙ sym (laid-keeps t out vs n))

-- so much of a book is enough, whatever is said of it, if refusals 1 to 9 are the reader's
enough : (b out : List ℕ) (says : List ℕ → Said) (ws : List ℕ → List ℕ)
    → ((c : List ℕ) (n : ℕ) → 0 < n → n ≤ 9 → (vs : List ℕ) → verdict c ≡ said n vs → says c ≡ said n vs)
    → laid (says (take loaded b)) out (ws (take loaded b)) ≡ laid (says b) out (ws b)
enough b out says ws reads = elim (dec_lt loaded (length b)) [
  | yes h ↦
      let m = misfit b h in
      let some = m.some in
      let theirs = reads b m.number m.some m.few m.values m.other in
      refused-same _ _ out (ws (take loaded b)) (ws b) (reads (take loaded b) m.number m.some m.few m.values m.one ∙ sym theirs)
      (λ z. let e = ap (λ (s : Said). s.number) theirs in absurd (omega arith))
  | no h ↦ ap (λ (c : List ℕ). laid (says c) out (ws c)) (take_all loaded b (omega arith))
]

module _ (b ms out : List ℕ) where
  pub long-book : translated (take loaded b) out ≡ translated b out
  long-book =
      enough b out (λ c. translation_says c (words_in out)) (λ c. bytes_of_all (listing c))
      (λ c n p h vs. (exactly-reading c (words_in out) n p h vs).1)

  pub long-played-book : rehearsed (take loaded b) ms out ≡ rehearsed b ms out
  long-played-book =
      enough b out (λ c. rehearsal_says c ms (words_in out)) (λ c. bytes_of_all (events_done c ms))
      (λ c n p h vs. (rehearsal-exactly-reading c ms (words_in out) n p h vs).1)

  pub long-summarized-book : summarized_on (take loaded b) out ≡ summarized_on b out
  long-summarized-book =
      enough b out (λ c. summary_says c (words_in out)) (λ c. bytes_of_all (summary c))
      (λ c n p h vs. (summary-exactly-reading c (words_in out) n p h vs).1)

  -- so much of a schedule is enough
  pub long-schedule : rehearsed b (take 4097 ms) out ≡ rehearsed b ms out
  long-schedule = elim (dec_lt 4097 (length ms)) [
    | no h ↦ ap (λ (l : List ℕ). rehearsed b l out) (take_all 4097 ms (omega arith))
    | yes h ↦ elim (ℕ_discrete (acceptance b).number 0) [
      | no n ↦
          let first : (l : List ℕ) → rehearsal_says b l (words_in out) ≡ acceptance b = λ l. rehearsal-acceptance-first b l (words_in out) n in
          refused-same _ _ out (bytes_of_all (events_done b (take 4097 ms))) (bytes_of_all (events_done b ms)) (first (take 4097 ms) ∙ sym (first ms))
          (λ z. n (ap (λ (s : Said). s.number) (sym (first ms)) ∙ z))
      | yes z ↦
          let plays = plays-from b z in
          let n = length-take-le 4097 ms (omega arith) in
          let says : (l : List ℕ) → 4096 < length l → rehearsal_says b l (words_in out) ≡ said 11 (4096 ∷ []) =
          λ l k. (rehearsal-exactly-11 b l (words_in out) (4096 ∷ [])).1 (plays, BadMoves.long k refl) in
          let theirs = says ms (omega arith) in
          refused-same _ _ out (bytes_of_all (events_done b (take 4097 ms))) (bytes_of_all (events_done b ms)) (says (take 4097 ms) (omega arith) ∙ sym theirs)
          (λ e. let f = ap (λ (s : Said). s.number) theirs in absurd (omega arith))
    ]
  ]

-- ---- the outcome on words
laid-words : (s : Said) (out ws : List ℕ) → (s.number ≡ 0 → All (λ w. w < 4294967296) ws × (length ws ≤ length out / 4))
    → AsWords (laid s (words_in out) ws) out (laid s out (bytes_of_all ws))
laid-words s out ws fits = elim (ℕ_discrete s.number 0) [
  | no n ↦
      let bytes = laid-keeps s out (bytes_of_all ws) n in
      record {
        says = refl;
        words = ap words_in bytes ∙ sym (laid-keeps s (words_in out) ws n);
        spares = ap spare bytes;
        size = ap length bytes;
      }
  | yes z ↦
      let bytes = laid-lays s out (bytes_of_all ws) z in
      let low = (fits z).0 in
      let room = (fits z).1 in
      record {
        says = refl;
        words = ap words_in bytes ∙ words-laid ws out low room ∙ sym (laid-lays s (words_in out) ws z);
        spares = ap spare bytes ∙ spare-laid ws out low room;
        size = ap length bytes ∙ length-sets out 0 (bytes_of_all ws);
      }
]

module _ (bs out : List ℕ) (e : uneven bs ≡ false) where
  pub of-whole : translation_bytes bs out ≡ translated (words_in bs) out
  unfolding translation_bytes
  of-whole = pick-false _ _ _ e

  pub translation-words : AsWords (outcome (words_in bs) (words_in out)) out (translation_bytes bs out)
  unfolding outcome
  translation-words =
      rw of-whole (laid-words (translation_says (words_in bs) (words_in out)) out (listing (words_in bs))
      (λ z. let fits = (exactly-written (words_in bs) (words_in out)).0 z in
      let n = words-length out in
      let room = fits.1 in
      (listing-low (words_in bs) fits.0.valid, omega arith)))

  module _ (ms : List ℕ) (f : uneven ms ≡ false) where
    pub of-wholes : rehearsal_bytes bs ms out ≡ rehearsed (words_in bs) (words_in ms) out
    unfolding rehearsal_bytes
    of-wholes = pick-false _ _ _ (rw (e, f))

    pub rehearsal-words : AsWords (rehearsal (words_in bs) (words_in ms) (words_in out)) out (rehearsal_bytes bs ms out)
    unfolding rehearsal
    rehearsal-words =
        rw of-wholes (laid-words (rehearsal_says (words_in bs) (words_in ms) (words_in out)) out (events_done (words_in bs) (words_in ms))
        (λ z. let fits = (exactly-played (words_in bs) (words_in ms) (words_in out)).0 z in
        let n = words-length out in
        let d = done-length (words_in bs) (words_in ms) in
        let room = fits.3 in
        (done-low (words_in bs) (words_in ms) fits.1, omega arith)))

  pub of-whole-summarized : summary_bytes bs out ≡ summarized_on (words_in bs) out
  unfolding summary_bytes
  of-whole-summarized = pick-false _ _ _ e

  pub summary-words : AsWords (summarized (words_in bs) (words_in out)) out (summary_bytes bs out)
  unfolding summarized
  summary-words =
      rw of-whole-summarized (laid-words (summary_says (words_in bs) (words_in out)) out (summary (words_in bs))
      (λ z. let fits = (exactly-summarized (words_in bs) (words_in out)).0 z in
      let n = words-length out in
      let d = summary-length (words_in bs) in
      let room = fits.1 in
      (summary-low (words_in bs) fits.0.valid, omega arith)))

-- ---- refusal 1, place 0, before all else
pub of-odd-summarized : (bs out : List ℕ) → uneven bs ≡ true → summary_bytes bs out ≡ odd out
unfolding summary_bytes
of-odd-summarized bs out n = pick_true _ _ _ n

pub of-odd : (bs out : List ℕ) → uneven bs ≡ true → translation_bytes bs out ≡ odd out
unfolding translation_bytes
of-odd bs out n = pick_true _ _ _ n

pub of-odd-book : (bs ms out : List ℕ) → uneven bs ≡ true → rehearsal_bytes bs ms out ≡ odd out
unfolding rehearsal_bytes
of-odd-book bs ms out n = pick_true _ _ _ (rw n)

pub of-odd-schedule : (bs ms out : List ℕ) → uneven bs ≡ false → uneven ms ≡ true → rehearsal_bytes bs ms out ≡ odd out
unfolding rehearsal_bytes
of-odd-schedule bs ms out e n = pick_true _ _ _ (rw (e, n))

-- ---- every answer fits one number, and is read back from it
odd-small : Small (said 1 (0 ∷ []))
odd-small = Small.one {n = 1} {v = 0} (omega arith) (omega arith) (omega arith) (omega arith)

pub translation-bytes-small : (bs out : List ℕ) → Small (translation_bytes bs out).says
translation-bytes-small bs out = go (uneven bs) refl
  where
    go : (v : Bool) → uneven bs ≡ v → Small (translation_bytes bs out).says
    go false e = rw (of-whole bs out e) (translation-small (words_in bs) (words_in out))
    go true e = rw (of-odd bs out e) odd-small

pub rehearsal-bytes-small : (bs ms out : List ℕ) → Small (rehearsal_bytes bs ms out).says
rehearsal-bytes-small bs ms out = go (uneven bs) refl (uneven ms) refl
  where
    go : (v : Bool) → uneven bs ≡ v → (w : Bool) → uneven ms ≡ w → Small (rehearsal_bytes bs ms out).says
    go false e false f = rw (of-wholes bs out e ms f) (rehearsal-small (words_in bs) (words_in ms) (words_in out))
    go false e true f = rw (of-odd-schedule bs ms out e f) odd-small
    go true e w f = rw (of-odd-book bs ms out e) odd-small

pub summary-bytes-small : (bs out : List ℕ) → Small (summary_bytes bs out).says
summary-bytes-small bs out = go (uneven bs) refl
  where
    go : (v : Bool) → uneven bs ≡ v → Small (summary_bytes bs out).says
    go false e = rw (of-whole-summarized bs out e) (summary-small (words_in bs) (words_in out))
    go true e = rw (of-odd-summarized bs out e) odd-small

pub translation-unpacked : (bs out : List ℕ) → unpack (packed (translation_bytes bs out)).answer ≡ (translation_bytes bs out).says
translation-unpacked bs out = unpack-pack (translation_bytes bs out).says (translation-bytes-small bs out)

pub rehearsal-unpacked : (bs ms out : List ℕ) → unpack (packed (rehearsal_bytes bs ms out)).answer ≡ (rehearsal_bytes bs ms out).says
rehearsal-unpacked bs ms out = unpack-pack (rehearsal_bytes bs ms out).says (rehearsal-bytes-small bs ms out)

pub summary-unpacked : (bs out : List ℕ) → unpack (packed (summary_bytes bs out)).answer ≡ (summary_bytes bs out).says
summary-unpacked bs out = unpack-pack (summary_bytes bs out).says (summary-bytes-small bs out)

-- ---- a question to the bytes of a summary
module _ (bs : List ℕ) (p r t : ℕ) where
  pub of-whole-summary : uneven bs ≡ false → asked_bytes bs p r t ≡ asked (words_in bs) p r t
  unfolding asked_bytes
  of-whole-summary e = pick-false _ _ _ e

  pub of-odd-summary : uneven bs ≡ true → asked_bytes bs p r t ≡ said 1 (0 ∷ [])
  unfolding asked_bytes
  of-odd-summary e = pick_true _ _ _ e

  pub asked-bytes-small : Small (capped (asked_bytes bs p r t))
  asked-bytes-small = go (uneven bs) refl
    where
      go : (v : Bool) → uneven bs ≡ v → Small (capped (asked_bytes bs p r t))
      go false e = rw (of-whole-summary e) (asked-small (words_in bs) p r t)
      go true e = rw (of-odd-summary e) odd-small

  pub asked-unpacked : unpack (pack (capped (asked_bytes bs p r t))) ≡ capped (asked_bytes bs p r t)
  asked-unpacked = unpack-pack (capped (asked_bytes bs p r t)) asked-bytes-small

  -- the number is 256 exactly for yes, and 0 exactly for no
  said-by : (v : ℕ) → v < 4294967295 → unpack (256 * v) ≡ said 0 (v ∷ []) → pack (capped (asked_bytes bs p r t)) ≡ 256 * v
      → asked_bytes bs p r t ≡ said 0 (v ∷ [])
  said-by v l u e = capped-back (asked_bytes bs p r t) 0 v l (sym asked-unpacked ∙ ap unpack e ∙ u)

  pub asked-yes : (pack (capped (asked_bytes bs p r t)) ≡ 256) ↔ (asked_bytes bs p r t ≡ said 0 (1 ∷ []))
  unfolding pack unpack pick
  asked-yes = (λ e. said-by 1 (omega arith) refl e, λ e. ap (λ s. pack (capped s)) e)

  pub asked-no : (pack (capped (asked_bytes bs p r t)) ≡ 0) ↔ (asked_bytes bs p r t ≡ said 0 (0 ∷ []))
  unfolding pack unpack pick
  asked-no = (λ e. said-by 0 (omega arith) refl e, λ e. ap (λ s. pack (capped s)) e)

  -- refusal 1 exactly for bytes that make no whole words
  pub asked-odd : ((asked_bytes bs p r t).number ≡ 1) ↔ (uneven bs ≡ true)
  asked-odd = (λ e. go (uneven bs) refl e, λ e. ap (λ (s : Said). s.number) (of-odd-summary e))
    where
      go : (v : Bool) → uneven bs ≡ v → (asked_bytes bs p r t).number ≡ 1 → uneven bs ≡ true
      go true e f = e
      go false e f =
          absurd (asked-never-1 (words_in bs) p r t (ap (λ (s : Said). s.number) (sym (of-whole-summary e)) ∙ f))

-- the bytes of words are asked as the words are, and nothing of the answer is lost where the words are no more than 32 bits count
module _ (ws : List ℕ) (low : All (λ w. w < 4294967296) ws) (p r t : ℕ) where
  pub asked-of-words : asked_bytes (bytes_of_all ws) p r t ≡ asked ws p r t
  asked-of-words =
      of-whole-summary (bytes_of_all ws) p r t (bytes-even ws) ∙ ap (λ (s : List ℕ). asked s p r t) (bytes_back ws low)

  pub asked-words-unpacked : length ws < 4294967296 → p < 4294967296 → r < 4294967296 → t < 4294967296
      → unpack (pack (capped (asked_bytes (bytes_of_all ws) p r t))) ≡ asked ws p r t
  asked-words-unpacked n hp hr ht =
      asked-unpacked (bytes_of_all ws) p r t ∙ ap capped asked-of-words ∙ asked-whole ws p r t n hp hr ht
