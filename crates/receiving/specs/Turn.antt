-- Receiving, as code goes about it: a cipher is opened, and what it holds is then received in turn; any other term is compared or kept.
-- Document 01: "the contents get the next placeholders and are received in turn".
use Rattle.std.specs.Prelude.{ℕ, ◌+◌, [], ◌∷◌}
use Rattle.terms.specs.Term.{Term, Terms, count, listed, partner}
use Rattle.translation.specs.Dictionary.{Dictionary, image}
use Rattle.translation.specs.Receive.{Event, Did, nothing, followed, receive_all}
pub mod Laws

-- the terms get the placeholders from n on, and are received left to right, at step s
unfoldable pub in_turn : ℕ → Terms → Dictionary → ℕ → Did
in_turn s ts δ n =
    followed (record { dictionary = δ; given = listed ts; events = []; stored = [] }) (receive_all s ts n δ (n + count ts))

-- what opening says of a cipher at placeholder p, where n is the next placeholder; no other term is ever opened
unfoldable pub unlocked : Term → ℕ → Dictionary → ℕ → Did
unlocked (Term.atom r) p δ n = nothing δ
unlocked (Term.operation g ts) p δ n = nothing δ
unlocked (Term.cipher k ts) p δ n = record { dictionary = δ; given = []; events = Event.opens p n (count ts) (image δ (partner k)) ∷ []; stored = [] }
unlocked (Term.public t) p δ n = nothing δ
unlocked (Term.private t) p δ n = nothing δ

-- what a cipher holds; no other term is ever opened
unfoldable pub contents_of : Term → Terms
contents_of (Term.atom r) = Terms.nil
contents_of (Term.operation g ts) = Terms.nil
contents_of (Term.cipher k ts) = ts
contents_of (Term.public t) = Terms.nil
contents_of (Term.private t) = Terms.nil
