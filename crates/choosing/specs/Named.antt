-- The rules and the kinds of the code, as derivations name them and as they are typed.
use Rattle.std.specs.Prelude.{ℕ, ◌≡◌, Option as Answer, None, Some, Result, Ok, Err}
use Rattle.std.proofs.Math.Option.{Option, none, some}
use Rattle.typing.specs.Derivation.{Kind, rule_of}
use Rattle.choosing.specs.declared.Kind as declared
use Rattle.choosing.specs.declared.Kind.TheVariants.{Environment, «Type», Effect, Term, Process}
use Rattle.choosing.specs.declared.Rule.{Rule}
use Rattle.choosing.specs.declared.Rule.TheVariants.{Empty, Entry, EffectNone, EffectEnd, EffectCheck, TypeUn, TypePair, TypeChannel, TypeSymkey, TypeNonce, Name, Pair, Cipher, CipherUn, PairUn, Stop, Begin, End, Parallel, New, Out, Inp, Split, Match, Cast, Check, Decrypt, OutUn, InpUn, SplitUn, MatchUn, DecryptUn}
use Rattle.choosing.specs.declared.UnknownRule.{UnknownRule}

-- the number by which a derivation names a rule
abbrev pub number_of : Rule → ℕ
number_of Empty = 1
number_of Entry = 2
number_of EffectNone = 3
number_of EffectEnd = 4
number_of EffectCheck = 5
number_of TypeUn = 6
number_of TypePair = 7
number_of TypeChannel = 8
number_of TypeSymkey = 9
number_of TypeNonce = 10
number_of Name = 11
number_of Pair = 12
number_of Cipher = 13
number_of CipherUn = 14
number_of PairUn = 15
number_of Stop = 16
number_of Begin = 17
number_of End = 18
number_of Parallel = 19
number_of New = 20
number_of Out = 21
number_of Inp = 22
number_of Split = 23
number_of Match = 24
number_of Cast = 25
number_of Check = 26
number_of Decrypt = 27
number_of OutUn = 28
number_of InpUn = 29
number_of SplitUn = 30
number_of MatchUn = 31
number_of DecryptUn = 32

-- a number and the rule that it names, or none
abbrev pub Names : ℕ → Result Rule UnknownRule → Type 0
Names n (Ok r) = n ≡ number_of r
Names n (Err e) = rule_of n ≡ none

-- a kind
abbrev pub kind_says : declared.Kind → Kind
kind_says Environment = Kind.of_environment
kind_says «Type» = Kind.of_type
kind_says Effect = Kind.of_effect
kind_says Term = Kind.of_term
kind_says Process = Kind.of_process

-- a kind, or none
abbrev pub kind_found : Answer declared.Kind → Option Kind
kind_found None = none
kind_found (Some k) = some (kind_says k)
