-- The word that a process is spelled with, and the rules by that word.
use Rattle.std.specs.Prelude.{ℕ, eqb, List, [], ◌∷◌}
use Rattle.words.specs.Choice.{pick}
use Rattle.typing.specs.Term.{Term, Effect}
use Rattle.typing.specs.Bag.{insert, minus}
use Rattle.typing.specs.Types.{Ty}
use Rattle.typing.specs.Process.{Process}
use Rattle.typing.specs.Rule.{Rule}
pub mod Laws
pub mod Own
pub mod Sums
pub mod Pieces

abbrev pub code_of : Process → ℕ
code_of (Process.new x T P) = 1
code_of (Process.out M N P) = 2
code_of (Process.inp M x T P) = 3
code_of (Process.parallel P Q) = 4
code_of Process.stop = 5
code_of (Process.split M x T y U P) = 6
code_of (Process.match M N y U P) = 7
code_of (Process.decrypt M N x T P) = 8
code_of (Process.begin M P) = 9
code_of (Process.end M P) = 10
code_of (Process.cast M x es P) = 11
code_of (Process.check M N P) = 12

-- the word of the process that a rule concludes; 0 where it concludes none
unfoldable pub rule_code : Rule → ℕ
rule_code Rule.empty = 0
rule_code Rule.entry = 0
rule_code Rule.effect-none = 0
rule_code Rule.effect-end = 0
rule_code Rule.effect-check = 0
rule_code Rule.type-Un = 0
rule_code Rule.type-pair = 0
rule_code Rule.type-channel = 0
rule_code Rule.type-symkey = 0
rule_code Rule.type-nonce = 0
rule_code Rule.name = 0
rule_code Rule.pair = 0
rule_code Rule.cipher = 0
rule_code Rule.cipher-Un = 0
rule_code Rule.pair-Un = 0
rule_code Rule.stop = 5
rule_code Rule.begin = 9
rule_code Rule.end = 10
rule_code Rule.parallel = 4
rule_code Rule.new = 1
rule_code Rule.out = 2
rule_code Rule.inp = 3
rule_code Rule.split = 6
rule_code Rule.match = 7
rule_code Rule.cast = 11
rule_code Rule.check = 12
rule_code Rule.decrypt = 8
rule_code Rule.out-Un = 2
rule_code Rule.inp-Un = 3
rule_code Rule.split-Un = 6
rule_code Rule.match-Un = 7
rule_code Rule.decrypt-Un = 8

-- 9: begin, with its rule; 10: end
unfoldable pub label_rule : ℕ → Rule
label_rule c = pick (eqb c 9) Rule.begin Rule.end

unfoldable pub label_process : ℕ → Term → Process → Process
label_process c M P = pick (eqb c 9) (Process.begin M P) (Process.end M P)

-- the effects that it states, of those of the process in it
unfoldable pub labelled : ℕ → Term → List Effect → List Effect
labelled c M es = pick (eqb c 9) (minus es (Effect.end M ∷ [])) (insert (Effect.end M) es)

-- 7: match, with its rule where all types are Un; 8: decrypt
unfoldable pub open_rule : ℕ → Rule
open_rule c = pick (eqb c 7) Rule.match-Un Rule.decrypt-Un

unfoldable pub open_process : ℕ → Term → Term → ℕ → Ty → Process → Process
open_process c M N x T P = pick (eqb c 7) (Process.match M N x T P) (Process.decrypt M N x T P)
