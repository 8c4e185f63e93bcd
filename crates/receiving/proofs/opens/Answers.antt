-- `receiving::opens` meets its contract: a row that is no cipher is never opened, and a cipher goes by the partner
-- of its key. Assumes nothing.
use Rattle.receiving.proofs.Ciphers.{no-cipher, by_key}
use Rattle.receiving.proofs.opens.Goals as goal

pub returns-then-row_kind-eq-CIPHER : goal.returns-then-row_kind-eq-CIPHER
returns-then-row_kind-eq-CIPHER c = search by_key

pub returns-else-row_kind-eq-CIPHER : goal.returns-else-row_kind-eq-CIPHER
returns-else-row_kind-eq-CIPHER c = search no-cipher
