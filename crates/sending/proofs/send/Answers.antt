-- `sending::send` meets its contract: first every NEW, then the SEND behind them; the images afterwards are those that
-- building finds on the way. Assumes nothing.
use Rattle.sending.proofs.Makes.{news, sends}
use mathlib.Core.Path.{refl}
use native.Mathlib.Omega.{arith}
use Rattle.sending.proofs.send.Goals as goal

-- each NEW took two words, and the NEWs are few
pub narrow-requires-2 : goal.narrow-requires-2
narrow-requires-2 c = omega (arith, news c.requires c.make_list-m.ensures)

pub returns : goal.returns
returns c = sends c.requires c.narrow.ensures c.make_list-m.ensures
    c.put_each-next.ensures refl c.write_images-end.ensures c.narrow-2.ensures
