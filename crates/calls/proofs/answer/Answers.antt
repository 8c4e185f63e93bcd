-- `calls::answer` meets its contract: the three parts came one behind another, and the line of their call was printed. Assumes nothing.
use Rattle.std.proofs.KnownBytes.{Consumes-trans}
use Rattle.calls.proofs.answer.Goals as goal

pub returns : goal.returns
returns g c =
    let (read, is_first, came) = c.in_ok-l.ensures.came in
    let (read', is_second, came') = c.in_ok-m.ensures.came in
    let (read'', is_third, came'') = c.in_ok-n.ensures.came in
    record {
      read = read;
      read' = read';
      read'' = read'';
      first = _;
      second = _;
      third = _;
      is_first = is_first;
      is_second = is_second;
      is_third = is_third;
      came = Consumes-trans _ _ _ _ _ (Consumes-trans _ _ _ _ _ came came') came'';
      all = c.print.result;
      printed = rw c.call_line-end.ensures.line_after at c.print.ensures;
    }
