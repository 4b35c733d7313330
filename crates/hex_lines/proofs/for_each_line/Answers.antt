-- One call more is one line more.
use Rattle.std.proofs.Common.{of_calls}
use Rattle.hex_lines.proofs.Calls.{one_more}
use Rattle.hex_lines.proofs.for_each_line.Goals as goal

pub loop-turn-preserved : goal.loop-turn-preserved
loop-turn-preserved g c =
    let calls = c.loop-turn.invariant.1 in (search of_calls, one_more _ _ _ _ calls.0 _ _ calls.1 calls.2 c.each.ensures)
