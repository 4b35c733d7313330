-- A turn of the loop is the kit's own.
use Rattle.std.proofs.Common.{arith}
use Rattle.hex.specs.Hex.{lower_digits}
use Rattle.hex.proofs.Pairs.{encode_step, encode_done}
use Rattle.case_file.proofs.encode.Goals as goal

pub loop-i-preserved : goal.loop-i-preserved
loop-i-preserved c =
    encode_step lower_digits c.args.section.now c.loop-i.out c.loop-i.i _ _ (omega arith) (omega arith) c.glyph.ensures c.glyph-in-loop-i.ensures c.loop-i.invariant

pub returns : goal.returns
returns c = encode_done _ _ _ c.loop-i.i (omega arith) (omega arith) c.loop-i.invariant
