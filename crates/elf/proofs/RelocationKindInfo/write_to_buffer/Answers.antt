-- What is written lies in the range.
use borrow.Author.Rules.{sfits_of}
use Rattle.std.proofs.Common.{w64, arith, rules, length-take-le}
use Rattle.elf.specs.Elf.{range_of}
use Rattle.elf.proofs.Written.{put, held}
use Rattle.elf.proofs.RelocationKindInfo.write_to_buffer.Goals as goal

pub returns-in-4-clause-output_after : goal.returns-in-4-clause-output_after
returns-in-4-clause-output_after c =
    let a = c.args in
    let v = held a.value (range_of a.self.range) (sfits_of {w = w64} c.cast_signed.type_inv) c.cast_signed.ensures (search rules) c.verify.ensures in
    rw c.in-4.is (put 4 a.value _ a.output.now _ v (omega arith) (search rules))

pub returns-in-8-clause-output_after : goal.returns-in-8-clause-output_after
returns-in-8-clause-output_after c =
    let a = c.args in
    let v = held a.value (range_of a.self.range) (sfits_of {w = w64} c.cast_signed.type_inv) c.cast_signed.ensures (search rules) c.verify.ensures in
    rw c.in-8.is (put 8 a.value _ a.output.now _ v (omega arith) (search rules))

pub returns-in_default-clause-output_after : goal.returns-in_default-clause-output_after
returns-in_default-clause-output_after c =
    let a = c.args in
    let v = held a.value (range_of a.self.range) (sfits_of {w = w64} c.cast_signed.type_inv) c.cast_signed.ensures (search rules) c.verify.ensures in
    let l = length-take-le a.self.size.byte_size a.output.now (omega arith) in
    put a.self.size.byte_size a.value _ a.output.now _ v (omega arith) (rw l at c.write_low_first.ensures.output_after)
