use Rattle.std.proofs.Common.{arith, rules, to_z-of_z, w64, ◌∙◌}
use Rattle.x86_64_apply.proofs.Applied.{applied}
use Rattle.x86_64_apply.proofs.apply.Goals as goal

pub returns-clause-value : goal.returns-clause-value
returns-clause-value c =
    let a = c.args in
    rw (applied a.kind a.section_bytes.now a.offset_in_section a.addend (omega arith) (omega arith) (search rules))
    (c.rewrite.ensures.value ∙ rw (to_z-of_z {w = w64} c.ranges.addend))
