use Rattle.std.proofs.Common.{arith, rules}
use Rattle.elf_fill.proofs.Cases.{missing, nothing, filled_by, told}
use Rattle.elf_fill.proofs.fill.Goals as goal

pub returns-in_err-info-clause-value : goal.returns-in_err-info-clause-value
returns-in_err-info-clause-value c =
    let a = c.args in
    rw (missing a.section_bytes.now a.field (omega arith) (omega arith) c.in_err-info.ensures.value) (search rules)

pub returns-then-not-is_filled-clause-value : goal.returns-then-not-is_filled-clause-value
returns-then-not-is_filled-clause-value c =
    let a = c.args in
    rw (nothing a.section_bytes.now a.field (omega arith) (omega arith) c.in_ok-info.ensures.value (search rules)) (search rules)

pub returns-in_err-write_to_buffer-clause-value : goal.returns-in_err-write_to_buffer-clause-value
returns-in_err-write_to_buffer-clause-value c =
    let a = c.args in
    let w = c.in_err-write_to_buffer.ensures in
    rw (filled_by a.section_bytes.now a.field (omega arith) (omega arith) c.in_ok-info.ensures.value (search rules) c.relocated.ensures w.value w.output_after).0
    (search rules)

pub returns-in_err-write_to_buffer-clause-section_bytes_after : goal.returns-in_err-write_to_buffer-clause-section_bytes_after
returns-in_err-write_to_buffer-clause-section_bytes_after c =
    let a = c.args in
    let w = c.in_err-write_to_buffer.ensures in
    (filled_by a.section_bytes.now a.field (omega arith) (omega arith) c.in_ok-info.ensures.value (search rules) c.relocated.ensures w.value w.output_after).1

pub returns-clause-value : goal.returns-clause-value
returns-clause-value c =
    let a = c.args in
    let w = c.in_ok-write_to_buffer.ensures in
    rw (filled_by a.section_bytes.now a.field (omega arith) (omega arith) c.in_ok-info.ensures.value (search rules) c.relocated.ensures w.value w.output_after).0
    (search rules)

pub returns-clause-section_bytes_after : goal.returns-clause-section_bytes_after
returns-clause-section_bytes_after c =
    let a = c.args in
    let w = c.in_ok-write_to_buffer.ensures in
    (filled_by a.section_bytes.now a.field (omega arith) (omega arith) c.in_ok-info.ensures.value (search rules) c.relocated.ensures w.value w.output_after).1

pub returns-clause-leaves : goal.returns-clause-leaves
returns-clause-leaves c base p q =
    let a = c.args in
    let w = c.in_ok-write_to_buffer.ensures in
    let t = filled_by a.section_bytes.now a.field (omega arith) (omega arith) c.in_ok-info.ensures.value (search rules) c.relocated.ensures w.value w.output_after in
    rw t.1 (told a.section_bytes.now a.field base p (rw t.0 (search rules)))
