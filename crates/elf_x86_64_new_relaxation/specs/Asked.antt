-- The code's record, whose numbers are read, as the rules have it. Assumes nothing.
use Rattle.rules.specs.declared.Relocation.{Relocation}
use Rattle.rules.specs.Record.{relocation}
use Rattle.output_kind.specs.Output.{output_number}
use Rattle.elf_x86_64_new_relaxation.specs.declared.asked.Asked.{Asked}

abbrev pub record_of : Asked → Relocation
record_of q =
    relocation q.r_type q.offset q.flags.bits (output_number q.output_kind) q.executable q.address q.addend
