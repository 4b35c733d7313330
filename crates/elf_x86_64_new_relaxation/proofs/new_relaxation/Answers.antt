-- No number is refused.
-- Assumes nothing.
use Rattle.std.proofs.Common.{rules, w64, ap, Ok}
use Rattle.std.proofs.lemmas.Int.{to_z-of_z}
use mir.Val.{SFits}
use borrow.Author.Tests.{le-ltb}
use Rattle.rules.specs.Choose.{choosing}
use Rattle.rules.specs.Record.{flag_number, flags_above, output_kind_of, kind_above}
use Rattle.elf_x86_64_new_relaxation.proofs.Laws.{taken}
use Rattle.elf_x86_64_new_relaxation.proofs.new_relaxation.Goals as goal

pub returns : goal.returns
unfolding choosing flag_number output_kind_of
returns c =
    let f = taken _ _ _ (flags_above c.args.rel.flags) c.in_ok-try_from.ensures in
    let k = taken _ _ _ (kind_above c.args.rel.output_kind) c.in_ok-try_from-2.ensures in
    let s : SFits w64 c.args.rel.addend = search rules in
    rw (le-ltb _ _ (rw c.section_limit.ensures.value at c.if-section_limit-section_bytes.false), le-ltb _ _ c.if-section_bytes-offset.false, f.0, k.0) (ap (λ x. Ok x) (rw (f.1, k.1, to_z-of_z w64 _ s) at c.choose.ensures))
