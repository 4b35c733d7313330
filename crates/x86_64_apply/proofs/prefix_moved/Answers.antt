-- Prefix by prefix, a test over all bytes each.
-- Assumes nothing.
use Rattle.std.proofs.Common.{◌/◌, bit_and, bit_or, eq-eqb}
use borrow.Author.Tests.{ne_eqb}
use Rattle.rules.specs.Rewrite.{rex_moved, rex2_moved}
use Rattle.laws.proofs.Bytes.{same}
use Rattle.x86_64_apply.proofs.prefix_moved.Goals as goal

pub returns-then-inst_offset-eq4 : goal.returns-then-inst_offset-eq4
unfolding rex2_moved
returns-then-inst_offset-eq4 c =
    rw (eq-eqb _ _ c.if-inst_offset-eq4.true) (same (λ b. bit_or (bit_and b 187) (bit_and b 68 / 4)) rex2_moved tt c.args.rex c.ranges.rex.fits)

pub returns-else-inst_offset-eq4 : goal.returns-else-inst_offset-eq4
unfolding rex_moved
returns-else-inst_offset-eq4 c =
    rw (ne_eqb _ _ c.if-inst_offset-eq4.false) (same (λ b. bit_or (bit_and b 251) (bit_and b 4 / 4)) rex_moved tt c.args.rex c.ranges.rex.fits)
