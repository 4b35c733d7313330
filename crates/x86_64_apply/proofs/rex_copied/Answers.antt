-- One test over all bytes.
-- Assumes nothing.
use Rattle.std.proofs.Common.{◌/◌, bit_and, bit_or}
use Rattle.rules.specs.Rewrite.{rex_copied}
use Rattle.laws.proofs.Bytes.{same}
use Rattle.x86_64_apply.proofs.rex_copied.Goals as goal

pub returns : goal.returns
unfolding rex_copied
returns c = same (λ b. bit_or b (bit_and b 4 / 4)) rex_copied tt c.args.rex c.ranges.rex.fits
