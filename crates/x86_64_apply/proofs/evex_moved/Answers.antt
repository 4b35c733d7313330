-- One test over all bytes.
-- Assumes nothing.
use Rattle.std.proofs.Common.{◌-◌, ◌/◌, bit_and, bit_or}
use Rattle.rules.specs.Rewrite.{evex_moved}
use Rattle.laws.proofs.Bytes.{same}
use Rattle.x86_64_apply.proofs.evex_moved.Goals as goal

pub returns : goal.returns
unfolding evex_moved
returns c =
    same (λ b. bit_or (bit_or (bit_and (bit_or b 128) (255 - bit_and (255 - b) 128 / 4)) 16) (bit_and (255 - b) 16 / 2)) evex_moved tt c.args.l5 c.ranges.l5.fits
