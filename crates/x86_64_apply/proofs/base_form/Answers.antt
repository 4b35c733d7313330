-- One test over all bytes.
-- Assumes nothing.
use Rattle.std.proofs.Common.{◌*◌, ◌/◌, ◌%◌, bit_and, bit_or}
use Rattle.rules.specs.Rewrite.{based}
use Rattle.laws.proofs.Bytes.{same}
use Rattle.x86_64_apply.proofs.base_form.Goals as goal

pub returns : goal.returns
returns c = same (λ b. bit_or (bit_or 128 (bit_and (b / 8) 7 * 8 % 256)) (bit_and (b / 8) 7)) based tt c.args.mod_rm c.ranges.mod_rm.fits
