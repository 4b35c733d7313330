use Rattle.std.proofs.Common.{◌≡◌, ◌+◌, ◌-◌, suc, length, arith}
use native.Mathlib.Nat.{sub-zero}
use Rattle.laws.proofs.Stores.{run_whole}
use Rattle.rules.specs.Range.{low_first}
use Rattle.rules.proofs.Widths.{length-low}
use Rattle.elf.proofs.write_low_first.Goals as goal

pub loop-byte-init : goal.loop-byte-init
loop-byte-init c =
    let l = c.args.output.now in
    rw (sub-zero (length l)) (run_whole (low_first (length l) c.args.value) l (length-low (length l) c.args.value))

pub loop-byte-preserved : goal.loop-byte-preserved
loop-byte-preserved c =
    let d = c.loop-byte in
    let n = length c.args.output.now in
    let e : n - d.byte-index ≡ suc (n - (d.byte-index + 1)) = omega arith in
    let f : d.byte-index + 1 ≡ suc d.byte-index = omega arith in
    rw f (rw (e, f) at d.invariant)
