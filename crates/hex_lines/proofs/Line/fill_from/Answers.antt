-- One byte more.
use Rattle.std.proofs.Common.{rules, ℕ, ◌∙◌, ap, arith}
use Rattle.hex_lines.specs.Hex.{byte_at}
use Rattle.hex_lines.proofs.Fill.{byte_more}
use Rattle.hex_lines.proofs.Line.fill_from.Goals as goal

pub loop-k-preserved : goal.loop-k-preserved
loop-k-preserved c =
    (search rules, byte_more _ _ _ _ _ (search rules) c.loop-k.invariant.1 (c.byte_from.ensures ∙ ap (λ (j : ℕ). byte_at c.args.self.digits.now j) (omega arith)))
