-- A refusal of choosing and none are relaxing's own.
-- Assumes nothing.
use Rattle.std.proofs.Common.{rules, ◌≡◌, ◌∙◌, Err}
use Rattle.relax.proofs.Relaxing.{of_refusal, of_none}
use Rattle.relax.proofs.relax.Goals as goal

pub returns-in_err-relaxation-clause-value : goal.returns-in_err-relaxation-clause-value
returns-in_err-relaxation-clause-value c =
    let e : c.from_residual.result ≡ Err c.in_err-relaxation.field-0.0 = search rules in
    e ∙ (of_refusal c.args.section_bytes.now c.args.rel _ c.in_err-relaxation.ensures).0

pub returns-in-None-clause-section_bytes_after : goal.returns-in-None-clause-section_bytes_after
returns-in-None-clause-section_bytes_after c = (of_none c.args.section_bytes.now c.args.rel (rw c.in-None.is at c.in_ok-relaxation.ensures)).1
