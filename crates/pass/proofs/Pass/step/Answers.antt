-- What `accept` returns, with the pass.
use Rattle.pass.proofs.Steps.{by_accepted, by_refused}
use Rattle.pass.proofs.Pass.step.Goals as goal

pub returns-in-Ok-clause-section_bytes_after : goal.returns-in-Ok-clause-section_bytes_after
returns-in-Ok-clause-section_bytes_after c = by_accepted c.args.self c.args.section_bytes.now c.args.rel _ _ _ c.in-Ok.ensures

pub returns-in-Err-clause-section_bytes_after : goal.returns-in-Err-clause-section_bytes_after
returns-in-Err-clause-section_bytes_after c = by_refused c.args.self c.args.section_bytes.now c.args.rel _ _ c.in-Err.ensures
