-- A move: its operand, and the registers with it.
use Rattle.machine_step.specs.Twin.{state_of}
use Rattle.machine_step.proofs.perform.Goals as goal

pub returns-in-Move : goal.returns-in-Move
returns-in-Move c m h =
    rw (c.in-Move.is, c.operand.ensures.value (state_of c.args.state m) (rw c.in-Move.is at h), c.set_reg.ensures.regs, c.set_reg.ensures.flags)
