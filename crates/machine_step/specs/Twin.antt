-- The code's values as the machine's, one to one. Assumes nothing.
use Rattle.std.specs.Prelude.{ℕ, ◌+◌, ◌-◌, ◌%◌, ◌≡◌, true, false, Bool, List, Option, Some, None, slice_index}
use Rattle.rules.specs.Machine as machine
use Rattle.machine_step.specs.declared.instruction.Register.{Register}
use Rattle.machine_step.specs.declared.instruction.Source.{Source}
use Rattle.machine_step.specs.declared.instruction.Source.TheVariants.{Slot, Imm, Addr}
use Rattle.machine_step.specs.declared.instruction.Op.{Op}
use Rattle.machine_step.specs.declared.instruction.Op.TheVariants.{Add, Sub}
use Rattle.machine_step.specs.declared.instruction.Action.{Action}
use Rattle.machine_step.specs.declared.instruction.Action.TheVariants.{Move, Alu, Call, Jump}
use Rattle.machine_step.specs.declared.instruction.Form.{Form}
use Rattle.machine_step.specs.declared.Flags.{Flags}
use Rattle.machine_step.specs.declared.State.{State}
use Rattle.machine_step.specs.declared.Push.{Push}
use Rattle.machine_step.specs.declared.Stepped.{Stepped}

abbrev pub source_of : Source → machine.Source
source_of Slot = machine.slot
source_of Imm = machine.imm
source_of Addr = machine.addr

abbrev pub op_of : Op → machine.Op
op_of Add = machine.add
op_of Sub = machine.sub

abbrev pub target_of : Option Register → machine.Target
target_of None = machine.nowhere
target_of (Some k) = machine.into k.number

abbrev pub action_of : Option Action → machine.Action
action_of None = machine.bad
action_of (Some (Move w k f)) = machine.move w k.number (source_of f)
action_of (Some (Alu o w t k f b)) = machine.alu (op_of o) w (target_of t) k.number (source_of f) b
action_of (Some (Call f)) = machine.call (source_of f)
action_of (Some (Jump f)) = machine.jump (source_of f)

abbrev pub form_of : Form → machine.Form
form_of x = machine.form (action_of x.action) x.long

-- ---- flags, states and answers

abbrev pub flags_of : Flags → machine.Flags
flags_of f = record { cf = f.cf; pf = f.pf; af = f.af; zf = f.zf; sf = f.sf; of = f.of }

-- registers, flags and any memory
abbrev pub state_by : List ℕ → machine.Flags → (ℕ → ℕ) → machine.State
state_by l f m = record { regs = λ k. slice_index l k; flags = f; mem = m }

-- the code's state with any memory
abbrev pub state_of : State → (ℕ → ℕ) → machine.State
state_of s m = state_by s.regs (flags_of s.flags) m

-- the memory after a push, if there is one
abbrev pub memory_of : Option Push → (ℕ → ℕ) → ℕ → ℕ
memory_of None m = m
memory_of (Some p) m = machine.write8 m p.at p.value

abbrev pub answer_of : Option Stepped → (ℕ → ℕ) → machine.Result
answer_of None m = machine.stop
answer_of (Some r) m = machine.stepped (state_of r.state (memory_of r.push m)) r.next

-- ---- slots

abbrev pub from_slot : machine.Source → Bool
from_slot machine.slot = true
from_slot machine.imm = false
from_slot machine.addr = false

-- whether an action reads its slot
abbrev reads_slot : machine.Action → Bool
reads_slot machine.bad = false
reads_slot (machine.move w k f) = from_slot f
reads_slot (machine.alu o w t k f b) = from_slot f
reads_slot (machine.call f) = from_slot f
reads_slot (machine.jump f) = from_slot f

-- where it does, memory m holds the number v there, for the field d and the address n after the instruction
abbrev pub SlotHolds : machine.Action → ℕ → ℕ → ℕ → (ℕ → ℕ) → Type 0
SlotHolds x d n v m = reads_slot x ≡ true → machine.read8 m ((n + machine.signed32 d) % machine.word) ≡ v

-- the address of the slot of the instruction that begins a code at address a
abbrev pub code_slot : List ℕ → ℕ → ℕ
code_slot code a =
    let n = (machine.decode code).long in
    ((a + n) % machine.word + machine.signed32 (machine.field_at code (n - 4))) % machine.word

-- where it reads its slot, memory m holds the number v there
abbrev pub CodeSlotHolds : List ℕ → ℕ → ℕ → (ℕ → ℕ) → Type 0
CodeSlotHolds code a v m = reads_slot (machine.decode code).action ≡ true → machine.read8 m (code_slot code a) ≡ v
