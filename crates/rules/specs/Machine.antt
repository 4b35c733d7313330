-- Document 01's machine ("Demand 3's machine is fed an instruction's bytes from the section, the address they are loaded at and that
-- demand's state"). Sections are of Intel's SDM, volumes 1 and 2, and of the APX specification. Assumes nothing.
use Rattle.std.specs.Prelude.{Bool, true, false, not, ◌&&◌, cond, List, [], ◌∷◌, ℕ, zero, suc, ◌+◌, ◌-◌, ◌*◌, ◌/◌, ◌%◌, ◌^◌, leb, ltb, eqb, length, get_or, drop}
use Rattle.std.specs.Bool.{beq}
use Rattle.rules.specs.Range.{bit, signed, read_back, from_low}

-- ---- the state: 32 registers, six status flags, memory of bytes at 64-bit addresses (SDM 1: 3.4.1, 3.4.3.1; APX: 32 registers)

pub record Flags : Type 0 where
  pub cf : Bool
  pub pf : Bool
  pub af : Bool
  pub zf : Bool
  pub sf : Bool
  pub of : Bool

-- registers and bytes are read modulo their size, so that every function is a state
pub record State : Type 0 where
  pub regs : ℕ → ℕ
  pub flags : Flags
  pub mem : ℕ → ℕ

-- "Other bytes: no step"; else the state after it and the address where it goes on
pub data Result : Type 0 where
  stop : Result
  stepped : State → ℕ → Result

-- ---- numbers: "sums wrap at 2^64, nothing faults"

abbrev pub word : ℕ
word = 2 ^ 64

abbrev pub is_set : ℕ → ℕ → Bool
is_set x k = eqb (bit x k) 1

-- the operand size by W: 64 or 32 bits (SDM 1: 3.6.1)
abbrev pub size : Bool → ℕ
size w = cond w (2 ^ 64) (2 ^ 32)

-- a 32-bit field read as signed, modulo 2^64: displacements and immediates (SDM 2: 2.2.1.3, 2.2.1.5, 2.2.1.6)
abbrev pub signed32 : ℕ → ℕ
signed32 = read_back 4 signed

-- four bytes, low first
unfoldable pub field4 : ℕ → ℕ → ℕ → ℕ → ℕ
field4 b0 b1 b2 b3 = from_low (b0 % 256 ∷ b1 % 256 ∷ b2 % 256 ∷ b3 % 256 ∷ [])

abbrev pub field_at : List ℕ → ℕ → ℕ
field_at code at = field4 (get_or code at 0) (get_or code (at + 1) 0) (get_or code (at + 2) 0) (get_or code (at + 3) 0)

-- ---- memory and registers

unfoldable pub read4 : (ℕ → ℕ) → ℕ → ℕ
read4 m a = field4 (m (a % word)) (m ((a + 1) % word)) (m ((a + 2) % word)) (m ((a + 3) % word))

unfoldable pub read8 : (ℕ → ℕ) → ℕ → ℕ
read8 m a = read4 m a + read4 m (a + 4) * 2 ^ 32

unfoldable pub write8 : (ℕ → ℕ) → ℕ → ℕ → ℕ → ℕ
write8 m a v x =
    let i = (x + (word - a % word)) % word in
    cond (ltb i 8) (v / 256 ^ i % 256) (m x)

unfoldable pub put : (ℕ → ℕ) → ℕ → ℕ → ℕ → ℕ
put r k v i = cond (eqb i k) v (r i)

-- the state with register k, the flags, or the 8 bytes at a changed, and all else as it was
abbrev pub set_reg : ℕ → ℕ → State → State
set_reg k v s = record { regs = put s.regs k v; flags = s.flags; mem = s.mem }

abbrev pub set_flags : Flags → State → State
set_flags f s = record { regs = s.regs; flags = f; mem = s.mem }

abbrev pub set_bytes : ℕ → ℕ → State → State
set_bytes a v s = record { regs = s.regs; flags = s.flags; mem = write8 s.mem a v }

-- ---- the operations (SDM 2: ADD, SUB), and the flags that they set (SDM 1: 3.4.3.1)

pub data Op : Type 0 where
  add sub : Op

-- the result's low bits, for operands below the size
unfoldable pub result : Op → Bool → ℕ → ℕ → ℕ
result add w a b = (a + b) % size w
result sub w a b = (a + (size w - b)) % size w

-- PF: the low byte has an even count of set bits
unfoldable pub even_parity : ℕ → Bool
even_parity x = eqb ((bit x 0 + bit x 1 + bit x 2 + bit x 3 + bit x 4 + bit x 5 + bit x 6 + bit x 7) % 2) 0

-- SF: the top bit
unfoldable pub negative : Bool → ℕ → Bool
negative w x = leb (size w / 2) x

unfoldable pub same_sign : Bool → ℕ → ℕ → Bool
same_sign w x y = beq (negative w x) (negative w y)

-- ZF, SF and PF go by the result r alone
abbrev pub flags_by : Bool → ℕ → Bool → Bool → Bool → Flags
flags_by w r c a o = record { cf = c; pf = even_parity r; af = a; zf = eqb r 0; sf = negative w r; of = o }

-- a + b: carries out of the top and out of bit 3; OF where both signs differ from the result's. a - b: borrows into the top and into bit 3;
-- OF where the signs differ and the result's is not a's
unfoldable pub flags_after : Op → Bool → ℕ → ℕ → ℕ → Flags
flags_after add w a b r =
    flags_by w r (leb (size w) (a + b)) (leb 16 (a % 16 + b % 16)) (same_sign w a b && not (same_sign w a r))
flags_after sub w a b r =
    flags_by w r (ltb a b) (ltb (a % 16) (b % 16)) (not (same_sign w a b) && not (same_sign w a r))

-- ---- the decoder

-- where an operand comes from: the slot at next + field, the field itself, or next + field
pub data Source : Type 0 where
  slot imm addr : Source

-- where a result goes
pub data Target : Type 0 where
  nowhere : Target
  into : ℕ → Target

-- what an instruction does: it moves a value of a size into a register; it operates, at a size, on a register and a value, its result goes
-- to a target, and it sets the flags or not; it calls; it jumps; or the machine has no step for it
pub data Action : Type 0 where
  bad : Action
  move : Bool → ℕ → Source → Action
  alu : Op → Bool → Target → ℕ → Source → Bool → Action
  call : Source → Action
  jump : Source → Action

-- with the count of its bytes, of which the last four are its field
pub record Form : Type 0 where
  pub action : Action
  pub long : ℕ

abbrev pub form : Action → ℕ → Form
form a n = record { action = a; long = n }

-- the operations on register k by their digits: add, sub, and cmp, which is sub without a target (SDM 2: A.4.2)
unfoldable pub by_digit : Bool → ℕ → Source → ℕ → Action
by_digit w k f digit =
    cond (eqb digit 0) (alu add w (into k) k f true)
    (cond (eqb digit 5) (alu sub w (into k) k f true)
    (cond (eqb digit 7) (alu sub w nowhere k f true) bad))

-- mod 00, r/m 101: RIP-relative (SDM 2: 2.2.1.6)
abbrev pub rip_relative : ℕ → Bool
rip_relative m = eqb (m / 64) 0 && eqb (m % 8) 5

-- "8B, 03, 2B, 3B are mov, add, sub, cmp with what lies in the slot .. 8D moves next + field in. FF /2, /4 go to the 8 bytes in the slot":
-- opcode o with a RIP-relative operand, on register k or with digit n
unfoldable pub via_rip : Bool → ℕ → ℕ → ℕ → Action
via_rip w o k n =
    cond (eqb o 0x8B) (move w k slot)
    (cond (eqb o 0x03) (by_digit w k slot 0)
    (cond (eqb o 0x2B) (by_digit w k slot 5)
    (cond (eqb o 0x3B) (by_digit w k slot 7)
    (cond (eqb o 0x8D) (move w k addr)
    (cond (eqb o 0xFF && eqb n 2) (call slot)
    (cond (eqb o 0xFF && eqb n 4) (jump slot) bad))))))

-- "C7 /0, 81 /0, /5, /7 the same with that field itself": opcode o with digit n on register k
unfoldable pub on_register : Bool → ℕ → ℕ → ℕ → Action
on_register w o k n = cond (eqb o 0xC7 && eqb n 0) (move w k imm) (cond (eqb o 0x81) (by_digit w k imm n) bad)

-- "E8, E9 to next + field". Opcode o and ModRM m after p prefix bytes with W and the high parts r and b of the register numbers; `rel` says
-- whether E8 and E9 are defined after this prefix
unfoldable pub opcode : ℕ → Bool → ℕ → ℕ → Bool → ℕ → ℕ → Form
opcode p w r b rel o m =
    cond (rel && eqb o 0xE8) (form (call addr) (p + 5))
    (cond (rel && eqb o 0xE9) (form (jump addr) (p + 5))
    (form
    (cond (rip_relative m) (via_rip w o (r + m / 8 % 8) (m / 8 % 8))
    (cond (eqb (m / 64) 3) (on_register w o (b + m % 8) (m / 8 % 8)) bad))
    (p + 6)))

-- the form that begins a code: REX 40 to 4F with W, R, B (SDM 2: 2.2.1.2); REX2, D5 and a payload with M0, R4, W, R3, B4, B3 (APX: REX2;
-- X3 and X4 extend an index, which no form here has), where M0 is another opcode map and E8, E9 are undefined; 67 before E8 (document 01: it
-- "only adds length"); no prefix
unfoldable pub decode : List ℕ → Form
decode code =
    let b0 = get_or code 0 0 in
    let b1 = get_or code 1 0 in
    let b2 = get_or code 2 0 in
    cond (eqb (b0 / 16) 4) (opcode 1 (is_set b0 3) (bit b0 2 * 8) (bit b0 0 * 8) true b1 b2)
    (cond (eqb b0 0xD5)
    (cond (is_set b1 7) (form bad 6)
    (opcode 2 (is_set b1 3) (bit b1 6 * 16 + bit b1 2 * 8) (bit b1 4 * 16 + bit b1 0 * 8) false b2 (get_or code 3 0)))
    (cond (eqb b0 0x67) (form (cond (eqb b1 0xE8) (call addr) bad) 6)
    (opcode 0 false 0 0 true b0 b1)))

-- ---- a step

-- the operand, with the field d and the address n after the instruction
abbrev pub operand : Source → Bool → State → ℕ → ℕ → ℕ
operand slot w s d n = cond w read8 read4 s.mem ((n + signed32 d) % word)
operand imm w s d n = signed32 d % size w
operand addr w s d n = (n + signed32 d) % word % size w

-- a value below its size: "a 32-bit write clears the upper half" (SDM 1: 3.4.1.1)
abbrev pub store : Target → ℕ → State → State
store nowhere v s = s
store (into k) v s = set_reg k v s

-- an operation on a and b, below its size; its target; whether it sets the flags
unfoldable pub exec : Op → Bool → Target → Bool → ℕ → ℕ → State → State
exec o w t f a b s =
    let r = result o w a b in
    store t r (cond f (set_flags (flags_after o w a b r) s) s)

-- "FF /2 and E8 then push next at rsp − 8" (SDM 2: CALL), 8 bytes whatever W says (SDM 2: 2.2.1.7)
unfoldable pub push : ℕ → State → State
push v s =
    let sp = (s.regs 4 + (word - 8)) % word in
    set_reg 4 sp (set_bytes sp v s)

-- "next is the address after the instruction, where it goes on unless it calls or jumps" (SDM 2: CALL, JMP; near branches are 64 bits wide,
-- 2.2.1.7): action, field, next, state
abbrev pub perform : Action → ℕ → ℕ → State → Result
perform bad d n s = stop
perform (move w k f) d n s = stepped (set_reg k (operand f w s d n) s) n
perform (alu o w t k f b) d n s = stepped (exec o w t b (s.regs k % size w) (operand f w s d n) s) n
perform (call f) d n s = stepped (push n s) (operand f true s d n)
perform (jump f) d n s = stepped s (operand f true s d n)

-- "fed an instruction's bytes .., the address they are loaded at and that demand's state": the instruction that begins a code at address a,
-- and lies whole in it
unfoldable pub step_at : List ℕ → ℕ → State → Result
step_at code a s =
    let f = decode code in
    cond (leb f.long (length code)) (perform f.action (field_at code (f.long - 4)) ((a + f.long) % word) s) stop

-- the one that begins at byte `at` of a section loaded at `base`
abbrev pub step : List ℕ → ℕ → ℕ → State → Result
step sec at base s = step_at (drop at sec) ((base + at) % word) s

-- n steps more, each at the address where the one before goes on
unfoldable pub run : List ℕ → ℕ → ℕ → Result → Result
run sec base zero r = r
run sec base (suc n) stop = stop
run sec base (suc n) (stepped s a) = run sec base n (step sec ((a + (word - base % word)) % word) base s)
