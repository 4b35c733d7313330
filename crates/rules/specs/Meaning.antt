-- Demand 3, as a statement: "document 01's machine, from any state, ends alike on the old instruction and on the relaxed and filled one
-- (types 9, 22, 41 to 44)". Assumes nothing.
use Rattle.std.specs.Prelude.{◌≡◌, Bool, cond, ◌||◌, List, ℕ, ◌+◌, ◌-◌, ◌%◌, ◌≤◌, T, eqb, length, get_or, Ok}
use Rattle.x86_64_kind.specs.declared.RelaxationKind.{RelaxationKind}
use Rattle.rules.specs.declared.Relocation.{Relocation}
use Rattle.rules.specs.declared.Field.{Field}
use Rattle.rules.specs.Record.{Limit}
use Rattle.rules.specs.Choose.{chosen, choosing, is_rex_w}
use Rattle.rules.specs.Rewrite.{Rewritten, rewriting, relaxed, relaxing}
use Rattle.rules.specs.Fill.{field, filled, filling, FilledAt}
use Rattle.rules.specs.Machine.{State, Result, stepped, word, signed32, field_at, read8, rip_relative, step}

-- "types 9, 22 and 41 to 44"
abbrev pub covered : ℕ → Bool
covered type = eqb type 9 || eqb type 22 || eqb type 41 || eqb type 42 || eqb type 43 || eqb type 44

-- "the instruction starts at −2 for 41 (8B or FF), −3 for 9, 22 and 42 (48 or 4C), −4 for 43 and 44 (D5)"
abbrev pub head : ℕ → ℕ
head type = cond (eqb type 41) 2 (cond (eqb type 43 || eqb type 44) 4 3)

abbrev pub begins : ℕ → ℕ → Bool
begins type b = cond (eqb type 41) (eqb b 0x8B || eqb b 0xFF) (cond (eqb type 43 || eqb type 44) (eqb b 0xD5) (is_rex_w b))

abbrev pub start : Relocation → ℕ
start r = r.offset - head r.r_type

-- a record's instruction lies whole in the section, "its operand RIP-relative with the field at the offset"
pub record Instruction (sec : List ℕ) (r : Relocation) : Type 0 where
  pub type : T (covered r.r_type)
  pub low : head r.r_type ≤ r.offset
  pub whole : r.offset + 4 ≤ length sec
  pub first : T (begins r.r_type (get_or sec (start r) 0))
  pub rip : T (rip_relative (get_or sec (r.offset - 1) 0))

-- "what lies in the slot, at next + signed field": its 8 bytes, for an instruction whose field stands at `off` and ends it
abbrev pub slot_value : List ℕ → ℕ → ℕ → (ℕ → ℕ) → ℕ
slot_value sec off base m = read8 m ((base + off + 4 + signed32 (field_at sec off)) % word)

-- two steps end alike, and do end: the same registers, flags, memory, and the address where they go on
pub record Alike (x y : Result) : Type 0 where
  pub after : State
  pub goes_on : ℕ
  pub first : x ≡ stepped after goes_on
  pub second : y ≡ stepped after goes_on

-- document 02, card 4: "the fill being given relaxing's type, offset and addend, the load address of that offset, and the slot's value as
-- symbol value"; t is the new type, x what rewriting gave
abbrev pub field_after : List ℕ → Relocation → ℕ → Rewritten → ℕ → State → Field
field_after sec r t x base s = field t x.offset ((base + x.offset) % word) (slot_value sec r.offset base s.mem) x.addend

-- for every load address, state and section that is Filled, whatever program filled it
abbrev pub Anyhow : List ℕ → Relocation → ℕ → Rewritten → Type 0
Anyhow sec r t x =
    (base : ℕ) (s : State) (new : List ℕ) → FilledAt (field_after sec r t x base s) base x.bytes new
    → Alike (step sec (start r) base s) (step new (start r) base s)

-- and for what filling leaves, under any limit: nothing is asked of its bytes
pub record EndsAlike (sec : List ℕ) (r : Relocation) (t : ℕ) (x : Rewritten) : Type 0 where
  pub anyhow : Anyhow sec r t x
  pub by_fill :
      (base : ℕ) (s : State) (new : List ℕ) (l : Limit) → filling l x.bytes (field_after sec r t x base s) ≡ Ok (filled new)
      → Alike (step sec (start r) base s) (step new (start r) base s)

-- what is said of a section's records, whatever the limit
pub record SameMeaning (sec : List ℕ) : Type 0 where
  -- after relaxing
  pub relaxes :
      (l : Limit) (r : Relocation) → Instruction sec r
      → (k : RelaxationKind) (t : ℕ) (m : Bool) (x : Rewritten) → relaxing l sec r ≡ Ok (relaxed k t m x)
      → EndsAlike sec r t x
  -- after choosing and then rewriting
  pub rewrites :
      (l : Limit) (r : Relocation) → Instruction sec r
      → (k : RelaxationKind) (t : ℕ) (m : Bool) (x : Rewritten) → choosing l sec r ≡ Ok (chosen k t m)
      → rewriting l k sec r.offset r.addend ≡ Ok x
      → EndsAlike sec r t x
