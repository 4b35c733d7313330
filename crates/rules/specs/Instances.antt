-- Worked instances of the theorem, one for each of the eight kinds that the rules choose for these types, and for REX2: each is relaxed and
-- filled, and meets all premises. `4C 8B 2D` is among them, and ends with r13 changed and rbp not. Assumes nothing.
use Rattle.std.specs.Prelude.{◌≡◌, Bool, true, false, cond, ◌&&◌, List, [], ◌∷◌, map, ℕ, ◌+◌, ◌-◌, ◌*◌, ◌/◌, ◌%◌, ◌^◌, leb, ltb, length, get_or, negsuc, Ok, Err, Option, Some, None}
use Rattle.rules.specs.Answer.{Answer}
use Rattle.x86_64_kind.specs.declared.RelaxationKind.{RelaxationKind}
use Rattle.x86_64_kind.specs.Kinds.{shape_of}
use Rattle.rules.specs.declared.Relocation.{Relocation}
use Rattle.rules.specs.declared.Field.{Field}
use Rattle.rules.specs.Record.{link_limit, relocation}
use Rattle.rules.specs.Choose.{Choice, none, chosen, choosing}
use Rattle.rules.specs.Rewrite.{Rewritten, Relaxed, unrelaxed, relaxed, rewriting, relaxing}
use Rattle.rules.specs.Fill.{Fill, unfilled, filled, filling, after_filling, FilledAt}
use Rattle.rules.specs.Machine.{State, Result, stop, stepped, word, signed32, field_at, rip_relative, step}
use Rattle.rules.specs.Meaning.{covered, head, begins, start, Instruction, field_after, Alike}

-- a record of a section that is loaded at `base`, with the slot's value
pub record Case : Type 0 where
  pub record' : Relocation
  pub section : List ℕ
  pub base : ℕ
  pub value : ℕ

-- type, section, offset, flag number, output kind, load address, the slot's value; executable, addend −4, the symbol at the slot's value
abbrev case : ℕ → List ℕ → ℕ → ℕ → ℕ → ℕ → ℕ → Case
case t s o f k b v = record { record' = relocation t o f k true v (negsuc 3); section = s; base = b; value = v }

-- the field holds 16, so that the slot lies 16 past the instruction; register k holds 16 * k, and memory the slot's value alone
abbrev pub state_of : Case → State
state_of c =
    let at = (c.base + c.record'.offset + 4 + signed32 (field_at c.section c.record'.offset)) % word in
    record {
      regs = λ k. k * 16;
      flags = record { cf = true; pf = false; af = true; zf = false; sf = false; of = true };
      mem = λ a. cond (ltb a at) 0 (c.value / 256 ^ (a - at) % 256);
    }

abbrev pub relaxing_of : Case → Answer Relaxed
relaxing_of c = relaxing link_limit c.section c.record'

abbrev pub field_of : Case → ℕ → Rewritten → Field
field_of c t x = field_after c.section c.record' t x c.base (state_of c)

abbrev pub fill_after : Case → Answer Relaxed → Answer Fill
fill_after c (Err n) = Err n
fill_after c (Ok unrelaxed) = Ok unfilled
fill_after c (Ok (relaxed k t m x)) = filling link_limit x.bytes (field_of c t x)

-- the premises, as one test
abbrev pub is_filled : Answer Fill → Bool
is_filled (Err n) = false
is_filled (Ok unfilled) = false
is_filled (Ok (filled new)) = true

abbrev pub meets : Case → Bool
meets c =
    let r = c.record' in
    let type = r.r_type in
    covered type && leb (head type) r.offset && leb (r.offset + 4) (length c.section)
    && begins type (get_or c.section (start r) 0) && rip_relative (get_or c.section (r.offset - 1) 0)
    && is_filled (fill_after c (relaxing_of c))

-- what a case shows: it meets every premise of the theorem, and the two steps end alike
pub record Instance (c : Case) : Type 0 where
  pub instruction : Instruction c.section c.record'
  pub kind : RelaxationKind
  pub new_type : ℕ
  pub mandatory : Bool
  pub result : Rewritten
  pub relaxes : relaxing_of c ≡ Ok (relaxed kind new_type mandatory result)
  pub new : List ℕ
  pub fills : filling link_limit result.bytes (field_of c new_type result) ≡ Ok (filled new)
  pub holds : FilledAt (field_of c new_type result) c.base result.bytes new
  pub alike : Alike (step c.section (start c.record') c.base (state_of c)) (step new (start c.record') c.base (state_of c))

-- plant one's load, into rbp, and plant two's, into r13, whose high bit moves
abbrev pub mov_rbp : Case
mov_rbp = case 42 (0x48 ∷ 0x8B ∷ 0x2D ∷ 16 ∷ 0 ∷ 0 ∷ 0 ∷ []) 3 1 0 0x401000 0x402000

abbrev pub mov_r13 : Case
mov_r13 = case 42 (0x4C ∷ 0x8B ∷ 0x2D ∷ 16 ∷ 0 ∷ 0 ∷ 0 ∷ []) 3 1 0 0x401000 0x402000

-- a variable 8 below the thread pointer; a call; a jmp
abbrev pub add_r12 : Case
add_r12 = case 22 (0x4C ∷ 0x03 ∷ 0x25 ∷ 16 ∷ 0 ∷ 0 ∷ 0 ∷ []) 3 1 2 0x401000 0xFFFFFFFFFFFFFFF8

abbrev pub call : Case
call = case 41 (0xFF ∷ 0x15 ∷ 16 ∷ 0 ∷ 0 ∷ 0 ∷ []) 2 1 1 0x401000 0x402000

abbrev pub jmp : Case
jmp = case 41 (0xFF ∷ 0x25 ∷ 16 ∷ 0 ∷ 0 ∷ 0 ∷ []) 2 1 1 0x401000 0x402000

-- REX2 with R4 alone: r16
abbrev pub add_r16 : Case
add_r16 = case 44 (0xD5 ∷ 0x48 ∷ 0x03 ∷ 0x05 ∷ 16 ∷ 0 ∷ 0 ∷ 0 ∷ []) 4 1 0 0x401000 0xFFFFFFFFFFFFFFF0

abbrev pub cases : List Case
cases =
    case 42 (0x48 ∷ 0x8B ∷ 0x2D ∷ 16 ∷ 0 ∷ 0 ∷ 0 ∷ []) 3 1 1 0x401000 0x402000
    ∷ case 41 (0x8B ∷ 0x2D ∷ 16 ∷ 0 ∷ 0 ∷ 0 ∷ []) 2 1 0 0x401000 0x402000
    ∷ mov_r13
    ∷ add_r12
    ∷ case 42 (0x4C ∷ 0x2B ∷ 0x2D ∷ 16 ∷ 0 ∷ 0 ∷ 0 ∷ []) 3 3 0 0x401000 0x402000
    ∷ case 42 (0x48 ∷ 0x3B ∷ 0x05 ∷ 16 ∷ 0 ∷ 0 ∷ 0 ∷ []) 3 3 0 0x401000 0x402000
    ∷ call
    ∷ jmp
    ∷ case 9 (0x48 ∷ 0x8B ∷ 0x3D ∷ 16 ∷ 0 ∷ 0 ∷ 0 ∷ []) 3 1 1 0x401000 0x402000
    ∷ case 43 (0xD5 ∷ 0x4C ∷ 0x8B ∷ 0x2D ∷ 16 ∷ 0 ∷ 0 ∷ 0 ∷ []) 4 3 1 0x401000 0x402000
    ∷ add_r16
    ∷ mov_rbp
    ∷ []

abbrev pub kind_number_of : Case → ℕ
kind_number_of c = number (relaxing_of c) where
  number : Answer Relaxed → ℕ
  number (Err n) = 19
  number (Ok unrelaxed) = 19
  number (Ok (relaxed k t m r)) = (shape_of k).number

-- what relaxing gives, and what choosing and then rewriting give: kind, new type, mandatory, and the rest as rewriting gives it
abbrev pub relaxed_as : Answer Relaxed → Answer Choice × Option (Answer Rewritten)
relaxed_as (Err n) = (Err n, None)
relaxed_as (Ok unrelaxed) = (Ok none, None)
relaxed_as (Ok (relaxed k t m r)) = (Ok (chosen k t m), Some (Ok r))

abbrev pub chosen_as : Case → Answer Choice × Option (Answer Rewritten)
chosen_as c = by (choosing link_limit c.section c.record') where
  by : Answer Choice → Answer Choice × Option (Answer Rewritten)
  by (Err n) = (Err n, None)
  by (Ok none) = (Ok none, None)
  by (Ok (chosen k t m)) = (Ok (chosen k t m), Some (rewriting link_limit k c.section c.record'.offset (negsuc 3)))

-- the section, relaxed and filled; a register after the instruction
abbrev pub section_left : Case → List ℕ
section_left c = after_filling [] (fill_after c (relaxing_of c))

abbrev pub register_after : Case → ℕ → ℕ
register_after c k = at (step (section_left c) (start c.record') c.base (state_of c)) where
  at : Result → ℕ
  at stop = 0
  at (stepped s a) = s.regs k

pub record MeaningWorked : Type 0 where
  pub all : map meets cases ≡ map (λ _. true) cases
  pub instances : (c : Case) → meets c ≡ true → Instance c
  -- MovIndirectToLea, MovIndirectToAbsolute, RexMov, RexAdd, RexSub, RexCmp, Call, Jmp; then type 9, the REX2 forms, and plant one's
  pub kinds : map kind_number_of cases ≡ 0 ∷ 1 ∷ 2 ∷ 3 ∷ 5 ∷ 6 ∷ 7 ∷ 8 ∷ 0 ∷ 2 ∷ 3 ∷ 2 ∷ []
  -- the same cases meet the premises of choosing and then rewriting
  pub steps : map chosen_as cases ≡ map (λ (c : Case). relaxed_as (relaxing_of c)) cases
  -- the fields' bytes: the address itself; −8; the address less 4 and less the field's own, 0x401002 in the call and 0x401001 in the jmp
  pub sections :
      map section_left (mov_rbp ∷ mov_r13 ∷ add_r12 ∷ call ∷ jmp ∷ [])
      ≡ (0x48 ∷ 0xC7 ∷ 0xC5 ∷ 0x00 ∷ 0x20 ∷ 0x40 ∷ 0x00 ∷ [])
      ∷ (0x49 ∷ 0xC7 ∷ 0xC5 ∷ 0x00 ∷ 0x20 ∷ 0x40 ∷ 0x00 ∷ [])
      ∷ (0x49 ∷ 0x81 ∷ 0xC4 ∷ 0xF8 ∷ 0xFF ∷ 0xFF ∷ 0xFF ∷ [])
      ∷ (0x67 ∷ 0xE8 ∷ 0xFA ∷ 0x0F ∷ 0x00 ∷ 0x00 ∷ [])
      ∷ (0xE9 ∷ 0xFB ∷ 0x0F ∷ 0x00 ∷ 0x00 ∷ 0x90 ∷ [])
      ∷ []
  pub r13 : register_after mov_r13 13 ≡ 0x402000
  pub rbp : register_after mov_r13 5 ≡ 5 * 16
  -- r16 held 16 * 16, and r8 is as it was
  pub r16 : register_after add_r16 16 ≡ 16 * 16 - 16
  pub r8 : register_after add_r16 8 ≡ 8 * 16
