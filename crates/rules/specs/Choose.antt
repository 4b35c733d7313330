-- Document 01, 'Choosing', in its order; the rules that come before the type (ifunc, not executable) are joined to it at the end. Assumes
-- nothing.
use Rattle.std.specs.Prelude.{Bool, true, false, not, ◌&&◌, ◌||◌, cond, List, [], ◌∷◌, ℕ, ◌+◌, ◌-◌, leb, eqb, length, get_or, drop, ℤ, pos, negsuc, Ok, Err}
use Rattle.std.specs.Int.Bits.{bit_and}
use Rattle.rules.specs.Answer.{Answer, whether}
use Rattle.refusal.specs.declared.Refusal.TheVariants.{FlagNumber, OffsetAboveLength, OutputKindNumber}
use Rattle.rules.specs.declared.Relocation.{Relocation}
use Rattle.rules.specs.Record.{Limit, too_long, past, flags_above, kind_above, is_n, is_a, is_k, is_f, is_s, is_e, is_p, ifunc}
use Rattle.rules.specs.Range.{contains, signed64}
use Rattle.elf_kind.specs.Kind.{kind_number}
use Rattle.elf_kind.specs.declared.RelocationKind.TheVariants.{Absolute}
use Rattle.rules.specs.Types.{Row, lookup}
use Rattle.x86_64_kind.specs.declared.RelaxationKind.{RelaxationKind}
use Rattle.x86_64_kind.specs.declared.RelaxationKind.TheVariants.{MovIndirectToLea, MovIndirectToAbsolute, RexMovIndirectToAbsolute, RexAddIndirectToAbsolute}
use Rattle.x86_64_kind.specs.declared.RelaxationKind.TheVariants.{RexSubIndirectToAbsolute, RexCmpIndirectToAbsolute, CallIndirectToRelative, JmpIndirectToRelative, NoOp}
use Rattle.x86_64_kind.specs.declared.RelaxationKind.TheVariants.{TlsGdToLocalExec, TlsGdToLocalExecLarge, TlsLdToLocalExec, TlsLdToLocalExecNoPlt, TlsLdToLocalExec64}
use Rattle.x86_64_kind.specs.declared.RelaxationKind.TheVariants.{TlsGdToInitialExec, TlsDescToLocalExec, TlsDescToInitialExec, SkipTlsDescCall}

-- none, or a kind with the new type ("to t") and `is_mandatory` ("m")
pub data Choice : Type 0 where
  none : Choice
  chosen : RelaxationKind → ℕ → Bool → Choice

unfoldable pub given : Bool → Choice → Choice
given true c = c
given false c = none

unfoldable pub pick : Bool → Choice → Choice → Choice
pick true c d = c
pick false c d = d

-- "the range of type t"
unfoldable pub in_range : ℕ → ℤ → Bool
in_range t v = whether (λ (r : Row). contains r.range v) (lookup t)

abbrev pub is_minus4 : ℤ → Bool
is_minus4 (pos n) = false
is_minus4 (negsuc n) = eqb n 3

-- "48 or 4C"
abbrev pub is_rex_w : ℕ → Bool
is_rex_w b = eqb b 0x48 || eqb b 0x4C

-- whether a fixed byte string begins a part
abbrev pub starts_with : List ℕ → List ℕ → Bool
starts_with [] s = true
starts_with (a ∷ string) [] = false
starts_with (a ∷ string) (b ∷ s) = eqb b a && starts_with string s

-- a fixed byte string stands before an offset
abbrev pub stands : List ℕ → ℕ → List ℕ → Bool
stands sec off string = leb (length string) off && starts_with string (drop (off - length string) sec)

-- "A or (K and F)"
abbrev pub is_fixed : ℕ → ℕ → Bool
is_fixed flags kind = is_a flags || (is_k flags && is_f kind)

-- ---- the rules by what follows their conditions: an opcode, or a sequence's tail; `m` is when it is mandatory

-- 42, 43: "the address, read as signed, must lie in the range of type 11; byte −2 of 8B, 2B, 3B"
unfoldable pub rex_absolute : ℕ → ℕ → ℕ → Bool → Choice
rex_absolute b address n m =
    given (in_range 11 (signed64 address))
    (pick (eqb b 0x8B) (chosen (RexMovIndirectToAbsolute n) 11 m)
    (pick (eqb b 0x2B) (chosen (RexSubIndirectToAbsolute n) 11 m)
    (given (eqb b 0x3B) (chosen (RexCmpIndirectToAbsolute n) 11 m))))

-- 41 after 8B: "the address must lie in the range of type 10"
unfoldable pub mov_load : ℕ → Bool → Bool → Choice
mov_load address fixed m =
    pick fixed (given (in_range 10 (signed64 address)) (chosen MovIndirectToAbsolute 10 m)) (chosen MovIndirectToLea 2 m)

-- 41: "FF 15 gives CallIndirectToRelative, FF 25 JmpIndirectToRelative"
unfoldable pub branch_to : ℕ → Bool → Choice
branch_to b m = pick (eqb b 0x15) (chosen CallIndirectToRelative 2 m) (given (eqb b 0x25) (chosen JmpIndirectToRelative 2 m))

-- 22, 44: "8B gives RexMov, m: S; 03 gives RexAdd, never mandatory"
unfoldable pub tpoff_load : ℕ → ℕ → Bool → Choice
tpoff_load b n m =
    pick (eqb b 0x8B) (chosen (RexMovIndirectToAbsolute n) 23 m) (given (eqb b 0x03) (chosen (RexAddIndirectToAbsolute n) 23 false))

-- 20: "at +4 E8 and any byte .. 48 B8 .. FF 15"
unfoldable pub ld_call : List ℕ → Bool → Choice
ld_call part m =
    pick (starts_with (0xE8 ∷ []) part && leb 2 (length part)) (chosen TlsLdToLocalExec 0 m)
    (pick (starts_with (0x48 ∷ 0xB8 ∷ []) part) (chosen TlsLdToLocalExec64 0 false)
    (given (starts_with (0xFF ∷ 0x15 ∷ []) part) (chosen TlsLdToLocalExecNoPlt 0 m)))

-- 45: "D5, one of 08 0C 48 4C"
unfoldable pub is_rex2_w : ℕ → ℕ → Bool
is_rex2_w b payload = eqb b 0xD5 && (eqb payload 0x08 || eqb payload 0x0C || eqb payload 0x48 || eqb payload 0x4C)

-- 34, 45: "With N TlsDescToLocalExec(3 or 4) to 23, else TlsDescToInitialExec to 22"
unfoldable pub desc_choice : Bool → ℕ → Bool → Bool → Choice
desc_choice lea n local m =
    given lea (pick local (chosen (TlsDescToLocalExec n) 23 m) (chosen TlsDescToInitialExec 22 m))

module _ (sec : List ℕ) (r : Relocation) where
  -- "byte −k"
  abbrev byte : ℕ → ℕ
  byte k = get_or sec (r.offset - k) 0

  -- "the part of the section that starts at offset + 4"
  abbrev tail : List ℕ
  tail = drop (r.offset + 4) sec

  abbrev before : List ℕ → Bool
  before string = stands sec r.offset string

  -- "offset ≥ 3, byte −3 is 48 or 4C"
  abbrev rex_w : Bool
  rex_w = leb 3 r.offset && is_rex_w (byte 3)

  abbrev minus4 : Bool
  minus4 = is_minus4 r.addend

  abbrev N : Bool
  N = is_n r.flags

  abbrev E : Bool
  E = is_e r.output_kind

  abbrev S : Bool
  S = is_s r.output_kind

  -- 42, 43, with instruction offset n; "for 43 the byte −4 changes nothing"
  unfoldable pub rex_gotpcrelx : ℕ → Choice
  rex_gotpcrelx n =
      given rex_w
      (given (minus4 && N)
      (pick (is_fixed r.flags r.output_kind) (rex_absolute (byte 2) r.address n (S && is_a r.flags)) (given (eqb (byte 2) 0x8B) (chosen MovIndirectToLea 2 S))))

  -- 41
  unfoldable pub gotpcrelx : Choice
  gotpcrelx =
      given (minus4 && leb 2 r.offset && N)
      (pick (eqb (byte 2) 0x8B) (mov_load r.address (is_fixed r.flags r.output_kind) S) (given (eqb (byte 2) 0xFF) (branch_to (byte 1) (S && is_p r.output_kind))))

  -- 9
  unfoldable pub gotpcrel : Choice
  gotpcrel =
      given (N && (is_k r.flags || is_f r.output_kind) && minus4) (given rex_w (given (eqb (byte 2) 0x8B) (chosen MovIndirectToLea 2 false)))

  -- 22, 44, with instruction offset n
  unfoldable pub gottpoff : ℕ → Choice
  gottpoff n = given (E && N) (given rex_w (tpoff_load (byte 2) n S))

  -- 50
  unfoldable pub code6_gottpoff : Choice
  code6_gottpoff =
      given (E && N && leb 6 r.offset && eqb (byte 6) 0x62)
      (given (eqb (bit_and (byte 5) 0x47) 0x44 && eqb (bit_and (byte 4) 0x87) 0x84 && not (eqb (bit_and (byte 3) 0x14) 0))
      (given (eqb (byte 2) 0x01 || eqb (byte 2) 0x03) (chosen (RexAddIndirectToAbsolute 6) 23 S)))

  -- "4 with N: NoOp to 2. 31 with N: NoOp to 25"
  abbrev pub no_op : ℕ → Choice
  no_op t = given N (chosen NoOp t S)

  -- 19, "forms tried in order"
  unfoldable pub tlsgd : Choice
  tlsgd =
      given E
      (pick (before (0x66 ∷ 0x48 ∷ 0x8D ∷ 0x3D ∷ []) && (starts_with (0x66 ∷ 0x66 ∷ 0x48 ∷ 0xE8 ∷ []) tail || starts_with (0x66 ∷ 0x48 ∷ 0xFF ∷ 0x15 ∷ []) tail))
      (pick N (chosen TlsGdToLocalExec 23 S) (chosen TlsGdToInitialExec 22 false))
      (given (before (0x48 ∷ 0x8D ∷ 0x3D ∷ []) && starts_with (0x48 ∷ 0xB8 ∷ []) tail && starts_with (0x48 ∷ 0x01 ∷ 0xD8 ∷ 0xFF ∷ 0xD0 ∷ []) (drop 10 tail))
      (given N (chosen TlsGdToLocalExecLarge 23 S))))

  -- 20; "N not asked"; "E8 and any byte"
  unfoldable pub tlsld : Choice
  tlsld = given (E && before (0x48 ∷ 0x8D ∷ 0x3D ∷ [])) (ld_call tail S)

  -- 34, 45: "before the offset 48 or 4C, 8D, modrm; for 45 D5, one of 08 0C 48 4C, 8D, modrm; modrm AND C7 = 05"
  unfoldable pub tlsdesc : ℕ → Choice
  tlsdesc n =
      desc_choice (E && leb n r.offset && cond (eqb n 4) (is_rex2_w (byte 4) (byte 3)) (is_rex_w (byte 3)) && eqb (byte 2) 0x8D && eqb (bit_and (byte 1) 0xC7) 0x05) n N S

  -- "35 with E: SkipTlsDescCall to 0, no byte looked at"
  abbrev pub tlsdesc_call : Choice
  tlsdesc_call = given E (chosen SkipTlsDescCall 0 S)

  -- the types of an executable section that are not ifuncs; "All else: none"
  abbrev pub by_type : ℕ → Choice
  by_type type =
      pick (eqb type 42) (rex_gotpcrelx 3)
      (pick (eqb type 43) (rex_gotpcrelx 4)
      (pick (eqb type 41) gotpcrelx
      (pick (eqb type 9) gotpcrel
      (pick (eqb type 22) (gottpoff 3)
      (pick (eqb type 44) (gottpoff 4)
      (pick (eqb type 50) code6_gottpoff
      (pick (eqb type 4) (no_op 2)
      (pick (eqb type 31) (no_op 25)
      (pick (eqb type 19) tlsgd
      (pick (eqb type 20) tlsld
      (pick (eqb type 34) (tlsdesc 3)
      (pick (eqb type 45) (tlsdesc 4)
      (given (eqb type 35) tlsdesc_call)))))))))))))

  -- "Ifunc: type 2 gives NoOp to 4, always mandatory; every other type none. This precedes the executable check"; "Not executable: none"
  unfoldable pub choose : Choice
  choose =
      pick (ifunc r.flags) (given (eqb r.r_type 2) (chosen NoOp 4 true)) (given r.executable (by_type r.r_type))

-- "Choosing alone: 1, 2, 3, 4"
unfoldable pub choosing : Limit → List ℕ → Relocation → Answer Choice
choosing l sec r =
    cond (too_long l sec) (Err l.refusal)
    (cond (past sec r.offset) (Err OffsetAboveLength)
    (cond (flags_above r.flags) (Err FlagNumber)
    (cond (kind_above r.output_kind) (Err OutputKindNumber) (Ok (choose sec r)))))

-- `needs_got_fallback`: the new type's kind is Absolute
unfoldable pub needs_fallback : ℕ → Bool
needs_fallback t = whether (λ (r : Row). eqb (kind_number r.kind) (kind_number Absolute)) (lookup t)
