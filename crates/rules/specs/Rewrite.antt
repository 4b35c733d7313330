-- Document 01, 'Rewriting': the new bytes of each kind (those of `apply`), rewriting alone, relaxing, and what Filled means. Assumes nothing.
use Rattle.std.specs.Prelude.{◌≡◌, Bool, cond, List, [], ◌∷◌, ◌++◌, ℕ, ◌+◌, ◌-◌, ◌*◌, ◌/◌, ◌%◌, ◌^◌, ◌≤◌, ◌<◌, max, T, eqb, length, get_or, ℤ, pos, negsuc, Ok, Err}
use Rattle.std.proofs.lemmas.List.Edits.{sets}
use Rattle.rules.specs.Answer.{Answer}
use Rattle.refusal.specs.declared.Refusal.TheVariants.{InstructionOffset, OffsetAboveLength, WindowNotInside}
use Rattle.rules.specs.Range.{bit, signed64}
use Rattle.x86_64_kind.specs.declared.RelaxationKind.{RelaxationKind}
use Rattle.x86_64_kind.specs.declared.RelaxationKind.TheVariants.{MovIndirectToLea, MovIndirectToAbsolute, RexMovIndirectToAbsolute, RexAddIndirectToAbsolute}
use Rattle.x86_64_kind.specs.declared.RelaxationKind.TheVariants.{RexAddIndirectToLea, RexSubIndirectToAbsolute, RexCmpIndirectToAbsolute, CallIndirectToRelative, JmpIndirectToRelative}
use Rattle.x86_64_kind.specs.declared.RelaxationKind.TheVariants.{NoOp, TlsGdToLocalExec, TlsGdToLocalExecLarge, TlsLdToLocalExec, TlsLdToLocalExecNoPlt}
use Rattle.x86_64_kind.specs.declared.RelaxationKind.TheVariants.{TlsLdToLocalExec64, TlsGdToInitialExec, TlsDescToLocalExec, TlsDescToInitialExec, SkipTlsDescCall}
use Rattle.x86_64_kind.specs.declared.Window.{Window}
use Rattle.x86_64_kind.specs.Kinds.{shape_of, begin, inside, allowed}
use Rattle.rules.specs.declared.Relocation.{Relocation}
use Rattle.rules.specs.Record.{Limit, too_long, past}
use Rattle.rules.specs.Choose.{Choice, none, chosen, choosing, in_range}

-- ---- "The register field moves with its high bits"

-- "in REX, bit 2 goes to bit 0": it is cleared, and set there
unfoldable pub rex_moved : ℕ → ℕ
rex_moved b = b / 8 * 8 + bit b 1 * 2 + max (bit b 0) (bit b 2)

-- "in the REX2 payload, bits 6 and 2 go to 4 and 0"
unfoldable pub rex2_moved : ℕ → ℕ
rex2_moved b =
    bit b 7 * 128 + bit b 5 * 32 + max (bit b 4) (bit b 6) * 16 + bit b 3 * 8 + bit b 1 * 2 + max (bit b 0) (bit b 2)

abbrev pub moved : ℕ → ℕ → ℕ
moved inst b = cond (eqb inst 4) (rex2_moved b) (rex_moved b)

-- RexAddIndirectToLea "copies the bit"
unfoldable pub rex_copied : ℕ → ℕ
rex_copied b = b / 2 * 2 + max (bit b 0) (bit b 2)

-- EVEX byte −5: R3 (bit 7) goes to B3 (bit 5), both inverted: a clear bit 7 is set and clears bit 5. Then R4 (bit 4, inverted) goes to B4
-- (bit 3, not inverted): a clear bit 4 is set and sets bit 3
unfoldable pub evex_moved : ℕ → ℕ
evex_moved b = low (128 + bit b 6 * 64 + bit b 5 * bit b 7 * 32 + b % 32) where
  low : ℕ → ℕ
  low c = c / 32 * 32 + 16 + cond (eqb (bit c 4) 0) 8 (bit c 3 * 8) + c % 8

-- the register form of a ModRM byte, with the opcode's digit; and with the register as base too
abbrev pub direct : ℕ → ℕ → ℕ
direct digit m = 0xC0 + digit * 8 + m / 8 % 8

abbrev pub based : ℕ → ℕ
based m = 0x80 + (m / 8 % 8) * 8 + m / 8 % 8

-- ---- "New bytes .. are those of `apply`"

-- prefix, opcode, ModRM to an absolute field
abbrev pub to_absolute : ℕ → ℕ → ℕ → List ℕ → ℕ → List ℕ
to_absolute n o digit sec at =
    sets sec (at - 3) (moved n (get_or sec (at - 3) 0) ∷ o ∷ direct digit (get_or sec (at - 1) 0) ∷ [])

abbrev pub evex_to_absolute : List ℕ → ℕ → List ℕ
evex_to_absolute sec at =
    sets (sets sec (at - 5) (evex_moved (get_or sec (at - 5) 0) ∷ [])) (at - 2) (0x81 ∷ direct 0 (get_or sec (at - 1) 0) ∷ [])

-- mov %fs:0,%rax; lea {offset}(%rax),%rax
abbrev pub gd_to_local_exec : List ℕ
gd_to_local_exec = 0x64 ∷ 0x48 ∷ 0x8B ∷ 0x04 ∷ 0x25 ∷ 0 ∷ 0 ∷ 0 ∷ 0 ∷ 0x48 ∷ 0x8D ∷ 0x80 ∷ []

-- the same, a field of 4 bytes, and nopw (%rax,%rax)
abbrev pub gd_to_local_exec_large : List ℕ
gd_to_local_exec_large = gd_to_local_exec ++ (0 ∷ 0 ∷ 0 ∷ 0 ∷ 0x66 ∷ 0x0F ∷ 0x1F ∷ 0x44 ∷ 0 ∷ 0 ∷ [])

-- mov %fs:0,%rax, with prefixes
abbrev pub ld_to_local_exec : List ℕ
ld_to_local_exec = 0x66 ∷ 0x66 ∷ 0x66 ∷ 0x64 ∷ 0x48 ∷ 0x8B ∷ 0x04 ∷ 0x25 ∷ 0 ∷ 0 ∷ 0 ∷ 0 ∷ []

-- the same, with one prefix more
abbrev pub ld_to_local_exec_no_plt : List ℕ
ld_to_local_exec_no_plt = 0x66 ∷ ld_to_local_exec

-- nopw (%rax,%rax); mov %fs:0,%rax
abbrev pub ld_to_local_exec64 : List ℕ
ld_to_local_exec64 = 0x66 ∷ 0x66 ∷ 0x66 ∷ 0x66 ∷ 0x2E ∷ 0x0F ∷ 0x1F ∷ 0x84 ∷ 0 ∷ 0 ∷ 0 ∷ 0 ∷ 0 ∷ 0x64 ∷ 0x48 ∷ 0x8B ∷ 0x04 ∷ 0x25 ∷ 0 ∷ 0 ∷ 0 ∷ 0 ∷ []

-- mov %fs:0,%rax; add *x,%rax
abbrev pub gd_to_initial_exec : List ℕ
gd_to_initial_exec = 0x64 ∷ 0x48 ∷ 0x8B ∷ 0x04 ∷ 0x25 ∷ 0 ∷ 0 ∷ 0 ∷ 0 ∷ 0x48 ∷ 0x03 ∷ 0x05 ∷ []

abbrev pub rewritten : RelaxationKind → List ℕ → ℕ → List ℕ
rewritten MovIndirectToLea sec at = sets sec (at - 2) (0x8D ∷ [])
rewritten MovIndirectToAbsolute sec at = sets sec (at - 2) (0xC7 ∷ direct 0 (get_or sec (at - 1) 0) ∷ [])
rewritten (RexMovIndirectToAbsolute n) sec at = to_absolute n 0xC7 0 sec at
rewritten (RexAddIndirectToAbsolute n) sec at = cond (eqb n 6) (evex_to_absolute sec at) (to_absolute n 0x81 0 sec at)
rewritten (RexAddIndirectToLea n) sec at =
    sets sec (at - 3) (rex_copied (get_or sec (at - 3) 0) ∷ 0x8D ∷ based (get_or sec (at - 1) 0) ∷ [])
rewritten (RexSubIndirectToAbsolute n) sec at = to_absolute n 0x81 5 sec at
rewritten (RexCmpIndirectToAbsolute n) sec at = to_absolute n 0x81 7 sec at
rewritten CallIndirectToRelative sec at = sets sec (at - 2) (0x67 ∷ 0xE8 ∷ [])
rewritten JmpIndirectToRelative sec at = sets sec (at - 2) (0xE9 ∷ 0 ∷ 0 ∷ 0 ∷ 0 ∷ 0x90 ∷ [])
rewritten NoOp sec at = sec
rewritten TlsGdToLocalExec sec at = sets sec (at - 4) gd_to_local_exec
rewritten TlsGdToLocalExecLarge sec at = sets sec (at - 3) gd_to_local_exec_large
rewritten TlsLdToLocalExec sec at = sets sec (at - 3) ld_to_local_exec
rewritten TlsLdToLocalExecNoPlt sec at = sets sec (at - 3) ld_to_local_exec_no_plt
rewritten TlsLdToLocalExec64 sec at = sets sec (at - 3) ld_to_local_exec64
rewritten TlsGdToInitialExec sec at = sets sec (at - 4) gd_to_initial_exec
rewritten (TlsDescToLocalExec n) sec at = to_absolute n 0xC7 0 sec at
rewritten TlsDescToInitialExec sec at = sets sec (at - 2) (0x8B ∷ [])
-- xchg %ax,%ax
rewritten SkipTlsDescCall sec at = sets sec at (0x66 ∷ 0x90 ∷ [])

-- ---- rewriting alone, and relaxing

pub record Rewritten : Type 0 where
  pub bytes : List ℕ
  pub offset : ℕ
  pub addend : ℤ

-- "New bytes, offset and addend are those of `apply`"
abbrev pub rewrite : RelaxationKind → List ℕ → ℕ → ℤ → Rewritten
rewrite k sec off a =
    record {
      bytes = rewritten k sec off;
      offset = begin (shape_of k).window off + (shape_of k).field;
      addend = cond (shape_of k).clears (pos 0) a;
    }

-- "Rewriting alone: 1, 2, 5, 6"
unfoldable pub rewriting : Limit → RelaxationKind → List ℕ → ℕ → ℤ → Answer Rewritten
rewriting l k sec off a =
    cond (too_long l sec) (Err l.refusal)
    (cond (past sec off) (Err OffsetAboveLength)
    (cond (allowed k) (cond (inside (shape_of k).window (length sec) off) (Ok (rewrite k sec off a)) (Err WindowNotInside)) (Err InstructionOffset)))

-- what relaxing and a pass claim of a section, for a kind and its new type: the kind's own window
unfoldable pub claims : RelaxationKind → ℕ → Window
claims k t = (shape_of k).window

-- none, or the choice with what rewriting gives
pub data Relaxed : Type 0 where
  unrelaxed : Relaxed
  relaxed : RelaxationKind → ℕ → Bool → Rewritten → Relaxed

-- "6 only where a kind was chosen"
unfoldable pub relax_chosen : List ℕ → Relocation → Answer Choice → Answer Relaxed
relax_chosen sec r (Err n) = Err n
relax_chosen sec r (Ok none) = Ok unrelaxed
relax_chosen sec r (Ok (chosen k t m)) =
    cond (inside (claims k t) (length sec) r.offset) (Ok (relaxed k t m (rewrite k sec r.offset r.addend))) (Err WindowNotInside)

-- "Relaxing: 1, 2, 3, 4, choice, 6"
unfoldable pub relaxing : Limit → List ℕ → Relocation → Answer Relaxed
relaxing l sec r = relax_chosen sec r (choosing l sec r)

-- the section afterwards: "A refusal gives its number alone", and changes nothing
unfoldable pub after_rewriting : List ℕ → Answer Rewritten → List ℕ
after_rewriting sec (Ok r) = r.bytes
after_rewriting sec (Err n) = sec

unfoldable pub after_relaxing : List ℕ → Answer Relaxed → List ℕ
after_relaxing sec (Ok (relaxed k t m r)) = r.bytes
after_relaxing sec (Ok unrelaxed) = sec
after_relaxing sec (Err n) = sec

-- ---- "Filled means": a predicate of any section, filled by whatever program

-- an integer modulo 2^64
abbrev pub word_of : ℤ → ℕ
word_of (pos n) = n % 2 ^ 64
word_of (negsuc n) = 2 ^ 64 - 1 - n % 2 ^ 64

-- "the slot's 8 bytes plus the new addend (for type 2 less the field's address)"
abbrev pub relocated : ℕ → ℕ → ℤ → ℕ → ℕ
relocated t v a p = cond (eqb t 2) ((v + word_of a + (2 ^ 64 - p % 2 ^ 64)) % 2 ^ 64) ((v + word_of a) % 2 ^ 64)

-- "the low 4 bytes of that, low first, stand at the new offset, and no other byte is changed"
pub record Holds (old new : List ℕ) (at x : ℕ) : Type 0 where
  pub inside : at + 4 ≤ length old
  pub size : length new ≡ length old
  pub field : (i : ℕ) → i < 4 → get_or new (at + i) 0 ≡ x / 256 ^ i % 256
  pub before : (i : ℕ) → i < at → get_or new i 0 ≡ get_or old i 0
  pub after : (i : ℕ) → at + 4 ≤ i → get_or new i 0 ≡ get_or old i 0

-- `new` is `old` with the field of type t at `at` filled from the slot's value v; the section is loaded at `base`
pub record Filled (t : ℕ) (a : ℤ) (at base v : ℕ) (old new : List ℕ) : Type 0 where
  pub range : T (in_range t (signed64 (relocated t v a (base + at))))
  pub holds : Holds old new at (relocated t v a (base + at))
