-- Document 01, 'Below: PLT, padding': a PLT entry and a section's padding. Assumes nothing.
use Rattle.std.specs.Prelude.{Bool, cond, List, [], ◌∷◌, ℕ, ◌+◌, ◌-◌, ◌%◌, ◌^◌, eqb, length, replicate, Ok, Err}
use Rattle.std.proofs.lemmas.List.Edits.{sets}
use Rattle.rules.specs.Answer.{Answer}
use Rattle.refusal.specs.declared.Refusal.TheVariants.{PltEntrySize, PltOutOfReach}
use Rattle.rules.specs.Range.{contains, byte_range, signed, signed64, low_first}

-- `PLT_ENTRY_TEMPLATE`: endbr64; jmp *{relative GOT address}(%rip); nopw 0x0(%rax,%rax,1)
unfoldable pub template : List ℕ
template =
    0xf3 ∷ 0x0f ∷ 0x1e ∷ 0xfa
    ∷ 0xff ∷ 0x25 ∷ 0x00 ∷ 0x00 ∷ 0x00 ∷ 0x00
    ∷ 0x66 ∷ 0x0f ∷ 0x1f ∷ 0x44 ∷ 0x00 ∷ 0x00
    ∷ []

-- "GOT − (PLT + 10)"; "both sums wrap at 2^64"
unfoldable pub displacement : ℕ → ℕ → ℕ
displacement got plt = (got + (2 ^ 64 - (plt + 10) % 2 ^ 64)) % 2 ^ 64

-- "the result read as signed must fit 32 bits"
unfoldable pub in_reach : ℕ → ℕ → Bool
in_reach got plt = contains (byte_range 4 signed) (signed64 (displacement got plt))

-- refusals 8, 9: "PLT buffer not 16 bytes", "PLT out of reach"
unfoldable pub plt_answer : List ℕ → ℕ → ℕ → Answer Unit
plt_answer buffer got plt = cond (eqb (length buffer) 16) (cond (in_reach got plt) (Ok tt) (Err PltOutOfReach)) (Err PltEntrySize)

-- the buffer afterwards: unchanged under 8, the blank template under 9, else the displacement "at bytes 6 to 9, low byte first"
unfoldable pub plt_bytes : List ℕ → ℕ → ℕ → List ℕ
plt_bytes buffer got plt =
    cond (eqb (length buffer) 16)
    (cond (in_reach got plt) (sets template 6 (low_first 4 (displacement got plt))) template) buffer

-- "Padding is CC in executable sections, 00 elsewhere"
unfoldable pub padding : Bool → ℕ → List ℕ
padding executable n = replicate n (cond executable 0xcc 0x00)
