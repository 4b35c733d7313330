-- Document 01, 'Below: types': the 39 relocation types that `relocation_from_raw` knows, and the dynamic types. Assumes nothing.
use Rattle.std.specs.Prelude.{cond, List, [], ◌∷◌, ◌++◌, ℕ, ◌^◌, eqb, get_or, pos, Ok, Err}
use Rattle.elf_kind.specs.declared.RelocationKind.{RelocationKind}
use Rattle.elf_kind.specs.declared.RelocationKind.TheVariants.{Absolute, SymbolSize, Relative, SymRelGotBase, GotRelGotBase, PltRelGotBase, PltRelative, GotRelative}
use Rattle.elf_kind.specs.declared.RelocationKind.TheVariants.{TlsGd, TlsLd, DtpOff, GotTpOff, TpOff, TlsDesc, TlsDescCall, None}
use Rattle.rules.specs.Answer.{Answer}
use Rattle.refusal.specs.declared.Refusal.TheVariants.{UnknownType}
use Rattle.rules.specs.Range.{Range, within, signed, unsigned, minus, byte_range}

-- a row of the lookup; the rest of a `RelocationKindInfo` is the same in every row (`elf`'s `info_from`)
pub record Row : Type 0 where
  pub kind : RelocationKind
  pub size : ℕ
  pub range : Range

abbrev pub row : RelocationKind → ℕ → Range → Row
row k n r = record { kind = k; size = n; range = r }

-- a field of n bytes with the range of its width, signed or unsigned
abbrev pub field : ℕ → RelocationKind → Row
field n k = row k n (byte_range n signed)

abbrev pub ufield : ℕ → RelocationKind → Row
ufield n k = row k n (byte_range n unsigned)

pub record Entry : Type 0 where
  pub type : ℕ
  pub info : Row

infix 20 ◌⇒◌
abbrev pub ◌⇒◌ : ℕ → Row → Entry
t ⇒ r = record { type = t; info = r }

-- "knows 39 types: 0–4, 9–15, 17, 19–27, 29, 31–35, 41–51"
unfoldable pub earlier_types : List Entry
earlier_types =
    (0 ⇒ field 0 None)
    ∷ (1 ⇒ ufield 8 Absolute)
    ∷ (2 ⇒ field 4 Relative)
    ∷ (3 ⇒ ufield 4 GotRelGotBase)
    ∷ (4 ⇒ field 4 PltRelative)
    ∷ (9 ⇒ field 4 GotRelative)
    ∷ (10 ⇒ ufield 4 Absolute)
    ∷ (11 ⇒ field 4 Absolute)
    ∷ (12 ⇒ row Absolute 2 (within (minus (2 ^ 15)) (pos (2 ^ 16))))
    ∷ (13 ⇒ field 2 Relative)
    ∷ (14 ⇒ row Absolute 1 (within (minus (2 ^ 7)) (pos (2 ^ 8))))
    ∷ (15 ⇒ field 1 Relative)
    ∷ (17 ⇒ field 8 DtpOff)
    ∷ (19 ⇒ field 4 TlsGd)
    ∷ (20 ⇒ field 4 TlsLd)
    ∷ (21 ⇒ field 4 DtpOff)
    ∷ (22 ⇒ field 4 GotTpOff)
    ∷ (23 ⇒ field 4 TpOff)
    ∷ (24 ⇒ field 8 Relative)
    ∷ (25 ⇒ field 8 SymRelGotBase)
    ∷ (26 ⇒ field 4 Relative)
    ∷ (27 ⇒ ufield 8 GotRelGotBase)
    ∷ (29 ⇒ field 8 Relative)
    ∷ (31 ⇒ field 8 PltRelGotBase)
    ∷ (32 ⇒ ufield 4 SymbolSize)
    ∷ (33 ⇒ ufield 8 SymbolSize)
    ∷ (34 ⇒ field 4 TlsDesc)
    ∷ (35 ⇒ field 0 TlsDescCall)
    ∷ []

-- GOTPCRELX and REX_GOTPCRELX; CODE_4, CODE_5 and CODE_6 each with GOTPCRELX, GOTTPOFF and GOTPC32_TLSDESC
unfoldable pub later_types : List Entry
later_types =
    (41 ⇒ field 4 GotRelative) ∷ (42 ⇒ field 4 GotRelative)
    ∷ (43 ⇒ field 4 GotRelative) ∷ (44 ⇒ field 4 GotTpOff) ∷ (45 ⇒ field 4 TlsDesc)
    ∷ (46 ⇒ field 4 GotRelative) ∷ (47 ⇒ field 4 GotTpOff) ∷ (48 ⇒ field 4 TlsDesc)
    ∷ (49 ⇒ field 4 GotRelative) ∷ (50 ⇒ field 4 GotTpOff) ∷ (51 ⇒ field 4 TlsDesc)
    ∷ []

abbrev pub types : List Entry
types = earlier_types ++ later_types

-- the row of a number, or refusal 7: "type not among the 39 (lookup only)"
abbrev pub find : List Entry → ℕ → Answer Row
find [] t = Err UnknownType
find (e ∷ es) t = cond (eqb t e.type) (Ok e.info) (find es t)

unfoldable pub lookup : ℕ → Answer Row
lookup t = find types t

-- "Dynamic types as in `x86_64_r_type`", in the order of `DynamicRelocationKind`:
-- Copy, Irelative, DtpMod, DtpOff, TlsDesc, TpOff, Relative, Absolute, GotEntry, JumpSlot
abbrev pub dynamic_types : List ℕ
dynamic_types = 5 ∷ 37 ∷ 16 ∷ 17 ∷ 36 ∷ 18 ∷ 8 ∷ 1 ∷ 6 ∷ 7 ∷ []

-- the dynamic type of a kind's number from 0, or type 0 (none) where there is no such kind
abbrev pub dynamic_type : ℕ → ℕ
dynamic_type k = get_or dynamic_types k 0
