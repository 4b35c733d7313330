-- The System V AMD64 psABI's own table of relocation types (section 4.4.1, the edition with the APX types 43 to 51), and how the lookup's
-- rows are held against it.
-- A calculation is a sum of the psABI's letters; two calculations are the same where each letter has the same factor.
-- Assumes nothing.
use Rattle.std.specs.Prelude.{Bool, true, false, cond, ◌||◌, ◌≡◌, List, [], ◌∷◌, map, ℕ, ◌+◌, ◌^◌, ◌*◌, ◌-◌, eqb, ℤ, pos, ◌+ℤ◌, ◌-ℤ◌, length, Ok, Err}
use Prim.Native.String.{String}
use Rattle.rules.specs.Answer.{Answer}
use Rattle.refusal.specs.declared.Refusal.TheVariants.{UnknownType}
use Rattle.rules.specs.Range.{Range, within, signed, unsigned, minus, byte_range}
use Rattle.elf_kind.specs.declared.RelocationKind.{RelocationKind}
use Rattle.elf_kind.specs.declared.RelocationKind.TheVariants.{Absolute, SymbolSize, Relative, SymRelGotBase, GotRelGotBase, PltRelGotBase, PltRelative, GotRelative}
use Rattle.elf_kind.specs.declared.RelocationKind.TheVariants.{TlsGd, TlsLd, DtpOff, GotTpOff, TpOff, TlsDesc, TlsDescCall, None}
use Rattle.rules.specs.Types.{Row, types, dynamic_types}

-- A the addend, B the base address, G the offset of the symbol's GOT entry, GOT the GOT's address, L the symbol's PLT entry, P the place,
-- S the symbol, Z its size. For the thread-local types the table's column is empty; the documents that the psABI names for them (ELF
-- Handling for Thread-Local Storage, TLS descriptors) say in words what is put there: the address of the symbol's GD pair, of the LD pair,
-- of the GOT entry that holds the offset from the thread pointer, of the descriptor; the offset in the module's block, from the thread
-- pointer; the module's number. Each is a letter here. RESOLVED is "indirect (B + A)", PAIR a descriptor's two words
pub data Letter : Type 0 where
  A : Letter
  B : Letter
  G : Letter
  GOT : Letter
  L : Letter
  P : Letter
  S : Letter
  Z : Letter
  TLSGD : Letter
  TLSLD : Letter
  GOTTP : Letter
  TLSDESC : Letter
  DTPOFF : Letter
  TPOFF : Letter
  MODULE : Letter
  RESOLVED : Letter
  PAIR : Letter

abbrev pub letters : List Letter
letters = A ∷ B ∷ G ∷ GOT ∷ L ∷ P ∷ S ∷ Z ∷ TLSGD ∷ TLSLD ∷ GOTTP ∷ TLSDESC ∷ DTPOFF ∷ TPOFF ∷ MODULE ∷ RESOLVED ∷ PAIR ∷ []

abbrev rank : Letter → ℕ
rank A = 0
rank B = 1
rank G = 2
rank GOT = 3
rank L = 4
rank P = 5
rank S = 6
rank Z = 7
rank TLSGD = 8
rank TLSLD = 9
rank GOTTP = 10
rank TLSDESC = 11
rank DTPOFF = 12
rank TPOFF = 13
rank MODULE = 14
rank RESOLVED = 15
rank PAIR = 16

-- a calculation: the factor of each letter
abbrev pub Sum : Type 0
Sum = Letter → ℤ

abbrev pub nothing : Sum
nothing x = pos 0

abbrev pub sum : Letter → Sum
sum y x = cond (eqb (rank x) (rank y)) (pos 1) (pos 0)

infixl 30 ◌⊕◌ ◌⊖◌
abbrev pub ◌⊕◌ : Sum → Letter → Sum
(s ⊕ y) x = s x +ℤ sum y x

abbrev pub ◌⊖◌ : Sum → Letter → Sum
(s ⊖ y) x = s x -ℤ sum y x

abbrev pub factors : Sum → List ℤ
factors s = map s letters

pub record Listed : Type 0 where
  pub number : ℕ
  pub name : String
  pub field : ℕ
  pub calculation : Sum

abbrev entry : ℕ → String → ℕ → Sum → Listed
entry n s w c = record { number = n; name = s; field = w; calculation = c }

-- Table 4.9: number, name, field, calculation (39 and 40 are deprecated there). Fields are in bytes: word8 1, word16 2, word32 4, word64 8,
-- word64x2 16, and wordclass, in LP64, 8
unfoldable pub table : List Listed
table =
    entry 0 "R_X86_64_NONE" 0 nothing
    ∷ entry 1 "R_X86_64_64" 8 (sum S ⊕ A)
    ∷ entry 2 "R_X86_64_PC32" 4 (sum S ⊕ A ⊖ P)
    ∷ entry 3 "R_X86_64_GOT32" 4 (sum G ⊕ A)
    ∷ entry 4 "R_X86_64_PLT32" 4 (sum L ⊕ A ⊖ P)
    ∷ entry 5 "R_X86_64_COPY" 0 nothing
    ∷ entry 6 "R_X86_64_GLOB_DAT" 8 (sum S)
    ∷ entry 7 "R_X86_64_JUMP_SLOT" 8 (sum S)
    ∷ entry 8 "R_X86_64_RELATIVE" 8 (sum B ⊕ A)
    ∷ entry 9 "R_X86_64_GOTPCREL" 4 (sum G ⊕ GOT ⊕ A ⊖ P)
    ∷ entry 10 "R_X86_64_32" 4 (sum S ⊕ A)
    ∷ entry 11 "R_X86_64_32S" 4 (sum S ⊕ A)
    ∷ entry 12 "R_X86_64_16" 2 (sum S ⊕ A)
    ∷ entry 13 "R_X86_64_PC16" 2 (sum S ⊕ A ⊖ P)
    ∷ entry 14 "R_X86_64_8" 1 (sum S ⊕ A)
    ∷ entry 15 "R_X86_64_PC8" 1 (sum S ⊕ A ⊖ P)
    ∷ entry 16 "R_X86_64_DTPMOD64" 8 (sum MODULE)
    ∷ entry 17 "R_X86_64_DTPOFF64" 8 (sum DTPOFF ⊕ A)
    ∷ entry 18 "R_X86_64_TPOFF64" 8 (sum TPOFF ⊕ A)
    ∷ entry 19 "R_X86_64_TLSGD" 4 (sum TLSGD ⊕ A ⊖ P)
    ∷ entry 20 "R_X86_64_TLSLD" 4 (sum TLSLD ⊕ A ⊖ P)
    ∷ entry 21 "R_X86_64_DTPOFF32" 4 (sum DTPOFF ⊕ A)
    ∷ entry 22 "R_X86_64_GOTTPOFF" 4 (sum GOTTP ⊕ A ⊖ P)
    ∷ entry 23 "R_X86_64_TPOFF32" 4 (sum TPOFF ⊕ A)
    ∷ entry 24 "R_X86_64_PC64" 8 (sum S ⊕ A ⊖ P)
    ∷ entry 25 "R_X86_64_GOTOFF64" 8 (sum S ⊕ A ⊖ GOT)
    ∷ entry 26 "R_X86_64_GOTPC32" 4 (sum GOT ⊕ A ⊖ P)
    ∷ entry 27 "R_X86_64_GOT64" 8 (sum G ⊕ A)
    ∷ entry 28 "R_X86_64_GOTPCREL64" 8 (sum G ⊕ GOT ⊖ P ⊕ A)
    ∷ entry 29 "R_X86_64_GOTPC64" 8 (sum GOT ⊖ P ⊕ A)
    ∷ entry 30 "R_X86_64_GOTPLT64" 8 (sum G ⊕ A)
    ∷ entry 31 "R_X86_64_PLTOFF64" 8 (sum L ⊖ GOT ⊕ A)
    ∷ entry 32 "R_X86_64_SIZE32" 4 (sum Z ⊕ A)
    ∷ entry 33 "R_X86_64_SIZE64" 8 (sum Z ⊕ A)
    ∷ entry 34 "R_X86_64_GOTPC32_TLSDESC" 4 (sum TLSDESC ⊕ A ⊖ P)
    ∷ entry 35 "R_X86_64_TLSDESC_CALL" 0 nothing
    ∷ entry 36 "R_X86_64_TLSDESC" 16 (sum PAIR)
    ∷ entry 37 "R_X86_64_IRELATIVE" 8 (sum RESOLVED)
    ∷ entry 38 "R_X86_64_RELATIVE64" 8 (sum B ⊕ A)
    ∷ entry 41 "R_X86_64_GOTPCRELX" 4 (sum G ⊕ GOT ⊕ A ⊖ P)
    ∷ entry 42 "R_X86_64_REX_GOTPCRELX" 4 (sum G ⊕ GOT ⊕ A ⊖ P)
    ∷ entry 43 "R_X86_64_CODE_4_GOTPCRELX" 4 (sum G ⊕ GOT ⊕ A ⊖ P)
    ∷ entry 44 "R_X86_64_CODE_4_GOTTPOFF" 4 (sum GOTTP ⊕ A ⊖ P)
    ∷ entry 45 "R_X86_64_CODE_4_GOTPC32_TLSDESC" 4 (sum TLSDESC ⊕ A ⊖ P)
    ∷ entry 46 "R_X86_64_CODE_5_GOTPCRELX" 4 (sum G ⊕ GOT ⊕ A ⊖ P)
    ∷ entry 47 "R_X86_64_CODE_5_GOTTPOFF" 4 (sum GOTTP ⊕ A ⊖ P)
    ∷ entry 48 "R_X86_64_CODE_5_GOTPC32_TLSDESC" 4 (sum TLSDESC ⊕ A ⊖ P)
    ∷ entry 49 "R_X86_64_CODE_6_GOTPCRELX" 4 (sum G ⊕ GOT ⊕ A ⊖ P)
    ∷ entry 50 "R_X86_64_CODE_6_GOTTPOFF" 4 (sum GOTTP ⊕ A ⊖ P)
    ∷ entry 51 "R_X86_64_CODE_6_GOTPC32_TLSDESC" 4 (sum TLSDESC ⊕ A ⊖ P)
    ∷ []

abbrev pub among : ℕ → List ℕ → Bool
among t [] = false
among t (k ∷ ks) = eqb t k || among t ks

abbrev find : List Listed → ℕ → Listed
find [] t = entry t "" 0 nothing
find (e ∷ es) t = cond (eqb t e.number) e (find es t)

-- whether the psABI lists a number, and its row
abbrev pub numbers : List ℕ
numbers = map (λ (e : Listed). e.number) table

unfoldable pub is_listed : ℕ → Bool
is_listed t = among t numbers

unfoldable pub psabi : ℕ → Listed
psabi t = find table t

-- the psABI's types that the lookup refuses: those that only a dynamic linker meets (5 to 8, 16, 18, 36 to 38), and two that wild leaves
-- out (28, 30)
unfoldable pub left_out_types : List ℕ
left_out_types = 5 ∷ 6 ∷ 7 ∷ 8 ∷ 16 ∷ 18 ∷ 28 ∷ 30 ∷ 36 ∷ 37 ∷ 38 ∷ []

unfoldable pub is_left_out : ℕ → Bool
is_left_out t = among t left_out_types

-- ---- the lookup's rows against it

-- what a field of a kind holds: the value that the Rust's words at `RelocationKind` name, with the addend; for TpOff, the offset "within
-- the executable's TLS storage" is the one from the thread pointer
unfoldable pub holds : RelocationKind → Sum
holds Absolute = sum S ⊕ A
holds SymbolSize = sum Z ⊕ A
holds Relative = sum S ⊕ A ⊖ P
holds SymRelGotBase = sum S ⊕ A ⊖ GOT
holds GotRelGotBase = sum G ⊕ A
holds PltRelGotBase = sum L ⊕ A ⊖ GOT
holds PltRelative = sum L ⊕ A ⊖ P
holds GotRelative = sum GOT ⊕ G ⊕ A ⊖ P
holds TlsGd = sum TLSGD ⊕ A ⊖ P
holds TlsLd = sum TLSLD ⊕ A ⊖ P
holds DtpOff = sum DTPOFF ⊕ A
holds GotTpOff = sum GOTTP ⊕ A ⊖ P
holds TpOff = sum TPOFF ⊕ A
holds TlsDesc = sum TLSDESC ⊕ A ⊖ P
holds TlsDescCall = nothing
holds None = nothing

-- the calculation that the psABI states. Departure: GOTPC32 and GOTPC64 are Relative, which is right where the symbol is _GLOBAL_OFFSET_TABLE_,
-- that is where S stands for GOT
unfoldable pub stated_value : ℕ → Sum
stated_value t = cond (eqb t 26 || eqb t 29) ((psabi t).calculation ⊖ GOT ⊕ S) (psabi t).calculation

-- its range: the psABI says of type 10 that its value is zero-extended, of type 11 that it is sign-extended, and of no other. The port takes
-- signed fields, with departures: types 3 and 32 are unsigned; types 12 and 14 take both readings of their field
unfoldable pub stated_range : ℕ → Range
stated_range t =
    let w = (psabi t).field in
    cond (eqb t 12 || eqb t 14) (within (minus (2 ^ (8 * w - 1))) (pos (2 ^ (8 * w))))
    (cond (eqb t 10 || eqb t 3 || eqb t 32) (byte_range w unsigned) (byte_range w signed))

-- what is compared: whether a number is listed, whether it is left out, its field's width, its calculation's factors, its range
pub record Facts : Type 0 where
  pub listed : Bool
  pub left : Bool
  pub width : ℕ
  pub value : List ℤ
  pub extent : Range

-- what a row of the lookup has, and what the psABI states of a number
abbrev pub row_facts : Row → Facts
row_facts r = record { listed = true; left = false; width = r.size; value = factors (holds r.kind); extent = r.range }

abbrev pub psabi_facts : ℕ → Facts
psabi_facts t =
    record { listed = is_listed t; left = is_left_out t; width = (psabi t).field; value = factors (stated_value t); extent = stated_range t }

-- the psABI's types are parted exactly: a number that it lists is answered, by a row that agrees, or left out, and never both; a number
-- that it doesn't list is neither
pub data Conforms (t : ℕ) : Answer Row → Type 0 where
  agrees : {r : Row} → row_facts r ≡ psabi_facts t → Conforms t (Ok r)
  left_out : is_listed t ≡ is_left_out t → Conforms t (Err UnknownType)

abbrev pub factors_of : ℕ → List ℤ
factors_of t = factors (psabi t).calculation

-- the rows that are left out, against those that agree with the lookup
pub record LeftOutRows : Type 0 where
  -- no row stands twice
  pub count : length table ≡ length types + length left_out_types
  -- COPY has no field, TLSDESC two words, each other one
  pub fields : map (λ (t : ℕ). (psabi t).field) left_out_types ≡ 0 ∷ 8 ∷ 8 ∷ 8 ∷ 8 ∷ 8 ∷ 8 ∷ 8 ∷ 16 ∷ 8 ∷ 8 ∷ []
  -- COPY, JUMP_SLOT, TPOFF64, GOTPCREL64, GOTPLT64 and RELATIVE64 hold what NONE, GLOB_DAT, TPOFF32, GOTPCREL, GOT64 and RELATIVE do
  pub alike : map factors_of (5 ∷ 7 ∷ 18 ∷ 28 ∷ 30 ∷ 38 ∷ []) ≡ map factors_of (0 ∷ 6 ∷ 23 ∷ 9 ∷ 27 ∷ 8 ∷ [])
  -- GLOB_DAT with an addend, and RELATIVE with the symbol for the base, hold what 64 does
  pub from_64 : factors ((psabi 6).calculation ⊕ A) ∷ factors ((psabi 8).calculation ⊖ B ⊕ S) ∷ [] ≡ factors_of 1 ∷ factors_of 1 ∷ []
  -- DTPMOD64, TLSDESC and IRELATIVE hold a value of their own, with no addend
  pub own : map factors_of (16 ∷ 36 ∷ 37 ∷ []) ≡ factors (sum MODULE) ∷ factors (sum PAIR) ∷ factors (sum RESOLVED) ∷ []

-- the dynamic types by the psABI's names
pub record DynamicNames : Type 0 where
  pub names :
      map (λ (t : ℕ). (psabi t).name) dynamic_types
      ≡ "R_X86_64_COPY" ∷ "R_X86_64_IRELATIVE" ∷ "R_X86_64_DTPMOD64" ∷ "R_X86_64_DTPOFF64" ∷ "R_X86_64_TLSDESC" ∷ "R_X86_64_TPOFF64" ∷ "R_X86_64_RELATIVE" ∷ "R_X86_64_64" ∷ "R_X86_64_GLOB_DAT" ∷ "R_X86_64_JUMP_SLOT" ∷ []
