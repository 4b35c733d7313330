-- The relaxation kinds of document 01, "0 to 18 in the order of `RelaxationKind`", with what 'Rewriting' says of each but its bytes. The enum
-- and the structs are the code's own. Assumes nothing.
use Rattle.std.specs.Prelude.{Bool, true, false, cond, ◌&&◌, ◌||◌, List, [], ◌∷◌, ℕ, ◌+◌, ◌-◌, eqb, leb, get_or}
use Rattle.x86_64_kind.specs.declared.RelaxationKind.{RelaxationKind}
use Rattle.x86_64_kind.specs.declared.RelaxationKind.TheVariants.{MovIndirectToLea, MovIndirectToAbsolute, RexMovIndirectToAbsolute}
use Rattle.x86_64_kind.specs.declared.RelaxationKind.TheVariants.{RexAddIndirectToAbsolute, RexAddIndirectToLea, RexSubIndirectToAbsolute}
use Rattle.x86_64_kind.specs.declared.RelaxationKind.TheVariants.{RexCmpIndirectToAbsolute, CallIndirectToRelative, JmpIndirectToRelative, NoOp}
use Rattle.x86_64_kind.specs.declared.RelaxationKind.TheVariants.{TlsGdToLocalExec, TlsGdToLocalExecLarge, TlsLdToLocalExec}
use Rattle.x86_64_kind.specs.declared.RelaxationKind.TheVariants.{TlsLdToLocalExecNoPlt, TlsLdToLocalExec64, TlsGdToInitialExec}
use Rattle.x86_64_kind.specs.declared.RelaxationKind.TheVariants.{TlsDescToLocalExec, TlsDescToInitialExec, SkipTlsDescCall}
use Rattle.x86_64_kind.specs.declared.RelocationModifier.{RelocationModifier}
use Rattle.x86_64_kind.specs.declared.RelocationModifier.TheVariants.{Normal, SkipNextRelocation}
use Rattle.x86_64_kind.specs.declared.Window.{Window}
use Rattle.x86_64_kind.specs.declared.Shape.{Shape}

-- ---- windows: `size` bytes, from `back` before the offset on; "The end isn't included"

abbrev pub begin : Window → ℕ → ℕ
begin w off = off - w.back

abbrev pub end : Window → ℕ → ℕ
end w off = begin w off + w.size

-- "NoOp empty"
abbrev pub is_empty : Window → Bool
is_empty w = eqb w.size 0

-- 6: "window not wholly inside", of a section of a length
abbrev pub inside : Window → ℕ → ℕ → Bool
inside w len off = leb w.back off && leb (end w off) len

-- ---- the kinds

-- number, instruction offset or 0, the window's `back` and `size`, where the new field lies from the window's begin on, and whether the new
-- addend is 0
abbrev pub shape : ℕ → ℕ → ℕ → ℕ → ℕ → Bool → Shape
shape k i b n f z = record { number = k; inst_offset = i; window = record { back = b; size = n }; field = f; clears = z }

-- "MovIndirectToLea and TlsDescToInitialExec −2 to −1; MovIndirectToAbsolute and Call −2 to 0; the Rex kinds and TlsDescToLocalExec −3 to 0,
-- but RexAdd with 6 −5 to 0; .. NoOp empty"; "New .. offset and addend are those of `apply`"
abbrev pub shape_of : RelaxationKind → Shape
shape_of MovIndirectToLea = shape 0 0 2 1 2 false
shape_of MovIndirectToAbsolute = shape 1 0 2 2 2 true
shape_of (RexMovIndirectToAbsolute n) = shape 2 n 3 3 3 true
shape_of (RexAddIndirectToAbsolute n) = cond (eqb n 6) (shape 3 n 5 5 5 true) (shape 3 n 3 3 3 true)
shape_of (RexAddIndirectToLea n) = shape 4 n 3 3 3 true
shape_of (RexSubIndirectToAbsolute n) = shape 5 n 3 3 3 true
shape_of (RexCmpIndirectToAbsolute n) = shape 6 n 3 3 3 true
shape_of CallIndirectToRelative = shape 7 0 2 2 2 false
shape_of JmpIndirectToRelative = shape 8 0 2 6 1 false
shape_of NoOp = shape 9 0 0 0 0 false
shape_of TlsGdToLocalExec = shape 10 0 4 12 12 true
shape_of TlsGdToLocalExecLarge = shape 11 0 3 22 12 true
shape_of TlsLdToLocalExec = shape 12 0 3 12 8 false
shape_of TlsLdToLocalExecNoPlt = shape 13 0 3 13 8 false
shape_of TlsLdToLocalExec64 = shape 14 0 3 22 18 false
shape_of TlsGdToInitialExec = shape 15 0 4 12 12 false
shape_of (TlsDescToLocalExec n) = shape 16 n 3 3 3 true
shape_of TlsDescToInitialExec = shape 17 0 2 1 2 false
shape_of SkipTlsDescCall = shape 18 0 0 2 0 false

-- "Instruction offsets allowed: 3 and 4; RexAdd also 6; RexAddIndirectToLea only 3"; kinds that have none allow any
abbrev pub allows : ℕ → ℕ → Bool
allows number i =
    cond (eqb number 4) (eqb i 3)
    (cond (eqb number 3) (eqb i 3 || eqb i 4 || eqb i 6)
    (cond (eqb number 2 || eqb number 5 || eqb number 6 || eqb number 16) (eqb i 3 || eqb i 4) true))

abbrev pub allowed : RelaxationKind → Bool
allowed k = allows (shape_of k).number (shape_of k).inst_offset

-- `next_modifier` is SkipNextRelocation: TlsGd to .. and TlsLd to .., 10 to 15
abbrev pub skips : RelaxationKind → Bool
skips k = leb 10 (shape_of k).number && leb (shape_of k).number 15

abbrev pub is_skip : RelocationModifier → Bool
is_skip Normal = false
is_skip SkipNextRelocation = true

-- the kinds in their order, with an instruction offset for those that have one
abbrev pub kinds : ℕ → List RelaxationKind
kinds n =
    MovIndirectToLea ∷ MovIndirectToAbsolute ∷ RexMovIndirectToAbsolute n ∷ RexAddIndirectToAbsolute n
    ∷ RexAddIndirectToLea n ∷ RexSubIndirectToAbsolute n ∷ RexCmpIndirectToAbsolute n
    ∷ CallIndirectToRelative ∷ JmpIndirectToRelative ∷ NoOp ∷ TlsGdToLocalExec ∷ TlsGdToLocalExecLarge
    ∷ TlsLdToLocalExec ∷ TlsLdToLocalExecNoPlt ∷ TlsLdToLocalExec64 ∷ TlsGdToInitialExec
    ∷ TlsDescToLocalExec n ∷ TlsDescToInitialExec ∷ SkipTlsDescCall
    ∷ []

-- the kind of a number; past them a kind with an instruction offset that isn't allowed
abbrev pub numbered : ℕ → ℕ → RelaxationKind
numbered number n = get_or (kinds n) number (RexMovIndirectToAbsolute 0)
