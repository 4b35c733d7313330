-- A worked walk in which every kind that is chosen is relaxed, a step ends in every other way but 1, and endings are asked. Assumes nothing.
use Rattle.std.specs.Prelude.{◌≡◌, ℕ, suc, ◌+◌, ◌-◌, ◌^◌, true, false, List, [], ◌∷◌, map, replicate, pos, negsuc, Some, None, Ok, Err}
use Rattle.rules.specs.Answer.{Answer}
use Rattle.rules.specs.Record.{relocation}
use Rattle.refusal.specs.Numbers.{number_of}
use Rattle.x86_64_kind.specs.declared.RelaxationKind.{RelaxationKind}
use Rattle.x86_64_kind.specs.Kinds.{shape_of, kinds}
use Rattle.pass.specs.declared.Step.{Step}
use Rattle.pass.specs.declared.Step.TheVariants.{Took, Skipped}
use Rattle.tally.specs.Tally.{none_at, skipped_at, bytes_at, share}
use Rattle.tally.specs.Walk.{Tallied, fresh, Act, takes, ends, after, steps}

-- an instruction or sequence for each kind, in their order: of kind 3 two, and of kind 18 two, the second of which is 66 90 already
abbrev pub section : List ℕ
section =
    0x48 ∷ 0x8B ∷ 0x05 ∷ 0 ∷ 0 ∷ 0 ∷ 0
    ∷ 0x8B ∷ 0x2D ∷ 0 ∷ 0 ∷ 0 ∷ 0
    ∷ 0x4C ∷ 0x8B ∷ 0x2D ∷ 0 ∷ 0 ∷ 0 ∷ 0
    ∷ 0x4C ∷ 0x03 ∷ 0x25 ∷ 0 ∷ 0 ∷ 0 ∷ 0
    ∷ 0x62 ∷ 0x74 ∷ 0xFC ∷ 0x10 ∷ 0x03 ∷ 0x25 ∷ 0 ∷ 0 ∷ 0 ∷ 0
    ∷ 0x48 ∷ 0x2B ∷ 0x35 ∷ 0 ∷ 0 ∷ 0 ∷ 0
    ∷ 0x4C ∷ 0x3B ∷ 0x1D ∷ 0 ∷ 0 ∷ 0 ∷ 0
    ∷ 0xFF ∷ 0x15 ∷ 0 ∷ 0 ∷ 0 ∷ 0
    ∷ 0xFF ∷ 0x25 ∷ 0 ∷ 0 ∷ 0 ∷ 0
    ∷ 0xE8 ∷ 0 ∷ 0 ∷ 0 ∷ 0
    ∷ 0x66 ∷ 0x48 ∷ 0x8D ∷ 0x3D ∷ 0 ∷ 0 ∷ 0 ∷ 0 ∷ 0x66 ∷ 0x66 ∷ 0x48 ∷ 0xE8 ∷ 0 ∷ 0 ∷ 0 ∷ 0
    ∷ 0x48 ∷ 0x8D ∷ 0x3D ∷ 0 ∷ 0 ∷ 0 ∷ 0 ∷ 0x48 ∷ 0xB8 ∷ 0 ∷ 0 ∷ 0 ∷ 0 ∷ 0 ∷ 0 ∷ 0 ∷ 0 ∷ 0x48 ∷ 0x01 ∷ 0xD8 ∷ 0xFF ∷ 0xD0
    ∷ 0x48 ∷ 0x8D ∷ 0x3D ∷ 0 ∷ 0 ∷ 0 ∷ 0 ∷ 0xE8 ∷ 0 ∷ 0 ∷ 0 ∷ 0
    ∷ 0x48 ∷ 0x8D ∷ 0x3D ∷ 0 ∷ 0 ∷ 0 ∷ 0 ∷ 0xFF ∷ 0x15 ∷ 0 ∷ 0 ∷ 0 ∷ 0
    ∷ 0x48 ∷ 0x8D ∷ 0x3D ∷ 0 ∷ 0 ∷ 0 ∷ 0 ∷ 0x48 ∷ 0xB8 ∷ 0 ∷ 0 ∷ 0 ∷ 0 ∷ 0 ∷ 0 ∷ 0 ∷ 0 ∷ 0x48 ∷ 0x01 ∷ 0xD8 ∷ 0xFF ∷ 0xD0
    ∷ 0x66 ∷ 0x48 ∷ 0x8D ∷ 0x3D ∷ 0 ∷ 0 ∷ 0 ∷ 0 ∷ 0x66 ∷ 0x48 ∷ 0xFF ∷ 0x15 ∷ 0 ∷ 0 ∷ 0 ∷ 0
    ∷ 0x48 ∷ 0x8D ∷ 0x05 ∷ 0 ∷ 0 ∷ 0 ∷ 0
    ∷ 0x4C ∷ 0x8D ∷ 0x3D ∷ 0 ∷ 0 ∷ 0 ∷ 0
    ∷ 0xFF ∷ 0x10
    ∷ 0x66 ∷ 0x90
    ∷ []

-- executable, at 0x401000; non-interposable, static and fixed where nothing else is said
abbrev for : ℕ → ℕ → ℕ → ℕ → Act
for flags output type off = takes (relocation type off flags output true 0x401000 (negsuc 3))

abbrev at : ℕ → ℕ → Act
at = for 1 0

-- the kinds from 0 on, of which 0 wants a position-independent program, and 15 and 17 a symbol that can be interposed; a call is skipped
-- after each of 10 to 15, before the first of which stand two records of type 0, and endings that are refused with 24; then none; 22, 23, 6,
-- 2, 3, 4; an ending that is granted; and 21, of a record and of an ending
abbrev pub acts : List Act
acts =
    for 1 1 42 3
    ∷ at 41 9
    ∷ at 42 16
    ∷ at 22 23
    ∷ at 50 33
    ∷ at 42 40
    ∷ at 42 47
    ∷ at 41 53
    ∷ at 41 59
    ∷ at 4 64
    ∷ at 19 72
    ∷ ends
    ∷ at 0 72
    ∷ at 0 80
    ∷ ends
    ∷ at 4 80
    ∷ at 19 87
    ∷ at 4 93
    ∷ at 20 109
    ∷ at 4 114
    ∷ at 20 121
    ∷ at 4 127
    ∷ at 20 134
    ∷ at 4 140
    ∷ for 0 2 19 157
    ∷ at 4 165
    ∷ at 34 172
    ∷ for 0 2 34 179
    ∷ at 35 183
    ∷ at 35 185
    ∷ at 1 185
    ∷ at 42 16
    ∷ at 35 185
    ∷ at 35 186
    ∷ at 1 188
    ∷ for 16 0 1 185
    ∷ for 1 6 1 185
    ∷ ends
    ∷ at 1 187
    ∷ ends
    ∷ []

-- the same from the fullest figures
abbrev full : Tallied
full = record { walk = (fresh section).walk; figures = replicate 22 (2 ^ 64 - 1) }

-- what a step came to: its kind's number, none, skipped, or 100 and its refusal's number
abbrev told : Answer Step → ℕ
told (Ok (Took (Some x))) = (shape_of x.relaxation.kind).number
told (Ok (Took None)) = none_at
told (Ok Skipped) = skipped_at
told (Err n) = 100 + number_of n

-- a record relaxed by a kind
abbrev relaxed_by : RelaxationKind → Answer Step
relaxed_by k =
    Ok (Took (Some (record { relaxation = record { kind = k; new_type = 2; mandatory = false }; moved = record { offset = 0; addend = pos 0 } })))

-- the share of each kind at its own place, counted from one on
abbrev own : ℕ → List RelaxationKind → List ℕ
own i [] = []
own i (k ∷ ks) = share (relaxed_by k) i ∷ own (suc i) ks

pub record TallyWorked : Type 0 where
  -- what each step came to; the endings are none
  pub told_all :
      map told (steps (fresh section).walk acts)
      ≡ 0 ∷ 1 ∷ 2 ∷ 3 ∷ 3 ∷ 5 ∷ 6 ∷ 7 ∷ 8 ∷ 9 ∷ 10 ∷ 19 ∷ 19 ∷ 20 ∷ 11 ∷ 20 ∷ 12 ∷ 20 ∷ 13 ∷ 20 ∷ 14 ∷ 20 ∷ 15 ∷ 20 ∷ 16 ∷ 17 ∷ 18 ∷ 18 ∷ 19
      ∷ 122 ∷ 123 ∷ 106 ∷ 102 ∷ 103 ∷ 104 ∷ 121 ∷ []
  -- every kind but 4, which is never chosen; three are none, six are skipped; 129 bytes
  pub figures :
      (after (fresh section) acts).figures
      ≡ 1 ∷ 1 ∷ 1 ∷ 2 ∷ 0 ∷ 1 ∷ 1 ∷ 1 ∷ 1 ∷ 1 ∷ 1 ∷ 1 ∷ 1 ∷ 1 ∷ 1 ∷ 1 ∷ 1 ∷ 1 ∷ 2 ∷ 3 ∷ 6 ∷ 129 ∷ []
  -- each is one less than that, modulo 2^64
  pub wraps :
      (after full acts).figures
      ≡ 0 ∷ 0 ∷ 0 ∷ 1 ∷ (2 ^ 64 - 1) ∷ 0 ∷ 0 ∷ 0 ∷ 0 ∷ 0 ∷ 0 ∷ 0 ∷ 0 ∷ 0 ∷ 0 ∷ 0 ∷ 0 ∷ 0 ∷ 1 ∷ 2 ∷ 5 ∷ 128 ∷ []
  -- each kind at its place in their order, 4 among them, and its window's bytes
  pub places : own 0 (kinds 3) ≡ replicate 19 1
  pub bytes :
      map (λ k. share (relaxed_by k) bytes_at) (kinds 3)
      ≡ 1 ∷ 2 ∷ 3 ∷ 3 ∷ 3 ∷ 3 ∷ 3 ∷ 2 ∷ 6 ∷ 0 ∷ 12 ∷ 22 ∷ 12 ∷ 13 ∷ 22 ∷ 12 ∷ 3 ∷ 1 ∷ 2 ∷ []
