-- A worked walk, in which a step ends in every way that a pass adds, and the endings. Assumes nothing.
use Rattle.std.specs.Prelude.{◌≡◌, Bool, true, false, List, [], ◌∷◌, ◌++◌, map, ℕ, negsuc, Ok, Err}
use Rattle.rules.specs.Answer.{Answer}
use Rattle.refusal.specs.declared.Refusal.{Refusal}
use Rattle.refusal.specs.declared.Refusal.TheVariants.{OffsetAboveLength, FlagNumber, OutputKindNumber, WindowNotInside, PassEnded, OffsetBelowLast, WindowOverlap, SkipPending}
use Rattle.x86_64_kind.specs.Kinds.{shape_of}
use Rattle.rules.specs.declared.Relocation.{Relocation}
use Rattle.rules.specs.Record.{relocation}
use Rattle.rules.specs.Rewrite.{unrelaxed, relaxed}
use Rattle.pass.specs.declared.Pass.{Pass}
use Rattle.pass.specs.Pass.{Accepted, took, skipped, fresh_pass, ending, ended_pass}
use Rattle.pass.specs.Walk.{Walk, answer, walk, answers, between, parts, Outside}

-- an answer in short: the kind's number, none, skipped, or the refusal
pub data Told : Type 0 where
  relaxes : ℕ → Told
  leaves : Told
  passes_by : Told
  refused : Refusal → Told

abbrev pub told : Answer Accepted → Told
told (Ok (took (relaxed k t m x))) = relaxes (shape_of k).number
told (Ok (took unrelaxed)) = leaves
told (Ok skipped) = passes_by
told (Err n) = refused n

-- a general-dynamic sequence with its call, a load through the GOT, and zeros
abbrev section : List ℕ
section =
    0x66 ∷ 0x48 ∷ 0x8D ∷ 0x3D ∷ 0 ∷ 0 ∷ 0 ∷ 0 ∷ 0x66 ∷ 0x66 ∷ 0x48 ∷ 0xE8 ∷ 0 ∷ 0 ∷ 0 ∷ 0 ∷ 0x4C ∷ 0x8B ∷ 0x2D ∷ 0 ∷ 0 ∷ 0 ∷ 0 ∷ []

-- flags, output kind, type and offset; executable, at 0x401000; non-interposable, static and fixed where nothing else is said
abbrev for : ℕ → ℕ → ℕ → ℕ → Relocation
for flags output type off = relocation type off flags output true 0x401000 (negsuc 3)

abbrev at : ℕ → ℕ → Relocation
at = for 1 0

-- between the halves of a pair: a type 0 record, a record that lies before it, and a type 0 record at the call's place
abbrev pub inner : List Relocation
inner = at 0 8 ∷ at 42 3 ∷ at 0 12 ∷ []

-- a sequence; what stands before its call; the call, which is skipped; a load; a descriptor's call past the load's window, and one that
-- begins inside that call's own; an empty window inside it; a type with no rule; a descriptor's call past the last window, and one that
-- begins inside it but is cut off; and an offset past the end
abbrev pub records : List Relocation
records =
    at 19 4
    ∷ inner
    ++ at 4 12
    ∷ at 42 19
    ∷ at 35 19
    ∷ at 35 20
    ∷ at 4 20
    ∷ at 1 20
    ∷ at 35 21
    ∷ at 35 22
    ∷ at 1 24
    ∷ []

abbrev pub start : Walk
start = record { pass = fresh_pass; section = section }

abbrev pass_of : ℕ → ℕ → Bool → Bool → Pass
pass_of l w s e = record { last = l; window = w; skip = s; ended = e }

pub record WalkWorked : Type 0 where
  pub told_all :
      map told (answers start records)
      ≡ relaxes 10 ∷ leaves ∷ refused OffsetBelowLast ∷ leaves ∷ passes_by ∷ relaxes 2 ∷ relaxes 18 ∷ refused WindowOverlap ∷ relaxes 9 ∷ leaves ∷ relaxes 18
      ∷ refused WindowNotInside ∷ refused OffsetAboveLength ∷ []
  pub ends_at : (walk start records).pass ≡ pass_of 21 23 false false
  pub holds :
      (walk start records).section
      ≡ 0x64 ∷ 0x48 ∷ 0x8B ∷ 0x04 ∷ 0x25 ∷ 0 ∷ 0 ∷ 0 ∷ 0 ∷ 0x48 ∷ 0x8D ∷ 0x80 ∷ 0 ∷ 0 ∷ 0 ∷ 0 ∷ 0x49 ∷ 0xC7 ∷ 0xC5 ∷ 0x66 ∷ 0x90 ∷ 0x66 ∷ 0x90 ∷ []
  -- byte 15 lies in no window, as the law of bytes asks
  pub outside : Outside 15 (parts start records)
  -- with no skip pending, a type 0 record
  pub alone : walk start (at 0 8 ∷ []) ≡ record { pass = pass_of 8 0 false false; section = section }
  -- after the first record a skip is pending, and up to the call; then one record: of type 0; the call; the call of a symbol that can be
  -- interposed, which is none by choice; one that would become type 0; and of type 0, refused with 22, 2, 3 and 4
  pub begun : (walk start (at 19 4 ∷ [])).pass ≡ pass_of 4 12 true false
  pub stands_between : between (walk start (at 19 4 ∷ [])) inner ≡ true
  pub waiting : (walk start (at 19 4 ∷ inner)).pass ≡ pass_of 12 12 true false
  pub met :
      map (λ r. told (answer (walk start (at 19 4 ∷ inner)) r)) (at 0 12 ∷ at 4 12 ∷ for 0 0 4 12 ∷ at 35 12 ∷ at 0 11 ∷ at 0 24 ∷ for 16 0 0 12 ∷ for 1 6 0 12 ∷ [])
      ≡ leaves ∷ passes_by ∷ passes_by ∷ passes_by ∷ refused OffsetBelowLast ∷ refused OffsetAboveLength ∷ refused FlagNumber ∷ refused OutputKindNumber ∷ []
  -- the ending there: 24, and nothing changes; after the last record it is granted; then 21, of both
  pub pending : ending (pass_of 12 12 true false) ≡ Err SkipPending
  pub pending_kept : ended_pass (pass_of 12 12 true false) (Err SkipPending) ≡ pass_of 12 12 true false
  pub granted : ending (pass_of 21 23 false false) ≡ Ok tt
  pub ended : ended_pass (pass_of 21 23 false false) (Ok tt) ≡ pass_of 21 23 false true
  pub over : ending (pass_of 21 23 false true) ≡ Err PassEnded
  pub over_step : map told (answers (record { pass = pass_of 21 23 false true; section = section }) (at 1 21 ∷ [])) ≡ refused PassEnded ∷ []
