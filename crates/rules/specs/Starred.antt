-- Document 01's worked records (★ proved), one table and one claim: "executable, addend −4, address 0 unless said". The two records of the
-- sample case file follow. Assumes nothing.
use Rattle.std.specs.Prelude.{◌≡◌, Bool, true, false, List, [], ◌∷◌, map, ℕ, ◌+◌, ℤ, pos, negsuc, replicate, Ok, Err}
use Rattle.std.proofs.lemmas.List.Edits.{sets}
use Rattle.rules.specs.Answer.{Answer}
use Rattle.refusal.specs.declared.Refusal.TheVariants.{PltOutOfReach, WindowNotInside}
use Rattle.x86_64_kind.specs.declared.RelaxationKind.TheVariants.{MovIndirectToLea, MovIndirectToAbsolute, RexMovIndirectToAbsolute, RexAddIndirectToAbsolute}
use Rattle.x86_64_kind.specs.declared.RelaxationKind.TheVariants.{JmpIndirectToRelative, NoOp, SkipTlsDescCall}
use Rattle.rules.specs.Record.{link_limit, relocation}
use Rattle.rules.specs.Rewrite.{Rewritten, Relaxed, unrelaxed, relaxed, relaxing}
use Rattle.rules.specs.Plt.{template, plt_answer, plt_bytes}

-- of relaxing the answer, which holds the bytes; of a PLT entry the answer and the bytes
pub data Outcome : Type 0 where
  relaxes : Answer Relaxed → Outcome
  writes : Answer Unit → List ℕ → Outcome

-- what the definitions give, and what the paper says
pub record Starred : Type 0 where
  pub found : Outcome
  pub told : Outcome

-- executable, type, section, offset, flags, output kind, address, addend
abbrev any : Bool → ℕ → List ℕ → ℕ → ℕ → ℕ → ℕ → ℤ → Answer Relaxed → Starred
any x t s o f k v a r = record { found = relaxes (relaxing link_limit s (relocation t o f k x v a)); told = relaxes r }

abbrev row : ℕ → List ℕ → ℕ → ℕ → ℕ → ℕ → ℤ → Answer Relaxed → Starred
row = any true

abbrev with : List ℕ → ℕ → ℤ → Rewritten
with b o a = record { bytes = b; offset = o; addend = a }

abbrev −4 : ℤ
−4 = negsuc 3

-- GOT, with PLT 0x401020 and any 16 bytes
abbrev plt : ℕ → Answer Unit → List ℕ → Starred
plt got a b =
    record { found = writes (plt_answer (replicate 16 0xA5) got 0x401020) (plt_bytes (replicate 16 0xA5) got 0x401020); told = writes a b }

abbrev pub starred : List Starred
starred =
    row 42 (0x48 ∷ 0x8B ∷ 0x2D ∷ []) 3 1 1 0 −4 (Ok (relaxed MovIndirectToLea 2 true (with (0x48 ∷ 0x8D ∷ 0x2D ∷ []) 3 −4)))
    ∷ row 42 (0x48 ∷ 0x8B ∷ 0x2D ∷ []) 3 3 1 0 −4 (Ok (relaxed (RexMovIndirectToAbsolute 3) 11 true (with (0x48 ∷ 0xC7 ∷ 0xC5 ∷ []) 3 (pos 0))))
    ∷ row 42 (0x48 ∷ 0x8B ∷ 0x2D ∷ []) 3 1 1 0 (negsuc 2) (Ok unrelaxed)
    ∷ row 42 (0x48 ∷ 0x8B ∷ 0x2D ∷ []) 3 3 1 0 (negsuc 2) (Ok unrelaxed)
    ∷ row 43 (0xD5 ∷ 0x48 ∷ 0x8B ∷ 0x2D ∷ []) 4 3 1 0 −4 (Ok (relaxed (RexMovIndirectToAbsolute 4) 11 true (with (0xD5 ∷ 0x18 ∷ 0xC7 ∷ 0xC5 ∷ []) 4 (pos 0))))
    ∷ row 43 (0x90 ∷ 0x48 ∷ 0x8B ∷ 0x2D ∷ []) 4 3 1 0 −4 (Ok (relaxed (RexMovIndirectToAbsolute 4) 11 true (with (0x90 ∷ 0x18 ∷ 0xC7 ∷ 0xC5 ∷ []) 4 (pos 0))))
    ∷ row 42 (0x48 ∷ 0x8B ∷ 0x2D ∷ []) 3 3 1 2147483647 −4 (Ok (relaxed (RexMovIndirectToAbsolute 3) 11 true (with (0x48 ∷ 0xC7 ∷ 0xC5 ∷ []) 3 (pos 0))))
    ∷ row 42 (0x48 ∷ 0x8B ∷ 0x2D ∷ []) 3 3 1 2147483648 −4 (Ok unrelaxed)
    ∷ row 41 (0x8B ∷ 0x2D ∷ []) 2 3 1 4294967295 −4 (Ok (relaxed MovIndirectToAbsolute 10 true (with (0xC7 ∷ 0xC5 ∷ []) 2 (pos 0))))
    ∷ row 41 (0x8B ∷ 0x2D ∷ []) 2 3 1 4294967296 −4 (Ok unrelaxed)
    ∷ row 41 (0xFF ∷ 0x25 ∷ 0x00 ∷ 0x00 ∷ 0x00 ∷ 0x00 ∷ []) 2 1 1 0 −4 (Ok (relaxed JmpIndirectToRelative 2 true (with (0xE9 ∷ 0x00 ∷ 0x00 ∷ 0x00 ∷ 0x00 ∷ 0x90 ∷ []) 1 −4)))
    ∷ row 41 (0xFF ∷ 0x25 ∷ 0x00 ∷ 0x00 ∷ 0x00 ∷ []) 2 1 1 0 −4 (Err WindowNotInside)
    ∷ row 35 (0xFF ∷ 0x10 ∷ []) 0 0 3 0 −4 (Ok (relaxed SkipTlsDescCall 0 false (with (0x66 ∷ 0x90 ∷ []) 0 −4)))
    ∷ row 35 (0xFF ∷ []) 0 0 3 0 −4 (Err WindowNotInside)
    ∷ row 22 (0x4C ∷ 0x03 ∷ 0x25 ∷ []) 3 1 2 0 −4 (Ok (relaxed (RexAddIndirectToAbsolute 3) 23 false (with (0x49 ∷ 0x81 ∷ 0xC4 ∷ []) 3 (pos 0))))
    ∷ row 50 (0x62 ∷ 0x74 ∷ 0xFC ∷ 0x10 ∷ 0x03 ∷ 0x25 ∷ []) 6 1 0 0 −4 (Ok (relaxed (RexAddIndirectToAbsolute 6) 23 true (with (0x62 ∷ 0xD4 ∷ 0xFC ∷ 0x10 ∷ 0x81 ∷ 0xC4 ∷ []) 6 (pos 0))))
    ∷ plt 0x404000 (Ok tt) (sets template 6 (0xD6 ∷ 0x2F ∷ 0x00 ∷ 0x00 ∷ []))
    ∷ plt (0x401020 + 10 + 2147483647) (Ok tt) (sets template 6 (0xFF ∷ 0xFF ∷ 0xFF ∷ 0x7F ∷ []))
    ∷ plt (0x401020 + 10 + 2147483648) (Err PltOutOfReach) template
    ∷ row 42 (0x4C ∷ 0x8B ∷ 0x2D ∷ 0x00 ∷ 0x00 ∷ 0x00 ∷ 0x00 ∷ []) 3 1 0 0x401000 −4 (Ok (relaxed (RexMovIndirectToAbsolute 3) 11 false (with (0x49 ∷ 0xC7 ∷ 0xC5 ∷ 0x00 ∷ 0x00 ∷ 0x00 ∷ 0x00 ∷ []) 3 (pos 0))))
    ∷ any false 2 [] 0 8 4 0 −4 (Ok (relaxed NoOp 4 true (with [] 0 −4)))
    ∷ []

pub record StarredHold : Type 0 where
  pub hold : map (λ (r : Starred). r.found) starred ≡ map (λ (r : Starred). r.told) starred
