-- Rewriting by a kind changes no byte outside the kind's window, and no length: a run of stores keeps
-- what lies before and after it, kind by kind; and the new field begins at most 18 bytes after the window's begin.
-- Assumes nothing.
use mathlib.Core.Path.{◌≡◌, refl, sym, subst, ◌∙◌}
use mathlib.Core.Logic.{◌⊎◌, inl, inr, ⊎_elim}
use mathlib.Core.Bool.{Bool, true, false, cond}
use mathlib.Core.List.{List, [], ◌∷◌}
use Prim.Native.Nat.{ℕ, ◌+◌, ◌-◌, ◌<◌, ◌≤◌}
use native.Mathlib.Nat.{sub-zero}
use native.Mathlib.Omega.{arith}
use lib.Dec.{eqb, lit≤}
use lib.ListN.{length, get_or, set}
use lib.Seq.{sets, length-sets}
use Rattle.laws.proofs.Stores.{run_before, run_after}
use Rattle.x86_64_kind.specs.declared.RelaxationKind.{RelaxationKind}
use Rattle.x86_64_kind.specs.declared.RelaxationKind.TheVariants.{MovIndirectToLea, MovIndirectToAbsolute, RexMovIndirectToAbsolute, RexAddIndirectToAbsolute}
use Rattle.x86_64_kind.specs.declared.RelaxationKind.TheVariants.{RexAddIndirectToLea, RexSubIndirectToAbsolute, RexCmpIndirectToAbsolute, CallIndirectToRelative, JmpIndirectToRelative}
use Rattle.x86_64_kind.specs.declared.RelaxationKind.TheVariants.{NoOp, TlsGdToLocalExec, TlsGdToLocalExecLarge, TlsLdToLocalExec, TlsLdToLocalExecNoPlt}
use Rattle.x86_64_kind.specs.declared.RelaxationKind.TheVariants.{TlsLdToLocalExec64, TlsGdToInitialExec, TlsDescToLocalExec, TlsDescToInitialExec, SkipTlsDescCall}
use Rattle.x86_64_kind.specs.declared.Shape.{Shape}
use Rattle.x86_64_kind.specs.Kinds.{begin, end, shape, shape_of}
use Rattle.rules.specs.Rewrite.{moved, direct, rex_copied, based, evex_moved, to_absolute, evex_to_absolute, rewritten, claims}
use Rattle.rules.specs.Rewrite.{gd_to_local_exec, gd_to_local_exec_large, ld_to_local_exec, ld_to_local_exec_no_plt, ld_to_local_exec64, gd_to_initial_exec}

-- `new` is `old` but for bytes from b up to e
pub record Kept (b e : ℕ) (old new : List ℕ) : Type 0 where
  pub size : length new ≡ length old
  pub outside : (i : ℕ) → (i < b) ⊎ (e ≤ i) → get_or new i 0 ≡ get_or old i 0

stores : (l : List ℕ) (b : ℕ) (vs : List ℕ) → Kept b (b + length vs) l (sets l b vs)
stores l b vs = record { size = length-sets l b vs; outside = λ i. ⊎_elim (run_before vs l b i) (run_after vs l b i) }

-- EVEX: byte −5, then bytes −2 and −1
evex : (sec : List ℕ) (off : ℕ) → 5 ≤ off → Kept (off - 5) (off - 5 + 5) sec (evex_to_absolute sec off)
evex sec off h =
    let low = stores sec (off - 5) (evex_moved (get_or sec (off - 5) 0) ∷ []) in
    let high = stores (set sec (off - 5) (evex_moved (get_or sec (off - 5) 0))) (off - 2) (0x81 ∷ direct 0 (get_or sec (off - 1) 0) ∷ []) in
    record {
      size = high.size ∙ low.size;
      outside = λ i g. high.outside i (⊎_elim (λ (b : i < off - 5). inl (omega arith)) (λ (e : off - 5 + 5 ≤ i). inr (omega arith)) g)
          ∙ low.outside i (⊎_elim (λ (b : i < off - 5). inl b) (λ (e : off - 5 + 5 ≤ i). inr (omega arith)) g);
    }

module _ (sec : List ℕ) (off : ℕ) where
  abbrev Near : Shape → List ℕ → Type 0
  Near s new = Kept (begin s.window off) (end s.window off) sec new × (s.field ≤ 18)

  -- a prefix, an opcode and a ModRM byte
  absolute : (k n o digit : ℕ) → Near (shape k n 3 3 3 true) (to_absolute n o digit sec off)
  absolute k n o digit =
      (stores sec (off - 3) (moved n (get_or sec (off - 3) 0) ∷ o ∷ direct digit (get_or sec (off - 1) 0) ∷ []), lit≤ tt)

  add : (n : ℕ) (six : Bool) → (cond six (shape 3 n 5 5 5 true) (shape 3 n 3 3 3 true)).window.back ≤ off → Near (cond six (shape 3 n 5 5 5 true) (shape 3 n 3 3 3 true)) (cond six (evex_to_absolute sec off) (to_absolute n 0x81 0 sec off))
  add n true h = (evex sec off h, lit≤ tt)
  add n false h = absolute 3 n 0x81 0

  pub near : (k : RelaxationKind) → (shape_of k).window.back ≤ off → Near (shape_of k) (rewritten k sec off)
  near MovIndirectToLea h = (stores sec (off - 2) (0x8D ∷ []), lit≤ tt)
  near MovIndirectToAbsolute h = (stores sec (off - 2) (0xC7 ∷ direct 0 (get_or sec (off - 1) 0) ∷ []), lit≤ tt)
  near (RexMovIndirectToAbsolute n) h = absolute 2 n 0xC7 0
  near (RexAddIndirectToAbsolute n) h = add n (eqb n 6) h
  near (RexAddIndirectToLea n) h = (stores sec (off - 3) (rex_copied (get_or sec (off - 3) 0) ∷ 0x8D ∷ based (get_or sec (off - 1) 0) ∷ []), lit≤ tt)
  near (RexSubIndirectToAbsolute n) h = absolute 5 n 0x81 5
  near (RexCmpIndirectToAbsolute n) h = absolute 6 n 0x81 7
  near CallIndirectToRelative h = (stores sec (off - 2) (0x67 ∷ 0xE8 ∷ []), lit≤ tt)
  near JmpIndirectToRelative h = (stores sec (off - 2) (0xE9 ∷ 0 ∷ 0 ∷ 0 ∷ 0 ∷ 0x90 ∷ []), lit≤ tt)
  near NoOp h = (record { size = refl; outside = λ i g. refl }, lit≤ tt)
  near TlsGdToLocalExec h = (stores sec (off - 4) gd_to_local_exec, lit≤ tt)
  near TlsGdToLocalExecLarge h = (stores sec (off - 3) gd_to_local_exec_large, lit≤ tt)
  near TlsLdToLocalExec h = (stores sec (off - 3) ld_to_local_exec, lit≤ tt)
  near TlsLdToLocalExecNoPlt h = (stores sec (off - 3) ld_to_local_exec_no_plt, lit≤ tt)
  near TlsLdToLocalExec64 h = (stores sec (off - 3) ld_to_local_exec64, lit≤ tt)
  near TlsGdToInitialExec h = (stores sec (off - 4) gd_to_initial_exec, lit≤ tt)
  near (TlsDescToLocalExec n) h = absolute 16 n 0xC7 0
  near TlsDescToInitialExec h = (stores sec (off - 2) (0x8B ∷ []), lit≤ tt)
  near SkipTlsDescCall h = (subst (λ (b : ℕ). Kept b (b + 2) sec (sets sec off (0x66 ∷ 0x90 ∷ []))) (sym (sub-zero off)) (stores sec off (0x66 ∷ 0x90 ∷ [])), lit≤ tt)

  -- the same of what relaxing and a pass claim
  pub kept : (k : RelaxationKind) (t : ℕ) → (claims k t).back ≤ off → Kept (begin (claims k t) off) (end (claims k t) off) sec (rewritten k sec off)
  unfolding claims
  kept k t h = (near k h).0
