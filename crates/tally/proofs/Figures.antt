-- What a step does to the figures: at each place its share, wrapping; to the first 21 together a record, or nothing under a refusal.
-- Assumes nothing.
use Rattle.std.proofs.Common.{◌≡◌, ℕ, zero, suc, ◌+◌, ◌%◌, ◌^◌, ◌<◌, ◌≤◌, Bool, true, false, cond, eqb, List, [], ◌∷◌, length, get_or, take, sym, refl, ◌∙◌, subst, le_refl, le_of_suc-le-suc, not-suc-le-zero, arith, length-set, get_or-set_other, get_or-set_same, eqb-true, Some, None, Ok, Err}
use lib.Seq.{take-set-le}
use borrow.Author.Tests.{eqb-false}
use Rattle.x86_64_kind.specs.declared.RelaxationKind.{RelaxationKind}
use Rattle.x86_64_kind.specs.declared.RelaxationKind.TheVariants as kind
use Rattle.x86_64_kind.specs.Kinds.{shape, shape_of}
use Rattle.rules.specs.Answer.{Answer}
use Rattle.pass.specs.declared.Step.{Step}
use Rattle.pass.specs.declared.Step.TheVariants.{Took, Skipped}
use Rattle.tally.specs.Tally.{plus, counted, tallied, sum, shared, share, accepted}

-- the kinds' numbers are those of the first figures
pub low : (k : RelaxationKind) → (shape_of k).number < 21
low kind.MovIndirectToLea = omega arith
low kind.MovIndirectToAbsolute = omega arith
low (kind.RexMovIndirectToAbsolute n) = omega arith
low (kind.RexAddIndirectToAbsolute n) = by (eqb n 6) where
  by : (b : Bool) → (cond b (shape 3 n 5 5 5 true) (shape 3 n 3 3 3 true)).number < 21
  by true = omega arith
  by false = omega arith
low (kind.RexAddIndirectToLea n) = omega arith
low (kind.RexSubIndirectToAbsolute n) = omega arith
low (kind.RexCmpIndirectToAbsolute n) = omega arith
low kind.CallIndirectToRelative = omega arith
low kind.JmpIndirectToRelative = omega arith
low kind.NoOp = omega arith
low kind.TlsGdToLocalExec = omega arith
low kind.TlsGdToLocalExecLarge = omega arith
low kind.TlsLdToLocalExec = omega arith
low kind.TlsLdToLocalExecNoPlt = omega arith
low kind.TlsLdToLocalExec64 = omega arith
low kind.TlsGdToInitialExec = omega arith
low (kind.TlsDescToLocalExec n) = omega arith
low kind.TlsDescToInitialExec = omega arith
low kind.SkipTlsDescCall = omega arith

-- ---- each figure

module _ (t : List ℕ) (i : ℕ) (l : i < length t) (h : get_or t i 0 < 2 ^ 64) where
  get_or-plus : (j n : ℕ) → get_or (plus j n t) i 0 ≡ (get_or t i 0 + cond (eqb i j) n 0) % 2 ^ 64
  get_or-plus j n = by (eqb i j) refl where
    by : (b : Bool) → eqb i j ≡ b → get_or (plus j n t) i 0 ≡ (get_or t i 0 + cond b n 0) % 2 ^ 64
    by true e = rw (← eqb-true i j e) (get_or-set_same t i _ 0 l)
    by false e = get_or-set_other t j i _ 0 (eqb-false i j e) ∙ (omega arith)

pub below : (y x : ℕ) → y ≡ x % 2 ^ 64 → y < 2 ^ 64
below y x e = omega arith

pub wraps : (y x a b : ℕ) → y ≡ (x + a) % 2 ^ 64 → (y + b) % 2 ^ 64 ≡ (x + (a + b)) % 2 ^ 64
wraps y x a b e = omega arith

get_or-counted : (t : List ℕ) (i : ℕ) → i < length t → get_or t i 0 < 2 ^ 64 → (k n : ℕ) → get_or (counted k n t) i 0 ≡ (get_or t i 0 + shared k n i) % 2 ^ 64
get_or-counted t i l h k n =
    let e = get_or-plus t i l h k 1 in
    get_or-plus (plus k 1 t) i (subst (λ (n : ℕ). i < n) (sym (length-set t k _)) l) (below _ _ e) 21 n ∙ wraps _ _ _ _ e

pub get_or-tallied : (t : List ℕ) (s : Answer Step) (i : ℕ) → i < length t → get_or t i 0 < 2 ^ 64 → get_or (tallied t s) i 0 ≡ (get_or t i 0 + share s i) % 2 ^ 64
unfolding tallied share
get_or-tallied t (Ok (Took (Some x))) i l h = get_or-counted t i l h _ _
get_or-tallied t (Ok (Took None)) i l h = get_or-counted t i l h _ _
get_or-tallied t (Ok Skipped) i l h = get_or-counted t i l h _ _
get_or-tallied t (Err n) i l h = omega arith

-- ---- the first 21 together

sum-plus : (n j : ℕ) (t : List ℕ) → j < n → n ≤ length t → sum (take n (plus j 1 t)) % 2 ^ 64 ≡ (sum (take n t) + 1) % 2 ^ 64
sum-plus zero j t h l = absurd (not-suc-le-zero h)
sum-plus (suc n) j [] h l = absurd (not-suc-le-zero l)
sum-plus (suc n) zero (x ∷ xs) h l = here x (sum (take n xs)) where
  here : (x u : ℕ) → ((x + 1) % 2 ^ 64 + u) % 2 ^ 64 ≡ (x + u + 1) % 2 ^ 64
  here x u = omega arith
sum-plus (suc n) (suc j) (x ∷ xs) h l = there x _ (sum (take n xs)) (sum-plus n j xs (le_of_suc-le-suc h) (le_of_suc-le-suc l)) where
  there : (x u v : ℕ) → u % 2 ^ 64 ≡ (v + 1) % 2 ^ 64 → (x + u) % 2 ^ 64 ≡ (x + v + 1) % 2 ^ 64
  there x u v e = omega arith

sum-counted : (k n : ℕ) (t : List ℕ) → k < 21 → 21 ≤ length t → sum (take 21 (counted k n t)) % 2 ^ 64 ≡ (sum (take 21 t) + 1) % 2 ^ 64
sum-counted k n t low l = rw (take-set-le 21 (plus k 1 t) 21 _ (le_refl 21)) (sum-plus 21 k t low l)

pub sum-tallied : (t : List ℕ) (s : Answer Step) → 21 ≤ length t → sum (take 21 (tallied t s)) % 2 ^ 64 ≡ (sum (take 21 t) + accepted s) % 2 ^ 64
unfolding tallied
sum-tallied t (Ok (Took (Some x))) l = sum-counted (shape_of x.relaxation.kind).number _ t (low x.relaxation.kind) l
sum-tallied t (Ok (Took None)) l = sum-counted 19 0 t (omega arith) l
sum-tallied t (Ok Skipped) l = sum-counted 20 0 t (omega arith) l
sum-tallied t (Err n) l = omega arith

-- ---- their count stays

length-counted : (i n : ℕ) (t : List ℕ) → length (counted i n t) ≡ length t
length-counted i n t = length-set (plus i 1 t) 21 _ ∙ length-set t i _

pub length-tallied : (t : List ℕ) (s : Answer Step) → length (tallied t s) ≡ length t
unfolding tallied
length-tallied t (Ok (Took (Some x))) = length-counted _ _ t
length-tallied t (Ok (Took None)) = length-counted _ _ t
length-tallied t (Ok Skipped) = length-counted _ _ t
length-tallied t (Err n) = refl
