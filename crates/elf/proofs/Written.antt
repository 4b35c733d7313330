-- Bytes written at the begin of a buffer, and a value's range. Assumes nothing.
use Rattle.std.specs.Prelude.{Result, Ok, Err}
use Rattle.std.proofs.Common.{◌≡◌, ℕ, ◌+◌, ◌≤◌, Bool, true, false, cond, List, ◌++◌, length, drop, sym, ◌∙◌, refl, zero-add, arith, le-ltb, to_z, of_z, to_z-of_z, w64, ℤ, SFits}
use Rattle.std.proofs.lemmas.Int.{ints}
use lib.Seq.{sets-eq}
use Rattle.refusal.specs.declared.Refusal.{Refusal}
use Rattle.refusal.specs.declared.Refusal.TheVariants.{ValueOutOfRange}
use Rattle.rules.specs.Range.{Range, contains, signed64, low_first}
use Rattle.rules.specs.Fill.{written, after_filling}
use Rattle.rules.proofs.Widths.{length-low}

-- the low bytes, and what follows them, are what is written
pub put : (w x : ℕ) (b : Bool) (out low : List ℕ) → b ≡ true → w ≤ length out → low ≡ low_first w x → low ++ drop w out ≡ after_filling out (written w b x out 0)
unfolding after_filling
put w x b out low v h e =
    rw (v, le-ltb (length out) (0 + w) (omega arith), e)
    (sym (sets-eq (low_first w x) out 0 (omega (arith, length-low w x)) ∙ rw (zero-add (length (low_first w x)), length-low w x)))

-- reading as signed is std's
signed : (x : ℕ) → to_z w64 x ≡ signed64 x
unfolding signed64
signed x = grind (arith, ints)

-- a value that is taken lies in the range
fits : (b : Bool) → ◌≡◌ {A = Result Unit Refusal} (Ok tt) (cond b (Ok tt) (Err ValueOutOfRange)) → b ≡ true
fits true e = refl
fits false e = cc

-- the same of the test's own answer
pub held : (x : ℕ) (r : Range) {z : ℤ} {y : Result Unit Refusal} → SFits w64 z → z ≡ to_z w64 x → y ≡ Ok tt
    → y ≡ cond (contains r (to_z w64 (of_z w64 z))) (Ok tt) (Err ValueOutOfRange) → contains r (signed64 x) ≡ true
held x r s e ok v = fits _ (sym ok ∙ (rw (to_z-of_z {w = w64} s, e, signed x) at v))
