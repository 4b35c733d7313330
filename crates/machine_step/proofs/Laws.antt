-- Laws of numbers and of the machine's definitions. Assumes nothing.
use Rattle.std.proofs.Common.{◌≡◌, ℕ, ◌+◌, ◌/◌, ◌%◌, ◌^◌, ◌<◌, Bool, true, false, cond, eqb, List, length, get_or, set, sym, refl, ◌∙◌, arith, bit_and, get_or-set_other, get_or-set_same, eqb-true}
use Rattle.std.proofs.lemmas.Nat.{and_mask}
use borrow.Author.Tests.{eqb-false}
use lib.Count.{ones, ones_step}
use Rattle.rules.specs.Range.{bit}
use Rattle.rules.proofs.Arith.{read8-low}
use Rattle.rules.specs.Machine.{size, read4, read8, put}

-- a slot at either width is the low bits of its eight bytes
pub loads : (w : Bool) (m : ℕ → ℕ) (a v : ℕ) → v < 2 ^ 64 → read8 m a ≡ v → cond w read8 read4 m a ≡ v % size w
loads true m a v h e = omega arith
loads false m a v h e = sym (read8-low m a) ∙ rw e

-- a store into the list is a store into its registers
pub put_set : (l : List ℕ) (k v : ℕ) → k < length l → put (λ (i : ℕ). get_or l i 0) k v ≡ (λ (i : ℕ). get_or (set l k v) i 0)
unfolding put
put_set l k v h j i = by (eqb i k) refl j where
  by : (t : Bool) → eqb i k ≡ t → cond (eqb i k) v (get_or l i 0) ≡ get_or (set l k v) i 0
  by true e = rw (e, eqb-true i k e, get_or-set_same l k v 0 h)
  by false e = rw (e, get_or-set_other l k i v 0 (eqb-false i k e))

none_set : (n : ℕ) → n ≡ 0 → ones n ≡ 0
unfolding ones
none_set n e = rw e

byte_ones : (b : ℕ) → b < 256 → ones b ≡ bit b 0 + bit b 1 + bit b 2 + bit b 3 + bit b 4 + bit b 5 + bit b 6 + bit b 7
byte_ones b h = omega (arith, ones_step b, ones_step (b / 2), ones_step (b / 2 / 2), ones_step (b / 2 / 2 / 2), ones_step (b / 2 / 2 / 2 / 2), ones_step (b / 2 / 2 / 2 / 2 / 2), ones_step (b / 2 / 2 / 2 / 2 / 2 / 2), ones_step (b / 2 / 2 / 2 / 2 / 2 / 2 / 2), none_set (b / 2 / 2 / 2 / 2 / 2 / 2 / 2 / 2) (omega arith))

-- the set bits of the low byte
pub low_byte_ones : (x : ℕ) → ones (bit_and x 255) ≡ bit x 0 + bit x 1 + bit x 2 + bit x 3 + bit x 4 + bit x 5 + bit x 6 + bit x 7
low_byte_ones x = rw (and_mask x 8, byte_ones (x % 256) (omega arith)) (omega arith)
