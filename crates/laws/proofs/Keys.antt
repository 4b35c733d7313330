-- Numbers as keys: two functions that a computed test finds equal at each below a bound, and what holds of a number that a test finds equal.
-- Assumes nothing.
use mathlib.Core.Path.{◌≡◌, refl, sym, subst}
use mathlib.Core.Bool.{Bool, true, false}
use mathlib.Core.List.{List, [], ◌∷◌, map}
use Prim.Native.Nat.{ℕ, zero, suc, ◌<◌}
use native.Mathlib.Omega.{arith}
use lib.Dec.{T, eqb, eqb→eq}
use borrow.Author.Tests.{eqb-true, eqb-false}

-- the keys n - 1 down to 0
abbrev pub down : ℕ → List ℕ
down zero = []
down (suc n) = n ∷ down n

-- two functions that a computed test finds equal below n are equal at each number below n
pub at_down : {A : Type 0} (f g : ℕ → A) (n : ℕ) → map f (down n) ≡ map g (down n) → (k : ℕ) → k < n → f k ≡ g k
at_down f g zero e k h = absurd (omega arith)
at_down f g (suc n) e k h = go (eqb k n) refl (at_down f g n (cc) k) where
  go : (b : Bool) → eqb k n ≡ b → (k < n → f k ≡ g k) → f k ≡ g k
  go true p below = rw (eqb-true k n p) (cc)
  go false p below = below (omega (arith, eqb-false k n p))

-- what holds at a number holds at one that a test finds equal to it
pub is : (P : ℕ → Type 0) (n m : ℕ) → P m → T (eqb n m) → P n
is P n m p t = subst P (sym (eqb→eq n m t)) p
