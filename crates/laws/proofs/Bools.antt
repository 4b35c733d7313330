-- Rules of tests: what follows from a test that holds, and from two answers that differ.
-- Assumes nothing.
use mathlib.Core.Path.{◌≡◌}
use mathlib.Core.Bool.{Bool, true, false, ◌&&◌, ◌||◌}
use Prim.Native.Nat.{ℕ}
use native.Mathlib.Omega.{arith}
use lib.Dec.{T}

pub and_left : (a b : Bool) → T (a && b) → T a
and_left true b t = tt
and_left false b t = t

pub and_right : (a b : Bool) → T (a && b) → T b
and_right true b t = t
and_right false b t = absurd t

pub parts : {P : Type 0} (a b : Bool) → (T a → T b → P) → T (a && b) → P
parts true b f t = f tt t
parts false b f t = absurd t

pub either : {P : Type 0} (a b : Bool) → (T a → P) → (T b → P) → T (a || b) → P
either true b f g t = f tt
either false b f g t = g t

-- 0 ≡ 1 is what `cc` makes of two constructors that are said to be equal
pub never : {A : Type 0} → ◌≡◌ {A = ℕ} 0 1 → A
never z = absurd (omega arith)
