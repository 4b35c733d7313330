-- Rules of bytes: one that holds at all 256, by a test that is computed.
-- Assumes nothing.
use mathlib.Core.Path.{◌≡◌, subst}
use mathlib.Core.Logic.{⊎_elim}
use mathlib.Core.Bool.{Bool, true, ◌&&◌}
use Prim.Native.Nat.{ℕ, zero, suc, ◌<◌}
use native.Mathlib.Omega.{arith}
use lib.Dec.{T, eqb, eqb→eq}
use Rattle.std.proofs.lemmas.Bool.{cases_lt}
use Rattle.laws.proofs.Bools.{and_left, and_right}

abbrev pub every : (ℕ → Bool) → ℕ → Bool
every f zero = true
every f (suc n) = f n && every f n

at : (f : ℕ → Bool) (n : ℕ) → T (every f n) → (b : ℕ) → b < n → T (f b)
at f zero t b h = absurd (omega arith)
at f (suc n) t b h =
    ⊎_elim (at f n (and_right (f n) (every f n) t) b)
    (λ over. let e : n ≡ b = omega arith in subst (λ (m : ℕ). T (f m)) e (and_left (f n) (every f n) t)) (cases_lt b n)

-- two functions that a test of all bytes finds equal are equal at each byte
pub same : (f g : ℕ → ℕ) → T (every (λ b. eqb (f b) (g b)) 256) → (b : ℕ) → b < 256 → f b ≡ g b
same f g t b h = eqb→eq (f b) (g b) (at (λ k. eqb (f k) (g k)) 256 t b h)
