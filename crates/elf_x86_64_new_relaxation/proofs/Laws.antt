-- A number that is taken; std's tests of fixed byte strings are the rules'.
-- Assumes nothing.
use Rattle.std.specs.Prelude.{Ok, Err}
use mathlib.Core.Path.{◌≡◌, refl}
use mathlib.Core.Bool.{Bool, true, false, cond, ◌&&◌}
use mathlib.Core.List.{List, [], ◌∷◌}
use Prim.Native.Nat.{ℕ, ◌+◌, ◌-◌, ◌<◌, ◌≤◌}
use native.Mathlib.Omega.{arith}
use lib.Dec.{eqb, leb}
use lib.ListN.{length, drop, take}
use Rattle.std.specs.Cmp.Lexicographic.{pointwise}
use Rattle.std.proofs.lemmas.Bool.{and_right}
use Rattle.std.proofs.lemmas.Bool.Decides.{nat_tests}
use Rattle.std.proofs.lemmas.List.{drop-take, length-take-le}
use Rattle.refusal.specs.declared.Refusal.{Refusal}
use Rattle.rules.specs.Answer.{Answer}
use Rattle.rules.specs.Choose.{starts_with, stands}

-- a number that is refused, or taken: what the answer says of the test
module _ (r : Refusal) (n k : ℕ) where
  pub taken : (above : Bool) → ◌≡◌ {A = Answer ℕ} (Ok k) (cond above (Err r) (Ok n)) → (above ≡ false) × (k ≡ n)
  taken true e = let z : ◌≡◌ {A = ℕ} 0 1 = cc in absurd (omega arith)
  taken false e = (refl, cc)

flip : (a b : ℕ) → eqb a b ≡ eqb b a
flip a b = grind (arith, nat_tests)

-- std's test at the start of a part
pub starts : (p s : List ℕ) → pointwise eqb p (take (length p) s) ≡ starts_with p s
starts [] s = refl
starts (a ∷ p) [] = refl
starts (a ∷ p) (b ∷ s) = rw (starts p s, flip a b)

shorter : (p t : List ℕ) → length t < length p → pointwise eqb p t ≡ false
shorter [] t h = absurd (omega arith)
shorter (a ∷ p) [] h = refl
shorter (a ∷ p) (b ∷ t) h = rw (shorter p t (omega arith)) (and_right (eqb a b) false refl)

inside : (p s : List ℕ) (n : ℕ) → pointwise eqb p (drop n (take (n + length p) s)) ≡ starts_with p (drop n s)
inside p s n = rw (drop-take n (length p) s) (starts p (drop n s))

-- std's test at the end of what stands before an offset
module _ (p s : List ℕ) (off : ℕ) (h : off ≤ length s) where
  at : (b : Bool) → leb (length p) off ≡ b → pointwise eqb p (drop (off - length p) (take off s)) ≡ (b && starts_with p (drop (off - length p) s))
  at true e =
      let o : (off - length p) + length p ≡ off = grind (arith, nat_tests) in
      rw o at (inside p s (off - length p))
  at false e =
      let z : off - length p ≡ 0 = grind (arith, nat_tests) in
      rw z (shorter p (take off s) (rw (length-take-le off s h) (grind (arith, nat_tests))))

  pub ends : pointwise eqb p (drop (length (take off s) - length p) (take off s)) ≡ stands s off p
  ends = rw (length-take-le off s h) (at (leb (length p) off) refl)
