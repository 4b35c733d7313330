-- A run of stores in a list, read back: before the run, in it, and after it; the part of the list that starts before the run; and a run as
-- long as the list.
-- Assumes nothing.
use mathlib.Core.Path.{◌≡◌, refl, ap, ◌∙◌}
use mathlib.Core.List.{List, [], ◌∷◌, ◌++◌, append-nil}
use Prim.Native.Nat.{ℕ, zero, suc, ◌+◌, ◌<◌, ◌≤◌}
use native.Mathlib.Omega.{arith}
use lib.ListN.{length, get_or, set, drop, length-set, drop_of_length-le}
use lib.Seq.{sets, sets-eq, get_or-set_same, get_or-set_other, drop-set-add}

pub run_before : (vs l : List ℕ) (i j : ℕ) → j < i → get_or (sets l i vs) j 0 ≡ get_or l j 0
run_before [] l i j h = refl
run_before (a ∷ vs) l i j h = run_before vs (set l i a) (suc i) j (omega arith) ∙ get_or-set_other l i j a 0 (omega arith)

pub run_at : (vs l : List ℕ) (i k j : ℕ) → j ≡ i + k → k < length vs → i + length vs ≤ length l → get_or (sets l i vs) j 0 ≡ get_or vs k 0
run_at [] l i k j e h n = absurd (omega arith)
run_at (a ∷ vs) l i zero j e h n =
    run_before vs (set l i a) (suc i) j (omega arith) ∙ (ap (λ (x : ℕ). get_or (set l i a) x 0) (omega arith) ∙ get_or-set_same l i a 0 (omega arith))
run_at (a ∷ vs) l i (suc k) j e h n =
    run_at vs (set l i a) (suc i) k j (omega arith) (omega arith) (omega (arith, length-set l i a))

pub run_after : (vs l : List ℕ) (i j : ℕ) → i + length vs ≤ j → get_or (sets l i vs) j 0 ≡ get_or l j 0
run_after [] l i j h = refl
run_after (a ∷ vs) l i j h = run_after vs (set l i a) (suc i) j (omega arith) ∙ get_or-set_other l i j a 0 (omega arith)

pub drop-sets : (vs l : List ℕ) (i k j : ℕ) → j ≡ i + k → drop i (sets l j vs) ≡ sets (drop i l) k vs
drop-sets [] l i k j e = refl
drop-sets (a ∷ vs) l i k j e =
    drop-sets vs (set l j a) i (suc k) (suc j) (omega arith)
    ∙ ap (λ (d : List ℕ). sets d (suc k) vs) (ap (λ (x : ℕ). drop i (set l x a)) e ∙ drop-set-add i l k a)

pub run_whole : (vs l : List ℕ) → length vs ≡ length l → sets l 0 vs ≡ vs
run_whole vs l e =
    sets-eq vs l 0 (omega (arith, e))
    ∙ ap (λ (r : List ℕ). vs ++ r) (drop_of_length-le l {i = 0 + length vs} (omega (arith, e)))
    ∙ append-nil vs
