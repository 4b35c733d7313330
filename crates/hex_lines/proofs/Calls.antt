-- One call more is one line more. Assumes nothing.
use Rattle.std.proofs.Common.{◌≡◌, ℕ, ◌+◌, List, [], ◌∷◌, ◌++◌, length, arith, length-append}
use Rattle.std.specs.List.{FoldsTo}
use Rattle.std.proofs.lemmas.Fn.{FoldsTo-push}

pub one_more : {P A : Type 0} (R : P → A → P → Type 0) (p q u : P) (xs : List A) (x : A) (n : ℕ) → FoldsTo R p xs q → length xs ≡ n → R q x u → (ys : List A) × FoldsTo R p ys u × (length ys ≡ n + 1)
one_more R p q u xs x n h e r = (xs ++ x ∷ [], FoldsTo-push R p xs q x u h r, omega (arith, length-append xs (x ∷ [])))
