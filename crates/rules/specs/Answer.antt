-- The form of every answer of document 01. Assumes nothing.
use Rattle.std.specs.Prelude.{Bool, false, cond, ℕ, Result, Ok, Err}
use Rattle.refusal.specs.declared.Refusal.{Refusal}
use Rattle.refusal.specs.Numbers.{number_of}

-- "A refusal gives its number alone": what is given, or a refusal, whose number is `number_of`'s
abbrev pub Answer : Type 0 → Type 0
Answer A = Result A Refusal

-- the refusal's number, or 0
abbrev pub refusal_of : {A : Type 0} → Answer A → ℕ
refusal_of (Ok x) = 0
refusal_of (Err e) = number_of e

-- whether something holds of what is given: no under a refusal
abbrev pub whether : {A : Type 0} → (A → Bool) → Answer A → Bool
whether f (Ok x) = f x
whether f (Err e) = false

-- "0/1"
abbrev pub flag : Bool → ℕ
flag b = cond b 1 0
