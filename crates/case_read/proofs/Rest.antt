-- The records of a file: the first, then those of the rest; a whole record lies within the file. Assumes nothing.
use Rattle.std.proofs.Common.{◌≡◌, ◌∙◌, List, [], ◌∷◌, ℕ, zero, suc, ◌+◌, ◌-◌, ◌≤◌, ◌<◌, cond, eqb, length, refl, sym, ap, arith, Ok, Err}
use Rattle.std.proofs.lemmas.List.{length-drop, length-take-le}
use Rattle.std.proofs.lemmas.Bool.{ne_eqb}
use Rattle.std.proofs.lemmas.Bool.Decides.{nat_tests}
use Rattle.rules.specs.Answer.{Answer}
use Rattle.case_read.specs.Record.{Record}
use Rattle.case_read.specs.Reading.{first, rest_after, records_in, records}

shorter : (bytes : List ℕ) (r : Answer Record) → length (rest_after bytes r) ≤ length bytes - 1
shorter bytes (Ok c) = rw (length-drop (26 + length c.section) bytes) (omega arith)
shorter bytes (Err e) = omega arith

pub none : (k : ℕ) (bytes : List ℕ) → length bytes ≡ 0 → records_in k bytes ≡ []
none zero bytes h = refl
none (suc k) bytes h = rw h

-- as many turns as there are bytes are enough
enough : (k m : ℕ) (bytes : List ℕ) → length bytes ≤ k → length bytes ≤ m → records_in k bytes ≡ records_in m bytes
enough zero m bytes h g = sym (none m bytes (omega arith))
enough (suc k) zero bytes h g = none (suc k) bytes (omega arith)
enough (suc k) (suc m) bytes h g =
    let s = shorter bytes (first bytes) in
    ap (λ (t : List (Answer Record)). cond (eqb (length bytes) 0) [] (first bytes ∷ t)) (enough k m (rest_after bytes (first bytes)) (omega arith) (omega arith))

pub next : (bytes : List ℕ) → 0 < length bytes → records bytes ≡ first bytes ∷ records (rest_after bytes (first bytes))
unfolding records
next bytes h =
    let e : length bytes ≡ suc (length bytes - 1) = omega arith in
    let s = shorter bytes (first bytes) in
    ap (λ (k : ℕ). records_in k bytes) e ∙ rw (ne_eqb (length bytes) 0 (λ e. omega arith)) (ap (λ (t : List (Answer Record)). first bytes ∷ t) (enough _ _ (rest_after bytes (first bytes)) (omega arith) (omega arith)))

pub whole : (bytes : List ℕ) (c : Record) → first bytes ≡ Ok c → (26 + length c.section ≤ length bytes) × (length c.section ≤ 4096)
unfolding first
whole bytes c e = grind (arith, nat_tests, length-drop {A = ℕ}, length-take-le {A = ℕ})

pub no_more : (bytes : List ℕ) → length bytes ≡ 0 → records bytes ≡ []
unfolding records
no_more bytes h = none (length bytes) bytes h

-- no more records than bytes
at_most : (k : ℕ) (bytes : List ℕ) → length (records_in k bytes) ≤ k
at_most zero bytes = omega arith
at_most (suc k) bytes =
    let h = at_most k (rest_after bytes (first bytes)) in
    grind (arith, nat_tests)

pub few : (bytes : List ℕ) → length (records bytes) ≤ length bytes
unfolding records
few bytes = at_most (length bytes) bytes
