-- How long a line can be, and a text: a decimal has 20 digits at most, and a section two for each byte. Assumes nothing.
use Rattle.std.proofs.Common.{List, [], ℕ, zero, suc, ◌+◌, ◌*◌, ◌/◌, ◌≤◌, length, ℤ, pos, negsuc, ◌≡◌, refl, Option, Some, None, Result, Ok, Err, arith}
use Rattle.std.proofs.lemmas.List.{length-append, length-drop}
use Rattle.std.proofs.lemmas.Bool.Decides.{nat_tests}
use Rattle.hex.proofs.HexLemmas.{length-encode_with}
use Rattle.refusal.specs.declared.Refusal.{Refusal}
use Rattle.refusal.specs.Numbers.{number_of}
use Rattle.relax.specs.declared.Relaxed.{Relaxed}
use Rattle.case_read.specs.Reading.{first, rest_after, records_in, records}
use Rattle.case_read.specs.Record.{Record}
use Rattle.case_read.proofs.Rest.{none, whole}
use Rattle.rules.specs.Answer.{Answer}
use Rattle.case_file.specs.Text.{decimal_in, decimal, signed_decimal, hex, spaced}
use Rattle.case_file.specs.CaseFile.{field, line_end, moved_fields, relaxed_fields, fields, line}
use Rattle.case_file.specs.Parts.{most_of, most_of_all, Bounds}

decimal_in_bound : (k n : ℕ) → length (decimal_in k n) ≤ k
decimal_in_bound zero n = omega arith
decimal_in_bound (suc k) n =
    let h = decimal_in_bound k (n / 10) in
    grind (arith, nat_tests, length-append {A = ℕ})

field_bound : (n : ℕ) → length (field n) ≤ 21
unfolding decimal spaced
field_bound n = let h = decimal_in_bound 20 n in grind (arith, length-append {A = ℕ})

addend_bound : (z : ℤ) → length (spaced (signed_decimal z)) ≤ 22
unfolding decimal signed_decimal spaced
addend_bound (pos n) = let h = decimal_in_bound 20 n in grind (arith, length-append {A = ℕ})
addend_bound (negsuc n) = let h = decimal_in_bound 20 (suc n) in grind (arith, length-append {A = ℕ})

end_bound : (s : List ℕ) → length (line_end s) ≤ 2 + 2 * length s
unfolding line_end hex
end_bound s = grind (arith, nat_tests, length-append {A = ℕ}, length-encode_with)

fields_bound : (a : Result (Option Relaxed) Refusal) → length (fields a) ≤ 148
unfolding moved_fields relaxed_fields spaced decimal
fields_bound (Ok (Some x)) = grind (arith, length-append {A = ℕ}, field_bound, addend_bound)
fields_bound (Ok None) = omega arith
fields_bound (Err e) = let h = decimal_in_bound 20 (number_of e) in grind (arith, length-append {A = ℕ})

pub line_bound : (n : ℕ) (a : Result (Option Relaxed) Refusal) (s : List ℕ) → length (line n a s) ≤ 171 + 2 * length s
unfolding line
line_bound n a s = grind (arith, length-append {A = ℕ}, field_bound n, fields_bound a, end_bound s)

pub bounds : Bounds
bounds = record { line_bound = line_bound }

-- a record takes 26 bytes of the file and its section, so that 171 bytes, and 7 for each byte of the file, are room enough
step : (k : ℕ) (bytes : List ℕ) (r : Answer Record) → first bytes ≡ r → most_of_all (records_in k (rest_after bytes r)) ≤ 171 + 7 * length (rest_after bytes r)
    → most_of r + most_of_all (records_in k (rest_after bytes r)) ≤ 171 + 7 * length bytes
step k bytes (Ok c) e h =
    let w = whole bytes c e in
    omega (arith, length-drop (26 + length c.section) bytes)
step k bytes (Err n) e h = rw (none k [] refl) (omega arith)

rooms : (k : ℕ) (bytes : List ℕ) → most_of_all (records_in k bytes) ≤ 171 + 7 * length bytes
rooms zero bytes = omega arith
rooms (suc k) bytes =
    let s = step k bytes (first bytes) refl (rooms k (rest_after bytes (first bytes))) in
    grind (arith, nat_tests)

pub room : (bytes : List ℕ) → length bytes ≤ 65536 → most_of_all (records bytes) ≤ 458923
unfolding records
room bytes h = let r = rooms (length bytes) bytes in omega arith
