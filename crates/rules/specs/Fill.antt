-- Document 02, card 4: filling the field. A field is the code's own struct. Assumes nothing.
use Rattle.std.specs.Prelude.{◌≡◌, Bool, true, false, not, cond, ◌||◌, List, ℕ, ◌+◌, ◌%◌, ◌^◌, ◌<◌, eqb, ltb, ℤ, length, take, drop, Ok, Err}
use Rattle.std.proofs.lemmas.List.Edits.{sets}
use Rattle.rules.specs.declared.Field.{Field}
use Rattle.rules.specs.Answer.{Answer, whether}
use Rattle.refusal.specs.declared.Refusal.TheVariants.{FieldNotInside, OffsetAboveLength, UnknownType, ValueOutOfRange}
use Rattle.rules.specs.Record.{Limit, too_long, past}
use Rattle.rules.specs.Range.{Sign, signed, unsigned, signed64, read_back, low_first, from_low}
use Rattle.rules.specs.Types.{Row, lookup}
use Rattle.rules.specs.Choose.{in_range}
use Rattle.rules.specs.Rewrite.{relocated, Filled}

-- "Given the new type, the field's offset and address, symbol value and addend"
abbrev pub field : ℕ → ℕ → ℕ → ℕ → ℤ → Field
field t at p v a = record { r_type = t; offset = at; address = p; value = v; addend = a }

-- "fill fields of types 2, 10, 11 and 23"
abbrev pub fills : ℕ → Bool
fills t = eqb t 2 || eqb t 10 || eqb t 11 || eqb t 23

-- "value plus addend, minus the field's address for type 2, wrapping at 2^64"
abbrev pub field_value : Field → ℕ
field_value f = relocated f.r_type f.value f.addend f.address

-- whether it, "read as signed", lies in "the type's range in 01"
abbrev pub fits : Field → Bool
fits f = in_range f.r_type (signed64 (field_value f))

-- 7: "type not among the 39"
abbrev pub unknown : ℕ → Bool
unknown t = not (whether (λ (r : Row). true) (lookup t))

-- none, or the section with its field filled
pub data Fill : Type 0 where
  unfilled : Fill
  filled : List ℕ → Fill

-- w bytes of x at an offset, `inside` where x is in its range: "16 when the four bytes do not lie in the section", "15 when the value is
-- outside the type's range", else it "writes four bytes, low byte first, and no others"
abbrev pub written : ℕ → Bool → ℕ → List ℕ → ℕ → Answer Fill
written w inside x sec at =
    cond (ltb (length sec) (at + w)) (Err FieldNotInside)
    (cond inside (Ok (filled (sets sec at (low_first w x)))) (Err ValueOutOfRange))

-- "The order is 1, 2, 7, 16, 15"; "Other types known to the lookup leave the section unchanged and answer none, once 1, 2 and 7 have passed and
-- with no test of 16 or 15"
unfoldable pub filling : Limit → List ℕ → Field → Answer Fill
filling l sec f =
    cond (too_long l sec) (Err l.refusal)
    (cond (past sec f.offset) (Err OffsetAboveLength)
    (cond (unknown f.r_type) (Err UnknownType)
    (cond (fills f.r_type) (written 4 (fits f) (field_value f) sec f.offset) (Ok unfilled))))

-- the section afterwards
unfoldable pub after_filling : List ℕ → Answer Fill → List ℕ
after_filling sec (Ok (filled new)) = new
after_filling sec (Ok unfilled) = sec
after_filling sec (Err n) = sec

-- ---- what an answer means

-- document 01's Filled, for a field at an offset of a section that is loaded at `base`
abbrev pub FilledAt : Field → ℕ → List ℕ → List ℕ → Type 0
FilledAt f base old new = Filled f.r_type f.addend f.offset base f.value old new

-- the field's address, which counts for type 2, is the load address of its offset
abbrev pub loaded_at : Field → ℕ → Type 0
loaded_at f base = f.r_type ≡ 2 → f.address ≡ (base + f.offset) % 2 ^ 64

-- the sign that a type's field is read back with
abbrev pub field_sign : ℕ → Sign
field_sign t = cond (eqb t 10) unsigned signed

pub record Fills (l : Limit) (sec : List ℕ) (f : Field) : Type 0 where
  -- where it says filled, what it leaves is Filled
  pub leaves : (base : ℕ) → loaded_at f base → (new : List ℕ) → filling l sec f ≡ Ok (filled new) → FilledAt f base sec new
  -- and of the four types, within the limit: where any section is Filled it says so, and leaves that one
  pub only :
      too_long l sec ≡ false → fills f.r_type ≡ true
      → (base : ℕ) → loaded_at f base → (new : List ℕ) → FilledAt f base sec new → filling l sec f ≡ Ok (filled new)
  -- where it says filled, the four bytes, read back with the type's sign, are the value
  pub reads : (new : List ℕ) → filling l sec f ≡ Ok (filled new) → read_back 4 (field_sign f.r_type) (from_low (take 4 (drop f.offset new))) ≡ field_value f
  -- under 15 no section is, and no four bytes, read back with the type's sign, are the value
  pub far : too_long l sec ≡ false → filling l sec f ≡ Err ValueOutOfRange → (base : ℕ) → loaded_at f base → (new : List ℕ) → FilledAt f base sec new → ⊥
  pub wide : too_long l sec ≡ false → filling l sec f ≡ Err ValueOutOfRange → (b : ℕ) → b < 2 ^ 32 → read_back 4 (field_sign f.r_type) b ≡ field_value f → ⊥
  -- under 16 the field is cut
  pub short : too_long l sec ≡ false → filling l sec f ≡ Err FieldNotInside → length sec < f.offset + 4
