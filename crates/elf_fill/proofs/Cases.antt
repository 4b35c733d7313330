-- The cases of `filling` by what the lookup found; and `written` on the part of the section from the offset on, said of the whole.
-- Assumes nothing.
use Rattle.std.specs.Prelude.{Result, Ok, Err}
use Rattle.std.proofs.Common.{◌≡◌, ℕ, ◌+◌, ◌-◌, ◌≤◌, Bool, true, false, cond, eqb, ltb, List, [], ◌∷◌, ◌++◌, length, take, drop, sym, refl, ap, ◌∙◌, append_assoc, append-nil, zero-add, arith, length-drop, drop_of_length-le, length-take-le, take_all, drop-drop, ltb-false, ltb-true, le-ltb, lt-ltb, eqb-true}
use lib.Seq.{sets, sets-eq}
use borrow.Rule.Slice.PartMut.{mid_of, put_mid, put_same}
use Rattle.laws.proofs.Bools.{never}
use Rattle.rules.specs.declared.Field.{Field}
use Rattle.rules.specs.Answer.{Answer, whether}
use Rattle.refusal.specs.declared.Refusal.{Refusal}
use Rattle.refusal.specs.declared.Refusal.TheVariants.{FieldNotInside, UnknownType, ValueOutOfRange}
use Rattle.rules.specs.Record.{link_limit}
use Rattle.rules.specs.Range.{contains, signed64, low_first}
use Rattle.rules.specs.Types.{Row, Entry, find, types, lookup, earlier_types, later_types}
use Rattle.rules.specs.Choose.{in_range}
use Rattle.rules.specs.Fill.{fills, field_value, written, Fill, unfilled, filled, filling, after_filling, FilledAt, loaded_at}
use Rattle.rules.proofs.Widths.{length-low}
use Rattle.rules.proofs.Fill.{of_four, exact}
use Rattle.elf.specs.declared.RelocationKindInfo.{RelocationKindInfo}
use Rattle.elf.specs.Elf.{range_of, info_from, written_of}
use Rattle.elf.proofs.Back.{range_back}
use Rattle.x86_64_types.specs.Types.{found_of}
use Rattle.elf_fill.specs.Filling.{filling_of}

module _ (sec : List ℕ) (at : ℕ) where
  -- the part from the offset on, and a part put back there
  abbrev pub part : List ℕ
  part = mid_of at (length sec - at) sec

  abbrev pub back : List ℕ → List ℕ
  back = put_mid at (length sec - at) sec

  -- stores at the part's begin are stores at the offset
  stored : (vs : List ℕ) → at + length vs ≤ length sec → back (sets part 0 vs) ≡ sets sec at vs
  stored vs h =
      let l : length (drop at sec) ≡ length sec - at = length-drop at sec in
      let p : part ≡ drop at sec = take_all (length sec - at) (drop at sec) (omega (arith, l)) in
      let q : drop (length sec - at) (drop at sec) ≡ [] = drop_of_length-le (drop at sec) {i = length sec - at} (omega (arith, l)) in
      rw (p, q, sets-eq vs (drop at sec) 0 (omega (arith, l)), zero-add (length vs), drop-drop)
      (ap (λ (r : List ℕ). take at sec ++ r) (append-nil (vs ++ drop (at + length vs) sec)) ∙ sym (sets-eq vs sec at h ∙ append_assoc (take at sec) vs _))

  abbrev through : Answer Fill → Answer Fill
  through (Ok (filled out)) = Ok (filled (back out))
  through (Ok unfilled) = Ok unfilled
  through (Err n) = Err n

  -- what is written into the part is written into the whole
  within_part : at ≤ length sec → (w : ℕ) (b : Bool) (x : ℕ) → written w b x sec at ≡ through (written w b x part 0)
  within_part low w b x = go (ltb (length sec) (at + w)) refl b where
    size : length part ≡ length sec - at
    size = length-take-le (length sec - at) (drop at sec) (omega (arith, length-drop at sec))

    go : (c : Bool) → ltb (length sec) (at + w) ≡ c → (b : Bool) → written w b x sec at ≡ through (written w b x part 0)
    go true e b = rw (e, lt-ltb (length part) (0 + w) (omega (arith, size, ltb-true (length sec) (at + w) e)))
    go false e b = let h = ltb-false (length sec) (at + w) e in rw (e, le-ltb (length part) (0 + w) (omega (arith, size))) (inside b h) where
      inside : (b : Bool) → at + w ≤ length sec
          → cond b (Ok (filled (sets sec at (low_first w x)))) (Err ValueOutOfRange) ≡ through (cond b (Ok (filled (sets part 0 (low_first w x)))) (Err ValueOutOfRange))
      inside true h = ap (λ (l : List ℕ). Ok (filled l)) (sym (stored (low_first w x) (omega (arith, length-low w x))))
      inside false h = refl

  -- the code's answer after one of `write_to_buffer`
  abbrev pub wrote : Answer Unit → Result Bool Refusal
  wrote (Ok u) = Ok true
  wrote (Err n) = Err n

  answered : (w : ℕ) (b : Bool) (x : ℕ) → filling_of (through (written w b x part 0)) ≡ wrote (written_of (written w b x part 0))
  answered w b x = go (ltb (length part) (0 + w)) b where
    go : (c b : Bool) → let y = cond c (Err FieldNotInside) (cond b (Ok (filled (sets part 0 (low_first w x)))) (Err ValueOutOfRange)) in filling_of (through y) ≡ wrote (written_of y)
    go true b = refl
    go false true = refl
    go false false = refl

  put_back : (x y : Answer Fill) → x ≡ through y → back (after_filling part y) ≡ after_filling sec x
  unfolding after_filling
  put_back x (Ok (filled out)) e = rw e
  put_back x (Ok unfilled) e = rw e (put_same at (length sec - at) sec)
  put_back x (Err n) e = rw e (put_same at (length sec - at) sec)

-- ---- the cases, by the lookup's answer

-- a type that is filled has a field of four bytes
four : (t : ℕ) (r : Row) → lookup t ≡ Ok r → fills t ≡ true → r.size ≡ 4
unfolding lookup earlier_types later_types
four t r q k = eqb-true r.size 4 (rw q at (of_four (λ (t : ℕ). whether (λ (r : Row). eqb r.size 4) (lookup t) ≡ true) t refl refl refl refl k))

-- the lookup refuses by 7 alone
find_refuses : (es : List Entry) (t : ℕ) {n : Refusal} → find es t ≡ Err n → n ≡ UnknownType
find_refuses [] t = λ q. cc
find_refuses (e ∷ es) t = by (eqb t e.type) (find_refuses es t) where
  by : (b : Bool) {n : Refusal} → (find es t ≡ Err n → n ≡ UnknownType) → cond b (Ok e.info) (find es t) ≡ Err n → n ≡ UnknownType
  by true p q = never (cc)
  by false p q = p q

no_row : (t : ℕ) {n : Refusal} → lookup t ≡ Err n → n ≡ UnknownType
unfolding lookup
no_row t = find_refuses types t

module _ (sec : List ℕ) (f : Field) (within : length sec ≤ 268435456) (low : f.offset ≤ length sec) where
  abbrev t : ℕ
  t = f.r_type

  abbrev at : ℕ
  at = f.offset

  pub missing : {n : Refusal} → Err n ≡ found_of (lookup t) → filling link_limit sec f ≡ Err n
  unfolding filling
  missing {n} = go (lookup t) refl where
    go : (a : Answer Row) → lookup t ≡ a → Err n ≡ found_of a → filling link_limit sec f ≡ Err n
    go (Ok r) q e = never (cc)
    go (Err m) q e = rw (le-ltb 268435456 (length sec) within, le-ltb (length sec) at low, q) (cc (no_row t q))

  pub nothing : {info : RelocationKindInfo} → Ok info ≡ found_of (lookup t) → fills t ≡ false → filling link_limit sec f ≡ Ok unfilled
  unfolding filling
  nothing {info} = go (lookup t) refl where
    go : (a : Answer Row) → lookup t ≡ a → Ok info ≡ found_of a → fills t ≡ false → filling link_limit sec f ≡ Ok unfilled
    go (Ok r) q e k = rw (le-ltb 268435456 (length sec) within, le-ltb (length sec) at low, q, k)
    go (Err m) q e k = never (cc)

  written_is : {info : RelocationKindInfo} → Ok info ≡ found_of (lookup t) → fills t ≡ true
      → filling link_limit sec f ≡ written info.size.byte_size (contains (range_of info.range) (signed64 (field_value f))) (field_value f) sec at
  unfolding filling in_range
  written_is {info} = go (lookup t) refl where
    go : (a : Answer Row) → lookup t ≡ a → Ok info ≡ found_of a → fills t ≡ true
        → filling link_limit sec f ≡ written info.size.byte_size (contains (range_of info.range) (signed64 (field_value f))) (field_value f) sec at
    go (Ok r) q e k =
        let i : info ≡ info_from r = cc in
        rw (le-ltb 268435456 (length sec) within, le-ltb (length sec) at low, q, k, i, four t r q k, range_back r.range)
    go (Err m) q e k = never (cc)

  pub filled_by : {info : RelocationKindInfo} {v : ℕ} {y : Answer Unit} {new : List ℕ} → Ok info ≡ found_of (lookup t) → fills t ≡ true → v ≡ field_value f
      → y ≡ written_of (written info.size.byte_size (contains (range_of info.range) (signed64 v)) v (part sec at) 0)
      → new ≡ after_filling (part sec at) (written info.size.byte_size (contains (range_of info.range) (signed64 v)) v (part sec at) 0)
      → (filling_of (filling link_limit sec f) ≡ wrote sec at y) × (back sec at new ≡ after_filling sec (filling link_limit sec f))
  filled_by {info} e k u p q =
      let w = written_is e k ∙ within_part sec at low info.size.byte_size _ _ in
      rw (p, q, u) (ap filling_of w ∙ answered sec at info.size.byte_size _ _, put_back sec at _ _ w)

-- where it says filled, the section is Filled
pub told : (sec : List ℕ) (f : Field) (base : ℕ) → loaded_at f base → filling_of (filling link_limit sec f) ≡ Ok true
    → FilledAt f base sec (after_filling sec (filling link_limit sec f))
unfolding after_filling
told sec f base p = go (filling link_limit sec f) refl where
  go : (y : Answer Fill) → filling link_limit sec f ≡ y → filling_of y ≡ Ok true → FilledAt f base sec (after_filling sec y)
  go (Ok (filled new)) e t = (exact link_limit sec f).leaves base p new e
  go (Ok unfilled) e t = never (cc)
  go (Err n) e t = never (cc)
