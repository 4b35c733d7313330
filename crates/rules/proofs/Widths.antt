-- The one fact of the widths 1, 2, 4 and 8: a value lies in the range of a field exactly where the field's bytes, read back, are the value.
-- It is shown over the half h of the field's 2 ^ (8 * w) values, by where the value x lies: below h, in the middle, or in the last h. And a
-- number's low bytes at any width, one by one and as a number.
-- Assumes nothing.
use mathlib.Core.Path.{◌≡◌, refl, sym, ap, ◌∙◌}
use mathlib.Core.Bool.{Bool, true, false, cond, ◌||◌}
use Prim.Native.Nat.{ℕ, zero, suc, ◌+◌, ◌-◌, ◌*◌, ◌/◌, ◌%◌, ◌^◌, ◌≤◌, ◌<◌}
use native.Mathlib.Omega.{arith}
use native.Mathlib.Nat.{add-zero, mod-eq_of_lt, mod-lt, mul-add-mod_self_left, div-div-eq-div-mul, div-one, mod-one, mul-suc, pow-succ'}
use lib.Arith.{mod-mul}
use lib.Pow.{pow-add, pow_pos}
use lib.ListN.{length, get_or}
use lib.Dec.{eqb, ltb, leb, leb-zero, lit<, lit≤}
use lib.IntN.{pos}
use borrow.Author.Tests.{lt-ltb, le-ltb, eq-eqb, ne_eqb, ltb-true, ltb-false, leb-true, leb-false}
use Rattle.rules.specs.Range.{within, contains, Sign, signed, unsigned, minus, byte_range, signed64, read_back, Keeps, low_first, from_low, LowPart}

-- a test decides a claim
by : {X : Type 0} (b : Bool) → (b ≡ true → X) → (b ≡ false → X) → X
by true t f = t refl
by false t f = f refl

module _ (h q x : ℕ) (some : 0 < h) (half : h ≤ 2 ^ 63) (whole : (h + h) * q + (h + h) ≡ 2 ^ 64) (small : x < 2 ^ 64) where
  back : ℕ → ℕ
  back f = cond (ltb f h) f (f + (2 ^ 64 - (h + h)))

  -- in the middle neither reading gives x again
  apart : h ≤ x → x < 2 ^ 64 - h → eqb (back (x % (h + h))) x ≡ false
  unfolding back
  apart p r =
      by (ltb (x % (h + h)) h)
      (λ e. rw e (ne_eqb (x % (h + h)) x (λ g. omega (arith, ltb-true (x % (h + h)) h e))))
      (λ e. rw e (ne_eqb (x % (h + h) + (2 ^ 64 - (h + h))) x (λ g. omega (arith, ltb-false (x % (h + h)) h e))))

  first : x < h → eqb (back (x % (h + h))) x ≡ true
  unfolding back
  first p =
      let m : x % (h + h) ≡ x = mod-eq_of_lt (omega arith) in
      simp (m, lt-ltb x h p, eq-eqb x x refl)

  last : 2 ^ 64 - h ≤ x → eqb (back (x % (h + h))) x ≡ true
  unfolding back
  last p =
      let f = x - (2 ^ 64 - (h + h)) in
      let e : (h + h) * q + f ≡ x = omega arith in
      let m : x % (h + h) ≡ f = ap (λ (n : ℕ). n % (h + h)) (sym e) ∙ mul-add-mod_self_left (h + h) q f ∙ mod-eq_of_lt (omega arith) in
      rw (m, le-ltb f h (omega arith)) (eq-eqb (f + (2 ^ 64 - (h + h))) x (omega arith))

  signed_keeps : contains (within (minus h) (pos h)) (signed64 x) ≡ eqb (back (x % (h + h))) x
  unfolding signed64
  signed_keeps =
      by (ltb x (2 ^ 63))
      (λ e. let low = ltb-true x (2 ^ 63) e in
      by (ltb x h)
      (λ l. rw (e, l, first (ltb-true x h l)))
      (λ l. rw (e, l, apart (ltb-false x h l) (omega arith))))
      (λ e. let high = ltb-false x (2 ^ 63) e in
      by (leb (2 ^ 64 - 1 - x) (h - 1))
      (λ l. rw (e, l, last (omega (arith, leb-true (2 ^ 64 - 1 - x) (h - 1) l))))
      (λ l. rw (e, l, apart (omega arith) (omega (arith, leb-false (2 ^ 64 - 1 - x) (h - 1) l)))))

module _ (m x : ℕ) (some : 0 < m) (most : m ≤ 2 ^ 63) where
  unsigned_keeps : contains (within (pos 0) (pos m)) (signed64 x) ≡ eqb (x % m) x
  unfolding signed64
  unsigned_keeps =
      by (ltb x (2 ^ 63))
      (λ e. by (ltb x m)
      (λ l. rw (e, leb-zero x, l, mod-eq_of_lt (ltb-true x m l), eq-eqb x x refl))
      (λ l. rw (e, leb-zero x, l, ne_eqb (x % m) x (λ g. omega (arith, mod-lt x some, ltb-false x m l)))))
      (λ e. rw (e, ne_eqb (x % m) x (λ g. omega (arith, mod-lt x some, ltb-false x (2 ^ 63) e))))

-- at a width below 8, whose 2 ^ (8 * w) values divide 2 ^ 64
module _ (w : ℕ) (narrow : eqb w 0 || eqb w 8 ≡ false) (some : 0 < 2 ^ (8 * w - 1)) (twice : 2 ^ (8 * w) ≡ 2 ^ (8 * w - 1) + 2 ^ (8 * w - 1)) where
  below : 2 ^ (8 * w) ≤ 2 ^ 63 → (q : ℕ) → 2 ^ (8 * w) * q + 2 ^ (8 * w) ≡ 2 ^ 64 → (s : Sign) → Keeps w s (byte_range w s)
  unfolding byte_range read_back back
  below most q whole signed =
      record { keeps = λ x p. rw (narrow, twice) (signed_keeps (2 ^ (8 * w - 1)) q x some (omega arith) (rw twice at whole) p) }
  below most q whole unsigned = record { keeps = λ x p. rw narrow (unsigned_keeps (2 ^ (8 * w)) x (omega arith) most) }

pub data Width : ℕ → Type 0 where
  one : Width 1
  two : Width 2
  four : Width 4
  eight : Width 8

pub keeps : {w : ℕ} → Width w → (s : Sign) → Keeps w s (byte_range w s)
unfolding byte_range read_back
keeps one s = below 1 refl (lit< tt) refl (lit≤ tt) (2 ^ 56 - 1) refl s
keeps two s = below 2 refl (lit< tt) refl (lit≤ tt) (2 ^ 48 - 1) refl s
keeps four s = below 4 refl (lit< tt) refl (lit≤ tt) (2 ^ 32 - 1) refl s
keeps eight signed =
    record { keeps = λ x p. rw (mod-eq_of_lt p, add-zero) (by (ltb x (2 ^ 63)) (λ e. rw (e, eq-eqb x x refl)) (λ e. rw (e, eq-eqb x x refl))) }
keeps eight unsigned = record { keeps = λ x p. rw (mod-eq_of_lt p, eq-eqb x x refl) }

-- ---- bytes, low first

pub length-low : (w x : ℕ) → length (low_first w x) ≡ w
length-low zero x = refl
length-low (suc w) x = ap suc (length-low w (x / 256))

pub low_at : (w x i : ℕ) → i < w → get_or (low_first w x) i 0 ≡ x / 256 ^ i % 256
low_at zero x i h = absurd (omega arith)
low_at (suc w) x zero h = rw div-one
low_at (suc w) x (suc i) h = low_at w (x / 256) i (omega arith) ∙ rw (div-div-eq-div-mul x 256 (256 ^ i), pow-succ' 256 i)

pub low_part : (w : ℕ) → LowPart w
low_part w = record { reads = go w } where
  go : (w x : ℕ) → from_low (low_first w x) ≡ x % 2 ^ (8 * w)
  go zero x = sym (mod-one x)
  go (suc w) x =
      let e : 2 ^ (8 * suc w) ≡ 2 ^ (8 * w) * 256 = rw mul-suc (pow-add 2 (8 * w) 8) in
      rw (e, mod-mul x {m = 2 ^ (8 * w)} {c = 256} (pow_pos (8 * w)) (lit< tt), go w (x / 256)) (omega arith)
