-- Filling: four bytes that are stored are what Filled asks for; and what an answer of `filling` means, by the tests that led to it.
-- Assumes nothing.
use Rattle.std.specs.Prelude.{Ok, Err}
use mathlib.Core.Path.{◌≡◌, refl, sym, ap, ◌∙◌, subst}
use mathlib.Core.Bool.{Bool, true, false, ◌||◌}
use mathlib.Core.List.{List}
use Prim.Native.Nat.{ℕ, ◌+◌, ◌-◌, ◌%◌, ◌^◌, ◌≤◌, ◌<◌}
use native.Mathlib.Omega.{arith}
use native.Mathlib.Nat.{add-zero, mod-mod, mod-lt}
use lib.Dec.{T, eqb, ltb, lit<}
use lib.IntN.{ℤ}
use lib.ListN.{length, length-drop, get_or, take, drop}
use lib.Seq.{sets, sets-eq, length-sets, ext_get_or}
use Rattle.std.proofs.lemmas.Bool.{cond_both}
use Rattle.std.proofs.Math.Seq.{take-append_seam}
use borrow.Author.Tests.{le-ltb, ltb-true, ltb-false, eq-eqb, eqb-true}
use Rattle.laws.proofs.Bools.{either, never}
use Rattle.laws.proofs.Keys.{is}
use Rattle.laws.proofs.Stores.{run_before, run_at, run_after, drop-sets}
use Rattle.rules.specs.declared.Field.{Field}
use Rattle.rules.specs.Answer.{Answer}
use Rattle.refusal.specs.declared.Refusal.{Refusal}
use Rattle.refusal.specs.declared.Refusal.TheVariants.{FieldNotInside, ValueOutOfRange}
use Rattle.rules.specs.Record.{Limit, too_long, past}
use Rattle.rules.specs.Range.{signed64, byte_range, contains, read_back, low_first, from_low}
use Rattle.rules.specs.Types.{lookup, earlier_types, later_types}
use Rattle.rules.specs.Choose.{in_range}
use Rattle.rules.specs.Rewrite.{relocated, Holds}
use Rattle.rules.specs.Fill.{fills, field_value, fits, unknown, Fill, unfilled, filled, filling, FilledAt, loaded_at, field_sign, Fills}
use Rattle.rules.proofs.Widths.{four, keeps, low_at, low_part}
use Rattle.rules.proofs.Arith.{read_low}

-- ---- `Holds` is met by four stores, and by nothing else

stored_holds : (l : List ℕ) (at x : ℕ) → at + 4 ≤ length l → Holds l (sets l at (low_first 4 x)) at x
stored_holds l at x h =
    record {
      inside = h;
      size = length-sets l at (low_first 4 x);
      field = λ i b. run_at (low_first 4 x) l at i (at + i) refl b h ∙ low_at 4 x i b;
      before = λ i b. run_before (low_first 4 x) l at i b;
      after = λ i b. run_after (low_first 4 x) l at i b;
    }

one_holds : {l a b : List ℕ} {at x : ℕ} → Holds l a at x → Holds l b at x → a ≡ b
one_holds {l} {a} {b} {at} p q = ext_get_or 0 a b (p.size ∙ sym q.size) (λ i _. by i (ltb i at) refl (ltb i (at + 4)) refl) where
  by : (i : ℕ) (c : Bool) → ltb i at ≡ c → (d : Bool) → ltb i (at + 4) ≡ d → get_or a i 0 ≡ get_or b i 0
  by i true e d f = let h = ltb-true i at e in p.before i h ∙ sym (q.before i h)
  by i false e true f =
      let g = ltb-false i at e in
      let h : i - at < 4 = omega (arith, ltb-true i (at + 4) f) in
      let k : at + (i - at) ≡ i = omega arith in
      subst (λ (j : ℕ). get_or a j 0 ≡ get_or b j 0) k (p.field (i - at) h ∙ sym (q.field (i - at) h))
  by i false e false f = let h = ltb-false i (at + 4) f in p.after i h ∙ sym (q.after i h)

-- the bytes that four stores leave there
part_of : (l : List ℕ) (at x : ℕ) → at + 4 ≤ length l → take 4 (drop at (sets l at (low_first 4 x))) ≡ low_first 4 x
part_of l at x h =
    rw (drop-sets (low_first 4 x) l at 0 at (sym (add-zero at)), sets-eq (low_first 4 x) (drop at l) 0 (omega (arith, length-drop at l)))
    (take-append_seam (low_first 4 x) (drop 4 (drop at l)))

-- ---- the value and its range

same_place : (t v p q : ℕ) (a : ℤ) → (t ≡ 2 → p ≡ q % 2 ^ 64) → relocated t v a p ≡ relocated t v a q
same_place t v p q a e = go (eqb t 2) refl where
  go : (b : Bool) → eqb t 2 ≡ b → relocated t v a p ≡ relocated t v a q
  go true k = rw (k, e (eqb-true t 2 k), mod-mod)
  go false k = rw k

relocated-lt : (t v p : ℕ) (a : ℤ) → relocated t v a p < 2 ^ 64
relocated-lt t v p a = cond_both (eqb t 2) _ _ (λ (n : ℕ). n < 2 ^ 64) (λ _. mod-lt _ (lit< tt)) (λ _. mod-lt _ (lit< tt))

-- what holds of the four types that are filled
pub of_four : (P : ℕ → Type 0) (t : ℕ) → P 2 → P 10 → P 11 → P 23 → fills t ≡ true → P t
of_four P t a b c d e =
    either (eqb t 2 || eqb t 10 || eqb t 11) (eqb t 23)
    (either (eqb t 2 || eqb t 10) (eqb t 11) (either (eqb t 2) (eqb t 10) (is P t 2 a) (is P t 10 b)) (is P t 11 c))
    (is P t 23 d) (subst T (sym e) tt)

known : (t : ℕ) → fills t ≡ true → unknown t ≡ false
unfolding lookup earlier_types later_types
known t = of_four (λ (t : ℕ). unknown t ≡ false) t refl refl refl refl

-- their range is that of four bytes with the type's sign
in_range_at : (x t : ℕ) → fills t ≡ true → in_range t (signed64 x) ≡ contains (byte_range 4 (field_sign t)) (signed64 x)
unfolding in_range lookup earlier_types later_types
in_range_at x t = of_four (λ (t : ℕ). in_range t (signed64 x) ≡ contains (byte_range 4 (field_sign t)) (signed64 x)) t refl refl refl refl

-- ---- an answer, by the tests that led to it

holds_true : (b : Bool) → T b → b ≡ true
holds_true true t = refl
holds_true false t = absurd t

module _ (l : Limit) (sec : List ℕ) (f : Field) where
  abbrev t : ℕ
  t = f.r_type

  abbrev at : ℕ
  at = f.offset

  abbrev stored : List ℕ
  stored = sets sec at (low_first 4 (field_value f))

  -- 15 and 16 alone tell of the field
  abbrev Tells : Refusal → Type 0
  Tells n = (n ≡ ValueOutOfRange → (fills t ≡ true) × (fits f ≡ false)) × (n ≡ FieldNotInside → length sec < at + 4)

  abbrev Says : Answer Fill → Type 0
  Says (Ok unfilled) = Unit {0}
  Says (Ok (filled new)) = ((fills t ≡ true) × (fits f ≡ true)) × (at + 4 ≤ length sec) × (stored ≡ new)
  Says (Err n) = too_long l sec ≡ false → Tells n

  says : Says (filling l sec f)
  unfolding filling
  says =
      cond_both (too_long l sec) _ _ Says (λ g e. never (cc)) λ _.
      cond_both (past sec at) _ _ Says (λ _ _. (λ q. never (cc), λ q. never (cc))) λ _.
      cond_both (unknown t) _ _ Says (λ _ _. (λ q. never (cc), λ q. never (cc))) λ _.
      cond_both (fills t) _ _ Says
      (λ k.
      cond_both (ltb (length sec) (at + 4)) _ _ Says (λ c _. (λ q. never (cc), λ _. ltb-true (length sec) (at + 4) c)) λ c.
      cond_both (fits f) _ _ Says (λ g. ((k, g), ltb-false (length sec) (at + 4) c, refl)) (λ g _. (λ _. (k, g), λ q. never (cc))))
      (λ _. tt)

  -- the value, where the section is loaded
  placed : (base : ℕ) → loaded_at f base → field_value f ≡ relocated t f.value f.addend (base + at)
  placed base p = same_place t f.value f.address (base + at) f.addend p

  leaves : (base : ℕ) → loaded_at f base → (new : List ℕ) → filling l sec f ≡ Ok (filled new) → FilledAt f base sec new
  leaves base p new e =
      let s = subst Says e says in
      let v = placed base p in
      rw (← s.2) (record { range = rw (← v) (subst T (sym s.0.1) tt); holds = rw (← v) (stored_holds sec at (field_value f) s.1) })

  -- the fact of the widths, at 4
  kept : fills t ≡ true → fits f ≡ eqb (read_back 4 (field_sign t) (field_value f % 2 ^ 32)) (field_value f)
  kept k = in_range_at (field_value f) t k ∙ (keeps four (field_sign t)).keeps (field_value f) (relocated-lt t f.value f.address f.addend)

  reads : (new : List ℕ) → filling l sec f ≡ Ok (filled new) → read_back 4 (field_sign t) (from_low (take 4 (drop at new))) ≡ field_value f
  reads new e =
      let s = subst Says e says in
      rw (← s.2, part_of sec at (field_value f) s.1, (low_part 4).reads (field_value f)) (eqb-true _ (field_value f) (sym (kept s.0.0) ∙ s.0.1))

  only : too_long l sec ≡ false → fills t ≡ true
      → (base : ℕ) → loaded_at f base → (new : List ℕ) → FilledAt f base sec new → filling l sec f ≡ Ok (filled new)
  unfolding filling
  only e k base p new h =
      let v = placed base p in
      let i = h.holds.inside in
      let r : fits f ≡ true = rw v (holds_true _ h.range) in
      let s : stored ≡ new = rw v (one_holds (stored_holds sec at _ i) h.holds) in
      rw (e, le-ltb (length sec) at (omega arith), known t k, k, le-ltb (length sec) (at + 4) i, r, s)

  tells : {n : Refusal} → too_long l sec ≡ false → filling l sec f ≡ Err n → Tells n
  tells e q = subst Says q says e

  wide : too_long l sec ≡ false → filling l sec f ≡ Err ValueOutOfRange → (b : ℕ) → b < 2 ^ 32 → read_back 4 (field_sign t) b ≡ field_value f → ⊥
  wide e q b h r =
      let x = field_value f in
      let p = (tells e q).0 refl in
      let low : x % 2 ^ 32 ≡ b = ap (λ (n : ℕ). n % 2 ^ 32) (sym r) ∙ read_low (field_sign t) b h in
      let k : fits f ≡ true = kept p.0 ∙ rw (low, r) (eq-eqb x x refl) in
      never (cc)

  pub exact : Fills l sec f
  exact =
      record {
        leaves = leaves;
        reads = reads;
        only = only;
        far = λ e q base p new h. let z = only e ((tells e q).0 refl).0 base p new h in never (cc);
        wide = wide;
        short = λ e q. (tells e q).1 refl;
      }
