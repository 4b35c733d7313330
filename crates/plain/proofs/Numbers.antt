-- What a plain record's numbers settle is what relaxing gives: which flag numbers are chosen is computed over all of them, and the
-- types below 9 but 2 and 4 have no rule.
-- Assumes nothing.
use Rattle.std.specs.Prelude.{Some, Ok}
use Rattle.std.specs.Bool.{then_some}
use Rattle.std.proofs.lemmas.Bool.Decides.{nat_tests}
use mathlib.Core.Path.{◌≡◌, refl, ap}
use mathlib.Core.Bool.{Bool, true, false, not, cond, ◌&&◌, ◌||◌}
use mathlib.Core.List.{List}
use Prim.Native.Nat.{ℕ, ◌≤◌, ◌<◌, ◌+◌, ◌-◌}
use native.Mathlib.Omega.{arith}
use native.Mathlib.Nat.{sub-zero, add-zero}
use borrow.Author.Tests.{eqb-true, le-leb, le-ltb}
use lib.Dec.{eqb, leb, ltb}
use lib.IntN.{pos}
use lib.ListN.{length}
use Rattle.laws.proofs.Keys.{at_down}
use Rattle.x86_64_kind.specs.declared.RelaxationKind.TheVariants.{NoOp}
use Rattle.rules.specs.Range.{bit}
use Rattle.rules.specs.declared.Relocation.{Relocation}
use Rattle.rules.specs.Record.{link_limit, ifunc, is_n, is_s}
use Rattle.rules.specs.Types.{lookup, earlier_types}
use Rattle.rules.specs.Choose.{Choice, none, chosen, given, pick, choose, choosing, needs_fallback}
use Rattle.rules.specs.Rewrite.{Relaxed, unrelaxed, relaxed, claims, relax_chosen, relaxing, after_relaxing}
use Rattle.elf_x86_64_relaxation.specs.Choices.{choice_of}
use Rattle.relax.specs.Answers.{relaxed_of}
use Rattle.answers.specs.declared.RelaxedAnswer.{RelaxedAnswer}
use Rattle.answers.specs.Layout.{choice_layout, relaxed_layout}
use Rattle.plain.specs.Plain.{is_plain, chosen_by, settled_of}

-- the mask's bit of a flag number, by 01's letters: computed over the sixteen
abbrev set : ℕ → ℕ → Bool
set m f = eqb (bit m f) 1

ifuncs : (f : ℕ) → f < 16 → set 0xff00 f ≡ ifunc f
ifuncs = at_down (set 0xff00) ifunc 16 refl

calls : (f : ℕ) → f < 16 → set 0xaa f ≡ (not (ifunc f) && is_n f)
calls = at_down (set 0xaa) (λ f. not (ifunc f) && is_n f) 16 refl

nones : (f : ℕ) → f < 16 → set 0 f ≡ false
nones = at_down (set 0) (λ f. false) 16 refl

-- ---- what is chosen

differs : (t k : ℕ) → t < 9 → ltb k 9 ≡ false → eqb t k ≡ false
differs t k h g = grind (arith, nat_tests)

module _ (sec : List ℕ) (r : Relocation) (low : r.r_type < 9) (few : r.flags < 16) where
  abbrev t : ℕ
  t = r.r_type

  -- a kind, where it is chosen: NoOp to 4 for type 2, to 2 for type 4
  abbrev found : Bool → Choice
  found c = cond c (chosen NoOp (cond (eqb t 2) 4 2) (eqb t 2 || is_s r.output_kind)) none

  idle : (i x : Bool) → pick i none (given x none) ≡ none
  unfolding pick given
  idle true x = refl
  idle false true = refl
  idle false false = refl

  by_2 : t ≡ 2 → choose sec r ≡ found (chosen_by r)
  unfolding choose pick given
  by_2 e = rw (e, ifuncs r.flags few) (at (ifunc r.flags) r.executable)
    where
      at : (i x : Bool) → pick i (chosen NoOp 4 true) (given x none) ≡ cond i (chosen NoOp 4 true) none
      at true x = refl
      at false true = refl
      at false false = refl

  by_4 : t ≡ 4 → choose sec r ≡ found (chosen_by r)
  unfolding choose pick given
  by_4 e = rw e (at r.executable)
    where
      call : Choice
      call = chosen NoOp 2 (is_s r.output_kind)

      go : (i n : Bool) → pick i none (given n call) ≡ cond (not i && n) call none
      go true n = refl
      go false true = refl
      go false false = refl

      at : (x : Bool) → pick (ifunc r.flags) none (given x (given (is_n r.flags) call)) ≡ cond (set (cond x 0xaa 0) r.flags) call none
      at true = rw (calls r.flags few) (go (ifunc r.flags) (is_n r.flags))
      at false = rw (nones r.flags few) (idle (ifunc r.flags) true)

  others : eqb t 2 ≡ false → eqb t 4 ≡ false → choose sec r ≡ found (chosen_by r)
  unfolding choose pick given
  others e f =
      rw (e, f, differs t 42 low refl, differs t 43 low refl, differs t 41 low refl, differs t 9 low refl, differs t 22 low refl, differs t 44 low refl, differs t 50 low refl, differs t 31 low refl, differs t 19 low refl, differs t 20 low refl, differs t 34 low refl, differs t 45 low refl, differs t 35 low refl, nones r.flags few)
      (idle (ifunc r.flags) r.executable)

  chooses : choose sec r ≡ found (chosen_by r)
  chooses = two (eqb t 2) refl
    where
      four : (b : Bool) → eqb t 2 ≡ false → eqb t 4 ≡ b → choose sec r ≡ found (chosen_by r)
      four true n e = by_4 (eqb-true t 4 e)
      four false n e = others n e

      two : (b : Bool) → eqb t 2 ≡ b → choose sec r ≡ found (chosen_by r)
      two true e = by_2 (eqb-true t 2 e)
      two false e = four (eqb t 4) e refl

-- ---- a plain record

module _ (sec : List ℕ) (r : Relocation) (p : is_plain sec r ≡ true) where
  facts : (length sec ≤ link_limit.most) × (r.offset ≤ length sec) × (r.r_type < 9) × (r.flags ≤ 15) × (r.output_kind ≤ 5)
  facts = grind (arith, nat_tests)

  abbrev pub choice : Bool → Bool → Bool → Choice
  choice c two s = cond c (chosen NoOp (cond two 4 2) (two || s)) none

  pub admitted : choosing link_limit sec r ≡ Ok (choice (chosen_by r) (eqb r.r_type 2) (is_s r.output_kind))
  unfolding choosing
  admitted =
      let f = facts.3 in
      rw (le-ltb 268435456 _ facts.0, le-ltb _ _ facts.1, le-ltb 15 r.flags f, le-ltb 5 r.output_kind facts.4)
      (ap Ok (chooses sec r facts.2 (omega (arith, f))))

  abbrev answer : Bool → Bool → Bool → RelaxedAnswer
  answer c two s =
      record { choice = record { head = cond c (cond (two || s) 0x100090100 0x90100) 0; new_type = cond c (cond two 4 2) 0 }; offset = cond c r.offset 0; addend = cond c r.addend (pos 0) }

  -- what relaxing gives: no byte changes
  abbrev pub outcome : Bool → Bool → Bool → Relaxed
  outcome c two s = cond c (relaxed NoOp (cond two 4 2) (two || s) (record { bytes = sec; offset = r.offset; addend = r.addend })) unrelaxed

  pub relaxes : relaxing link_limit sec r ≡ Ok (outcome (chosen_by r) (eqb r.r_type 2) (is_s r.output_kind))
  unfolding relaxing relax_chosen claims
  relaxes = rw admitted (go (chosen_by r) (eqb r.r_type 2) (is_s r.output_kind))
    where
      low_end : leb 0 r.offset ≡ true
      low_end = le-leb 0 r.offset (omega arith)

      high_end : leb (r.offset - 0 + 0) (length sec) ≡ true
      high_end = le-leb (r.offset - 0 + 0) (length sec) (omega (arith, facts.1))

      go : (c two s : Bool) → relax_chosen sec r (Ok (choice c two s)) ≡ Ok (outcome c two s)
      go true two s = rw (low_end, high_end, sub-zero r.offset, add-zero r.offset)
      go false two s = refl

  -- the answer, that no byte changes, and the answer of choosing
  pub settles : (relaxed_layout (relaxed_of (relaxing link_limit sec r)) ≡ settled_of r) × (after_relaxing sec (relaxing link_limit sec r) ≡ sec) × (choice_layout (choice_of (choosing link_limit sec r)) ≡ (settled_of r).choice)
  unfolding after_relaxing needs_fallback lookup earlier_types
  settles = rw (relaxes, admitted) (at (chosen_by r) (eqb r.r_type 2) (is_s r.output_kind))
    where
      at : (c two s : Bool) → (relaxed_layout (relaxed_of (Ok (outcome c two s))) ≡ answer c two s) × (after_relaxing sec (Ok (outcome c two s)) ≡ sec) × (choice_layout (choice_of (Ok (choice c two s))) ≡ (answer c two s).choice)
      at true true s = (refl, refl, refl)
      at true false true = (refl, refl, refl)
      at true false false = (refl, refl, refl)
      at false two s = (refl, refl, refl)

-- ---- what a caller learns of an answer that is settled

pub settled : (b : Bool) (x a : RelaxedAnswer) → Some a ≡ then_some b x → (b ≡ true) × (a ≡ x)
settled true x a e = (refl, cc)
settled false x a e = cc

-- a record that passes every test is plain, and its numbers settle it
module _ (sec : List ℕ) (r : Relocation) (short : length sec ≤ 268435456) (inside : r.offset ≤ length sec) (low : r.r_type < 9) (few : r.flags ≤ 15) (known : r.output_kind ≤ 5) where
  plain : is_plain sec r ≡ true
  plain = grind (arith, nat_tests)

  pub settled_by : then_some (is_plain sec r) (relaxed_layout (relaxed_of (relaxing link_limit sec r))) ≡ Some (settled_of r)
  settled_by = rw (plain, (settles sec r plain).0)

  pub kept_by : after_relaxing sec (relaxing link_limit sec r) ≡ sec
  kept_by = (settles sec r plain).1

  pub choice_by : choice_layout (choice_of (choosing link_limit sec r)) ≡ (settled_of r).choice
  choice_by = (settles sec r plain).2
