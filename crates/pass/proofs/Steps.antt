-- What `accept` returns at each of its ends is the step that the rules have, and so is the section there.
-- Assumes nothing.
use Rattle.std.specs.Prelude.{Option, Some, None, Result, Ok, Err}
use mathlib.Core.Path.{◌≡◌, refl, sym, ap, subst, ◌∙◌}
use mathlib.Core.Bool.{Bool, true, false}
use mathlib.Core.List.{List}
use Prim.Native.Nat.{ℕ}
use lib.Dec.{ltb}
use lib.ListN.{length}
use Rattle.x86_64_kind.specs.declared.Window.{Window}
use Rattle.x86_64_kind.specs.Kinds.{begin, is_empty, inside, skips}
use Rattle.rules.specs.declared.Relocation.{Relocation}
use Rattle.rules.specs.Answer.{Answer}
use Rattle.refusal.specs.declared.Refusal.{Refusal}
use Rattle.refusal.specs.declared.Refusal.TheVariants.{OffsetBelowLast, PassEnded}
use Rattle.rules.specs.Record.{link_limit}
use Rattle.rules.specs.Choose.{none, chosen, choosing}
use Rattle.rules.specs.Rewrite.{claims, relax_chosen, relaxing, after_relaxing}
use Rattle.elf_x86_64_relaxation.specs.declared.Relaxation.{Relaxation}
use Rattle.elf_x86_64_relaxation.specs.Choices.{choice_of}
use Rattle.relax.specs.declared.Relaxed.{Relaxed}
use Rattle.relax.specs.Answers.{relaxed_of, done, Relaxes}
use Rattle.pass.specs.declared.Pass.{Pass}
use Rattle.pass.specs.declared.Step.{Step}
use Rattle.pass.specs.declared.Step.TheVariants.{Took, Skipped}
use Rattle.pass.specs.Pass.{Accepted, passed, cleared, pending, is_type0, checked, clearing, stepping, pass_left, bytes_after}
use Rattle.pass.specs.Answers.{Taken, taken, step_of, step, placed, accepting}
use Rattle.rules.specs.Choose as rules

-- the rules' choice, by the code's
chosen_of : Result (Option Relaxation) Refusal → Answer rules.Choice
chosen_of (Ok None) = Ok none
chosen_of (Ok (Some x)) = Ok (chosen x.kind x.new_type x.mandatory)
chosen_of (Err n) = Err n

by_code : (a : Answer rules.Choice) → a ≡ chosen_of (choice_of a)
unfolding chosen_of
by_code (Ok none) = refl
by_code (Ok (chosen k t m)) = refl
by_code (Err n) = refl

module _ (p : Pass) (sec : List ℕ) (r : Relocation) where
  -- the clause of `accept`
  abbrev pub Holds : Answer (Pass × Step) → List ℕ → Type 0
  Holds a new = (a, new) ≡ accepting p sec r (stepping p sec r)

  pub by_ended : p.ended ≡ true → Holds (Err PassEnded) sec
  unfolding stepping bytes_after
  by_ended h = rw h

  chosen_is : (c : Result (Option Relaxation) Refusal) → c ≡ choice_of (choosing link_limit sec r) → choosing link_limit sec r ≡ chosen_of c
  chosen_is c e = by_code (choosing link_limit sec r) ∙ ap chosen_of (sym e)

  pub by_refusal : (n : Refusal) → p.ended ≡ false → Err n ≡ choice_of (choosing link_limit sec r) → Holds (Err n) sec
  unfolding stepping checked bytes_after chosen_of
  by_refusal n h e = rw (h, chosen_is (Err n) e)

  module _ (c : Option Relaxation) (h : p.ended ≡ false) (e : Ok c ≡ choice_of (choosing link_limit sec r)) where
    checks : (s : Answer Accepted) → checked (choosing link_limit sec r) s ≡ s
    unfolding checked chosen_of
    checks s = rw (chosen_is (Ok c) e) (by c) where
      by : (c : Option Relaxation) → checked (chosen_of (Ok c)) s ≡ s
      by None = refl
      by (Some x) = refl

    pub by_offset : ltb r.offset p.last ≡ true → Holds (Err OffsetBelowLast) sec
    unfolding stepping bytes_after
    by_offset l = rw (h, checks, l)

    pub by_type0 : ltb r.offset p.last ≡ false → p.skip ≡ true → is_type0 r ≡ true → Holds (Ok (passed r p, Took None)) sec
    unfolding stepping pass_left bytes_after after_relaxing
    by_type0 l s z = rw (h, checks, l, s, z)

    pub by_skip : ltb r.offset p.last ≡ false → p.skip ≡ true → is_type0 r ≡ false → Holds (Ok (pending false (passed r p), Skipped)) sec
    unfolding stepping pass_left bytes_after
    by_skip l s z = rw (h, checks, l, s, z)

  pub by_none : p.ended ≡ false → Ok None ≡ choice_of (choosing link_limit sec r) → ltb r.offset p.last ≡ false → p.skip ≡ false → Holds (Ok (passed r p, Took None)) sec
  unfolding stepping checked clearing relaxing relax_chosen pass_left bytes_after after_relaxing chosen_of
  by_none h e l s = rw (h, chosen_is (Ok None) e, l, s)

  -- ---- a choice that is to be carried out

  module _
      (x : Relaxation) (e : Ok (Some x) ≡ choice_of (choosing link_limit sec r)) (h : p.ended ≡ false) (l : ltb r.offset p.last ≡ false)
      (s : p.skip ≡ false)
    where
      steps_is : stepping p sec r ≡ clearing p r (relaxing link_limit sec r)
      unfolding stepping checked chosen_of
      steps_is = rw (h, chosen_is (Ok (Some x)) e, l, s)

      relaxing_is : relaxing link_limit sec r ≡ relax_chosen sec r (Ok (chosen x.kind x.new_type x.mandatory))
      unfolding relaxing chosen_of
      relaxing_is = rw (chosen_is (Ok (Some x)) e)

      -- the pass and the step by relaxing's answer, where the window's end is known
      abbrev closing : ℕ → Bool → Result (Option Relaxed) Refusal → Answer (Pass × Step)
      closing w k (Ok (Some y)) = Ok (pending k (cleared w (passed r p)), Took (Some y))
      closing w k (Ok None) = Ok (passed r p, Took None)
      closing w k (Err n) = Err n

      abbrev window : Window
      window = claims x.kind x.new_type

      -- `placed` and relaxing together give the step
      abbrev Goes : Answer ℕ → Type 0
      Goes (Ok w) =
          (closing w (skips x.kind) (relaxed_of (relaxing link_limit sec r)), after_relaxing sec (relaxing link_limit sec r))
          ≡ accepting p sec r (stepping p sec r)
      Goes (Err n) = Holds (Err n) sec

      goes :
          (fit empty before : Bool) → inside window (length sec) r.offset ≡ fit → is_empty window ≡ empty → ltb (begin window r.offset) p.window ≡ before
          → Goes (placed p x (length sec) r.offset)
      unfolding clearing relax_chosen pass_left bytes_after after_relaxing
      goes false empty before f m b = rw (f, steps_is, relaxing_is, f)
      goes true true before f m b = rw (f, m, steps_is, relaxing_is, f, m, m)
      goes true false true f m b = rw (f, m, b, steps_is, relaxing_is, f, m, b)
      goes true false false f m b = rw (f, m, b, steps_is, relaxing_is, f, m, b, m)

      pub by_overlap : (n : Refusal) → Err n ≡ placed p x (length sec) r.offset → Holds (Err n) sec
      by_overlap n q = subst Goes (sym q) (goes _ _ _ refl refl refl)

      pub by_relaxing :
          (w : ℕ) → Ok w ≡ placed p x (length sec) r.offset → (k : Bool) → k ≡ skips x.kind → {a : Result Relaxed Refusal} {new : List ℕ} → Relaxes sec r a new
          → Holds (closing w k (done a)) new
      by_relaxing w q k b g = rw (g.answer, g.bytes, b) (subst Goes (sym q) (goes _ _ _ refl refl refl))

  -- ---- `step`, by what `accept` returns

  taken_of : Answer (Pass × Step) × List ℕ → Taken
  taken_of (Ok (q, s), new) = taken (record { pass = q; step = Ok s }) new
  taken_of (Err n, new) = taken (record { pass = p; step = Err n }) new

  takes : (a : Answer Accepted) → taken_of (accepting p sec r a) ≡ taken (record { pass = pass_left p r a; step = step_of a }) (bytes_after sec a)
  unfolding taken_of pass_left
  takes (Ok a) = refl
  takes (Err n) = refl

  pub by_accepted : (q : Pass) (s : Step) (new : List ℕ) → Holds (Ok (q, s)) new → taken (record { pass = q; step = Ok s }) new ≡ step p sec r
  unfolding taken_of step
  by_accepted q s new e = ap taken_of e ∙ takes (stepping p sec r)

  pub by_refused : (n : Refusal) (new : List ℕ) → Holds (Err n) new → taken (record { pass = p; step = Err n }) new ≡ step p sec r
  unfolding taken_of step
  by_refused n new e = ap taken_of e ∙ takes (stepping p sec r)
