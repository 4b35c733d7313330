-- What an answer of a step says, walked forward through the step order: of an accepted record that the pass hasn't ended, the offset hasn't
-- fallen, and whether a skip is pending; a relaxed one is as relaxing one record has it, its window lies inside and begins at or after the
-- last window's end.
-- Assumes nothing.
use Rattle.std.specs.Prelude.{Ok, Err}
use mathlib.Core.Path.{◌≡◌, refl, sym, subst, ◌∙◌}
use mathlib.Core.Bool.{Bool, true, false, cond, false≢true}
use mathlib.Core.List.{List}
use Prim.Native.Nat.{ℕ}
use lib.Dec.{ltb}
use lib.ListN.{length}
use Rattle.rules.specs.Answer.{Answer}
use Rattle.refusal.specs.declared.Refusal.{Refusal}
use Rattle.refusal.specs.declared.Refusal.TheVariants.{WindowNotInside, PassEnded, OffsetBelowLast, WindowOverlap}
use Rattle.x86_64_kind.specs.declared.RelaxationKind.{RelaxationKind}
use Rattle.x86_64_kind.specs.Kinds.{inside}
use Rattle.rules.specs.declared.Relocation.{Relocation}
use Rattle.rules.specs.Record.{link_limit}
use Rattle.rules.specs.Choose.{Choice, none, chosen, choosing}
use Rattle.rules.specs.Rewrite.{Rewritten, Relaxed, unrelaxed, relaxed, rewrite, claims, relax_chosen, relaxing}
use Rattle.pass.specs.declared.Pass.{Pass}
use Rattle.pass.specs.Pass.{is_pending, is_type0, passing, Accepted, took, skipped, overlaps, checked, clearing, stepping}

-- ---- relaxing one record: the window lies inside, and the bytes are rewriting's

abbrev Rewrites : List ℕ → Relocation → Answer Relaxed → Type 0
Rewrites sec r (Err n) = Unit {0}
Rewrites sec r (Ok unrelaxed) = Unit {0}
Rewrites sec r (Ok (relaxed k t m x)) = (inside (claims k t) (length sec) r.offset ≡ true) × (x ≡ rewrite k sec r.offset r.addend)

by_window : (sec : List ℕ) (r : Relocation) (k : RelaxationKind) (t : ℕ) (m b : Bool) → inside (claims k t) (length sec) r.offset ≡ b
    → Rewrites sec r (cond b (Ok (relaxed k t m (rewrite k sec r.offset r.addend))) (Err WindowNotInside))
by_window sec r k t m true e = (e, refl)
by_window sec r k t m false e = tt

by_choice : (sec : List ℕ) (r : Relocation) (c : Answer Choice) → Rewrites sec r (relax_chosen sec r c)
unfolding relax_chosen
by_choice sec r (Err n) = tt
by_choice sec r (Ok none) = tt
by_choice sec r (Ok (chosen k t m)) = by_window sec r k t m (inside (claims k t) (length sec) r.offset) refl

pub relaxing_rewrites :
    (sec : List ℕ) (r : Relocation) (k : RelaxationKind) (t : ℕ) (m : Bool) (x : Rewritten)
    → relaxing link_limit sec r ≡ Ok (relaxed k t m x)
    → (inside (claims k t) (length sec) r.offset ≡ true) × (x ≡ rewrite k sec r.offset r.addend)
unfolding relaxing
relaxing_rewrites sec r k t m x e = subst (Rewrites sec r) e (by_choice sec r (choosing link_limit sec r))

-- ---- a step

module _ (p : Pass) (sec : List ℕ) (r : Relocation) where
  abbrev Says : Accepted → Type 0
  Says skipped = (is_pending p ≡ true) × (is_type0 r ≡ false)
  Says (took unrelaxed) = is_pending p ≡ true → is_type0 r ≡ true
  Says (took (relaxed k t m x)) = (is_pending p ≡ false) × (relaxing link_limit sec r ≡ Ok (relaxed k t m x)) × (overlaps p (claims k t) r.offset ≡ false)

  abbrev pub Sound : Answer Accepted → Type 0
  Sound (Err n) = Unit {0}
  Sound (Ok a) = (p.ended ≡ false) × (ltb r.offset p.last ≡ false) × Says a

  test : (b : Bool) (n : Refusal) (a : Answer Accepted) → (b ≡ false → Sound a) → Sound (cond b (Err n) a)
  test true n a h = tt
  test false n a h = h refl

  by_checked : (c : Answer Choice) (a : Answer Accepted) → Sound a → Sound (checked c a)
  unfolding checked
  by_checked (Err n) a h = tt
  by_checked (Ok c) a h = h

  module _ (e : p.ended ≡ false) (h : ltb r.offset p.last ≡ false) where
    by_type_at : (b : Bool) → is_pending p ≡ true → is_type0 r ≡ b → Sound (cond b (Ok (took unrelaxed)) (Ok skipped))
    by_type_at true q z = (e, h, λ _. z)
    by_type_at false q z = (e, h, (q, z))

    clear : (k : RelaxationKind) (t : ℕ) (m : Bool) (x : Rewritten) (b : Bool) → overlaps p (claims k t) r.offset ≡ b → is_pending p ≡ false → relaxing link_limit sec r ≡ Ok (relaxed k t m x) → Sound (cond b (Err WindowOverlap) (Ok (took (relaxed k t m x))))
    clear k t m x true o q g = tt
    clear k t m x false o q g = (e, h, (q, g, o))

    by_clearing : (a : Answer Relaxed) → relaxing link_limit sec r ≡ a → is_pending p ≡ false → Sound (clearing p r a)
    unfolding clearing
    by_clearing (Err n) g q = tt
    by_clearing (Ok unrelaxed) g q = (e, h, λ s. absurd (false≢true (sym q ∙ s)))
    by_clearing (Ok (relaxed k t m x)) g q = clear k t m x (overlaps p (claims k t) r.offset) refl q g

    by_skip : (b : Bool) → is_pending p ≡ b → Sound (cond b (passing r) (clearing p r (relaxing link_limit sec r)))
    by_skip true q = by_type_at (is_type0 r) q refl
    by_skip false q = by_clearing (relaxing link_limit sec r) refl q

  pub step_sound : Sound (stepping p sec r)
  unfolding stepping
  step_sound =
      test p.ended PassEnded _
      (λ e. by_checked (choosing link_limit sec r) _
      (test (ltb r.offset p.last) OffsetBelowLast _
      (λ h. by_skip e h (is_pending p) refl)))
