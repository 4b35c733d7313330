-- What follows of what choosing answered: refusals and none are relaxing's own, and a choice goes through rewriting.
-- Assumes nothing.
use Rattle.std.specs.Prelude.{Option, Some, None, Result, Ok, Err}
use mathlib.Core.Path.{◌≡◌, refl, ap, ◌∙◌}
use mathlib.Core.List.{List}
use Prim.Native.Nat.{ℕ}
use Rattle.rules.specs.declared.Relocation.{Relocation}
use Rattle.rules.specs.Answer.{Answer}
use Rattle.rules.specs.Record.{link_limit}
use Rattle.rules.specs.Choose.{none, chosen, choosing}
use Rattle.rules.specs.Rewrite.{Rewritten, rewriting, after_rewriting, relax_chosen, relaxing, after_relaxing}
use Rattle.rules.specs.Meaning.{SameMeaning}
use Rattle.rules.proofs.Chosen.{then, relaxes}
use Rattle.rules.proofs.Theorem.{same_meaning_of}
use Rattle.elf_x86_64_relaxation.specs.declared.Relaxation.{Relaxation}
use Rattle.refusal.specs.declared.Refusal.{Refusal}
use Rattle.elf_x86_64_relaxation.specs.Choices.{choice_of}
use Rattle.x86_64_apply.specs.Apply.{applied_of}
use Rattle.relax.specs.declared.Relaxed.{Relaxed}
use Rattle.relax.specs.Answers.{relaxed_of, finished, done, Relaxes}
use Rattle.rules.specs.Choose as rules

module _ (sec : List ℕ) (r : Relocation) where
  -- the three clauses of `relax`, of an answer and the section that it leaves
  abbrev Does : Result (Option Relaxed) Refusal → List ℕ → Type 0
  Does x new = (x ≡ relaxed_of (relaxing link_limit sec r)) × ((new ≡ after_relaxing sec (relaxing link_limit sec r)) × SameMeaning sec)

  abbrev rewrites : Relaxation → Answer Rewritten
  rewrites x = rewriting link_limit x.kind sec r.offset r.addend

  abbrev pub Follows : Result (Option Relaxation) Refusal → Type 0
  Follows (Err n) = Does (Err n) sec
  Follows (Ok None) = Does (Ok None) sec
  Follows (Ok (Some x)) = Does (done (finished x (applied_of (rewrites x)))) (after_rewriting sec (rewrites x))

  follows : (a : Answer rules.Choice) → choosing link_limit sec r ≡ a → Follows (choice_of a)
  unfolding relaxing relax_chosen after_relaxing after_rewriting
  follows (Err n) e = rw e (refl, (refl, same_meaning_of sec))
  follows (Ok none) e = rw e (refl, (refl, same_meaning_of sec))
  follows (Ok (chosen k t m)) e = rw (relaxes link_limit sec r k t m e) (by (rewriting link_limit k sec r.offset r.addend)) where
    by : (a : Answer Rewritten) → (done (finished (record { kind = k; new_type = t; mandatory = m }) (applied_of a)) ≡ relaxed_of (then k t m a)) × ((after_rewriting sec a ≡ after_relaxing sec (then k t m a)) × SameMeaning sec)
    by (Ok x) = (refl, (refl, same_meaning_of sec))
    by (Err n) = (refl, (refl, same_meaning_of sec))

  pub by_choice : (c : Result (Option Relaxation) Refusal) → c ≡ choice_of (choosing link_limit sec r) → Follows c
  by_choice c e = rw e (follows (choosing link_limit sec r) refl)

  pub of_refusal : (n : Refusal) → Err n ≡ choice_of (choosing link_limit sec r)
      → (Err n ≡ relaxed_of (relaxing link_limit sec r)) × (sec ≡ after_relaxing sec (relaxing link_limit sec r))
  of_refusal n e = let d = by_choice (Err n) e in (d.0, d.1.0)

  pub of_none : Ok None ≡ choice_of (choosing link_limit sec r)
      → (Ok None ≡ relaxed_of (relaxing link_limit sec r)) × (sec ≡ after_relaxing sec (relaxing link_limit sec r))
  of_none e = let d = by_choice (Ok None) e in (d.0, d.1.0)

  -- the three clauses of `finish`
  pub closes : (x : Relaxation) {a : Result Relaxed Refusal} {new : List ℕ} → a ≡ finished x (applied_of (rewrites x)) → new ≡ after_rewriting sec (rewrites x)
      → (a ≡ finished x (applied_of (rewrites x))) × ((new ≡ after_rewriting sec (rewrites x)) × (Ok (Some x) ≡ choice_of (choosing link_limit sec r) → Relaxes sec r a new))
  closes x e f = (e, (f, λ h. let d = by_choice (Ok (Some x)) h in record { answer = ap done e ∙ d.0; bytes = f ∙ d.1.0 }))
