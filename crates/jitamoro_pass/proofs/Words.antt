-- What a plain record does to a calm pass.
-- Assumes nothing.
use Rattle.std.specs.Prelude.{Some, Ok}
use Rattle.std.specs.Bool.{then_some}
use Rattle.std.proofs.lemmas.Bool.Decides.{nat_tests}
use mathlib.Core.Path.{◌≡◌, refl}
use mathlib.Core.Bool.{Bool, true, false}
use mathlib.Core.List.{List}
use Prim.Native.Nat.{ℕ}
use native.Mathlib.Omega.{arith}
use lib.Dec.{eqb, ltb}
use Rattle.rules.specs.declared.Relocation.{Relocation}
use Rattle.rules.specs.Record.{link_limit, is_s}
use Rattle.rules.specs.Rewrite.{Relaxed, claims, relaxing, after_relaxing}
use Rattle.relax.specs.Answers.{relaxed_of}
use Rattle.answers.specs.Layout.{relaxed_layout}
use Rattle.answers.specs.declared.RelaxedAnswer.{RelaxedAnswer}
use Rattle.pass.specs.declared.Pass.{Pass}
use Rattle.pass.specs.Pass.{took, stepping, checked, clearing, pass_left, bytes_after}
use Rattle.pass.specs.Answers.{step_of, step}
use Rattle.plain.specs.Plain.{is_plain, chosen_by}
use Rattle.plain.proofs.Numbers.{admitted, outcome, relaxes, settled}
use Rattle.jitamoro_pass.specs.declared.PassWords.{PassWords}
use Rattle.jitamoro_pass.specs.declared.StepAnswer.{StepAnswer}
use Rattle.jitamoro_pass.specs.Layout.{pass_of, words_left, step_layout, words_step}
use Rattle.jitamoro_pass.specs.Parts.{calm}

module _ (sec : List ℕ) (r : Relocation) (plain : is_plain sec r ≡ true) where
  -- what relaxing gives, by whether a kind is chosen
  abbrev outcome_by : Bool → Relaxed
  outcome_by c = outcome sec r plain c (eqb r.r_type 2) (is_s r.output_kind)

  -- a plain record's step is what relaxing gives
  pub plain_step : (p : Pass) → calm p r.offset ≡ true → stepping p sec r ≡ Ok (took (outcome_by (chosen_by r)))
  unfolding stepping checked clearing claims
  plain_step p q = rw (facts.0, admitted sec r plain, facts.2, facts.1, relaxes sec r plain) (clear (chosen_by r)) where
    facts : (p.ended ≡ false) × (p.skip ≡ false) × (ltb r.offset p.last ≡ false)
    facts = grind (arith, nat_tests)

    clear : (c : Bool) → clearing p r (Ok (outcome_by c)) ≡ Ok (took (outcome_by c))
    clear true = refl
    clear false = refl

  -- a step from words of which two are 0
  by : (c : Bool) (l n : ℕ)
      → let x = Ok (took (outcome_by c)) in
      let w : PassWords = record { last = l; window = n; pending = 0; ended = 0 } in
      ◌≡◌ {A = StepAnswer × PassWords × List ℕ}
      (record { skipped = 0; relaxed = relaxed_layout (relaxed_of (Ok (outcome_by c))) }, record w { last = r.offset }, sec)
      (step_layout (step_of x), words_left w (record { pass = pass_left (pass_of w) r x; step = step_of x }), bytes_after sec x)
  unfolding pass_left bytes_after after_relaxing claims
  by true l n = refl
  by false l n = refl

-- an answer that is settled is the step's, which sets the last offset alone and changes no byte
pub passes_by : (w : PassWords) (sec : List ℕ) (r : Relocation) (a : RelaxedAnswer) → calm (pass_of w) r.offset ≡ true
    → Some a ≡ then_some (is_plain sec r) (relaxed_layout (relaxed_of (relaxing link_limit sec r)))
    → ◌≡◌ {A = StepAnswer × PassWords × List ℕ} (record { skipped = 0; relaxed = a }, record w { last = r.offset }, sec) (words_step w sec r)
unfolding step
passes_by w sec r a q e =
    let z : (w.pending ≡ 0) × (w.ended ≡ 0) = grind (arith, nat_tests) in
    let k = settled _ _ a e in
    rw (k.1, plain_step sec r k.0 (pass_of w) q, z.0, z.1, relaxes sec r k.0) (by sec r k.0 (chosen_by r) w.last w.window)
