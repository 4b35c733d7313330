-- A plain record is counted as its step: NoOp, or none where its answer is none's.
-- Assumes nothing.
use Rattle.std.specs.Prelude.{Some, Ok, if◌then◌else◌}
use Rattle.std.specs.Bool.{then_some}
use mathlib.Core.Path.{◌≡◌, refl, ◌∙◌}
use mathlib.Core.Bool.{Bool, true, false, not, cond, ◌||◌, ◌&&◌}
use mathlib.Core.List.{List}
use Prim.Native.Nat.{ℕ}
use lib.Dec.{eqb}
use Rattle.std.proofs.lemmas.Bool.{and_parts}
use Rattle.rules.specs.declared.Relocation.{Relocation}
use Rattle.rules.specs.Record.{link_limit, is_s}
use Rattle.rules.specs.Rewrite.{claims, relaxing}
use Rattle.relax.specs.Answers.{relaxed_of}
use Rattle.answers.specs.declared.RelaxedAnswer.{RelaxedAnswer}
use Rattle.answers.specs.Layout.{relaxed_layout, is_none}
use Rattle.pass.specs.declared.Pass.{Pass}
use Rattle.pass.specs.Pass.{took}
use Rattle.pass.specs.Answers.{step_of, step}
use Rattle.plain.specs.Plain.{is_plain, chosen_by}
use Rattle.plain.proofs.Numbers.{outcome, settles, settled}
use Rattle.jitamoro_pass.specs.Parts.{calm}
use Rattle.jitamoro_pass.proofs.Words.{plain_step}
use Rattle.tally.specs.Tally.{none_at, counted, tallied}

module _ (p : Pass) (sec : List ℕ) (r : Relocation) (a : RelaxedAnswer) (e : Some a ≡ then_some (calm p r.offset && is_plain sec r) (relaxed_layout (relaxed_of (relaxing link_limit sec r)))) (t : List ℕ) where
  by : (plain : is_plain sec r ≡ true) (c m : Bool)
      → counted (if not (eqb (cond c (cond m 0x100090100 0x90100) 0) 0) then 9 else none_at) 0 t
      ≡ tallied t (step_of (Ok (took (outcome sec r plain c (eqb r.r_type 2) (is_s r.output_kind)))))
  unfolding tallied claims
  by plain true true = refl
  by plain true false = refl
  by plain false m = refl

  pub counted_plain : counted (if not (is_none a.choice) then 9 else none_at) 0 t ≡ tallied t (step p sec r).stepped.step
  unfolding step
  counted_plain =
      let k = settled (calm p r.offset && is_plain sec r) _ a e in
      let b = and_parts (calm p r.offset) (is_plain sec r) k.0 in
      rw (k.1 ∙ (settles sec r b.1).0, plain_step sec r b.1 p b.0) (by b.1 (chosen_by r) (eqb r.r_type 2 || is_s r.output_kind))
