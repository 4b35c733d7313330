-- What rewriting answered, with the choice, is relaxing's answer.
-- Assumes nothing.
use Rattle.std.proofs.Common.{rules, ap, w64, ◌≡◌, ◌∙◌, Err}
use Rattle.std.proofs.lemmas.Int.{to_z-of_z}
use mir.Val.{SFits}
use Rattle.relax.specs.Answers.{finished}
use Rattle.relax.proofs.Relaxing.{closes}
use Rattle.relax.proofs.finish.Goals as goal

pub returns-in_err-moved-clause-relaxes : goal.returns-in_err-moved-clause-relaxes
returns-in_err-moved-clause-relaxes c =
    let a = c.args in
    let s : SFits w64 a.rel.addend = search rules in
    let v = rw (to_z-of_z w64 _ s) at c.in_err-moved.ensures.value in
    let e : c.from_residual.result ≡ Err c.in_err-moved.field-0.0 = search rules in
    let b = rw (to_z-of_z w64 _ s) at c.in_err-moved.ensures.section_bytes_after in
    (closes a.section_bytes.now a.rel a.relaxation (e ∙ ap (finished a.relaxation) v) b).1.1

pub returns-clause-relaxes : goal.returns-clause-relaxes
returns-clause-relaxes c =
    let a = c.args in
    let s : SFits w64 a.rel.addend = search rules in
    let v = rw (to_z-of_z w64 _ s) at c.in_ok-moved.ensures.value in
    let b = rw (to_z-of_z w64 _ s) at c.in_ok-moved.ensures.section_bytes_after in
    (closes a.section_bytes.now a.rel a.relaxation (ap (finished a.relaxation) v) b).1.1
