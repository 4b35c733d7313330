-- A pass as the caller holds it, in four words, and what a step and an ending answer. Assumes nothing.
use Rattle.std.specs.Prelude.{not, List, ℕ, eqb, None, Result, Ok, Err}
use Rattle.refusal.specs.declared.Refusal.{Refusal}
use Rattle.rules.specs.Answer.{Answer, flag}
use Rattle.pass.specs.declared.Pass.{Pass}
use Rattle.pass.specs.declared.Step.{Step}
use Rattle.pass.specs.declared.Step.TheVariants.{Took, Skipped}
use Rattle.pass.specs.declared.Stepped.{Stepped}
use Rattle.rules.specs.declared.Relocation.{Relocation}
use Rattle.pass.specs.Answers.{step}
use Rattle.answers.specs.Layout.{relaxed_layout}
use Rattle.jitamoro_pass.specs.declared.PassWords.{PassWords}
use Rattle.jitamoro_pass.specs.declared.StepAnswer.{StepAnswer}

-- any words are a pass: a skip is pending, and the pass has ended, where their words are not 0
abbrev pub pass_of : PassWords → Pass
pass_of w = record { last = w.last; window = w.window; skip = not (eqb w.pending 0); ended = not (eqb w.ended 0) }

-- a pass's words, all four
abbrev pub words_of : Pass → PassWords
words_of p = record { last = p.last; window = p.window; pending = flag p.skip; ended = flag p.ended }

-- the words after a step: a refusal leaves them
abbrev pub words_left : PassWords → Stepped → PassWords
words_left w s = after s.step where
  after : Result Step Refusal → PassWords
  after (Ok x) = words_of s.pass
  after (Err e) = w

abbrev pub step_layout : Result Step Refusal → StepAnswer
step_layout (Ok (Took x)) = record { skipped = 0; relaxed = relaxed_layout (Ok x) }
step_layout (Ok Skipped) = record { skipped = 1; relaxed = relaxed_layout (Ok None) }
step_layout (Err e) = record { skipped = 0; relaxed = relaxed_layout (Err e) }

-- a record's step on the caller's words: its answer, the words then, and the section then
abbrev pub words_step : PassWords → List ℕ → Relocation → StepAnswer × PassWords × List ℕ
words_step w sec r =
    let t = step (pass_of w) sec r in
    (step_layout t.stepped.step, words_left w t.stepped, t.section)

-- the words after an ending: a granted one only sets ended
abbrev pub words_ended : PassWords → Answer Unit → PassWords
words_ended w (Ok u) = record w { ended = 1 }
words_ended w (Err e) = w
