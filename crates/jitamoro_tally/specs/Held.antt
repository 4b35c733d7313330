-- A walk by the exported functions is the pass's own: what a step or an ending leaves in the caller's words reads back as the pass that it
-- leaves. Assumes nothing.
use Rattle.std.specs.Prelude.{◌≡◌, List, ℕ}
use Rattle.rules.specs.declared.Relocation.{Relocation}
use Rattle.pass.specs.Pass.{ending, ended_pass}
use Rattle.pass.specs.Answers.{step}
use Rattle.jitamoro_pass.specs.declared.PassWords.{PassWords}
use Rattle.jitamoro_pass.specs.Layout.{pass_of, words_left, words_ended}

pub record Held : Type 0 where
  pub steps : (w : PassWords) (sec : List ℕ) (r : Relocation) → pass_of (words_left w (step (pass_of w) sec r).stepped) ≡ (step (pass_of w) sec r).stepped.pass
  pub ends : (w : PassWords) → let p = pass_of w in pass_of (words_ended w (ending p)) ≡ ended_pass p (ending p)
