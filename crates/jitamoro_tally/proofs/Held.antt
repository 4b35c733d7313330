-- The words that a step or an ending leaves are the pass that it leaves.
-- Assumes nothing.
use Rattle.std.specs.Prelude.{Ok, Err}
use mathlib.Core.Path.{◌≡◌, refl}
use mathlib.Core.Bool.{Bool, true, false}
use Rattle.rules.specs.Answer.{Answer}
use Rattle.rules.specs.declared.Relocation.{Relocation}
use Rattle.pass.specs.declared.Pass.{Pass}
use Rattle.pass.specs.Pass.{Accepted, stepping, pass_left, ending, ended_pass}
use Rattle.pass.specs.Answers.{step_of, step}
use Rattle.jitamoro_pass.specs.declared.PassWords.{PassWords}
use Rattle.jitamoro_pass.specs.Layout.{pass_of, words_of, words_left, words_ended}
use Rattle.jitamoro_tally.specs.Held.{Held}

read_back : (p : Pass) → pass_of (words_of p) ≡ p
read_back p = by p.skip p.ended where
  by : (s e : Bool) → let q : Pass = record p { skip = s; ended = e } in pass_of (words_of q) ≡ q
  by true true = refl
  by true false = refl
  by false true = refl
  by false false = refl

after : (w : PassWords) (r : Relocation) (x : Answer Accepted)
    → let q = pass_left (pass_of w) r x in pass_of (words_left w (record { pass = q; step = step_of x })) ≡ q
unfolding pass_left
after w r (Err n) = refl
after w r (Ok x) = read_back _

ends : (w : PassWords) (x : Answer Unit) → pass_of (words_ended w x) ≡ ended_pass (pass_of w) x
ends w (Ok u) = refl
ends w (Err n) = refl

pub held : Held
unfolding step
held = record { steps = λ w sec r. after w r (stepping (pass_of w) sec r); ends = λ w. ends w (ending (pass_of w)) }
