-- Filled in the layout is filled in the answer.
use Rattle.std.specs.Prelude.{◌≡◌, Bool, true, Result, Ok, Err}
use Rattle.std.proofs.Common.{to_z-of_z, w64, SFits, rules}
use Rattle.laws.proofs.Bools.{never}
use Rattle.refusal.specs.declared.Refusal.{Refusal}
use Rattle.jitamoro_fill.specs.Layout.{filled_layout}
use Rattle.jitamoro_fill.proofs.jitamoro_fill.Goals as goal

told : (x : Result Bool Refusal) → (filled_layout x).filled ≡ true → x ≡ Ok true
told (Ok b) e = cc
told (Err n) e = never (cc)

pub returns-clause-leaves : goal.returns-clause-leaves
returns-clause-leaves c base p q =
    let s : SFits w64 c.args.addend = search rules in
    let l = rw (to_z-of_z {w = w64} s) at c.fill.ensures.leaves in
    l base p (told c.fill.result (rw c.from.ensures at q))
