-- The worked walk holds of the definitions: antt computes each claim. Assumes nothing.
use mathlib.Core.Path.{refl}
use mathlib.Core.Logic.{inl, inr}
use native.Mathlib.Omega.{arith}
use Rattle.rules.proofs.OnLiterals.{relaxing_on_literals}
use Rattle.pass.specs.Pass.{checked, clearing, stepping, pass_left, bytes_after}
use Rattle.pass.specs.Worked.{WalkWorked}

pub worked : WalkWorked
unfolding relaxing_on_literals checked clearing stepping pass_left bytes_after
worked =
    record {
      told_all = refl;
      ends_at = refl;
      holds = refl;
      outside = (inr (omega arith), (inl (omega arith), (inl (omega arith), (inl (omega arith), tt))));
      alone = refl;
      begun = refl;
      stands_between = refl;
      waiting = refl;
      met = refl;
      pending = refl;
      pending_kept = refl;
      granted = refl;
      ended = refl;
      over = refl;
      over_step = refl;
    }
