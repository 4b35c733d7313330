-- The worked walk's figures are computed.
-- Assumes nothing.
use Rattle.std.proofs.Common.{refl}
use Rattle.rules.proofs.OnLiterals.{relaxing_on_literals}
use Rattle.pass.specs.Pass.{checked, clearing, stepping, pass_left, bytes_after}
use Rattle.tally.specs.Tally.{tallied, share}
use Rattle.tally.specs.Worked.{TallyWorked}

pub worked : TallyWorked
unfolding relaxing_on_literals checked clearing stepping pass_left bytes_after tallied share
worked = record { told_all = refl; figures = refl; wraps = refl; places = refl; bytes = refl }
