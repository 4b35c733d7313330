-- A plain record that is settled is counted as its step.
use Rattle.std.proofs.Common.{◌∙◌, w64}
use Rattle.std.proofs.lemmas.Int.{to_z-of_z}
use mir.Val.{SFits}
use Rattle.jitamoro_tally.proofs.Counts.{counted_plain}
use Rattle.jitamoro_tally.proofs.jitamoro_tally_step.Goals as goal

pub returns-in-Some-clause-tally_after : goal.returns-in-Some-clause-tally_after
returns-in-Some-clause-tally_after c =
    let s : SFits w64 c.args.addend = c.ranges.addend in
    let e = rw (to_z-of_z w64 _ s) at c.in-Some.ensures.value in
    c.count_no_op.ensures ∙ rw c.is_none.ensures (counted_plain _ _ _ _ e c.args.tally.now.figures)
