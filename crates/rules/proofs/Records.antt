-- Document 01's worked records hold of the definitions: antt computes each. Assumes nothing.
use mathlib.Core.Path.{refl}
use Rattle.rules.specs.Range.{byte_range, signed64}
use Rattle.rules.specs.Types.{earlier_types, later_types, lookup}
use Rattle.rules.specs.Plt.{template, displacement, in_reach, plt_answer, plt_bytes}
use Rattle.rules.specs.Choose.{in_range, needs_fallback}
use Rattle.rules.specs.Fill.{filling, after_filling}
use Rattle.rules.specs.Records.{TypesWorked, FallbackWorked, PltWorked, FillWorked}
use Rattle.rules.specs.Starred.{StarredHold}
use Rattle.rules.proofs.OnLiterals.{relaxing_on_literals}

pub types_worked : TypesWorked
unfolding byte_range earlier_types later_types lookup
types_worked = record { known = refl; listed = refl; signed32 = refl; unsigned32 = refl; lookups = refl }

pub fallback_worked : FallbackWorked
unfolding earlier_types later_types lookup needs_fallback
fallback_worked = record { fallback = refl }

pub plt_worked : PltWorked
unfolding byte_range signed64 template displacement in_reach plt_answer plt_bytes
plt_worked = record { order = refl; blank = refl; short = refl }

pub fill_worked : FillWorked
unfolding byte_range signed64 earlier_types later_types lookup in_range filling after_filling
fill_worked = record { first = refl; second = refl; third = refl; unsigned32 = refl; signed32 = refl; sums = refl; wraps = refl; ends = refl; kept = refl }

pub starred_hold : StarredHold
unfolding relaxing_on_literals template displacement in_reach plt_answer plt_bytes
starred_hold = record { hold = refl }
