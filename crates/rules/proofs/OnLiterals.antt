-- What an answer unfolds to compute relaxing on a record that is written out.
-- Assumes nothing.
use Rattle.std.specs.Prelude.{⊤}
use Rattle.rules.specs.Range.{byte_range, signed64}
use Rattle.rules.specs.Types.{earlier_types, later_types, lookup}
use Rattle.rules.specs.Choose.{given, pick, in_range, rex_absolute, mov_load, branch_to, tpoff_load, ld_call, is_rex2_w, desc_choice, rex_gotpcrelx, gotpcrelx, gotpcrel, gottpoff, code6_gottpoff, tlsgd, tlsld, tlsdesc, choose, choosing}
use Rattle.rules.specs.Rewrite.{rex_moved, rex2_moved, rex_copied, evex_moved, claims, relax_chosen, relaxing, after_relaxing}

unfoldable pub relaxing_on_literals : ⊤
unfolding byte_range signed64 earlier_types later_types lookup given pick in_range rex_absolute mov_load branch_to tpoff_load ld_call is_rex2_w desc_choice rex_gotpcrelx gotpcrelx gotpcrel gottpoff code6_gottpoff tlsgd tlsld tlsdesc choose choosing rex_moved rex2_moved rex_copied evex_moved claims relax_chosen relaxing after_relaxing
relaxing_on_literals = tt
