-- The tables' answers in the exported layouts: every field, for what is given and for a refusal. Assumes nothing.
use Rattle.std.specs.Prelude.{false, not, ℕ, pos, Result, Ok, Err}
use Rattle.rules.specs.Answer.{Answer, refusal_of, whether}
use Rattle.rules.specs.Record.{is_e, is_s, is_p, is_f, is_k, is_n, absolute, dynamic, ifunc}
use Rattle.elf_kind.specs.Kind.{kind_number}
use Rattle.rules.specs.Types.{Row}
use Rattle.elf.specs.declared.RelocationKindInfo.{RelocationKindInfo}
use Rattle.x86_64_types.specs.Types.{found_of}
use Rattle.refusal.specs.declared.Refusal.{Refusal}
use Rattle.refusal.specs.Numbers.{number_of}
use Rattle.jitamoro_tables.specs.declared.OutputKindAnswer.{OutputKindAnswer}
use Rattle.jitamoro_tables.specs.declared.ValueFlagsAnswer.{ValueFlagsAnswer}
use Rattle.jitamoro_tables.specs.declared.RelocationAnswer.{RelocationAnswer}

-- what holds of what is given, false under a refusal
abbrev pub output_layout : Answer ℕ → OutputKindAnswer
output_layout a =
    record {
      refusal = refusal_of a;
      is_executable = whether is_e a;
      is_static_executable = whether is_s a;
      is_position_independent = whether is_p a;
      has_fixed_load_address = whether is_f a;
    }

abbrev pub flags_layout : Answer ℕ → ValueFlagsAnswer
flags_layout a =
    record {
      refusal = refusal_of a;
      is_dynamic = whether dynamic a;
      is_ifunc = whether ifunc a;
      has_link_time_address = whether is_k a;
      is_absolute = whether absolute a;
      is_interposable = whether (λ (f : ℕ). not (is_n f)) a;
    }

-- a row of the lookup, as the code has it
abbrev pub info_layout : RelocationKindInfo → RelocationAnswer
info_layout i =
    record {
      refusal = 0;
      kind = kind_number i.kind;
      size = i.size.byte_size;
      checked = i.range.checked;
      mask = i.mask;
      alignment = i.alignment;
      bias = i.bias;
      thunkable = i.thunkable;
      implicit_addend = i.implicit_addend;
      min = i.range.min;
      max = i.range.max;
    }

abbrev pub found_layout : Result RelocationKindInfo Refusal → RelocationAnswer
found_layout (Ok i) = info_layout i
found_layout (Err n) =
    record { refusal = number_of n; kind = 0; size = 0; checked = false; mask = false; alignment = 0; bias = false; thunkable = false; implicit_addend = false; min = pos 0; max = pos 0 }

abbrev pub relocation_layout : Answer Row → RelocationAnswer
relocation_layout a = found_layout (found_of a)
