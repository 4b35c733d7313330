-- The code's answer of a lookup and the rules'. Assumes nothing.
use Rattle.std.specs.Prelude.{false, Result, Ok, Err}
use Rattle.refusal.specs.declared.Refusal.{Refusal}
use Rattle.rules.specs.Answer.{Answer}
use Rattle.rules.specs.Types.{Row}
use Rattle.elf.specs.Elf.{info_from}
use Rattle.elf.specs.declared.RelocationKindInfo.{RelocationKindInfo}
use Rattle.elf_kind.specs.declared.RelocationKind.{RelocationKind}
use Rattle.x86_64_types.specs.declared.RelocSizeAndRange.{RelocSizeAndRange}

abbrev pub found_of : Answer Row → Result RelocationKindInfo Refusal
found_of (Ok r) = Ok (info_from r)
found_of (Err n) = Err n

-- a row with what is the same in all of them
abbrev pub info_with : RelocationKind → RelocSizeAndRange → Result RelocationKindInfo Refusal
info_with k s =
    Ok (record {
      kind = k;
      size = s.size;
      mask = false;
      range = s.range;
      alignment = 1;
      bias = false;
      thunkable = false;
      implicit_addend = false;
    })
