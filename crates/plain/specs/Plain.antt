-- Which records are plain, and what their numbers settle. Assumes nothing.
use Rattle.std.specs.Prelude.{Bool, cond, ◌&&◌, ◌||◌, List, ℕ, eqb, leb, ltb, pos, length}
use Rattle.rules.specs.declared.Relocation.{Relocation}
use Rattle.rules.specs.Record.{link_limit, is_s}
use Rattle.rules.specs.Range.{bit}
use Rattle.answers.specs.declared.RelaxedAnswer.{RelaxedAnswer}

-- refused by none of 1 to 4, and of a type below 9
abbrev pub is_plain : List ℕ → Relocation → Bool
is_plain sec r =
    leb (length sec) link_limit.most && leb r.offset (length sec) && ltb r.r_type 9 && leb r.flags 15 && leb r.output_kind 5

-- ---- the code's numbers

abbrev pub mask_of : ℕ → Bool → ℕ
mask_of t x = cond (eqb t 2) 0xff00 (cond (eqb t 4 && x) 0xaa 0)

abbrev pub chosen_by : Relocation → Bool
chosen_by r = eqb (bit (mask_of r.r_type r.executable) r.flags) 1

abbrev pub settled_of : Relocation → RelaxedAnswer
settled_of r =
    let c = chosen_by r in
    record {
      choice =
          record { head = cond c (cond (eqb r.r_type 2 || is_s r.output_kind) 0x100090100 0x90100) 0; new_type = cond c (cond (eqb r.r_type 2) 4 2) 0 };
      offset = cond c r.offset 0;
      addend = cond c r.addend (pos 0);
    }
