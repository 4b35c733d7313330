-- What putting a text into a lent buffer does; and how long a line can be. Assumes nothing.
use Rattle.std.specs.Prelude.{List, ℕ, ◌+◌, ◌*◌, ◌≤◌, length, [], ◌∷◌, Option, Result, Ok, Err}
use Rattle.std.proofs.lemmas.List.Edits.{sets}
use Rattle.rules.specs.Answer.{Answer}
use Rattle.case_read.specs.Record.{Record}
use Rattle.refusal.specs.declared.Refusal.{Refusal}
use Rattle.relax.specs.declared.Relaxed.{Relaxed}
use Rattle.case_file.specs.declared.Text.{Text}
use Rattle.case_file.specs.CaseFile.{line}

-- a text more, after what is written; the rest of the buffer as it was
unfoldable pub put : Text → List ℕ → Text
put t text =
    record t { out = record t.out { now = sets t.out.now t.len text }; len = t.len + length text }

-- how many bytes are written, and how many the buffer takes
unfoldable pub written : Text → ℕ
written t = t.len

unfoldable pub capacity : Text → ℕ
capacity t = length t.out.now

-- room for a text more
abbrev pub HasRoom : Text → List ℕ → Type 0
HasRoom t text = written t + length text ≤ capacity t

-- the most bytes that a record's line takes, and room for the lines of some records
abbrev pub most_of : Answer Record → ℕ
most_of (Ok c) = 171 + 2 * length c.section
most_of (Err e) = 171

abbrev pub most_of_all : List (Answer Record) → ℕ
most_of_all [] = 0
most_of_all (r ∷ rs) = most_of r + most_of_all rs

abbrev pub HasRoomFor : Text → List (Answer Record) → Type 0
HasRoomFor t rs = written t + most_of_all rs ≤ capacity t

-- the longest possible line, whatever the number, the answer and the section
pub record Bounds : Type 0 where
  pub line_bound : (n : ℕ) (a : Result (Option Relaxed) Refusal) (s : List ℕ) → length (line n a s) ≤ 171 + 2 * length s
