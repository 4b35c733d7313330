-- What is written, with the lines of the records to come, is the whole text.
use Rattle.std.proofs.Common.{◌≡◌, ◌+◌, ◌≤◌, length}
use Rattle.case_read.specs.Reading.{records}
use Rattle.case_file.specs.CaseFile.{lines}
use Rattle.case_file.specs.Parts.{put, HasRoomFor}
use Rattle.case_file.proofs.Text.put_records.Given as goal

abbrev pub invariant-loop-index : goal.invariant-loop-index
invariant-loop-index l =
    record {
      can : (goal.iterator-loop-index).can_next l.index-iterator;
      ends : (goal.iterator-loop-index).is_finite l.index-iterator;
      counted : l.index-iterator.count + length l.index-iterator.iter ≤ length l.file;
      room : HasRoomFor l.self l.index-iterator.iter;
      whole : put l.self (lines (l.index-iterator.count + 1) l.index-iterator.iter) ≡ put l.fn.self (lines 1 (records l.file));
    }
