-- What lies before and after the range is left.
-- Assumes nothing.
use Rattle.std.proofs.Common.{◌≡◌, refl, sym, ◌∙◌, List, ℕ, ◌+◌, ◌≤◌, length, arith, take-append-drop}
use Rattle.std.proofs.lemmas.List.Edits.{sets, sets-eq}
use Rattle.std.proofs.lemmas.Slice.{take-put_mid, drop-put_mid}
use borrow.Rule.Slice.PartMut.{put_mid}
use Rattle.x86_64_apply.proofs.write.Goals as goal

-- a string in place of as many bytes from `at` on
pasted : (s p : List ℕ) (at k : ℕ) → at + length p ≤ length s → length p ≡ k → put_mid at k s p ≡ sets s at p
pasted s p at k h e =
    sym (take-append-drop (at + length p) (put_mid at k s p))
    ∙ rw (take-put_mid at k s p (at + length p) refl (omega arith), drop-put_mid at k s p (at + length p) (omega arith) (omega arith) e) (sym (sets-eq p s at h))

pub returns : goal.returns
returns c =
    let a = c.args in
    rw c.copy_from_slice.ensures.after (pasted a.section_bytes.now a.fixed.now a.at _ c.requires (omega arith))
