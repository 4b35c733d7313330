-- Laws of putting text into a buffer: two texts one after the other, and a copy into a part. Assumes nothing.
use Rattle.std.proofs.Common.{◌≡◌, ◌∙◌, sym, ap, refl, ℕ, suc, ◌+◌, ◌*◌, ◌≤◌, List, [], ◌∷◌, ◌++◌, length, drop, arith}
use Rattle.std.proofs.lemmas.List.{length-append, append_assoc, drop-drop}
use Rattle.std.proofs.lemmas.Int.{to_z-of_z}
use Rattle.std.proofs.Math.ListN.{set}
use Rattle.std.proofs.Math.Seq.{sets, sets-eq, length-sets}
use borrow.Rule.Slice.PartMut.{put_mid}
use Rattle.hex.proofs.HexLemmas.{length-encode_with}
use Rattle.case_file.specs.declared.Text.{Text}
use Rattle.case_file.specs.Parts.{written, capacity, put}

-- a store run of two texts
sets-append : (s : List ℕ) (at : ℕ) (t u : List ℕ) → sets s at (t ++ u) ≡ sets (sets s at t) (at + length t) u
sets-append s at [] u = ap (λ (k : ℕ). sets s k u) (omega arith)
sets-append s at (b ∷ t) u = sets-append (set s at b) (suc at) t u ∙ ap (λ (k : ℕ). sets (sets (set s at b) (suc at) t) k u) (omega arith)

pub put-append : (old : Text) (t u : List ℕ) → put old (t ++ u) ≡ put (put old t) u
unfolding put
put-append old t u =
    let e : old.len + length (t ++ u) ≡ old.len + length t + length u = rw length-append (omega arith) in
    rw (sets-append old.out.now old.len t u, e)

pub put-nil : (old : Text) → put old [] ≡ old
unfolding put
put-nil old = let e : old.len + 0 ≡ old.len = omega arith in rw e

pub written-put : (old : Text) (t : List ℕ) → written (put old t) ≡ written old + length t
unfolding put written
written-put old t = refl

pub capacity-put : (old : Text) (t : List ℕ) → capacity (put old t) ≡ capacity old
unfolding put capacity
capacity-put old t = length-sets old.out.now old.len t

-- a copy into a part of a buffer
pub part-sets : (s : List ℕ) (at k : ℕ) (t : List ℕ) → k ≡ length t → at + length t ≤ length s → put_mid at k s t ≡ sets s at t
part-sets s at k t e h =
    let f : drop k (drop at s) ≡ drop (at + length t) s = rw (drop-drop k at s, e) in
    rw (sets-eq t s at h, append_assoc, f)

-- for what puts one text after another, and for what writes into a part
pub ruleset texts = (put-append, put-nil, written-put, capacity-put, length-append, to_z-of_z)

pub ruleset parts = (part-sets, length-encode_with)
