-- Past 1, 2 and 5, rewriting is 6 or the field where the shape says.
-- Assumes nothing.
use Rattle.std.specs.Prelude.{Ok, Err}
use Rattle.std.proofs.Common.{◌≡◌, ℕ, ◌≤◌, ℤ, List, length, Bool, true, false, cond, refl, le-ltb}
use Rattle.refusal.specs.declared.Refusal.{Refusal}
use Rattle.x86_64_kind.specs.declared.RelaxationKind.{RelaxationKind}
use Rattle.x86_64_kind.specs.Kinds.{inside, shape_of, allowed}
use Rattle.rules.specs.Record.{link_limit}
use Rattle.rules.specs.Rewrite.{Rewritten, rewrite, rewriting}
use Rattle.x86_64_apply.specs.Apply.{applied_of, moved_by}

applied_cond : (b : Bool) (r : Rewritten) (n : Refusal)
    → applied_of (cond b (Ok r) (Err n)) ≡ cond b (Ok (record { offset = r.offset; addend = r.addend })) (Err n)
applied_cond true r n = refl
applied_cond false r n = refl

pub applied : (k : RelaxationKind) (sec : List ℕ) (off : ℕ) (a : ℤ) → length sec ≤ 268435456 → off ≤ length sec → allowed k ≡ true
    → applied_of (rewriting link_limit k sec off a) ≡ moved_by (shape_of k) (length sec) off a
unfolding rewriting
applied k sec off a short low q =
    rw (le-ltb 268435456 (length sec) short, le-ltb (length sec) off low, q) (applied_cond (inside (shape_of k).window (length sec) off) (rewrite k sec off a) _)
