-- Document 01, 'The pass above', with card 2 of document 02: a step and an ending, from any state that a caller could hand in. Assumes nothing.
use Rattle.std.specs.Prelude.{Bool, true, false, cond, List, ℕ, eqb, ltb, Ok, Err}
use Rattle.x86_64_kind.specs.declared.Window.{Window}
use Rattle.x86_64_kind.specs.Kinds.{begin, end, is_empty, skips}
use Rattle.rules.specs.declared.Relocation.{Relocation}
use Rattle.rules.specs.Answer.{Answer}
use Rattle.refusal.specs.declared.Refusal.TheVariants.{OffsetBelowLast, PassEnded, SkipPending, WindowOverlap}
use Rattle.rules.specs.Record.{link_limit}
use Rattle.rules.specs.Choose.{Choice, choosing}
use Rattle.rules.specs.Rewrite.{Relaxed, unrelaxed, relaxed, claims, relaxing, after_relaxing}
use Rattle.pass.specs.declared.Pass.{Pass}

-- "last offset, end of the last non-empty window, skip pending, ended. A fresh pass has 0, 0, no, no"
abbrev pub fresh_pass : Pass
fresh_pass = record { last = 0; window = 0; skip = false; ended = false }

-- ---- what changes in a pass

-- "Accepted records .. set the last offset to the record's own"
abbrev pub passed : Relocation → Pass → Pass
passed r p = record { last = r.offset; window = p.window; skip = p.skip; ended = p.ended }

-- "end of the last non-empty window"
abbrev pub cleared : ℕ → Pass → Pass
cleared n p = record { last = p.last; window = n; skip = p.skip; ended = p.ended }

-- "skip pending", and whether it is
abbrev pub pending : Bool → Pass → Pass
pending b p = record { last = p.last; window = p.window; skip = b; ended = p.ended }

abbrev pub is_pending : Pass → Bool
is_pending p = p.skip

abbrev pub closed : Pass → Pass
closed p = record { last = p.last; window = p.window; skip = p.skip; ended = true }

-- ---- a step

-- "Accepted records (none, relaxed or skipped)"
pub data Accepted : Type 0 where
  took : Relaxed → Accepted
  skipped : Accepted

-- 23: "window begins before the last window's end"; "An empty window never gives 23"
abbrev pub overlaps : Pass → Window → ℕ → Bool
overlaps p w off = cond (is_empty w) false (ltb (begin w off) p.window)

-- "1, 2, 3, 4" as choosing has them, then the rest
unfoldable pub checked : Answer Choice → Answer Accepted → Answer Accepted
checked (Err n) rest = Err n
checked (Ok c) rest = rest

-- "choice, 6" as relaxing has them, then 23
unfoldable pub clearing : Pass → Relocation → Answer Relaxed → Answer Accepted
clearing p r (Err n) = Err n
clearing p r (Ok unrelaxed) = Ok (took unrelaxed)
clearing p r (Ok (relaxed k t m x)) = cond (overlaps p (claims k t) r.offset) (Err WindowOverlap) (Ok (took (relaxed k t m x)))

-- card 2: "a type 0 record": by its own type
abbrev pub is_type0 : Relocation → Bool
is_type0 r = eqb r.r_type 0

-- while a skip is pending: "the next record is skipped"; card 2: "a type 0 record .. is accepted as none"
abbrev pub passing : Relocation → Answer Accepted
passing r = cond (is_type0 r) (Ok (took unrelaxed)) (Ok skipped)

-- "A pass step: 21, 1, 2, 3, 4, 22, skip, choice, 6, 23"
unfoldable pub stepping : Pass → List ℕ → Relocation → Answer Accepted
stepping p sec r =
    cond p.ended (Err PassEnded)
    (checked (choosing link_limit sec r)
    (cond (ltb r.offset p.last) (Err OffsetBelowLast)
    (cond (is_pending p) (passing r) (clearing p r (relaxing link_limit sec r)))))

-- the pass then: "a skipped one clears the pending skip. A refused step .. hands the pass back unchanged"; "After a kind whose modifier is
-- SkipNextRelocation, the next record is skipped"; none "sets the last offset, and leaves the skip pending" (card 2)
unfoldable pub pass_left : Pass → Relocation → Answer Accepted → Pass
pass_left p r (Err n) = p
pass_left p r (Ok skipped) = pending false (passed r p)
pass_left p r (Ok (took unrelaxed)) = passed r p
pass_left p r (Ok (took (relaxed k t m x))) =
    pending (skips k) (cleared (cond (is_empty (claims k t)) p.window (end (claims k t) r.offset)) (passed r p))

-- the section then: a skipped record and a refused one touch no byte
unfoldable pub bytes_after : List ℕ → Answer Accepted → List ℕ
bytes_after sec (Ok (took x)) = after_relaxing sec (Ok x)
bytes_after sec (Ok skipped) = sec
bytes_after sec (Err n) = sec

-- ---- an ending

-- "Ending: 21, 24"
abbrev pub ending : Pass → Answer Unit
ending p = cond p.ended (Err PassEnded) (cond (is_pending p) (Err SkipPending) (Ok tt))

-- "a refused ending hands the pass back unchanged; a granted ending only sets ended"
abbrev pub ended_pass : Pass → Answer Unit → Pass
ended_pass p (Ok u) = closed p
ended_pass p (Err n) = p
