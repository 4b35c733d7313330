-- Document 02, card 1: "a tally of relaxed records for each of the 19 kinds, of none, of skipped, and of bytes inside rewritten windows", in
-- 22 figures. Assumes nothing.
use Rattle.std.specs.Prelude.{ℕ, ◌+◌, ◌%◌, ◌^◌, cond, List, [], ◌∷◌, map, replicate, ◌==◌, slice_index, slice_set, Some, None, Ok, Err}
use Rattle.rules.specs.Answer.{Answer, flag}
use Rattle.x86_64_kind.specs.Kinds.{shape_of}
use Rattle.rules.specs.Rewrite.{claims}
use Rattle.pass.specs.declared.Step.{Step}
use Rattle.pass.specs.declared.Step.TheVariants.{Took, Skipped}

-- ---- the figures

-- a kind's figure stands at its number, 0 to 18, and behind them these three
abbrev pub none_at : ℕ
none_at = 19

abbrev pub skipped_at : ℕ
skipped_at = 20

abbrev pub bytes_at : ℕ
bytes_at = 21

-- "A fresh pass has all figures 0"
abbrev pub fresh_tally : List ℕ
fresh_tally = replicate 22 0

-- ---- a step

-- a figure with more in it, "modulo 2^64"
abbrev pub plus : ℕ → ℕ → List ℕ → List ℕ
plus i n t = slice_set t i ((slice_index t i + n) % 2 ^ 64)

-- a record more at its place, with its window's bytes
abbrev pub counted : ℕ → ℕ → List ℕ → List ℕ
counted i n t = plus bytes_at n (plus i 1 t)

-- the figures after a step: a record more of its kind, of none or of skipped; "A refused step adds nothing"
unfoldable pub tallied : List ℕ → Answer Step → List ℕ
tallied t (Ok (Took (Some x))) = counted (shape_of x.relaxation.kind).number (claims x.relaxation.kind x.relaxation.new_type).size t
tallied t (Ok (Took None)) = counted none_at 0 t
tallied t (Ok Skipped) = counted skipped_at 0 t
tallied t (Err n) = t

-- ---- a list of steps

abbrev pub sum : List ℕ → ℕ
sum [] = 0
sum (x ∷ xs) = x + sum xs

-- a record's share of the figure at a place: itself at its own, and its window's bytes
abbrev pub shared : ℕ → ℕ → ℕ → ℕ
shared k n i = flag (i == k) + cond (i == bytes_at) n 0

-- a step's
unfoldable pub share : Answer Step → ℕ → ℕ
share (Ok (Took (Some x))) i = shared (shape_of x.relaxation.kind).number (claims x.relaxation.kind x.relaxation.new_type).size i
share (Ok (Took None)) i = shared none_at 0 i
share (Ok Skipped) i = shared skipped_at 0 i
share (Err n) i = 0

-- "every figure is defined from the list of steps taken so far .. modulo 2^64": the sum of their shares
abbrev pub figure : List (Answer Step) → ℕ → ℕ
figure ss i = sum (map (λ s. share s i) ss) % 2 ^ 64

-- "the accepted records"
abbrev pub accepted : Answer Step → ℕ
accepted (Ok s) = 1
accepted (Err n) = 0
