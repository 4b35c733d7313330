-- A walk with its tally: records and endings in any order, and what holds of the figures from any pass over any section. Assumes nothing.
use Rattle.std.specs.Prelude.{◌≡◌, ℕ, ◌+◌, ◌%◌, ◌^◌, ◌<◌, List, [], ◌∷◌, map, length, take, slice_index}
use Rattle.rules.specs.declared.Relocation.{Relocation}
use Rattle.rules.specs.Answer.{Answer}
use Rattle.pass.specs.declared.Step.{Step}
use Rattle.pass.specs.Pass.{fresh_pass, ending, ended_pass}
use Rattle.pass.specs.Answers.{step_of}
use Rattle.pass.specs.Walk.{Walk, answer, stepped, walk, answers}
use Rattle.tally.specs.Tally.{fresh_tally, share, tallied, sum, figure, accepted}

-- a pass with its section, and "with the pass a tally"
pub record Tallied : Type 0 where
  pub walk : Walk
  pub figures : List ℕ

-- "A fresh pass has all figures 0"
abbrev pub fresh : List ℕ → Tallied
fresh sec = record { walk = record { pass = fresh_pass; section = sec }; figures = fresh_tally }

-- what is asked of a pass: to take a record, or to end
pub data Act : Type 0 where
  takes : Relocation → Act
  ends : Act

abbrev pub ended_walk : Walk → Walk
ended_walk w = record { pass = ended_pass w.pass (ending w.pass); section = w.section }

-- a step adds its share; an ending, granted or not, is no step and keeps the figures
abbrev pub acted : Tallied → Act → Tallied
acted t (takes r) = record { walk = stepped t.walk r; figures = tallied t.figures (step_of (answer t.walk r)) }
acted t ends = record { walk = ended_walk t.walk; figures = t.figures }

abbrev pub after : Tallied → List Act → Tallied
after t [] = t
after t (a ∷ acts) = after (acted t a) acts

-- "the list of steps taken": their answers
abbrev pub steps : Walk → List Act → List (Answer Step)
steps w [] = []
steps w (takes r ∷ acts) = step_of (answer w r) ∷ steps (stepped w r) acts
steps w (ends ∷ acts) = steps (ended_walk w) acts

-- ---- what holds of every walk

pub record Tallies : Type 0 where
  -- "A fresh pass has all figures 0; from there every figure is defined from the list of steps taken so far"
  pub defined : (sec : List ℕ) (acts : List Act) (i : ℕ) → i < 22 → slice_index (after (fresh sec) acts).figures i ≡ figure (steps (fresh sec).walk acts) i
  -- "the first 21 figures add up to the accepted records, all modulo 2^64"
  pub add_up : (sec : List ℕ) (acts : List Act) → sum (take 21 (after (fresh sec) acts).figures) % 2 ^ 64 ≡ sum (map accepted (steps (fresh sec).walk acts)) % 2 ^ 64
  -- from any pass and any figures: the old figure and the shares, wrapping; and the old sum and the accepted records
  pub goes_on :
      (t : Tallied) (acts : List Act) (i : ℕ) → i < length t.figures → slice_index t.figures i < 2 ^ 64
      → slice_index (after t acts).figures i ≡ (slice_index t.figures i + sum (map (λ s. share s i) (steps t.walk acts))) % 2 ^ 64
  pub adds_to : (t : Tallied) (acts : List Act) → length t.figures ≡ 22
      → sum (take 21 (after t acts).figures) % 2 ^ 64 ≡ (sum (take 21 t.figures) + sum (map accepted (steps t.walk acts))) % 2 ^ 64
  -- over records alone the pass goes as it does without a tally, so that all that holds of a walk holds here
  pub beside : (t : Tallied) (rs : List Relocation) → ((after t (map takes rs)).walk ≡ walk t.walk rs) × (steps t.walk (map takes rs) ≡ map step_of (answers t.walk rs))
  -- as many figures
  pub size : (t : Tallied) (acts : List Act) → length (after t acts).figures ≡ length t.figures
