-- What holds of the figures of every walk, by induction over what is asked of the pass.
-- Assumes nothing.
use Rattle.std.proofs.Common.{◌≡◌, ℕ, ◌+◌, ◌%◌, ◌^◌, ◌<◌, List, [], ◌∷◌, map, length, get_or, take, sym, refl, ap, ◌∙◌, subst, zero-add, arith}
use lib.ListN.{get_or-replicate}
use Rattle.rules.specs.declared.Relocation.{Relocation}
use Rattle.rules.specs.Answer.{Answer}
use Rattle.pass.specs.declared.Step.{Step}
use Rattle.pass.specs.Answers.{step_of}
use Rattle.pass.specs.Walk.{answer, walk, answers}
use Rattle.tally.specs.Tally.{share, sum, accepted}
use Rattle.tally.specs.Walk.{Tallied, fresh, takes, ends, Act, acted, after, steps, Tallies}
use Rattle.tally.proofs.Figures.{length-tallied, below, wraps, get_or-tallied, sum-tallied}

goes_on :
    (t : Tallied) (acts : List Act) (i : ℕ) → i < length t.figures → get_or t.figures i 0 < 2 ^ 64
    → get_or (after t acts).figures i 0 ≡ (get_or t.figures i 0 + sum (map (λ s. share s i) (steps t.walk acts))) % 2 ^ 64
goes_on t [] i l h = omega arith
goes_on t (takes r ∷ acts) i l h =
    let s = step_of (answer t.walk r) in
    let g = get_or-tallied t.figures s i l h in
    goes_on (acted t (takes r)) acts i (subst (λ (n : ℕ). i < n) (sym (length-tallied t.figures s)) l) (below _ _ g) ∙ wraps _ _ _ _ g
goes_on t (ends ∷ acts) i l h = goes_on (acted t ends) acts i l h

adds_to : (t : Tallied) (acts : List Act) → length t.figures ≡ 22
    → sum (take 21 (after t acts).figures) % 2 ^ 64 ≡ (sum (take 21 t.figures) + sum (map accepted (steps t.walk acts))) % 2 ^ 64
adds_to t [] l = omega arith
adds_to t (takes r ∷ acts) l =
    let s = step_of (answer t.walk r) in
    adds_to (acted t (takes r)) acts (length-tallied t.figures s ∙ l) ∙ sums _ _ _ _ (sum-tallied t.figures s (rw l (omega arith)))
  where
    sums : (y x a b : ℕ) → y % 2 ^ 64 ≡ (x + a) % 2 ^ 64 → (y + b) % 2 ^ 64 ≡ (x + (a + b)) % 2 ^ 64
    sums y x a b e = omega arith
adds_to t (ends ∷ acts) l = adds_to (acted t ends) acts l

beside : (t : Tallied) (rs : List Relocation) → ((after t (map takes rs)).walk ≡ walk t.walk rs) × (steps t.walk (map takes rs) ≡ map step_of (answers t.walk rs))
beside t [] = (refl, refl)
beside t (r ∷ rs) =
    let h = beside (acted t (takes r)) rs in
    (h.0, ap (λ (l : List (Answer Step)). step_of (answer t.walk r) ∷ l) h.1)

size : (t : Tallied) (acts : List Act) → length (after t acts).figures ≡ length t.figures
size t [] = refl
size t (takes r ∷ acts) = size (acted t (takes r)) acts ∙ length-tallied t.figures (step_of (answer t.walk r))
size t (ends ∷ acts) = size (acted t ends) acts

pub tallies : Tallies
tallies =
    record {
      defined = λ sec acts i h. let z = get_or-replicate {A = ℕ} 22 i 0 0 h in goes_on (fresh sec) acts i h (rw z (omega arith)) ∙ rw (z, zero-add (sum (map (λ s. share s i) (steps (fresh sec).walk acts))));
      add_up = λ sec acts. adds_to (fresh sec) acts refl ∙ rw (zero-add (sum (map accepted (steps (fresh sec).walk acts))));
      goes_on = goes_on;
      adds_to = adds_to;
      beside = beside;
      size = size;
    }
