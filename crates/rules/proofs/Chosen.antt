-- Choosing and then rewriting is relaxing: every kind that is chosen is allowed, and where one was chosen refusals 1 and 2 can't follow, so
-- that rewriting's 6 is relaxing's.
-- Assumes nothing.
use Rattle.std.specs.Prelude.{Ok, Err}
use mathlib.Core.Path.{◌≡◌, refl, subst}
use mathlib.Core.Bool.{Bool, true, false, cond, ◌||◌}
use mathlib.Core.List.{List}
use Prim.Native.Nat.{ℕ}
use lib.Dec.{T, eqb}
use lib.ListN.{length}
use Rattle.x86_64_kind.specs.declared.RelaxationKind.{RelaxationKind}
use Rattle.x86_64_kind.specs.declared.RelaxationKind.TheVariants.{RexMovIndirectToAbsolute, RexAddIndirectToAbsolute, RexSubIndirectToAbsolute, RexCmpIndirectToAbsolute}
use Rattle.x86_64_kind.specs.Kinds.{shape_of, inside, allowed}
use Rattle.rules.specs.declared.Relocation.{Relocation}
use Rattle.rules.specs.Answer.{Answer}
use Rattle.refusal.specs.declared.Refusal.TheVariants.{WindowNotInside}
use Rattle.rules.specs.Record.{Limit, too_long, past, flags_above, kind_above}
use Rattle.rules.specs.Choose.{Choice, none, chosen, choose, choosing}
use Rattle.rules.specs.Rewrite.{Rewritten, Relaxed, relaxed, rewrite, rewriting, claims, relax_chosen, relaxing}
use Rattle.std.proofs.lemmas.Bool.{cond_both}
use Rattle.laws.proofs.Bools.{either}
use Rattle.laws.proofs.Keys.{is}
use Rattle.rules.proofs.Walked.{walk}

abbrev Allowed : Choice → Type 0
Allowed none = Unit {0}
Allowed (chosen k t m) = allowed k ≡ true

-- an instruction offset of 3 or 4
pub at : (P : ℕ → Type 0) (n : ℕ) → P 3 → P 4 → T (eqb n 3 || eqb n 4) → P n
at P n p q = either (eqb n 3) (eqb n 4) (is P n 3 p) (is P n 4 q)

allowed_choice : (sec : List ℕ) (r : Relocation) → Allowed (choose sec r)
allowed_choice sec r =
    walk sec r Allowed
    (record {
      nothing = tt;
      mov = λ n m p o. at (λ (n : ℕ). allowed (RexMovIndirectToAbsolute n) ≡ true) n refl refl p.offset;
      sub = λ n m p o. at (λ (n : ℕ). allowed (RexSubIndirectToAbsolute n) ≡ true) n refl refl p.offset;
      cmp = λ n m p o. at (λ (n : ℕ). allowed (RexCmpIndirectToAbsolute n) ≡ true) n refl refl p.offset;
      lea = λ n m p a o. refl;
      thread_mov = λ n m p o. at (λ (n : ℕ). allowed (RexMovIndirectToAbsolute n) ≡ true) n refl refl p.offset;
      thread_add = λ n m p o. at (λ (n : ℕ). allowed (RexAddIndirectToAbsolute n) ≡ true) n refl refl p.offset;
      bare_mov = λ m b o. refl;
      bare_lea = λ m b o. refl;
      call = λ m b o q. refl;
      jmp = λ m b o q. refl;
      other = λ k t m e a. a;
    })

-- what an answer of choosing says
abbrev Passes : Limit → List ℕ → Relocation → Answer Choice → Type 0
Passes l sec r (Err n) = Unit {0}
Passes l sec r (Ok none) = Unit {0}
Passes l sec r (Ok (chosen k t m)) = (too_long l sec ≡ false) × (past sec r.offset ≡ false) × (allowed k ≡ true)

module _ (l : Limit) (sec : List ℕ) (r : Relocation) where
  given_choice : (c : Choice) → too_long l sec ≡ false → past sec r.offset ≡ false → Allowed c → Passes l sec r (Ok c)
  given_choice none e p h = tt
  given_choice (chosen k t m) e p h = (e, p, h)

  passes : Passes l sec r (choosing l sec r)
  unfolding choosing
  passes =
      cond_both (too_long l sec) _ _ (Passes l sec r) (λ _. tt) λ e.
      cond_both (past sec r.offset) _ _ (Passes l sec r) (λ _. tt) λ p.
      cond_both (flags_above r.flags) _ _ (Passes l sec r) (λ _. tt) λ _.
      cond_both (kind_above r.output_kind) _ _ (Passes l sec r) (λ _. tt) λ _. given_choice (choose sec r) e p (allowed_choice sec r)

-- rewriting's answer, with the choice
abbrev pub then : RelaxationKind → ℕ → Bool → Answer Rewritten → Answer Relaxed
then k t m (Ok x) = Ok (relaxed k t m x)
then k t m (Err n) = Err n

pub relaxes : (l : Limit) (sec : List ℕ) (r : Relocation) (k : RelaxationKind) (t : ℕ) (m : Bool)
    → choosing l sec r ≡ Ok (chosen k t m) → relaxing l sec r ≡ then k t m (rewriting l k sec r.offset r.addend)
unfolding relaxing relax_chosen rewriting claims
relaxes l sec r k t m e =
    let s = subst (Passes l sec r) e (passes l sec r) in
    rw (e, s.0, s.1, s.2) (by (inside (shape_of k).window (length sec) r.offset))
  where
    by : (b : Bool) → cond b (Ok (relaxed k t m (rewrite k sec r.offset r.addend))) (Err WindowNotInside) ≡ then k t m (cond b (Ok (rewrite k sec r.offset r.addend)) (Err WindowNotInside))
    by true = refl
    by false = refl
