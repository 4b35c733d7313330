-- The theorem. The choice is walked forward (Walked); where a kind is chosen, the kind's law closes it. Relaxing, and choosing and then
-- rewriting, give that section.
-- Assumes nothing.
use Rattle.refusal.specs.declared.Refusal.{Refusal}
use Rattle.std.specs.Prelude.{Ok, Err}
use mathlib.Core.Path.{◌≡◌, refl, subst, ◌∙◌}
use mathlib.Core.Bool.{Bool, true, false, ◌||◌, cond}
use mathlib.Core.List.{List}
use Prim.Native.Nat.{ℕ, ◌+◌, ◌-◌, ◌≤◌, ◌<◌}
use native.Mathlib.Omega.{arith}
use lib.Dec.{T, leb, eqb, eqb→eq, leb→le, lit<}
use lib.ListN.{length, get_or}
use lib.IntN.{negsuc}
use Rattle.x86_64_kind.specs.declared.RelaxationKind.{RelaxationKind}
use Rattle.x86_64_kind.specs.declared.RelaxationKind.TheVariants.{MovIndirectToLea}
use Rattle.x86_64_kind.specs.Kinds.{shape_of, inside, allowed}
use Rattle.rules.specs.declared.Relocation.{Relocation}
use Rattle.rules.specs.Answer.{Answer}
use Rattle.rules.specs.Record.{Limit, too_long, past, flags_above, kind_above}
use Rattle.rules.specs.Choose.{Choice, none, chosen, is_rex_w, choose, choosing}
use Rattle.rules.specs.Rewrite.{to_absolute, Rewritten, Filled, relaxed, rewrite, rewriting, claims, relax_chosen, relaxing}
use Rattle.rules.specs.Meaning.{head, begins, Instruction, slot_value, Alike, Anyhow, EndsAlike, SameMeaning}
use Rattle.rules.specs.Machine.{State, step}
use Rattle.laws.proofs.Bools.{either, never}
use Rattle.laws.proofs.Keys.{is}
use Rattle.rules.proofs.Chosen.{at}
use Rattle.rules.proofs.Fill.{exact}
use Rattle.rules.proofs.Forms.{addend_for}
use Rattle.rules.proofs.Places.{old_ops, new_ops, digits, new_types, Start, bounds, plain, rex, rex2, lea_at, absolute_at, mov_at, call_at, jmp_at}
use Rattle.rules.proofs.Walked.{Prefixed, Bare, Cases, walk}

-- what filling leaves is Filled
ends_alike : {sec : List ℕ} {r : Relocation} {t : ℕ} {x : Rewritten} → Anyhow sec r t x → EndsAlike sec r t x
ends_alike {x = x} f =
    record { anyhow = f; by_fill = λ base s new l e. f base s new ((exact l x.bytes _).leaves base (λ _. refl) new e) }

-- what a choice means for a record
abbrev Means : List ℕ → Relocation → Choice → Type 0
Means sec r none = Unit {0}
Means sec r (chosen k t m) = Anyhow sec r t (rewrite k sec r.offset r.addend)

-- an instruction that starts 4 before its field begins with D5
begins_d5 : (type b : ℕ) → head type ≡ 4 → T (begins type b) → T (eqb b 0xD5)
begins_d5 type b = go (eqb type 41) (eqb type 43 || eqb type 44) where
  go : (x y : Bool) → ◌≡◌ {A = ℕ} (cond x 2 (cond y 4 3)) 4 → T (cond x (eqb b 0x8B || eqb b 0xFF) (cond y (eqb b 0xD5) (is_rex_w b))) → T (eqb b 0xD5)
  go true y e t = absurd (omega arith)
  go false true e t = t
  go false false e t = absurd (omega arith)

three : (n : ℕ) → T (eqb n 3 || eqb n 4) → T (leb 3 n)
three n = at (λ (n : ℕ). T (leb 3 n)) n tt tt

back : (b off : ℕ) → b ≤ off → off - b + b ≡ off
back b off h = omega arith

module _ (sec : List ℕ) (r : Relocation) (i : Instruction sec r) where
  abbrev off : ℕ
  off = r.offset

  -- after a prefix the instruction starts 3 bytes before the field, or 4 with D5
  starts : (n : ℕ) → Prefixed sec r n → Start sec off n
  starts n p =
      either (eqb n 3) (eqb n 4)
      (λ t. let e = p.starts ∙ eqb→eq n 3 t in is (Start sec off) n 3 (rex (rw e at i.low) p.rex) t)
      (λ t. let e = p.starts ∙ eqb→eq n 4 t in is (Start sec off) n 4 (rex2 (rw e at i.low) (begins_d5 r.r_type (get_or sec (off - 4) 0) e (rw e at i.first)) p.rex) t) p.offset

  -- the jth operation to an absolute field
  absolute : (n j : ℕ) → j < 5 → Prefixed sec r n → get_or sec (off - 2) 0 ≡ get_or old_ops j 0
      → Anyhow sec r (get_or new_types j 0) (record {
        bytes = to_absolute n (get_or new_ops j 0) (get_or digits j 0) sec off;
        offset = off - 3 + 3;
        addend = addend_for (get_or new_types j 0);
      })
  absolute n j k p o base s new c =
      let l : off - 3 + 3 ≡ off = (let h = bounds (starts n p) in let k = leb→le 3 n (three n p.offset) in back 3 off (omega arith)) in
      rw p.starts (absolute_at sec new off base s i.whole (starts n p) (three n p.offset) j k o i.rip (rw l at c))

  lea : (n : ℕ) → Start sec off n → head r.r_type ≡ n → r.addend ≡ negsuc 3 → get_or sec (off - 2) 0 ≡ 0x8B → Anyhow sec r 2 (rewrite MovIndirectToLea sec off r.addend)
  lea n b e a o base s new c =
      let l : off - 2 + 2 ≡ off = (let h = bounds b in back 2 off (omega arith)) in
      rw e (lea_at sec new off base s i.whole b o i.rip (rw (l, a) at c))

  -- type 41: the law of a kind at an instruction that starts 2 before its field
  abbrev At2 : ℕ → Rewritten → Type 0
  At2 t x =
      2 ≤ off → (base : ℕ) (s : State) (new : List ℕ)
      → Filled t x.addend x.offset base (slot_value sec off base s.mem) x.bytes new
      → Alike (step sec (off - 2) base s) (step new (off - 2) base s)

  bare : (b : Bare sec r) (t : ℕ) (x : Rewritten) → At2 t x → Anyhow sec r t x
  bare b t x f base s new c = rw b.type (f (rw b.type at i.low) base s new c)

  cases : Cases sec r (Means sec r)
  cases =
      record {
        nothing = tt;
        mov = λ n m p o. absolute n 0 (lit< tt) p o;
        sub = λ n m p o. absolute n 1 (lit< tt) p o;
        cmp = λ n m p o. absolute n 2 (lit< tt) p o;
        lea = λ n m p a o. lea n (starts n p) p.starts a o;
        thread_mov = λ n m p o. absolute n 3 (lit< tt) p o;
        thread_add = λ n m p o. rw (at (λ (n : ℕ). eqb n 6 ≡ false) n refl refl p.offset) (absolute n 4 (lit< tt) p o);
        bare_mov = λ m b o. bare b _ _ λ low base s new c. let l : off - 2 + 2 ≡ off = omega arith in mov_at sec new off base s i.whole low o i.rip (rw l at c);
        bare_lea = λ m b o. let e : head r.r_type ≡ 2 = rw b.type in lea 2 (plain (rw e at i.low)) e b.addend o;
        call = λ m b o q. bare b _ _ λ low base s new c. let l : off - 2 + 2 ≡ off = omega arith in call_at sec new off base s i.whole low o q (rw (l, b.addend) at c);
        jmp = λ m b o q. bare b _ _ λ low base s new c. let l : off - 2 + 1 ≡ off - 1 = omega arith in jmp_at sec new off base s i.whole low o q (rw (l, b.addend) at c);
        other = λ k t m e a. absurd (rw e at i.type);
      }

-- ---- from relaxing, and from choosing and rewriting, to the choice and the rewritten section

-- what stands behind a test that refuses, and what is given where a test holds
pub behind : {A : Type 0} (c : Bool) (n : Refusal) (x : Answer A) (a : A) → cond c (Err n) x ≡ Ok a → x ≡ Ok a
behind true n x a e = never (cc)
behind false n x a e = e

where_true : {A : Type 0} (c : Bool) (n : Refusal) (x : Answer A) (a : A) → cond c x (Err n) ≡ Ok a → x ≡ Ok a
where_true true n x a e = e
where_true false n x a e = never (cc)

pub chose : (l : Limit) (sec : List ℕ) (r : Relocation) (c : Choice) → choosing l sec r ≡ Ok c → choose sec r ≡ c
unfolding choosing
chose l sec r c e =
    let p : Ok (choose sec r) ≡ Ok c = behind (kind_above r.output_kind) _ _ c (behind (flags_above r.flags) _ _ c (behind (past sec r.offset) _ _ c (behind (too_long l sec) l.refusal _ c e))) in
    cc

module _ (sec : List ℕ) (r : Relocation) (k : RelaxationKind) (t : ℕ) (m : Bool) (x : Rewritten) where
  record Parts (a : Answer Choice) : Type 0 where
    choice : a ≡ Ok (chosen k t m)
    result : rewrite k sec r.offset r.addend ≡ x

  taken : (a : Answer Choice) → relax_chosen sec r a ≡ Ok (relaxed k t m x) → Parts a
  unfolding relax_chosen
  taken (Err n) e = never (cc)
  taken (Ok none) e = never (cc)
  taken (Ok (chosen k' t' m')) e =
      let f = where_true (inside (claims k' t') (length sec) r.offset) _ _ _ e in
      let p : k' ≡ k = cc in
      let q : rewrite k' sec r.offset r.addend ≡ x = cc in
      record { choice = cc; result = subst (λ (j : RelaxationKind). rewrite j sec r.offset r.addend ≡ x) p q }

  done : (l : Limit) → rewriting l k sec r.offset r.addend ≡ Ok x → rewrite k sec r.offset r.addend ≡ x
  unfolding rewriting
  done l e =
      let f = where_true (inside (shape_of k).window (length sec) r.offset) _ _ _ (where_true (allowed k) _ _ _ (behind (past sec r.offset) _ _ _ (behind (too_long l sec) l.refusal _ _ e))) in
      cc

  means : (l : Limit) → Instruction sec r → choosing l sec r ≡ Ok (chosen k t m) → rewrite k sec r.offset r.addend ≡ x → EndsAlike sec r t x
  means l i e q =
      ends_alike (subst (Anyhow sec r t) q (subst (Means sec r) (chose l sec r (chosen k t m) e) (walk sec r (Means sec r) (cases sec r i))))

pub same_meaning_of : (sec : List ℕ) → SameMeaning sec
unfolding relaxing
same_meaning_of sec =
    record {
      relaxes = λ l r i k t m x e. let p = taken sec r k t m x (choosing l sec r) e in means sec r k t m x l i p.choice p.result;
      rewrites = λ l r i k t m x e q. means sec r k t m x l i e (done sec r k t m x l q);
    }
