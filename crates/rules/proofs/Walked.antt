-- One walk of the choice: what holds of none, and of each kind where the rules choose it, holds of the choice. The choice is walked forward,
-- by the tests that the rules make.
-- Assumes nothing.
use mathlib.Core.Path.{◌≡◌, refl, ap}
use mathlib.Core.Bool.{Bool, true, false, ◌&&◌, ◌||◌}
use mathlib.Core.List.{List}
use Prim.Native.Nat.{ℕ, ◌-◌}
use lib.Dec.{T, leb, eqb, eqb→eq}
use lib.ListN.{get_or}
use lib.IntN.{ℤ, pos, negsuc}
use Rattle.x86_64_kind.specs.declared.RelaxationKind.{RelaxationKind}
use Rattle.x86_64_kind.specs.declared.RelaxationKind.TheVariants.{MovIndirectToLea, MovIndirectToAbsolute, RexMovIndirectToAbsolute, RexAddIndirectToAbsolute}
use Rattle.x86_64_kind.specs.declared.RelaxationKind.TheVariants.{RexSubIndirectToAbsolute, RexCmpIndirectToAbsolute, CallIndirectToRelative, JmpIndirectToRelative}
use Rattle.x86_64_kind.specs.declared.RelaxationKind.TheVariants.{TlsDescToLocalExec}
use Rattle.x86_64_kind.specs.Kinds.{allowed}
use Rattle.rules.specs.declared.Relocation.{Relocation}
use Rattle.rules.specs.Record.{is_n, is_k, is_f}
use Rattle.rules.specs.Choose.{Choice, none, chosen, given, pick, is_rex_w, is_minus4, rex_absolute, mov_load, branch_to, tpoff_load, ld_call, desc_choice}
use Rattle.rules.specs.Choose.{rex_gotpcrelx, gotpcrelx, gotpcrel, gottpoff, code6_gottpoff, tlsgd, tlsld, tlsdesc, choose}
use Rattle.rules.specs.Meaning.{covered, head}
use Rattle.laws.proofs.Bools.{and_left, and_right}
use Rattle.laws.proofs.Keys.{is}

minus_4_at : (a : ℤ) → T (is_minus4 a) → a ≡ negsuc 3
minus_4_at (pos n) t = absurd t
minus_4_at (negsuc n) t = ap negsuc (eqb→eq n 3 t)

module _ (sec : List ℕ) (r : Relocation) where
  abbrev pub byte : ℕ → ℕ
  byte k = get_or sec (r.offset - k) 0

  -- a type whose instruction has a prefix and starts n before the field, with 48 or 4C at byte −3
  pub record Prefixed (n : ℕ) : Type 0 where
    pub starts : head r.r_type ≡ n
    pub offset : T (eqb n 3 || eqb n 4)
    pub rex : T (is_rex_w (byte 3))

  -- type 41, with addend −4
  pub record Bare : Type 0 where
    pub type : r.r_type ≡ 41
    pub addend : r.addend ≡ negsuc 3

  -- where the rules choose: for the types of same meaning with what was tested, elsewhere that the kind is allowed
  pub record Cases (P : Choice → Type 0) : Type 0 where
    pub nothing : P none
    pub mov : (n : ℕ) (m : Bool) → Prefixed n → byte 2 ≡ 0x8B → P (chosen (RexMovIndirectToAbsolute n) 11 m)
    pub sub : (n : ℕ) (m : Bool) → Prefixed n → byte 2 ≡ 0x2B → P (chosen (RexSubIndirectToAbsolute n) 11 m)
    pub cmp : (n : ℕ) (m : Bool) → Prefixed n → byte 2 ≡ 0x3B → P (chosen (RexCmpIndirectToAbsolute n) 11 m)
    pub lea : (n : ℕ) (m : Bool) → Prefixed n → r.addend ≡ negsuc 3 → byte 2 ≡ 0x8B → P (chosen MovIndirectToLea 2 m)
    pub thread_mov : (n : ℕ) (m : Bool) → Prefixed n → byte 2 ≡ 0x8B → P (chosen (RexMovIndirectToAbsolute n) 23 m)
    pub thread_add : (n : ℕ) (m : Bool) → Prefixed n → byte 2 ≡ 0x03 → P (chosen (RexAddIndirectToAbsolute n) 23 m)
    pub bare_mov : (m : Bool) → Bare → byte 2 ≡ 0x8B → P (chosen MovIndirectToAbsolute 10 m)
    pub bare_lea : (m : Bool) → Bare → byte 2 ≡ 0x8B → P (chosen MovIndirectToLea 2 m)
    pub call : (m : Bool) → Bare → byte 2 ≡ 0xFF → byte 1 ≡ 0x15 → P (chosen CallIndirectToRelative 2 m)
    pub jmp : (m : Bool) → Bare → byte 2 ≡ 0xFF → byte 1 ≡ 0x25 → P (chosen JmpIndirectToRelative 2 m)
    pub other : (k : RelaxationKind) (t : ℕ) (m : Bool) → covered r.r_type ≡ false → allowed k ≡ true → P (chosen k t m)

  module _ (P : Choice → Type 0) (w : Cases P) where
    by_given : (c : Bool) {x : Choice} → (T c → P x) → P (given c x)
    unfolding given
    by_given true f = f tt
    by_given false f = w.nothing

    by_pick : (c : Bool) {x y : Choice} → (T c → P x) → P y → P (pick c x y)
    unfolding pick
    by_pick true f p = f tt
    by_pick false f p = p

    -- what the type's number says of its head, and of its cover
    starts : (n m : ℕ) → head n ≡ m → T (eqb r.r_type n) → head r.r_type ≡ m
    starts n m = is (λ (n : ℕ). head n ≡ m) r.r_type n

    out : (n : ℕ) → covered n ≡ false → T (eqb r.r_type n) → covered r.r_type ≡ false
    out = is (λ (n : ℕ). covered n ≡ false) r.r_type

    rex_w : T (leb 3 r.offset && is_rex_w (byte 3)) → T (is_rex_w (byte 3))
    rex_w = and_right (leb 3 r.offset) (is_rex_w (byte 3))

    -- 42, 43
    rex : (n : ℕ) → head r.r_type ≡ n → T (eqb n 3 || eqb n 4) → P (rex_gotpcrelx sec r n)
    unfolding rex_gotpcrelx rex_absolute
    rex n e h =
        by_given _ λ g. by_given _ λ f.
        let p : Prefixed n = record { starts = e; offset = h; rex = rex_w g } in
        by_pick _
        (λ _. by_given _ λ _.
        by_pick _ (λ o. w.mov n _ p (eqb→eq _ _ o)) (by_pick _ (λ o. w.sub n _ p (eqb→eq _ _ o)) (by_given _ λ o. w.cmp n _ p (eqb→eq _ _ o))))
        (by_given _ λ o. w.lea n _ p (minus_4_at r.addend (and_left (is_minus4 r.addend) (is_n r.flags) f)) (eqb→eq _ _ o))

    -- 22, 44
    thread : (n : ℕ) → head r.r_type ≡ n → T (eqb n 3 || eqb n 4) → P (gottpoff sec r n)
    unfolding gottpoff tpoff_load
    thread n e h =
        by_given _ λ _. by_given _ λ g.
        let p : Prefixed n = record { starts = e; offset = h; rex = rex_w g } in
        by_pick _ (λ o. w.thread_mov n _ p (eqb→eq _ _ o)) (by_given _ λ o. w.thread_add n _ p (eqb→eq _ _ o))

    -- 9
    load : head r.r_type ≡ 3 → P (gotpcrel sec r)
    unfolding gotpcrel
    load e =
        by_given _ λ f. by_given _ λ g. by_given _ λ o.
        w.lea 3 _ (record { starts = e; offset = tt; rex = rex_w g }) (minus_4_at r.addend (and_right (is_n r.flags && (is_k r.flags || is_f r.output_kind)) (is_minus4 r.addend) f)) (eqb→eq _ _ o)

    -- 41
    bare : r.r_type ≡ 41 → P (gotpcrelx sec r)
    unfolding gotpcrelx mov_load branch_to
    bare e =
        by_given _ λ f.
        let b : Bare = record { type = e; addend = minus_4_at r.addend (and_left (is_minus4 r.addend) (leb 2 r.offset) (and_left (is_minus4 r.addend && leb 2 r.offset) (is_n r.flags) f)) } in
        by_pick _ (λ o. by_pick _ (λ _. by_given _ λ _. w.bare_mov _ b (eqb→eq _ _ o)) (w.bare_lea _ b (eqb→eq _ _ o)))
        (by_given _ λ o. by_pick _ (λ m. w.call _ b (eqb→eq _ _ o) (eqb→eq _ _ m)) (by_given _ λ m. w.jmp _ b (eqb→eq _ _ o) (eqb→eq _ _ m)))

    -- types that same meaning doesn't cover
    module _ (e : covered r.r_type ≡ false) where
      evex : P (code6_gottpoff sec r)
      unfolding code6_gottpoff
      evex = by_given _ λ _. by_given _ λ _. by_given _ λ _. w.other _ _ _ e refl

      dynamic : P (tlsgd sec r)
      unfolding tlsgd
      dynamic =
          by_given _ λ _. by_pick _ (λ _. by_pick _ (λ _. w.other _ _ _ e refl) (w.other _ _ _ e refl)) (by_given _ λ _. by_given _ λ _. w.other _ _ _ e refl)

      local : P (tlsld sec r)
      unfolding tlsld ld_call
      local = by_given _ λ _. by_pick _ (λ _. w.other _ _ _ e refl) (by_pick _ (λ _. w.other _ _ _ e refl) (by_given _ λ _. w.other _ _ _ e refl))

      -- 34, 45
      descriptor : (n : ℕ) → allowed (TlsDescToLocalExec n) ≡ true → P (tlsdesc sec r n)
      unfolding tlsdesc desc_choice
      descriptor n h = by_given _ λ _. by_pick _ (λ _. w.other _ _ _ e h) (w.other _ _ _ e refl)

    pub walk : P (choose sec r)
    unfolding choose
    walk =
        by_pick _ (λ _. by_given _ λ t. w.other _ _ _ (out 2 refl t) refl)
        (by_given _ λ _.
        by_pick _ (λ t. rex 3 (starts 42 3 refl t) tt)
        (by_pick _ (λ t. rex 4 (starts 43 4 refl t) tt)
        (by_pick _ (λ t. bare (eqb→eq _ _ t))
        (by_pick _ (λ t. load (starts 9 3 refl t))
        (by_pick _ (λ t. thread 3 (starts 22 3 refl t) tt)
        (by_pick _ (λ t. thread 4 (starts 44 4 refl t) tt)
        (by_pick _ (λ t. evex (out 50 refl t))
        (by_pick _ (λ t. by_given _ λ _. w.other _ _ _ (out 4 refl t) refl)
        (by_pick _ (λ t. by_given _ λ _. w.other _ _ _ (out 31 refl t) refl)
        (by_pick _ (λ t. dynamic (out 19 refl t))
        (by_pick _ (λ t. local (out 20 refl t))
        (by_pick _ (λ t. descriptor (out 34 refl t) 3 refl)
        (by_pick _ (λ t. descriptor (out 45 refl t) 4 refl)
        (by_given _ λ t. by_given _ λ _. w.other _ _ _ (out 35 refl t) refl))))))))))))))
