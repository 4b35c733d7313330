-- Each kind that the rules choose for these types, by the bytes before the field and the stores among them (`Change`): the rewritten section
-- with its field filled means the same. The instruction begins n bytes before the field: 2, 3 with REX, or 4 with REX2 (`Start`).
-- Assumes nothing.
use mathlib.Core.Path.{◌≡◌, refl, sym, ◌∙◌, subst₂, ap, ap₂}
use mathlib.Core.Bool.{cond}
use mathlib.Core.List.{List, [], ◌∷◌, ◌++◌, map}
use Prim.Native.Nat.{ℕ, zero, suc, ◌+◌, ◌-◌, ◌*◌, ◌/◌, ◌%◌, ◌≤◌, ◌<◌}
use native.Mathlib.Omega.{arith}
use lib.Dec.{T, leb, eqb, eqb→eq, leb→le, lit<}
use lib.ListN.{length, get_or, take, drop}
use lib.Seq.{sets, length-sets, drop-cons}
use Rattle.laws.proofs.Keys.{down, at_down}
use Rattle.laws.proofs.Stores.{drop-sets}
use Rattle.rules.specs.Choose.{is_rex_w}
use Rattle.rules.specs.Rewrite.{rex_moved, rex2_moved, moved, direct, to_absolute, Filled}
use Rattle.rules.specs.Machine.{State, rip_relative, Form, by_digit, via_rip, on_register, opcode, decode, step}
use Rattle.rules.specs.Meaning.{slot_value, Alike}
use Rattle.laws.proofs.Bools.{and_left, and_right, either}
use Rattle.rules.proofs.Forms.{addend_for, Claim, claimed, wanted, Related, step_same}

-- ---- a change: the new type, the counts of bytes before the old field and before the new one, these bytes by the prefix or payload byte r
-- and the ModRM byte m, and what is stored among them, from where

pub record Change : Type 0 where
  pub type : ℕ
  pub old : ℕ
  pub new : ℕ
  pub from : ℕ
  pub opens : ℕ → ℕ → List ℕ
  pub stores : ℕ → ℕ → List ℕ

abbrev change : ℕ → ℕ → ℕ → ℕ → (ℕ → ℕ → List ℕ) → (ℕ → ℕ → List ℕ) → Change
change t n i j o v = record { type = t; old = n; new = i; from = j; opens = o; stores = v }

-- the old form, and the new one, whatever follows
abbrev old_form : Change → List ℕ → ℕ → ℕ → Form
old_form c l r m = decode (c.opens r m ++ l)

abbrev new_form : Change → List ℕ → List ℕ → ℕ → ℕ → Form
new_form c l k r m = decode (take c.new (sets (c.opens r m ++ l) c.from (c.stores r m)) ++ k)

-- ---- the finite part: a REX prefix or payload byte with W, and a RIP-relative ModRM byte, are two of 16 pairs

abbrev prefix_of : ℕ → ℕ
prefix_of x = 0x48 + x / 8 * 4

abbrev modrm_of : ℕ → ℕ
modrm_of x = x % 8 * 8 + 5

by_pair : (P : ℕ → ℕ → Type 0) → ((x : ℕ) → x < 16 → P (prefix_of x) (modrm_of x)) → (r m : ℕ) → T (is_rex_w r) → T (rip_relative m) → P r m
by_pair P f r m v u =
    let low : m / 64 ≡ 0 = eqb→eq (m / 64) 0 (and_left (eqb (m / 64) 0) (eqb (m % 8) 5) u) in
    let high : m % 8 ≡ 5 = eqb→eq (m % 8) 5 (and_right (eqb (m / 64) 0) (eqb (m % 8) 5) u) in
    either (eqb r 0x48) (eqb r 0x4C)
    (λ t. subst₂ P (sym (eqb→eq r 0x48 t ∙ omega arith)) (omega arith) (f (m / 8) (omega arith)))
    (λ t. subst₂ P (sym (eqb→eq r 0x4C t ∙ omega arith)) (omega arith) (f (8 + m / 8) (omega arith))) v

-- a change's claims at the pairs: each list is one `refl`
abbrev has : Change → List ℕ → List ℕ → ℕ → Claim
has c l k x = claimed (old_form c l (prefix_of x) (modrm_of x)) (new_form c l k (prefix_of x) (modrm_of x))

abbrev wants : Change → List ℕ → ℕ → Claim
wants c l x = wanted c.type c.old c.new (old_form c l (prefix_of x) (modrm_of x))

abbrev has_all : Change → List ℕ → List ℕ → List Claim
has_all c l k = map (has c l k) (down 16)

abbrev wants_all : Change → List ℕ → List Claim
wants_all c l = map (wants c l) (down 16)

abbrev Goes : Change → ℕ → ℕ → Type 0
Goes c r m = (l k : List ℕ) → Related c.type c.old c.new (old_form c l r m) (new_form c l k r m)

rows : (c : Change) → ((l k : List ℕ) → has_all c l k ≡ wants_all c l) → (r m : ℕ) → T (is_rex_w r) → T (rip_relative m) → Goes c r m
rows c e r m v u l k =
    by_pair (λ (r m : ℕ). Related c.type c.old c.new (old_form c l r m) (new_form c l k r m))
    (at_down (has c l k) (wants c l) 16 (e l k)) r m v u

-- a section of which n bytes are kept: so are the first i of the part that starts i before n
kept : (old new : List ℕ) (i at n : ℕ) → n ≡ at + i → n ≤ length old → length new ≡ length old
    → ((j : ℕ) → j < n → get_or new j 0 ≡ get_or old j 0) → drop at new ≡ take i (drop at old) ++ drop n new
kept old new zero at n e h z b = let p : at ≡ n = omega arith in rw p
kept old new (suc i) at n e h z b =
    drop-cons new at 0 (omega arith)
    ∙ (ap₂ ◌∷◌ (b at (omega arith)) (kept old new i (suc at) n (omega arith) h z b)
    ∙ sym (ap (λ (l : List ℕ). take (suc i) l ++ drop n new) (drop-cons old at 0 (omega arith))))

module _ (sec new : List ℕ) (off base : ℕ) (s : State) (whole : off + 4 ≤ length sec) where
  -- one law for all kinds
  at_change : (c : Change) (r m : ℕ) → Goes c r m → (at noff w : ℕ) → drop at sec ≡ c.opens r m ++ drop off sec
      → off ≡ at + c.old → noff ≡ at + c.new → w ≡ at + c.from → noff ≤ off
      → Filled c.type (addend_for c.type) noff base (slot_value sec off base s.mem) (sets sec w (c.stores r m)) new
      → Alike (step sec at base s) (step new at base s)
  at_change c r m e at noff w d o p q n f =
      let old : List ℕ = sets sec w (c.stores r m) in
      let z : length old ≡ length sec = length-sets sec w (c.stores r m) in
      let k : drop at new ≡ take c.new (sets (c.opens r m ++ drop off sec) c.from (c.stores r m)) ++ drop noff new
      = kept old new c.new at noff p (omega arith) f.holds.size f.holds.before
      ∙ ap (λ (l : List ℕ). take c.new l ++ drop noff new)
      (drop-sets (c.stores r m) sec at c.from w q ∙ ap (λ (l : List ℕ). sets l c.from (c.stores r m)) d) in
      let x : Related c.type c.old c.new (decode (drop at sec)) (decode (drop at new))
      = rw (d, k) (e (drop off sec) (drop noff new)) in
      step_same sec new at base off noff c.old c.new s x o p whole (omega (arith, f.holds.size)) old f

-- ---- the changes

-- the prefix of an instruction that begins n bytes before its field, where r is its REX byte or REX2 payload
abbrev prefix : ℕ → ℕ → List ℕ
prefix n r = cond (eqb n 4) (0xD5 ∷ r ∷ []) (cond (eqb n 3) (r ∷ []) [])

-- mov to lea
abbrev lea : ℕ → Change
lea n = change 2 n n (n - 2) (λ r m. prefix n r ++ 0x8B ∷ m ∷ []) (λ r m. 0x8D ∷ [])

-- after a prefix, to an absolute field: mov, sub, cmp to type 11; mov, add to type 23. The opcode, the new one, its digit, the new type
abbrev pub old_ops : List ℕ
old_ops = 0x8B ∷ 0x2B ∷ 0x3B ∷ 0x8B ∷ 0x03 ∷ []

abbrev pub new_ops : List ℕ
new_ops = 0xC7 ∷ 0x81 ∷ 0x81 ∷ 0xC7 ∷ 0x81 ∷ []

abbrev pub digits : List ℕ
digits = 0 ∷ 5 ∷ 7 ∷ 0 ∷ 0 ∷ []

abbrev pub new_types : List ℕ
new_types = 11 ∷ 11 ∷ 11 ∷ 23 ∷ 23 ∷ []

abbrev absolute : ℕ → ℕ → Change
absolute n i =
    change (get_or new_types i 0) n n (n - 3) (λ r m. prefix n r ++ get_or old_ops i 0 ∷ m ∷ [])
    (λ r m. moved n r ∷ get_or new_ops i 0 ∷ direct (get_or digits i 0) m ∷ [])

-- without a prefix: mov to an absolute field, call, jmp
abbrev mov : Change
mov = change 10 2 2 0 (λ r m. 0x8B ∷ m ∷ []) (λ r m. 0xC7 ∷ direct 0 m ∷ [])

abbrev call : Change
call = change 2 2 2 0 (λ r m. 0xFF ∷ 0x15 ∷ []) (λ r m. 0x67 ∷ 0xE8 ∷ [])

abbrev jmp : Change
jmp = change 2 2 1 0 (λ r m. 0xFF ∷ 0x25 ∷ []) (λ r m. 0xE9 ∷ 0 ∷ 0 ∷ 0 ∷ 0 ∷ 0x90 ∷ [])

-- ---- where the instruction starts

pub data Start (sec : List ℕ) (off : ℕ) : ℕ → Type 0 where
  plain : 2 ≤ off → Start sec off 2
  rex : 3 ≤ off → T (is_rex_w (get_or sec (off - 3) 0)) → Start sec off 3
  rex2 : 4 ≤ off → T (eqb (get_or sec (off - 4) 0) 0xD5) → T (is_rex_w (get_or sec (off - 3) 0)) → Start sec off 4

pub bounds : {sec : List ℕ} {off n : ℕ} → Start sec off n → (2 ≤ n) × (n ≤ off)
bounds (plain h) = (lit< tt, h)
bounds (rex h v) = (lit< tt, h)
bounds (rex2 h d v) = (lit< tt, h)

module _ (sec : List ℕ) (off : ℕ) (rip : T (rip_relative (get_or sec (off - 1) 0))) where
  abbrev r : ℕ
  r = get_or sec (off - 3) 0

  abbrev m : ℕ
  m = get_or sec (off - 1) 0

  lea_goes : {n : ℕ} → Start sec off n → Goes (lea n) r m
  unfolding by_digit via_rip on_register opcode decode
  lea_goes (plain h) = rows (lea 2) (λ l k. refl) 0x48 m tt rip
  lea_goes (rex h v) = rows (lea 3) (λ l k. refl) r m v rip
  lea_goes (rex2 h d v) = rows (lea 4) (λ l k. refl) r m v rip

  absolute_goes : {n : ℕ} → Start sec off n → T (leb 3 n) → (i : ℕ) → i < 5 → Goes (absolute n i) r m
  unfolding by_digit via_rip on_register opcode decode rex_moved rex2_moved
  absolute_goes (plain h) t i g = absurd t
  absolute_goes (rex h v) t i g =
      rows (absolute 3 i) (λ l k. at_down (λ (i : ℕ). has_all (absolute 3 i) l k) (λ (i : ℕ). wants_all (absolute 3 i) l) 5 refl i g) r m v rip
  absolute_goes (rex2 h d v) t i g =
      rows (absolute 4 i) (λ l k. at_down (λ (i : ℕ). has_all (absolute 4 i) l k) (λ (i : ℕ). wants_all (absolute 4 i) l) 5 refl i g) r m v rip

-- ---- the kinds, in a section

module _ (sec new : List ℕ) (off base : ℕ) (s : State) (whole : off + 4 ≤ length sec) where
  next : (i j : ℕ) → j ≡ i + 1 → j ≤ off → drop i sec ≡ get_or sec i 0 ∷ drop j sec
  next i j e h = let p : suc i ≡ j = omega arith in rw p at (drop-cons sec i 0 (omega arith))

  two : 2 ≤ off → drop (off - 2) sec ≡ get_or sec (off - 2) 0 ∷ get_or sec (off - 1) 0 ∷ drop off sec
  two h = rw (next (off - 2) (off - 1) (omega arith) (omega arith), next (off - 1) off (omega arith) (omega arith))

  opened : {n : ℕ} → Start sec off n
      → drop (off - n) sec ≡ (prefix n (get_or sec (off - 3) 0) ++ get_or sec (off - 2) 0 ∷ get_or sec (off - 1) 0 ∷ []) ++ drop off sec
  opened (plain h) = two h
  opened (rex h v) = rw (next (off - 3) (off - 2) (omega arith) (omega arith), two (omega arith))
  opened (rex2 h d v) =
      rw (next (off - 4) (off - 3) (omega arith) (omega arith), eqb→eq (get_or sec (off - 4) 0) 0xD5 d, next (off - 3) (off - 2) (omega arith) (omega arith), two (omega arith))

  abbrev Means : ℕ → ℕ → ℕ → List ℕ → Type 0
  Means n t noff old =
      Filled t (addend_for t) noff base (slot_value sec off base s.mem) old new → Alike (step sec (off - n) base s) (step new (off - n) base s)

  pub lea_at : {n : ℕ} → Start sec off n → get_or sec (off - 2) 0 ≡ 0x8B → T (rip_relative (get_or sec (off - 1) 0)) → Means n 2 off (sets sec (off - 2) (0x8D ∷ []))
  lea_at {n} b op rip =
      let h = bounds b in
      at_change sec new off base s whole (lea n) _ _ (lea_goes sec off rip b) (off - n) off (off - 2)
      (rw op at (opened b)) (omega arith) (omega arith) (omega arith) (omega arith)

  pub absolute_at : {n : ℕ} → Start sec off n → T (leb 3 n) → (i : ℕ) → i < 5 → get_or sec (off - 2) 0 ≡ get_or old_ops i 0 → T (rip_relative (get_or sec (off - 1) 0))
      → Means n (get_or new_types i 0) off (to_absolute n (get_or new_ops i 0) (get_or digits i 0) sec off)
  absolute_at {n} b t i g op rip =
      let h = bounds b in
      let three = leb→le 3 n t in
      at_change sec new off base s whole (absolute n i) _ _ (absolute_goes sec off rip b t i g) (off - n) off (off - 3)
      (rw op at (opened b)) (omega arith) (omega arith) (omega arith) (omega arith)

  pub mov_at : 2 ≤ off → get_or sec (off - 2) 0 ≡ 0x8B → T (rip_relative (get_or sec (off - 1) 0))
      → Means 2 10 off (sets sec (off - 2) (0xC7 ∷ direct 0 (get_or sec (off - 1) 0) ∷ []))
  unfolding by_digit via_rip on_register opcode decode
  mov_at low op rip =
      at_change sec new off base s whole mov 0x48 _ (rows mov (λ l k. refl) 0x48 (get_or sec (off - 1) 0) tt rip) (off - 2) off (off - 2)
      (rw op at (two low)) (omega arith) (omega arith) (omega arith) (omega arith)

  pub call_at : 2 ≤ off → get_or sec (off - 2) 0 ≡ 0xFF → get_or sec (off - 1) 0 ≡ 0x15 → Means 2 2 off (sets sec (off - 2) (0x67 ∷ 0xE8 ∷ []))
  unfolding by_digit via_rip on_register opcode decode
  call_at low op m =
      at_change sec new off base s whole call 0x48 0x05 (rows call (λ l k. refl) 0x48 0x05 tt tt) (off - 2) off (off - 2)
      (rw (op, m) at (two low)) (omega arith) (omega arith) (omega arith) (omega arith)

  pub jmp_at : 2 ≤ off → get_or sec (off - 2) 0 ≡ 0xFF → get_or sec (off - 1) 0 ≡ 0x25
      → Means 2 2 (off - 1) (sets sec (off - 2) (0xE9 ∷ 0 ∷ 0 ∷ 0 ∷ 0 ∷ 0x90 ∷ []))
  unfolding by_digit via_rip on_register opcode decode
  jmp_at low op m =
      at_change sec new off base s whole jmp 0x48 0x05 (rows jmp (λ l k. refl) 0x48 0x05 tt tt) (off - 2) (off - 1) (off - 2)
      (rw (op, m) at (two low)) (omega arith) (omega arith) (omega arith) (omega arith)
