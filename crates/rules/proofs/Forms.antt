-- Forms that go together: an old one through a slot, and the new one with which a filled field means the same. One law (`perform_same`) says
-- so; the flags and the push never unfold. Assumes nothing.
use mathlib.Core.Path.{◌≡◌, refl, sym, ◌∙◌, subst, ap}
use mathlib.Core.Bool.{Bool, true, false, ◌&&◌, ◌||◌, cond}
use mathlib.Core.List.{List}
use Prim.Native.Nat.{ℕ, ◌+◌, ◌-◌, ◌/◌, ◌%◌, ◌^◌, ◌≤◌, ◌<◌}
use native.Mathlib.Omega.{arith}
use native.Mathlib.Nat.{mod-lt, mod-eq_of_lt, add-zero}
use borrow.Author.Tests.{le-leb}
use lib.Dec.{T, eqb, lit<, eqb→eq}
use lib.IntN.{ℤ, pos, negsuc}
use lib.ListN.{length, get_or, drop, length-drop}
use lib.Seq.{get_or-drop}
use Rattle.laws.proofs.Bools.{parts, either}
use Rattle.laws.proofs.Keys.{is}
use Rattle.rules.specs.Range.{signed, contains, signed64, byte_range}
use Rattle.rules.specs.Types.{lookup, earlier_types, later_types}
use Rattle.rules.specs.Choose.{in_range}
use Rattle.rules.specs.Rewrite.{relocated, Holds, Filled}
use Rattle.rules.specs.Machine.{State, Result, stepped, word, signed32, field_at, read4, read8, Source, slot, imm, addr}
use Rattle.rules.specs.Machine.{Action, bad, move, alu, call, jump, Form, form, decode, operand, perform, step_at, step}
use Rattle.rules.specs.Meaning.{slot_value, Alike}
use Rattle.rules.proofs.Arith.{field4-bytes, read8-lt, read8-mod, read8-low, signed_low, read_low, back}

-- ---- the operand: a slot, and a filled field of the new type

-- the addend that goes with a new type: −4 for the relative one, 0 for the absolute ones; what its field gives; the sizes that it serves
abbrev pub addend_for : ℕ → ℤ
addend_for t = cond (eqb t 2) (negsuc 3) (pos 0)

abbrev source : ℕ → Source
source t = cond (eqb t 2) addr imm

abbrev serves : ℕ → Bool → Bool
serves t w = eqb t 2 || cond w (eqb t 11 || eqb t 23) (eqb t 10)

-- an absolute field of 32 bits, sign-extended to 64
abs_wide : (v : ℕ) → v < word → T (contains (byte_range 4 signed) (signed64 ((v + 0) % word)))
    → signed32 ((v + 0) % word % 2 ^ 32) % word ≡ v
abs_wide v h t =
    let e : (v + 0) % word ≡ v = omega arith in
    let l : signed32 (v % 2 ^ 32) ≡ v = signed_low v h (rw e at t) in
    rw e (rw l (mod-eq_of_lt h))

-- an absolute field of 32 bits, for a 32-bit operand
abs_narrow : (m : ℕ → ℕ) (a : ℕ) → signed32 ((read8 m a + 0) % word % 2 ^ 32) % 2 ^ 32 ≡ read4 m a
abs_narrow m a =
    let e : (read8 m a + 0) % word % 2 ^ 32 ≡ read8 m a % 2 ^ 32 = omega arith in
    rw e (read_low signed (read8 m a % 2 ^ 32) (omega arith) ∙ read8-low m a)

-- a field relative to its own address p, added to next
rel_wide : (v p q : ℕ) → v < word → q ≡ (p + 4) % word
    → T (contains (byte_range 4 signed) (signed64 ((v + (word - 4) + (word - p % word)) % word)))
    → (q + signed32 ((v + (word - 4) + (word - p % word)) % word % 2 ^ 32)) % word ≡ v
rel_wide v p q h e t =
    let x : ℕ = (v + (word - 4) + (word - p % word)) % word in
    let b : x < word = mod-lt (v + (word - 4) + (word - p % word)) (lit< tt) in
    rw (signed_low x b t) (back v p q h e)

-- the slot lies at q, the new field at p, and next is n
module _ (s : State) (q p n : ℕ) (next : n ≡ (p + 4) % word) where
  abbrev filled : ℕ → ℕ
  filled t = relocated t (read8 s.mem q) (addend_for t) p

  abbrev Same : Bool → ℕ → Type 0
  Same w t = T (in_range t (signed64 (filled t))) → operand (source t) w s (filled t % 2 ^ 32) n ≡ cond w read8 read4 s.mem q

  pub operand_same : (w : Bool) (t : ℕ) → T (serves t w) → Same w t
  unfolding in_range lookup earlier_types later_types byte_range
  operand_same true t =
      either (eqb t 2) (eqb t 11 || eqb t 23)
      (is (Same true) t 2 λ r. rw (rel_wide (read8 s.mem q) p n (read8-lt s.mem q) next r, read8-mod))
      (either (eqb t 11) (eqb t 23)
      (is (Same true) t 11 (abs_wide (read8 s.mem q) (read8-lt s.mem q)))
      (is (Same true) t 23 (abs_wide (read8 s.mem q) (read8-lt s.mem q))))
  operand_same false t =
      either (eqb t 2) (eqb t 10)
      (is (Same false) t 2 λ r. rw (rel_wide (read8 s.mem q) p n (read8-lt s.mem q) next r, read8-low))
      (is (Same false) t 10 λ r. abs_narrow s.mem q)

-- ---- the action, with another source

abbrev via : Source → Action → Action
via f bad = bad
via f (move w k _) = move w k f
via f (alu o w r k _ b) = alu o w r k f b
via f (call _) = call f
via f (jump _) = jump f

-- whether type t serves an action's size; all but a jump go on at next, which must then be the same
abbrev suits : ℕ → Bool → Action → Bool
suits t same bad = false
suits t same (move w k f) = same && serves t w
suits t same (alu o w r k f b) = same && serves t w
suits t same (call f) = same && serves t true
suits t same (jump f) = serves t true

ends : {s : State} {n : ℕ} {x : Result} → x ≡ stepped s n → Alike (stepped s n) x
ends e = record { after = _; goes_on = _; first = refl; second = e }

module _ (t : ℕ) (same : Bool) (s : State) (d n e m : ℕ) (next : T same → m ≡ n)
    (value : (w : Bool) → T (serves t w) → operand (source t) w s e m ≡ operand slot w s d n) where
  perform_same : (a : Action) → T (suits t same a) → Alike (perform (via slot a) d n s) (perform (via (source t) a) e m s)
  perform_same bad h = absurd h
  perform_same (move w k f) h = parts same (serves t w) (λ p v. ends (rw (value w v, next p))) h
  perform_same (alu o w r k f b) h = parts same (serves t w) (λ p v. ends (rw (value w v, next p))) h
  perform_same (call f) h = parts same (serves t true) (λ p v. ends (rw (value true v, next p))) h
  perform_same (jump f) h = ends (rw (value true h))

-- ---- the form: n bytes before the old field, i before the new one

-- as one value, so that a table of such claims is computed
pub record Claim : Type 0 where
  pub old : Form
  pub new : Form
  pub suited : Bool

abbrev pub claimed : Form → Form → Claim
claimed f g = record { old = f; new = g; suited = true }

abbrev pub wanted : ℕ → ℕ → ℕ → Form → Claim
wanted t n i f =
    record { old = form (via slot f.action) (n + 4); new = form (via (source t) f.action) (i + 4); suited = suits t (eqb n i) f.action }

abbrev pub Related : ℕ → ℕ → ℕ → Form → Form → Type 0
Related t n i f g = claimed f g ≡ wanted t n i f

-- the four bytes that a filled field holds, as one number
field_of : {old new : List ℕ} {at x : ℕ} → Holds old new at x → field_at new at ≡ x % 2 ^ 32
field_of {new = new} {at} {x} h =
    let e : get_or new at 0 ≡ x / 256 ^ 0 % 256 = ap (λ (i : ℕ). get_or new i 0) (sym (add-zero at)) ∙ h.field 0 (lit< tt) in
    rw (e, h.field 1 (lit< tt), h.field 2 (lit< tt), h.field 3 (lit< tt)) (field4-bytes x)

-- a step whose field stands after n bytes, at `off`
step_is : (sec : List ℕ) (at base off n : ℕ) (s : State) (a : Action) → off ≡ at + n → decode (drop at sec) ≡ form a (n + 4) → off + 4 ≤ length sec
    → step sec at base s ≡ perform a (field_at sec off) ((base + off + 4) % word) s
unfolding step_at
step_is sec at base off n s a o e h =
    let w : n + 4 ≤ length (drop at sec) = simp length-drop (omega arith) in
    let z : n + 4 - 4 ≡ n = omega arith in
    let p : ((base + at) % word + (n + 4)) % word ≡ (base + off + 4) % word = omega arith in
    let i : (k : ℕ) → at + (n + k) ≡ off + k = λ k. omega arith in
    rw (e, le-leb _ _ w, z, p) (simp (get_or-drop, i, sym o))

-- steps of related forms end alike, once the new field is filled
pub step_same : (sec new : List ℕ) (at base off noff n i : ℕ) (s : State) {t : ℕ} → Related t n i (decode (drop at sec)) (decode (drop at new))
    → off ≡ at + n → noff ≡ at + i → off + 4 ≤ length sec → noff + 4 ≤ length new
    → (old : List ℕ) → Filled t (addend_for t) noff base (slot_value sec off base s.mem) old new
    → Alike (step sec at base s) (step new at base s)
step_same sec new at base off noff n i s {t} r o p h k old c =
    let next : ((base + off + 4) % word + signed32 (field_at sec off)) % word ≡ (base + off + 4 + signed32 (field_at sec off)) % word = omega arith in
    rw (step_is sec at base off n s _ o (ap (λ (c : Claim). c.old) r) h, step_is new at base noff i s _ p (ap (λ (c : Claim). c.new) r) k)
    (perform_same t (eqb n i) s _ _ _ _ (λ q. let e = eqb→eq n i q in omega arith)
    (λ w v. rw (field_of c.holds, next) (operand_same s _ (base + noff) _ refl w t v c.range))
    (decode (drop at sec)).action (subst T (ap (λ (c : Claim). c.suited) r) tt))
