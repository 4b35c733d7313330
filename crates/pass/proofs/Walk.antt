-- What holds of every walk, by induction over the records: what one answer says of the pass and the section is what the rest goes on from.
-- Assumes nothing.
use Rattle.std.specs.Prelude.{Ok, Err}
use mathlib.Core.Path.{◌≡◌, refl, sym, ap, subst, ◌∙◌}
use mathlib.Core.Logic.{◌⊎◌, inl, inr}
use mathlib.Core.Bool.{Bool, true, false, cond, ◌||◌, false≢true}
use mathlib.Core.List.{List, [], ◌∷◌, ◌++◌, map}
use Prim.Native.Nat.{ℕ, zero, suc, ◌+◌, ◌<◌, ◌≤◌}
use native.Mathlib.Nat.{add-zero, le_trans, lt_of_lt_of_le, le_of_lt, le_of_suc-le-suc, not-suc-le-zero}
use native.Mathlib.Omega.{arith}
use lib.Dec.{eqb, ltb}
use lib.ListN.{length, get_or}
use borrow.Author.Tests.{ltb-true, ltb-false, eqb-true, eqb-false}
use Rattle.rules.specs.Answer.{Answer}
use Rattle.refusal.specs.declared.Refusal.TheVariants.{PassEnded, SkipPending}
use Rattle.x86_64_kind.specs.declared.RelaxationKind.{RelaxationKind}
use Rattle.x86_64_kind.specs.declared.Window.{Window}
use Rattle.x86_64_kind.specs.Kinds.{is_empty, begin, end, inside}
use Rattle.rules.specs.declared.Relocation.{Relocation}
use Rattle.rules.specs.Record.{link_limit}
use Rattle.rules.specs.Choose.{Choice, choosing}
use Rattle.rules.specs.Rewrite.{Rewritten, unrelaxed, relaxed, claims, relaxing, after_relaxing}
use Rattle.x86_64_kind.proofs.Windows.{within}
use Rattle.rules.proofs.Kept.{Kept, kept}
use Rattle.std.proofs.lemmas.Bool.{and_parts}
use Rattle.pass.specs.declared.Pass.{Pass}
use Rattle.pass.specs.Pass.{is_pending, is_type0, passing, Accepted, took, skipped, overlaps, checked, clearing, stepping, pass_left, bytes_after, ending}
use Rattle.pass.specs.Walk.{Walk, answer, stepped, walk, answers, offset_of, offsets, Part, part_of, parts, Rising, Apart, Inside, Outside, is_refused, sets_skip, between, last_at, Walks}
use Rattle.pass.proofs.Stepping.{Sound, step_sound, relaxing_rewrites}

-- ---- order

order :
    (w : Walk) (before : List Relocation) (r : Relocation) (rest : List Relocation)
    → answers w (before ++ r ∷ rest) ≡ answers w before ++ answer (walk w before) r ∷ answers (stepped (walk w before) r) rest
order w [] r rest = refl
order w (b ∷ before) r rest = ap (λ (l : List (Answer Accepted)). answer w b ∷ l) (order (stepped w b) before r rest)

joined : (w : Walk) (before rest : List Relocation) → walk w (before ++ rest) ≡ walk (walk w before) rest
joined w [] rest = refl
joined w (b ∷ before) rest = joined (stepped w b) before rest

-- ---- one record

side : (i b : ℕ) → (i < b) ⊎ (b ≤ i)
side i b = by (ltb i b) refl where
  by : (t : Bool) → ltb i b ≡ t → (i < b) ⊎ (b ≤ i)
  by true e = inl (ltb-true i b e)
  by false e = inr (ltb-false i b e)

module _ (p : Pass) (sec : List ℕ) (r : Relocation) where
  rises : (a : Answer Accepted) (os : List ℕ) → Sound p sec r a → Rising (pass_left p r a).last os → Rising p.last (offset_of r.offset a ++ os)
  unfolding pass_left
  rises (Err n) os s h = h
  rises (Ok skipped) os s h = (ltb-false _ _ s.1, h)
  rises (Ok (took unrelaxed)) os s h = (ltb-false _ _ s.1, h)
  rises (Ok (took (relaxed k t m x))) os s h = (ltb-false _ _ s.1, h)

  -- a relaxed record's window: where it begins, and what it holds
  clears :
      (w : Window) (empty : Bool) (xs : List Part) → is_empty w ≡ empty → cond empty false (ltb (begin w r.offset) p.window) ≡ false
      → Apart (cond empty p.window (end w r.offset)) xs
      → Apart p.window (cond empty [] (record { from = begin w r.offset; to = end w r.offset } ∷ []) ++ xs)
  clears w true xs e o h = h
  clears w false xs e o h =
      let n = eqb-false w.size 0 e in
      (ltb-false _ _ o, positive (begin w r.offset) w.size n, h)
    where
      positive : (b n : ℕ) → (n ≡ 0 → ⊥) → b < b + n
      positive b zero g = absurd (g refl)
      positive b (suc n) g = omega arith

  stays_apart : (a : Answer Accepted) (xs : List Part) → Sound p sec r a → Apart (pass_left p r a).window xs → Apart p.window (part_of r.offset a ++ xs)
  unfolding pass_left
  stays_apart (Err n) xs s h = h
  stays_apart (Ok skipped) xs s h = h
  stays_apart (Ok (took unrelaxed)) xs s h = h
  stays_apart (Ok (took (relaxed k t m x))) xs s h = clears (claims k t) (is_empty (claims k t)) xs refl s.2.2 h

  -- a byte lies outside a window that is empty
  misses :
      (w : Window) (empty : Bool) (i : ℕ) (xs : List Part) → is_empty w ≡ empty
      → Outside i (cond empty [] (record { from = begin w r.offset; to = end w r.offset } ∷ []) ++ xs)
      → ((i < begin w r.offset) ⊎ (end w r.offset ≤ i)) × Outside i xs
  misses w false i xs e h = h
  misses w true i xs e h = (rw (eqb-true w.size 0 e, add-zero (begin w r.offset)) (side i (begin w r.offset)), h)

  -- the section once a record is relaxed: rewriting keeps every byte outside the window
  rewrites : (k : RelaxationKind) (t : ℕ) (m : Bool) (x : Rewritten) → relaxing link_limit sec r ≡ Ok (relaxed k t m x)
      → Kept (begin (claims k t) r.offset) (end (claims k t) r.offset) sec x.bytes
  rewrites k t m x e = let f = relaxing_rewrites sec r k t m x e in rw f.1 (kept sec r.offset k t (within (claims k t) (length sec) r.offset f.0).0)

  keeps : (a : Answer Accepted) (i : ℕ) (xs : List Part) → Sound p sec r a → Outside i (part_of r.offset a ++ xs) → (get_or (bytes_after sec a) i 0 ≡ get_or sec i 0) × Outside i xs
  unfolding bytes_after after_relaxing
  keeps (Err n) i xs s h = (refl, h)
  keeps (Ok skipped) i xs s h = (refl, h)
  keeps (Ok (took unrelaxed)) i xs s h = (refl, h)
  keeps (Ok (took (relaxed k t m x))) i xs s h =
      let g = misses (claims k t) (is_empty (claims k t)) i xs refl h in
      ((rewrites k t m x s.2.1).outside i g.0, g.1)

  -- and lies inside
  lies_in : (w : Window) (empty : Bool) (xs : List Part) → inside w (length sec) r.offset ≡ true → Inside (length sec) xs
      → Inside (length sec) (cond empty [] (record { from = begin w r.offset; to = end w r.offset } ∷ []) ++ xs)
  lies_in w true xs f h = h
  lies_in w false xs f h = ((within w (length sec) r.offset f).1, h)

  lies : (a : Answer Accepted) (xs : List Part) → Sound p sec r a → Inside (length sec) xs → Inside (length sec) (part_of r.offset a ++ xs)
  lies (Err n) xs s h = h
  lies (Ok skipped) xs s h = h
  lies (Ok (took unrelaxed)) xs s h = h
  lies (Ok (took (relaxed k t m x))) xs s h = lies_in (claims k t) (is_empty (claims k t)) xs (relaxing_rewrites sec r k t m x s.2.1).0 h

  sized : (a : Answer Accepted) → Sound p sec r a → length (bytes_after sec a) ≡ length sec
  unfolding bytes_after after_relaxing
  sized (Err n) s = refl
  sized (Ok skipped) s = refl
  sized (Ok (took unrelaxed)) s = refl
  sized (Ok (took (relaxed k t m x))) s = (rewrites k t m x s.2.1).size

-- ---- a step that isn't idle, and one after the end

works :
    (w : Walk) (r : Relocation) (c : Choice) (k : RelaxationKind) (t : ℕ) (m : Bool) (x : Rewritten)
    → w.pass.ended ≡ false → choosing link_limit w.section r ≡ Ok c → ltb r.offset w.pass.last ≡ false → is_pending w.pass ≡ false
    → relaxing link_limit w.section r ≡ Ok (relaxed k t m x) → overlaps w.pass (claims k t) r.offset ≡ false
    → answer w r ≡ Ok (took (relaxed k t m x))
unfolding stepping checked clearing
works w r c k t m x e h l s f o = rw (h, l, f, o) (clear w.pass.ended (is_pending w.pass) e s) where
  clear : (ended skip : Bool) → ended ≡ false → skip ≡ false → cond ended (Err PassEnded) (cond skip (passing r) (Ok (took (relaxed k t m x)))) ≡ Ok (took (relaxed k t m x))
  clear false false e s = refl
  clear true skip e s = absurd (false≢true (sym e))
  clear false true e s = absurd (false≢true (sym s))

ended_step : (w : Walk) (r : Relocation) → w.pass.ended ≡ true → (answer w r ≡ Err PassEnded) × (stepped w r ≡ w)
unfolding stepping pass_left bytes_after
ended_step w r h = (rw h, rw h)

over : (w : Walk) (rs : List Relocation) → w.pass.ended ≡ true → (answers w rs ≡ map (λ _. Err PassEnded) rs) × (walk w rs ≡ w)
over w [] h = (refl, refl)
over w (r ∷ rs) h =
    let e = ended_step w r h in
    let o = over w rs h in
    (rw (e.1, e.0) (ap (λ (l : List (Answer Accepted)). Err PassEnded ∷ l) o.0), rw e.1 o.1)

-- ---- every walk

sound : (w : Walk) (r : Relocation) → Sound w.pass w.section r (answer w r)
sound w r = step_sound w.pass w.section r

rising : (w : Walk) (rs : List Relocation) → Rising w.pass.last (offsets w rs)
rising w [] = tt
rising w (r ∷ rs) = rises w.pass w.section r (answer w r) (offsets (stepped w r) rs) (sound w r) (rising (stepped w r) rs)

apart : (w : Walk) (rs : List Relocation) → Apart w.pass.window (parts w rs)
apart w [] = tt
apart w (r ∷ rs) = stays_apart w.pass w.section r (answer w r) (parts (stepped w r) rs) (sound w r) (apart (stepped w r) rs)

lies_inside : (w : Walk) (rs : List Relocation) → Inside (length w.section) (parts w rs)
lies_inside w [] = tt
lies_inside w (r ∷ rs) =
    lies w.pass w.section r (answer w r) (parts (stepped w r) rs) (sound w r)
    (subst (λ (n : ℕ). Inside n (parts (stepped w r) rs)) (sized w.pass w.section r (answer w r) (sound w r)) (lies_inside (stepped w r) rs))

held : (w : Walk) (rs : List Relocation) (i : ℕ) → Outside i (parts w rs) → get_or (walk w rs).section i 0 ≡ get_or w.section i 0
held w [] i h = refl
held w (r ∷ rs) i h =
    let g = keeps w.pass w.section r (answer w r) i (parts (stepped w r) rs) (sound w r) h in
    held (stepped w r) rs i g.1 ∙ g.0

size : (w : Walk) (rs : List Relocation) → length (walk w rs).section ≡ length w.section
size w [] = refl
size w (r ∷ rs) = size (stepped w r) rs ∙ sized w.pass w.section r (answer w r) (sound w r)

-- a byte below them all lies in none
below : (i b : ℕ) (xs : List Part) → i < b → Apart b xs → Outside i xs
below i b [] l h = tt
below i b (x ∷ xs) l h = (inl (lt_of_lt_of_le l h.0), below i x.to xs (lt_of_lt_of_le l (le_trans h.0 (le_of_lt h.1))) h.2)

settled : (w : Walk) (rs : List Relocation) (i : ℕ) → i < w.pass.window → get_or (walk w rs).section i 0 ≡ get_or w.section i 0
settled w rs i l = held w rs i (below i w.pass.window (parts w rs) l (apart w rs))

-- ---- a chain of windows, each past the one before it, has no two that overlap

low : Part
low = record { from = 0; to = 0 }

above : (b : ℕ) (xs : List Part) (j : ℕ) → Apart b xs → j < length xs → b ≤ (get_or xs j low).from
above b [] j h l = absurd (not-suc-le-zero l)
above b (x ∷ xs) zero h l = h.0
above b (x ∷ xs) (suc j) h l = le_trans h.0 (le_trans (le_of_lt h.1) (above x.to xs j h.2 (le_of_suc-le-suc l)))

pairwise : (b : ℕ) (xs : List Part) (i j : ℕ) → Apart b xs → i < j → j < length xs → (get_or xs i low).to ≤ (get_or xs j low).from
pairwise b [] i j h l g = absurd (not-suc-le-zero g)
pairwise b (x ∷ xs) i zero h l g = absurd (not-suc-le-zero l)
pairwise b (x ∷ xs) zero (suc j) h l g = above x.to xs j h.2 (le_of_suc-le-suc g)
pairwise b (x ∷ xs) (suc i) (suc j) h l g = pairwise x.to xs i j h.2 (le_of_suc-le-suc l) (le_of_suc-le-suc g)

-- ---- a record that is met while a skip is pending, and one that is none

meets :
    (w : Walk) (r : Relocation) (c : Choice)
    → w.pass.ended ≡ false → choosing link_limit w.section r ≡ Ok c → ltb r.offset w.pass.last ≡ false → is_pending w.pass ≡ true
    → answer w r ≡ cond (eqb r.r_type 0) (Ok (took unrelaxed)) (Ok skipped)
unfolding stepping checked
meets w r c e h l q = rw (e, h, l, q)

leaves : (w : Walk) (r : Relocation) → answer w r ≡ Ok (took unrelaxed) → stepped w r ≡ last_at r.offset w
unfolding pass_left bytes_after after_relaxing
leaves w r e = rw e

-- ---- a pending skip: an accepted record of another type than 0 is skipped, and one of type 0 moves the last offset

waiting : (w : Walk) (r : Relocation) (a : Answer Accepted) → Sound w.pass w.section r a → is_pending w.pass ≡ true → (is_type0 r || is_refused a) ≡ true
    → record { pass = pass_left w.pass r a; section = bytes_after w.section a } ≡ last_at (pass_left w.pass r a).last w
unfolding pass_left bytes_after after_relaxing
waiting w r (Err n) s q b = refl
waiting w r (Ok (took unrelaxed)) s q b = refl
waiting w r (Ok skipped) s q b = absurd (false≢true (rw s.2.1 at b))
waiting w r (Ok (took (relaxed k t m x))) s q b = absurd (false≢true (sym s.2.0 ∙ q))

waits : (w : Walk) (rs : List Relocation) → is_pending w.pass ≡ true → between w rs ≡ true → walk w rs ≡ last_at (walk w rs).pass.last w
waits w [] q b = refl
waits w (r ∷ rs) q b =
    let h = and_parts (is_type0 r || is_refused (answer w r)) (between (stepped w r) rs) b in
    let s = waiting w r (answer w r) (sound w r) q h.0 in
    waits (stepped w r) rs (ap (λ (v : Walk). is_pending v.pass) s ∙ q) h.1 ∙ ap (last_at (walk (stepped w r) rs).pass.last) s

next : (w : Walk) (r : Relocation) (a : Accepted) → Sound w.pass w.section r (Ok a) → is_pending w.pass ≡ true → is_type0 r ≡ false → a ≡ skipped
next w r skipped s q z = refl
next w r (took unrelaxed) s q z = absurd (false≢true (sym z ∙ s.2 q))
next w r (took (relaxed k t m x)) s q z = absurd (false≢true (sym s.2.0 ∙ q))

sets : (w : Walk) (r : Relocation) (a : Answer Accepted) → is_pending w.pass ≡ false → is_pending (pass_left w.pass r a) ≡ sets_skip a
unfolding pass_left
sets w r (Err n) q = q
sets w r (Ok skipped) q = refl
sets w r (Ok (took unrelaxed)) q = q
sets w r (Ok (took (relaxed k t m x))) q = refl

set : (w : Walk) (r : Relocation) (a : Answer Accepted) → Sound w.pass w.section r a → sets_skip a ≡ true → ((pass_left w.pass r a).ended ≡ false) × (is_pending (pass_left w.pass r a) ≡ true)
unfolding pass_left
set w r (Ok (took (relaxed k t m x))) s q = (s.0, q)
set w r (Ok (took unrelaxed)) s q = absurd (false≢true q)
set w r (Ok skipped) s q = absurd (false≢true q)
set w r (Err n) s q = absurd (false≢true q)

module _ (w : Walk) (s : Relocation) (rs : List Relocation) (q : sets_skip (answer w s) ≡ true) (b : between (stepped w s) rs ≡ true) where
  here : Walk
  here = walk (stepped w s) rs

  begun : ((stepped w s).pass.ended ≡ false) × (is_pending (stepped w s).pass ≡ true)
  begun = set w s (answer w s) (sound w s) q

  stays : here ≡ last_at here.pass.last (stepped w s)
  unfolding here
  stays = waits (stepped w s) rs begun.1 b

  pending : is_pending here.pass ≡ true
  pending = ap (λ (v : Walk). is_pending v.pass) stays ∙ begun.1

  pair : (ending here.pass ≡ Err SkipPending)
      × ((r : Relocation) (a : Accepted) → is_type0 r ≡ false → answer here r ≡ Ok a → (a ≡ skipped) × (is_pending (stepped here r).pass ≡ false))
  unfolding pass_left
  pair = (
    rw (ap (λ (v : Walk). v.pass.ended) stays ∙ begun.0, pending),
    λ r a z g.
        let n = next here r a (subst (Sound here.pass here.section r) g (sound here r)) pending z in
        (n, rw (g ∙ ap (λ (y : Accepted). Ok y) n)),
  )

pub walks : Walks
unfolding low here
walks =
    record {
      order = order;
      joined = joined;
      works = works;
      over = over;
      meets = meets;
      leaves = leaves;
      waits = waits;
      pair = pair;
      only = λ w r e. (subst (Sound w.pass w.section r) e (sound w r)).2;
      sets = λ w r. sets w r (answer w r);
      rising = rising;
      apart = apart;
      no_overlap = λ w rs i j l g. pairwise w.pass.window (parts w rs) i j (apart w rs) l g;
      inside = lies_inside;
      kept = held;
      settled = settled;
      size = size;
    }
