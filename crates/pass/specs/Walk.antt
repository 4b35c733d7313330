-- What a walk over a list of records means: the step, folded, and what holds of every walk from any pass over any section. Assumes nothing.
use Rattle.std.specs.Prelude.{◌≡◌, ◌⊎◌, Bool, true, false, cond, ◌||◌, ◌&&◌, List, [], ◌∷◌, ◌++◌, map, ℕ, ◌<◌, ◌≤◌, eqb, ltb, length, get_or, Ok, Err}
use Rattle.rules.specs.Answer.{Answer}
use Rattle.refusal.specs.declared.Refusal.TheVariants.{PassEnded, SkipPending}
use Rattle.x86_64_kind.specs.declared.RelaxationKind.{RelaxationKind}
use Rattle.x86_64_kind.specs.declared.Window.{Window}
use Rattle.x86_64_kind.specs.Kinds.{is_empty, begin, end, skips}
use Rattle.rules.specs.declared.Relocation.{Relocation}
use Rattle.rules.specs.Record.{link_limit}
use Rattle.rules.specs.Choose.{Choice, choosing}
use Rattle.rules.specs.Rewrite.{Rewritten, unrelaxed, relaxed, claims, relaxing}
use Rattle.pass.specs.declared.Pass.{Pass}
use Rattle.pass.specs.Pass.{Accepted, took, skipped, is_pending, is_type0, overlaps, stepping, pass_left, bytes_after, ending}

-- a pass and its section
pub record Walk : Type 0 where
  pub pass : Pass
  pub section : List ℕ

-- a record's answer, and the walk one record further
abbrev pub answer : Walk → Relocation → Answer Accepted
answer w r = stepping w.pass w.section r

abbrev pub stepped : Walk → Relocation → Walk
stepped w r =
    let a = answer w r in
    record { pass = pass_left w.pass r a; section = bytes_after w.section a }

-- a whole walk, and the answers on the way
abbrev pub walk : Walk → List Relocation → Walk
walk w [] = w
walk w (r ∷ rs) = walk (stepped w r) rs

abbrev pub answers : Walk → List Relocation → List (Answer Accepted)
answers w [] = []
answers w (r ∷ rs) = answer w r ∷ answers (stepped w r) rs

-- ---- what is told of a walk

-- the offsets of the accepted records
abbrev pub offset_of : ℕ → Answer Accepted → List ℕ
offset_of off (Ok a) = off ∷ []
offset_of off (Err n) = []

abbrev pub offsets : Walk → List Relocation → List ℕ
offsets w [] = []
offsets w (r ∷ rs) = offset_of r.offset (answer w r) ++ offsets (stepped w r) rs

-- the windows of the relaxed records that aren't empty: from a byte up to another, which isn't included
pub record Part : Type 0 where
  pub from : ℕ
  pub to : ℕ

abbrev pub part_from : Window → ℕ → List Part
part_from w off = cond (is_empty w) [] (record { from = begin w off; to = end w off } ∷ [])

abbrev pub part_of : ℕ → Answer Accepted → List Part
part_of off (Ok (took (relaxed k t m x))) = part_from (claims k t) off
part_of off (Ok (took unrelaxed)) = []
part_of off (Ok skipped) = []
part_of off (Err n) = []

abbrev pub parts : Walk → List Relocation → List Part
parts w [] = []
parts w (r ∷ rs) = part_of r.offset (answer w r) ++ parts (stepped w r) rs

-- each is at least the one before it, and the first at least `low`
abbrev pub Rising : ℕ → List ℕ → Type 0
Rising low [] = Unit {0}
Rising low (o ∷ os) = (low ≤ o) × Rising o os

-- each holds a byte, and begins at or past the end of the one before it, the first at or past `low`
abbrev pub Apart : ℕ → List Part → Type 0
Apart low [] = Unit {0}
Apart low (x ∷ xs) = (low ≤ x.from) × (x.from < x.to) × Apart x.to xs

-- each ends at or before `high`
abbrev pub Inside : ℕ → List Part → Type 0
Inside high [] = Unit {0}
Inside high (x ∷ xs) = (x.to ≤ high) × Inside high xs

-- a byte that lies in none
abbrev pub Outside : ℕ → List Part → Type 0
Outside i [] = Unit {0}
Outside i (x ∷ xs) = ((i < x.from) ⊎ (x.to ≤ i)) × Outside i xs

abbrev pub is_refused : Answer Accepted → Bool
is_refused (Err n) = true
is_refused (Ok a) = false

-- a record that set a skip: it was relaxed by a kind that says so
abbrev pub sets_skip : Answer Accepted → Bool
sets_skip (Ok (took (relaxed k t m x))) = skips k
sets_skip (Ok (took unrelaxed)) = false
sets_skip (Ok skipped) = false
sets_skip (Err n) = false

-- each is "a type 0 record", or is refused where it stands
abbrev pub between : Walk → List Relocation → Bool
between w [] = true
between w (r ∷ rs) = (is_type0 r || is_refused (answer w r)) && between (stepped w r) rs

-- only the last offset is another
abbrev pub last_at : ℕ → Walk → Walk
last_at n w = record { pass = record { last = n; window = w.pass.window; skip = w.pass.skip; ended = w.pass.ended }; section = w.section }

-- ---- what holds of every walk

pub record Walks : Type 0 where
  -- "the step order, which holds at every record": wherever a record stands, its answer is the step's, from what the records before it
  -- left; these two hold of any step folded, and the next says that the step is not idle
  pub order :
      (w : Walk) (before : List Relocation) (r : Relocation) (rest : List Relocation)
      → answers w (before ++ r ∷ rest) ≡ answers w before ++ answer (walk w before) r ∷ answers (stepped (walk w before) r) rest
  pub joined : (w : Walk) (before rest : List Relocation) → walk w (before ++ rest) ≡ walk (walk w before) rest
  -- a record that relaxing one record relaxes is relaxed, wherever it stands, unless 21, 22, 23 or the skip says otherwise
  pub works :
      (w : Walk) (r : Relocation) (c : Choice) (k : RelaxationKind) (t : ℕ) (m : Bool) (x : Rewritten)
      → w.pass.ended ≡ false → choosing link_limit w.section r ≡ Ok c → ltb r.offset w.pass.last ≡ false → is_pending w.pass ≡ false
      → relaxing link_limit w.section r ≡ Ok (relaxed k t m x) → overlaps w.pass (claims k t) r.offset ≡ false
      → answer w r ≡ Ok (took (relaxed k t m x))
  -- a pass that has ended answers 21 to every record, and nothing changes
  pub over : (w : Walk) (rs : List Relocation) → w.pass.ended ≡ true → (answers w rs ≡ map (λ _. Err PassEnded) rs) × (walk w rs ≡ w)
  -- a record met while a skip is pending, unless 21, 1, 2, 3, 4 or 22 refuse it: none if its own type is 0, and skipped otherwise
  pub meets :
      (w : Walk) (r : Relocation) (c : Choice)
      → w.pass.ended ≡ false → choosing link_limit w.section r ≡ Ok c → ltb r.offset w.pass.last ≡ false → is_pending w.pass ≡ true
      → answer w r ≡ cond (eqb r.r_type 0) (Ok (took unrelaxed)) (Ok skipped)
  -- a record that is none, whether a skip is pending or not, sets the last offset and nothing else
  pub leaves : (w : Walk) (r : Relocation) → answer w r ≡ Ok (took unrelaxed) → stepped w r ≡ last_at r.offset w
  -- "a type 0 record met while a skip is pending .. leaves the skip pending": any number of them, refused records among them, move the
  -- last offset and nothing else
  pub waits : (w : Walk) (rs : List Relocation) → is_pending w.pass ≡ true → between w rs ≡ true → walk w rs ≡ last_at (walk w rs).pass.last w
  -- whatever such records stand behind one that set a skip: "Ending then still gives 24", and the next record of another type that is
  -- accepted is the one that is skipped, with no skip pending then
  pub pair :
      (w : Walk) (s : Relocation) (rs : List Relocation) → sets_skip (answer w s) ≡ true → between (stepped w s) rs ≡ true
      → let here = walk (stepped w s) rs in
      (ending here.pass ≡ Err SkipPending)
      × ((r : Relocation) (a : Accepted) → is_type0 r ≡ false → answer here r ≡ Ok a → (a ≡ skipped) × (is_pending (stepped here r).pass ≡ false))
  -- no other record is ever skipped: only while a skip is pending, which no other record sets
  pub only : (w : Walk) (r : Relocation) → answer w r ≡ Ok skipped → (is_pending w.pass ≡ true) × (is_type0 r ≡ false)
  pub sets : (w : Walk) (r : Relocation) → is_pending w.pass ≡ false → is_pending (stepped w r).pass ≡ sets_skip (answer w r)
  -- offsets never fall
  pub rising : (w : Walk) (rs : List Relocation) → Rising w.pass.last (offsets w rs)
  -- windows never overlap: none begins before the end of the last one, and so none before the end of any
  pub apart : (w : Walk) (rs : List Relocation) → Apart w.pass.window (parts w rs)
  pub no_overlap :
      (w : Walk) (rs : List Relocation) (i j : ℕ) → i < j → j < length (parts w rs)
      → (get_or (parts w rs) i (record { from = 0; to = 0 })).to ≤ (get_or (parts w rs) j (record { from = 0; to = 0 })).from
  -- every window lies inside the section
  pub inside : (w : Walk) (rs : List Relocation) → Inside (length w.section) (parts w rs)
  -- a byte outside all windows is as it was
  pub kept : (w : Walk) (rs : List Relocation) (i : ℕ) → Outside i (parts w rs) → get_or (walk w rs).section i 0 ≡ get_or w.section i 0
  -- a byte before the last window's end is final: what relaxing a record wrote stays as it is
  pub settled : (w : Walk) (rs : List Relocation) (i : ℕ) → i < w.pass.window → get_or (walk w rs).section i 0 ≡ get_or w.section i 0
  pub size : (w : Walk) (rs : List Relocation) → length (walk w rs).section ≡ length w.section
