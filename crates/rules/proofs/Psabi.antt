-- Every answer of the lookup conforms to the psABI: one list of what the 39 rows hold, one of what the psABI states of their numbers, and
-- antt computes that the two are the same; and the psABI's numbers, without those of the 39 rows, are the numbers left out.
-- Assumes nothing.
use Rattle.std.specs.Prelude.{Ok, Err}
use mathlib.Core.Path.{◌≡◌, refl, ap, sym, ◌∙◌}
use mathlib.Core.Bool.{Bool, true, false, cond, ◌||◌}
use mathlib.Core.List.{List, [], ◌∷◌, map}
use Prim.Native.Nat.{ℕ}
use lib.Dec.{eqb}
use borrow.Author.Tests.{eqb-true}
use Rattle.rules.specs.Answer.{Answer}
use Rattle.refusal.specs.declared.Refusal.TheVariants.{UnknownType}
use Rattle.rules.specs.Range.{byte_range}
use Rattle.rules.specs.Types.{Row, Entry, earlier_types, later_types, types, find, lookup}
use Rattle.rules.specs.Psabi.{table, numbers, among, psabi, is_listed, left_out_types, is_left_out, holds, stated_value, stated_range, row_facts, psabi_facts, Conforms, agrees, left_out, LeftOutRows, DynamicNames}

rows : map (λ (e : Entry). row_facts e.info) types ≡ map (λ (e : Entry). psabi_facts e.type) types
unfolding earlier_types later_types byte_range holds table is_listed left_out_types is_left_out psabi stated_value stated_range
rows = refl

abbrev keys : List ℕ
keys = map (λ (e : Entry). e.type) types

abbrev without : List ℕ → List ℕ → List ℕ
without ks [] = []
without ks (n ∷ ns) = cond (among n ks) (without ks ns) (n ∷ without ks ns)

parted : without keys numbers ≡ left_out_types
unfolding earlier_types later_types table left_out_types
parted = refl

-- ---- from the lists to the answer at any number

one : (e : Entry) (x : Answer Row) (t : ℕ) → row_facts e.info ≡ psabi_facts e.type → (b : Bool) → eqb t e.type ≡ b → (b ≡ false → Conforms t x) → Conforms t (cond b (Ok e.info) x)
one e x t h true q k = rw (eqb-true t e.type q) (agrees h)
one e x t h false q k = k refl

found :
    (es : List Entry) (t : ℕ) → map (λ (e : Entry). row_facts e.info) es ≡ map (λ (e : Entry). psabi_facts e.type) es
    → (among t (map (λ (e : Entry). e.type) es) ≡ false → Conforms t (Err UnknownType)) → Conforms t (find es t)
found [] t p k = k refl
found (e ∷ es) t p k =
    one e (find es t) t (cc) (eqb t e.type) refl (λ q. found es t (cc) (λ r. k (rw (q, r))))

-- a number that is none of the keys is among the numbers where it is among those without the keys
away : (ks : List ℕ) (t : ℕ) → among t ks ≡ false → (ns : List ℕ) → among t ns ≡ among t (without ks ns)
away ks t h [] = refl
away ks t h (n ∷ ns) = by (among n ks) refl (eqb t n) refl (away ks t h ns) where
  by : (k : Bool) → among n ks ≡ k → (b : Bool) → eqb t n ≡ b → among t ns ≡ among t (without ks ns) → b || among t ns ≡ among t (cond k (without ks ns) (n ∷ without ks ns))
  by false p b q e = rw (q, e)
  by true p false q e = e
  by true p true q e = let z : ◌≡◌ {A = Bool} true false = sym p ∙ (rw (eqb-true t n q) at h) in cc

pub conforms : (t : ℕ) → Conforms t (lookup t)
unfolding lookup is_listed is_left_out
conforms t = found types t rows (λ r. left_out (away keys t r numbers ∙ ap (among t) parted))

pub left_out_rows : LeftOutRows
unfolding earlier_types later_types table left_out_types psabi
left_out_rows = record { count = refl; fields = refl; alike = refl; from_64 = refl; own = refl }

pub dynamic_names : DynamicNames
unfolding table psabi
dynamic_names = record { names = refl }
