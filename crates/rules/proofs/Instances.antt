-- The worked instances meet every premise: the tests are computed, filling among them.
-- Assumes nothing.
use Rattle.std.specs.Prelude.{Ok, Err}
use mathlib.Core.Path.{◌≡◌, refl, sym, subst}
use mathlib.Core.Bool.{◌&&◌}
use Prim.Native.Nat.{◌+◌, ◌-◌}
use lib.Dec.{T, leb, leb→le}
use lib.ListN.{length, get_or}
use Rattle.rules.specs.Answer.{Answer}
use Rattle.rules.specs.Record.{link_limit}
use Rattle.rules.specs.Rewrite.{rewriting, Relaxed, unrelaxed, relaxed}
use Rattle.rules.specs.Fill.{Fill, unfilled, filled, filling, after_filling}
use Rattle.rules.specs.Range.{read_back}
use Rattle.rules.specs.Machine.{field4, read4, read8, write8, put, result, exec, push, by_digit, via_rip, on_register, opcode, decode, step_at, rip_relative}
use Rattle.rules.specs.Meaning.{covered, head, begins, start, Instruction}
use Rattle.rules.specs.Instances.{Case, state_of, relaxing_of, field_of, fill_after, is_filled, meets, Instance, MeaningWorked}
use Rattle.laws.proofs.Bools.{and_left, and_right}
use Rattle.rules.proofs.Fill.{exact}
use Rattle.rules.proofs.OnLiterals.{relaxing_on_literals}
use Rattle.rules.proofs.Theorem.{same_meaning_of}

module _ (c : Case) (i : Instruction c.section c.record') where
  from : (a : Answer Relaxed) → relaxing_of c ≡ a → T (is_filled (fill_after c a)) → Instance c
  from (Err n) e t = absurd t
  from (Ok unrelaxed) e t = absurd t
  from (Ok (relaxed k n m x)) e t = fill (filling link_limit x.bytes (field_of c n x)) refl t where
    fill : (y : Answer Fill) → filling link_limit x.bytes (field_of c n x) ≡ y → T (is_filled y) → Instance c
    fill (Err r) q u = absurd u
    fill (Ok unfilled) q u = absurd u
    fill (Ok (filled new)) q u =
        record {
          instruction = i;
          kind = k;
          new_type = n;
          mandatory = m;
          result = x;
          relaxes = e;
          new = new;
          fills = q;
          holds = (exact link_limit x.bytes (field_of c n x)).leaves c.base (λ _. refl) new q;
          alike = ((same_meaning_of c.section).relaxes link_limit c.record' i k n m x e).by_fill c.base (state_of c) new link_limit q;
        }

instance : (c : Case) → T (meets c) → Instance c
instance c t =
    let r = c.record' in
    let a = covered r.r_type in
    let b = leb (head r.r_type) r.offset in
    let d = leb (r.offset + 4) (length c.section) in
    let e = begins r.r_type (get_or c.section (start r) 0) in
    let f = rip_relative (get_or c.section (r.offset - 1) 0) in
    let g = is_filled (fill_after c (relaxing_of c)) in
    let t5 = and_left (a && b && d && e && f) g t in
    let t4 = and_left (a && b && d && e) f t5 in
    let t3 = and_left (a && b && d) e t4 in
    let t2 = and_left (a && b) d t3 in
    from c
    (record {
      type = and_left a b t2;
      low = leb→le (head r.r_type) r.offset (and_right a b t2);
      whole = leb→le (r.offset + 4) (length c.section) (and_right (a && b) d t3);
      first = and_right (a && b && d) e t4;
      rip = and_right (a && b && d && e) f t5;
    })
    (relaxing_of c) refl (and_right (a && b && d && e && f) g t)

pub worked : MeaningWorked
unfolding relaxing_on_literals rewriting filling after_filling read_back field4 read4 read8 write8 put result exec push by_digit via_rip on_register opcode decode step_at
worked =
    record {
      all = refl;
      instances = λ c e. instance c (subst T (sym e) tt);
      kinds = refl;
      steps = refl;
      sections = refl;
      r13 = refl;
      rbp = refl;
      r16 = refl;
      r8 = refl;
    }
