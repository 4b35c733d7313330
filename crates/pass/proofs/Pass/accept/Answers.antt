-- A choice that is carried out, or not.
-- Assumes nothing.
use Rattle.std.proofs.Common.{rules, ◌≡◌, refl, Err, false}
use lib.Dec.{ltb}
use Rattle.pass.proofs.Steps.{by_overlap, by_relaxing}
use Rattle.pass.proofs.Pass.accept.Goals as goal

pub returns-in_err-pass : goal.returns-in_err-pass
returns-in_err-pass c =
    let a = c.args in
    let e : c.from_residual-in_err-pass.result ≡ Err c.in_err-pass.field-0.0 = search rules in
    let h = rw c.in-Some.is at c.in_ok-choice.ensures in
    let l : ltb a.rel.offset a.self.last ≡ false = search rules in
    rw e (by_overlap a.self a.section_bytes.now a.rel _ h c.if-self.false l c.if-self-2.false _ c.in_err-pass.ensures)

pub returns-in_err-relaxed : goal.returns-in_err-relaxed
returns-in_err-relaxed c =
    let a = c.args in
    let e : c.from_residual-in_err-relaxed.result ≡ Err c.in_err-relaxed.field-0.0 = search rules in
    let h = rw c.in-Some.is at c.in_ok-choice.ensures in
    let l : ltb a.rel.offset a.self.last ≡ false = search rules in
    rw e (by_relaxing a.self a.section_bytes.now a.rel _ h c.if-self.false l c.if-self-2.false _ c.in_ok-pass.ensures _ refl (c.in_err-relaxed.ensures.relaxes h))

pub returns : goal.returns
returns c =
    let a = c.args in
    let h = rw c.in-Some.is at c.in_ok-choice.ensures in
    let l : ltb a.rel.offset a.self.last ≡ false = search rules in
    by_relaxing a.self a.section_bytes.now a.rel _ h c.if-self.false l c.if-self-2.false _ c.in_ok-pass.ensures _ (search rules) (c.in_ok-relaxed.ensures.relaxes h)
