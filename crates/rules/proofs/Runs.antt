-- The machine takes the CPU's steps: antt computes each. Assumes nothing.
use mathlib.Core.Path.{◌≡◌, refl}
use Prim.Native.Nat.{◌+◌, ◌-◌, ◌%◌}
use native.Mathlib.Omega.{arith}
use Rattle.rules.specs.Range.{read_back}
use Rattle.rules.specs.Machine.{field4, read4, read8, write8, put, even_parity, negative, same_sign, result, flags_after, exec, push, by_digit, via_rip, on_register, opcode, decode, word, step_at, run}
use Rattle.rules.specs.Runs.{Measured}

pub measured : Measured
unfolding read_back field4 read4 read8 write8 put even_parity negative same_sign result flags_after exec push by_digit via_rip on_register opcode decode step_at run
measured =
    record {
      steps = refl;
      stops = refl;
      first = λ sec at base s h. let e : ((base + at) % word + (word - base % word)) % word ≡ at = omega arith in rw e;
      folds = refl;
    }
