-- The kinds of `RelocationKind` that x86-64 uses: what a field is to hold. The enum is the code's own. Assumes nothing.
use Rattle.std.specs.Prelude.{ℕ}
use Rattle.elf_kind.specs.declared.RelocationKind.{RelocationKind}
use Rattle.elf_kind.specs.declared.RelocationKind.TheVariants.{Absolute, SymbolSize, Relative, SymRelGotBase, GotRelGotBase, PltRelGotBase, PltRelative, GotRelative}
use Rattle.elf_kind.specs.declared.RelocationKind.TheVariants.{TlsGd, TlsLd, DtpOff, GotTpOff, TpOff, TlsDesc, TlsDescCall, None}

-- a kind's place in the Rust's order among these sixteen, from 0: its number in the interface
abbrev pub kind_number : RelocationKind → ℕ
kind_number Absolute = 0
kind_number SymbolSize = 1
kind_number Relative = 2
kind_number SymRelGotBase = 3
kind_number GotRelGotBase = 4
kind_number PltRelGotBase = 5
kind_number PltRelative = 6
kind_number GotRelative = 7
kind_number TlsGd = 8
kind_number TlsLd = 9
kind_number DtpOff = 10
kind_number GotTpOff = 11
kind_number TpOff = 12
kind_number TlsDesc = 13
kind_number TlsDescCall = 14
kind_number None = 15
