-- Numbers that document 01 fixes for the values of Vdatas, each named once: their tag. Assumes nothing.
use Rattle.std.specs.Prelude.{ℕ}

abbrev pub values_tag : ℕ
values_tag = 1963
