-- Numbers that document 01 fixes for heads of Vdatas, each named once: their tag and limits. Assumes nothing.
use Rattle.std.specs.Prelude.{ℕ}

abbrev pub head_tag : ℕ
head_tag = 1962

abbrev pub most_head_interlace : ℕ
most_head_interlace = 1

abbrev pub most_fields : ℕ
most_fields = 256
