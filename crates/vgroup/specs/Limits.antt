-- Numbers that document 01 fixes for Vgroups and their listing, each named once: their tag and limits.
-- Assumes nothing.
use Rattle.std.specs.Prelude.{ℕ}

abbrev pub group_tag : ℕ
group_tag = 1965

-- how many groups may be entered, one in the other, the named one included
abbrev pub most_groups : ℕ
most_groups = 16

abbrev pub most_pairs : ℕ
most_pairs = 4096
