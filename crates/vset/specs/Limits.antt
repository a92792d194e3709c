-- The version that document 01 fixes for Vgroups and heads of Vdatas. Assumes nothing.
use Rattle.std.specs.Prelude.{ℕ}

abbrev pub only_version : ℕ
only_version = 3
