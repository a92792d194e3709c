-- What the functions behind the calls leave of a tail. Assumes nothing.
use Rattle.std.specs.Prelude.{List, ◌++◌, ℕ, length}
use Rattle.wire.specs.Numbers.{bytes}
use Rattle.vset.specs.declared.tail.Ending.{Ending}

-- a text with its length before it
abbrev pub text_bytes : List ℕ → List ℕ
text_bytes text = bytes 2 (length text) ++ text

-- the numbers after name and class
abbrev pub ending_bytes : Ending → List ℕ
ending_bytes x = bytes 2 x.extension_tag ++ (bytes 2 x.extension_ref ++ (bytes 2 x.version ++ bytes 2 x.more))
