-- What the rules of slots come to, block by block. Assumes nothing.
use Rattle.std.specs.Prelude.{ℕ, ◌+◌, ◌*◌, ◌-◌, ◌≤◌, ◌≡◌, List, [], Result, Ok, Err}
use Rattle.answer.specs.Refusals.{number_of}
use Rattle.answer.specs.Answer.{refuse}
use Rattle.answer.specs.declared.Refusal.{Refusal}
use Rattle.directory.specs.Opening.{slots_from}
use Rattle.directory.specs.Links.{slots_after, block_after, blocks_after}
use Rattle.directory.specs.Steps.Gaps.{Placed}
use Rattle.directory.specs.declared.Checked.{Checked}

-- after k blocks, so many slots are live: what the slots of the others answer is the answer
pub record Reached (s : List ℕ) (blocks k live : ℕ) : Type 0 where
  pub answers : let bs = blocks_after s blocks 4 in
      slots_from s bs (slots_after s k 4) (slots_after s (blocks - k) (block_after s k 4)) live ≡ slots_from s bs [] (slots_after s blocks 4) 0
  pub few : live ≤ 65536 * k

-- the slots of block k break a rule, which is the answer, or none
abbrev pub Checks : List ℕ → ℕ → ℕ → Result Checked Refusal → Type 0
Checks s blocks k (Ok c) = Reached s blocks (k + 1) c.live × Placed s blocks c.gap
Checks s blocks k (Err r) = slots_from s (blocks_after s blocks 4) [] (slots_after s blocks 4) 0 ≡ refuse 3 (number_of r.rule) r.place
