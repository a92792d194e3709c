-- A refusal as one that carries a value. Assumes nothing.
use Rattle.answer.specs.declared.Refusal.{Refusal}
use Rattle.answer.specs.declared.Carrying.{Carrying}

-- one that is about no table or block has the value 0
abbrev pub carries_none : Refusal → Carrying
carries_none r = record { rule = r.rule; place = r.place; value = 0 }
