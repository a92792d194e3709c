-- `vgroup::group::parse` meets its contract. Assumes nothing.
use mathlib.Core.Path.{◌∙◌}
use Rattle.vgroup.proofs.Groups
use Rattle.vgroup.proofs.group.parse.Goals as goal

pub returns : goal.returns
returns c = Groups.group_parsed _ _ _ c.read16-members.ensures (c.parse.ensures ∙ Groups.no_names c.args.part.now _)
