use Rattle.std.proofs.Common.{◌∙◌, rules}
use Rattle.bds_source_acts.proofs.CommandLists.{joined_is}
use Rattle.bds_source_acts.proofs.commands.joined_commands.Goals as goal

pub returns-in-Ok : goal.returns-in-Ok
returns-in-Ok c = c.text_of.ensures ∙ joined_is c.args.names.now c.args.at _ c.args.others.now _ _ (search rules) c.in-Ok.ensures
