use Rattle.std.proofs.Common.{◌≡◌, ◌++◌, drop, map}
use Rattle.bds_source_acts.specs.Commands.{further_parts}
use Rattle.bds_source_terms.specs.View.{term_of}
use Rattle.bds_source_acts.proofs.commands.put_further.Given as goal

abbrev pub invariant-loop-command : goal.invariant-loop-command
invariant-loop-command l = map term_of l.parts ++ further_parts l.names (drop l.command-index l.commands) ≡ map term_of l.fn.parts ++ further_parts l.names l.commands
