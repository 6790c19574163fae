-- Lines that have no right side, and the names and the end of a `for`.
use Rattle.std.specs.Prelude.{Bool, true, false, [], Option}
use Rattle.bds_value.specs.declared.value.At.{At}
use Rattle.bds_tree.specs.StmtTree.{SmallTree, LineTree, a_right, declare, infer, assign, update, return, act_line}
use Rattle.bds_check_names.specs.declared.names.Names.{Names}
use Rattle.bds_check_names.specs.declared.names.Site.{Site}
use Rattle.bds_check_names.specs.Scopes.{inner, top}
use Rattle.bds_meaning.specs.OpeningStatements as statements
use Rattle.bds_meaning.specs.Term.{Term, Block}

-- the names within a `for`, behind its first part
abbrev pub within_for : Names → Site → Option SmallTree → Names
within_for names site first = statements.behind_small names (inner names site) first

-- the last part of a `for`, as a block of its own
abbrev pub opened_last : Names → Option SmallTree → Term
opened_last names last = Block (statements.small_term names last)

-- a line that has no right side and is no act
abbrev pub is_plain : LineTree → Bool
is_plain (declare t x r) = false
is_plain (infer x r) = false
is_plain (assign p r) = false
is_plain (update p o r) = false
is_plain (return (a_right r)) = false
is_plain (act_line a) = false
is_plain _ = true

-- neither what was set nor the block in which it stands counts for such a line
abbrev pub plain_line : Names → At → LineTree → Term
plain_line names at l = statements.line_term [] names top at l
