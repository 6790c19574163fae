-- What reading a script returns.
use Rattle.std.specs.Prelude.{◌≡◌, ⊤, Result, Ok, Err}
use Rattle.bds_tree.specs.declared.stmt.Script.{Script}
use Rattle.bds_tree.specs.StmtTree.{ScriptTree}
use Rattle.bds_tree.specs.StmtView.{script_of}
use Rattle.bds_parse_expr.specs.declared.fault.ParseFault.{ParseFault}
use Rattle.bds_parse_expr.specs.declared.fault.ParseFault.TheVariants as fault

-- this tree is returned, unless memory runs out
abbrev pub Returns : ScriptTree → Result Script ParseFault → Type 0
Returns t (Ok s) = script_of s ≡ t
Returns t (Err (fault.Syntax l)) = ⊥
Returns t (Err fault.NoMemory) = ⊤
