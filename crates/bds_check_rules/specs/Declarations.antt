-- The variable that a statement declares whose parts have their types, and the names in force behind it.
use Rattle.std.specs.Prelude.{Option, Some, None}
use Rattle.bds_tree.specs.Tree.{type_of}
use Rattle.bds_tree.specs.StmtTree.{SmallFormTree, small_declare, small_infer, SmallTree}
use Rattle.bds_tree.specs.StmtTree.{StmtTree, StmtFormTree, LineTree, stmt, line, declare, infer}
use Rattle.bds_check_names.specs.declared.names.Variable.{Variable}
use Rattle.bds_check_names.specs.declared.names.Names.{Names}
use Rattle.bds_check_names.specs.declared.names.Site.{Site}
use Rattle.bds_check_names.specs.Scopes.{variable, declare as with_variable}
use Rattle.bds_check_rules.specs.StmtBreaks.{right_type}

abbrev pub declared_by_line : LineTree → Option Variable
declared_by_line (declare t x r) = Some (variable x t)
declared_by_line (infer x r) = Some (variable x (right_type r))
declared_by_line _ = None

-- no form but a line declares one that is in force behind it
abbrev pub declared_by_form : StmtFormTree → Option Variable
declared_by_form (line l) = declared_by_line l
declared_by_form _ = None

abbrev pub declared_by : StmtTree → Option Variable
declared_by (stmt at f) = declared_by_form f

-- by a part of the head of a `for`

abbrev pub declared_by_small_form : SmallFormTree → Option Variable
declared_by_small_form (small_declare t x e) = Some (variable x t)
declared_by_small_form (small_infer x e) = Some (variable x (type_of e))
declared_by_small_form _ = None

abbrev pub declared_by_small : Option SmallTree → Option Variable
declared_by_small None = None
declared_by_small (Some s) = declared_by_small_form s.form

-- the names in force behind what declares this variable, or none
abbrev pub names_with : Names → Site → Option Variable → Names
names_with names site None = names
names_with names site (Some v) = with_variable names site v.name v.ty
