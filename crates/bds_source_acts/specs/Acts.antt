-- Acts that hold no statement.
use Rattle.std.specs.Prelude.{Bool, true, false, []}
use Rattle.bds_value.specs.declared.value.At.{At}
use Rattle.bds_tree.specs.StmtTree.{ActFormTree, par_block}
use Rattle.bds_check_names.specs.declared.names.Names.{Names}
use Rattle.bds_meaning.specs.OpeningStatements as statements
use Rattle.bds_meaning.specs.Term.{Term}

-- whether an act is a `par` block
abbrev pub is_par : ActFormTree → Bool
is_par (par_block b) = true
is_par _ = false

-- nothing that was set counts for another act
abbrev pub plain_act : Names → At → ActFormTree → Term
plain_act names at f = statements.act_form_term [] names at f
