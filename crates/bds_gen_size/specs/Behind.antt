-- For private contracts alone: the names in force, as the counting of sizes keeps them. Numbers are of no matter there.
use Rattle.std.specs.Prelude.{ℕ, codes, Option, Some, None, List, [], ◌∷◌}
use Rattle.bds_value.specs.declared.value.Ty.{Ty}
use Rattle.bds_value.specs.declared.value.Ty.TheVariants as ty
use Rattle.bds_tree.specs.declared.stmt.Parameter.{Parameter}
use Rattle.bds_tree.specs.StmtTree.{SmallTree, StmtTree, PartTree, a_function, an_include, a_statement}
use Rattle.bds_check_names.specs.declared.names.Variable.{Variable}
use Rattle.bds_check_rules.specs.Declarations.{declared_by, declared_by_small}
use Rattle.bds_gen_expr.specs.Scope.{with_slot, with_one_global}
use Rattle.bds_gen_expr.specs.declared.scope.Scope.{Scope}

abbrev pub with_name : Scope → List ℕ → Ty → Scope
with_name sc x t = with_slot sc x t 0

-- behind what declares this local, or none
abbrev pub scope_with : Scope → Option Variable → Scope
scope_with sc None = sc
scope_with sc (Some v) = with_name sc v.name v.ty

-- behind a statement of a block
abbrev pub scope_behind : StmtTree → Scope → Scope
scope_behind s sc = scope_with sc (declared_by s)

abbrev pub scope_behind_small : Option SmallTree → Scope → Scope
scope_behind_small s sc = scope_with sc (declared_by_small s)

-- At the top level, where declarations make globals

abbrev pub with_global_name : Scope → List ℕ → Ty → Scope
with_global_name sc x t = with_one_global sc x t 0

-- behind what declares this global, or none
abbrev pub scope_with_global : Scope → Option Variable → Scope
scope_with_global sc None = sc
scope_with_global sc (Some v) = with_global_name sc v.name v.ty

abbrev pub scope_behind_top : StmtTree → Scope → Scope
scope_behind_top s sc = scope_with_global sc (declared_by s)

abbrev pub scope_behind_part : PartTree → Scope → Scope
scope_behind_part (a_function f) sc = sc
scope_behind_part (an_include i) sc = sc
scope_behind_part (a_statement s) sc = scope_behind_top s sc

abbrev pub first_scope : Scope
first_scope = with_global_name (record { locals = []; globals = []; functions = [] }) (codes "args") (ty.List ty.Text)

abbrev pub with_parameters : Scope → List Parameter → Scope
with_parameters sc [] = sc
with_parameters sc (p ∷ ps) = with_parameters (with_name sc p.name p.ty) ps
