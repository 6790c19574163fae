-- A loop around changes nothing of what is in force.
use Rattle.std.proofs.Common.{◌≡◌, ℕ, List, Bool, true, false, Option, Some, None, length, refl, if◌then◌else◌}
use Rattle.bds_value.specs.declared.value.Ty.{Ty}
use Rattle.bds_tree.specs.StmtTree.{StmtTree, stmt, line}
use Rattle.bds_check_names.specs.declared.names.Variable.{Variable}
use Rattle.bds_check_rules.specs.Declarations.{declared_by_line}
use Rattle.bds_gen_expr.specs.Scope.{with_one_global}
use Rattle.bds_gen_stmt.specs.Spots.{Loop, Spot, inner, declared_local, local_with, spot_with}
use Rattle.bds_gen_stmt.specs.StmtCode.{behind}

-- with a loop around it
abbrev pub at_loop : Spot → Option Loop → Spot
at_loop sp o = record sp { loop = o }

abbrev pub quiet : Spot → Spot
quiet sp = at_loop sp None

declared-loop : (b : Bool) (sp : Spot) (x : List ℕ) (t : Ty) (o : Option Loop)
    → (if b then record (at_loop sp o) { scope = with_one_global sp.scope x t (length sp.scope.globals) } else declared_local (at_loop sp o) x t)
    ≡ at_loop (if b then record sp { scope = with_one_global sp.scope x t (length sp.scope.globals) } else declared_local sp x t) o
declared-loop true sp x t o = refl
declared-loop false sp x t o = refl

with-loop : (v : Option Variable) (sp : Spot) (o : Option Loop) → spot_with (at_loop sp o) v ≡ at_loop (spot_with sp v) o
with-loop None sp o = refl
with-loop (Some v) sp o = declared-loop sp.at_top sp v.name v.ty o

pub behind-loop : (s : StmtTree) (sp : Spot) (o : Option Loop) → behind s (at_loop sp o) ≡ at_loop (behind s sp) o
behind-loop (stmt at (line l)) sp o = with-loop (declared_by_line l) sp o
behind-loop (stmt at _) sp o = refl

-- behind the head of a `for`
pub head-loop : (v : Option Variable) (sp : Spot) → local_with (inner (quiet sp)) v ≡ quiet (inner (local_with (inner sp) v))
head-loop None sp = refl
head-loop (Some v) sp = refl
