-- What is in force behind a statement of a block.
use Rattle.std.proofs.Common.{◌≡◌, ◌+◌, Bool, true, false, [], ◌∷◌, refl, ap, if◌then◌else◌}
use Rattle.bds_value.specs.declared.value.Ty.TheVariants as ty
use Rattle.bds_tree.specs.StmtTree.{StmtTree, stmt, line, declare, infer, block}
use Rattle.bds_check_rules.specs.StmtBreaks.{right_type}
use Rattle.bds_gen_stmt.specs.Spots.{Spot, declared_local}
use Rattle.bds_gen_stmt.specs.StmtCode.{behind as spot_behind}
use Rattle.bds_sim_code.specs.StmtHere.{scope_behind, next_behind}

-- a new variable of a block goes to the next slot
pub declared_low : (top : Bool) (sp : Spot) (global local : Spot) → top ≡ false → (if top then global else local) ≡ local
declared_low true sp global local e = absurd (cc)
declared_low false sp global local e = refl

pub behind_scope : (s : StmtTree) (sp : Spot) → sp.at_top ≡ false → (spot_behind s sp).scope ≡ scope_behind s sp.scope sp.next
behind_scope (stmt at (line (declare t x r))) sp e = ap (λ (k : Spot). k.scope) (declared_low sp.at_top sp _ (declared_local sp x t) e)
behind_scope (stmt at (line (infer x r))) sp e = ap (λ (k : Spot). k.scope) (declared_low sp.at_top sp _ (declared_local sp x (right_type r)) e)
behind_scope (stmt at (line l)) sp e = refl
behind_scope (stmt at f) sp e = refl

pub behind_next : (s : StmtTree) (sp : Spot) → sp.at_top ≡ false → (spot_behind s sp).next ≡ next_behind s sp.next
behind_next (stmt at (line (declare t x r))) sp e = ap (λ (k : Spot). k.next) (declared_low sp.at_top sp _ (declared_local sp x t) e)
behind_next (stmt at (line (infer x r))) sp e = ap (λ (k : Spot). k.next) (declared_low sp.at_top sp _ (declared_local sp x (right_type r)) e)
behind_next (stmt at (line l)) sp e = refl
behind_next (stmt at f) sp e = refl
