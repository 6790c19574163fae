-- Where words set nothing, what they set fits.
use Rattle.std.proofs.Common.{◌≡◌, List, [], ◌∷◌, sym, subst, arith}
use Rattle.std.specs.Prelude.{ℕ}
use Rattle.bds_tree.specs.StmtTree.{StmtFormTree, LineTree, declare, infer, line, stmt, PartTree, ScriptTree}
use Rattle.bds_tree.specs.StmtTree.{a_function, an_include, a_statement}
use Rattle.bds_check_size.specs.ScriptSize.{set_for, declared_type}
use Rattle.bds_check_typing.specs.declared.given.Given.{Given}
use Rattle.bds_check_typing.specs.GivenValues.{IsGivenFor, IsFormSet, IsPartSet, FitGlobals, set_by}
use Rattle.bds_check_typing.specs.Typed.{IsTyped, IsTypedWith}

line-unset : (l : LineTree) → IsGivenFor (set_for [] l) (declared_type l)
line-unset (declare t x r) = tt
line-unset (infer x r) = tt
line-unset _ = tt

form-unset : (f : StmtFormTree) → IsFormSet [] f
form-unset (line l) = line-unset l
form-unset _ = tt

part-unset : (p : PartTree) → IsPartSet [] p
part-unset (a_function f) = tt
part-unset (an_include i) = tt
part-unset (a_statement (stmt at f)) = form-unset f

none-set : (ps : List PartTree) → FitGlobals [] ps
none-set [] = tt
none-set (p ∷ ps) = (part-unset p, none-set ps)

pub typed-alone : (s : ScriptTree) (gs : List Given) (args : List (List ℕ)) → gs ≡ [] → args ≡ [] → IsTyped s
    → IsTypedWith s (set_by gs) args
typed-alone s gs args e d h =
    subst (λ (gs : List Given). IsTypedWith s (set_by gs) args) (sym e)
    (subst (λ (args : List (List ℕ)). IsTypedWith s [] args) (sym d) (record {
      script = h;
      globals = none-set s.parts;
      lists = tt;
      args = tt;
      few = omega arith;
    }))
