use Rattle.std.proofs.Common.{◌≡◌, sym, subst}
use Rattle.bds_tree.specs.StmtView.{script_of}
use Rattle.bds_check_typing.specs.GivenValues.{set_by}
use Rattle.bds_check_typing.specs.Typed.{IsTyped, IsTypedWith}
use Rattle.bds_check_typing.specs.WellTypedScripts.{globals_in}
use Rattle.bds_check.specs.declared.checking.TypedScript.{TypedScript}
use Rattle.bds_check.proofs.checking.Typed.set.Goals as goal

pub invariant_of-result : goal.invariant_of-result
invariant_of-result c =
    let fits : TypedScript → Type 0 = λ t. IsTyped (script_of t.script) → IsTypedWith (script_of t.script) (set_by c.args.settings) c.args.args in
    let here : fits c.self.inside.whole = subst fits (sym c.self.view_is) c.requires in
    subst (λ (t : TypedScript). IsTypedWith (script_of t.script) (set_by t.settings) t.args × (c.self.inside.globals ≡ globals_in (script_of t.script))) (sym c.set.ensures)
    (here c.self.invariant.0.script, c.self.invariant.1)
