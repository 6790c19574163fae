use Rattle.std.proofs.Common.{List, ap, map, sym, subst}
use Rattle.bds_tree.specs.StmtTree.{PartTree, ScriptTree}
use Rattle.bds_tree.specs.StmtView.{part_of, script_of}
use Rattle.bds_check_typing.specs.Typed.{IsTyped}
use Rattle.bds_check.proofs.NothingSet.{typed-alone}
use Rattle.bds_check_typing.proofs.TypedScripts.{accepted-program}
use Rattle.bds_check.proofs.checking.check.Goals as goal

pub invariant_of-result : goal.invariant_of-result
invariant_of-result c =
    let h = c.in_ok-walk_script.ensures in
    let make : List PartTree → ScriptTree =
    λ ps. record { at = c.args.script.at; files = c.args.script.files; parts = ps } in
    let typed : IsTyped (make (map part_of c.walk_script.new.parts)) =
    subst IsTyped (sym (ap make h.1)) (accepted-program (script_of c.args.script) c.requires.program h.0) in (
      typed-alone (make (map part_of c.walk_script.new.parts)) c.new.result c.new-2.result c.new.ensures c.new-2.ensures
          typed,
      rw c.as_slice.ensures at c.in_ok-globals.ensures,
    )
