use Rattle.std.proofs.Common.{◌≡◌, List, [], ap, sym, subst, ◌∙◌, map}
use Rattle.bds_tree.specs.StmtTree.{PartTree}
use Rattle.bds_tree.specs.StmtView.{part_of}
use Rattle.bds_check_names.specs.declared.names.Names.{Names}
use Rattle.bds_check_typing.specs.Program.{JudgedParts, close_parts, first_globals, globals_of, heads_of, judge_parts}
use Rattle.bds_check_typing.specs.Program.{names_of}
use Rattle.bds_check.specs.Answers.{LeavesParts}
use Rattle.bds_check.proofs.Heads.{heads-alike}
use Rattle.bds_check.proofs.WalkedParts.{parts-alike}
use Rattle.bds_check.proofs.program.walk_script.Goals as goal

pub walk_all-requires-clause-functions : goal.walk_all-requires-clause-functions
walk_all-requires-clause-functions c =
    ap (λ (n : Names). n.functions) c.in_ok-all.ensures.found
    ∙ sym (heads-alike (map part_of c.find_globals.new.parts) (map part_of c.args.parts.now)
    c.find_globals.ensures.kept)

pub returns : goal.returns
returns c =
    let olds : List PartTree = map part_of c.args.parts.now in
    let mids : List PartTree = map part_of c.find_globals.new.parts in
    let all : Names = names_of (heads_of olds) (globals_of olds) in
    let begun : Names = names_of (heads_of olds) first_globals in
    let begins : c.in_ok-names.names ≡ begun = rw c.as_slice.ensures at c.in_ok-names.ensures in
    let same : judge_parts c.in_ok-all.all [] c.in_ok-names.names mids ≡ judge_parts all [] begun olds =
    ap (λ (n : Names). judge_parts n [] c.in_ok-names.names mids) c.in_ok-all.ensures.found
    ∙ ap (λ (n : Names). judge_parts all [] n mids) begins
    ∙ parts-alike all begun mids olds c.find_globals.ensures.kept in
    subst (λ (j : JudgedParts). LeavesParts c.walk_all.result (map part_of c.walk_all.new.parts)
    (close_parts c.args.at j)) same
    c.walk_all.ensures
