use Rattle.std.proofs.Common.{List, map, ap, ◌∙◌, arith}
use Rattle.bds_tree.specs.declared.stmt.Part.{Part}
use Rattle.bds_tree.specs.StmtView.{part_of}
use Rattle.bds_check_names.specs.declared.names.Head.{Head}
use Rattle.bds_check_names.specs.declared.names.Names.{Names}
use Rattle.bds_check_typing.specs.Program.{behind_part, first_globals, heads_of}
use Rattle.bds_check.proofs.WalkedParts.{finding-more, finding-done, finding-again, names-found, parts-kept, parts-set}
use Rattle.bds_check.proofs.globals.find_globals.Goals as goal

pub loop-i-preserved : goal.loop-i-preserved
loop-i-preserved c =
    let heads : List Head = heads_of (map part_of c.args.parts.now) in
    let found = c.in_ok-find_in_part.ensures.found in
    let x : Part = c.at_mut.result.now in
    record {
      functions = ap (λ (n : Names). n.functions) found ∙ c.loop-i.invariant.functions;
      finding = finding-again c.find_in_part.new.names c.loop-i.names.functions
          (behind_part c.loop-i.names.functions c.loop-i.names.globals (part_of x)) found;
      walking = finding-more heads c.args.parts.now first_globals c.loop-i.i c.loop-i.parts c.loop-i.names.globals
          c.find_in_part.new.names.globals x c.find_in_part.new.part (omega arith) c.at_mut.ensures.value
          c.find_in_part.ensures.kept
          (ap (λ (n : Names). n.globals) found
          ∙ ap (λ (hs : List Head). behind_part hs c.loop-i.names.globals (part_of x)) c.loop-i.invariant.functions)
          c.loop-i.invariant.walking;
    }

pub returns-clause-found : goal.returns-clause-found
returns-clause-found c =
    let heads : List Head = heads_of (map part_of c.args.parts.now) in
    names-found c.loop-i.names heads _ c.loop-i.invariant.functions c.loop-i.invariant.finding
    (finding-done heads c.args.parts.now first_globals c.loop-i.i c.loop-i.parts c.loop-i.names.globals (omega arith)
    c.loop-i.invariant.walking)

pub returns-clause-kept : goal.returns-clause-kept
returns-clause-kept c = parts-kept c.loop-i.parts c.args.parts.now c.loop-i.invariant.walking.kept

pub returns-in_err-find_in_part-clause-kept : goal.returns-in_err-find_in_part-clause-kept
returns-in_err-find_in_part-clause-kept c =
    parts-set (heads_of (map part_of c.args.parts.now)) c.args.parts.now first_globals c.loop-i.i c.loop-i.parts
    c.loop-i.names.globals c.at_mut.result.now c.find_in_part.new.part c.at_mut.ensures.value
    c.find_in_part.ensures.kept
    c.loop-i.invariant.walking
