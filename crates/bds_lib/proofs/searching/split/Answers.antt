use Rattle.std.proofs.Common.{rules}
use Rattle.bds_lib.proofs.SearchLaws.{cut_start, cut_more, cut_end, split_none}
use Rattle.bds_lib.proofs.searching.split.Goals as goal

pub loop-at-init : goal.loop-at-init
loop-at-init c = cut_start c.args.part.now c.args.text.now c.new-items.result c.new-items.ensures

pub loop-at-preserved : goal.loop-at-preserved
loop-at-preserved c =
    cut_more c.args.part.now c.args.text.now c.loop-at.items c.push.new.self c.loop-at.rest.now _ c.in-Some.at
    (search rules) (search rules) (search rules) (search rules) (search rules) c.loop-at.invariant

pub returns-then-is_empty : goal.returns-then-is_empty
returns-then-is_empty c = split_none c.args.part.now c.args.text.now c.new-items.result (search rules) c.new-items.ensures

pub returns : goal.returns
returns c = cut_end c.args.part.now c.args.text.now c.loop-at.items c.loop-at.rest.now (search rules) (search rules) c.loop-at.invariant
