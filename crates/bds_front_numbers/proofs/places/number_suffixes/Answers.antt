use Rattle.std.proofs.Common.{arith}
use Rattle.bds_tree.specs.StmtView.{suffix_of}
use Rattle.bds_front_numbers.specs.InFile.{suffix_in}
use Rattle.bds_front_numbers.proofs.InPlace.{changed, halfway-none, halfway-more, all_changed}
use Rattle.bds_front_numbers.proofs.places.number_suffixes.Goals as goal

pub loop-i-init : goal.loop-i-init
loop-i-init c = halfway-none suffix_of (changed suffix_of (suffix_in c.args.file)) c.args.suffixes.now

pub at_mut-requires : goal.at_mut-requires
at_mut-requires c = let same = c.loop-i.invariant.as_long in omega arith

pub loop-i-preserved : goal.loop-i-preserved
loop-i-preserved c = halfway-more suffix_of (changed suffix_of (suffix_in c.args.file)) c.args.suffixes.now c.loop-i.suffixes c.loop-i.i c.at_mut.result.now c.number_suffix.new.suffix c.at_mut.ensures.value c.number_suffix.ensures c.loop-i.invariant

pub returns : goal.returns
returns c = all_changed suffix_of (suffix_in c.args.file) c.args.suffixes.now c.loop-i.suffixes c.loop-i.i (omega arith) c.loop-i.invariant
