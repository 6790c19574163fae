use Rattle.std.proofs.Common.{◌≡◌, map, set, arith, rules}
use Rattle.bds_tree.specs.StmtView.{suffix_of}
use Rattle.bds_check_typing.specs.StmtParts.{judge_suffix, judge_suffixes}
use Rattle.bds_check_walk.proofs.Turns.{broke-off}
use Rattle.bds_check_stmt_parts.specs.InPlace.{bare_suffix}
use Rattle.bds_check_stmt_parts.proofs.Walked.{both-maps, suffixes-none, suffixes-more, suffixes-kept, suffixes-done}
use Rattle.bds_check_stmt_parts.proofs.Walked.{suffixes-broken}
use Rattle.bds_check_stmt_parts.proofs.places.walk_suffixes.Goals as goal

pub loop-i-init : goal.loop-i-init
loop-i-init c = suffixes-none c.args.names.now c.args.suffixes.now

pub at_mut-requires : goal.at_mut-requires
at_mut-requires c = let same = c.loop-i.invariant.as_long in omega arith

pub loop-i-preserved : goal.loop-i-preserved
loop-i-preserved c =
    suffixes-more c.args.names.now c.args.suffixes.now c.loop-i.i c.loop-i.suffixes c.at_mut.result.now
    c.walk_suffix.new.suffix (omega arith) c.at_mut.ensures.value c.in_ok-walk_suffix.ensures.fits
    c.walk_suffix.ensures.kept c.loop-i.invariant

pub returns-clause-fits : goal.returns-clause-fits
returns-clause-fits c =
    suffixes-done c.args.names.now c.args.suffixes.now c.loop-i.i c.loop-i.suffixes (omega arith) c.loop-i.invariant

pub returns-clause-kept : goal.returns-clause-kept
returns-clause-kept c = both-maps suffix_of bare_suffix c.loop-i.suffixes c.args.suffixes.now c.loop-i.invariant.kept

pub returns-in_err-walk_suffix-clause-fits : goal.returns-in_err-walk_suffix-clause-fits
returns-in_err-walk_suffix-clause-fits c =
    broke-off c.from_residual.result c.in_err-walk_suffix.field-0.0
    (λ _. suffix_of c.walk_suffix.new.suffix ≡ (judge_suffix (suffix_of c.at_mut.result.now)
    c.args.names.now).suffix)
    (λ _. map suffix_of (set c.loop-i.suffixes c.loop-i.i c.walk_suffix.new.suffix) ≡
    (judge_suffixes (map suffix_of c.args.suffixes.now) c.args.names.now).suffixes)
    (judge_suffix (suffix_of c.at_mut.result.now) c.args.names.now).broken
    (judge_suffixes (map suffix_of c.args.suffixes.now) c.args.names.now).broken
    (search rules) c.in_err-walk_suffix.ensures.fits (suffixes-broken c.args.names.now c.args.suffixes.now c.loop-i.i
    c.loop-i.suffixes c.at_mut.result.now (omega arith) c.at_mut.ensures.value c.loop-i.invariant)

pub returns-in_err-walk_suffix-clause-kept : goal.returns-in_err-walk_suffix-clause-kept
returns-in_err-walk_suffix-clause-kept c =
    suffixes-kept c.args.names.now c.args.suffixes.now c.loop-i.i c.loop-i.suffixes c.at_mut.result.now
    c.walk_suffix.new.suffix c.at_mut.ensures.value c.walk_suffix.ensures.kept c.loop-i.invariant
