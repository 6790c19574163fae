use Rattle.std.proofs.Common.{◌≡◌, set, arith, rules}
use Rattle.bds_tree.specs.StmtView.{setting_of, settings_of}
use Rattle.bds_check_rules.specs.StmtBreaks.{none_seen, seen_behind}
use Rattle.bds_check_typing.specs.StmtParts.{judge_setting, judge_settings}
use Rattle.bds_check_walk.proofs.Turns.{broke-off}
use Rattle.bds_check_stmt_parts.specs.InPlace.{bare_setting}
use Rattle.bds_check_stmt_parts.proofs.Walked.{both-maps, settings-more, settings-kept, settings-done, settings-broken}
use Rattle.bds_check_stmt_parts.proofs.settings.walk_settings.Goals as goal

pub at_mut-requires : goal.at_mut-requires
at_mut-requires c = let same = c.loop-i.invariant.as_long in omega arith

pub loop-i-preserved : goal.loop-i-preserved
loop-i-preserved c =
    settings-more c.args.names.now c.args.of_dep c.args.options.now c.loop-i.i c.loop-i.options c.loop-i.seen
    c.walk_next.new.seen c.at_mut.result.now c.walk_next.new.setting (omega arith) c.at_mut.ensures.value
    c.in_ok-walk_next.ensures.fits.0 c.in_ok-walk_next.ensures.fits.1.0 c.in_ok-walk_next.ensures.fits.1.1
    c.walk_next.ensures.kept c.loop-i.invariant

pub returns-clause-fits : goal.returns-clause-fits
returns-clause-fits c = settings-done c.args.names.now c.args.of_dep c.args.options.now c.loop-i.i c.loop-i.options
    c.loop-i.seen (omega arith) c.loop-i.invariant

pub returns-clause-kept : goal.returns-clause-kept
returns-clause-kept c = both-maps setting_of bare_setting c.loop-i.options c.args.options.now c.loop-i.invariant.kept

pub returns-in_err-walk_next-clause-fits : goal.returns-in_err-walk_next-clause-fits
returns-in_err-walk_next-clause-fits c =
    broke-off c.from_residual.result c.in_err-walk_next.field-0.0
    (λ _. (setting_of c.walk_next.new.setting ≡ (judge_setting (setting_of c.at_mut.result.now) c.args.names.now
    c.args.of_dep c.loop-i.seen).setting)
    × (c.walk_next.new.seen ≡ seen_behind c.loop-i.seen (setting_of c.at_mut.result.now).form))
    (λ _. settings_of (set c.loop-i.options c.loop-i.i c.walk_next.new.setting) ≡
    (judge_settings (settings_of c.args.options.now) c.args.names.now c.args.of_dep none_seen).settings)
    (judge_setting (setting_of c.at_mut.result.now) c.args.names.now c.args.of_dep c.loop-i.seen).broken
    (judge_settings (settings_of c.args.options.now) c.args.names.now c.args.of_dep none_seen).broken
    (search rules) c.in_err-walk_next.ensures.fits (settings-broken c.args.names.now c.args.of_dep c.args.options.now
    c.loop-i.i c.loop-i.options c.loop-i.seen c.at_mut.result.now (omega arith) c.at_mut.ensures.value
    c.loop-i.invariant)

pub returns-in_err-walk_next-clause-kept : goal.returns-in_err-walk_next-clause-kept
returns-in_err-walk_next-clause-kept c =
    settings-kept c.args.names.now c.args.of_dep c.args.options.now c.loop-i.i c.loop-i.options c.loop-i.seen
    c.at_mut.result.now c.walk_next.new.setting c.at_mut.ensures.value c.walk_next.ensures.kept c.loop-i.invariant
