use Rattle.std.proofs.Common.{ap, ◌∙◌}
use Rattle.bds_tree.specs.StmtTree.{SettingTree}
use Rattle.bds_tree.specs.StmtView.{setting_form_of}
use Rattle.bds_check_stmt_parts.proofs.SeenAlike.{seen-alike}
use Rattle.bds_check_stmt_parts.proofs.settings.walk_next.Goals as goal

pub returns-clause-fits : goal.returns-clause-fits
returns-clause-fits c = (
  c.in_ok-walk_setting.ensures.fits.0,
  (
    c.in_ok-walk_setting.ensures.fits.1,
    c.in_ok-see.ensures
        ∙ seen-alike c.args.seen.now (setting_form_of c.walk_setting.new.setting.form)
        (setting_form_of c.args.setting.now.form) (ap (λ (s : SettingTree). s.form) c.walk_setting.ensures.kept),
  ),
)
