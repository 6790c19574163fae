use Rattle.bds_app_fmt.proofs.formatting.format_script.Goals as goal

pub returns-in-Ok : goal.returns-in-Ok
returns-in-Ok g c = c.print_canonical.ensures _ c.in-Ok.ensures

pub returns-in-Err : goal.returns-in-Err
returns-in-Err g c = c.refuse.ensures _ _ c.in-Err.ensures
