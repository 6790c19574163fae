use Rattle.std.proofs.Common.{refl}
use Rattle.bds_tree.specs.StmtView.{script_of}
use Rattle.bds_app_trials.specs.Testing.{StopsTest}
use Rattle.bds_app_trials.proofs.TooBig.{base_again, if_ok, test_fits}
use Rattle.bds_app_trials.proofs.one_test.run_numbered.Goals as goal

pub test_of-requires-clause-base : goal.test_of-requires-clause-base
test_of-requires-clause-base g c = (c.requires.base.0, c.requires.base.1.base)

pub run_made-requires-clause-fits : goal.run_made-requires-clause-fits
run_made-requires-clause-fits g c =
    let t = c.requires.base.0 in
    test_fits t _ c.args.index (c.in-Ok.ensures t c.requires.base.1.base) c.requires.base.1.fits

pub run_made-requires-clause-unset : goal.run_made-requires-clause-unset
run_made-requires-clause-unset g c =
    let is = c.in-Ok.ensures c.requires.base.0 c.requires.base.1.base in (is.settings, is.args)

pub returns-in-Ok : goal.returns-in-Ok
returns-in-Ok g c = λ t h.
    let is = c.in-Ok.ensures t h.base in (
      c.run_made.ensures.ran t c.args.index is,
      if_ok c.run_made.result.0 (record {
        base = base_again t (script_of c.args.base.now) (script_of c.run_made.new.base) h.base
            (c.run_made.ensures.back t c.args.index is);
        fits = h.fits;
      }),
    )

pub returns-in-Err : goal.returns-in-Err
returns-in-Err g c = λ t h. (StopsTest.unmade refl, tt)
