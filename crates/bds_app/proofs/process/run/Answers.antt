use Rattle.std.proofs.Common.{subst, ◌∙◌}
use Rattle.std.specs.Process.{exit_status}
use Rattle.bds_app.specs.Ending.{EndsWith}
use Rattle.bds_app.proofs.process.run.Goals as goal

pub returns : goal.returns
returns g c = subst
    (λ words. EndsWith words (g.H.Host.log c.args.host) (g.H.Host.log c.bds-outcome.result.1) (exit_status c.from.result))
    c.behind_name.ensures (record {
      answer = c.bds-outcome.result.0;
      meaning = c.bds-outcome.ensures.meaning;
      cause = c.bds-outcome.ensures.cause;
      device = c.bds-outcome.ensures.device;
      complete = c.bds-outcome.ensures.complete;
      one = c.bds-outcome.ensures.one;
      replayed = c.bds-outcome.ensures.replayed;
      passes = c.bds-outcome.ensures.passes;
      ends = c.bds-outcome.ensures.ends;
      canonical = c.bds-outcome.ensures.canonical;
      again = c.bds-outcome.ensures.again;
      saved = c.bds-outcome.ensures.saved;
      goes_on = c.bds-outcome.ensures.goes_on;
      farm_keeps = c.bds-outcome.ensures.farm_keeps;
      told = c.from.ensures ∙ c.status.ensures;
    })
