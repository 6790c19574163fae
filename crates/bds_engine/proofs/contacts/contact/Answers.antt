use Rattle.std.proofs.Common.{sym, subst}
use Rattle.bds_host.specs.declared.asks.Ask.{Ask}
use Rattle.bds_machine.specs.declared.point.Point.TheVariants as point
use Rattle.bds_engine_stages.specs.Held.{FromRow}
use Rattle.bds_engine.proofs.Contacting.{tells_nothing}
use Rattle.bds_engine.proofs.contacts.contact.Goals as goal

pub told-requires-clause-nothing : goal.told-requires-clause-nothing
told-requires-clause-nothing g c =
    tells_nothing c.args.ask (c.points_carry_what_fits.ensures c.args.state.now.unit (point.Asks c.args.ask) c.args.thread c.requires.left) c.in_default.not-Read c.in_default.not-Stamp c.in_default.not-Sys

pub returns-in-Read : goal.returns-in-Read
returns-in-Read g c =
    subst (λ (a : Ask). FromRow c.args.state.now c.args.k c.args.thread (point.Asks a) (g.H.Host.log c.args.host.now) (g.H.Host.log c.read.new.host) c.read.new.state c.read.result) (sym c.in-Read.is) c.read.ensures

pub returns-in-Stamp : goal.returns-in-Stamp
returns-in-Stamp g c =
    subst (λ (a : Ask). FromRow c.args.state.now c.args.k c.args.thread (point.Asks a) (g.H.Host.log c.args.host.now) (g.H.Host.log c.inspect.new.host) c.inspect.new.state c.inspect.result) (sym c.in-Stamp.is) c.inspect.ensures

pub returns-in-Sys : goal.returns-in-Sys
returns-in-Sys g c =
    subst (λ (a : Ask). FromRow c.args.state.now c.args.k c.args.thread (point.Asks a) (g.H.Host.log c.args.host.now) (g.H.Host.log c.command.new.host) c.command.new.state c.command.result) (sym c.in-Sys.is) c.command.ensures
