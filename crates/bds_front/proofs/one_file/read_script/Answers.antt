use Rattle.std.proofs.Common.{Result}
use Rattle.bds_tree.specs.declared.stmt.Script.{Script}
use Rattle.bds_front.specs.declared.front_fault.FrontFault.{FrontFault}
use Rattle.bds_front.specs.OneFile.{ReadsScript}
use Rattle.bds_front.proofs.Errors.{by-err}
use Rattle.bds_front.proofs.Texts.{parses-read, unread-stops}
use Rattle.bds_front.proofs.one_file.read_script.Goals as goal

pub returns-in_err-text : goal.returns-in_err-text
returns-in_err-text g c =
    let log = g.H.Host.log in
    by-err (λ (r : Result Script FrontFault). ReadsScript c.args.path.now (log c.args.host.now) (log c.read_text.new.host) r) c.from_residual.result _ c.from_residual.ensures.1
    (unread-stops c.args.path.now (log c.args.host.now) (log c.read_text.new.host) _ c.in_err-text.ensures)

pub returns : goal.returns
returns g c = parses-read c.args.path.now _ _ _ c.parse_text.result c.in_ok-text.ensures c.parse_text.ensures
