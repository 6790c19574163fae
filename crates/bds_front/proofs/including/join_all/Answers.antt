use Rattle.std.proofs.Common.{◌≡◌, ◌∙◌, [], false, map, Result, ap, refl, subst, sym}
use Rattle.bds_value.specs.declared.value.At.{At}
use Rattle.bds_tree.specs.StmtView.{part_of, script_of}
use Rattle.bds_check_typing.specs.Program.{holds_include}
use Rattle.bds_meaning.specs.Files.{IsNext}
use Rattle.bds_front.specs.declared.front_fault.FrontFault.{FrontFault}
use Rattle.bds_front.specs.declared.front_fault.FrontFault.TheVariants as front
use Rattle.bds_front.specs.Joining.{IsWhole, JoinsAll}
use Rattle.bds_front.proofs.Errors.{by-err}
use Rattle.bds_front.proofs.JoinLaws.{script-alone, script-joins, script-no-memory, script-whole}
use Rattle.bds_front.proofs.including.join_all.Goals as goal

pub returns-in_err-script : goal.returns-in_err-script
returns-in_err-script g c =
    let log = g.H.Host.log in
    by-err (λ (r : Result At FrontFault). JoinsAll c.args.path (log c.args.host.now) (log c.read_script.new.host) c.args.joined.now r) c.from_residual.result _ c.from_residual.ensures.1 (c.in_err-script.ensures c.args.path [] IsNext.script)

pub returns-in_err-join_alone : goal.returns-in_err-join_alone
returns-in_err-join_alone g c =
    let log = g.H.Host.log in
    by-err (λ (r : Result At FrontFault). JoinsAll c.args.path (log c.args.host.now) (log c.read_script.new.host) c.join_alone.new.joined r) c.from_residual-in_err-join_alone.result front.NoMemory c.from_residual-in_err-join_alone.ensures.1
    (script-no-memory c.args.path (script_of c.in_ok-script.script) (log c.args.host.now) (log c.read_script.new.host) c.in_ok-script.ensures)

pub returns-then-not-holds_include : goal.returns-then-not-holds_include
returns-then-not-holds_include g c =
    let log = g.H.Host.log in
    let script = c.in_ok-script.script in
    let alone : holds_include (script_of script) ≡ false = sym c.holds_include.ensures ∙ c.if-not-holds_include.true in
    subst (λ (at : At). IsWhole c.args.path (log c.args.host.now) (log c.read_script.new.host) c.join_alone.new.joined at) (sym c.in_ok-join_alone.ensures.at)
    (script-alone c.args.path (script_of script) (log c.args.host.now) (log c.read_script.new.host) c.args.joined.now c.join_alone.new.joined c.in_ok-script.ensures alone c.requires.paths c.requires.beyond
    c.in_ok-join_alone.ensures.paths (ap (map part_of) c.in_ok-join_alone.ensures.parts) c.join_alone.ensures.beyond)

pub returns-in_err-join_script : goal.returns-in_err-join_script
returns-in_err-join_script g c =
    let log = g.H.Host.log in
    by-err (λ (r : Result At FrontFault). JoinsAll c.args.path (log c.args.host.now) (log c.join_script.new.host) c.join_script.new.joined r) c.from_residual-in_err-join_script.result _ c.from_residual-in_err-join_script.ensures.1
    (script-joins c.args.path (script_of c.in_ok-script.script) (log c.args.host.now) (log c.read_script.new.host) (log c.join_script.new.host) c.args.joined.now c.join_script.new.joined _ c.in_ok-script.ensures c.in_err-join_script.ensures c.requires.paths)

pub returns : goal.returns
returns g c =
    let log = g.H.Host.log in
    script-whole c.args.path (script_of c.in_ok-script.script) c.in_ok-script.script.at.line (log c.args.host.now) (log c.read_script.new.host) (log c.join_script.new.host) c.args.joined.now c.join_script.new.joined refl c.in_ok-script.ensures
    c.in_ok-join_script.ensures c.requires.paths c.requires.parts c.requires.beyond
