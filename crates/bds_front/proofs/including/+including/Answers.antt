use Rattle.std.proofs.Common.{◌≡◌, ◌∙◌, ◌+◌, ℕ, List, [], ◌∷◌, ◌++◌, length, map, Bool, true, false, Result, sym, subst, refl}
use Rattle.bds_tree.specs.declared.stmt.Part.TheVariants as part
use Rattle.bds_tree.specs.StmtTree.{an_include}
use Rattle.bds_tree.specs.StmtView.{part_of, script_of}
use Rattle.bds_check_typing.specs.Files.{MayBeRead, was_read}
use Rattle.bds_front.specs.declared.front_fault.FrontFault.{FrontFault}
use Rattle.bds_front.specs.declared.front_fault.FrontFault.TheVariants as front
use Rattle.bds_front.specs.Loading.{Reads, Stops}
use Rattle.bds_front.specs.Joining.{GoesThrough, JoinsOn}
use Rattle.bds_front.proofs.Errors.{by-err}
use Rattle.bds_front.proofs.IncludedFiles.{file-stopped, file-goes}
use Rattle.bds_front.proofs.JoinLaws.{goes-nowhere, goes-again, goes-beyond, goes-other, step-first, step-joined, step-stopped, step-last}
use Rattle.bds_front.proofs.including.+including.Goals as goal

refused : (b : Bool) → b ≡ true → b ≡ false → ⊥
refused true h k = absurd cc
refused false h k = absurd cc

pub join_file-returns-in_err-script : goal.join_file-returns-in_err-script
join_file-returns-in_err-script g t c = λ above from file i one named.
    let log = g.H.Host.log in
    file-stopped above from file i c.args.depth c.args.path one named c.args.joined.now c.requires.unread c.requires.within (log c.args.host.now) (log c.read_script.new.host) _ c.from_residual.result _ c.from_residual.ensures.1 c.in_err-script.ensures

pub join_file-returns : goal.join_file-returns
join_file-returns g t c = λ above from file i one named.
    let log = g.H.Host.log in
    file-goes above from file i c.args.depth c.args.path one named c.args.joined.now c.requires.unread c.requires.within (script_of c.in_ok-script.script)
    (log c.args.host.now) (log c.read_script.new.host) (log c.join_script.new.host) _ c.join_script.result c.in_ok-script.ensures c.join_script.ensures

pub join_include-returns-in_err-path : goal.join_include-returns-in_err-path
join_include-returns-in_err-path g t c =
    let log = g.H.Host.log in
    let s = c.args.source.now in
    by-err (λ (r : Result Unit FrontFault). GoesThrough s.depth s.path s.file (an_include c.args.include.now ∷ []) (log c.args.host.now) (log c.args.host.now) c.args.joined.now c.args.joined.now r) c.from_residual.result front.NoMemory c.from_residual.ensures.1
    (goes-nowhere s.depth s.path s.file (an_include c.args.include.now ∷ []) (log c.args.host.now) c.args.joined.now c.args.joined.now)

pub join_include-returns-then-has : goal.join_include-returns-then-has
join_include-returns-then-has g t c =
    let log = g.H.Host.log in
    let s = c.args.source.now in
    goes-again s.depth s.path s.file c.args.include.now (log c.args.host.now) c.args.joined.now
    (subst (λ (p : List ℕ). was_read p c.args.joined.now.paths ≡ true) c.in_ok-path.ensures (sym c.has.ensures ∙ c.if-has.true))

pub join_include-returns-then-not-may_be_read : goal.join_include-returns-then-not-may_be_read
join_include-returns-then-not-may_be_read g t c =
    let log = g.H.Host.log in
    let s = c.args.source.now in
    let out : MayBeRead (s.depth + 1) c.args.joined.now.paths → ⊥ = λ m. refused c.may_be_read.result (c.may_be_read.ensures.1 m) c.if-not-may_be_read.true in
    goes-beyond s.depth s.path s.file c.args.include.now (log c.args.host.now) c.args.joined.now c.pass_beyond.new.joined
    (subst (λ (p : List ℕ). was_read p c.args.joined.now.paths ≡ false) c.in_ok-path.ensures (sym c.has.ensures ∙ c.if-has.false))
    out c.pass_beyond.ensures.paths c.pass_beyond.ensures.parts (rw (← c.in_ok-path.ensures) c.pass_beyond.ensures.beyond)

pub join_include-returns : goal.join_include-returns
join_include-returns g t c =
    let s = c.args.source.now in
    c.join_file.ensures s.depth s.path s.file c.args.include.now refl c.in_ok-path.ensures

pub join_part-returns-in_err-add_part-in-Function : goal.join_part-returns-in_err-add_part-in-Function
join_part-returns-in_err-add_part-in-Function g t c =
    let log = g.H.Host.log in
    let s = c.args.source.now in
    by-err (λ (r : Result Unit FrontFault). GoesThrough s.depth s.path s.file (part_of c.args.part ∷ []) (log c.args.host.now) (log c.args.host.now) c.args.joined.now c.add_part.new.joined r) c.from_residual.result front.NoMemory c.from_residual.ensures.1
    (goes-nowhere s.depth s.path s.file (part_of c.args.part ∷ []) (log c.args.host.now) c.args.joined.now c.add_part.new.joined)

pub join_part-returns-in_err-add_part-in-Stmt : goal.join_part-returns-in_err-add_part-in-Stmt
join_part-returns-in_err-add_part-in-Stmt g t c =
    let log = g.H.Host.log in
    let s = c.args.source.now in
    by-err (λ (r : Result Unit FrontFault). GoesThrough s.depth s.path s.file (part_of c.args.part ∷ []) (log c.args.host.now) (log c.args.host.now) c.args.joined.now c.add_part-in-Stmt.new.joined r) c.from_residual-in_err-add_part-in-Stmt.result front.NoMemory c.from_residual-in_err-add_part-in-Stmt.ensures.1
    (goes-nowhere s.depth s.path s.file (part_of c.args.part ∷ []) (log c.args.host.now) c.args.joined.now c.add_part-in-Stmt.new.joined)

pub join_part-returns-in_ok-add_part-in-Function : goal.join_part-returns-in_ok-add_part-in-Function
join_part-returns-in_ok-add_part-in-Function g t c =
    let log = g.H.Host.log in
    let s = c.args.source.now in
    rw c.in-Function.is
    (goes-other s.depth s.path s.file (part_of (part.Function c.in-Function.function)) (log c.args.host.now) c.args.joined.now c.add_part.new.joined refl
    c.add_part.ensures.paths c.in_ok-add_part-in-Function.ensures.parts c.add_part.ensures.beyond)

pub join_part-returns-in_ok-add_part-in-Stmt : goal.join_part-returns-in_ok-add_part-in-Stmt
join_part-returns-in_ok-add_part-in-Stmt g t c =
    let log = g.H.Host.log in
    let s = c.args.source.now in
    rw c.in-Stmt.is
    (goes-other s.depth s.path s.file (part_of (part.Stmt c.in-Stmt.stmt)) (log c.args.host.now) c.args.joined.now c.add_part-in-Stmt.new.joined refl
    c.add_part-in-Stmt.ensures.paths c.in_ok-add_part-in-Stmt.ensures.parts c.add_part-in-Stmt.ensures.beyond)

pub join_parts-loop-part-init : goal.join_parts-loop-part-init
join_parts-loop-part-init g t c =
    let log = g.H.Host.log in
    let s = c.args.source.now in
    step-first s.depth s.path s.file (map part_of c.args.parts) c.args.parts c.last_first-left.result (log c.args.host.now) c.args.joined.now c.last_first-left.ensures refl

pub join_parts-loop-part-preserved : goal.join_parts-loop-part-preserved
join_parts-loop-part-preserved g t c =
    let log = g.H.Host.log in
    let s = c.args.source.now in
    step-joined s.depth s.path s.file (map part_of c.args.parts) c.loop-part.left c.pop.new.self c.in-Some.part (log c.args.host.now) (log c.loop-part.host) (log c.join_part.new.host) c.args.joined.now c.loop-part.joined c.join_part.new.joined
    c.in-Some.ensures.items c.loop-part.invariant c.in_ok-join_part.ensures

pub join_parts-returns-in_err-join_part : goal.join_parts-returns-in_err-join_part
join_parts-returns-in_err-join_part g t c =
    let log = g.H.Host.log in
    let s = c.args.source.now in
    let ps = map part_of c.args.parts in
    by-err (λ (r : Result Unit FrontFault). GoesThrough s.depth s.path s.file ps (log c.args.host.now) (log c.join_part.new.host) c.args.joined.now c.join_part.new.joined r) c.from_residual.result _ c.from_residual.ensures.1
    (step-stopped s.depth s.path s.file ps c.loop-part.left c.pop.new.self c.in-Some.part (log c.args.host.now) (log c.loop-part.host) (log c.join_part.new.host) c.args.joined.now c.loop-part.joined c.join_part.new.joined _
    c.in-Some.ensures.items c.loop-part.invariant c.in_err-join_part.ensures)

pub join_parts-returns : goal.join_parts-returns
join_parts-returns g t c =
    let log = g.H.Host.log in
    let s = c.args.source.now in
    step-last s.depth s.path s.file (map part_of c.args.parts) c.loop-part.left c.pop.result (log c.args.host.now) (log c.loop-part.host) c.args.joined.now c.loop-part.joined c.pop.ensures.some c.in_default.is c.loop-part.invariant

pub join_script-returns-in_err-source : goal.join_script-returns-in_err-source
join_script-returns-in_err-source g t c = λ root files text known ahead.
    let log = g.H.Host.log in
    by-err (λ (r : Result Unit FrontFault). JoinsOn root (files ++ (c.args.path, text) ∷ []) c.args.depth c.args.path (length c.args.joined.now.paths) (map part_of c.args.script.parts) (log c.args.host.now) (log c.args.host.now) c.args.joined.now c.begin_file.new.joined r)
    c.from_residual.result front.NoMemory c.from_residual.ensures.1 (Stops.no_memory _ Reads.nothing)
