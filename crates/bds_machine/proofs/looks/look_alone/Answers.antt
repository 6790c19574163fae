use Rattle.std.proofs.Common.{◌≡◌, ◌+◌, [], true, IsSome, ◌∙◌, subst}
use Rattle.std.proofs.lemmas.Result.{IfOk-weaker}
use Rattle.bds_code_frames.specs.Stack.{stack}
use Rattle.bds_machine.specs.declared.looks.Look.TheVariants as look
use Rattle.bds_machine.specs.Looks.{looks, seen}
use Rattle.bds_machine.proofs.Seeing.{look_there, value_there, alone_is, given_there, call_there, line_there}
use Rattle.bds_machine.proofs.looks.look_alone.Goals as goal

pub instr_at-second-requires : goal.instr_at-second-requires
instr_at-second-requires c = look_there 0 _ c.requires.ahead.1

pub variable-value-requires-clause-there : goal.variable-value-requires-clause-there
variable-value-requires-clause-there c = value_there c.args.function.now c.args.instr.now c.args.at c.args.globals.now (stack c.args.frames.now) look.Alone 0 c.requires.fine

pub seen_alone-given-requires-clause-looks : goal.seen_alone-given-requires-clause-looks
seen_alone-given-requires-clause-looks c = subst (λ o. looks 0 o ≡ true) c.instr_at-second.ensures c.requires.ahead.1

pub seen_alone-given-requires-clause-fine : goal.seen_alone-given-requires-clause-fine
seen_alone-given-requires-clause-fine c =
    let f = c.args.function.now in
    let s = stack c.args.frames.now in
    let j = c.instr_at-second.result.now in
    let v = c.variable-value.result.now in
    given_there f (c.args.at + 1) c.args.globals.now s 0 (seen j v [])
    (subst IsSome (alone_is f c.args.instr.now c.args.at c.args.globals.now s 0 j c.instr_at-second.ensures v c.variable-value.ensures) c.requires.fine)

pub go_behind-requires-clause-there : goal.go_behind-requires-clause-there
go_behind-requires-clause-there c =
    let f = c.args.function.now in
    let s = stack c.args.frames.now in
    let j = c.instr_at-second.result.now in
    let v = c.variable-value.result.now in
    call_there f (c.args.at + 1) c.args.globals.now s 0 (seen j v [])
    (subst IsSome (alone_is f c.args.instr.now c.args.at c.args.globals.now s 0 j c.instr_at-second.ensures v c.variable-value.ensures) c.requires.fine)

pub go_behind-requires-clause-line : goal.go_behind-requires-clause-line
go_behind-requires-clause-line c =
    let f = c.args.function.now in
    let s = stack c.args.frames.now in
    let j = c.instr_at-second.result.now in
    let v = c.variable-value.result.now in
    line_there f (c.args.at + 1) c.args.globals.now s 0 (seen j v []) c.seen_alone-given.result c.seen_alone-given.ensures
    (subst IsSome (alone_is f c.args.instr.now c.args.at c.args.globals.now s 0 j c.instr_at-second.ensures v c.variable-value.ensures) c.requires.fine)

pub returns : goal.returns
returns c =
    let f = c.args.function.now in
    let g = c.args.globals.now in
    let s = stack c.args.frames.now in
    let j = c.instr_at-second.result.now in
    let v = c.variable-value.result.now in
    IfOk-weaker c.go_behind.result _ _
    (λ p h t. alone_is f c.args.instr.now c.args.at g s t j c.instr_at-second.ensures v c.variable-value.ensures ∙ h g t)
    (c.go_behind.ensures (seen j v []) c.seen_alone-given.ensures)
