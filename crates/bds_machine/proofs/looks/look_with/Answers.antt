use Rattle.std.proofs.Common.{◌≡◌, ◌+◌, [], ◌∷◌, true, IsSome, ◌∙◌, sym, subst}
use Rattle.std.proofs.lemmas.Result.{IfOk-weaker}
use Rattle.bds_code_frames.specs.Stack.{stack}
use Rattle.bds_machine.specs.declared.looks.Look.TheVariants as look
use Rattle.bds_machine.specs.Looks.{is_operand, looks, pushes, seen, seen_by}
use Rattle.bds_machine_values.specs.Faults.{Answers}
use Rattle.bds_machine.proofs.Seeing.{some_value, look_there, operand_there, value_there, above_there, with_is, given_there, call_there, line_there}
use Rattle.bds_machine.proofs.looks.look_with.Goals as goal

pub instr_at-second-requires : goal.instr_at-second-requires
instr_at-second-requires c = operand_there _ c.requires.ahead.1

pub instr_at-third-requires : goal.instr_at-third-requires
instr_at-third-requires c = look_there 1 _ c.requires.ahead.2

pub variable-value-requires-clause-there : goal.variable-value-requires-clause-there
variable-value-requires-clause-there c = value_there c.args.function.now c.args.instr.now c.args.at c.args.globals.now (stack c.args.frames.now) look.With 0 c.requires.fine

pub seen_by-given-requires-clause-operand : goal.seen_by-given-requires-clause-operand
seen_by-given-requires-clause-operand c = subst (λ o. is_operand o ≡ true) c.instr_at-second.ensures c.requires.ahead.1

pub seen_by-given-requires-clause-looks : goal.seen_by-given-requires-clause-looks
seen_by-given-requires-clause-looks c = subst (λ o. looks 1 o ≡ true) c.instr_at-third.ensures c.requires.ahead.2

pub seen_by-given-requires-clause-fine : goal.seen_by-given-requires-clause-fine
seen_by-given-requires-clause-fine c =
    let f = c.args.function.now in
    let g = c.args.globals.now in
    let s = stack c.args.frames.now in
    let k = c.instr_at-third.result.now in
    let v = c.variable-value.result.now in
    let above = some_value (pushes c.instr_at-second.result.now g s) (above_there f c.args.instr.now c.args.at g s 0 c.instr_at-second.result.now c.instr_at-second.ensures c.requires.fine) in
    let x = above.0 in
    subst (λ o. IsSome (seen_by k v o)) (sym above.1)
    (given_there f (c.args.at + 1 + 1) g s 0 (seen k v (x ∷ []))
    (subst IsSome (with_is f c.args.instr.now c.args.at g s 0 c.instr_at-second.result.now c.instr_at-second.ensures v x k c.variable-value.ensures above.1 c.instr_at-third.ensures) c.requires.fine))

pub go_behind-requires-clause-there : goal.go_behind-requires-clause-there
go_behind-requires-clause-there c =
    let f = c.args.function.now in
    let g = c.args.globals.now in
    let s = stack c.args.frames.now in
    let k = c.instr_at-third.result.now in
    let v = c.variable-value.result.now in
    let above = some_value (pushes c.instr_at-second.result.now g s) (above_there f c.args.instr.now c.args.at g s 0 c.instr_at-second.result.now c.instr_at-second.ensures c.requires.fine) in
    let x = above.0 in
    call_there f (c.args.at + 1 + 1) g s 0 (seen k v (x ∷ []))
    (subst IsSome (with_is f c.args.instr.now c.args.at g s 0 c.instr_at-second.result.now c.instr_at-second.ensures v x k c.variable-value.ensures above.1 c.instr_at-third.ensures) c.requires.fine)

pub go_behind-requires-clause-line : goal.go_behind-requires-clause-line
go_behind-requires-clause-line c =
    let f = c.args.function.now in
    let g = c.args.globals.now in
    let s = stack c.args.frames.now in
    let k = c.instr_at-third.result.now in
    let v = c.variable-value.result.now in
    let above = some_value (pushes c.instr_at-second.result.now g s) (above_there f c.args.instr.now c.args.at g s 0 c.instr_at-second.result.now c.instr_at-second.ensures c.requires.fine) in
    let x = above.0 in
    line_there f (c.args.at + 1 + 1) g s 0 (seen k v (x ∷ [])) c.seen_by-given.result (subst (λ o. Answers (seen_by k v o) c.seen_by-given.result) above.1 c.seen_by-given.ensures)
    (subst IsSome (with_is f c.args.instr.now c.args.at g s 0 c.instr_at-second.result.now c.instr_at-second.ensures v x k c.variable-value.ensures above.1 c.instr_at-third.ensures) c.requires.fine)

pub returns : goal.returns
returns c =
    let f = c.args.function.now in
    let g = c.args.globals.now in
    let s = stack c.args.frames.now in
    let k = c.instr_at-third.result.now in
    let v = c.variable-value.result.now in
    let above = some_value (pushes c.instr_at-second.result.now g s) (above_there f c.args.instr.now c.args.at g s 0 c.instr_at-second.result.now c.instr_at-second.ensures c.requires.fine) in
    let x = above.0 in
    IfOk-weaker c.go_behind.result _ _
    (λ p h t. with_is f c.args.instr.now c.args.at g s t c.instr_at-second.result.now c.instr_at-second.ensures v x k c.variable-value.ensures above.1 c.instr_at-third.ensures ∙ h g t)
    (c.go_behind.ensures (seen k v (x ∷ [])) (subst (λ o. Answers (seen_by k v o) c.seen_by-given.result) above.1 c.seen_by-given.ensures))
