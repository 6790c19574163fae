use Rattle.std.proofs.Common.{◌≡◌, [], ◌∷◌, true, IsSome, ◌∙◌, subst}
use Rattle.std.proofs.lemmas.Result.{IfOk-weaker}
use Rattle.bds_code_frames.specs.Stack.{stack}
use Rattle.bds_machine.specs.Looks.{looks, seen}
use Rattle.bds_machine.proofs.Seeing.{look_there, operand_last, value_last, last_is, given_there, call_there, line_there}
use Rattle.bds_machine.proofs.looks.look_last.Goals as goal

pub take_operand-above-requires : goal.take_operand-above-requires
take_operand-above-requires c = operand_last c.args.function.now c.args.instr.now c.args.last c.args.globals.now (stack c.args.frames.now) 0 c.requires.fine

pub instr_at-third-requires : goal.instr_at-third-requires
instr_at-third-requires c = look_there 1 _ c.requires.looks

pub variable-value-requires-clause-there : goal.variable-value-requires-clause-there
variable-value-requires-clause-there c =
    value_last c.args.function.now c.args.instr.now c.args.last c.args.globals.now (stack c.args.frames.now) (stack c.take_operand-above.new.self) c.take_operand-above.result c.take_operand-above.ensures 0 c.requires.fine

pub seen_with-given-requires-clause-looks : goal.seen_with-given-requires-clause-looks
seen_with-given-requires-clause-looks c = subst (λ o. looks 1 o ≡ true) c.instr_at-third.ensures c.requires.looks

pub seen_with-given-requires-clause-fine : goal.seen_with-given-requires-clause-fine
seen_with-given-requires-clause-fine c =
    let f = c.args.function.now in
    let g = c.args.globals.now in
    let s = stack c.take_operand-above.new.self in
    let k = c.instr_at-third.result.now in
    let v = c.variable-value.result.now in
    let x = c.take_operand-above.result in
    given_there f c.args.last g s 0 (seen k v (x ∷ []))
    (subst IsSome (last_is f c.args.instr.now c.args.last g (stack c.args.frames.now) s x c.take_operand-above.ensures 0 v k c.variable-value.ensures c.instr_at-third.ensures) c.requires.fine)

pub go_behind-requires-clause-there : goal.go_behind-requires-clause-there
go_behind-requires-clause-there c =
    let f = c.args.function.now in
    let g = c.args.globals.now in
    let s = stack c.take_operand-above.new.self in
    let k = c.instr_at-third.result.now in
    let v = c.variable-value.result.now in
    let x = c.take_operand-above.result in
    call_there f c.args.last g s 0 (seen k v (x ∷ []))
    (subst IsSome (last_is f c.args.instr.now c.args.last g (stack c.args.frames.now) s x c.take_operand-above.ensures 0 v k c.variable-value.ensures c.instr_at-third.ensures) c.requires.fine)

pub go_behind-requires-clause-line : goal.go_behind-requires-clause-line
go_behind-requires-clause-line c =
    let f = c.args.function.now in
    let g = c.args.globals.now in
    let s = stack c.take_operand-above.new.self in
    let k = c.instr_at-third.result.now in
    let v = c.variable-value.result.now in
    let x = c.take_operand-above.result in
    line_there f c.args.last g s 0 (seen k v (x ∷ [])) c.seen_with-given.result c.seen_with-given.ensures
    (subst IsSome (last_is f c.args.instr.now c.args.last g (stack c.args.frames.now) s x c.take_operand-above.ensures 0 v k c.variable-value.ensures c.instr_at-third.ensures) c.requires.fine)

pub returns : goal.returns
returns c =
    let f = c.args.function.now in
    let g = c.args.globals.now in
    let s = stack c.take_operand-above.new.self in
    let k = c.instr_at-third.result.now in
    let v = c.variable-value.result.now in
    let x = c.take_operand-above.result in
    IfOk-weaker c.go_behind.result _ _
    (λ p h t. last_is f c.args.instr.now c.args.last g (stack c.args.frames.now) s x c.take_operand-above.ensures t v k c.variable-value.ensures c.instr_at-third.ensures ∙ h g t)
    (c.go_behind.ensures (seen k v (x ∷ [])) c.seen_with-given.ensures)
