use Rattle.std.proofs.Common.{◌≡◌, List, ◌++◌, [], ◌∷◌, map, take, append-nil, append_assoc, sym, ap, ◌∙◌}
use Rattle.bds_value.specs.declared.value.Value.{Value}
use Rattle.bds_value.specs.Value.{default_of}
use Rattle.bds_code_frames.specs.Stack.{stack, call_at}
use Rattle.bds_state_threads.proofs.Locals.{not_void, more_defaults, slot_allowed, slot_begun}
use Rattle.bds_state_threads.proofs.made.add_locals.Goals as goal

pub loop-ty-init : goal.loop-ty-init
loop-ty-init c = λ args e. e ∙ ap (λ slots. call_at c.args.function slots ∷ []) (sym (append-nil args))

pub default_of-requires : goal.default_of-requires
default_of-requires c = not_void c.args.locals.now c.loop-ty.ty-index c.ty-item.result c.loop-ty-test.true c.ty-item.is c.requires.types

pub add_slot-requires : goal.add_slot-requires
add_slot-requires c = slot_allowed c.args.function _ (stack c.loop-ty.frames) c.in_ok-value.value (c.loop-ty.invariant c.requires.call.0 c.requires.call.1)

pub loop-ty-preserved : goal.loop-ty-preserved
loop-ty-preserved c = λ args e.
    let before : List Value = args ++ map default_of (take c.loop-ty.ty-index c.args.locals.now) in
    let more = more_defaults c.args.locals.now c.loop-ty.ty-index c.ty-item.result c.loop-ty-test.true c.ty-item.is in
    slot_begun c.args.function before (stack c.loop-ty.frames) (stack c.add_slot.new.self) c.in_ok-value.value (c.loop-ty.invariant args e) c.in_ok-add_slot.ensures.ok
    ∙ ap (λ (slots : List Value). call_at c.args.function slots ∷ [])
    (ap (λ (v : Value). before ++ v ∷ []) c.in_ok-value.ensures.value ∙ append_assoc args (map default_of (take c.loop-ty.ty-index c.args.locals.now)) (default_of c.ty-item.result ∷ []) ∙ ap (λ (vs : List Value). args ++ vs) (sym more))
