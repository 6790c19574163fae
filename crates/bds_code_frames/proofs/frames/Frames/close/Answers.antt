use Rattle.std.proofs.Common.{Some, sym, ap, subst, ◌∙◌, arith}
use Rattle.bds_code_frames.specs.Laid.{IsLaid, frames_of}
use Rattle.bds_code_frames.specs.Stack.{stack}
use Rattle.bds_code_frames.proofs.Opens.{closed-is, closed-laid, none-below}
use Rattle.bds_code_frames.proofs.Steps.{laid-some}
use Rattle.bds_code_frames.proofs.frames.Frames.close.Goals as goal

pub cut-requires : goal.cut-requires
cut-requires c =
    let f = (laid-some c.self.inside.values.items c.self.inside.below.items c.self.inside.newest c.head-head.result
    c.head-head.ensures c.self.invariant).3 in
    let a = f.slots in
    let b = f.operands in
    omega arith

pub invariant_of-self : goal.invariant_of-self
invariant_of-self c =
    subst (IsLaid c.cut.new.values.items c.pop.new.self.items) (sym c.newest_of-self-inside.ensures)
    (closed-laid c.self.inside.values.items c.cut.new.values.items c.self.inside.below.items c.pop.new.self.items
    c.self.inside.newest c.pop.result c.head-head.result c.head-head.ensures c.self.invariant c.cut.ensures
    c.pop.ensures.items
    (none-below c.self.inside.below.items c.pop.result _ c.self.inside.below.ok.0 c.pop.ensures.variant))

pub returns : goal.returns
returns c =
    closed-is c.self.inside.values.items c.cut.new.values.items c.self.inside.below.items c.pop.new.self.items
    c.self.inside.newest c.pop.result c.args.self.now c.head-head.result c.self.view_is c.head-head.ensures
    c.self.invariant c.cut.ensures c.pop.ensures.items
    (none-below c.self.inside.below.items c.pop.result _ c.self.inside.below.ok.0 c.pop.ensures.variant)
    ∙ ap (λ o. Some (stack (frames_of c.cut.new.values.items c.pop.new.self.items o)))
    (sym c.newest_of-self-inside.ensures)
