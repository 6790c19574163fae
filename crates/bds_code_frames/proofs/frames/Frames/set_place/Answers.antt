use Rattle.std.proofs.Common.{Some, sym, ap, ◌∙◌}
use Rattle.bds_code_frames.specs.Laid.{frames_of}
use Rattle.bds_code_frames.specs.Stack.{stack}
use Rattle.bds_code_frames.proofs.Fills.{newest-head}
use Rattle.bds_code_frames.proofs.Steps.{moved-is, moved-there}
use Rattle.bds_code_frames.proofs.frames.Frames.set_place.Goals as goal

pub returns : goal.returns
returns c =
    let h = newest-head c.self.inside.newest (moved-there c.self.inside.values.items
    c.self.inside.below.items c.args.self.now c.self.inside.newest c.args.place c.self.view_is c.requires) in
    moved-is c.self.inside.values.items c.self.inside.below.items c.args.self.now c.self.inside.newest h.0 c.args.place
    c.self.view_is h.1
    ∙ ap (λ o. Some (stack (frames_of c.self.inside.values.items c.self.inside.below.items o)))
    (sym (c.set_place.ensures h.0 h.1))
