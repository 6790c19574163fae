use Rattle.std.proofs.Common.{Some, map, sym, ap, ◌∙◌}
use Rattle.std.proofs.lemmas.List.{length-map}
use Rattle.bds_value.specs.Value.{default_of}
use Rattle.bds_code_frames.specs.Laid.{frames_of}
use Rattle.bds_code_frames.specs.Stack.{stack}
use Rattle.bds_code_frames.proofs.Fills.{frame-there, some-there, slots_added-is}
use Rattle.bds_code_frames.proofs.frames.Frames.add_defaults.Goals as goal

pub head-head-requires : goal.head-head-requires
head-head-requires c =
    some-there c.self.inside.newest (λ is. frame-there c.self.inside.values.items c.self.inside.below.items
    c.args.self.now c.self.inside.newest c.self.view_is is c.requires.alone)

pub returns-clause-ok : goal.returns-clause-ok
returns-clause-ok c =
    slots_added-is c.self.inside.values.items c.add_blanks.new.values.items (map default_of c.args.types.now)
    c.self.inside.below.items c.args.self.now c.self.inside.newest c.head-head.result _ c.self.view_is
    c.head-head.ensures c.self.invariant c.requires.alone c.in_ok-add_blanks.ensures.ok.0
    (length-map c.args.types.now default_of)
    ∙ ap (λ o. Some (stack (frames_of c.add_blanks.new.values.items c.self.inside.below.items o)))
    (sym (c.add_slots.ensures c.head-head.result c.head-head.ensures))
