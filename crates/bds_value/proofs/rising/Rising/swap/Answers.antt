use Rattle.std.proofs.Common.{◌≡◌, ◌∙◌, ap, sym, subst, Some, IsSome, true, false}
use Rattle.bds_value.specs.Path.{at_key, set_key}
use Rattle.bds_value.proofs.Entries.{lookup_is, set_is}
use Rattle.bds_value.proofs.rising.Rising.swap.Goals as goal

pub unreachable-requires : goal.unreachable-requires
unreachable-requires g c =
    let there : false ≡ true = subst IsSome (sym (c.in-None.ensures.value ∙ lookup_is c.args.key.now c.self.inside.pairs.entries ∙ ap (at_key c.args.key.now) c.self.view_is)) c.requires in
    absurd (cc)

pub returns-clause-new : goal.returns-clause-new
returns-clause-new g c =
    let held = c.replace.new.dest in
    (c.get_mut.follows.holds held).0 ∙ set_is c.args.key.now held c.self.inside.pairs.entries ∙ ap (λ (x : g.row.T.Denot). set_key c.args.key.now x c.self.inside.pairs.entries) c.replace.ensures.after ∙ ap (set_key c.args.key.now c.args.value) c.self.view_is

pub returns-clause-old : goal.returns-clause-old
returns-clause-old g c = sym (c.in-Some.ensures.value ∙ lookup_is c.args.key.now c.self.inside.pairs.entries ∙ ap (at_key c.args.key.now) c.self.view_is) ∙ ap Some (sym c.replace.ensures.value)
