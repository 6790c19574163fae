use Rattle.std.proofs.Common.{◌≡◌, ◌∙◌, ap, sym, subst, None, IsSome, List, ℕ}
use Rattle.bds_value.specs.Path.{at_key, insert_key, set_key}
use Rattle.bds_value.proofs.Entries.{insert_is, replace_is, rise_sorted}
use Rattle.bds_value.proofs.rising.Rising.put.Goals as goal

pub returns-in-Ok-clause-there : goal.returns-in-Ok-clause-there
returns-in-Ok-clause-there g c some =
    let ps = c.self.inside.pairs.entries in
    let there = subst (λ (l : List (List ℕ × g.row.T.Denot)). IsSome (at_key c.args.key l)) (sym c.self.view_is) some in
    c.in-Ok.ensures.entries ∙ replace_is c.args.key c.args.value ps (rise_sorted ps c.in-Ok.ensures.was_ordered) there ∙ ap (set_key c.args.key c.args.value) c.self.view_is

pub returns-in-Ok-clause-gone : goal.returns-in-Ok-clause-gone
returns-in-Ok-clause-gone g c none =
    let gone : at_key c.args.key c.self.inside.pairs.entries ≡ None = ap (at_key c.args.key) c.self.view_is ∙ none in
    c.in-Ok.ensures.entries ∙ insert_is c.args.key c.args.value c.self.inside.pairs.entries gone ∙ ap (insert_key c.args.key c.args.value) c.self.view_is
