-- The texts are those that the rows hold.
use Rattle.std.proofs.Common.{◌∙◌, sym, ap, [], List, Option, Some}
use Rattle.std.specs.Prelude.{unwrap_or}
use Rattle.clap.specs.Words.{Text, found_of}
use Rattle.clap.proofs.WalkLemmas.{raw_values-rows}
use Rattle.bds_app_words.proofs.matched.all.Goals as goal

pub returns-in-Ok : goal.returns-in-Ok
returns-in-Ok c =
    let rows = c.in-Some.ensures ∙ raw_values-rows (found_of c.args.matches.now) c.args.id.now in
    ap Some (sym (c.in-Ok.ensures ∙ ap (λ (o : Option (List Text)). unwrap_or o []) rows))

pub returns-in-None : goal.returns-in-None
returns-in-None c =
    let rows = c.in-None.ensures ∙ raw_values-rows (found_of c.args.matches.now) c.args.id.now in
    ap Some (sym (c.new.ensures ∙ ap (λ (o : Option (List Text)). unwrap_or o []) rows))
