-- The text is the one that the rows hold.
use Rattle.std.proofs.Common.{◌∙◌, sym, subst}
use Rattle.clap.specs.Words.{found_of}
use Rattle.clap.proofs.WalkLemmas.{first_value-rows}
use Rattle.bds_app_words.specs.Asked.{Gives}
use Rattle.bds_app_words.proofs.matched.first.Goals as goal

pub returns-in-Some : goal.returns-in-Some
returns-in-Some c =
    let found = found_of c.args.matches.now in
    subst (λ wanted. Gives wanted c.bytes_of.result) (c.in-Some.ensures ∙ first_value-rows found c.args.id.now) c.bytes_of.ensures

pub returns-in-None : goal.returns-in-None
returns-in-None c =
    let found = found_of c.args.matches.now in
    sym (c.in-None.ensures ∙ first_value-rows found c.args.id.now)
