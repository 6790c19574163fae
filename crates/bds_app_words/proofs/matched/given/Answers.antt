-- The text is the one that the rows hold.
use Rattle.std.proofs.Common.{◌∙◌, sym, ap, Some}
use Rattle.clap.specs.Words.{found_of}
use Rattle.clap.proofs.WalkLemmas.{first_value-rows}
use Rattle.bds_app_words.proofs.matched.given.Goals as goal

pub returns-in_ok-bytes_of-in-Some : goal.returns-in_ok-bytes_of-in-Some
returns-in_ok-bytes_of-in-Some c =
    let found = found_of c.args.matches.now in
    ap Some (sym (c.in-Some.ensures ∙ first_value-rows found c.args.id.now) ∙ c.in_ok-bytes_of-in-Some.ensures)

pub returns-in-None : goal.returns-in-None
returns-in-None c =
    let found = found_of c.args.matches.now in
    ap Some (sym (c.in-None.ensures ∙ first_value-rows found c.args.id.now))
