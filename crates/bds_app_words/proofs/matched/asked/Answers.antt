-- The name and the rows are those of the subcommand that was met.
use Rattle.std.proofs.Common.{subst}
use Rattle.std.specs.Prelude.{option_and_then}
use Rattle.clap.specs.declared.parser.matches.ArgMatches.TheViews.{out-ArgMatches}
use Rattle.bds_app_words.specs.Asked.{Gives, asked_of}
use Rattle.bds_app_words.proofs.Reading.{matched}
use Rattle.bds_app_words.proofs.matched.asked.Goals as goal

pub returns-in-Some : goal.returns-in-Some
returns-in-Some c =
    let met = matched _ (out-ArgMatches c.args.matches.now).subcommand _ _ c.in-Some.ensures.name c.in-Some.ensures.rows in
    subst (λ o. Gives (option_and_then (λ p. asked_of p.0 p.1) o) c.asked_of.result) met c.asked_of.ensures
