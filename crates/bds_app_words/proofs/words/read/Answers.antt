-- What `clap` matches is what words ask for, and where it has a fault they ask for nothing.
use Rattle.std.proofs.Common.{◌∙◌, sym, ap, subst, map, string_bytes}
use Rattle.std.specs.Prelude.{option_and_then}
use Rattle.clap.specs.Words.{app_of, is_simple_and_free}
use Rattle.clap.specs.Simple.{is_simple}
use Rattle.bds_app_words.specs.Asked.{Gives, asked_of}
use Rattle.bds_app_words.proofs.Reading.{read_of, refused}
use Rattle.bds_app_words.proofs.words.read.Goals as goal

pub returns-in-Ok-try_get_matches_from : goal.returns-in-Ok-try_get_matches_from
returns-in-Ok-try_get_matches_from c =
    let is = c.in-Ok.ensures in
    let met = c.in-Ok-try_get_matches_from.ensures in
    let short = sym c.are_short.ensures ∙ c.if-not-are_short.false in
    let read = read_of (app_of c.in-Ok.command) (map string_bytes c.args.words.now) is short (met.kinds (ap is_simple_and_free is)) in
    subst (λ o. Gives o c.asked.result) (ap (option_and_then (λ p. asked_of p.0 p.1)) (met.matches (ap is_simple is)).1 ∙ read) c.asked.ensures

pub returns-in-Err : goal.returns-in-Err
returns-in-Err c =
    let is = c.in-Ok.ensures in
    refused (app_of c.in-Ok.command) (map string_bytes c.args.words.now) c.in-Err.error is (c.in-Err.ensures.kinds (ap is_simple_and_free is)) c.failure.result c.failure.ensures.other
