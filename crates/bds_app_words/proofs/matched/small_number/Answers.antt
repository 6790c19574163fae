-- The number is read of the text that the rows hold.
use Rattle.std.proofs.Common.{◌∙◌, ◌^◌, sym, ap, Some, None}
use Rattle.std.specs.Prelude.{option_and_then}
use Rattle.std.specs.Str.Parse.{ParsesUnsigned, ExplainsUnsignedError, HasUnsignedDigitsIfOk}
use Rattle.clap.specs.Words.{found_of, one_text}
use Rattle.clap.proofs.WalkLemmas.{one_text-rows}
use Rattle.bds_app_words.specs.Asked.{number_below}
use Rattle.bds_app_words.proofs.Numbers.{one_read}
use Rattle.bds_app_words.proofs.matched.small_number.Goals as goal

pub returns-in-Some : goal.returns-in-Some
returns-in-Some c =
    let found = found_of c.args.matches.now in
    let read = one_read 32 _ (λ bs r. ParsesUnsigned 32 10 bs r × ExplainsUnsignedError 10 bs r × HasUnsignedDigitsIfOk bs r) (λ t x h. h.0) (one_text found c.args.id.now) (Some c.in-Some.number) c.in-Some.ensures.none c.in-Some.ensures.value in
    sym (read ∙ ap (option_and_then (number_below (2 ^ 32))) (one_text-rows found c.args.id.now))

pub returns-in-None : goal.returns-in-None
returns-in-None c =
    let found = found_of c.args.matches.now in
    let read = one_read 32 _ (λ bs r. ParsesUnsigned 32 10 bs r × ExplainsUnsignedError 10 bs r × HasUnsignedDigitsIfOk bs r) (λ t x h. h.0) (one_text found c.args.id.now) None c.in-None.ensures.none c.in-None.ensures.value in
    sym (read ∙ ap (option_and_then (number_below (2 ^ 32))) (one_text-rows found c.args.id.now))
