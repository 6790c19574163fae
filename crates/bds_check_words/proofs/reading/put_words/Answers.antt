use Rattle.std.proofs.Common.{◌∙◌, refl}
use Rattle.bds_check_words.proofs.Taken.{word-read}
use Rattle.bds_check_words.proofs.reading.put_words.Goals as goal

pub loop-rest-preserved : goal.loop-rest-preserved
loop-rest-preserved c =
    c.loop-rest.invariant ∙ word-read c.args.globals.now c.loop-rest.preset c.put_word.new.preset c.word-item.result c.loop-rest.rest.now _ c.split_at.result.1.now c.in_ok-taken.taken c.in-len1-up.len_at_least c.word-item.is refl c.in_ok-taken.ensures.0 c.split_at.ensures.back
