use Rattle.std.proofs.Common.{◌∙◌, ◌++◌, sym, ap, map}
use Rattle.bds_tree.specs.StmtView.{part_of, script_of}
use Rattle.bds_tree.specs.Words.{words}
use Rattle.bds_spell.specs.StmtWords.{parts_words}
use Rattle.bds_spell.proofs.StmtSpelled.{script_spelled}
use Rattle.bds_spell.proofs.spell_stmt.spell.Goals as goal

pub returns : goal.returns
returns c = c.in_ok-put_parts.ensures ∙ ap (λ tokens. words tokens ++ parts_words (map part_of c.as_slice.result.now)) c.new-tokens.ensures ∙ ap (λ parts. parts_words (map part_of parts)) c.as_slice.ensures ∙ sym (script_spelled (script_of c.args.script.now))
