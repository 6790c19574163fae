use Rattle.std.proofs.Common.{◌∷◌, []}
use Rattle.std.proofs.lemmas.Str.Pattern.{split_text_parts}
use Rattle.bds_exec.proofs.Lines.{parted_at, strange_line}
use Rattle.bds_exec.proofs.runner.parts_of.Goals as goal

pub returns-in_default : goal.returns-in_default
returns-in_default c = strange_line c.args.line.now c.in_default.ensures.cases.0

pub returns : goal.returns
returns c =
    parted_at c.args.line.now c.in-Ok.text.now c.split_once.result c.in-Ok.ensures.cases.0
    (split_text_parts (32 ∷ []) c.in-Ok.text.now c.split_once.result c.split_once.ensures.cases)
