use Rattle.std.specs.Prelude.{decimal}
use Rattle.bds_farm.proofs.Numbers.{behind_both}
use Rattle.bds_farm.proofs.lines.number_behind.Goals as goal

pub returns-in-Some : goal.returns-in-Some
returns-in-Some c =
    behind_both (λ x. x.now) c.args.words.now
    (decimal c.args.number) c.args.text.now c.in-Some.rest.now c.behind-in-Some.result c.in-Some.ensures
    (rw (c.as_bytes.ensures.value, c.format.ensures.text) at c.behind-in-Some.ensures)
