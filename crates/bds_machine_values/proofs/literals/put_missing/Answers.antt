use Rattle.std.proofs.Common.{cond, ap, ◌∙◌}
use Rattle.bds_value.specs.Path.{at_key, insert_key}
use Rattle.bds_machine_values.proofs.Keys.{found, missing}
use Rattle.bds_machine_values.proofs.literals.put_missing.Goals as goal

pub returns-then-is_some-clause-pair : goal.returns-then-is_some-clause-pair
returns-then-is_some-clause-pair c =
    let made = c.args.made.now in
    ap (λ b. cond b made (insert_key c.args.key c.args.value made)) (found c.get.result (at_key c.args.key made) _ c.if-is_some.ensures c.get.ensures)

pub insert-requires : goal.insert-requires
insert-requires c = missing c.get.result (at_key c.args.key c.args.made.now) c.if-is_some.ensures c.get.ensures

pub returns-clause-pair : goal.returns-clause-pair
returns-clause-pair c =
    let made = c.args.made.now in
    c.in_ok-insert.ensures.ok ∙ ap (λ b. cond b made (insert_key c.args.key c.args.value made)) (found c.get.result (at_key c.args.key made) _ c.if-is_some.ensures c.get.ensures)
