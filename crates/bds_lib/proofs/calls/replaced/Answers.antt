use Rattle.std.proofs.Common.{◌≡◌, rules, subst, ap, ◌∙◌}
use Rattle.std.specs.List.{join_by}
use Rattle.bds_lib.specs.Lists.{item_text}
use Rattle.bds_lib.specs.Results.{OrNoMemory, short_text}
use Rattle.bds_lib.specs.Searching.{pieces}
use Rattle.bds_lib.specs.Texts.{replaced}
use Rattle.bds_lib.proofs.ListLaws.{texts_joined}
use Rattle.bds_lib.proofs.calls.replaced.Goals as goal

pub returns : goal.returns
returns c =
    let same : join_by item_text c.args.new.now c.as_slice.result.now ≡ replaced c.args.old.now c.args.new.now c.args.text.now =
    ap (join_by item_text c.args.new.now) (search rules) ∙ texts_joined c.args.new.now (pieces c.args.old.now c.args.text.now) in
    subst (λ t. OrNoMemory (short_text t) c.join.result) same c.join.ensures
