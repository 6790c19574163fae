use Rattle.std.proofs.Common.{◌++◌, take, sym, ap, ◌∙◌, append_assoc}
use Rattle.std.specs.List.{flat_map}
use Rattle.bds_value.specs.Spelling.{ty_field}
use Rattle.bds_code.proofs.ShapeLaws.{next_mapped}
use Rattle.bds_code.proofs.fields.writing.put_each_ty.Goals as goal

pub loop-place-preserved : goal.loop-place-preserved
loop-place-preserved c =
    let before = c.args.out.now.items in
    let i = c.loop-place.place in
    let ty = c.at.result.now in
    c.in_ok-put_ty.ensures.ok
    ∙ ap (λ bytes. bytes ++ ty_field ty) c.loop-place.invariant
    ∙ append_assoc before (flat_map ty_field (take i c.args.shape.now)) (ty_field ty)
    ∙ ap (λ bytes. before ++ bytes) (sym (next_mapped ty_field c.args.shape.now i ty c.at.ensures))
