use Rattle.std.proofs.Common.{ℕ, List, subst, sym}
use Rattle.bds_value.specs.declared.value.Ty.{Ty}
use Rattle.bds_value.specs.Fields.{AreFieldTypes}
use Rattle.bds_code.proofs.fields.writing.put_each_label.Goals as goal

pub put_label-requires : goal.put_label-requires
put_label-requires c = subst (λ (p : ℕ × List Ty). AreFieldTypes p.1) (sym c.label-item.is) (c.requires c.loop-label.label-index c.label-item.result c.loop-label-test.true)
