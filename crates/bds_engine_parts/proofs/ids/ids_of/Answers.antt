use Rattle.std.proofs.Common.{◌<◌, Bool, None, Ok, Some, length, refl, subst, sym, ap, ◌∙◌, arith}
use Rattle.std.proofs.lemmas.Option.{slice_get_read}
use Rattle.bds_engine_parts.specs.Look.{IsNamed, IsPut, Puts}
use Rattle.bds_engine_parts.proofs.Naming.{names_none, puts_on}
use Rattle.bds_engine_parts.proofs.ids.ids_of.Goals as goal

pub returns-in-Ok-false : goal.returns-in-Ok-false
returns-in-Ok-false c =
    let text = c.as_slice.result.now in
    let told : (0 < length text) × IsNamed c.args.tasks c.args.threads text None =
    subst (λ (b : Bool). Puts c.args.tasks c.args.threads text c.loop-i.ids c.put_id.new.ids (Ok b)) c.in-Ok-false.field-0-test c.in-Ok-false.ensures in
    names_none c.args.tasks c.args.threads c.args.texts.now c.loop-i.i c.loop-i.ids c.loop-i.invariant text
    (slice_get_read c.args.texts.now (length c.args.texts.now) c.loop-i.i c.index-texts-i.result refl (omega arith) c.index-texts-i.is ∙ ap Some (sym c.as_slice.ensures)) told.0 told.1

pub loop-i-preserved : goal.loop-i-preserved
loop-i-preserved c =
    let text = c.as_slice.result.now in
    let put : IsPut c.args.tasks c.args.threads text c.loop-i.ids c.put_id.new.ids =
    subst (λ (b : Bool). Puts c.args.tasks c.args.threads text c.loop-i.ids c.put_id.new.ids (Ok b)) c.in-Ok-true.field-0-test c.in-Ok-true.ensures in
    puts_on c.args.tasks c.args.threads c.args.texts.now c.loop-i.i c.loop-i.ids c.loop-i.invariant text
    (slice_get_read c.args.texts.now (length c.args.texts.now) c.loop-i.i c.index-texts-i.result refl (omega arith) c.index-texts-i.is ∙ ap Some (sym c.as_slice.ensures)) c.put_id.new.ids put
