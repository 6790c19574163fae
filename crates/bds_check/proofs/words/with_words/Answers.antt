use Rattle.std.proofs.Common.{ap, sym, ◌∙◌, List}
use Rattle.bds_tree.specs.StmtView.{script_of}
use Rattle.bds_check_names.specs.declared.names.Variable.{Variable}
use Rattle.bds_check_typing.specs.GivenValues.{set_by}
use Rattle.bds_check_words.specs.WordSettings.{words_give}
use Rattle.bds_check_words.proofs.FittingGlobals.{typed-with}
use Rattle.bds_check.proofs.words.with_words.Goals as goal

pub set-requires : goal.set-requires
set-requires c = λ typed. typed-with (script_of c.args.typed.script) c.args.words.now (set_by c.in-Ok.field-0.settings) c.in-Ok.field-0.args typed c.requires.few c.requires.short
    (ap (λ (gs : List Variable). words_give gs c.args.words.now) (sym c.globals.ensures) ∙ sym c.in-Ok.ensures)
