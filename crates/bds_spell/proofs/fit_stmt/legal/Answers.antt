use Rattle.std.proofs.lemmas.Bool.Decides.{Decides-at}
use Rattle.bds_tree.specs.StmtView.{script_of}
use Rattle.bds_spell.proofs.StmtLegality.{script_decides}
use Rattle.bds_spell.proofs.fit_stmt.legal.Goals as goal

pub returns : goal.returns
returns c = Decides-at _ _ c.script_fits.ensures (script_decides (script_of c.args.script.now))
