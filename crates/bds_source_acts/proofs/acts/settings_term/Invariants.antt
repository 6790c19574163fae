use Rattle.std.proofs.Common.{◌≡◌, ◌≤◌, drop, length}
use Rattle.bds_tree.specs.StmtView.{settings_of}
use Rattle.bds_meaning.specs.OpeningActs.{settings_term}
use Rattle.bds_source_terms.specs.View.{term_of, making_of}
use Rattle.bds_source_acts.proofs.acts.settings_term.Given as goal

abbrev pub invariant-loop-i : goal.invariant-loop-i
invariant-loop-i l = (term_of l.term ≡ settings_term l.names (making_of l.making) (settings_of (drop l.i l.settings)) (term_of l.fn.rest)) × (l.i ≤ length l.settings)
