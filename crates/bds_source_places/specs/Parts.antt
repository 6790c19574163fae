-- For private contracts alone: the change of a part of a variable.
use Rattle.std.specs.Prelude.{map}
use Rattle.bds_value.specs.declared.value.At.{At}
use Rattle.bds_meaning.specs.Term.{Term, Update, Change}
use Rattle.bds_source_places.specs.declared.updates.Part.{Part}
use Rattle.bds_source_terms.specs.View.{scope_of, into_of, term_of, more_of}

abbrev pub changed_part : Part → At → Change → Term → Term
changed_part p at c rest = Update at (scope_of p.scope) p.name (map into_of p.ways) c (more_of (map term_of p.steps) rest)
