-- For private contracts alone: the terms of commands.
use Rattle.std.specs.Prelude.{List, [], ◌∷◌, codes}
use Rattle.bds_tree.specs.declared.stmt.Command.{Command}
use Rattle.bds_check_names.specs.declared.names.Names.{Names}
use Rattle.bds_meaning.specs.OpeningTexts.{plain, text_term}
use Rattle.bds_meaning.specs.Term.{Term}

-- further commands, each behind a line end
abbrev pub further_parts : Names → List Command → List Term
further_parts names [] = []
further_parts names (c ∷ cs) = plain (codes "\n") ∷ text_term names c.at c.text ∷ further_parts names cs
