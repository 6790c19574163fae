-- Further commands as a list of parts, and the text that they are.
use Rattle.std.proofs.Common.{◌≡◌, ℕ, ◌+◌, ◌<◌, List, [], ◌∷◌, ◌++◌, length, get_or, drop, map, refl, ap, sym, ◌∙◌, append_assoc}
use Rattle.std.proofs.lemmas.List.{drop_more}
use Rattle.std.specs.Prelude.{codes}
use Rattle.bds_value.specs.declared.value.At.{At}
use Rattle.bds_tree.specs.declared.stmt.Command.{Command}
use Rattle.bds_check_names.specs.declared.names.Names.{Names}
use Rattle.bds_meaning.specs.OpeningActs.{commands_joined}
use Rattle.bds_meaning.specs.OpeningTexts.{joined, joined_all, plain, text_of_parts, text_term}
use Rattle.bds_meaning.specs.Term.{Term}
use Rattle.bds_source_acts.specs.Commands.{further_parts}
use Rattle.bds_source_terms.specs.View.{term_of}
use Rattle.bds_source_terms.specs.declared.term.Term.{Term as SourceTerm}

commands_are : (names : Names) (at : At) (cs : List Command) (first : Term) → joined_all at first (further_parts names cs) ≡ commands_joined names at first cs
commands_are names at [] first = refl
commands_are names at (c ∷ cs) first = commands_are names at cs (joined at (joined at first (plain (codes "\n"))) (text_term names c.at c.text))

-- the text of commands that were put behind nothing
pub joined_is : (names : Names) (at : At) (text : Term) (cs : List Command) (parts none : List SourceTerm) → none ≡ [] → map term_of parts ≡ map term_of none ++ text ∷ further_parts names cs → text_of_parts at (map term_of parts) ≡ commands_joined names at text cs
joined_is names at text cs parts none is put = ap (text_of_parts at) (put ∙ ap (λ (ts : List SourceTerm). map term_of ts ++ text ∷ further_parts names cs) is) ∙ commands_are names at cs text

-- one command more
pub command_put : (names : Names) (before now whole : List Term) (cs : List Command) (i : ℕ) (c : Command) → i < length cs → c ≡ get_or cs i c → now ≡ before ++ further_parts names (c ∷ []) → before ++ further_parts names (drop i cs) ≡ whole
    → now ++ further_parts names (drop (i + 1) cs) ≡ whole
command_put names before now whole cs i c below is put inv =
    let rest : List Command = drop (i + 1) cs in
    let item : drop i cs ≡ c ∷ rest = drop_more cs i c below ∙ ap (λ (d : Command). d ∷ rest) (sym is) in
    let shifted : (before ++ further_parts names (c ∷ [])) ++ further_parts names rest ≡ before ++ further_parts names (c ∷ rest) = rw append_assoc refl in
    ap (λ (ts : List Term). ts ++ further_parts names rest) put
    ∙ shifted
    ∙ ap (λ (ds : List Command). before ++ further_parts names ds) (sym item)
    ∙ inv
