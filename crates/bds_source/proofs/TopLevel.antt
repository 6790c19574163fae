-- Statements of the top level, one behind another.
use Rattle.std.proofs.Common.{◌≡◌, ℕ, ◌+◌, ◌<◌, ◌≤◌, List, [], ◌∷◌, ◌++◌, length, drop, get_or, map, refl, sym, ◌∙◌, ap, ap₂}
use Rattle.std.proofs.lemmas.List.{drop_all, drop_more}
use Rattle.bds_tree.specs.declared.stmt.Part.{Part}
use Rattle.bds_tree.specs.StmtTree.{StmtTree, PartTree, a_statement}
use Rattle.bds_tree.specs.StmtView.{part_of}
use Rattle.bds_check_names.specs.declared.names.Names.{Names}
use Rattle.bds_check_names.specs.declared.names.Site.{Site}
use Rattle.bds_check_names.specs.Scopes.{top}
use Rattle.bds_meaning.specs.Opening.{parts_term}
use Rattle.bds_meaning.specs.OpeningStatements.{stmt_term, behind}
use Rattle.bds_meaning.specs.Term as meaning
use Rattle.bds_meaning.specs.Variables.{Bindings}
use Rattle.bds_source.specs.Opened.{opened}
use Rattle.bds_source_terms.specs.declared.term.Term.{Term}
use Rattle.bds_source_terms.specs.View.{term_of, then_of}

-- one more statement
then-pushed : (ts : List Term) (t : Term) (rest : meaning.Term) → then_of (map term_of (ts ++ t ∷ [])) rest ≡ then_of (map term_of ts) (meaning.Then (term_of t) rest)
then-pushed [] t rest = refl
then-pushed (x ∷ ts) t rest = ap (meaning.Then (term_of x)) (then-pushed ts t rest)

pub top_put : (ss : Bindings) (names between now : Names) (site : Site) (s : StmtTree) (old new : List Term) (t : Term) (ps : List PartTree) → site ≡ top → term_of t ≡ opened ss names site s → between ≡ names → new ≡ old ++ t ∷ [] → now ≡ behind between top s
    → then_of (map term_of new) (parts_term ss now ps) ≡ then_of (map term_of old) (parts_term ss names (a_statement s ∷ ps))
unfolding opened
top_put ss names between now site s old new t ps e1 e2 e3 e4 e5 =
    ap₂ (λ (us : List Term) (n : Names). then_of (map term_of us) (parts_term ss n ps)) e4 (e5 ∙ ap (λ (n : Names). behind n top s) e3)
    ∙ then-pushed old t (parts_term ss (behind names top s) ps)
    ∙ ap (λ (u : meaning.Term). then_of (map term_of old) (meaning.Then u (parts_term ss (behind names top s) ps))) (e2 ∙ ap (λ (x : Site). stmt_term ss names x s) e1)

pub parts_next : (ss : Bindings) (parts : List Part) (i : ℕ) (p : Part) (names now : Names) (old new : List meaning.Term) (whole : meaning.Term) → i < length parts → p ≡ get_or parts i p
    → ((ps : List PartTree) → then_of new (parts_term ss now ps) ≡ then_of old (parts_term ss names (part_of p ∷ ps))) → then_of old (parts_term ss names (map part_of (drop i parts))) ≡ whole → then_of new (parts_term ss now (map part_of (drop (i + 1) parts))) ≡ whole
parts_next ss parts i p names now old new whole below is step inv =
    let rest : List Part = drop (i + 1) parts in
    let item : drop i parts ≡ p ∷ rest = drop_more parts i p below ∙ ap (λ (y : Part). y ∷ rest) (sym is) in
    step (map part_of rest) ∙ ap (λ (qs : List Part). then_of old (parts_term ss names (map part_of qs))) (sym item) ∙ inv

pub parts_none : (ss : Bindings) (parts : List Part) (i : ℕ) (names : Names) (ts : List meaning.Term) (whole : meaning.Term) → length parts ≤ i → then_of ts (parts_term ss names (map part_of (drop i parts))) ≡ whole → then_of ts meaning.Nothing ≡ whole
parts_none ss parts i names ts whole end inv = ap (λ (qs : List Part). then_of ts (parts_term ss names (map part_of qs))) (sym (drop_all i parts end)) ∙ inv
