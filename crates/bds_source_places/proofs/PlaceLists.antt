-- The steps to a part as lists, and the terms that they are.
use Rattle.std.proofs.Common.{◌≡◌, ℕ, List, [], ◌∷◌, ◌++◌, map, refl, sym, ap, ◌∙◌, append-nil}
use Rattle.bds_value.specs.declared.value.At.{At}
use Rattle.bds_tree.specs.StmtTree.{SuffixTree}
use Rattle.bds_tree.specs.StmtView.{place_of, suffix_of}
use Rattle.bds_tree.specs.declared.stmt.Place.{Place}
use Rattle.bds_tree.specs.declared.stmt.Suffix.{Suffix}
use Rattle.bds_tree.specs.Tree.{Tree, FormTree, node, item, key}
use Rattle.bds_tree.specs.View.{expr_step, form_step, tree_of, form_tree_of}
use Rattle.bds_tree.specs.declared.expr.Expr.{Expr, fold_out-Expr}
use Rattle.bds_tree.specs.declared.expr.Form.TheVariants as form
use Rattle.bds_tree.proofs.Views.{form_tree_of-Item, form_tree_of-Key}
use Rattle.bds_check_names.specs.declared.names.Names.{Names}
use Rattle.bds_meaning.specs.OpeningExpressions as expressions
use Rattle.bds_meaning.specs.OpeningPlaces as places
use Rattle.bds_meaning.specs.OpeningPlaces.{suffix_term, steps_then, intos_of, steps_of}
use Rattle.bds_meaning.specs.OpeningTexts as texts
use Rattle.bds_meaning.specs.Term.{Term, More, Update, Change, Mutated, Into, by_index, by_key}
use Rattle.bds_meaning.specs.Variables.{Scope}
use Rattle.bds_source_places.specs.Parts.{changed_part}
use Rattle.bds_source_places.specs.declared.updates.Part.{Part}
use Rattle.bds_source_terms.specs.declared.term.Way.{Way}
use Rattle.bds_source_terms.specs.declared.term.Term.{Term as SourceTerm}
use Rattle.bds_source_terms.specs.View.{into_of, more_of, scope_of, term_of}

-- one more part
pushed : (old : List SourceTerm) (t : SourceTerm) (rest : Term) → more_of (map term_of (old ++ t ∷ [])) rest ≡ more_of (map term_of old) (More (term_of t) rest)
pushed [] t rest = refl
pushed (x ∷ old) t rest = ap (More (term_of x)) (pushed old t rest)

pub part_put : (old new : List SourceTerm) (t : SourceTerm) (u : Term) → new ≡ old ++ t ∷ [] → term_of t ≡ u → (rest : Term) → more_of (map term_of new) rest ≡ more_of (map term_of old) (More u rest)
part_put old new t u put is rest =
    ap (λ (ts : List SourceTerm). more_of (map term_of ts) rest) put
    ∙ pushed old t rest
    ∙ ap (λ (x : Term). more_of (map term_of old) (More x rest)) is

pub steps_are : (names : Names) (ss : List SuffixTree) (rest : Term) → more_of (map (suffix_term names) ss) rest ≡ steps_then names ss rest
steps_are names [] rest = refl
steps_are names (s ∷ ss) rest = ap (More (suffix_term names s)) (steps_are names ss rest)

item_tree : (e a i : Expr) → e.form ≡ form.Item a i → tree_of e ≡ node e.at e.ty (item (tree_of a) (tree_of i))
item_tree e a i is = fold_out-Expr FormTree Tree form_step expr_step e ∙ ap (node e.at e.ty) (ap form_tree_of is ∙ form_tree_of-Item a i)

key_tree : (e a k : Expr) → e.form ≡ form.Key a k → tree_of e ≡ node e.at e.ty (key (tree_of a) (tree_of k))
key_tree e a k is = fold_out-Expr FormTree Tree form_step expr_step e ∙ ap (node e.at e.ty) (ap form_tree_of is ∙ form_tree_of-Key a k)

-- the steps into a list, and that to its item
pub index_put : (e a i x : Expr) (old between new : List Way) → e.form ≡ form.Item a i → x ≡ a → ((rest : List Into) → map into_of between ++ rest ≡ map into_of old ++ intos_of (tree_of x) rest) → ((rest : List Into) → map into_of new ++ rest ≡ map into_of between ++ by_index ∷ rest)
    → (rest : List Into) → map into_of new ++ rest ≡ map into_of old ++ intos_of (tree_of e) rest
index_put e a i x old between new is same inner last rest =
    last rest
    ∙ inner (by_index ∷ rest)
    ∙ ap (λ (y : Expr). map into_of old ++ intos_of (tree_of y) (by_index ∷ rest)) same
    ∙ sym (ap (λ (t : Tree). map into_of old ++ intos_of t rest) (item_tree e a i is))

-- the steps into a map, and that to the value of its key
pub key_put : (e a k x : Expr) (old between new : List Way) → e.form ≡ form.Key a k → x ≡ a → ((rest : List Into) → map into_of between ++ rest ≡ map into_of old ++ intos_of (tree_of x) rest) → ((rest : List Into) → map into_of new ++ rest ≡ map into_of between ++ by_key ∷ rest)
    → (rest : List Into) → map into_of new ++ rest ≡ map into_of old ++ intos_of (tree_of e) rest
key_put e a k x old between new is same inner last rest =
    last rest
    ∙ inner (by_key ∷ rest)
    ∙ ap (λ (y : Expr). map into_of old ++ intos_of (tree_of y) (by_key ∷ rest)) same
    ∙ sym (ap (λ (t : Tree). map into_of old ++ intos_of t rest) (key_tree e a k is))

-- the terms of the steps into a list, and that of the index
pub item_term_put : (names : Names) (e a i x y : Expr) (old between new : List SourceTerm) → e.form ≡ form.Item a i → x ≡ a → y ≡ i
    → ((rest : Term) → more_of (map term_of between) rest ≡ more_of (map term_of old) (steps_of names (tree_of x) rest))
    → ((rest : Term) → more_of (map term_of new) rest ≡ more_of (map term_of between) (More (expressions.term_of names (tree_of y)) rest))
    → (rest : Term) → more_of (map term_of new) rest ≡ more_of (map term_of old) (steps_of names (tree_of e) rest)
item_term_put names e a i x y old between new is same other inner last rest =
    last rest
    ∙ inner (More (expressions.term_of names (tree_of y)) rest)
    ∙ ap (λ (z : Expr). more_of (map term_of old) (steps_of names (tree_of z) (More (expressions.term_of names (tree_of y)) rest))) same
    ∙ ap (λ (z : Expr). more_of (map term_of old) (steps_of names (tree_of a) (More (expressions.term_of names (tree_of z)) rest))) other
    ∙ sym (ap (λ (t : Tree). more_of (map term_of old) (steps_of names t rest)) (item_tree e a i is))

-- the terms of the steps into a map, and that of the key
pub key_term_put : (names : Names) (e a k x y : Expr) (old between new : List SourceTerm) → e.form ≡ form.Key a k → x ≡ a → y ≡ k
    → ((rest : Term) → more_of (map term_of between) rest ≡ more_of (map term_of old) (steps_of names (tree_of x) rest))
    → ((rest : Term) → more_of (map term_of new) rest ≡ more_of (map term_of between) (More (expressions.term_of names (tree_of y)) rest))
    → (rest : Term) → more_of (map term_of new) rest ≡ more_of (map term_of old) (steps_of names (tree_of e) rest)
key_term_put names e a k x y old between new is same other inner last rest =
    last rest
    ∙ inner (More (expressions.term_of names (tree_of y)) rest)
    ∙ ap (λ (z : Expr). more_of (map term_of old) (steps_of names (tree_of z) (More (expressions.term_of names (tree_of y)) rest))) same
    ∙ ap (λ (z : Expr). more_of (map term_of old) (steps_of names (tree_of a) (More (expressions.term_of names (tree_of z)) rest))) other
    ∙ sym (ap (λ (t : Tree). more_of (map term_of old) (steps_of names t rest)) (key_tree e a k is))

-- the steps behind none, where nothing comes behind them
pub all_ways : (e : Tree) (ways none : List Way) → none ≡ [] → ((rest : List Into) → map into_of ways ++ rest ≡ map into_of none ++ intos_of e rest) → map into_of ways ≡ intos_of e []
all_ways e ways none is put = sym (append-nil (map into_of ways)) ∙ put [] ∙ ap (λ (ws : List Way). map into_of ws ++ intos_of e []) is

-- the terms of the steps behind none
pub all_steps : (names : Names) (e : Tree) (terms none : List SourceTerm) → none ≡ [] → ((rest : Term) → more_of (map term_of terms) rest ≡ more_of (map term_of none) (steps_of names e rest)) → (rest : Term) → more_of (map term_of terms) rest ≡ steps_of names e rest
all_steps names e terms none is put rest = put rest ∙ ap (λ (ts : List SourceTerm). more_of (map term_of ts) (steps_of names e rest)) is

-- the part that a place names
pub place_is : (names : Names) (p : Place) (part : Part) (xs ys : List Suffix) → xs ≡ p.suffixes → ys ≡ p.suffixes → scope_of part.scope ≡ texts.scope_of names p.name → part.name ≡ p.name → map into_of part.ways ≡ map places.into_of (map suffix_of xs)
    → map term_of part.steps ≡ map (suffix_term names) (map suffix_of ys) → (at : At) (c : Change) (rest : Term) → changed_part part at c rest ≡ places.place_term names at (place_of p) c rest
place_is names p part xs ys first second scope named ways steps at c rest =
    let found = texts.scope_of names p.name in
    let intos : List Into = map places.into_of (map suffix_of p.suffixes) in
    let all : map into_of part.ways ≡ intos = ways ∙ ap (λ (ss : List Suffix). map places.into_of (map suffix_of ss)) first in
    let terms : map term_of part.steps ≡ map (suffix_term names) (map suffix_of p.suffixes) = steps ∙ ap (λ (ss : List Suffix). map (suffix_term names) (map suffix_of ss)) second in
    ap (λ (s : Scope). Update at s part.name (map into_of part.ways) c (more_of (map term_of part.steps) rest)) scope
    ∙ ap (λ (x : List ℕ). Update at found x (map into_of part.ways) c (more_of (map term_of part.steps) rest)) named
    ∙ ap (λ (is : List Into). Update at found p.name is c (more_of (map term_of part.steps) rest)) all
    ∙ ap (λ (ts : List Term). Update at found p.name intos c (more_of ts rest)) terms
    ∙ ap (Update at found p.name intos c) (steps_are names (map suffix_of p.suffixes) rest)

-- the part that an expression names
pub root_is : (names : Names) (e : Tree) (part : Part) → scope_of part.scope ≡ texts.scope_of names part.name → part.name ≡ places.root_of e → map into_of part.ways ≡ intos_of e []
    → ((rest : Term) → more_of (map term_of part.steps) rest ≡ steps_of names e rest) → (at : At) (number : ℕ) (rest : Term) → changed_part part at (Mutated number) rest ≡ places.mutated names at e number rest
root_is names e part scope named ways steps at number rest =
    let root = places.root_of e in
    let found = texts.scope_of names root in
    ap (λ (s : Scope). Update at s part.name (map into_of part.ways) (Mutated number) (more_of (map term_of part.steps) rest)) scope
    ∙ ap (λ (x : List ℕ). Update at (texts.scope_of names x) x (map into_of part.ways) (Mutated number) (more_of (map term_of part.steps) rest)) named
    ∙ ap (λ (is : List Into). Update at found root is (Mutated number) (more_of (map term_of part.steps) rest)) ways
    ∙ ap (Update at found root (intos_of e []) (Mutated number)) (steps rest)
