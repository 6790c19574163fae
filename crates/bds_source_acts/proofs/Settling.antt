-- Options in one list, the last first.
use Rattle.std.proofs.Common.{◌≡◌, List, [], ◌∷◌, ◌++◌, map, refl, sym, ap, ◌∙◌}
use Rattle.bds_meaning.specs.Term as meaning
use Rattle.bds_source_terms.specs.declared.term.Choice.{Choice}
use Rattle.bds_source_terms.specs.declared.term.Term.{Term, fold-roll-Term}
use Rattle.bds_source_terms.specs.declared.term.Term.TheVariants as source
use Rattle.bds_source_terms.specs.declared.term.Term.TheOpen.{Term-F}
use Rattle.bds_source_terms.specs.View.{term_of, term_step, setting_of, settled_of}

abbrev valued : Choice × Term → Choice × meaning.Term
valued c = (c.0, term_of c.1)

settled-pushed : (cs : List (Choice × meaning.Term)) (c : Choice × meaning.Term) (rest : meaning.Term) → settled_of (cs ++ c ∷ []) rest ≡ meaning.Settle (setting_of c.0) c.1 (settled_of cs rest)
settled-pushed [] c rest = refl
settled-pushed (x ∷ cs) c rest = settled-pushed cs c (meaning.Settle (setting_of x.0) x.1 rest)

values-pushed : (cs : List (Choice × Term)) (c : Choice × Term) → map valued (cs ++ c ∷ []) ≡ map valued cs ++ valued c ∷ []
values-pushed [] c = refl
values-pushed (x ∷ cs) c = ap (λ (ds : List (Choice × meaning.Term)). valued x ∷ ds) (values-pushed cs c)

settle-is : (cs : List (Choice × Term)) (b : Term) → term_of (source.Settle cs b) ≡ settled_of (map valued cs) (term_of b)
settle-is cs b = ap term_of (sym (source.rolls-Settle cs b)) ∙ fold-roll-Term meaning.Term term_step (Term-F.Settle cs b)

pub settled_before : (new cs : List (Choice × Term)) (k : Choice) (v b : Term) → new ≡ cs ++ (k, v) ∷ [] → term_of (source.Settle new b) ≡ meaning.Settle (setting_of k) (term_of v) (settled_of (map valued cs) (term_of b))
settled_before new cs k v b e =
    settle-is new b
    ∙ ap (λ (xs : List (Choice × Term)). settled_of (map valued xs) (term_of b)) e
    ∙ ap (λ (xs : List (Choice × meaning.Term)). settled_of xs (term_of b)) (values-pushed cs (k, v))
    ∙ settled-pushed (map valued cs) (valued (k, v)) (term_of b)

pub settled_on : (rest b v t : Term) (cs : List (Choice × Term)) (k : Choice) → rest ≡ source.Settle cs b → term_of t ≡ meaning.Settle (setting_of k) (term_of v) (settled_of (map valued cs) (term_of b)) → term_of t ≡ meaning.Settle (setting_of k) (term_of v) (term_of rest)
settled_on rest b v t cs k is e = e ∙ ap (meaning.Settle (setting_of k) (term_of v)) (sym (ap term_of is ∙ settle-is cs b))
