-- How many locals parameters make: fewer than there are parameters exactly where two have one name.
use Rattle.std.proofs.Common.{◌≡◌, suc, ◌+◌, ◌≤◌, List, [], ◌∷◌, ◌++◌, length, Bool, true, false, ◌||◌, nat_lt, refl, sym, ap, ◌∙◌, arith, if◌then◌else◌}
use Rattle.std.specs.List.{list_any}
use Rattle.std.specs.Str.{bytes_eq}
use Rattle.std.proofs.lemmas.Bool.{lt-ltb, le-ltb}
use Rattle.std.proofs.lemmas.List.{length_push}
use Rattle.bds_tree.specs.declared.stmt.Parameter.{Parameter}
use Rattle.bds_check_names.specs.declared.names.Variable.{Variable}
use Rattle.bds_check_names.specs.Scopes.{variable, any_named}
use Rattle.bds_check_names.proofs.LastPlaces.{any_push}
use Rattle.bds_check_typing.specs.Program.{declare_parameters, any_twice}

-- one of the parameters has the name of a variable
any_among : List Variable → List Parameter → Bool
any_among vs ps = list_any (λ p. any_named p.name vs) ps

no_more : (vs : List Variable) (ps : List Parameter) → length (declare_parameters vs ps) ≤ length vs + length ps
no_more vs [] = omega arith
no_more vs (p ∷ ps) = by (any_named p.name vs) (no_more vs ps) (no_more (vs ++ variable p.name p.ty ∷ []) ps)
  where
    by : (b : Bool) → length (declare_parameters vs ps) ≤ length vs + length ps →
        length (declare_parameters (vs ++ variable p.name p.ty ∷ []) ps) ≤ length (vs ++ variable p.name p.ty ∷ []) + length ps →
        length (declare_parameters (if b then vs else vs ++ variable p.name p.ty ∷ []) ps) ≤ length vs + suc (length ps)
    by true same more = omega (arith, same)
    by false same more = omega (arith, more, length_push vs (variable p.name p.ty))

move : (a b i l : Bool) → ((a || b) || (i || l)) ≡ ((a || i) || (b || l))
move true b i l = refl
move false true true l = refl
move false true false l = refl
move false false i l = refl

among_push : (vs : List Variable) (v : Variable) (ps : List Parameter) → any_among (vs ++ v ∷ []) ps ≡ (any_among vs ps || list_any (λ q. bytes_eq q.name v.name) ps)
unfolding any_among
among_push vs v [] = refl
among_push vs v (p ∷ ps) =
    ap (λ b. b || any_among (vs ++ v ∷ []) ps) (any_push p.name vs v) ∙ ap (λ b. (any_named p.name vs || bytes_eq p.name v.name) || b) (among_push vs v ps) ∙
    move (any_named p.name vs) (bytes_eq p.name v.name) (any_among vs ps) (list_any (λ q. bytes_eq q.name v.name) ps)

turn : (t i l : Bool) → (t || (i || l)) ≡ ((l || t) || i)
turn true i true = refl
turn true i false = refl
turn false true true = refl
turn false true false = refl
turn false false true = refl
turn false false false = refl

always : (t : Bool) → true ≡ (t || true)
always true = refl
always false = refl

fewer : (vs : List Variable) (ps : List Parameter) → nat_lt (length (declare_parameters vs ps)) (length vs + length ps) ≡ (any_twice ps || any_among vs ps)
unfolding any_among
fewer vs [] = le-ltb (length vs) (length vs + 0) (omega arith)
fewer vs (p ∷ ps) = by (any_named p.name vs) (fewer (vs ++ variable p.name p.ty ∷ []) ps)
  where
    by : (b : Bool) → nat_lt (length (declare_parameters (vs ++ variable p.name p.ty ∷ []) ps)) (length (vs ++ variable p.name p.ty ∷ []) + length ps) ≡ (any_twice ps || any_among (vs ++ variable p.name p.ty ∷ []) ps) →
        nat_lt (length (declare_parameters (if b then vs else vs ++ variable p.name p.ty ∷ []) ps)) (length vs + suc (length ps)) ≡ ((list_any (λ q. bytes_eq q.name p.name) ps || any_twice ps) || (b || any_among vs ps))
    by true rest =
        let most : length (declare_parameters vs ps) ≤ length vs + length ps = no_more vs ps in
        lt-ltb (length (declare_parameters vs ps)) (length vs + suc (length ps)) (omega (arith, most)) ∙ always (list_any (λ q. bytes_eq q.name p.name) ps || any_twice ps)
    by false rest =
        let one : length vs + suc (length ps) ≡ length (vs ++ variable p.name p.ty ∷ []) + length ps = omega (arith, length_push vs (variable p.name p.ty)) in
        ap (nat_lt (length (declare_parameters (vs ++ variable p.name p.ty ∷ []) ps))) one ∙ rest ∙
        ap (λ b. any_twice ps || b) (among_push vs (variable p.name p.ty) ps) ∙ turn (any_twice ps) (any_among vs ps) (list_any (λ q. bytes_eq q.name p.name) ps)

none_among : (ps : List Parameter) → any_among [] ps ≡ false
unfolding any_among
none_among [] = refl
none_among (p ∷ ps) = none_among ps

or_false : (b : Bool) → (b || false) ≡ b
or_false true = refl
or_false false = refl

pub twice_where_fewer : (ps : List Parameter) → nat_lt (length (declare_parameters [] ps)) (length ps) ≡ any_twice ps
twice_where_fewer ps =
    let none : 0 + length ps ≡ length ps = omega arith in
    ap (nat_lt (length (declare_parameters [] ps))) (sym none) ∙ fewer [] ps ∙ ap (λ b. any_twice ps || b) (none_among ps) ∙ or_false (any_twice ps)
