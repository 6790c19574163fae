-- The parameters of a function are its first slots, for the generator, the checker and the relation.
use Rattle.std.proofs.Common.{◌≡◌, ℕ, suc, Bool, true, false, ◌||◌, List, [], ◌∷◌, map, Option, Some, None, slice_get, refl, sym, ap, ◌∙◌, subst, append-nil, if◌then◌else◌}
use Rattle.std.specs.List.{list_any}
use Rattle.std.specs.Str.{bytes_eq}
use Rattle.std.proofs.lemmas.Slice.Eq.{bytes_eq-Decides}
use Rattle.bds_tree.specs.declared.stmt.Parameter.{Parameter}
use Rattle.bds_code.specs.declared.unit.Function.{Function}
use Rattle.bds_code.specs.declared.unit.Unit.{Unit as CodeUnit}
use Rattle.bds_check_typing.specs.Program.{declare_parameters, any_twice}
use Rattle.bds_check_names.specs.declared.names.Names.{Names as Checked}
use Rattle.bds_check_names.specs.declared.names.Variable.{Variable}
use Rattle.bds_check_names.specs.Scopes.{variable, declare_in, with_locals}
use Rattle.bds_gen_expr.specs.declared.scope.Scope.{Scope}
use Rattle.bds_gen_expr.specs.Numbers.{variables_of, last_number}
use Rattle.bds_gen_expr.specs.Scope.{function_number}
use Rattle.bds_gen_stmt.specs.FunctionCode.{renumbered, opening}
use Rattle.bds_gen_stmt.specs.UnitCode.{in_order, parameter_locals}
use Rattle.bds_gen_stmt.proofs.Parameters.{numbered-variables, declared-all, nothing-apart}
use Rattle.bds_meaning.specs.Opening.{parameters_of}
use Rattle.bds_sim_terms.specs.steps.Stands.{Source, numbered, slot_of}
use Rattle.bds_sim_code.proofs.Agree.{turned, names_in, Agrees, agrees_from}

abbrev pub parameter_names : List Parameter → List (List ℕ)
parameter_names ps = map (λ (p : Parameter). p.name) ps

pub both_false : (a b : Bool) → (a || b) ≡ false → (a ≡ false) × (b ≡ false)
both_false true b e = absurd (cc)
both_false false b e = (refl, e)

-- The slots

abbrev or_else : Option ℕ → Option ℕ → Option ℕ
or_else None found = found
or_else (Some i) found = Some i

no_slot : (ps : List Parameter) (m : ℕ) (x : List ℕ) → list_any (λ q. bytes_eq q.name x) ps ≡ false → slot_of (numbered (parameter_names ps) m) x ≡ None
no_slot [] m x h = refl
no_slot (p ∷ ps) m x h =
    let r = both_false (bytes_eq p.name x) (list_any (λ q. bytes_eq q.name x) ps) h in
    ap (λ (b : Bool). if b then Some m else slot_of (numbered (parameter_names ps) (suc m)) x) r.0 ∙ no_slot ps (suc m) x r.1

one_slot : (m : ℕ) (rest found : Option ℕ) (b : Bool) → (b ≡ true → rest ≡ None) → or_else rest (if b then Some m else found) ≡ or_else (if b then Some m else rest) found
one_slot m rest found true none = ap (λ (q : Option ℕ). or_else q (Some m)) (none refl)
one_slot m rest found false none = refl

last_slot : (ps : List Parameter) (n m : ℕ) (x : List ℕ) (found : Option ℕ) → any_twice ps ≡ false → last_number x (renumbered (parameter_locals ps n) m) found ≡ or_else (slot_of (numbered (parameter_names ps) m) x) found
last_slot [] n m x found h = refl
last_slot (p ∷ ps) n m x found h =
    let r = both_false (list_any (λ q. bytes_eq q.name p.name) ps) (any_twice ps) h in
    let rest : Option ℕ = slot_of (numbered (parameter_names ps) (suc m)) x in
    let alone : bytes_eq x p.name ≡ true → rest ≡ None = λ e. no_slot ps (suc m) x (subst (λ y. list_any (λ (q : Parameter). bytes_eq q.name y) ps ≡ false) (sym ((bytes_eq-Decides x p.name).0 e)) r.0) in
    last_slot ps (suc n) (suc m) x (if bytes_eq x p.name then Some m else found) r.1
    ∙ one_slot m rest found (bytes_eq x p.name) alone
    ∙ ap (λ (b : Bool). or_else (if b then Some m else rest) found) (turned x p.name)

or_none : (q : Option ℕ) → or_else q None ≡ q
or_none None = refl
or_none (Some i) = refl

-- The checker's locals

same_parameters : (ps : List Parameter) (vs : List Variable) → parameters_of vs ps ≡ declare_parameters vs ps
same_parameters [] vs = refl
same_parameters (p ∷ ps) vs = same_parameters ps (declare_in 0 (variable p.name p.ty) vs)

pub same_locals : (ps : List Parameter) → any_twice ps ≡ false → variables_of (renumbered (parameter_locals ps 0) 0) ≡ parameters_of [] ps
same_locals ps once = numbered-variables ps 0 0 ∙ sym (declared-all ps [] (nothing-apart ps) once) ∙ sym (same_parameters ps [])

-- no parameter is named twice: then the names in force in a function agree before its first statement
pub agrees_parameters : (o : Source) (u : CodeUnit) (names : Checked) (sc : Scope) (ps : List Parameter) → any_twice ps ≡ false → sc.globals ≡ in_order 0 names.globals → o.globals ≡ names_in names.globals
    → ((x : List ℕ) (f : Function) → slice_get u.functions (o.number x) ≡ Some f → function_number sc x ≡ o.number x) → Agrees o u (with_locals names (parameters_of [] ps)) (opening sc (parameter_locals ps 0)).scope (numbered (parameter_names ps) 0)
agrees_parameters o u names sc ps once globals numbers functions =
    agrees_from o u (with_locals names (parameters_of [] ps)) (opening sc (parameter_locals ps 0)).scope (numbered (parameter_names ps) 0) [] (same_locals ps once)
    (λ x. last_slot ps 0 0 x None once ∙ or_none (slot_of (numbered (parameter_names ps) 0) x)) globals (numbers ∙ sym (append-nil (names_in names.globals))) functions
