-- Parameters are the first slots of a function, and all are in force.
use Rattle.std.proofs.Common.{◌≡◌, ◌||◌, ℕ, suc, List, [], ◌∷◌, ◌++◌, length, length-append, slice_get, Some, Bool, true, false, refl, sym, ◌∙◌, ap, ap₂, subst, arith, append_assoc, append-nil, if◌then◌else◌}
use Rattle.std.specs.Prelude.{⊤}
use Rattle.std.specs.List.{AllByRecursion, list_any}
use Rattle.std.specs.Str.{bytes_eq}
use Rattle.bds_value.specs.declared.value.Ty.{Ty}
use Rattle.bds_value.specs.Fields.{is_solid}
use Rattle.bds_tree.specs.declared.stmt.Parameter.{Parameter}
use Rattle.bds_code.specs.declared.unit.Function.{Function}
use Rattle.bds_check_names.specs.declared.names.Variable.{Variable}
use Rattle.bds_check_names.specs.Scopes.{variable, any_named, declare_in}
use Rattle.bds_check_size.specs.ScriptSize.{variables_from}
use Rattle.bds_check_typing.specs.Program.{declare_parameters, any_twice}
use Rattle.bds_check_typing.specs.Known.{AreVariablesWritten}
use Rattle.bds_gen_expr.specs.declared.scope.Numbered.{Numbered}
use Rattle.bds_gen_expr.specs.Numbers.{variables_of}
use Rattle.bds_gen_flow.proofs.ExprParts.{or-none}
use Rattle.bds_gen_stmt.specs.FunctionCode.{renumbered, types_of}
use Rattle.bds_gen_stmt.specs.UnitCode.{parameter_locals}
use Rattle.bds_gen_stmt.proofs.Matched.{AreInSlots}

pub numbered-variables : (ps : List Parameter) (n m : ℕ) → variables_of (renumbered (parameter_locals ps n) m) ≡ variables_from ps
numbered-variables [] n m = refl
numbered-variables (p ∷ ps) n m = ap (λ vs. variable p.name p.ty ∷ vs) (numbered-variables ps (suc n) (suc m))

-- no name of these is one of those
abbrev Apart : List Variable → List Parameter → Type 0
Apart vs [] = ⊤
Apart vs (p ∷ ps) = (any_named p.name vs ≡ false) × Apart vs ps

any-end : (x : List ℕ) (vs : List Variable) (v : Variable) → any_named x vs ≡ false → bytes_eq x v.name ≡ false → any_named x (vs ++ v ∷ []) ≡ false
any-end x [] v h k = ap (λ b. b || false) k
any-end x (w ∷ vs) v h k = let r = or-none (bytes_eq x w.name) (any_named x vs) h in ap₂ (λ (a b : Bool). a || b) r.0 (any-end x vs v r.1 k)

abbrev NoneNamed : List ℕ → List Parameter → Type 0
NoneNamed x [] = ⊤
NoneNamed x (p ∷ ps) = (bytes_eq p.name x ≡ false) × NoneNamed x ps

none-named : (x : List ℕ) (ps : List Parameter) → list_any (λ q. bytes_eq q.name x) ps ≡ false → NoneNamed x ps
none-named x [] h = tt
none-named x (p ∷ ps) h = let r = or-none (bytes_eq p.name x) (list_any (λ q. bytes_eq q.name x) ps) h in (r.0, none-named x ps r.1)

apart-more : (vs : List Variable) (v : Variable) (ps : List Parameter) → Apart vs ps → NoneNamed v.name ps → Apart (vs ++ v ∷ []) ps
apart-more vs v [] h k = tt
apart-more vs v (p ∷ ps) h k = (any-end p.name vs v h.0 k.0, apart-more vs v ps h.1 k.1)

pub declared-all : (ps : List Parameter) (vs : List Variable) → Apart vs ps → any_twice ps ≡ false → declare_parameters vs ps ≡ vs ++ variables_from ps
declared-all [] vs h k = sym (append-nil vs)
declared-all (p ∷ ps) vs h k =
    let r = or-none (list_any (λ q. bytes_eq q.name p.name) ps) (any_twice ps) k in
    let first : declare_in 0 (variable p.name p.ty) vs ≡ vs ++ variable p.name p.ty ∷ [] = ap (λ (b : Bool). if b then vs else vs ++ variable p.name p.ty ∷ []) h.0 in
    ap (λ x. declare_parameters x ps) first ∙ declared-all ps (vs ++ variable p.name p.ty ∷ []) (apart-more vs (variable p.name p.ty) ps h.1 (none-named p.name ps r.0)) r.1
    ∙ append_assoc vs (variable p.name p.ty ∷ []) (variables_from ps)

pub nothing-apart : (ps : List Parameter) → Apart [] ps
nothing-apart [] = tt
nothing-apart (p ∷ ps) = (refl, nothing-apart ps)

-- Parameters are the first slots
get-behind : (xs : List Ty) (t : Ty) (ys : List Ty) (n : ℕ) → length xs ≡ n → slice_get (xs ++ t ∷ ys) n ≡ Some t
get-behind xs t ys n e = subst (λ k. slice_get (xs ++ t ∷ ys) k ≡ Some t) e (at xs)
  where
    at : (xs : List Ty) → slice_get (xs ++ t ∷ ys) (length xs) ≡ Some t
    at [] = refl
    at (x ∷ xs) = at xs

pub parameters-in : (F : Function) (ls : List Numbered) (front behind_them : List Ty) (n : ℕ) → F.params ++ F.locals ≡ front ++ (types_of ls ++ behind_them) → length front ≡ n → AreInSlots F (renumbered ls n)
parameters-in F [] front behind_them n e l = tt
parameters-in F (x ∷ ls) front behind_them n e l =
    let long = length-append front (x.variable.ty ∷ []) in (
      ap (λ ts. slice_get ts n) e ∙ get-behind front x.variable.ty (types_of ls ++ behind_them) n l,
      parameters-in F ls (front ++ x.variable.ty ∷ []) behind_them (suc n) (e ∙ sym (append_assoc front (x.variable.ty ∷ []) (types_of ls ++ behind_them))) (omega (arith, long, l)),
    )

pub parameters-written : (ps : List Parameter) → AllByRecursion (λ p. is_solid p.ty ≡ true) ps → AreVariablesWritten (variables_from ps)
parameters-written [] h = tt
parameters-written (p ∷ ps) h = (h.0, parameters-written ps h.1)
