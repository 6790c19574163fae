-- The size of a script is that of its top level and of its functions.
use Rattle.std.proofs.Common.{◌≡◌, ◌<◌, ◌+◌, ℕ, List, [], ◌∷◌, ◌++◌, length, get_or, drop, map, append_assoc, refl, sym, ap, ◌∙◌, arith, Option, Some, None}
use Rattle.std.proofs.lemmas.List.{append-nil}
use Rattle.bds_value.specs.declared.value.Ty.{Ty}
use Rattle.bds_tree.specs.declared.stmt.Parameter.{Parameter}
use Rattle.bds_tree.specs.declared.stmt.Part.{Part}
use Rattle.bds_tree.specs.StmtTree.{PartTree, a_function, an_include, a_statement}
use Rattle.bds_tree.specs.StmtView.{part_of}
use Rattle.bds_check_names.specs.declared.names.Variable.{Variable}
use Rattle.bds_check_names.specs.Scopes.{variable}
use Rattle.bds_check_rules.specs.Declarations.{declared_by}
use Rattle.bds_check_size.specs.Known.{Known, with_global, known_with_global}
use Rattle.bds_check_size.specs.ScriptSize.{Settings, script_parts_size, behind_top, behind_part, behind_parts, variables_from, in_function}
use Rattle.bds_gen_expr.specs.declared.scope.Numbered.{Numbered}
use Rattle.bds_gen_expr.specs.declared.scope.Scope.{Scope}
use Rattle.bds_gen_expr.specs.Numbers.{numbered, variables_of}
use Rattle.bds_gen_expr.specs.Scope.{known}
use Rattle.bds_gen_size.specs.Capped.{capped}
use Rattle.bds_gen_size.specs.Behind.{with_name, with_global_name, with_parameters, scope_behind_part, scope_with_global}
use Rattle.bds_gen_size.specs.ScriptParts.{part_size, tops_size, declared_size, functions_size}
use Rattle.bds_gen_size.proofs.Counting.{from-item}
use Rattle.bds_gen_size.proofs.Behind.{variables-end}

pub script-parts : (ss : Settings) (ps : List PartTree) (gs : List Variable) (k : Known) → script_parts_size ss ps gs k ≡ tops_size ss ps k + functions_size ps gs
script-parts ss [] gs k = omega arith
script-parts ss (a_function f ∷ ps) gs k = let e = script-parts ss ps gs k in omega (arith, e)
script-parts ss (an_include i ∷ ps) gs k = let e = script-parts ss ps gs k in omega (arith, e)
script-parts ss (a_statement s ∷ ps) gs k = let e = script-parts ss ps gs (behind_top s k) in omega (arith, e)

known-global : (sc : Scope) (x : List ℕ) (t : Ty) → known (with_global_name sc x t) ≡ with_global (known sc) x t
known-global sc x t = ap (with_globals (variables_of sc.locals)) (variables-end sc.globals (numbered x t 0))
  where
    with_globals : List Variable → List Variable → Known
    with_globals ls vs = record { locals = ls; globals = vs }

known-with-global : (v : Option Variable) (sc : Scope) → known (scope_with_global sc v) ≡ known_with_global (known sc) v
known-with-global None sc = refl
known-with-global (Some v) sc = known-global sc v.name v.ty

pub known-part : (p : PartTree) (sc : Scope) → known (scope_behind_part p sc) ≡ behind_part p (known sc)
known-part (a_statement s) sc = known-with-global (declared_by s) sc
known-part (a_function f) sc = refl
known-part (an_include i) sc = refl

locals-stay : (v : Option Variable) (sc : Scope) → (scope_with_global sc v).locals ≡ sc.locals
locals-stay None sc = refl
locals-stay (Some v) sc = refl

pub part-locals : (p : PartTree) (sc : Scope) → (scope_behind_part p sc).locals ≡ sc.locals
part-locals (a_statement s) sc = locals-stay (declared_by s) sc
part-locals (a_function f) sc = refl
part-locals (an_include i) sc = refl

one-more : (sum n sum2 a b whole : ℕ) → n ≡ capped a → sum2 ≡ capped (sum + n) → capped (sum + (a + b)) ≡ whole → capped (sum2 + b) ≡ whole
one-more sum n sum2 a b whole h e w = omega (arith, h, e, w)

pub tops-next : (ss : Settings) (xs : List Part) (i : ℕ) (x : Part) (sc sc2 : Scope) (sum n sum2 whole : ℕ) → i < length xs → x ≡ get_or xs i x → n ≡ capped (part_size ss (part_of x) (known sc)) → sum2 ≡ capped (sum + n)
    → sc2 ≡ scope_behind_part (part_of x) sc → capped (sum + tops_size ss (map part_of (drop i xs)) (known sc)) ≡ whole → capped (sum2 + tops_size ss (map part_of (drop (i + 1) xs)) (known sc2)) ≡ whole
tops-next ss xs i x sc sc2 sum n sum2 whole h is en es ek inv =
    let rest = map part_of (drop (i + 1) xs) in
    ap (λ k. capped (sum2 + tops_size ss rest k)) (ap known ek ∙ known-part (part_of x) sc)
    ∙ one-more sum n sum2 (part_size ss (part_of x) (known sc)) (tops_size ss rest (behind_part (part_of x) (known sc))) whole en es
    (ap (λ l. capped (sum + tops_size ss (map part_of l) (known sc))) (sym (from-item xs i x h is)) ∙ inv)

pub behind-next : (xs : List Part) (i : ℕ) (x : Part) (sc sc2 : Scope) (whole : Known) → i < length xs → x ≡ get_or xs i x → sc2 ≡ scope_behind_part (part_of x) sc
    → behind_parts (map part_of (drop i xs)) (known sc) ≡ whole → behind_parts (map part_of (drop (i + 1) xs)) (known sc2) ≡ whole
behind-next xs i x sc sc2 whole h is ek inv =
    ap (behind_parts (map part_of (drop (i + 1) xs))) (ap known ek ∙ known-part (part_of x) sc) ∙ ap (λ l. behind_parts (map part_of l) (known sc)) (sym (from-item xs i x h is)) ∙ inv

pub functions-next : (xs : List Part) (i : ℕ) (x : Part) (gs : List Variable) (sum n sum2 whole : ℕ) → i < length xs → x ≡ get_or xs i x → n ≡ capped (declared_size (part_of x) gs) → sum2 ≡ capped (sum + n)
    → capped (sum + functions_size (map part_of (drop i xs)) gs) ≡ whole → capped (sum2 + functions_size (map part_of (drop (i + 1) xs)) gs) ≡ whole
functions-next xs i x gs sum n sum2 whole h is en es inv =
    one-more sum n sum2 (declared_size (part_of x) gs) (functions_size (map part_of (drop (i + 1) xs)) gs) whole en es
    (ap (λ l. capped (sum + functions_size (map part_of l) gs)) (sym (from-item xs i x h is)) ∙ inv)

-- Parameters

with-locals : List Variable → List Variable → Known
with-locals gs vs = record { locals = vs; globals = gs }

known-parameters : (sc : Scope) (ps : List Parameter) → known (with_parameters sc ps) ≡ with-locals (variables_of sc.globals) (variables_of sc.locals ++ variables_from ps)
unfolding with-locals
known-parameters sc [] = ap (with-locals (variables_of sc.globals)) (sym (append-nil (variables_of sc.locals)))
known-parameters sc (p ∷ ps) =
    known-parameters (with_name sc p.name p.ty) ps
    ∙ ap (with-locals (variables_of sc.globals)) (ap (λ us. us ++ variables_from ps) (variables-end sc.locals (numbered p.name p.ty 0)) ∙ append_assoc (variables_of sc.locals) (variable p.name p.ty ∷ []) (variables_from ps))

pub in-body : (sc sc1 : Scope) (ps : List Parameter) → sc.locals ≡ [] → sc1 ≡ with_parameters sc ps → known sc1 ≡ in_function (variables_of sc.globals) ps
unfolding with-locals
in-body sc sc1 ps e e1 = ap known e1 ∙ known-parameters sc ps ∙ ap (λ (ls : List Numbered). with-locals (variables_of sc.globals) (variables_of ls ++ variables_from ps)) e

pub parameters-globals : (sc : Scope) (ps : List Parameter) → (with_parameters sc ps).globals ≡ sc.globals
parameters-globals sc [] = refl
parameters-globals sc (p ∷ ps) = parameters-globals (with_name sc p.name p.ty) ps

pub parameters-functions : (sc : Scope) (ps : List Parameter) → (with_parameters sc ps).functions ≡ sc.functions
parameters-functions sc [] = refl
parameters-functions sc (p ∷ ps) = parameters-functions (with_name sc p.name p.ty) ps
