-- What the parts of a script have together, and what a function leaves.
use Rattle.std.proofs.Common.{◌≡◌, ◌+◌, ℕ, List, [], ◌∷◌, take, refl, sym, ap, ◌∙◌, arith}
use Rattle.bds_tree.specs.declared.stmt.Parameter.{Parameter}
use Rattle.bds_tree.specs.StmtTree.{FunctionTree, PartTree}
use Rattle.bds_check_size.specs.Known.{Known}
use Rattle.bds_check_size.specs.StmtSize.{block_size}
use Rattle.bds_check_size.specs.ParSize.{block_pars_size}
use Rattle.bds_check_size.specs.ScriptSize.{Settings, script_parts_size, behind_parts, all_globals, first_known, ending_size, in_function}
use Rattle.bds_gen_expr.specs.declared.scope.Callee.{Callee}
use Rattle.bds_gen_expr.specs.declared.scope.Numbered.{Numbered}
use Rattle.bds_gen_expr.specs.declared.scope.Scope.{Scope}
use Rattle.bds_gen_expr.specs.Numbers.{variables_of}
use Rattle.bds_gen_expr.specs.Scope.{known}
use Rattle.bds_gen_size.specs.Behind.{with_parameters, first_scope}
use Rattle.bds_gen_size.specs.Capped.{capped, whole_block}
use Rattle.bds_gen_size.specs.ScriptParts.{tops_size, function_size, functions_size}
use Rattle.bds_gen_size.proofs.ScriptLaws.{script-parts, in-body, parameters-globals, parameters-functions}

pub parts-sum : (ss : Settings) (ps : List PartTree) (sc sc2 : Scope) (tops functions sum : ℕ) → sc ≡ first_scope → tops ≡ capped (tops_size ss ps (known sc)) → known sc2 ≡ behind_parts ps (known sc)
    → functions ≡ capped (functions_size ps (variables_of sc2.globals)) → sum ≡ capped (tops + functions) → sum ≡ capped (script_parts_size ss ps (all_globals ps) first_known)
parts-sum ss ps sc sc2 tops functions sum is et es ef e =
    let whole = script-parts ss ps (all_globals ps) first_known in
    let t : tops ≡ capped (tops_size ss ps first_known) = et ∙ ap (λ (s : Scope). capped (tops_size ss ps (known s))) is in
    let k : known sc2 ≡ behind_parts ps first_known = es ∙ ap (λ (s : Scope). behind_parts ps (known s)) is in
    let f : functions ≡ capped (functions_size ps (all_globals ps)) = ef ∙ ap (λ (k : Known). capped (functions_size ps k.globals)) k in
    omega (arith, whole, t, f, e)

-- the body of a function, and what ends it

pub with-ending : (f : FunctionTree) (sc sc1 : Scope) (body n sum : ℕ) → sc.locals ≡ [] → sc1 ≡ with_parameters sc f.parameters → body ≡ capped (whole_block f.body (known sc1)) → n ≡ ending_size f.result → sum ≡ capped (body + n)
    → sum ≡ capped (function_size f (variables_of sc.globals))
with-ending f sc sc1 body n sum e e1 eb en es =
    let k = in_function (variables_of sc.globals) f.parameters in
    let inside : body ≡ capped (block_size f.body k + block_pars_size f.body k) = eb ∙ ap (λ (k : Known). capped (whole_block f.body k)) (in-body sc sc1 f.parameters e e1) in
    omega (arith, inside, en, es)

-- where the parameters are gone again

scope-with : List Numbered → List Numbered → List Callee → Scope
scope-with ls gs fs = record { locals = ls; globals = gs; functions = fs }

take-none : (ls : List Numbered) → take 0 ls ≡ []
take-none [] = refl
take-none (l ∷ ls) = refl

pub left-bare : (sc sc1 sc2 : Scope) (ps : List Parameter) (left : List Numbered) → sc.locals ≡ [] → sc1 ≡ with_parameters sc ps → sc2 ≡ sc1 → left ≡ take 0 sc2.locals → record sc2 { locals = left } ≡ sc
unfolding scope-with
left-bare sc sc1 sc2 ps left e e1 e2 el =
    let g : sc2.globals ≡ sc.globals = ap (λ (s : Scope). s.globals) (e2 ∙ e1) ∙ parameters-globals sc ps in
    let f : sc2.functions ≡ sc.functions = ap (λ (s : Scope). s.functions) (e2 ∙ e1) ∙ parameters-functions sc ps in
    let l : left ≡ sc.locals = el ∙ take-none sc2.locals ∙ sym e in
    ap (λ (gs : List Numbered). scope-with left gs sc2.functions) g ∙ ap (scope-with left sc.globals) f ∙ ap (λ (ls : List Numbered). scope-with ls sc.globals sc.functions) l
