-- Declared functions, one behind the other.
use Rattle.std.proofs.Common.{◌≡◌, ◌+◌, ◌<◌, ℕ, suc, false, None, List, [], ◌∷◌, ◌++◌, length, length-append, get_or, drop, map, subst, refl, sym, ap, ◌∙◌, arith, append_assoc}
use Rattle.std.proofs.lemmas.List.{append-nil, length-map}
use Rattle.std.specs.Prelude.{Result, Ok, Err, IfOk, OnOk}
use Rattle.bds_value.specs.declared.listed.NoMemory.{NoMemory}
use Rattle.bds_value.specs.declared.value.At.{At}
use Rattle.bds_value.specs.declared.value.Ty.{Ty}
use Rattle.bds_code.specs.declared.unit.Function.{Function}
use Rattle.bds_tree.specs.declared.stmt.Parameter.{Parameter}
use Rattle.bds_tree.specs.declared.stmt.Part.{Part}
use Rattle.bds_tree.specs.StmtView.{part_of}
use Rattle.bds_tree.specs.StmtTree.{FunctionTree, PartTree, a_function, an_include, a_statement}
use Rattle.bds_gen_expr.specs.declared.scope.Numbered.{Numbered}
use Rattle.bds_gen_expr.specs.declared.scope.Scope.{Scope}
use Rattle.bds_gen_expr.specs.Marks.{written}
use Rattle.bds_gen_expr.proofs.Written.{written-append, ret-is}
use Rattle.bds_gen_stmt.specs.FunctionCode.{fresh, eight, ending, opening, types_of, at_of_block, renumbered, function_of, block_par_functions}
use Rattle.bds_gen_stmt.specs.Spots.{Spot}
use Rattle.bds_gen_stmt.specs.StmtCode.{block_code, block_pars}
use Rattle.bds_gen_stmt.specs.UnitCode.{parameter_locals, declared_functions, further_functions}
use Rattle.bds_gen_stmt.proofs.Pars.{block-many}
use Rattle.bds_gen_stmt_code.specs.Bodies.{spot_of, next_number, begun, with_function}
use Rattle.bds_gen_stmt_code.specs.Written.{BlockWritten}
use Rattle.bds_gen_stmt_code.specs.declared.body.Unfinished.{Unfinished}
use Rattle.bds_gen_unit.specs.FunctionParts.{seen, sees, opened, FunctionPushed, FunctionWritten, FunctionsWritten}
use Rattle.bds_gen_unit.proofs.TopLaws.{from-item}

-- parameters are numbered in their order already
same-numbers : (ps : List Parameter) (n : ℕ) → renumbered (parameter_locals ps n) n ≡ parameter_locals ps n
same-numbers [] n = refl
same-numbers (p ∷ ps) n = ap (λ ls. record { variable = record { name = p.name; ty = p.ty }; number = n } ∷ ls) (same-numbers ps (suc n))

spot-with : Scope → List Numbered → ℕ → Spot
spot-with sc ls n = record { scope = record { locals = ls; globals = sc.globals; functions = sc.functions }; next = n + 8; first = n; loop = None; at_top = false }

opened-spot : (f : FunctionTree) (a : Unfinished) → spot_of (opened f a).body ≡ opening (sees a) (parameter_locals f.parameters 0)
unfolding spot-with
opened-spot f a =
    let ls = parameter_locals f.parameters 0 in
    ap (λ n. spot-with a.body.scope ls n) (length-map ls (λ l. l.variable.ty)) ∙ ap (λ ms. spot-with a.body.scope ms (length ls)) (sym (same-numbers f.parameters 0))

function-written : (f : FunctionTree) (a b c : Unfinished) (g : Function) → BlockWritten f.body (opened f a) b → g ≡ written b.body.function (ending b.body.function.ret (at_of_block f.body))
    → c.finished ≡ b.finished → c.first ≡ b.first → c.body.scope.globals ≡ b.body.scope.globals → c.body.scope.functions ≡ b.body.scope.functions → FunctionWritten f a c g
function-written f a b c g w eg ef e1 e2 e3 =
    let ls = parameter_locals f.parameters 0 in
    let n = next_number a in
    let before = begun f.name (types_of ls) f.result in
    let code = block_code f.body (opening (sees a) ls) n 0 in
    let body : b.body.function ≡ written before code = w.function ∙ ap (λ sp. written before (block_code f.body sp n 0)) (opened-spot f a) in
    let ret : b.body.function.ret ≡ f.result = ap (λ (h : Function). h.ret) body ∙ ret-is code before in
    record {
      function = eg ∙ ap (λ t. written b.body.function (ending t (at_of_block f.body))) ret ∙ ap (λ h. written h (ending f.result (at_of_block f.body))) body
          ∙ sym (written-append code (ending f.result (at_of_block f.body)) before) ∙ sym (written-append eight (code ++ ending f.result (at_of_block f.body)) (fresh f.name (types_of ls) f.result));
      finished = ef ∙ w.finished ∙ ap (λ sp. a.finished ++ block_par_functions f.body sp n) (opened-spot f a);
      scope = cc (e2 ∙ w.globals, e3 ∙ w.functions);
      first = e1 ∙ w.first;
    }

-- as the code goes
pub function_done : (f : FunctionTree) (a t b c : Unfinished) (h : Function) (at : At) (r : Result Function NoMemory) → t ≡ opened f a → BlockWritten f.body t b → at ≡ at_of_block f.body
    → h ≡ written b.body.function (ending b.body.function.ret at) → IfOk r (λ g. g ≡ h) → OnOk r (c ≡ with_function (with_function b h) c.body.function) → IfOk r (λ g. FunctionWritten f a c g)
function_done f a t b c h at (Ok g) et w ea eh eg ec =
    function-written f a b c g (subst (λ u. BlockWritten f.body u b) et w) (eg ∙ eh ∙ ap (λ x. written b.body.function (ending b.body.function.ret x)) ea)
    (ap (λ (x : Unfinished). x.finished) ec) (ap (λ (x : Unfinished). x.first) ec) (ap (λ (x : Unfinished). x.body.scope.globals) ec) (ap (λ (x : Unfinished). x.body.scope.functions) ec)
function_done f a t b c h at (Err e) et w ea eh eg ec = tt

pub no-functions : (a : Unfinished) (fs : List Function) → FunctionsWritten [] a a fs fs
no-functions a fs = record { functions = sym (append-nil fs); finished = sym (append-nil a.finished); scope = refl }

more-functions : (f : FunctionTree) (a b : Unfinished) (g : Function) → FunctionWritten f a b g → next_number b ≡ next_number a + block_pars f.body
more-functions f a b g w =
    let sp = opening (sees a) (parameter_locals f.parameters 0) in
    let long = length-append a.finished (block_par_functions f.body sp (next_number a)) in
    let many = block-many f.body sp (next_number a) in
    let e : length b.finished ≡ length (a.finished ++ block_par_functions f.body sp (next_number a)) = ap length w.finished in
    let first = w.first in
    omega (arith, long, many, e, first)

pub one-function : (f : FunctionTree) (ps : List PartTree) (a b u : Unfinished) (g : Function) (fs gs : List Function) → FunctionWritten f a b g → FunctionsWritten ps b u (fs ++ g ∷ []) gs → FunctionsWritten (a_function f ∷ ps) a u fs gs
one-function f ps a b u g fs gs w r =
    let sc = sees a in
    let n = more-functions f a b g w in
    let own = block_par_functions f.body (opening sc (parameter_locals f.parameters 0)) (next_number a) in
    let next = next_number a + block_pars f.body in
    record {
      functions = r.functions ∙ append_assoc fs (g ∷ []) (declared_functions ps (sees b) (next_number b))
          ∙ ap (λ sc. fs ++ (g ∷ declared_functions ps sc (next_number b))) w.scope
          ∙ ap (λ n. fs ++ (g ∷ declared_functions ps sc n)) n
          ∙ ap (λ h. fs ++ (h ∷ declared_functions ps sc next)) w.function;
      finished = r.finished
          ∙ ap (λ hs. hs ++ further_functions ps (sees b) (next_number b)) w.finished
          ∙ ap (λ sc. (a.finished ++ own) ++ further_functions ps sc (next_number b)) w.scope
          ∙ ap (λ n. (a.finished ++ own) ++ further_functions ps sc n) n
          ∙ append_assoc a.finished own (further_functions ps sc next);
      scope = r.scope ∙ w.scope;
    }

pub functions-on : (p : PartTree) (ps : List PartTree) (a b u : Unfinished) (fs gs hs : List Function) → FunctionPushed p a b fs gs → FunctionsWritten ps b u gs hs → FunctionsWritten (p ∷ ps) a u fs hs
functions-on (a_function f) ps a b u fs gs hs w r = one-function f ps a b u w.0 fs hs w.1.0 (subst (λ l. FunctionsWritten ps b u l hs) w.1.1 r)
functions-on (an_include i) ps a b u fs gs hs w r =
    let k = subst (λ l. FunctionsWritten ps a u l hs) w.1 (subst (λ x. FunctionsWritten ps x u gs hs) w.0 r) in
    record { functions = k.functions; finished = k.finished; scope = k.scope }
functions-on (a_statement s) ps a b u fs gs hs w r =
    let k = subst (λ l. FunctionsWritten ps a u l hs) w.1 (subst (λ x. FunctionsWritten ps x u gs hs) w.0 r) in
    record { functions = k.functions; finished = k.finished; scope = k.scope }

pub functions-next : (xs : List Part) (i : ℕ) (x : Part) (a b u : Unfinished) (fs gs hs : List Function) → i < length xs → x ≡ get_or xs i x → FunctionPushed (part_of x) a b fs gs
    → FunctionsWritten (map part_of (drop (i + 1) xs)) b u gs hs → FunctionsWritten (map part_of (drop i xs)) a u fs hs
functions-next xs i x a b u fs gs hs h is w r =
    subst (λ l. FunctionsWritten (map part_of l) a u fs hs) (sym (from-item xs i x h is)) (functions-on (part_of x) (map part_of (drop (i + 1) xs)) a b u fs gs hs w r)
