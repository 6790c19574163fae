-- A script that has what is asked: `int f(int n) { return n; }`, `void g(int n, int m) { par { println n; } }`, `int x = f(2);` and
-- `task(x == 2, cpus := 2) sys ..`.
use Rattle.std.proofs.Common.{◌≡◌, ℕ, pos, Bool, List, [], ◌∷◌, Some, slice_get, refl, ap, arith}
use Rattle.std.specs.Prelude.{cond, codes}
use Rattle.bds_value.specs.declared.value.At.{At}
use Rattle.bds_value.specs.declared.value.Ty.TheVariants as ty
use Rattle.bds_value.specs.Types.{is_void_at}
use Rattle.bds_tree.specs.StmtTree.{SettingTree, FunctionTree, PartTree, ScriptTree, setting_named, setting_plain, stmt, line, declare, println, return, act_line, right_expr, act, task, par_block, block, no_stmts, more_stmts, a_right, a_function, a_statement}
use Rattle.bds_tree.specs.declared.expr.BinaryOp.TheVariants as sign
use Rattle.bds_tree.specs.declared.stmt.Body.TheVariants as body
use Rattle.bds_tree.specs.Tree.{Tree, node, number, name, binary, call, none, more}
use Rattle.bds_code.specs.declared.unit.Function.{Function}
use Rattle.bds_code.specs.declared.unit.Unit.{Unit as CodeUnit}
use Rattle.bds_gen_stmt.specs.FunctionCode.{function_of}
use Rattle.bds_gen_stmt.specs.UnitCode.{parameter_locals, function_scope, first_par, unit_of}
use Rattle.bds_meaning.specs.Opening.{all_names}
use Rattle.bds_sim_terms.specs.steps.Stands.{Source, results}
use Rattle.bds_sim_code.specs.ScriptHere.{source_of, ScriptHere}
use Rattle.bds_sim_code.proofs.Declarations.{gives}

abbrev at : At
at = record { file = 0; line = 1 }

abbrev n : List ℕ
n = codes "n"

abbrev f : FunctionTree
f = record { at = at; result = ty.Int; name = codes "f"; parameters = record { name = n; ty = ty.Int } ∷ []; body = block at (more_stmts (stmt at (line (return (a_right (right_expr (node at ty.Int (name n))))))) no_stmts) }

abbrev shown : Tree
shown = node at ty.Int (name n)

-- a block of `par` that sees two parameters
abbrev g : FunctionTree
g = record {
  at = at;
  result = ty.Void;
  name = codes "g";
  parameters = record { name = n; ty = ty.Int } ∷ record { name = codes "m"; ty = ty.Int } ∷ [];
  body = block at (more_stmts (stmt at (line (act_line (act at (par_block (block at (more_stmts (stmt at (line (println (Some shown)))) no_stmts))))))) no_stmts);
}

abbrev two : Tree
two = node at ty.Int (number (pos 2))

abbrev options : List SettingTree
options = record { at = at; form = setting_plain (node at ty.Bool (binary (node at ty.Int (name (codes "x"))) sign.Equal two)) } ∷ record { at = at; form = setting_named (codes "cpus") two } ∷ []

abbrev called : Tree
called = node at ty.Int (call (codes "f") (more (node at ty.Int (number (pos 2))) none))

abbrev parts : List PartTree
parts =
    a_function f ∷ a_function g ∷ a_statement (stmt at (line (declare ty.Int (codes "x") (a_right (right_expr called)))))
    ∷ a_statement (stmt at (line (act_line (act at (task (Some options) (body.Sys (record { at = at; text = [] }))))))) ∷ []

abbrev script : ScriptTree
script = record { at = at; files = []; parts = parts }

abbrev u : CodeUnit
u = unit_of [] [] script

abbrev code : Function
code = function_of f.name (parameter_locals f.parameters 0) f.result (function_scope parts) f.body (first_par parts)

one : results ty.Int ≡ 1
one = ap (λ (b : Bool). cond b 0 1) (ap is_void_at ty.outs-Int)

bool_one : results ty.Bool ≡ 1
bool_one = ap (λ (b : Bool). cond b 0 1) (ap is_void_at ty.outs-Bool)

abbrev o : Source
o = source_of script u

-- the function gives a number
gives_one : (g : Function) → slice_get u.functions 1 ≡ Some g → results g.ret ≡ results ty.Int
gives_one g there = gives o u f (all_names parts) (function_scope parts) 1 (first_par parts) refl g there

pub example : ScriptHere [] [] script
example = record {
  tops = ((refl, (one, (record { f = code; there = refl; gives = gives_one code refl; takes = refl }, (one, one, tt))), tt), (((((bool_one, (bool_one, one, (one, refl), one, one)), ((one, one), tt)), (tt, tt)), tt), tt));
  functions = ((refl, (((one, (one, (one, refl))), tt), tt)), ((refl, ((tt, (((one, (one, refl)), tt), tt)), tt)), tt));
  globals = (tt, (tt, (tt, (tt, tt))));
  lists = tt;
  words = omega arith;
}
