-- The function of the unit for a declared one has its code, where the names of its parameters agree and its body is as an accepted script has it.
use Rattle.std.proofs.Common.{◌≡◌, ◌≤◌, ℕ, suc, ◌+◌, List, [], ◌∷◌, ◌++◌, map, length, Some, None, slice_get, refl, sym, ap, ◌∙◌, arith}
use Rattle.bds_tree.specs.declared.stmt.Parameter.{Parameter}
use Rattle.bds_tree.specs.StmtTree.{FunctionTree}
use Rattle.bds_code.specs.declared.unit.Function.{Function}
use Rattle.bds_code.specs.declared.unit.Unit.{Unit as CodeUnit}
use Rattle.bds_check_names.specs.declared.names.Names.{Names as Checked}
use Rattle.bds_check_names.specs.Scopes.{with_locals, in_function}
use Rattle.bds_gen_expr.specs.Marks.{Mark}
use Rattle.bds_gen_expr.specs.declared.scope.Scope.{Scope}
use Rattle.bds_gen_expr.proofs.Written.{ret-is, params-is}
use Rattle.bds_gen_stmt.specs.FunctionCode.{fresh, eight, ending, opening, types_of, at_of_block, function_of, block_par_functions}
use Rattle.bds_gen_stmt.proofs.Pars.{StandAt}
use Rattle.bds_gen_stmt.specs.Spots.{Spot}
use Rattle.bds_gen_stmt.specs.StmtCode.{block_code}
use Rattle.bds_gen_stmt.specs.UnitCode.{parameter_locals}
use Rattle.bds_meaning.specs.Opening.{parameters_of, function_of as definition_of}
use Rattle.bds_sim_terms.specs.steps.Stands.{Source, CodeOf, numbered, results}
use Rattle.bds_sim_code.proofs.Around.{AllUnder, Around, spare_above}
use Rattle.bds_sim_code.proofs.Entered.{has_written}
use Rattle.bds_sim_code.proofs.Functions.{block_added, function_begins}
use Rattle.bds_sim_code.proofs.Agree.{Agrees}
use Rattle.bds_sim_code.specs.StmtHere.{BlockHere, no_leaps}

-- as many types as names
same_parameters : (ps : List Parameter) (n : ℕ) → length (types_of (parameter_locals ps n)) ≡ length (map (λ (p : Parameter). p.name) ps)
same_parameters [] n = refl
same_parameters (p ∷ ps) n = ap suc (same_parameters ps (suc n))

as_many : (ps : List Parameter) (n : ℕ) → length (parameter_locals ps n) ≡ length (map (λ (p : Parameter). p.name) ps)
as_many [] n = refl
as_many (p ∷ ps) n = ap suc (as_many ps (suc n))

-- the slots of parameters are the first
all_numbered : (xs : List (List ℕ)) (i next : ℕ) → i + length xs ≤ next → AllUnder next (numbered xs i)
all_numbered [] i next h = tt
all_numbered (x ∷ xs) i next h = (let k : i + suc (length xs) ≤ next = h in omega (arith, k), all_numbered xs (suc i) next (let k : i + suc (length xs) ≤ next = h in omega (arith, k)))

same_function : (f g : Function) → Some f ≡ Some g → f ≡ g
same_function f g e = cc

module _ (o : Source) (u : CodeUnit) (f : FunctionTree) (names : Checked) (sc : Scope) (number n : ℕ) where
  abbrev pub written_for : Function
  written_for = function_of f.name (parameter_locals f.parameters 0) f.result sc f.body n

  abbrev pub names_in : Checked
  names_in = with_locals names (parameters_of [] f.parameters)

  abbrev pub spot_in : Spot
  spot_in = opening sc (parameter_locals f.parameters 0)

  abbrev marks_in : List Mark
  marks_in = eight ++ (block_code f.body spot_in n 0 ++ ending f.result (at_of_block f.body))

  pub gives : slice_get u.functions number ≡ Some written_for → (g : Function) → slice_get u.functions number ≡ Some g → results g.ret ≡ results f.result
  gives there g is = ap (λ (k : Function). results k.ret) (same_function g written_for (sym is ∙ there)) ∙ ap results (ret-is marks_in (fresh f.name (types_of (parameter_locals f.parameters 0)) f.result))

  pub code_of : slice_get u.functions number ≡ Some written_for → Agrees o u names_in spot_in.scope (numbered (map (λ (p : Parameter). p.name) f.parameters) 0) → BlockHere o u f.body names_in (in_function f.result) spot_in.scope spot_in.next no_leaps → StandAt u (block_par_functions f.body spot_in n) n
      → CodeOf o u (definition_of names f) number written_for
  code_of there agrees asks own = record {
    names = block_added f.body spot_in.next ++ numbered (map (λ (p : Parameter). p.name) f.parameters) 0;
    params = ap length (params-is marks_in (fresh f.name (types_of (parameter_locals f.parameters 0)) f.result)) ∙ same_parameters f.parameters 0;
    body = function_begins o u number [] f.body f.result (at_of_block f.body) names_in spot_in (in_function f.result) (numbered (map (λ (p : Parameter). p.name) f.parameters) 0) n (length written_for.code) opened asks (gives there) own (gives there)
        (has_written o u number written_for there marks_in (fresh f.name (types_of (parameter_locals f.parameters 0)) f.result) refl refl refl);
  }
    where
      opened : Around o u [] None names_in spot_in no_leaps (numbered (map (λ (p : Parameter). p.name) f.parameters) 0)
      opened = let many = as_many f.parameters 0 in record {
        agrees = agrees;
        low = refl;
        under = all_numbered (map (λ (p : Parameter). p.name) f.parameters) 0 (length (parameter_locals f.parameters 0) + 8) (omega (arith, many));
        held_under = tt;
        around = record { breaks = tt; continues = tt };
        spare = spare_above o u (length (parameter_locals f.parameters 0)) (numbered (map (λ (p : Parameter). p.name) f.parameters) 0) (all_numbered (map (λ (p : Parameter). p.name) f.parameters) 0 (length (parameter_locals f.parameters 0)) (omega (arith, many)));
        room = omega arith;
      }
