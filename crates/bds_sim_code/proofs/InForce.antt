-- The names in force are the same to the checker and to the generator, and the functions of the unit are those that their heads say.
use Rattle.std.proofs.Common.{◌≡◌, ℕ, List, [], ◌∷◌, ◌++◌, length, drop, slice_get, Option, Some, None, Bool, true, false, refl, sym, ◌∙◌, ap, ap₂, subst, if◌then◌else◌}
use Rattle.bds_value.specs.declared.value.Ty.{Ty}
use Rattle.bds_code.specs.declared.unit.Function.{Function}
use Rattle.bds_code.specs.declared.unit.Unit.{Unit as CodeUnit}
use Rattle.bds_check_names.specs.declared.names.Head.{Head}
use Rattle.bds_check_names.specs.declared.names.Names.{Names as Checked}
use Rattle.bds_check_names.specs.declared.names.Site.{Site}
use Rattle.bds_check_names.specs.declared.names.Variable.{Variable}
use Rattle.bds_check_names.specs.Scopes.{any_named, declare, declare_in, either, first_type, found, function_named, is_declared, last_type, variable, with_globals, with_local, with_locals}
use Rattle.bds_gen_expr.specs.declared.scope.Scope.{Scope}
use Rattle.bds_gen_expr.specs.Numbers.{numbered, variables_of, visible_locals}
use Rattle.bds_gen_expr.specs.Scope.{function_number, types_in, with_slot}
use Rattle.bds_gen_stmt.specs.FunctionCode.{opening}
use Rattle.bds_gen_stmt.proofs.Visible.{last-visible, renumbered-variables}
use Rattle.bds_gen_stmt.proofs.Matched.{Agrees, same-end, variables-end}
use Rattle.bds_meaning.specs.Step.{function_in}
use Rattle.bds_sim_terms.specs.steps.Stands.{Source}

-- the function of a head, with as many parameters in the program
pub record IsCallee (o : Source) (u : CodeUnit) (x : List ℕ) (h : Head) : Type 0 where
  pub f : Function
  pub there : slice_get u.functions (o.number x) ≡ Some f
  pub gives : f.ret ≡ h.result
  pub takes : length (function_in o.program x).parameters ≡ length h.parameters

module _ (o : Source) (u : CodeUnit) where
  -- of locals, those that are hidden may be missing
  pub record InForce (names : Checked) (sc : Scope) : Type 0 where
    pub locals : (x : List ℕ) → last_type x names.locals None ≡ last_type x (variables_of sc.locals) None
    pub globals : names.globals ≡ variables_of sc.globals
    pub calls : (x : List ℕ) (h : Head) → function_named x names.functions ≡ Some h → IsCallee o u x h

  -- the functions of the program have the numbers of the code, and as many parameters as their heads say
  pub record HasCallees (names : Checked) (sc : Scope) : Type 0 where
    pub number : (x : List ℕ) (h : Head) → function_named x names.functions ≡ Some h → o.number x ≡ function_number sc x
    pub takes : (x : List ℕ) (h : Head) → function_named x names.functions ≡ Some h → length (function_in o.program x).parameters ≡ length h.parameters

  pub in-force-of : (names : Checked) (sc : Scope) → Agrees u names sc → HasCallees names sc → InForce names sc
  in-force-of names sc a callees = record {
    locals = a.locals;
    globals = a.globals;
    calls = λ x h n. let c = a.calls x h n in record { f = c.0; there = ap (slice_get u.functions) (callees.number x h n) ∙ c.1; gives = c.3; takes = callees.takes x h n };
  }

  module _ (names : Checked) (sc : Scope) (in_force : InForce names sc) where
    pub same-type : (x : List ℕ) → types_in sc x ≡ found x names
    same-type x = ap₂ (λ (l : Option Ty) (gs : List Variable). either l (first_type x gs)) (sym (in_force.locals x)) (sym in_force.globals)

    pub local-in-force : (x : List ℕ) (t : Ty) (i : ℕ) → InForce (with_local names x t) (with_slot sc x t i)
    local-in-force x t i = record {
      locals = λ y. same-end y names.locals (variables_of sc.locals) (variable x t) (in_force.locals y) ∙ ap (λ vs. last_type y vs None) (sym (variables-end sc.locals (numbered x t i)));
      globals = in_force.globals;
      calls = in_force.calls;
    }

    -- in the function of a `par` block stand the locals that aren't hidden
    pub visible-in-force : InForce names (opening sc (visible_locals sc.locals)).scope
    visible-in-force = record {
      locals = λ x. in_force.locals x ∙ sym (last-visible x sc.locals None) ∙ ap (λ vs. last_type x vs None) (sym (renumbered-variables (visible_locals sc.locals) 0));
      globals = in_force.globals;
      calls = in_force.calls;
    }

    -- a local that its block doesn't have yet
    opened : (top there : Bool) (x : List ℕ) (t : Ty) (others : Checked) → top ≡ false → there ≡ false
        → (if top then others else with_locals names (if there then names.locals else names.locals ++ variable x t ∷ [])) ≡ with_local names x t
    opened true there x t others e d = absurd (cc)
    opened false true x t others e d = absurd (cc)
    opened false false x t others e d = refl

    unopened : (top a b : Bool) → top ≡ false → (if top then a else b) ≡ false → b ≡ false
    unopened true a b e h = absurd (cc)
    unopened false a b e h = h

    pub not-there : (site : Site) (x : List ℕ) → site.at_top ≡ false → is_declared names site x ≡ false → any_named x (drop site.start names.locals) ≡ false
    not-there site x e d = unopened site.at_top (any_named x names.globals) (any_named x (drop site.start names.locals)) e d

    pub declared-in-force : (site : Site) (x : List ℕ) (t : Ty) (i : ℕ) → site.at_top ≡ false → is_declared names site x ≡ false → InForce (declare names site x t) (with_slot sc x t i)
    declared-in-force site x t i e d =
        subst (λ n. InForce n (with_slot sc x t i))
        (sym (opened site.at_top (any_named x (drop site.start names.locals)) x t (with_globals names (declare_in 0 (variable x t) names.globals)) e (not-there site x e d)))
        (local-in-force x t i)
