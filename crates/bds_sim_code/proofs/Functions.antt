-- The code of a function begins its term: its body, and what it returns where the body comes to its end.
use Rattle.std.proofs.Common.{◌≡◌, ℕ, ◌+◌, Bool, true, false, not, List, [], ◌∷◌, ◌++◌, Option, None, refl, sym, ◌∙◌, subst, if◌then◌else◌}
use Rattle.std.specs.Prelude.{cond}
use Rattle.bds_value.specs.declared.value.At.{At}
use Rattle.bds_value.specs.declared.value.Ty.{Ty, out-Ty}
use Rattle.bds_value.specs.Value.{default_of}
use Rattle.bds_tree.specs.StmtTree.{BlockTree, block}
use Rattle.bds_code.specs.declared.instr.Instr.TheVariants as instr
use Rattle.bds_code.specs.declared.unit.Unit.{Unit as CodeUnit}
use Rattle.bds_check_names.specs.declared.names.Names.{Names as Checked}
use Rattle.bds_check_names.specs.declared.names.Site.{Site}
use Rattle.bds_check_names.specs.Types.{is_known}
use Rattle.bds_check_size.specs.StmtSize.{block_size}
use Rattle.bds_gen_expr.specs.Marks.{does, one as one_mark}
use Rattle.bds_gen_expr.specs.Scope.{known}
use Rattle.bds_gen_stmt.specs.FunctionCode.{ending}
use Rattle.bds_gen_stmt.specs.Spots.{Spot}
use Rattle.bds_gen_stmt.specs.StmtCode.{block_code}
use Rattle.bds_gen_stmt.proofs.WholeCounts.{whole-block-count}
use Rattle.bds_meaning.specs.Opening.{last_return}
use Rattle.bds_meaning.specs.OpeningStatements.{block_term}
use Rattle.bds_meaning.specs.Term.{Constant, Nothing, Then, Return}
use Rattle.bds_meaning.specs.Variables.{Bindings}
use Rattle.bds_sim_terms.specs.steps.Stands.{Source, Names, Loop, Comes, results}
use Rattle.bds_sim_code.proofs.Around.{Around}
use Rattle.bds_sim_code.proofs.Blocks.{Part, comes_here, constant_begins, nothing_begins}
use Rattle.bds_sim_code.proofs.Calls.{kept_one, void_is}
use Rattle.bds_sim_code.proofs.Marked.{Has}
use Rattle.bds_gen_stmt.proofs.Pars.{BlockParsThere}
use Rattle.bds_sim_code.proofs.Places.{cut}
use Rattle.bds_sim_code.proofs.StmtBlocks.{Run, done_run, then_begins, return_begins}
use Rattle.bds_sim_code.specs.StmtHere.{Returning, ReturnsTo, BlockHere, no_leaps}
use Rattle.bds_sim_code.proofs.Added.{all_added}
use Rattle.bds_sim_code.proofs.Stmts.{stmts_begin}

-- the names that a block adds
abbrev pub block_added : BlockTree → ℕ → Names
block_added (block at ss) next = all_added ss next

module _ (o : Source) (u : CodeUnit) (fn : ℕ) (held : List ℕ) (loop : Option Loop) (ns : Names) where
  ends : (k : Bool) (ret : Ty) (at : At) (pc to : ℕ) → kept_one k ≡ results ret → Returning o u fn (results ret) → Has o u fn (if not k then one_mark at instr.Return else does (instr.PushDefault ret) at ∷ does instr.Return at ∷ []) pc → Run o u fn held loop ns (Return (cond k (Constant (default_of ret)) Nothing)) pc ns to
  ends false ret at pc to e gives h =
      let is = h.0.is in
      return_begins o u fn held loop ns Nothing pc pc to is (subst (Part o u fn held ns Nothing pc pc) (e ∙ sym (gives is.f is.there)) (nothing_begins o u fn held ns None pc pc (comes_here o u fn pc)))
  ends true ret at pc to e gives h =
      let is = h.1.0.is in
      let v = Constant (default_of ret) in
      return_begins o u fn held loop ns v pc (pc + 1) to is (subst (Part o u fn held ns v pc (pc + 1)) (e ∙ sym (gives is.f is.there)) (constant_begins o u fn held ns None (instr.PushDefault ret) (default_of ret) at pc (pc + 1) refl h.0 (comes_here o u fn (pc + 1))))

  pub ending_begins : (ret : Ty) (at : At) (pc to : ℕ) → Returning o u fn (results ret) → Has o u fn (ending ret at) pc → Run o u fn held loop ns (last_return ret) pc ns to
  ending_begins ret at pc to gives h = ends (is_known ret) ret at pc to (void_is (out-Ty ret)) gives h

module _ (o : Source) (u : CodeUnit) (fn : ℕ) (settings : Bindings) where
  body_begins : (b : BlockTree) (names : Checked) (sp : Spot) (site : Site) (ns : Names) (n pc to : ℕ) → Around o u [] None names sp no_leaps ns → BlockHere o u b names site sp.scope sp.next no_leaps → ReturnsTo o u fn site.returns → BlockParsThere u b sp n → Has o u fn (block_code b sp n pc) pc → to ≡ pc + block_size b (known sp.scope)
      → Run o u fn [] None ns (block_term settings names site b) pc (block_added b sp.next ++ ns) to
  body_begins (block at ss) names sp site ns n pc to here asks returns own h e = stmts_begin o u settings ss fn [] None names sp site no_leaps ns n pc to here asks returns own h (subst (λ k. Comes o u fn k to) e (comes_here o u fn to))

  -- a function's code in a place of the unit, from its first instruction on. Where it is done doesn't matter, since it returns
  pub function_begins : (b : BlockTree) (ret : Ty) (at : At) (names : Checked) (sp : Spot) (site : Site) (ns : Names) (n to : ℕ) → Around o u [] None names sp no_leaps ns → BlockHere o u b names site sp.scope sp.next no_leaps → ReturnsTo o u fn site.returns → BlockParsThere u b sp n → Returning o u fn (results ret) → Has o u fn (block_code b sp n 0 ++ ending ret at) 0
      → Run o u fn [] None ns (Then (block_term settings names site b) (last_return ret)) 0 (block_added b sp.next ++ ns) to
  function_begins b ret at names sp site ns n to here asks returns own gives h =
      let k = block_size b (known sp.scope) in
      let behind = block_added b sp.next ++ ns in
      let r = cut o u fn [] ns names sp.scope here.agrees (block_code b sp n 0) (ending ret at) 0 k (whole-block-count b sp n 0 here.low) h in
      let body = block_term settings names site b in
      then_begins o u fn [] None ns behind behind body (last_return ret) 0 (0 + k) to (done_run o u fn [] None ns behind body 0 (0 + k) (body_begins b names sp site ns n 0 (0 + k) here asks returns own r.0 refl)) (ending_begins o u fn [] None behind ret at (0 + k) to gives r.1)
