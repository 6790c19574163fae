-- The code that begins a thread of a `par` block begins its term, where the block's own code begins the block's.
use Rattle.std.proofs.Common.{◌≡◌, ℕ, suc, ◌+◌, Bool, false, not, List, [], ◌∷◌, ◌++◌, map, length, Option, Some, None, slice_get, refl, sym, ap, ◌∙◌, subst, inr, arith, if◌then◌else◌}
use Rattle.std.specs.Prelude.{⊤, cond}
use Rattle.std.proofs.lemmas.List.{length-map}
use Rattle.bds_value.specs.declared.value.At.{At}
use Rattle.bds_value.specs.declared.value.Ty.TheVariants as ty
use Rattle.bds_value.specs.Types.{is_void_at}
use Rattle.bds_tree.specs.StmtTree.{LineTree, RightTree, ActTree, ActFormTree, BlockTree, declare, infer, assign, update, return, act_line, right_expr, right_act, act, par_block, a_right}
use Rattle.bds_code.specs.declared.instr.Instr.TheVariants as instr
use Rattle.bds_code.specs.declared.unit.Function.{Function}
use Rattle.bds_code.specs.declared.unit.Unit.{Unit as CodeUnit}
use Rattle.bds_check_names.specs.declared.names.Names.{Names as Checked}
use Rattle.bds_check_names.specs.Scopes.{apart}
use Rattle.bds_check_names.specs.Slots.{visible}
use Rattle.bds_check_names.specs.Types.{is_known, known_at}
use Rattle.bds_gen_expr.specs.Marks.{Mark, does, one as one_mark, count as marks}
use Rattle.bds_gen_expr.specs.Numbers.{variables_of, visible_locals}
use Rattle.bds_gen_expr.specs.declared.scope.Numbered.{Numbered as Variables}
use Rattle.bds_gen_expr.specs.declared.scope.Scope.{Scope}
use Rattle.bds_gen_expr.proofs.Written.{ret-is, params-is}
use Rattle.bds_gen_stmt.specs.FunctionCode.{fresh, eight, ending, opening, types_of, at_of_block, function_of}
use Rattle.bds_gen_stmt.specs.StmtCode.{loads_code, block_pars, block_code}
use Rattle.bds_gen_stmt.proofs.Pars.{visible-count}
use Rattle.bds_meaning.specs.OpeningStatements.{block_term}
use Rattle.bds_meaning.specs.Term.{Term, Block, SpawnBlock}
use Rattle.bds_meaning.specs.Variables.{Bindings}
use Rattle.bds_sim_terms.specs.steps.Stands.{Source, Names, Loop, results, Passed, Is, Comes, CodeBegins, Row, EndsAt, Stands}
use Rattle.bds_sim_code.proofs.Blocks.{Form}
use Rattle.bds_sim_code.proofs.Entered.{has_written}
use Rattle.bds_sim_code.proofs.Marked.{Has, has_cut}
use Rattle.bds_sim_code.proofs.Passing.{numbers_of, slots_passed}

pub no_result : 0 ≡ results ty.Void
no_result = sym (ap (λ b. cond b 0 1) (ap is_void_at ty.outs-Void))

unknown_void : is_known ty.Void ≡ false
unknown_void = ap known_at ty.outs-Void

loads_count : (at : At) (ls : List Variables) → marks (loads_code at ls) ≡ length ls
loads_count at [] = refl
loads_count at (l ∷ ls) = ap suc (loads_count at ls)

same_function : (f g : Function) → Some f ≡ Some g → f ≡ g
same_function f g e = cc

module _ (o : Source) (u : CodeUnit) where
  loads_row : (fn : ℕ) (at : At) (ls : List Variables) (pc : ℕ) → Has o u fn (loads_code at ls) pc → Row o u fn pc (map instr.Load (numbers_of ls)) (pc + length ls)
  loads_row fn at [] pc h = let e : pc ≡ pc + 0 = omega arith in e
  loads_row fn at (l ∷ ls) pc h = (
    h.0.is,
    subst (Row o u fn (pc + 1) (map instr.Load (numbers_of ls))) (let e : pc + 1 + length ls ≡ pc + suc (length ls) = omega arith in e) (loads_row fn at ls (pc + 1) h.1),
  )

  module _ (settings : Bindings) (names : Checked) (sc : Scope) (ns : Names) where
    abbrev pub own_function : BlockTree → ℕ → Function
    own_function b n = function_of [] (visible_locals sc.locals) ty.Void sc b n

    abbrev pub own_term : BlockTree → Term
    own_term b = Block (block_term settings names (apart names) b)

    -- the block's function begins the block's term with the names that are passed, and ends where it returns
    pub record BlockBegins (b : BlockTree) (n : ℕ) : Type 0 where
      pub names_in : Names
      pub exit : ℕ
      pub there : slice_get u.functions (n + block_pars b) ≡ Some (own_function b n)
      pub passed : Passed ns (slots_passed sc.locals) names_in
      pub begins : CodeBegins o u (Stands o u (own_term b)) (n + block_pars b) None [] names_in 0 names_in exit 0
      pub ends : EndsAt o u (n + block_pars b) (own_function b n) exit

    -- so does that of each `par` block in a line

    abbrev pub FormBegun : ActFormTree → ℕ → Type 0
    FormBegun (par_block b) n = BlockBegins b n
    FormBegun _ n = ⊤

    abbrev pub ActBegun : ActTree → ℕ → Type 0
    ActBegun (act at f) n = FormBegun f n

    abbrev pub RightBegun : RightTree → ℕ → Type 0
    RightBegun (right_expr e) n = ⊤
    RightBegun (right_act a) n = ActBegun a n

    abbrev pub LineBegun : LineTree → ℕ → Type 0
    LineBegun (declare t x (a_right r)) n = RightBegun r n
    LineBegun (infer x r) n = RightBegun r n
    LineBegun (assign q r) n = RightBegun r n
    LineBegun (update q op r) n = RightBegun r n
    LineBegun (return (a_right r)) n = RightBegun r n
    LineBegun (act_line a) n = ActBegun a n
    LineBegun _ n = ⊤

    many_params : (b : BlockTree) (n : ℕ) → length (own_function b n).params ≡ length (slots_passed sc.locals)
    many_params b n =
        let ls = visible_locals sc.locals in
        ap length (params-is (eight ++ (block_code b (opening sc ls) n 0 ++ ending ty.Void (at_of_block b))) (fresh [] (types_of ls) ty.Void)) ∙ length-map ls (λ (l : Variables). l.variable.ty) ∙ sym (length-map ls (λ (l : Variables). l.number))

    pub spawn_block_begins : (fn : ℕ) (held : List ℕ) (loop : Option Loop) (b : BlockTree) (at : At) (n pc to : ℕ) → BlockBegins b n → Has o u fn (loads_code at (visible_locals sc.locals) ++ one_mark at (instr.Spawn (n + block_pars b))) pc → Comes o u fn (pc + (visible (variables_of sc.locals) + 1)) to
        → Form o u fn held ns loop (SpawnBlock at (own_term b)) pc to 1
    spawn_block_begins fn held loop b at n pc to own h c =
        let ls = visible_locals sc.locals in
        let k = length ls in
        let r = has_cut o u fn (loads_code at ls) (one_mark at (instr.Spawn (n + block_pars b))) pc k (loads_count at ls) h in
        let many = visible-count sc.locals in
        let lined = r.1.0 in
        let c2 = subst (λ p. Comes o u fn p to) (let e : pc + (visible (variables_of sc.locals) + 1) ≡ pc + k + 1 = omega (arith, many) in e) c in
        record {
          at = λ vs slots base kept below named fits. (
            refl,
            (
              n + block_pars b,
              (
                own_function b n,
                (
                  slots_passed sc.locals,
                  (
                    own.names_in,
                    own.names_in,
                    (
                      pc,
                      pc + k,
                      own.exit,
                      own.there,
                      many_params b n,
                      own.passed,
                      own.begins,
                      own.ends,
                      loads_row fn at ls pc r.0,
                      record { last = record { is = lined.is; comes = c2 }; lines = lined.lines },
                      record { named = named; slots = slots; holds = fits; is = refl },
                    ),
                  ),
                ),
              ),
            ),
          );
        }

    -- the marks of the block's function stand in it: its body, and a return behind it
    pub own_marks : (b : BlockTree) (n : ℕ) → slice_get u.functions (n + block_pars b) ≡ Some (own_function b n) → Has o u (n + block_pars b) (block_code b (opening sc (visible_locals sc.locals)) n 0 ++ one_mark (at_of_block b) instr.Return) 0
    own_marks b n there =
        let ls = visible_locals sc.locals in
        let code = block_code b (opening sc ls) n 0 in
        let place = at_of_block b in
        subst (λ (k : Bool). Has o u (n + block_pars b) (code ++ (if not k then one_mark place instr.Return else does (instr.PushDefault ty.Void) place ∷ does instr.Return place ∷ [])) 0) unknown_void
        (has_written o u (n + block_pars b) (own_function b n) there (eight ++ (code ++ ending ty.Void (at_of_block b))) (fresh [] (types_of ls) ty.Void) refl refl refl)

    pub own_end : (b : BlockTree) (n exit : ℕ) → slice_get u.functions (n + block_pars b) ≡ Some (own_function b n) → Is o u (n + block_pars b) exit instr.Return → EndsAt o u (n + block_pars b) (own_function b n) exit
    own_end b n exit there is =
        let ls = visible_locals sc.locals in
        let all : List Mark = eight ++ (block_code b (opening sc ls) n 0 ++ ending ty.Void (at_of_block b)) in
        inr (is, no_result ∙ sym (ap (λ (k : Function). results k.ret) (same_function is.f (own_function b n) (sym is.there ∙ there)) ∙ ap results (ret-is all (fresh [] (types_of ls) ty.Void))))
