-- The code of a function whose body is well typed is verified.
use Rattle.bds_gen_stmt.proofs.Pars.{BlockParsThere}
use Rattle.std.proofs.Common.{◌≡◌, ◌+◌, ℕ, suc, List, [], ◌∷◌, ◌++◌, length, length-append, slice_get, Some, None, Bool, true, false, not, refl, sym, ◌∙◌, ap, subst, arith, append_assoc, append-nil, if◌then◌else◌}
use Rattle.bds_value.specs.declared.value.At.{At}
use Rattle.bds_value.specs.declared.value.Ty.{Ty}
use Rattle.bds_tree.specs.StmtTree.{BlockTree}
use Rattle.bds_code.specs.declared.instr.Instr.TheVariants.{PushDefault, Return}
use Rattle.bds_code.specs.declared.unit.Function.{Function}
use Rattle.bds_code.specs.declared.unit.Unit.{Unit as CodeUnit}
use Rattle.bds_code.specs.Row.{slot_ty}
use Rattle.bds_verify.specs.Verified.{IsVerified}
use Rattle.bds_verify.specs.Whole.{is_whole}
use Rattle.bds_check_names.specs.declared.names.Names.{Names}
use Rattle.bds_check_names.specs.declared.names.Site.{Site}
use Rattle.bds_check_names.specs.Types.{is_known}
use Rattle.bds_check_size.specs.StmtSize.{block_size}
use Rattle.bds_check_typing.specs.WellTypedStmts.{IsWellTypedBlock}
use Rattle.bds_check_typing.specs.Known.{IsBlockWritten}
use Rattle.bds_gen_expr.specs.Marks.{Mark, does, label, slot, slot_count, one, put, written}
use Rattle.bds_gen_expr.specs.declared.scope.Numbered.{Numbered}
use Rattle.bds_gen_expr.specs.declared.scope.Scope.{Scope}
use Rattle.bds_gen_expr.specs.Scope.{known}
use Rattle.bds_gen_stmt.specs.StmtCode.{block_code}
use Rattle.bds_gen_stmt.specs.FunctionCode.{fresh, eight, ending, opening, types_of, at_of_block, function_of}
use Rattle.bds_gen_flow.specs.Flow.{Goes, HasMarks}
use Rattle.bds_gen_flow.proofs.Flow.{goes_append, has_append}
use Rattle.bds_gen_expr.proofs.Written.{ret-is, params-is}
use Rattle.bds_gen_flow.proofs.Sealed.{sealed_anyhow}
use Rattle.bds_gen_flow.proofs.RowEffects.{not_void, given-is}
use Rattle.bds_check_typing.specs.Proper.{IsProperBlock}
use Rattle.bds_gen_stmt.proofs.Matched.{TaskSlots, Slots, slots_append, Matches}
use Rattle.bds_gen_stmt.proofs.LineFlow.{return-row, returned-none}
use Rattle.bds_gen_stmt.proofs.StmtFlow.{block-run}

-- The slots of a function are those of its marks

abbrev slot_list : List Mark → List Ty
slot_list [] = []
slot_list (does i at ∷ ms) = slot_list ms
slot_list (label s ∷ ms) = slot_list ms
slot_list (slot t ∷ ms) = t ∷ slot_list ms

locals-is : (ms : List Mark) (f : Function) → (written f ms).locals ≡ f.locals ++ slot_list ms
locals-is [] f = sym (append-nil f.locals)
locals-is (does i at ∷ ms) f = locals-is ms (put f (does i at))
locals-is (label s ∷ ms) f = locals-is ms (put f (label s))
locals-is (slot t ∷ ms) f = locals-is ms (put f (slot t)) ∙ append_assoc f.locals (t ∷ []) (slot_list ms)

get-middle : (xs : List Ty) (t : Ty) (ys : List Ty) → slice_get (xs ++ t ∷ ys) (length xs) ≡ Some t
get-middle [] t ys = refl
get-middle (x ∷ xs) t ys = get-middle xs t ys

pub own-slots : (F : Function) (ms : List Mark) (f : Function) (n : ℕ) → written f ms ≡ F → length (f.params ++ f.locals) ≡ n → Slots F ms n
own-slots F [] f n is e = tt
own-slots F (does i at ∷ ms) f n is e = own-slots F ms (put f (does i at)) n is e
own-slots F (label s ∷ ms) f n is e = own-slots F ms (put f (label s)) n is e
own-slots F (slot t ∷ ms) f n is e =
    let params : F.params ≡ f.params = ap (λ (x : Function). x.params) (sym is) ∙ params-is (slot t ∷ ms) f in
    let locals : F.locals ≡ f.locals ++ t ∷ slot_list ms = ap (λ (x : Function). x.locals) (sym is) ∙ locals-is (slot t ∷ ms) f in
    let all : F.params ++ F.locals ≡ (f.params ++ f.locals) ++ t ∷ slot_list ms = ap (λ x. x ++ F.locals) params ∙ ap (λ x. f.params ++ x) locals ∙ sym (append_assoc f.params f.locals (t ∷ slot_list ms)) in
    let there : slot_ty F n ≡ Some t = ap (λ x. slice_get x n) all ∙ ap (slice_get ((f.params ++ f.locals) ++ t ∷ slot_list ms)) (sym e) ∙ get-middle (f.params ++ f.locals) t (slot_list ms) in
    let a = length-append f.params (f.locals ++ t ∷ []) in
    let b = length-append f.locals (t ∷ []) in
    let c = length-append f.params f.locals in
    (there, own-slots F ms (put f (slot t)) (suc n) is (omega (arith, a, b, c, e)))

pub task-slots : (F : Function) (ms : List Mark) (n : ℕ) → Slots F (eight ++ ms) n → TaskSlots F n
task-slots F ms n all =
    let e1 : suc n ≡ n + 1 = omega arith in
    let e2 : suc (suc n) ≡ n + 2 = omega arith in
    let e3 : suc (suc (suc n)) ≡ n + 3 = omega arith in
    let e4 : suc (suc (suc (suc n))) ≡ n + 4 = omega arith in
    let e5 : suc (suc (suc (suc (suc n)))) ≡ n + 5 = omega arith in
    let e6 : suc (suc (suc (suc (suc (suc n))))) ≡ n + 6 = omega arith in
    record {
      outs = all.0;
      ins = ap (slot_ty F) (sym e1) ∙ all.1.0;
      cpus = ap (slot_ty F) (sym e2) ∙ all.1.1.0;
      can_fail = ap (slot_ty F) (sym e3) ∙ all.1.1.1.0;
      retry = ap (slot_ty F) (sym e4) ∙ all.1.1.1.1.0;
      name = ap (slot_ty F) (sym e5) ∙ all.1.1.1.1.1.0;
      needed = ap (slot_ty F) (sym e6) ∙ all.1.1.1.1.1.1.0;
    }

types-length : (ls : List Numbered) → length (types_of ls) ≡ length ls
types-length [] = refl
types-length (l ∷ ls) = let e = types-length ls in omega (arith, e)

module _ (u : CodeUnit) (x : List ℕ) (ls : List Numbered) (ret : Ty) (sc : Scope) (b : BlockTree) (n : ℕ) where
  abbrev F : Function
  F = function_of x ls ret sc b n

  abbrev body : List Mark
  body = block_code b (opening sc ls) n 0

  abbrev marks : List Mark
  marks = eight ++ (body ++ ending ret (at_of_block b))

  ret_is : F.ret ≡ ret
  ret_is = ret-is marks (fresh x (types_of ls) ret)

  slots : Slots F body (length ls + 8)
  slots =
      let none = append-nil (types_of ls) in
      let start : length (types_of ls ++ []) ≡ length ls = ap length none ∙ types-length ls in
      let all : Slots F marks (length ls) = own-slots F marks (fresh x (types_of ls) ret) (length ls) refl start in
      let behind : Slots F (body ++ ending ret (at_of_block b)) (suc (suc (suc (suc (suc (suc (suc (suc (length ls))))))))) = all.1.1.1.1.1.1.1.1 in
      let same : suc (suc (suc (suc (suc (suc (suc (suc (length ls)))))))) ≡ length ls + 8 = omega arith in
      (slots_append F body (ending ret (at_of_block b)) (length ls + 8) (length ls + 8 + slot_count body) refl (subst (Slots F (body ++ ending ret (at_of_block b))) same behind)).0

  pub tasks_there : TaskSlots F (length ls)
  tasks_there =
      let none = append-nil (types_of ls) in
      let start : length (types_of ls ++ []) ≡ length ls = ap length none ∙ types-length ls in
      task-slots F (body ++ ending ret (at_of_block b)) (length ls) (own-slots F marks (fresh x (types_of ls) ret) (length ls) refl start)

  module _ (Labels : ℕ → List Ty → Type 0) (Ticks : ℕ → Type 0) where
    ending-by : (k : Bool) (at : At) (p : ℕ) → is_known ret ≡ k → Goes u F Labels Ticks (if not k then one at Return else does (PushDefault ret) at ∷ does Return at ∷ []) p (Some []) None
    ending-by false at p e = ([], [], refl, record { effect = returned-none u F Labels Ticks ret ret_is e; jump = λ to k. absurd (cc) }, refl)
    ending-by true at p e = (
      [],
      ret ∷ [],
      refl,
      record { effect = given-is ret [] (not_void ret e); jump = λ to k. absurd (cc) },
      (ret ∷ [], [], refl, record { effect = return-row u F Labels Ticks ret ret_is (not_void ret e); jump = λ to k. absurd (cc) }, refl),
    )

    goes : (names : Names) (site : Site) → Matches u F names site (opening sc ls) → site.may_break ≡ false → site.in_loop ≡ false → IsProperBlock (length u.files) b → IsWellTypedBlock b names site → IsBlockWritten b → BlockParsThere u b (opening sc ls) n → HasMarks u F Labels Ticks marks 0 → Goes u F Labels Ticks marks 0 (Some []) None
    goes names site m no_break no_loop h w k ps has =
        let run = block-run u F Labels Ticks b (opening sc ls) names site n 0 m refl h slots w k ps (record { breaks = λ i. absurd (cc); loop = λ i. absurd (cc) }) in
        let parts = has_append u F Labels Ticks body (ending ret (at_of_block b)) 0 (0 + block_size b (known (opening sc ls).scope)) run.place has in
        goes_append u F Labels Ticks body (ending ret (at_of_block b)) 0 (0 + block_size b (known (opening sc ls).scope)) (Some []) (Some []) None run.place (run.goes parts.0)
        (ending-by (is_known ret) (at_of_block b) (0 + block_size b (known (opening sc ls).scope)) refl)

  pub function-verified : (names : Names) (site : Site) → Matches u F names site (opening sc ls) → site.may_break ≡ false → site.in_loop ≡ false → IsProperBlock (length u.files) b → IsWellTypedBlock b names site → IsBlockWritten b → BlockParsThere u b (opening sc ls) n → is_whole u F ≡ true → IsVerified u F
  function-verified names site m no_break no_loop h w k ps whole = record {
    whole = whole;
    shapes = sealed_anyhow u F marks (fresh x (types_of ls) ret) refl refl refl (λ L T has. goes L T names site m no_break no_loop h w k ps has);
  }
