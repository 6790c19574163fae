-- A task that is made only where it is needed, from what its calls write.
use Rattle.std.proofs.Common.{◌≡◌, ℕ, false, true, List, [], ◌∷◌, ◌++◌, length, ◌∙◌, ap, ap₂}
use Rattle.bds_value.specs.declared.value.At.{At}
use Rattle.bds_value.specs.declared.value.Ty.{Ty}
use Rattle.bds_value.specs.declared.value.Ty.TheVariants as ty
use Rattle.bds_tree.specs.StmtTree.{SettingTree}
use Rattle.bds_tree.specs.declared.stmt.Body.{Body as AnyCommands}
use Rattle.bds_code.specs.declared.instr.Instr.TheVariants.{PushBool, PushText, Load, Store, JumpUnless, NewTask}
use Rattle.bds_code.specs.declared.unit.Function.{Function}
use Rattle.bds_gen_expr.specs.declared.scope.Scope.{Scope}
use Rattle.bds_gen_expr.specs.Gen.{act, begin_other, end_at}
use Rattle.bds_gen_expr.specs.Marks.{does, written}
use Rattle.bds_gen_stmt.specs.TaskCode.{needed_slot, make_code}
use Rattle.bds_gen_stmt_code.specs.GenTasks.{gen_settings, gen_needed}

pub needed_is : (os : List SettingTree) (b : AnyCommands) (at : At) (sc : Scope) (first : ℕ) (s s2 : List Ty) (f f1 f2 f3 f4 f5 f6 f7 f8 : Function) (test jump : ℕ)
    → f1 ≡ written f (does (PushBool true) at ∷ does (Store (needed_slot first)) at ∷ []) → f2 ≡ gen_settings false os sc first s f1 → s2 ≡ s → f3 ≡ act f2 at (Load (needed_slot first)) → test ≡ length f3.code
    → f4 ≡ act f3 at (JumpUnless 0) → f5 ≡ written f4 (make_code NewTask b at sc first) → jump ≡ length f5.code → f6 ≡ begin_other f5 test at s2 → f7 ≡ act f6 at (PushText []) → f8 ≡ end_at f7 jump (s2 ++ ty.Text ∷ [])
    → f8 ≡ gen_needed os b at sc first s f
needed_is os b at sc first s s2 f f1 f2 f3 f4 f5 f6 f7 f8 test jump e1 e2 es e3 et e4 e5 ej e6 e7 e8 =
    let way : Function → Function = λ x. written (act x at (JumpUnless 0)) (make_code NewTask b at sc first) in
    let last : Function → ℕ → ℕ → List Ty → Function = λ x i j l. end_at (act (begin_other x i at l) at (PushText [])) j (l ++ ty.Text ∷ []) in
    e8 ∙ ap (λ x. end_at x jump (s2 ++ ty.Text ∷ [])) (e7 ∙ ap (λ x. act x at (PushText [])) e6)
    ∙ ap₂ (λ i j. last f5 i j s2) et ej ∙ ap (last f5 (length f3.code) (length f5.code)) es
    ∙ ap (λ x. last x (length f3.code) (length x.code) s) (e5 ∙ ap (λ x. written x (make_code NewTask b at sc first)) e4)
    ∙ ap (λ x. last (way x) (length x.code) (length (way x).code) s) (e3 ∙ ap (λ x. act x at (Load (needed_slot first))) (e2 ∙ ap (gen_settings false os sc first s) e1))
