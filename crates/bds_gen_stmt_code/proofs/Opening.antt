-- What begins and ends a loop writes, from what its calls write.
use Rattle.std.proofs.Common.{◌≡◌, ℕ, Option, List, [], length, ◌∙◌, ap, ap₂}
use Rattle.bds_value.specs.declared.value.At.{At}
use Rattle.bds_value.specs.declared.value.Ty.{Ty}
use Rattle.bds_tree.specs.StmtTree.{SmallTree}
use Rattle.bds_tree.specs.Tree.{Tree}
use Rattle.bds_code.specs.declared.unit.Function.{Function}
use Rattle.bds_gen_expr.specs.Gen.{gen}
use Rattle.bds_gen_expr.specs.Marks.{label, put}
use Rattle.bds_gen_stmt_code.specs.Bodies.{in_body, with_body, left_body}
use Rattle.bds_gen_stmt_code.specs.GenLoops.{gen_condition, tested, topped, loop_closed, list_head, list_own, list_closed, while_begun, while_opened, for_begun, for_opened, for_ended, each_begun, each_opened, each_ended}
use Rattle.bds_gen_stmt_code.specs.GenParts.{gen_small}
use Rattle.bds_gen_stmt_code.specs.declared.blocks.Before.{Before}
use Rattle.bds_gen_stmt_code.specs.declared.body.Body.{Body}
use Rattle.bds_gen_stmt_code.specs.declared.body.Leap.{Leap}
use Rattle.bds_gen_stmt_code.specs.declared.body.Unfinished.{Unfinished}
use Rattle.bds_gen_stmt_code.specs.declared.control.Opened.{Opened}
use Rattle.bds_gen_stmt_code.specs.declared.control.OpenedList.{OpenedList}
use Rattle.bds_gen_stmt_code.specs.declared.loops.Head.{Head}

abbrev opened-with : ℕ → ℕ → List Leap → Opened
opened-with top test around = record { top = top; test = test; around = around }

abbrev list-with : Head → List Leap → OpenedList
list-with head around = record { head = head; around = around }

abbrev looped : Unfinished → Body → Function → List Leap → Unfinished
looped u b f ls = with_body u (record b { function = f; leaps = ls })

pub while_begun_is : (c : Tree) (at : At) (u : Unfinished) (f0 f : Function) (ls : List Leap) → f0 ≡ topped u.body.function at → f ≡ tested (gen c u.body.scope [] f0) at → ls ≡ [] → looped u u.body f ls ≡ while_begun c at u
unfolding while_begun
while_begun_is c at u f0 f ls e1 e2 e3 = ap₂ (looped u u.body) (e2 ∙ ap (λ x. tested (gen c u.body.scope [] x) at) e1) e3

pub while_opened_is : (c : Tree) (at : At) (u : Unfinished) (f0 : Function) (top test : ℕ) (ls : List Leap) → f0 ≡ topped u.body.function at → top ≡ length u.body.function.code → test ≡ length (gen c u.body.scope [] f0).code → ls ≡ u.body.leaps
    → opened-with top test ls ≡ while_opened c at u
unfolding while_opened
while_opened_is c at u f0 top test ls e1 e2 e3 e4 =
    ap₂ (λ i l. opened-with i test l) e2 e4 ∙ ap (λ j. opened-with (length u.body.function.code) j u.body.leaps) (e3 ∙ ap (λ x. length (gen c u.body.scope [] x).code) e1)

pub for_begun_is : (first : Option SmallTree) (c : Option Tree) (at : At) (u : Unfinished) (h : Body) (f0 f : Function) (ls : List Leap) → h ≡ gen_small first u.body → f0 ≡ topped h.function at → f ≡ tested (gen_condition c at h.scope f0) at → ls ≡ []
    → looped u h f ls ≡ for_begun first c at u
unfolding for_begun
for_begun_is first c at u h f0 f ls e1 e2 e3 e4 =
    ap₂ (looped u h) (e3 ∙ ap (λ x. tested (gen_condition c at h.scope x) at) e2) e4
    ∙ ap (λ y. looped u y (tested (gen_condition c at y.scope (topped y.function at)) at) []) e1

pub for_opened_is : (first : Option SmallTree) (c : Option Tree) (at : At) (u : Unfinished) (h : Body) (f0 : Function) (top test : ℕ) (ls : List Leap) → h ≡ gen_small first u.body → f0 ≡ topped h.function at → top ≡ length h.function.code → test ≡ length (gen_condition c at h.scope f0).code → ls ≡ h.leaps
    → opened-with top test ls ≡ for_opened first c at u
unfolding for_opened
for_opened_is first c at u h f0 top test ls e1 e2 e3 e4 e5 =
    ap₂ (λ i l. opened-with i test l) e3 e5 ∙ ap (λ j. opened-with (length h.function.code) j h.leaps) (e4 ∙ ap (λ x. length (gen_condition c at h.scope x).code) e2)
    ∙ ap (λ y. opened-with (length y.function.code) (length (gen_condition c at y.scope (topped y.function at)).code) y.leaps) e1

pub for_ended_is : (next : Option SmallTree) (at : At) (before : Before) (o : Opened) (u : Unfinished) (k b d : Body) (again : ℕ) → k ≡ gen_small next (in_body u.body (put u.body.function (label []))) → again ≡ length u.body.function.code
    → b ≡ loop_closed k at o.top again o.test o.around → d ≡ left_body before.count before.at_top b → with_body u d ≡ for_ended next at before o u
unfolding for_ended
for_ended_is next at before o u k b d again e1 e2 e3 e4 =
    ap (with_body u) (e4 ∙ ap (left_body before.count before.at_top) (e3 ∙ ap₂ (λ y i. loop_closed y at o.top i o.test o.around) e1 e2))

pub each_begun_is : (t : Ty) (x : List ℕ) (e : Tree) (at : At) (u : Unfinished) (h : Body) (ls : List Leap) → h ≡ list_own (in_body u.body (gen e u.body.scope [] u.body.function)) at t x → ls ≡ [] → with_body u (record h { leaps = ls }) ≡ each_begun t x e at u
unfolding each_begun
each_begun_is t x e at u h ls e1 e2 = ap₂ (λ y l. with_body u (record y { leaps = l })) e1 e2

pub each_opened_is : (t : Ty) (x : List ℕ) (e : Tree) (at : At) (u : Unfinished) (h : Body) (head : Head) (ls : List Leap) → h ≡ list_own (in_body u.body (gen e u.body.scope [] u.body.function)) at t x → head ≡ list_head (gen e u.body.scope [] u.body.function) at t → ls ≡ h.leaps
    → list-with head ls ≡ each_opened t e at u
unfolding each_opened
each_opened_is t x e at u h head ls e1 e2 e3 = ap₂ list-with e2 (e3 ∙ ap (λ (y : Body). y.leaps) e1)

pub each_ended_is : (at : At) (before : Before) (o : OpenedList) (u : Unfinished) (b d : Body) → b ≡ list_closed u.body at o.head o.around → d ≡ left_body before.count before.at_top b → with_body u d ≡ each_ended at before o u
unfolding each_ended
each_ended_is at before o u b d e1 e2 = ap (with_body u) (e2 ∙ ap (left_body before.count before.at_top) e1)
