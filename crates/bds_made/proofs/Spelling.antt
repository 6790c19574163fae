-- The text that is made spells the tree of the script.
use Rattle.std.proofs.Common.{◌≡◌, ℕ, zero, suc, ◌+◌, ◌≤◌, List, [], ◌++◌, Result, Ok, refl, ap, sym, ◌∙◌, subst, arith}
use Rattle.std.proofs.Common.{true}
use Rattle.std.specs.Prelude.{codes}
use Rattle.std.specs.List.{AllByRecursion}
use Rattle.bds_value.specs.Results.{◌>>=◌}
use Rattle.bds_value.specs.declared.value.Ty.TheVariants as ty
use Rattle.bds_value.specs.declared.value.Ty.TheOpen.{Ty-F}
use Rattle.bds_value.specs.Fields.{is_solid, solid_step, nesting, nesting_step}
use Rattle.bds_value.proofs.Folds.{ty_fold-List, ty_fold-Text}
use Rattle.bds_tree.specs.declared.lexing.LexFault.{LexFault}
use Rattle.bds_tree.specs.declared.lexing.RawToken.{RawToken}
use Rattle.bds_tree.specs.ScriptTexts.{Spells}
use Rattle.bds_tree.specs.Spelling.{Fronts, begins, sign}
use Rattle.bds_tree.specs.StmtShape.{IsLegal, IsPartShaped, parts_height}
use Rattle.bds_tree.specs.StmtSpelling.{spell_name, spell_parts, spell_type, type_step, SpellsScript}
use Rattle.bds_tree.specs.declared.token.Word.TheVariants as w
use Rattle.bds_tree.specs.Tokens.{tokens_in, tokens_of}
use Rattle.bds_tree.specs.lexing.LineEnds.{tokens_behind}
use Rattle.bds_tools.specs.Make.{make_text}
use Rattle.bds_made.proofs.Script.{bare, tail_parts, tasks_parts, made_tree}
use Rattle.bds_made.proofs.Settling.{tail_tokens, tasks_tokens, made_tokens, made_settles}
use Rattle.bds_made.proofs.Texts.{made_is_read, made_is_plain, made_is_short}

made_lexes : (n : ℕ) → n ≤ 10000 → tokens_of (make_text n) ≡ Ok (made_tokens n)
unfolding tokens_of
made_lexes n h =
    ap tokens_in (made_is_plain n h)
    ∙ ap (λ (r : Result (List RawToken) LexFault). r >>= λ raws. Ok (tokens_behind [] raws)) (made_is_read n h)
    ∙ ap (λ ts. Ok ts) (made_settles n)

-- each token is that of its mark

tail_spelled : (l : ℕ) → Fronts (spell_parts (tail_parts bare l)) (tail_tokens l) []
tail_spelled l = (
  (refl, (refl, refl)),
  (
    refl,
    (
      (refl, (refl, (refl, refl))),
      (
        refl,
        (
          (refl, refl),
          (
            refl,
            (
              (refl, refl),
              (
                refl,
                (
                  (refl, refl),
                  (
                    refl,
                    ((refl, refl), ((refl, refl), (refl, refl))),
                  ),
                ),
              ),
            ),
          ),
        ),
      ),
    ),
  ),
)

tasks_spelled : (k i l : ℕ) → Fronts (spell_parts (tasks_parts bare k i l)) (tasks_tokens k i l) []
tasks_spelled zero i l = tail_spelled l
tasks_spelled (suc k) i l = (
  (refl, (refl, refl)),
  (
    refl,
    (
      (refl, (refl, (refl, refl))),
      (
        refl,
        (
          (refl, refl),
          (
            refl,
            (
              (refl, refl),
              (
                refl,
                (
                  (refl, refl),
                  (
                    refl,
                    (
                      (refl, refl),
                      (
                        refl,
                        ((refl, (refl, refl)), (refl, ((refl, refl), (refl, tasks_spelled k (i + 1) ((l + 1) + 1))))),
                      ),
                    ),
                  ),
                ),
              ),
            ),
          ),
        ),
      ),
    ),
  ),
)

type_marks : spell_type (ty.List ty.Text) ≡ sign w.String ++ (sign w.OpenSquare ++ sign w.CloseSquare)
type_marks =
    ty_fold-List type_step ty.Text
    ∙ ap (λ ms. ms ++ (sign w.OpenSquare ++ sign w.CloseSquare)) (ty_fold-Text type_step)

made_spelled : (n : ℕ) → SpellsScript (made_tree bare [] n) (made_tokens n)
made_spelled n = record {
  spelled =
      subst (λ ms. Fronts (begins 1 (begins 1 ((ms ++ (spell_name (codes "outs") ++ [])) ++ sign w.Semicolon)
      ++ spell_parts (tasks_parts bare n 0 2))) (made_tokens n) [])
      (sym type_marks) ((refl, (refl, refl)), (refl, (refl, (refl, (refl, tasks_spelled n 0 2)))));
  first = λ e. refl;
}

-- its nodes are as they may be written

one_ten : 1 ≤ 10
one_ten = omega arith

two_ten : 2 ≤ 10
two_ten = omega arith

tail_shaped : (l : ℕ) → AllByRecursion IsPartShaped (tail_parts bare l)
tail_shaped l = search (one_ten, two_ten)

tasks_shaped : (k i l : ℕ) → AllByRecursion IsPartShaped (tasks_parts bare k i l)
tasks_shaped zero i l = tail_shaped l
tasks_shaped (suc k) i l = search (tasks_shaped k (i + 1) ((l + 1) + 1), one_ten, two_ten)

tasks_high : (k i l : ℕ) → parts_height (tasks_parts bare k i l) ≤ 3
tasks_high zero i l = omega arith
tasks_high (suc k) i l = let e = tasks_high k (i + 1) ((l + 1) + 1) in omega (arith, e)

solid : is_solid (ty.List ty.Text) ≡ true
solid = ty_fold-List solid_step ty.Text ∙ ap (λ x. solid_step (Ty-F.List x)) (ty_fold-Text solid_step)

nested : nesting (ty.List ty.Text) ≡ 1
nested = ty_fold-List nesting_step ty.Text ∙ ap (λ x. nesting_step (Ty-F.List x)) (ty_fold-Text nesting_step)

made_legal : (n : ℕ) → IsLegal (made_tree bare [] n)
made_legal n = record {
  shaped = (refl, refl, ((refl, (solid, tt)), tasks_shaped n 0 2));
  nesting = let e = tasks_high n 0 2 in omega (arith, e, nested);
}

pub made_spells : (n : ℕ) → n ≤ 10000 → Spells (make_text n) (made_tokens n) (made_tree bare [] n)
made_spells n h = record {
  within = let e = made_is_short n h in omega (arith, e);
  lexed = made_lexes n h;
  legal = made_legal n;
  spelled = made_spelled n;
}
