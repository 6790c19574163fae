-- What signs and words say, both ways.
use Rattle.std.proofs.Common.{◌≡◌, ◌≢◌, ℕ, ◌≤◌, Bool, true, false, List, [], ◌∷◌, Option, Some, None, refl, sym, ap, ◌∙◌, subst, arith}
use Rattle.bds_tree.specs.declared.token.Word.{Word}
use Rattle.bds_tree.specs.declared.token.Word.TheVariants as w
use Rattle.bds_tree.specs.declared.token.Token.{Token}
use Rattle.bds_tree.specs.declared.stmt.StepOp.{StepOp}
use Rattle.bds_tree.specs.declared.stmt.StepOp.TheVariants as step_op
use Rattle.bds_tree.specs.declared.stmt.UpdateOp.{UpdateOp}
use Rattle.bds_tree.specs.declared.stmt.UpdateOp.TheVariants as update_op
use Rattle.bds_tree.specs.Tree.{Tree}
use Rattle.bds_tree.specs.Shape.{Shaped}
use Rattle.bds_tree.specs.Spelling.{spell, sign}
use Rattle.bds_tree.specs.StmtShape.{over}
use Rattle.bds_tree.specs.StmtSpelling.{spell_step_op, spell_update_op}
use Rattle.bds_parse_expr.specs.Spells.{Sign}
use Rattle.bds_parse_expr.specs.declared.words.Next.TheVariants.{Stops as stops}
use Rattle.bds_parse_expr.specs.Reading.{begins_none, first_of, next_of, strength, ahead, behind, name_in, name_at, expression}
use Rattle.bds_parse_expr.proofs.Steps.{if_true, level_one, begins}
use Rattle.bds_parse_expr.proofs.Complete.{finds}
use Rattle.bds_parse_expr.proofs.Sound.{sign_behind, sign_at, found}
use Rattle.bds_parse_stmt_parts.specs.declared.words.Sign.{Sign as Kind}
use Rattle.bds_parse_stmt_parts.specs.declared.words.Sign.TheVariants as s
use Rattle.bds_parse_stmt_parts.specs.declared.words.PlaceSign.TheVariants as place
use Rattle.bds_parse_stmt_parts.specs.Words.{is_sign, is_stop, ends_stmts, place_sign, sign_ahead, nothing_ahead, end_ahead}
use Rattle.bds_parse_stmt_parts.proofs.Fronting.{Spelled, of_expr, expr_of}

abbrev pub word_of : Kind → Word
word_of s.OpenRound = w.OpenRound
word_of s.CloseRound = w.CloseRound
word_of s.CloseSquare = w.CloseSquare
word_of s.CloseValue = w.CloseValue
word_of s.OpenBlock = w.OpenBlock
word_of s.CloseBlock = w.CloseBlock
word_of s.Comma = w.Comma
word_of s.Semicolon = w.Semicolon
word_of s.Colon = w.Colon
word_of s.CaseColon = w.CaseColon
word_of s.Assign = w.Assign
word_of s.Else = w.Else
word_of s.Case = w.Case
word_of s.Default = w.Default

pub is_word : (k : Kind) → is_sign k (word_of k) ≡ true
is_word s.OpenRound = refl
is_word s.CloseRound = refl
is_word s.CloseSquare = refl
is_word s.CloseValue = refl
is_word s.OpenBlock = refl
is_word s.CloseBlock = refl
is_word s.Comma = refl
is_word s.Semicolon = refl
is_word s.Colon = refl
is_word s.CaseColon = refl
is_word s.Assign = refl
is_word s.Else = refl
is_word s.Case = refl
is_word s.Default = refl

pub sign_is : (k : Kind) (word : Word) → is_sign k word ≡ true → word ≡ word_of k
sign_is s.OpenRound w.OpenRound e = refl
sign_is s.OpenRound _ e = cc
sign_is s.CloseRound w.CloseRound e = refl
sign_is s.CloseRound _ e = cc
sign_is s.CloseSquare w.CloseSquare e = refl
sign_is s.CloseSquare _ e = cc
sign_is s.CloseValue w.CloseValue e = refl
sign_is s.CloseValue _ e = cc
sign_is s.OpenBlock w.OpenBlock e = refl
sign_is s.OpenBlock _ e = cc
sign_is s.CloseBlock w.CloseBlock e = refl
sign_is s.CloseBlock _ e = cc
sign_is s.Comma w.Comma e = refl
sign_is s.Comma _ e = cc
sign_is s.Semicolon w.Semicolon e = refl
sign_is s.Semicolon _ e = cc
sign_is s.Colon w.Colon e = refl
sign_is s.Colon _ e = cc
sign_is s.Assign w.Assign e = refl
sign_is s.Assign _ e = cc
sign_is s.Else w.Else e = refl
sign_is s.Else _ e = cc
sign_is s.CaseColon w.CaseColon e = refl
sign_is s.CaseColon _ e = cc
sign_is s.Case w.Case e = refl
sign_is s.Case _ e = cc
sign_is s.Default w.Default e = refl
sign_is s.Default _ e = cc

pub behind_sound : (k : Kind) (ts rest : List Token) → behind (is_sign k) ts ≡ Some rest → Sign (word_of k) ts rest
behind_sound k ts rest e = sign_behind (is_sign k) (word_of k) ts rest (sign_is k) e

pub behind_finds : (k : Kind) (ts rest : List Token) → Sign (word_of k) ts rest → behind (is_sign k) ts ≡ Some rest
behind_finds k ts rest f = subst (λ u. behind (is_sign k) u ≡ Some rest) (sym f.1) (if_true _ _ _ _ (is_word k) refl)

-- what a test on the tokens says, by the word at their front
pub ahead_is : (k : Kind) (b : Bool) (word : Word) (ts rest : List Token) → Sign word ts rest → is_sign k word ≡ b → sign_ahead k ts ≡ b
ahead_is k b word ts rest f e = ap (sign_ahead k) f.1 ∙ e

pub nothing_is : (b : Bool) (word : Word) (ts rest : List Token) → Sign word ts rest → is_stop word ≡ b → nothing_ahead ts ≡ b
nothing_is b word ts rest f e = ap nothing_ahead f.1 ∙ e

pub end_is : (b : Bool) (word : Word) (ts rest : List Token) → Sign word ts rest → ends_stmts word ≡ b → end_ahead ts ≡ b
end_is b word ts rest f e = ap end_ahead f.1 ∙ e

-- no `else` comes where statements end
pub end_no_else : (ts : List Token) → end_ahead ts ≡ true → sign_ahead s.Else ts ≡ false
end_no_else [] e = refl
end_no_else (t ∷ ts) e = by_word t.word e
  where
    by_word : (word : Word) → ends_stmts word ≡ true → is_sign s.Else word ≡ false
    by_word w.CloseBlock e = refl
    by_word w.Case e = refl
    by_word w.Default e = refl
    by_word _ e = cc

pub sign_there : (k : Kind) (ts : List Token) → sign_ahead k ts ≡ true → (rest : List Token) × Sign (word_of k) ts rest
sign_there k [] e = cc
sign_there k (t ∷ ts) e = (ts, sign_at (word_of k) t ts (sign_is k t.word e))

pub not_true : (b : Bool) → (b ≡ true → ⊥) → b ≡ false
not_true true h = absurd (h refl)
not_true false h = refl

pub not_false : (b : Bool) → (b ≡ false → ⊥) → b ≡ true
not_false true h = refl
not_false false h = absurd (h refl)

pub none_of : {A : Type 0} (r : Option A) → ((x : A) → r ≡ Some x → ⊥) → r ≡ None
none_of None h = refl
none_of (Some x) h = absurd (h x refl)

pub stop_next : (word : Word) → is_stop word ≡ true → next_of word ≡ stops
stop_next w.Semicolon e = refl
stop_next w.CloseRound e = refl
stop_next w.Else e = refl
stop_next _ e = cc

pub stop_first : (word : Word) → is_stop word ≡ true → first_of word ≡ begins_none
stop_first w.Semicolon e = refl
stop_first w.CloseRound e = refl
stop_first w.Else e = refl
stop_first _ e = cc

-- no sign that continues an expression comes where nothing does
pub stop_ahead : (ts : List Token) → nothing_ahead ts ≡ true → ahead ts ≡ 0
stop_ahead [] e = cc
stop_ahead (t ∷ ts) e = ap strength (stop_next t.word e)

pub expr_there : (e : Tree) (ts rest : List Token) → Spelled (spell e) ts rest → nothing_ahead ts ≡ false
expr_there e ts rest f =
    let b = begins e ts rest (expr_of e f) in
    not_true _ (λ yes. b.3 (stop_first b.0.word (sym (ap nothing_ahead b.2) ∙ yes)))

pub place_stops : (word : Word) → place_sign word ≢ place.Other → next_of word ≡ stops
place_stops w.Declare h = refl
place_stops w.Assign h = refl
place_stops w.AddAssign h = refl
place_stops w.SubAssign h = refl
place_stops w.MulAssign h = refl
place_stops w.DivAssign h = refl
place_stops w.RemAssign h = refl
place_stops w.Increment h = refl
place_stops w.Decrement h = refl
place_stops _ h = absurd (h refl)

abbrev pub update_word : UpdateOp → Word
update_word update_op.Add = w.AddAssign
update_word update_op.Sub = w.SubAssign
update_word update_op.Mul = w.MulAssign
update_word update_op.Div = w.DivAssign
update_word update_op.Rem = w.RemAssign

pub update_spelled : (o : UpdateOp) → spell_update_op o ≡ sign (update_word o)
update_spelled update_op.Add = refl
update_spelled update_op.Sub = refl
update_spelled update_op.Mul = refl
update_spelled update_op.Div = refl
update_spelled update_op.Rem = refl

pub update_sign : (o : UpdateOp) → place_sign (update_word o) ≡ place.Update o
update_sign update_op.Add = refl
update_sign update_op.Sub = refl
update_sign update_op.Mul = refl
update_sign update_op.Div = refl
update_sign update_op.Rem = refl

pub update_is : (word : Word) (o : UpdateOp) → place_sign word ≡ place.Update o → word ≡ update_word o
update_is w.AddAssign o e = let f : update_op.Add ≡ o = cc in ap update_word f
update_is w.SubAssign o e = let f : update_op.Sub ≡ o = cc in ap update_word f
update_is w.MulAssign o e = let f : update_op.Mul ≡ o = cc in ap update_word f
update_is w.DivAssign o e = let f : update_op.Div ≡ o = cc in ap update_word f
update_is w.RemAssign o e = let f : update_op.Rem ≡ o = cc in ap update_word f
update_is _ o e = cc

abbrev pub step_word : StepOp → Word
step_word step_op.Increment = w.Increment
step_word step_op.Decrement = w.Decrement

pub step_spelled : (o : StepOp) → spell_step_op o ≡ sign (step_word o)
step_spelled step_op.Increment = refl
step_spelled step_op.Decrement = refl

pub step_sign : (o : StepOp) → place_sign (step_word o) ≡ place.Step o
step_sign step_op.Increment = refl
step_sign step_op.Decrement = refl

pub step_is : (word : Word) (o : StepOp) → place_sign word ≡ place.Step o → word ≡ step_word o
step_is w.Increment o e = let f : step_op.Increment ≡ o = cc in ap step_word f
step_is w.Decrement o e = let f : step_op.Decrement ≡ o = cc in ap step_word f
step_is _ o e = cc

pub infer_is : (word : Word) → place_sign word ≡ place.Infer → word ≡ w.Declare
infer_is w.Declare e = refl
infer_is _ e = cc

pub assign_is : (word : Word) → place_sign word ≡ place.Assign → word ≡ w.Assign
assign_is w.Assign e = refl
assign_is _ e = cc

name_in_is : (word : Word) (ts : List Token) (x : List ℕ × List Token) → name_in word ts ≡ Some x → (word ≡ w.Name x.0) × (ts ≡ x.1)
name_in_is (w.Name n) ts x e = let same : (n, ts) ≡ x = cc in (ap (λ (u : List ℕ × List Token). w.Name u.0) same, ap (λ (u : List ℕ × List Token). u.1) same)
name_in_is _ ts x e = cc

pub sign_name : (a : List Token) (x : List ℕ × List Token) → name_at a ≡ Some x → Sign (w.Name x.0) a x.1
sign_name [] x e = cc
sign_name (t ∷ ts) x e =
    let is = name_in_is t.word ts x e in
    subst (λ u. Sign (w.Name x.0) (t ∷ ts) u) is.1 (sign_at (w.Name x.0) t ts is.0)

pub name_finds : (n : List ℕ) (ts rest : List Token) → Sign (w.Name n) ts rest → name_at ts ≡ Some (n, rest)
name_finds n ts rest f = ap name_at f.1

pub record IsExpr (most : ℕ) (e : Tree) (ts rest : List Token) : Type 0 where
  pub shaped : Shaped e
  pub spelled : Spelled (spell e) ts rest
  pub low : over e ≤ most
  pub ends : ahead rest ≡ 0

pub expr_sound : (most : ℕ) (ts : List Token) (x : Tree × List Token) → expression most 1 ts ≡ Some x → IsExpr most x.0 ts x.1
expr_sound most ts x e =
    let f = found most 1 ts x.0 x.1 (omega arith) (omega arith) e in
    record { shaped = f.0; spelled = of_expr x.0 f.1; low = omega (arith, f.2); ends = omega (arith, f.4) }

pub expr_finds : (e : Tree) (most : ℕ) (ts rest : List Token) → Shaped e → Spelled (spell e) ts rest → over e ≤ most → ahead rest ≡ 0 → expression most 1 ts ≡ Some (e, rest)
expr_finds e most ts rest sh sp hi ah = finds e most 1 ts rest sh (expr_of e sp) (omega arith) (level_one e) (omega arith)
