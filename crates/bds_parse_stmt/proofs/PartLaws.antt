-- Functions, includes and the parts of a script are read, both ways.
use Rattle.std.proofs.Common.{◌≡◌, ◌≢◌, ℕ, ◌+◌, ◌<◌, ◌≤◌, Bool, true, false, List, [], ◌∷◌, ◌++◌, length, Some, None, refl, sym, ap, ◌∙◌, subst, arith, true≢false, ◌⊎◌, ⊎_elim, inl, inr}
use Rattle.std.specs.Prelude.{◌||◌}
use Rattle.std.specs.List.{AllByRecursion}
use Rattle.bds_value.specs.declared.value.At.{At}
use Rattle.bds_value.specs.declared.value.Ty.{Ty, out-Ty}
use Rattle.bds_value.specs.declared.value.Ty.TheVariants as ty
use Rattle.bds_value.proofs.Folds.{ty_fold-Bool, ty_fold-Int, ty_fold-Text, ty_fold-Void}
use Rattle.bds_value.proofs.Induction.{ty_induction}
use Rattle.bds_value.specs.Fields.{solid_step, is_solid, nesting_step, nesting}
use Rattle.bds_value.specs.Types.{is_void_at}
use Rattle.bds_value.specs.Options.{◌>>=◌}
use Rattle.bds_tree.specs.declared.token.Word.{Word}
use Rattle.bds_tree.specs.declared.token.Word.TheVariants as w
use Rattle.bds_tree.specs.declared.token.Token.{Token}
use Rattle.bds_tree.specs.declared.token.Piece.{Piece}
use Rattle.bds_tree.specs.declared.stmt.Include.{Include}
use Rattle.bds_tree.specs.declared.stmt.Parameter.{Parameter}
use Rattle.bds_tree.specs.Spelling.{Mark, any, sign}
use Rattle.bds_tree.specs.StmtTree.{StmtTree, LineTree, stmt, line, declare, no_right, FunctionTree, PartTree, a_function, an_include, a_statement}
use Rattle.bds_tree.specs.StmtShape.{is_result, is_plain, IsParameterShaped, IsFunctionShaped, IsIncludeShaped, IsPartShaped, parameters_height, part_height, parts_height}
use Rattle.bds_tree.specs.StmtSpelling.{type_step, spell_type, spell_name, spell_block, spell_parameter, spell_more_parameters, spell_parameters, spell_function, spell_include, spell_stmt, spell_part, spell_parts, line_ends_in_brace}
use Rattle.bds_parse_expr.specs.Spells.{token, Sign, Starts}
use Rattle.bds_parse_expr.specs.Reading.{Read, behind, name_at, line_ahead}
use Rattle.bds_parse_expr.proofs.Fronts.{Nonempty}
use Rattle.bds_parse_expr.proofs.Steps.{bind_some, if_true, if_false}
use Rattle.bds_parse_expr.proofs.Sound.{bind_ok, some_same, sign_at, chosen}
use Rattle.bds_parse_stmt_parts.specs.declared.words.Sign.TheVariants as s
use Rattle.bds_parse_stmt_parts.specs.declared.words.HeadKind.TheVariants as head_kinds
use Rattle.bds_parse_stmt_parts.specs.declared.words.LineKind.TheVariants as line_kinds
use Rattle.bds_parse_stmt_parts.specs.declared.words.StmtKind.TheVariants as stmt_kinds
use Rattle.bds_parse_stmt_parts.specs.Words.{is_sign, is_include, sign_ahead, stmt_kind, line_kind, head_kind, line_end}
use Rattle.bds_parse_stmt_parts.specs.Types.{plain_type, type_at, result_by, result_at}
use Rattle.bds_parse_stmt_parts.specs.Heads.{HeadTree, declares}
use Rattle.bds_parse_stmt_parts.specs.Reading.{here, many_onto, declared, head_by, line_by_kind, statement_by_kind, right_by, line_by_head, reads, statement, block}
use Rattle.bds_parse_stmt.specs.Parts.{parameter, next_parameter, parameters, function_front, function_rest, all_plain, include_by, include_rest, function_by, function_or_stmt, next_part}
use Rattle.bds_parse_stmt_parts.proofs.Fronting.{Spelled, join, cut, nothing, nothing_is, one, one_is, begun, unbegun, longer, behind_any, begun_nonempty, spelled_shorter, first_is, first_starts}
use Rattle.bds_parse_stmt_parts.proofs.Many.{Chain, Takes, onto_sound, onto_finds}
use Rattle.bds_parse_stmt_parts.proofs.SignLaws.{sign_name, behind_sound, behind_finds, ahead_is, not_true, none_of, sign_is, name_finds}
use Rattle.bds_parse_stmt_parts.proofs.TypeLaws.{type_sound, type_finds, type_more}
use Rattle.bds_parse_stmt_body.proofs.StmtFirst.{BeginsNothing, no_stmt, no_else}
use Rattle.bds_parse_stmt_body.proofs.BlockSound.{else_ahead}
use Rattle.bds_parse_stmt_body.proofs.StmtSound.{sound, block_sound}
use Rattle.bds_parse_stmt_body.proofs.StmtComplete.{stmt_spelled, stmt_finds, block_finds}

-- parameters

record IsParameter (p : Parameter) (ts rest : List Token) : Type 0 where
  shaped : IsParameterShaped p
  spelled : Spelled (spell_parameter p) ts rest
  low : nesting p.ty ≤ 200

parameter_sound : (ts : List Token) (x : Parameter × List Token) → parameter ts ≡ Some x → IsParameter x.0 ts x.1
parameter_sound ts x e =
    let t = bind_ok _ _ _ e in
    let n = bind_ok _ _ _ t.2 in
    let f = type_sound 201 ts t.0 t.1 in
    let same : (record { ty = t.0.0; name = n.0.0 }, n.0.1) ≡ x = some_same _ _ n.2 in
    subst (λ (y : Parameter × List Token). IsParameter y.0 ts y.1) same
    (record { shaped = f.written; spelled = join f.spelled (one (sign_name t.0.1 n.0 n.1)); low = omega (arith, f.low) })

parameter_finds : (p : Parameter) (ts rest : List Token) → IsParameterShaped p → Spelled (spell_parameter p) ts rest → nesting p.ty ≤ 200 → parameter ts ≡ Some (p, rest)
parameter_finds p ts rest sh sp hi =
    let c = cut (spell_type p.ty) (spell_name p.name) sp in
    let name = one_is (w.Name p.name) c.back in
    bind_some _ (p.ty, c.mid) _ _ (type_finds p.ty 201 p.name ts c.mid rest sh c.front (omega arith) name) (bind_some _ (p.name, rest) _ _ (name_finds p.name c.mid rest name) refl)

parameter_spelled : (p : Parameter) → Nonempty (spell_parameter p)
parameter_spelled p = behind_any (spell_type p.ty) (spell_name p.name) (any (w.Name p.name), [], refl)

abbrev IsNext : Parameter → List Token → List Token → Type 0
IsNext p ts rest = (mid : List Token) × Sign w.Comma ts mid × IsParameter p mid rest

next_sound : (ts : List Token) (x : Parameter × List Token) → next_parameter ts ≡ Some (Some x) → IsNext x.0 ts x.1
next_sound ts x e =
    ⊎_elim
    (λ (p : (sign_ahead s.Comma ts ≡ true) × ((behind (is_sign s.Comma) ts >>= λ a. parameter a >>= λ x. Some (Some x)) ≡ Some (Some x))).
    let a = bind_ok _ _ _ p.1 in
    let r = bind_ok _ _ _ a.2 in
    let f = parameter_sound a.0 r.0 r.1 in
    let same : r.0 ≡ x = some_same _ _ (some_same _ _ r.2) in
    subst (λ (y : Parameter × List Token). IsNext y.0 ts y.1) same (a.0, behind_sound s.Comma ts a.0 a.1, f))
    (λ (p : (sign_ahead s.Comma ts ≡ false) × (Some None ≡ Some (Some x))). let q = some_same _ _ p.1 in cc)
    (chosen _ _ _ _ e)

record AreMore (ps : List Parameter) (ts rest : List Token) : Type 0 where
  shaped : AllByRecursion IsParameterShaped ps
  spelled : Spelled (spell_more_parameters ps) ts rest
  low : parameters_height ps ≤ 200

more_sound : (ps : List Parameter) (ts mid rest : List Token) → Chain IsNext ps ts mid → Sign w.CloseRound mid rest → AreMore ps ts rest
more_sound [] ts mid rest c close = record { shaped = tt; spelled = subst (λ u. Spelled (sign w.CloseRound) u rest) (sym c) (one close); low = omega arith }
more_sound (p ∷ ps) ts mid rest c close =
    let r = more_sound ps c.0 mid rest c.2 close in
    record { shaped = (c.1.2.shaped, r.shaped); spelled = join (one c.1.1) (join c.1.2.spelled r.spelled); low = omega (arith, c.1.2.low, r.low) }

record AreParameters (ps : List Parameter) (ts rest : List Token) : Type 0 where
  shaped : AllByRecursion IsParameterShaped ps
  spelled : Spelled (spell_parameters ps) ts rest
  low : parameters_height ps ≤ 200

parameters_sound : (ts : List Token) (x : List Parameter × List Token) → parameters ts ≡ Some x → AreParameters x.0 ts x.1
parameters_sound ts x e =
    ⊎_elim
    (λ (p : (sign_ahead s.CloseRound ts ≡ true) × ((behind (is_sign s.CloseRound) ts >>= λ rest. Some ([], rest)) ≡ Some x)).
    let b = bind_ok _ _ _ p.1 in
    let same : ([], b.0) ≡ x = some_same _ _ b.2 in
    subst (λ (y : List Parameter × List Token). AreParameters y.0 ts y.1) same (record { shaped = tt; spelled = one (behind_sound s.CloseRound ts b.0 b.1); low = omega arith }))
    (λ (p : (sign_ahead s.CloseRound ts ≡ false) × ((parameter ts >>= λ x. many_onto next_parameter (x.0 ∷ []) x.1 >>= λ xs. behind (is_sign s.CloseRound) xs.1 >>= λ rest. Some (xs.0, rest)) ≡ Some x)).
    let first = bind_ok _ _ _ p.1 in
    let later = bind_ok _ _ _ first.2 in
    let closing = bind_ok _ _ _ later.2 in
    let f = parameter_sound ts first.0 first.1 in
    let m = onto_sound next_parameter IsNext next_sound (first.0.0 ∷ []) first.0.1 later.0 later.1 in
    let r = more_sound m.0 first.0.1 later.0.1 closing.0 m.2.chain (behind_sound s.CloseRound later.0.1 closing.0 closing.1) in
    let same : (later.0.0, closing.0) ≡ x = some_same _ _ closing.2 in
    subst (λ (y : List Parameter × List Token). AreParameters y.0 ts y.1) same
    (subst (λ us. AreParameters us ts closing.0) (sym m.1) (record { shaped = (f.shaped, r.shaped); spelled = join f.spelled r.spelled; low = omega (arith, f.low, r.low) })))
    (chosen _ _ _ _ e)

more_finds : (ps : List Parameter) (ts rest : List Token) → AllByRecursion IsParameterShaped ps → Spelled (spell_more_parameters ps) ts rest → parameters_height ps ≤ 200 → (mid : List Token) × Chain (Takes next_parameter) ps ts mid × Sign w.CloseRound mid rest
more_finds [] ts rest sh sp hi = (ts, refl, one_is w.CloseRound sp)
more_finds (p ∷ ps) ts rest sh sp hi =
    let c = cut (sign w.Comma) (spell_parameter p ++ spell_more_parameters ps) sp in
    let d = cut (spell_parameter p) (spell_more_parameters ps) c.back in
    let comma = one_is w.Comma c.front in
    let r = more_finds ps d.mid rest sh.1 d.back (omega arith) in
    let read = parameter_finds p c.mid d.mid sh.0 d.front (omega arith) in
    let taken : next_parameter ts ≡ Some (Some (p, d.mid)) =
    if_true _ _ _ _ (ahead_is s.Comma true w.Comma ts c.mid comma refl) (bind_some _ c.mid _ _ (behind_finds s.Comma ts c.mid comma) (bind_some _ (p, d.mid) _ _ read refl)) in
    (r.0, (d.mid, (taken, omega (arith, ap length comma.1, spelled_shorter (spell_parameter p) c.mid d.mid (parameter_spelled p) d.front)), r.1), r.2)

parameter_open : (ts : List Token) (x : Parameter × List Token) → parameter ts ≡ Some x → sign_ahead s.CloseRound ts ≡ false
parameter_open [] x e = refl
parameter_open (t ∷ ts) x e =
    let u = bind_ok _ _ _ e in
    let p = bind_ok _ _ _ u.1 in
    by_word t.word p.0 p.1
  where
    by_word : (v : Word) (y : Ty) → plain_type v ≡ Some y → is_sign s.CloseRound v ≡ false
    by_word w.CloseRound y f = cc
    by_word _ y f = refl

parameters_find : (ps : List Parameter) (ts rest : List Token) → AllByRecursion IsParameterShaped ps → Spelled (spell_parameters ps) ts rest → parameters_height ps ≤ 200 → parameters ts ≡ Some (ps, rest)
parameters_find [] ts rest sh sp hi =
    let close = one_is w.CloseRound sp in
    if_true _ _ _ _ (ahead_is s.CloseRound true w.CloseRound ts rest close refl) (bind_some _ rest _ _ (behind_finds s.CloseRound ts rest close) refl)
parameters_find (p ∷ ps) ts rest sh sp hi =
    let d = cut (spell_parameter p) (spell_more_parameters ps) sp in
    let read = parameter_finds p ts d.mid sh.0 d.front (omega arith) in
    let m = more_finds ps d.mid rest sh.1 d.back (omega arith) in
    if_false _ _ _ _ (parameter_open ts (p, d.mid) read)
    (bind_some _ (p, d.mid) _ _ read
    (bind_some _ (p ∷ ps, m.0) _ _ (onto_finds next_parameter (p ∷ []) ps d.mid m.0 m.1 (if_false _ _ _ _ (ahead_is s.Comma false w.CloseRound m.0 rest m.2 refl) refl))
    (bind_some _ rest _ _ (behind_finds s.CloseRound m.0 rest m.2) refl)))

-- results

record IsResult (t : Ty) (ts rest : List Token) : Type 0 where
  result : is_result t ≡ true
  spelled : Spelled (spell_type t) ts rest
  low : nesting t ≤ 200

or_true : (b c : Bool) → c ≡ true → (b || c) ≡ true
or_true true c e = refl
or_true false c e = e

result_sound : (ts : List Token) (x : Ty × List Token) → result_at 201 ts ≡ Some x → IsResult x.0 ts x.1
result_sound [] x e = cc
result_sound (t ∷ ts) x e = by_word t.word refl e
  where
    typed : type_at 201 (t ∷ ts) ≡ Some x → IsResult x.0 (t ∷ ts) x.1
    typed f = let r = type_sound 201 (t ∷ ts) x f in record { result = or_true (is_void_at (out-Ty x.0)) (is_solid x.0) r.written; spelled = r.spelled; low = omega (arith, r.low) }

    by_word : (u : Word) → t.word ≡ u → result_by u ts (type_at 201 (t ∷ ts)) ≡ Some x → IsResult x.0 (t ∷ ts) x.1
    by_word w.Void is f =
        subst (λ (y : Ty × List Token). IsResult y.0 (t ∷ ts) y.1) (some_same _ _ f)
        (record { result = ap (λ o. is_void_at o || is_solid ty.Void) ty.outs-Void; spelled = subst (λ ms. Spelled ms (t ∷ ts) ts) (sym (ty_fold-Void type_step)) (one (sign_at w.Void t ts is)); low = omega (arith, ty_fold-Void nesting_step) })
    by_word _ is f = typed f

result_type : (ts : List Token) (x : Ty × List Token) → type_at 201 ts ≡ Some x → result_at 201 ts ≡ Some x
result_type [] x e = cc
result_type (t ∷ ts) x e = by_word t.word refl
  where
    by_word : (u : Word) → t.word ≡ u → result_by u ts (type_at 201 (t ∷ ts)) ≡ Some x
    by_word w.Void is = let p = bind_ok _ _ _ e in let f : plain_type w.Void ≡ Some p.0 = sym (ap plain_type is) ∙ p.1 in cc
    by_word _ is = e

abbrev IsKnown : Ty → Type 0
IsKnown t = is_result t ≡ true → (t ≡ ty.Void) ⊎ (is_solid t ≡ true)

known : (t : Ty) → IsKnown t
known = ty_induction IsKnown (λ e. inr (ty_fold-Bool solid_step)) (λ e. inr (ty_fold-Int solid_step)) (λ e. inr (ty_fold-Text solid_step))
    (λ t h e. inr (sym (ap (λ o. is_void_at o || is_solid (ty.List t)) (ty.outs-List t)) ∙ e))
    (λ t h e. inr (sym (ap (λ o. is_void_at o || is_solid (ty.Map t)) (ty.outs-Map t)) ∙ e)) (λ e. inl refl)

result_finds : (t : Ty) (n : List ℕ) (ts us rest : List Token) → is_result t ≡ true → Spelled (spell_type t) ts us → nesting t ≤ 200 → Sign (w.Name n) us rest → result_at 201 ts ≡ Some (t, us)
result_finds t n ts us rest r sp hi name =
    ⊎_elim
    (λ (v : t ≡ ty.Void).
    let word : Sign w.Void ts us = one_is w.Void (subst (λ ms. Spelled ms ts us) (ap spell_type v ∙ ty_fold-Void type_step) sp) in
    ap (result_at 201) word.1 ∙ ap (λ u. Some (u, us)) (sym v))
    (λ (wr : is_solid t ≡ true). result_type ts (t, us) (type_finds t 201 n ts us rest wr sp (omega arith) name))
    (known t r)

-- functions

record IsFront (t : Ty) (n : List ℕ) (ts rest : List Token) : Type 0 where
  result : is_result t ≡ true
  spelled : (ms : List Mark) (end : List Token) → Spelled ms rest end → Spelled (spell_type t ++ (spell_name n ++ (sign w.OpenRound ++ ms))) ts end
  starts : Starts (line_ahead ts) ts
  low : nesting t ≤ 200

result_starts : (ts : List Token) (x : Ty × List Token) → result_at 201 ts ≡ Some x → Starts (line_ahead ts) ts
result_starts [] x e = cc
result_starts (t ∷ ts) x e = first_starts t ts

front_sound : (ts : List Token) (x : (Ty × List ℕ) × List Token) → function_front ts ≡ Some x → IsFront x.0.0 x.0.1 ts x.1
front_sound ts x e =
    let t = bind_ok _ _ _ e in
    let n = bind_ok _ _ _ t.2 in
    let b = bind_ok _ _ _ n.2 in
    let f = result_sound ts t.0 t.1 in
    let same : ((t.0.0, n.0.0), b.0) ≡ x = some_same _ _ b.2 in
    subst (λ (y : (Ty × List ℕ) × List Token). IsFront y.0.0 y.0.1 ts y.1) same
    (record {
      result = f.result;
      spelled = λ ms end g. join f.spelled (join (one (sign_name t.0.1 n.0 n.1)) (join (one (behind_sound s.OpenRound n.0.1 b.0 b.1)) g));
      starts = result_starts ts t.0 t.1;
      low = f.low;
    })

abbrev flagged : Bool → PartTree → List Mark
flagged b (a_function f) = spell_function f
flagged b (an_include i) = spell_include i
flagged b (a_statement x) = spell_stmt x b

record IsPart (p : PartTree) (ts rest : List Token) : Type 0 where
  shaped : IsPartShaped p
  spelled : Spelled (flagged (else_ahead rest) p) ts rest
  low : part_height p ≤ 200
  free : else_ahead ts ≡ false

record IsFunction (f : FunctionTree) (ts rest : List Token) : Type 0 where
  shaped : IsFunctionShaped f
  spelled : Spelled (spell_function f) ts rest
  low : part_height (a_function f) ≤ 200

function_sound : (t : Ty) (n : List ℕ) (ts mid : List Token) (x : FunctionTree × List Token) → IsFront t n ts mid → function_rest (line_ahead ts) t n mid ≡ Some x → IsFunction x.0 ts x.1
function_sound t n ts mid x f e =
    let ps = bind_ok _ _ _ e in
    let b = bind_ok _ _ _ ps.2 in
    let g = parameters_sound mid ps.0 ps.1 in
    let h = block_sound 201 ps.0.1 b.0 b.1 in
    let same : (record { at = here (line_ahead ts); result = t; name = n; parameters = ps.0.0; body = b.0.0 }, b.0.1) ≡ x = some_same _ _ b.2 in
    subst (λ (y : FunctionTree × List Token). IsFunction y.0 ts y.1) same
    (record {
      shaped = (refl, f.result, g.shaped, h.shaped);
      spelled = begun (line_ahead ts) f.starts (f.spelled _ _ (join g.spelled h.spelled));
      low = omega (arith, f.low, g.low, h.low);
    })

at_is : (at : At) (l : ℕ) → at.file ≡ 0 → l ≡ at.line → here l ≡ at
at_is at l f g = ap (λ k. record { file = 0; line = k }) g ∙ ap (λ k. record { file = k; line = at.line }) (sym f)

function_finds : (f : FunctionTree) (ts rest : List Token) → IsFunctionShaped f → Spelled (spell_function f) ts rest → part_height (a_function f) ≤ 200 → function_or_stmt ts ≡ Some (a_function f, rest)
function_finds f ts rest sh sp hi =
    let u = unbegun f.at.line (spell_type f.result ++ (spell_name f.name ++ (sign w.OpenRound ++ (spell_parameters f.parameters ++ spell_block f.body))))
    (behind_any (spell_type f.result) (spell_name f.name ++ (sign w.OpenRound ++ (spell_parameters f.parameters ++ spell_block f.body))) (any (w.Name f.name), sign w.OpenRound ++ (spell_parameters f.parameters ++ spell_block f.body), refl)) sp in
    let c1 = cut (spell_type f.result) (spell_name f.name ++ (sign w.OpenRound ++ (spell_parameters f.parameters ++ spell_block f.body))) u.1 in
    let c2 = cut (spell_name f.name) (sign w.OpenRound ++ (spell_parameters f.parameters ++ spell_block f.body)) c1.back in
    let c3 = cut (sign w.OpenRound) (spell_parameters f.parameters ++ spell_block f.body) c2.back in
    let c4 = cut (spell_parameters f.parameters) (spell_block f.body) c3.back in
    let name = one_is (w.Name f.name) c2.front in
    let front : function_front ts ≡ Some ((f.result, f.name), c3.mid) =
    bind_some _ (f.result, c1.mid) _ _ (result_finds f.result f.name ts c1.mid c2.mid sh.1 c1.front (omega arith) name)
    (bind_some _ (f.name, c2.mid) _ _ (name_finds f.name c1.mid c2.mid name) (bind_some _ c3.mid _ _ (behind_finds s.OpenRound c2.mid c3.mid (one_is w.OpenRound c3.front)) refl)) in
    ap (function_by ts) front
    ∙ bind_some _ (f, rest) _ _
    (bind_some _ (f.parameters, c4.mid) _ _ (parameters_find f.parameters c3.mid c4.mid sh.2 c4.front (omega arith))
    (bind_some _ (f.body, rest) _ _ (block_finds f.body 201 c4.mid rest sh.3 c4.back (omega arith))
    (ap (λ a. Some (record { at = a; result = f.result; name = f.name; parameters = f.parameters; body = f.body }, rest)) (at_is f.at (line_ahead ts) sh.0 (first_is f.at.line ts u.0))))) refl

-- a statement doesn't begin as a function does

type_word : (u : Word) (t : Ty) → plain_type u ≡ Some t → (stmt_kind u ≡ stmt_kinds.Line) × (line_kind u ≡ line_kinds.Head) × (head_kind u ≡ head_kinds.Type)
type_word w.Bool t e = (refl, refl, refl)
type_word w.Int t e = (refl, refl, refl)
type_word w.String t e = (refl, refl, refl)
type_word _ t e = cc

void_begins : BeginsNothing w.Void
void_begins = record { stmt = refl; line = refl; head = refl; expr = refl }

abbrev Typed : Token → Type 0
Typed t = (stmt_kind t.word ≡ stmt_kinds.Line) × (line_kind t.word ≡ line_kinds.Head) × (head_kind t.word ≡ head_kinds.Type)

abbrev ended : ℕ → LineTree × List Token → Read StmtTree
ended l y = line_end (line_ends_in_brace y.0) y.1 >>= λ rest. Some (stmt (here l) (line y.0), rest)

abbrev by_head : HeadTree × List Token → Read LineTree
by_head h = line_by_head (right_by 200 (block 200)) h.0 h.1

-- a statement that begins with a type
typed_stmt : (t : Token) (us : List Token) → Typed t → statement 201 (t ∷ us) ≡ ((declared 200 (t ∷ us) >>= by_head) >>= ended t.line)
unfolding reads
typed_stmt t us k =
    ap (λ j. statement_by_kind 200 (block 200) (statement 200) t.line j (t ∷ us) us) k.0
    ∙ ap (λ j. line_by_kind 200 (block 200) j (t ∷ us) us >>= ended t.line) k.1
    ∙ ap (λ j. (head_by 200 j (t ∷ us) us >>= by_head) >>= ended t.line) k.2

-- what stands behind `type name`, where a `(` comes
typed_none : (t : Token) (us a b : List Token) (x : Ty × List Token) (n : List ℕ) → type_at 201 (t ∷ us) ≡ Some x → name_at x.1 ≡ Some (n, a) → Sign w.OpenRound a b → statement 201 (t ∷ us) ≡ None
typed_none t us a b x n read name opened =
    let p = bind_ok (plain_type t.word) _ _ read in
    typed_stmt t us (type_word t.word p.0 p.1) ∙ by_type (type_at 200 (t ∷ us)) refl
  where
    by_type : (r : Read Ty) → type_at 200 (t ∷ us) ≡ r → ((declared 200 (t ∷ us) >>= by_head) >>= ended t.line) ≡ None
    by_type None e = ap (λ (q : Read Ty). ((q >>= λ y. name_at y.1 >>= λ m. Some (declares y.0 m.0, m.1)) >>= by_head) >>= ended t.line) e
    by_type (Some y) e =
        let same : y ≡ x = some_same _ _ (sym (type_more 200 (t ∷ us) y e) ∙ read) in
        let named : name_at y.1 ≡ Some (n, a) = ap (λ (z : Ty × List Token). name_at z.1) same ∙ name in
        let assign : sign_ahead s.Assign a ≡ false = ahead_is s.Assign false w.OpenRound a b opened refl in
        let head_read : declared 200 (t ∷ us) ≡ Some (declares y.0 n, a) = bind_some _ y _ _ e (bind_some _ (n, a) _ _ named refl) in
        let line_read : by_head (declares y.0 n, a) ≡ Some (declare y.0 n no_right, a) = bind_some _ (None, a) _ _ (if_false _ _ _ _ assign refl) refl in
        ap (λ q. (q >>= by_head) >>= ended t.line) head_read ∙ ap (λ q. q >>= ended t.line) line_read
        ∙ ap (λ q. q >>= λ rest. Some (stmt (here t.line) (line (declare y.0 n no_right)), rest)) (ap (line_end false) opened.1)

no_front : (ts : List Token) (y : StmtTree × List Token) → statement 201 ts ≡ Some y → function_front ts ≡ None
no_front [] y e = refl
no_front (t ∷ us) y e = none_of _ (λ x f. against x f)
  where
    against : (x : (Ty × List ℕ) × List Token) → function_front (t ∷ us) ≡ Some x → ⊥
    against x f =
        let r = bind_ok _ _ _ f in
        let n = bind_ok _ _ _ r.2 in
        let b = bind_ok _ _ _ n.2 in
        by_word t.word refl r.0 n.0 b.0 r.1 n.1 (behind_sound s.OpenRound n.0.1 b.0 b.1)
      where
        by_word : (u : Word) → t.word ≡ u → (r : Ty × List Token) (n : List ℕ × List Token) (b : List Token) → result_by u us (type_at 201 (t ∷ us)) ≡ Some r → name_at r.1 ≡ Some n → Sign w.OpenRound n.1 b → ⊥
        by_word w.Void is r n b g name opened = no_stmt 201 t us y (subst BeginsNothing (sym is) void_begins) e
        by_word _ is r n b g name opened = let z = typed_none t us n.1 b r n.0 g name opened in let q : None ≡ Some y = sym z ∙ e in cc

-- includes

plain_all : (ps : List Piece) → all_plain ps ≡ true → AllByRecursion (λ p. is_plain p ≡ true) ps
plain_all [] e = tt
plain_all (p ∷ ps) e =
    ⊎_elim
    (λ (q : (is_plain p ≡ true) × (all_plain ps ≡ true)). (q.0, plain_all ps q.1))
    (λ (q : (is_plain p ≡ false) × (false ≡ true)). absurd (true≢false (sym q.1)))
    (chosen _ _ _ _ e)

all_plain_by : (ps : List Piece) → AllByRecursion (λ p. is_plain p ≡ true) ps → all_plain ps ≡ true
all_plain_by [] h = refl
all_plain_by (p ∷ ps) h = if_true _ _ _ _ h.0 (all_plain_by ps h.1)

record IsInclude (i : Include) (t : Token) (ts rest : List Token) : Type 0 where
  shaped : IsIncludeShaped i
  spelled : Spelled (spell_include i) (t ∷ ts) rest

include_sound : (t : Token) (ts : List Token) (x : Include × List Token) → t.word ≡ w.Include → include_rest t.line ts ≡ Some x → IsInclude x.0 t ts x.1
include_sound t [] x is e = cc
include_sound t (u ∷ us) x is e = by_word u.word refl e
  where
    by_word : (v : Word) → u.word ≡ v → include_by t.line v us ≡ Some x → IsInclude x.0 t (u ∷ us) x.1
    by_word (w.Text ps) at f =
        ⊎_elim
        (λ (p : (all_plain ps ≡ true) × ((behind (is_sign s.Semicolon) us >>= λ rest. Some (record { at = here t.line; path = ps }, rest)) ≡ Some x)).
        let b = bind_ok _ _ _ p.1 in
        let same : (record { at = here t.line; path = ps }, b.0) ≡ x = some_same _ _ b.2 in
        subst (λ (y : Include × List Token). IsInclude y.0 t (u ∷ us) y.1) same
        (record { shaped = (refl, plain_all ps p.0); spelled = begun t.line (first_starts t (u ∷ us)) (join (one (sign_at w.Include t (u ∷ us) is)) (join (one (sign_at (w.Text ps) u us at)) (one (behind_sound s.Semicolon us b.0 b.1)))) }))
        (λ (p : (all_plain ps ≡ false) × (None ≡ Some x)). let q = p.1 in cc)
        (chosen _ _ _ _ f)
    by_word _ at f = cc

include_finds : (i : Include) (ts rest : List Token) → IsIncludeShaped i → Spelled (spell_include i) ts rest → next_part ts ≡ Some (Some (an_include i, rest))
include_finds i ts rest sh sp =
    let u = unbegun i.at.line (sign w.Include ++ (sign (w.Text i.path) ++ sign w.Semicolon)) (any w.Include, sign (w.Text i.path) ++ sign w.Semicolon, refl) sp in
    let c = cut (sign w.Include) (sign (w.Text i.path) ++ sign w.Semicolon) u.1 in
    let d = cut (sign (w.Text i.path)) (sign w.Semicolon) c.back in
    let first = one_is w.Include c.front in
    let path = one_is (w.Text i.path) d.front in
    let line : here first.0 ≡ i.at = at_is i.at first.0 sh.0 (sym (ap line_ahead first.1) ∙ first_is i.at.line ts u.0) in
    ap next_part (first.1 ∙ ap (λ v. token first.0 w.Include ∷ v) path.1)
    ∙ bind_some _ (i, rest) _ _
    (if_true _ _ _ _ (all_plain_by i.path sh.1) (bind_some _ rest _ _ (behind_finds s.Semicolon d.mid rest (one_is w.Semicolon d.back)) (ap (λ a. Some (record { at = a; path = i.path }, rest)) line))) refl

include_is : (word : Word) → is_include word ≡ true → word ≡ w.Include
include_is w.Include e = refl
include_is _ e = cc

-- parts

free_part : (ts : List Token) (x : PartTree × List Token) → next_part ts ≡ Some (Some x) → else_ahead ts ≡ false
free_part [] x e = refl
free_part (t ∷ us) x e = not_true _ (λ yes. against (sign_is s.Else t.word yes))
  where
    against : t.word ≡ w.Else → ⊥
    against is =
        let f : next_part (token t.line w.Else ∷ us) ≡ Some (Some x) = subst (λ v. next_part (token t.line v ∷ us) ≡ Some (Some x)) is e in
        let p = bind_ok _ _ _ f in
        let q = bind_ok _ _ _ p.1 in
        true≢false (no_else 201 (token t.line w.Else ∷ us) q.0 q.1)

stmt_part : (ts : List Token) (x : PartTree × List Token) → else_ahead ts ≡ false → function_or_stmt ts ≡ Some x → IsPart x.0 ts x.1
stmt_part ts x free e = go (function_front ts) refl e
  where
    go : (o : Read (Ty × List ℕ)) → function_front ts ≡ o → function_by ts o ≡ Some x → IsPart x.0 ts x.1
    go None f g =
        let r = bind_ok _ _ _ g in
        let q = sound 201 ts r.0 r.1 in
        let same : (a_statement r.0.0, r.0.1) ≡ x = some_same _ _ r.2 in
        subst (λ (y : PartTree × List Token). IsPart y.0 ts y.1) same (record { shaped = q.shaped; spelled = q.spelled; low = omega (arith, q.low); free = free })
    go (Some y) f g =
        let r = bind_ok _ _ _ g in
        let q = function_sound y.0.0 y.0.1 ts y.1 r.0 (front_sound ts y f) r.1 in
        let same : (a_function r.0.0, r.0.1) ≡ x = some_same _ _ r.2 in
        subst (λ (y : PartTree × List Token). IsPart y.0 ts y.1) same (record { shaped = q.shaped; spelled = q.spelled; low = q.low; free = free })

part_sound : (ts : List Token) (x : PartTree × List Token) → next_part ts ≡ Some (Some x) → IsPart x.0 ts x.1
part_sound [] x e = let f = some_same _ _ e in cc
part_sound (t ∷ ts) x e =
    let free = free_part (t ∷ ts) x e in
    ⊎_elim
    (λ (p : (is_include t.word ≡ true) × ((include_rest t.line ts >>= λ x. Some (Some (an_include x.0, x.1))) ≡ Some (Some x))).
    let r = bind_ok _ _ _ p.1 in
    let q = include_sound t ts r.0 (include_is t.word p.0) r.1 in
    let same : (an_include r.0.0, r.0.1) ≡ x = some_same _ _ (some_same _ _ r.2) in
    subst (λ (y : PartTree × List Token). IsPart y.0 (t ∷ ts) y.1) same (record { shaped = q.shaped; spelled = q.spelled; low = omega arith; free = free }))
    (λ (p : (is_include t.word ≡ false) × ((function_or_stmt (t ∷ ts) >>= λ x. Some (Some x)) ≡ Some (Some x))).
    let r = bind_ok _ _ _ p.1 in
    let same : r.0 ≡ x = some_same _ _ (some_same _ _ r.2) in
    stmt_part (t ∷ ts) x free (r.1 ∙ ap Some same))
    (chosen _ _ _ _ e)

pub record AreParts (ps : List PartTree) (ts rest : List Token) : Type 0 where
  pub shaped : AllByRecursion IsPartShaped ps
  pub spelled : Spelled (spell_parts ps) ts rest
  pub low : parts_height ps ≤ 200
  pub free : else_ahead ts ≡ false

flag_off : (p : PartTree) → flagged false p ≡ spell_part p
flag_off (a_function f) = refl
flag_off (an_include i) = refl
flag_off (a_statement x) = refl

parts_sound : (ps : List PartTree) (ts : List Token) → Chain IsPart ps ts [] → AreParts ps ts []
parts_sound [] ts c = record { shaped = tt; spelled = subst (λ u. Spelled [] ts u) c (nothing ts); low = omega arith; free = ap else_ahead c }
parts_sound (p ∷ ps) ts c =
    let r = parts_sound ps c.0 c.2 in
    let front : Spelled (spell_part p) ts c.0 = subst (λ ms. Spelled ms ts c.0) (ap (λ b. flagged b p) r.free ∙ flag_off p) c.1.spelled in
    record { shaped = (c.1.shaped, r.shaped); spelled = join front r.spelled; low = omega (arith, c.1.low, r.low); free = c.1.free }

part_spelled : (p : PartTree) → Nonempty (spell_part p)
part_spelled (a_function f) =
    begun_nonempty f.at.line _ (behind_any (spell_type f.result) (spell_name f.name ++ (sign w.OpenRound ++ (spell_parameters f.parameters ++ spell_block f.body))) (any (w.Name f.name), sign w.OpenRound ++ (spell_parameters f.parameters ++ spell_block f.body), refl))
part_spelled (an_include i) = begun_nonempty i.at.line (sign w.Include ++ (sign (w.Text i.path) ++ sign w.Semicolon)) (any w.Include, sign (w.Text i.path) ++ sign w.Semicolon, refl)
part_spelled (a_statement x) = stmt_spelled x false

by_other : (ts rest : List Token) (p : PartTree) → (is_include_first : (t : Token) (us : List Token) → ts ≡ t ∷ us → is_include t.word ≡ false) → length rest < length ts → function_or_stmt ts ≡ Some (p, rest) → next_part ts ≡ Some (Some (p, rest))
by_other [] rest p h short e = absurd (omega arith)
by_other (t ∷ us) rest p h short e = if_false _ _ _ _ (h t us refl) (bind_some _ (p, rest) _ _ e refl)

include_begins : BeginsNothing w.Include
include_begins = record { stmt = refl; line = refl; head = refl; expr = refl }

part_finds : (p : PartTree) (ts rest : List Token) → IsPartShaped p → Spelled (spell_part p) ts rest → part_height p ≤ 200 → else_ahead rest ≡ false → next_part ts ≡ Some (Some (p, rest))
part_finds (an_include i) ts rest sh sp hi free = include_finds i ts rest sh sp
part_finds (a_function f) ts rest sh sp hi free =
    let read = function_finds f ts rest sh sp hi in
    by_other ts rest (a_function f) (λ t us is. not_true _ (λ yes. not_function t us (subst (λ u. function_or_stmt u ≡ Some (a_function f, rest)) is read) (include_is t.word yes))) (spelled_shorter (spell_function f) ts rest (part_spelled (a_function f)) sp) read
  where
    not_function : (t : Token) (us : List Token) → function_or_stmt (t ∷ us) ≡ Some (a_function f, rest) → t.word ≡ w.Include → ⊥
    not_function t us e is =
        let g : function_or_stmt (token t.line w.Include ∷ us) ≡ Some (a_function f, rest) = subst (λ v. function_or_stmt (token t.line v ∷ us) ≡ Some (a_function f, rest)) is e in
        let r = bind_ok _ _ _ g in
        no_stmt 201 (token t.line w.Include) us r.0 include_begins r.1
part_finds (a_statement x) ts rest sh sp hi free =
    let inner : Spelled (spell_stmt x (else_ahead rest)) ts rest = subst (λ b. Spelled (spell_stmt x b) ts rest) (sym free) sp in
    let read = stmt_finds x 201 ts rest sh inner (omega arith) (λ y. absurd (true≢false (sym y ∙ free))) in
    by_other ts rest (a_statement x)
    (λ t us is. not_true _ (λ yes. no_stmt 201 t us (x, rest) (subst BeginsNothing (sym (include_is t.word yes)) include_begins) (subst (λ u. statement 201 u ≡ Some (x, rest)) is read)))
    (spelled_shorter (spell_stmt x false) ts rest (stmt_spelled x false) sp)
    (ap (function_by ts) (no_front ts (x, rest) read) ∙ bind_some _ (x, rest) _ _ read refl)

record AreTaken (ps : List PartTree) (ts : List Token) : Type 0 where
  chain : Chain (Takes next_part) ps ts []
  free : else_ahead ts ≡ false

parts_take : (ps : List PartTree) (ts : List Token) → AllByRecursion IsPartShaped ps → Spelled (spell_parts ps) ts [] → parts_height ps ≤ 200 → AreTaken ps ts
parts_take [] ts sh sp hi = record { chain = nothing_is sp; free = ap else_ahead (nothing_is sp) }
parts_take (p ∷ ps) ts sh sp hi =
    let c = cut (spell_part p) (spell_parts ps) sp in
    let r = parts_take ps c.mid sh.1 c.back (omega arith) in
    let read = part_finds p ts c.mid sh.0 c.front (omega arith) r.free in
    record { chain = (c.mid, (read, spelled_shorter (spell_part p) ts c.mid (part_spelled p) c.front), r.chain); free = free_part ts (p, c.mid) read }

some_none : {A : Type 0} (x : A) → Some (Some x) ≡ Some None → ⊥
some_none x e = cc

part_end : (ts : List Token) → next_part ts ≡ Some None → ts ≡ []
part_end [] e = refl
part_end (t ∷ ts) e =
    ⊎_elim
    (λ (p : (is_include t.word ≡ true) × ((include_rest t.line ts >>= λ x. Some (Some (an_include x.0, x.1))) ≡ Some None)). let r = bind_ok (include_rest t.line ts) (λ x. Some (Some (an_include x.0, x.1))) None p.1 in absurd (some_none (an_include r.0.0, r.0.1) r.2))
    (λ (p : (is_include t.word ≡ false) × ((function_or_stmt (t ∷ ts) >>= λ x. Some (Some x)) ≡ Some None)). let r = bind_ok (function_or_stmt (t ∷ ts)) (λ x. Some (Some x)) None p.1 in absurd (some_none r.0 r.2))
    (chosen _ _ _ _ e)

pub read_sound : (ts : List Token) (x : List PartTree × List Token) → many_onto next_part [] ts ≡ Some x → AreParts x.0 ts [] × (x.1 ≡ [])
read_sound ts x e =
    let m = onto_sound next_part IsPart part_sound [] ts x e in
    let end = part_end x.1 m.2.stop in
    (subst (λ ps. AreParts ps ts []) (sym m.1) (parts_sound m.0 ts (subst (λ u. Chain IsPart m.0 ts u) end m.2.chain)), end)

pub read_finds : (ps : List PartTree) (ts : List Token) → AllByRecursion IsPartShaped ps → Spelled (spell_parts ps) ts [] → parts_height ps ≤ 200 → many_onto next_part [] ts ≡ Some (ps, [])
read_finds ps ts sh sp hi = onto_finds next_part [] ps ts [] (parts_take ps ts sh sp hi).chain refl

pub parts_nonempty : (p : PartTree) (ps : List PartTree) → Nonempty (spell_parts (p ∷ ps))
parts_nonempty p ps = longer (spell_part p) (spell_parts ps) (part_spelled p)
