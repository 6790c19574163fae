-- The code of a value that words give pushes it.
use Rattle.std.proofs.Common.{◌≡◌, ◌≤◌, ℕ, suc, ◌+◌, List, [], ◌∷◌, ◌++◌, map, length, None, refl, sym, ap, ◌∙◌, subst, arith, append_assoc, inl, inr}
use Rattle.std.specs.List.{AllByRecursion}
use Rattle.bds_value.specs.declared.TheConstants.{MAX_ITEMS}
use Rattle.bds_value.specs.declared.value.At.{At}
use Rattle.bds_value.specs.declared.value.Ty.{Ty}
use Rattle.bds_value.specs.declared.value.Ty.TheVariants as ty
use Rattle.bds_value.specs.declared.value.Value.{Value, out-Value}
use Rattle.bds_value.specs.declared.value.Value.TheVariants as value
use Rattle.bds_value.specs.declared.value.Value.TheOpen.{Value-F}
use Rattle.bds_value.proofs.Induction.{value_induction}
use Rattle.bds_code.specs.declared.instr.Instr.{Instr}
use Rattle.bds_code.specs.declared.instr.Instr.TheVariants as instr
use Rattle.bds_code.specs.declared.unit.Unit.{Unit as CodeUnit}
use Rattle.bds_check_size.specs.ScriptSize.{items_at, items_in, made_at, value_size}
use Rattle.bds_gen_expr.specs.Marks.{Mark, does, one as one_mark}
use Rattle.bds_check_typing.specs.GivenValues.{IsTextAt, IsGivenAt}
use Rattle.bds_gen_stmt.specs.UnitCode.{push_at, items_code, value_code_at, value_code, texts_code}
use Rattle.bds_meaning.specs.Term.{Constant}
use Rattle.bds_schedule.specs.Values.{of_texts}
use Rattle.bds_sim_terms.specs.steps.Stands.{Source, Names, Is, Comes, Row, Gives}
use Rattle.bds_sim.proofs.Reading.{words_at}
use Rattle.bds_sim_code.proofs.Blocks.{Form}
use Rattle.bds_sim_code.proofs.Marked.{Has}

-- A value by its kind

abbrev made : Value-F Value → Value
made (Value-F.Bool b) = value.Bool b
made (Value-F.Int n) = value.Int n
made (Value-F.Text t) = value.Text t
made (Value-F.List t vs) = value.List t vs
made (Value-F.Map t ps) = value.Map t ps

made_is : (v : Value) → v ≡ made (out-Value v)
made_is = value_induction (λ v. v ≡ made (out-Value v)) (λ b. sym (ap made (value.outs-Bool b))) (λ n. sym (ap made (value.outs-Int n))) (λ t. sym (ap made (value.outs-Text t)))
    (λ t vs is. sym (ap made (value.outs-List t vs))) (λ t ps is. sym (ap made (value.outs-Map t ps)))

-- Lists of texts

abbrev AreTexts : List Value → Type 0
AreTexts vs = AllByRecursion (λ v. IsTextAt (out-Value v)) vs

abbrev words_of : List Value → List (List ℕ)
words_of vs = map (λ (v : Value). words_at (out-Value v)) vs

text_is : (w : Value-F Value) → IsTextAt w → made w ≡ value.Text (words_at w)
text_is (Value-F.Text t) h = refl
text_is (Value-F.Bool b) h = absurd h
text_is (Value-F.Int n) h = absurd h
text_is (Value-F.List t vs) h = absurd h
text_is (Value-F.Map t ps) h = absurd h

push_is : (w : Value-F Value) → IsTextAt w → push_at w ≡ instr.PushText (words_at w)
push_is (Value-F.Text t) h = refl
push_is (Value-F.Bool b) h = absurd h
push_is (Value-F.Int n) h = absurd h
push_is (Value-F.List t vs) h = absurd h
push_is (Value-F.Map t ps) h = absurd h

words_are : (vs : List Value) → AreTexts vs → vs ≡ map value.Text (words_of vs)
words_are [] h = refl
words_are (v ∷ vs) h = ap (λ (w : Value). w ∷ vs) (made_is v ∙ text_is (out-Value v) h.0) ∙ ap (λ (ws : List Value). value.Text (words_at (out-Value v)) ∷ ws) (words_are vs h.1)

as_many : (vs : List Value) → length (words_of vs) ≡ length vs
as_many [] = refl
as_many (v ∷ vs) = ap suc (as_many vs)

module _ (o : Source) (u : CodeUnit) (fn : ℕ) where
  abbrev H : List Mark → ℕ → Type 0
  H ms pc = Has o u fn ms pc

  pub texts_row : (at : At) (ts : List (List ℕ)) (rest : List Mark) (pc : ℕ) → H (texts_code at ts ++ rest) pc → Row o u fn pc (map instr.PushText ts) (pc + length ts) × H rest (pc + length ts)
  texts_row at [] rest pc h = (omega arith, subst (H rest) (let e : pc ≡ pc + 0 = omega arith in e) h)
  texts_row at (t ∷ ts) rest pc h =
      let r = texts_row at ts rest (pc + 1) h.1 in
      let e : pc + 1 + length ts ≡ pc + suc (length ts) = omega arith in
      ((h.0.is, subst (Row o u fn (pc + 1) (map instr.PushText ts)) e r.0), subst (H rest) e r.1)

  items_row : (at : At) (vs : List Value) (rest : List Mark) (pc : ℕ) → AreTexts vs → H (items_code at vs ++ rest) pc → Row o u fn pc (map instr.PushText (words_of vs)) (pc + length vs) × H rest (pc + length vs)
  items_row at [] rest pc k h = (omega arith, subst (H rest) (let e : pc ≡ pc + 0 = omega arith in e) h)
  items_row at (v ∷ vs) rest pc k h =
      let r = items_row at vs rest (pc + 1) k.1 h.1 in
      let e : pc + 1 + length vs ≡ pc + suc (length vs) = omega arith in
      let first = subst (λ (i : Instr). Is o u fn pc i) (push_is (out-Value v) k.0) h.0.is in
      ((first, subst (Row o u fn (pc + 1) (map instr.PushText (words_of vs))) e r.0), subst (H rest) e r.1)

  given_at : (w : Value-F Value) (t : Ty) (at : At) (rest : List Mark) (pc : ℕ) → IsGivenAt w t → items_at w ≤ MAX_ITEMS → H (value_code_at at w ++ rest) pc → Gives o u fn (made w) pc (pc + made_at w) × H rest (pc + made_at w)
  given_at (Value-F.Bool b) t at rest pc g few h = (inl (instr.PushBool b, refl, (h.0.is, refl)), h.1)
  given_at (Value-F.Int n) t at rest pc g few h = (inl (instr.PushInt n, refl, (h.0.is, refl)), h.1)
  given_at (Value-F.Text x) t at rest pc g few h = (inl (instr.PushText x, refl, (h.0.is, refl)), h.1)
  given_at (Value-F.List y vs) t at rest pc g few h =
      let n : ℕ = length vs in
      let ts : List (List ℕ) = words_of vs in
      let split = subst (λ ms. H ms pc) (append_assoc (items_code at vs) (one_mark at (instr.MakeList y n)) rest) h in
      let r = items_row at vs (does (instr.MakeList y n) at ∷ rest) pc g.2 split in
      let same : instr.MakeList y n ≡ instr.MakeList ty.Text (length ts) = ap (λ (z : Ty). instr.MakeList z n) g.1 ∙ ap (λ (k : ℕ). instr.MakeList ty.Text k) (sym (as_many vs)) in
      let makes = subst (λ (i : Instr). Is o u fn (pc + n) i) same r.1.0.is in
      let e : pc + n + 1 ≡ pc + (n + 1) = omega arith in
      let is : value.List y vs ≡ of_texts ts = ap (λ (z : Ty). value.List z vs) g.1 ∙ ap (value.List ty.Text) (words_are vs g.2) in
      (inr (ts, (pc + n, is, subst (λ (k : ℕ). k ≤ MAX_ITEMS) (sym (as_many vs)) few, r.0, (makes, e))), subst (H rest) e r.1.1)
  given_at (Value-F.Map y ps) t at rest pc g few h = absurd g

  -- a value of a global, and what stands behind its code
  pub given_is : (v : Value) (t : Ty) (at : At) (rest : List Mark) (pc : ℕ) → IsGivenAt (out-Value v) t → items_in v ≤ MAX_ITEMS → H (value_code at v ++ rest) pc → Gives o u fn v pc (pc + value_size v) × H rest (pc + value_size v)
  given_is v t at rest pc g few h = subst (λ w. Gives o u fn w pc (pc + value_size v) × H rest (pc + value_size v)) (sym (made_is v)) (given_at (out-Value v) t at rest pc g few h)

  pub given_begins : (held : List ℕ) (ns : Names) (v : Value) (pc end exit : ℕ) → Gives o u fn v pc end → Comes o u fn end exit → Form o u fn held ns None (Constant v) pc exit 1
  given_begins held ns v pc end exit gives comes = record {
    at = λ vs slots base kept below named fits. (refl, (pc, end, gives, comes, record { named = named; slots = slots; holds = fits; is = refl }));
  }
