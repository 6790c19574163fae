-- The names that the checker has in force, in a function and its unit.
use Rattle.std.proofs.Common.{◌≡◌, ◌+◌, ℕ, suc, List, [], ◌∷◌, ◌++◌, slice_get, Option, Some, None, Ok, Bool, true, false, refl, sym, ◌∙◌, ap, ap₂, subst, arith, if◌then◌else◌}
use Rattle.std.specs.Prelude.{⊤, length, drop}
use Rattle.std.specs.Str.{bytes_eq}
use Rattle.bds_value.specs.declared.value.Ty.{Ty}
use Rattle.bds_value.specs.declared.value.Ty.TheVariants as ty
use Rattle.bds_value.specs.Fields.{is_solid}
use Rattle.bds_code.specs.declared.unit.Function.{Function}
use Rattle.bds_code.specs.declared.unit.Unit.{Unit as CodeUnit}
use Rattle.bds_value.specs.Results.{◌>>=◌}
use Rattle.bds_value.specs.Types.{is_void}
use Rattle.bds_code.specs.Operands.{there, giving}
use Rattle.bds_code.specs.Row.{row, slot_ty, variable_ty}
use Rattle.bds_check_names.specs.declared.names.Names.{Names}
use Rattle.bds_check_names.specs.declared.names.Head.{Head}
use Rattle.bds_check_names.specs.declared.names.Site.{Site}
use Rattle.bds_check_names.specs.declared.names.Variable.{Variable}
use Rattle.bds_check_names.specs.Scopes.{with_local, variable, first_type, last_type, either, found, function_named, any_named, declare_in, with_locals, with_globals, inner as inner_site, in_loop as loop_site, in_switch as switch_site}
use Rattle.bds_check_typing.specs.Known.{AreVariablesWritten}
use Rattle.bds_check_typing.proofs.Written.{written-known, list-item-written, map-item-written}
use Rattle.bds_gen_expr.specs.Marks.{Mark, does, label, slot, slot_count}
use Rattle.bds_gen_expr.specs.declared.scope.Numbered.{Numbered}
use Rattle.bds_gen_expr.specs.declared.scope.Scope.{Scope}
use Rattle.bds_gen_expr.specs.Numbers.{variables_of, last_number, first_number, numbered}
use Rattle.bds_gen_expr.specs.Scope.{with_slot, VariablePlace, in_slot, in_global, slot_or_global, place_of, load_at, is_global_at, number_at, function_number, with_one_global}
use Rattle.bds_gen_stmt.specs.Spots.{Spot, inner, in_loop, in_switch, behind_slots, declared_local}
use Rattle.bds_gen_flow.specs.Fits.{AreAllKnown, Fits}
use Rattle.bds_gen_flow.proofs.RowEffects.{not_void, given-is}

module _ (F : Function) where
  -- the slots of marks, from a number on
  abbrev pub Slots : List Mark → ℕ → Type 0
  Slots [] n = ⊤
  Slots (does i at ∷ ms) n = Slots ms n
  Slots (label s ∷ ms) n = Slots ms n
  Slots (slot t ∷ ms) n = (slot_ty F n ≡ Some t) × Slots ms (suc n)

  pub slots_append : (ms ns : List Mark) (n k : ℕ) → n + slot_count ms ≡ k → Slots (ms ++ ns) n → Slots ms n × Slots ns k
  slots_append [] ns n k e h = (tt, let same : n ≡ k = omega (arith, e) in subst (Slots ns) same h)
  slots_append (does i at ∷ ms) ns n k e h = slots_append ms ns n k e h
  slots_append (label s ∷ ms) ns n k e h = slots_append ms ns n k e h
  slots_append (slot t ∷ ms) ns n k e h = let r : Slots ms (suc n) × Slots ns k = slots_append ms ns (suc n) k (omega (arith, e)) h.1 in ((h.0, r.0), r.1)

-- each variable has the type that stands at its number
module _ (at : ℕ → Option Ty) where
  abbrev pub AreNumbered : List Numbered → Type 0
  AreNumbered [] = ⊤
  AreNumbered (n ∷ ns) = (at n.number ≡ Some n.variable.ty) × AreNumbered ns

  pub numbered-end : (ns : List Numbered) (n : Numbered) → AreNumbered ns → at n.number ≡ Some n.variable.ty → AreNumbered (ns ++ n ∷ [])
  numbered-end [] n h k = (k, tt)
  numbered-end (m ∷ ns) n h k = (h.0, numbered-end ns n h.1 k)

  -- a type and its number, or neither
  abbrev pub Pairs : Option Ty → Option ℕ → Type 0
  Pairs None None = ⊤
  Pairs (Some t) (Some i) = at i ≡ Some t
  Pairs _ _ = ⊥

  pair-choice : (b : Bool) (t : Ty) (i : ℕ) (o : Option Ty) (n : Option ℕ) → at i ≡ Some t → Pairs o n → Pairs (if b then Some t else o) (if b then Some i else n)
  pair-choice true t i o n h k = h
  pair-choice false t i o n h k = k

  pub last-pairs : (x : List ℕ) (ns : List Numbered) (o : Option Ty) (n : Option ℕ) → AreNumbered ns → Pairs o n → Pairs (last_type x (variables_of ns) o) (last_number x ns n)
  last-pairs x [] o n h k = k
  last-pairs x (l ∷ ns) o n h k =
      last-pairs x ns (if bytes_eq x l.variable.name then Some l.variable.ty else o) (if bytes_eq x l.variable.name then Some l.number else n) h.1
      (pair-choice (bytes_eq x l.variable.name) l.variable.ty l.number o n h.0 k)

  pub first-pairs : (x : List ℕ) (ns : List Numbered) → AreNumbered ns → Pairs (first_type x (variables_of ns)) (first_number x ns)
  first-pairs x [] h = tt
  first-pairs x (l ∷ ns) h = pair-choice (bytes_eq x l.variable.name) l.variable.ty l.number (first_type x (variables_of ns)) (first_number x ns) h.0 (first-pairs x ns h.1)

abbrev pub AreInSlots : Function → List Numbered → Type 0
AreInSlots F = AreNumbered (slot_ty F)

abbrev pub AreGlobals : CodeUnit → List Numbered → Type 0
AreGlobals u = AreNumbered (slice_get u.globals)

-- the slots that tasks need
pub record TaskSlots (F : Function) (first : ℕ) : Type 0 where
  pub outs : slot_ty F first ≡ Some (ty.List ty.Text)
  pub ins : slot_ty F (first + 1) ≡ Some (ty.List ty.Text)
  pub cpus : slot_ty F (first + 2) ≡ Some ty.Int
  pub can_fail : slot_ty F (first + 3) ≡ Some ty.Bool
  pub retry : slot_ty F (first + 4) ≡ Some ty.Int
  pub name : slot_ty F (first + 5) ≡ Some ty.Text
  pub needed : slot_ty F (first + 6) ≡ Some ty.Bool

-- The last variable of a name

last-end : (x : List ℕ) (vs : List Variable) (v : Variable) (o : Option Ty) → last_type x (vs ++ v ∷ []) o ≡ (if bytes_eq x v.name then Some v.ty else last_type x vs o)
last-end x [] v o = refl
last-end x (w ∷ vs) v o = last-end x vs v (if bytes_eq x w.name then Some w.ty else o)

-- one more of the same on both sides
pub same-end : (x : List ℕ) (vs ws : List Variable) (v : Variable) → last_type x vs None ≡ last_type x ws None → last_type x (vs ++ v ∷ []) None ≡ last_type x (ws ++ v ∷ []) None
same-end x vs ws v e = last-end x vs v None ∙ ap (λ o. if bytes_eq x v.name then Some v.ty else o) e ∙ sym (last-end x ws v None)

pub variables-end : (ls : List Numbered) (l : Numbered) → variables_of (ls ++ l ∷ []) ≡ variables_of ls ++ l.variable ∷ []
variables-end [] l = refl
variables-end (k ∷ ls) l = ap (λ vs. k.variable ∷ vs) (variables-end ls l)

one-more : (vs : List Variable) (v : Variable) → AreVariablesWritten vs → is_solid v.ty ≡ true → AreVariablesWritten (vs ++ v ∷ [])
one-more [] v h k = (k, tt)
one-more (x ∷ vs) v h k = (h.0, one-more vs v h.1 k)

added : (b : Bool) (v : Variable) (vs : List Variable) → b ≡ false → (if b then vs else vs ++ v ∷ []) ≡ vs ++ v ∷ []
added true v vs e = absurd (cc)
added false v vs e = refl

-- The names that the checker has in force are in the unit, each with its type. Of locals, those that are hidden may be missing.
pub record Agrees (u : CodeUnit) (names : Names) (sc : Scope) : Type 0 where
  pub locals : (x : List ℕ) → last_type x names.locals None ≡ last_type x (variables_of sc.locals) None
  pub globals : names.globals ≡ variables_of sc.globals
  pub typed_globals : AreGlobals u sc.globals
  pub locals_written : AreVariablesWritten (variables_of sc.locals)
  pub globals_written : AreVariablesWritten names.globals
  pub calls : (x : List ℕ) (h : Head) → function_named x names.functions ≡ Some h → (g : Function) × (slice_get u.functions (function_number sc x) ≡ Some g) × (g.params ≡ h.parameters) × (g.ret ≡ h.result)
  pub parameters : (x : List ℕ) (h : Head) → function_named x names.functions ≡ Some h → AreAllKnown h.parameters

module _ (u : CodeUnit) where
  abbrev IsTypeWritten : Option Ty → Type 0
  IsTypeWritten None = ⊤
  IsTypeWritten (Some t) = is_solid t ≡ true

  type-choice : (here : Bool) (t : Ty) (o : Option Ty) → is_solid t ≡ true → IsTypeWritten o → IsTypeWritten (if here then Some t else o)
  type-choice true t o h k = h
  type-choice false t o h k = k

  first-written : (x : List ℕ) (vs : List Variable) → AreVariablesWritten vs → IsTypeWritten (first_type x vs)
  first-written x [] h = tt
  first-written x (v ∷ vs) h = type-choice (bytes_eq x v.name) v.ty (first_type x vs) h.0 (first-written x vs h.1)

  last-written : (x : List ℕ) (vs : List Variable) (o : Option Ty) → AreVariablesWritten vs → IsTypeWritten o → IsTypeWritten (last_type x vs o)
  last-written x [] o h k = k
  last-written x (v ∷ vs) o h k = last-written x vs (if bytes_eq x v.name then Some v.ty else o) h.1 (type-choice (bytes_eq x v.name) v.ty o h.0 k)

  either-written : (o p : Option Ty) → IsTypeWritten o → IsTypeWritten p → IsTypeWritten (either o p)
  either-written None p h k = k
  either-written (Some t) p h k = h

  -- what the checker finds is what the scope has
  pub same-found : (x : List ℕ) (names : Names) (sc : Scope) → Agrees u names sc → either (last_type x (variables_of sc.locals) None) (first_type x (variables_of sc.globals)) ≡ found x names
  same-found x names sc m = ap₂ (λ (o : Option Ty) (gs : List Variable). either o (first_type x gs)) (sym (m.locals x)) (sym m.globals)

  pub found-solid : (x : List ℕ) (names : Names) (sc : Scope) (t : Ty) → Agrees u names sc → found x names ≡ Some t → is_solid t ≡ true
  found-solid x names sc t m e =
      subst IsTypeWritten (same-found x names sc m ∙ e)
      (either-written (last_type x (variables_of sc.locals) None) (first_type x (variables_of sc.globals)) (last-written x (variables_of sc.locals) None m.locals_written tt) (first-written x (variables_of sc.globals) (subst AreVariablesWritten m.globals m.globals_written)))

  -- one more local
  pub local-agrees : (names : Names) (sc : Scope) (x : List ℕ) (t : Ty) (i : ℕ) → Agrees u names sc → is_solid t ≡ true → Agrees u (with_local names x t) (with_slot sc x t i)
  local-agrees names sc x t i m w = record {
    locals = λ y. same-end y names.locals (variables_of sc.locals) (variable x t) (m.locals y) ∙ ap (λ vs. last_type y vs None) (sym (variables-end sc.locals (numbered x t i)));
    globals = m.globals;
    typed_globals = m.typed_globals;
    locals_written = subst AreVariablesWritten (sym (variables-end sc.locals (numbered x t i))) (one-more (variables_of sc.locals) (variable x t) m.locals_written w);
    globals_written = m.globals_written;
    calls = m.calls;
    parameters = m.parameters;
  }

  -- a local that its block doesn't have yet
  pub declared-agrees : (names : Names) (site : Site) (sc : Scope) (x : List ℕ) (t : Ty) (i : ℕ) → Agrees u names sc → any_named x (drop site.start names.locals) ≡ false → is_solid t ≡ true
      → Agrees u (with_locals names (declare_in site.start (variable x t) names.locals)) (with_slot sc x t i)
  declared-agrees names site sc x t i m d w =
      subst (λ vs. Agrees u (with_locals names vs) (with_slot sc x t i)) (sym (added (any_named x (drop site.start names.locals)) (variable x t) names.locals d)) (local-agrees names sc x t i m w)

  -- one more global
  pub global-agrees : (names : Names) (sc : Scope) (x : List ℕ) (t : Ty) (i : ℕ) → Agrees u names sc → any_named x names.globals ≡ false → slice_get u.globals i ≡ Some t → is_solid t ≡ true
      → Agrees u (with_globals names (declare_in 0 (variable x t) names.globals)) (with_one_global sc x t i)
  global-agrees names sc x t i m d g w = record {
    locals = m.locals;
    globals =
        added (any_named x names.globals) (variable x t) names.globals d ∙ ap (λ vs. vs ++ variable x t ∷ []) m.globals
        ∙ sym (variables-end sc.globals (numbered x t i));
    typed_globals = numbered-end (slice_get u.globals) sc.globals (numbered x t i) m.typed_globals g;
    locals_written = m.locals_written;
    globals_written = subst AreVariablesWritten (sym (added (any_named x names.globals) (variable x t) names.globals d)) (one-more names.globals (variable x t) m.globals_written w);
    calls = m.calls;
    parameters = m.parameters;
  }

module _ (u : CodeUnit) (F : Function) where
  -- where a statement of the function stands, these names and slots are there
  pub record Matches (names : Names) (site : Site) (sp : Spot) : Type 0 where
    pub agrees : Agrees u names sp.scope
    pub slots : AreInSlots F sp.scope.locals
    pub top : sp.at_top ≡ site.at_top
    pub returns : (t : Ty) → site.returns ≡ Some t → F.ret ≡ t
    pub tasks : TaskSlots F sp.first

  variable-is : (o : Option Ty) (n : Option ℕ) (g : Option Ty) (m : Option ℕ) (t : Ty) → Pairs (slot_ty F) o n → Pairs (slice_get u.globals) g m → either o g ≡ Some t → variable_ty u F (is_global_at (slot_or_global n m)) (number_at (slot_or_global n m)) ≡ Some t
  variable-is (Some w) (Some i) g m t h k e = h ∙ e
  variable-is None None (Some w) (Some i) t h k e = k ∙ e
  variable-is None None None None t h k e = absurd (cc)
  variable-is None None (Some w) None t h k e = absurd k
  variable-is None None None (Some i) t h k e = absurd k
  variable-is (Some w) None g m t h k e = absurd h
  variable-is None (Some i) g m t h k e = absurd h

  pub variable-there : (x : List ℕ) (names : Names) (site : Site) (sp : Spot) (t : Ty) → Matches names site sp → found x names ≡ Some t → variable_ty u F (is_global_at (place_of sp.scope x)) (number_at (place_of sp.scope x)) ≡ Some t
  variable-there x names site sp t m e =
      variable-is (last_type x (variables_of sp.scope.locals) None) (last_number x sp.scope.locals None) (first_type x (variables_of sp.scope.globals)) (first_number x sp.scope.globals) t
      (last-pairs (slot_ty F) x sp.scope.locals None None m.slots tt) (first-pairs (slice_get u.globals) x sp.scope.globals m.agrees.typed_globals)
      (same-found u x names sp.scope m.agrees ∙ e)

  load-row : (v : VariablePlace) (t : Ty) (s : List Ty) → variable_ty u F (is_global_at v) (number_at v) ≡ Some t → is_void t ≡ false → row u F (load_at v) s ≡ Ok (t ∷ s)
  load-row (in_slot i) t s h v = ap (λ o. there o i >>= λ t. giving t s) h ∙ given-is t s v
  load-row (in_global g) t s h v = ap (λ o. there o g >>= λ t. giving t s) h ∙ given-is t s v

  pub found-written : (x : List ℕ) (names : Names) (site : Site) (sp : Spot) (t : Ty) → Matches names site sp → found x names ≡ Some t → is_solid t ≡ true
  found-written x names site sp t m e = found-solid u x names sp.scope t m.agrees e

  pub fits-of : (names : Names) (site : Site) (sp : Spot) → Matches names site sp → Fits u F sp.scope names
  fits-of names site sp m = record {
    loads = λ x t s e k. load-row (place_of sp.scope x) t s (variable-there x names site sp t m e) (not_void t k);
    calls = m.agrees.calls;
    parameters = m.agrees.parameters;
    looks = λ x. same-found u x names sp.scope m.agrees;
    knowns = λ x t e. written-known t (found-written x names site sp t m e);
    items = λ x t i e h. written-known i (list-item-written t i (found-written x names site sp t m e) h);
    entries = λ x t i e h. written-known i (map-item-written t i (found-written x names site sp t m e) h);
  }

  -- a block within
  pub inner-matches : (names : Names) (site : Site) (sp : Spot) (n : ℕ) → Matches names site sp → Matches names (inner_site names site) (behind_slots (inner sp) n)
  inner-matches names site sp n m = record { agrees = m.agrees; slots = m.slots; top = refl; returns = m.returns; tasks = m.tasks }

  pub block-matches : (names : Names) (site : Site) (sp : Spot) → Matches names site sp → Matches names (inner_site names site) (inner sp)
  block-matches names site sp m = record { agrees = m.agrees; slots = m.slots; top = refl; returns = m.returns; tasks = m.tasks }

  pub loop-matches : (names : Names) (site : Site) (sp : Spot) (again end : ℕ) → Matches names site sp → Matches names (loop_site names site) (in_loop sp again end)
  loop-matches names site sp again end m = record { agrees = m.agrees; slots = m.slots; top = refl; returns = m.returns; tasks = m.tasks }

  pub switch-matches : (names : Names) (site : Site) (sp : Spot) (end : ℕ) → Matches names site sp → Matches names (switch_site names site) (in_switch sp end)
  switch-matches names site sp end m = record { agrees = m.agrees; slots = m.slots; top = refl; returns = m.returns; tasks = m.tasks }

  -- further slots
  pub slots-matches : (names : Names) (site : Site) (sp : Spot) (n : ℕ) → Matches names site sp → Matches names site (behind_slots sp n)
  slots-matches names site sp n m = record { agrees = m.agrees; slots = m.slots; top = m.top; returns = m.returns; tasks = m.tasks }

  -- behind a declaration
  pub declare-matches : (b c : Bool) (names : Names) (site : Site) (sp : Spot) (x : List ℕ) (t : Ty) → Matches names site sp → sp.at_top ≡ b → site.at_top ≡ c → b ≡ c
      → (if c then any_named x names.globals else any_named x (drop site.start names.locals)) ≡ false
      → (b ≡ true → slice_get u.globals (length sp.scope.globals) ≡ Some t) → (b ≡ false → slot_ty F sp.next ≡ Some t)
      → is_solid t ≡ true
      → Matches (if c then with_globals names (declare_in 0 (variable x t) names.globals) else with_locals names (declare_in site.start (variable x t) names.locals)) site
      (if b then record sp { scope = with_one_global sp.scope x t (length sp.scope.globals) } else declared_local sp x t)
  declare-matches true true names site sp x t m eb ec e d g k w = record { agrees = global-agrees u names sp.scope x t (length sp.scope.globals) m.agrees d (g refl) w; slots = m.slots; top = m.top; returns = m.returns; tasks = m.tasks }
  declare-matches false false names site sp x t m eb ec e d g k w = record {
    agrees = declared-agrees u names site sp.scope x t sp.next m.agrees d w;
    slots = numbered-end (slot_ty F) sp.scope.locals (numbered x t sp.next) m.slots (k refl);
    top = m.top;
    returns = m.returns;
    tasks = m.tasks;
  }
  declare-matches true false names site sp x t m eb ec e d g k w = absurd (cc)
  declare-matches false true names site sp x t m eb ec e d g k w = absurd (cc)

  -- at another site
  pub site-matches : (names : Names) (site site2 : Site) (sp : Spot) → Matches names site sp → sp.at_top ≡ site2.at_top → site2.returns ≡ site.returns → Matches names site2 sp
  site-matches names site site2 sp m e r = record { agrees = m.agrees; slots = m.slots; top = e; returns = λ t h. m.returns t (sym r ∙ h); tasks = m.tasks }

  -- behind the variable of a list loop
  pub local-matches : (names : Names) (site : Site) (sp : Spot) (x : List ℕ) (t : Ty) → Matches names site sp → slot_ty F sp.next ≡ Some t → is_solid t ≡ true → Matches (with_local names x t) site (declared_local sp x t)
  local-matches names site sp x t m h w = record { agrees = local-agrees u names sp.scope x t sp.next m.agrees w; slots = numbered-end (slot_ty F) sp.scope.locals (numbered x t sp.next) m.slots h; top = m.top; returns = m.returns; tasks = m.tasks }
