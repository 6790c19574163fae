-- How a live thread goes on by one instruction.
use Rattle.std.proofs.Common.{zero, suc, if◌then◌else◌, ◌≡◌, ℕ, ◌+◌, ◌<◌, Bool, true, false, List, [], ◌∷◌, ◌++◌, length, Option, Some, None, IsSome, Ok, slice_get, slice_set, refl, sym, ap, ◌∙◌, subst, arith, map, reverse, ◌≤◌, nat_le, inl, inr, append_assoc, cond, Err}
use Rattle.std.proofs.lemmas.Option.{slice_get_within}
use Rattle.bds_value.specs.declared.value.Value.{Value}
use Rattle.bds_code.specs.declared.instr.Instr.{Instr}
use Rattle.bds_code.specs.declared.instr.Instr.TheVariants as instr
use Rattle.bds_code.specs.declared.unit.Function.{Function}
use Rattle.bds_code.specs.declared.unit.Unit.{Unit as CodeUnit}
use Rattle.bds_code_frames.specs.Stack.{Stack}
use Rattle.bds_machine.specs.Calls.{On}
use Rattle.bds_value.specs.Options.{◌>>=◌}
use Rattle.bds_machine.specs.Table.{row, step as machine_step}
use Rattle.bds_meaning.specs.Acts.{Act, Becomes}
use Rattle.bds_meaning.specs.Computed.{computed}
use Rattle.bds_meaning.specs.Term.{Computation, Reduced, ListMade}
use Rattle.bds_schedule.specs.Values.{first, of_texts}
use Rattle.bds_value.specs.Readers.{is_true}
use Rattle.bds_meaning.specs.Variables.{Variables}
use Rattle.bds_sim_terms.specs.steps.Stands.{Source, Row, Gives, onto, Drops, IsPush, KeepsHeld, Fits, parts, values, Site, call, at, Is, Last, Named}
use Rattle.bds_sim.specs.Threads.{Parts}
use Rattle.bds_sim_terms.proofs.steps.Leads.{lives, comes_lead, next, Leads, Moves, stays, one, leads_on, here}
use Rattle.bds_sim_terms.proofs.steps.Follows.{Follows, one_value}
use Rattle.bds_sim_terms.proofs.steps.Rows.{drop_row, finishing, some_outcome, push_row, load_row, slot_read, store_row, branch, branch_row}
use Rattle.bds_sim_terms.proofs.steps.Computing.{Computes, computes}
use Rattle.std.proofs.lemmas.List.{reverse-append}
use Rattle.bds_value.specs.declared.TheConstants.{MAX_ITEMS}
use Rattle.bds_value.specs.declared.value.Value.TheVariants as value
use Rattle.bds_value.specs.declared.value.Ty.TheVariants as ty
use Rattle.bds_value.specs.declared.faults.RunFault.TheVariants as run

module _ (o : Source) (u : CodeUnit) (Live : Parts → Type 0) (moves : Moves u Live) where
  -- a live thread has the row of its place
  pub alive : (vs : Variables) (c : Site) (pc : ℕ) (i : Instr) (slots ops : List Value) (is : Is o u c.function pc i) (t : ℕ) → Live (parts vs (at c pc slots ops)) → IsSome (row u is.f i pc (values vs.globals) (at c pc slots ops) t)
  alive vs c pc i slots ops is t live = subst IsSome (here o u (values vs.globals) (call c pc slots ops) c.below t i is) (moves.moves (parts vs (at c pc slots ops)) t live)

  -- a live thread isn't behind the last instruction
  pub dead : (vs : Variables) (fn : ℕ) (f : Function) (slots ops : List Value) (below : Stack) → slice_get u.functions fn ≡ Some f → Live (parts vs (record { function = fn; place = length f.code; slots = slots; ops = ops } ∷ below)) → ⊥
  unfolding machine_step
  dead vs fn f slots ops below there live =
      let m : Parts = parts vs (record { function = fn; place = length f.code; slots = slots; ops = ops } ∷ below) in
      let past : slice_get f.code (length f.code) ≡ None = Rattle.std.proofs.lemmas.Option.slice_get_past f.code (length f.code) (omega arith) in
      let none : next u m 0 ≡ None
      = ap (λ o. o >>= λ f'. slice_get f'.code (length f.code) >>= λ i. row u f' i (length f.code) (values vs.globals) m.calls 0) there ∙ ap (λ o. o >>= λ i. row u f i (length f.code) (values vs.globals) m.calls 0) past in
      absurd (Prim.cc (moves.moves m 0 live, none))

  pub goes_by : (vs vs' : Variables) (c : Site) (pc : ℕ) (i : Instr) (slots ops : List Value) (s : Stack) (is : Is o u c.function pc i)
      → ((t : ℕ) → row u is.f i pc (values vs.globals) (at c pc slots ops) t ≡ Some (On (values vs'.globals) s t)) → Leads u (parts vs (at c pc slots ops)) (parts vs' s)
  goes_by vs vs' c pc i slots ops s is e = one u (parts vs (at c pc slots ops)) (parts vs' s) (λ t. here o u (values vs.globals) (call c pc slots ops) c.below t i is ∙ e t)

  -- an instruction ends a form with values
  pub ends_with : (vs vs' : Variables) (c : Site) (pc : ℕ) (i : Instr) (us slots slots' ops : List Value) (last : Last o u c pc i) → length us ≡ c.kind → Named o u vs' → Fits c.names c.held c.kept vs'.locals slots'
      → ((t : ℕ) → row u last.is.f i pc (values vs.globals) (at c pc slots ops) t ≡ Some (On (values vs'.globals) (at c (pc + 1) slots' (us ++ c.base)) t))
      → Follows o u (Becomes false vs' (Reduced us)) vs c (at c pc slots ops)
  ends_with vs vs' c pc i us slots slots' ops last k named holds e =
      (at c (pc + 1) slots' (us ++ c.base), goes_by vs vs' c pc i slots ops (at c (pc + 1) slots' (us ++ c.base)) last.is e, (k, (pc + 1, last.comes, record { named = named; slots = slots'; holds = holds; is = refl })))

  -- one operand
  pub one_follows : (us : List Value) (x : Act) (vs : Variables) (c : Site) (pc : ℕ) (slots : List Value) → length us ≡ 1 → Live (parts vs (at c pc slots (us ++ c.base)))
      → (Live (parts vs (at c pc slots (first us ∷ c.base))) → Follows o u x vs c (at c pc slots (first us ∷ c.base))) → Follows o u x vs c (at c pc slots (us ++ c.base))
  one_follows us x vs c pc slots len live f =
      let q : us ≡ first us ∷ [] = one_value o u us len in
      subst (λ l. Follows o u x vs c (at c pc slots (l ++ c.base))) (sym q) (f (subst (λ l. Live (parts vs (at c pc slots (l ++ c.base)))) q live))

  -- instructions that change the newest call alone

  pub push_lead : (vs : Variables) (c : Site) (pc : ℕ) (i : Instr) (v : Value) (slots ops : List Value) → IsPush i v → Is o u c.function pc i → Live (parts vs (at c pc slots ops)) → Leads u (parts vs (at c pc slots ops)) (parts vs (at c (pc + 1) slots (v ∷ ops)))
  push_lead vs c pc i v slots ops e is live = goes_by vs vs c pc i slots ops (at c (pc + 1) slots (v ∷ ops)) is (λ t. push_row u is.f c.function pc (values vs.globals) slots c.below t i v ops e (alive vs c pc i slots ops is t live))

  pub load_lead : (vs : Variables) (c : Site) (pc n : ℕ) (v : Value) (slots ops : List Value) → slice_get slots n ≡ Some v → Is o u c.function pc (instr.Load n) → Leads u (parts vs (at c pc slots ops)) (parts vs (at c (pc + 1) slots (v ∷ ops)))
  load_lead vs c pc n v slots ops e is = goes_by vs vs c pc (instr.Load n) slots ops (at c (pc + 1) slots (v ∷ ops)) is (λ t. load_row u is.f c.function pc (values vs.globals) slots c.below t n v ops e)

  slot_found : (slots : List Value) (slot : ℕ) (q : Option Value) → slice_get slots slot ≡ q → IsSome q → slot < length slots
  slot_found slots slot None e h = absurd (cc h)
  slot_found slots slot (Some w) e h = slice_get_within slots slot w e

  pub store_within : (vs : Variables) (c : Site) (pc n : ℕ) (v : Value) (slots ops : List Value) → Is o u c.function pc (instr.Store n) → Live (parts vs (at c pc slots (v ∷ ops))) → n < length slots
  store_within vs c pc n v slots ops is live =
      slot_found slots n (slice_get slots n) refl (store_row u is.f c.function pc (values vs.globals) slots c.below 0 n v ops (alive vs c pc (instr.Store n) slots (v ∷ ops) is 0 live)).0

  pub store_lead : (vs : Variables) (c : Site) (pc n : ℕ) (v : Value) (slots ops : List Value) → Is o u c.function pc (instr.Store n) → Live (parts vs (at c pc slots (v ∷ ops))) → Leads u (parts vs (at c pc slots (v ∷ ops))) (parts vs (at c (pc + 1) (slice_set slots n v) ops))
  store_lead vs c pc n v slots ops is live =
      goes_by vs vs c pc (instr.Store n) slots (v ∷ ops) (at c (pc + 1) (slice_set slots n v) ops) is (λ t. (store_row u is.f c.function pc (values vs.globals) slots c.below t n v ops (alive vs c pc (instr.Store n) slots (v ∷ ops) is t live)).1)

  -- a computation whose result is known
  pub computed_lead : (vs : Variables) (c : Site) (pc : ℕ) (i : Instr) (comp : Computation) (us slots ops : List Value) (v : Value) → Computes comp us i → computed comp us ≡ Ok v → Is o u c.function pc i → Live (parts vs (at c pc slots (us ++ ops)))
      → Leads u (parts vs (at c pc slots (us ++ ops))) (parts vs (at c (pc + 1) slots (v ∷ ops)))
  computed_lead vs c pc i comp us slots ops v made e is live =
      let told = made.told (some_outcome is.f pc (values vs.globals) (call c (pc + 1) slots ops) c.below 0 made.outcome (subst IsSome (made.row_is u is.f c.function pc (values vs.globals) slots ops c.below 0) (alive vs c pc i slots (us ++ ops) is 0 live))) in
      goes_by vs vs c pc i slots (us ++ ops) (at c (pc + 1) slots (v ∷ ops)) is
      (λ t. made.row_is u is.f c.function pc (values vs.globals) slots ops c.below t ∙ ap (finishing is.f pc (values vs.globals) (call c (pc + 1) slots ops) c.below t) (told ∙ ap Some e))

  -- a condition that is known
  pub branch_lead : (vs : Variables) (c : Site) (pc to : ℕ) (v : Value) (slots ops : List Value) (test : Bool) → is_true v ≡ test → Is o u c.function pc (instr.JumpUnless to) → Live (parts vs (at c pc slots (v ∷ ops)))
      → Leads u (parts vs (at c pc slots (v ∷ ops))) (parts vs (at c (if test then pc + 1 else to) slots ops))
  branch_lead vs c pc to v slots ops test e is live =
      go test (λ t. branch_row u is.f c.function pc (values vs.globals) slots c.below t to v ops (alive vs c pc (instr.JumpUnless to) slots (v ∷ ops) is t live) ∙ ap (λ q. branch u is.f c.function pc (values vs.globals) slots c.below t q to ops) e)
    where
      go : (test : Bool) → ((t : ℕ) → row u is.f (instr.JumpUnless to) pc (values vs.globals) (at c pc slots (v ∷ ops)) t ≡ branch u is.f c.function pc (values vs.globals) slots c.below t test to ops)
          → Leads u (parts vs (at c pc slots (v ∷ ops))) (parts vs (at c (if test then pc + 1 else to) slots ops))
      go true e = goes_by vs vs c pc (instr.JumpUnless to) slots (v ∷ ops) (at c (pc + 1) slots ops) is e
      go false e = goes_by vs vs c pc (instr.JumpUnless to) slots (v ∷ ops) (at c to slots ops) is e

  -- to a place that is the same
  pub same_place : (vs : Variables) (c : Site) (pc to : ℕ) (slots ops : List Value) (m : Parts) → pc ≡ to → Leads u m (parts vs (at c pc slots ops)) → Leads u m (parts vs (at c to slots ops))
  same_place vs c pc to slots ops m e l = subst (λ n. Leads u m (parts vs (at c n slots ops))) e l

  -- slots are loaded one after another
  pub record Loaded (vs : Variables) (c : Site) (is : List ℕ) (from to : ℕ) (slots ops : List Value) : Type 0 where
    pub us : List Value
    pub reads : KeepsHeld is us slots
    pub few : length us ≡ length is
    pub leads : Leads u (parts vs (at c from slots ops)) (parts vs (at c to slots (onto us ops)))

  pub loads_lead : (vs : Variables) (c : Site) (is : List ℕ) (from to : ℕ) (slots ops : List Value) → Row o u c.function from (map instr.Load is) to → Live (parts vs (at c from slots ops)) → Loaded vs c is from to slots ops
  loads_lead vs c [] from to slots ops code live = record { us = []; reads = tt; few = refl; leads = same_place vs c from to slots ops (parts vs (at c from slots ops)) code (stays u (parts vs (at c from slots ops))) }
  loads_lead vs c (i ∷ is) from to slots ops code live =
      let is0 = code.0 in
      let r = slot_read u is0.f c.function from (values vs.globals) slots c.below 0 i ops (alive vs c from (instr.Load i) slots ops is0 0 live) in
      let lead = load_lead vs c from i r.0 slots ops r.1 is0 in
      let w = loads_lead vs c is (from + 1) to slots (r.0 ∷ ops) code.1 (lives u Live moves _ _ lead live) in
      record { us = r.0 ∷ w.us; reads = (r.1, w.reads); few = ap suc w.few; leads = leads_on u _ _ _ lead w.leads }

  -- values are dropped
  pub drops_lead : (vs : Variables) (c : Site) (k from to : ℕ) (slots us : List Value) → length us ≡ k → Drops o u c.function k from to → Leads u (parts vs (at c from slots (us ++ c.base))) (parts vs (at c to slots c.base))
  drops_lead vs c zero from to slots [] len d = comes_lead o u vs c from to slots c.base d
  drops_lead vs c zero from to slots (v ∷ us) len d = absurd (omega (arith, len))
  drops_lead vs c (suc k) from to slots [] len d = absurd (omega (arith, len))
  drops_lead vs c (suc k) from to slots (v ∷ us) len d =
      leads_on u _ _ _ (goes_by vs vs c from instr.Drop slots (v ∷ (us ++ c.base)) (at c (from + 1) slots (us ++ c.base)) d.0 (λ t. drop_row u d.0.f c.function from (values vs.globals) slots c.below t v (us ++ c.base)))
      (drops_lead vs c k (from + 1) to slots us (omega (arith, len)) d.1)

  -- constants

  texts_lead : (vs : Variables) (c : Site) (texts : List (List ℕ)) (pc to : ℕ) (slots ops : List Value) → Row o u c.function pc (map instr.PushText texts) to → Live (parts vs (at c pc slots ops)) → Leads u (parts vs (at c pc slots ops)) (parts vs (at c to slots (onto (map value.Text texts) ops)))
  texts_lead vs c [] pc to slots ops code live = same_place vs c pc to slots ops (parts vs (at c pc slots ops)) code (stays u (parts vs (at c pc slots ops)))
  texts_lead vs c (t ∷ ts) pc to slots ops code live =
      let lead = push_lead vs c pc (instr.PushText t) (value.Text t) slots ops refl code.0 live in
      leads_on u _ _ _ lead (texts_lead vs c ts (pc + 1) to slots (value.Text t ∷ ops) code.1 (lives u Live moves _ _ lead live))

  pub onto_is : (vs ops : List Value) → onto vs ops ≡ reverse vs ++ ops
  onto_is [] ops = refl
  onto_is (v ∷ vs) ops = onto_is vs (v ∷ ops) ∙ sym (ap (λ l. l ++ ops) (reverse-append (v ∷ []) vs) ∙ append_assoc (reverse vs) (v ∷ []) ops)

  list_is : (texts : List (List ℕ)) (us : List Value) → reverse us ≡ map value.Text texts → length us ≡ length texts → length texts ≤ MAX_ITEMS → computed (ListMade ty.Text) us ≡ Ok (of_texts texts)
  list_is texts us e len few =
      let short : nat_le (length (map value.Text texts)) MAX_ITEMS ≡ true = grind (arith, Rattle.std.proofs.lemmas.List.length-map texts value.Text, few) in
      ap (Rattle.bds_meaning.specs.Computed.list_made ty.Text) e ∙ ap (λ b. cond b (Ok (of_texts texts)) (Err (run.TooLong (length (map value.Text texts))))) short

  pub constant_lead : (vs : Variables) (c : Site) (v : Value) (from to : ℕ) (slots ops : List Value) → Gives o u c.function v from to → Live (parts vs (at c from slots ops)) → Leads u (parts vs (at c from slots ops)) (parts vs (at c to slots (v ∷ ops)))
  constant_lead vs c v from to slots ops (inl r) live = same_place vs c (from + 1) to slots (v ∷ ops) (parts vs (at c from slots ops)) r.2.1 (push_lead vs c from r.0 v slots ops r.1 r.2.0 live)
  constant_lead vs c v from to slots ops (inr r) live =
      let texts = r.0 in
      let mid = r.1.0 in
      let items = map value.Text texts in
      let us = reverse items in
      let n = length texts in
      let few : length us ≡ n = Rattle.std.proofs.lemmas.List.length-reverse items ∙ Rattle.std.proofs.lemmas.List.length-map texts value.Text in
      let lead1 = subst (λ l. Leads u (parts vs (at c from slots ops)) (parts vs (at c mid slots l))) (onto_is items ops) (texts_lead vs c texts from mid slots ops r.1.3 live) in
      let made = list_is texts us (Rattle.std.proofs.lemmas.List.reverse-reverse items) few r.1.2 in
      let lead2 = computed_lead vs c mid (instr.MakeList ty.Text n) (ListMade ty.Text) us slots ops (of_texts texts) (computes (instr.MakeList ty.Text n) (ListMade ty.Text) n us refl few) made r.1.4.0 (lives u Live moves _ _ lead1 live) in
      same_place vs c (mid + 1) to slots (v ∷ ops) (parts vs (at c from slots ops)) r.1.4.1
      (leads_on u _ _ _ lead1 (subst (λ x. Leads u (parts vs (at c mid slots (us ++ ops))) (parts vs (at c (mid + 1) slots (x ∷ ops)))) (sym r.1.1) lead2))
