-- Options of tasks and rules: their values wait in slots.
use Rattle.std.proofs.Common.{◌≢◌, ◌⊎◌, ◌&&◌, nat_eq, ◌==◌, if◌then◌else◌, ◌≡◌, ℕ, suc, ◌+◌, ◌<◌, Bool, true, false, List, [], ◌∷◌, ◌++◌, length, Some, Result, Ok, Err, slice_get, slice_set, refl, sym, ap, ◌∙◌, subst, inl, inr, arith}
use Rattle.bds_value.specs.declared.value.At.{At}
use Rattle.bds_value.specs.declared.value.Value.{Value}
use Rattle.bds_value.specs.declared.faults.RunFault.{RunFault}
use Rattle.bds_code.specs.declared.instr.Instr.TheVariants as instr
use Rattle.bds_code.specs.declared.unit.Unit.{Unit as CodeUnit}
use Rattle.bds_code_frames.specs.Stack.{Stack, pushed}
use Rattle.bds_machine.specs.declared.point.Point.TheVariants as point
use Rattle.bds_machine.specs.Calls.{Ends}
use Rattle.bds_value.specs.Options.{◌>>=◌}
use Rattle.bds_machine.specs.Table.{row}
use Rattle.bds_meaning.specs.Acts.{Act, Has, Becomes, Wants, Fails, Returns, Breaks, Continues, Exits, Code, code, in_frame, in_turn, gives}
use Rattle.bds_schedule.specs.Requests.{Compares, MakesTask, Declares}
use Rattle.bds_meaning.specs.Step.{is_wanted, made, made_if, step}
use Rattle.bds_meaning.specs.Step.{wanting}
use Rattle.bds_meaning.specs.Term.{Making, as_task, as_rule, settled, Compared, Term, Reduced, Settle, Weigh, Make, work_in}
use Rattle.bds_value.specs.Readers.{texts_in, is_true, text_in}
use Rattle.bds_schedule.specs.Values.{first}
use Rattle.bds_meaning.specs.Variables.{Bindings, Variables}
use Rattle.bds_sim_terms.specs.steps.Stands.{Source, KeepsHeld, IsTested, Lined, AreSpare, Joins, Notes, Sets, Arrives, SettleAt, Wanted, MakeAt, Options, option_number, option_slot, noted_in, slots_of, notes, Among, AreAmong, known_behind, made_of, loads_of, onto, making_code, making_count, part_over, part_holding, Free, Row, KeepsHeld, Names, Free, Unheld, Fits, parts, values, Site, call, at, Comes, Named, Stands}
use Rattle.bds_sim.specs.Threads.{Parts, answered}
use Rattle.bds_sim_terms.proofs.steps.Leads.{Leads, Moves, stays, leads_on, lives, here, comes_lead}
use Rattle.bds_sim_terms.proofs.steps.Slots.{keeps_other, holds_other, get_same, get_other, apart_more, fits_fewer}
use Rattle.bds_sim_terms.proofs.steps.Follows.{Follows, behind, bind_follows, Sim, one_value}
use Rattle.bds_sim_terms.proofs.steps.Asking.{asks}
use Rattle.bds_value.specs.declared.value.Value.TheVariants as value
use Rattle.bds_sim_terms.proofs.steps.Counting.{truth_of}
use Rattle.bds_sim_terms.proofs.steps.Walking.{alive, one_follows, push_lead, load_lead, store_within, store_lead, branch_lead, same_place}
use Rattle.bds_meaning.specs.Work.{Setting, Outputs, Inputs, Processors, CanFail, Retries, TaskName, Condition, Work, noted, in_ranges, task_of, rule_of}
use Rattle.bds_sim_terms.proofs.steps.Making.{mapped, task_row, rule_row, left_with}
use Rattle.bds_tasks.specs.declared.task.TaskNew.{TaskNew}
use Rattle.bds_rules.specs.declared.rule.Rule.{Rule}

-- options by their numbers

abbrev setting_at : ℕ → Setting
setting_at n = if n == 0 then Outputs else (if n == 1 then Inputs else (if n == 2 then Processors else (if n == 3 then CanFail else (if n == 4 then Retries else (if n == 5 then TaskName else Condition)))))

setting_back : (k : Setting) → setting_at (option_number k) ≡ k
setting_back Outputs = refl
setting_back Inputs = refl
setting_back Processors = refl
setting_back CanFail = refl
setting_back Retries = refl
setting_back TaskName = refl
setting_back Condition = refl

differs : (k j : Setting) → (j ≡ k) ⊎ (option_number j ≢ option_number k)
differs k j = go (nat_eq (option_number j) (option_number k)) refl
  where
    go : (b : Bool) → nat_eq (option_number j) (option_number k) ≡ b → (j ≡ k) ⊎ (option_number j ≢ option_number k)
    go true e = inl (let q : option_number j ≡ option_number k = grind (arith, e) in sym (setting_back j) ∙ ap setting_at q ∙ setting_back k)
    go false e = inr (λ q. grind (arith, e, q))

-- noting an option leaves the others
noted_other : (k j : Setting) (v : Value) (w : Work) → option_number j ≢ option_number k → noted_in (noted k v w) j ≡ noted_in w j
noted_other Outputs Outputs v w n = absurd (n refl)
noted_other Outputs Inputs v w n = refl
noted_other Outputs Processors v w n = refl
noted_other Outputs CanFail v w n = refl
noted_other Outputs Retries v w n = refl
noted_other Outputs TaskName v w n = refl
noted_other Outputs Condition v w n = refl
noted_other Inputs Outputs v w n = refl
noted_other Inputs Inputs v w n = absurd (n refl)
noted_other Inputs Processors v w n = refl
noted_other Inputs CanFail v w n = refl
noted_other Inputs Retries v w n = refl
noted_other Inputs TaskName v w n = refl
noted_other Inputs Condition v w n = refl
noted_other Processors Outputs v w n = refl
noted_other Processors Inputs v w n = refl
noted_other Processors Processors v w n = absurd (n refl)
noted_other Processors CanFail v w n = refl
noted_other Processors Retries v w n = refl
noted_other Processors TaskName v w n = refl
noted_other Processors Condition v w n = refl
noted_other CanFail Outputs v w n = refl
noted_other CanFail Inputs v w n = refl
noted_other CanFail Processors v w n = refl
noted_other CanFail CanFail v w n = absurd (n refl)
noted_other CanFail Retries v w n = refl
noted_other CanFail TaskName v w n = refl
noted_other CanFail Condition v w n = refl
noted_other Retries Outputs v w n = refl
noted_other Retries Inputs v w n = refl
noted_other Retries Processors v w n = refl
noted_other Retries CanFail v w n = refl
noted_other Retries Retries v w n = absurd (n refl)
noted_other Retries TaskName v w n = refl
noted_other Retries Condition v w n = refl
noted_other TaskName Outputs v w n = refl
noted_other TaskName Inputs v w n = refl
noted_other TaskName Processors v w n = refl
noted_other TaskName CanFail v w n = refl
noted_other TaskName Retries v w n = refl
noted_other TaskName TaskName v w n = absurd (n refl)
noted_other TaskName Condition v w n = refl
noted_other Condition Outputs v w n = refl
noted_other Condition Inputs v w n = refl
noted_other Condition Processors v w n = refl
noted_other Condition CanFail v w n = refl
noted_other Condition Retries v w n = refl
noted_other Condition TaskName v w n = refl
noted_other Condition Condition v w n = absurd (n refl)

needed_kept : (k : Setting) (v : Value) (w : Work) → IsTested k false → (noted k v w).needed ≡ w.needed
needed_kept Condition v w h = absurd (Prim.cc h)
needed_kept _ v w h = refl

-- a condition that is true changes nothing
noted_true : (v : Value) (w : Work) → is_true v ≡ true → noted Condition v w ≡ w
noted_true v w e = ap (λ b. with_needed (b && w.needed)) e
  where
    with_needed : Bool → Work
    with_needed b = record { outs = w.outs; ins = w.ins; cpus = w.cpus; can_fail = w.can_fail; retry = w.retry; name = w.name; needed = b }

noted_false : (v : Value) (w : Work) → is_true v ≡ false → noted_in (noted Condition v w) Condition ≡ value.Bool false
noted_false v w e = ap (λ b. value.Bool (b && w.needed)) e

-- what is known of an option
keeps_among : (k : Setting) (ks : List Setting) (first : ℕ) (w : Work) (held : List ℕ) (kept slots : List Value) → Among k ks → KeepsHeld (slots_of first ks ++ held) (notes w ks ++ kept) slots → slice_get slots (option_slot first k) ≡ Some (noted_in w k)
keeps_among k [] first w held kept slots m h = absurd m
keeps_among k (j ∷ js) first w held kept slots m h =
    let go : (j ≡ k) ⊎ Among k js → slice_get slots (option_slot first k) ≡ Some (noted_in w k) = elim [
      | inl e ↦ subst (λ j. slice_get slots (option_slot first j) ≡ Some (noted_in w j)) e h.0
      | inr m ↦ keeps_among k js first w held kept slots m h.1
    ] in go m

-- an option's slot gets another value
keeps_noted : (k : Setting) (v : Value) (w w' : Work) (first : ℕ) (ks : List Setting) (held : List ℕ) (kept slots : List Value) → noted_in w' k ≡ v → ((j : Setting) → option_number j ≢ option_number k → noted_in w' j ≡ noted_in w j)
    → Unheld (option_slot first k) held → option_slot first k < length slots → KeepsHeld (slots_of first ks ++ held) (notes w ks ++ kept) slots → KeepsHeld (slots_of first ks ++ held) (notes w' ks ++ kept) (slice_set slots (option_slot first k) v)
keeps_noted k v w w' first [] held kept slots here other unheld within h = keeps_other held kept slots (option_slot first k) v unheld h
keeps_noted k v w w' first (j ∷ js) held kept slots here other unheld within h =
    let go : (j ≡ k) ⊎ (option_number j ≢ option_number k) → slice_get (slice_set slots (option_slot first k) v) (option_slot first j) ≡ Some (noted_in w' j) = elim [
      | inl e ↦ subst (λ j. slice_get (slice_set slots (option_slot first k) v) (option_slot first j) ≡ Some (noted_in w' j)) (sym e) (get_same slots (option_slot first k) v within ∙ ap Some (sym here))
      | inr n ↦ get_other slots (option_slot first k) (option_slot first j) v (noted_in w j) (λ q. n (omega (arith, q))) h.0 ∙ ap Some (sym (other j n))
    ] in (go (differs k j), keeps_noted k v w w' first js held kept slots here other unheld within h.1)

fits_noted : (k : Setting) (v : Value) (w w' : Work) (first : ℕ) (ks : List Setting) (names : Names) (held : List ℕ) (kept : List Value) (ls : Bindings) (slots : List Value) → noted_in w' k ≡ v → ((j : Setting) → option_number j ≢ option_number k → noted_in w' j ≡ noted_in w j)
    → Free (option_slot first k) names → Unheld (option_slot first k) held → option_slot first k < length slots → Fits names (slots_of first ks ++ held) (notes w ks ++ kept) ls slots → Fits names (slots_of first ks ++ held) (notes w' ks ++ kept) ls (slice_set slots (option_slot first k) v)
fits_noted k v w w' first ks names held kept ls slots here other free unheld within f =
    record { holds = holds_other names ls slots (option_slot first k) v free f.holds; keeps = keeps_noted k v w w' first ks held kept slots here other unheld within f.keeps; apart = f.apart }

-- one more option is known
fits_known : (k : Setting) (v : Value) (w w' : Work) (first : ℕ) (ks : List Setting) (names : Names) (held : List ℕ) (kept : List Value) (ls : Bindings) (slots : List Value) → noted_in w' k ≡ v → ((j : Setting) → option_number j ≢ option_number k → noted_in w' j ≡ noted_in w j)
    → Free (option_slot first k) names → Unheld (option_slot first k) held → option_slot first k < length slots → Fits names (slots_of first ks ++ held) (notes w ks ++ kept) ls slots → Fits names (slots_of first (k ∷ ks) ++ held) (notes w' (k ∷ ks) ++ kept) ls (slice_set slots (option_slot first k) v)
fits_known k v w w' first ks names held kept ls slots here other free unheld within f =
    let g = fits_noted k v w w' first ks names held kept ls slots here other free unheld within f in
    record { holds = g.holds; keeps = (get_same slots (option_slot first k) v within ∙ ap Some (sym here), g.keeps); apart = apart_more names (option_slot first k) (slots_of first ks ++ held) free g.apart }

as_many : (first : ℕ) (w : Work) (ks : List Setting) → length (slots_of first ks) ≡ length (notes w ks)
as_many first w [] = refl
as_many first w (k ∷ ks) = ap suc (as_many first w ks)

-- Noting an option in what is behind it

module _ (o : Source) (u : CodeUnit) where
  wanted_settled : (making : Making) (tested : Bool) (k : Setting) (v : Value) (w : Work) (function first : ℕ) (ks : List Setting) (pc start exit kind : ℕ) → IsTested k tested → Wanted o u making tested w function first ks pc start exit kind → Wanted o u making tested (noted k v w) function first ks pc start exit kind
  wanted_settled as_rule tested k v w function first ks pc start exit kind test h = h
  wanted_settled as_task true k v w function first ks pc start exit kind test h = h
  wanted_settled as_task false k v w function first ks pc start exit kind test h = (needed_kept k v w test ∙ h.0, h.1)

  module _ (function : ℕ) (held : List ℕ) (names : Names) (exit kind first : ℕ) (tested : Bool) where
    abbrev Here : Term → List Setting → ℕ → Type 0
    Here t ks pc = Options o u t function held names exit kind first tested ks pc

    work_settled : (k : Setting) (v : Value) (t : Term) (ks : List Setting) (pc : ℕ) → Here t ks pc → work_in (settled k v t) ≡ noted k v (work_in t)
    work_settled k v (Settle j a rest) ks pc h = work_settled k v rest (known_behind j ks) h.1 h.5
    work_settled k v (Weigh line rest) ks pc h = work_settled k v rest ks h.1 h.7
    work_settled k v (Make making line w command) ks pc h = refl
    work_settled k v _ ks pc h = absurd h

    options_settled : (k : Setting) (v : Value) (t : Term) (ks : List Setting) (pc : ℕ) → IsTested k tested → Here t ks pc → Here (settled k v t) ks pc
    options_settled k v (Settle j a rest) ks pc test h = (h.0, h.1, h.2, h.3, h.4, options_settled k v rest (known_behind j ks) h.1 test h.5)
    options_settled k v (Weigh line rest) ks pc test h = (h.0, h.1, h.2, h.3, h.4, h.5, h.6, options_settled k v rest ks h.1 test h.7)
    options_settled k v (Make making line w command) ks pc test h = (h.0, h.1, h.2, h.3, wanted_settled making tested k v w function first ks pc h.0 exit kind test h.4, h.5, h.6, h.7, h.8, h.9)
    options_settled k v _ ks pc test h = absurd h

  -- options stand wherever the machine arrives
  options_stand : (t : Term) (vs : Variables) (c : Site) (s : Stack) (first : ℕ) (tested : Bool) (ks : List Setting) (pc : ℕ) → AreSpare o u first c.names c.held → Options o u t c.function c.held c.names c.exit c.kind first tested ks pc
      → Arrives o u vs c first (work_in t) ks pc s → Stands o u t vs c s
  options_stand (Settle k a rest) vs c s first tested ks pc spare opts arr = (first, (tested, (ks, spare, inr (pc, opts, arr))))
  options_stand (Weigh line rest) vs c s first tested ks pc spare opts arr = (first, (tested, (ks, spare, (pc, opts, arr))))
  options_stand (Make making line w command) vs c s first tested ks pc spare opts arr = inr (first, (tested, (ks, spare, (pc, opts, arr))))
  options_stand _ vs c s first tested ks pc spare opts arr = absurd opts

module _ (o : Source) (u : CodeUnit) (Live : Parts → Type 0) (moves : Moves u Live) where
  -- the machine is where options begin
  pub record Arrived (vs : Variables) (c : Site) (first : ℕ) (w : Work) (ks : List Setting) (pc : ℕ) (s : Stack) : Type 0 where
    pub slots : List Value
    pub named : Named o u vs
    pub fits : Fits c.names (slots_of first ks ++ c.held) (notes w ks ++ c.kept) vs.locals slots
    pub leads : Leads u (parts vs s) (parts vs (at c pc slots c.base))

  sets_arrive : (vs : Variables) (c : Site) (first : ℕ) (w : Work) (new before : List Setting) (from pc : ℕ) (slots : List Value) → AreSpare o u first c.names c.held → Sets o u w c.function first from new pc → Named o u vs
      → Fits c.names (slots_of first before ++ c.held) (notes w before ++ c.kept) vs.locals slots → Live (parts vs (at c from slots c.base)) → Arrived vs c first w (new ++ before) pc (at c from slots c.base)
  sets_arrive vs c first w [] before from pc slots spare sets named fits live =
      record { slots = slots; named = named; fits = fits; leads = same_place o u Live moves vs c from pc slots c.base (parts vs (at c from slots c.base)) sets (stays u (parts vs (at c from slots c.base))) }
  sets_arrive vs c first w (k ∷ new) before from pc slots spare sets named fits live =
      let mid = sets.0 in
      let q = sets_arrive vs c first w new before from mid slots spare sets.1 named fits live in
      let code = sets.2.2 in
      let v = noted_in w k in
      let live1 = lives u Live moves _ _ q.leads live in
      let lead1 = push_lead o u Live moves vs c mid sets.2.0 v q.slots c.base sets.2.1 code.0 live1 in
      let live2 = lives u Live moves _ _ lead1 live1 in
      let lead2 = store_lead o u Live moves vs c (mid + 1) (option_slot first k) v q.slots c.base code.1.0 live2 in
      let within = store_within o u Live moves vs c (mid + 1) (option_slot first k) v q.slots c.base code.1.0 live2 in
      let slots' = slice_set q.slots (option_slot first k) v in record {
        slots = slots';
        named = named;
        fits = fits_known k v w w first (new ++ before) c.names c.held c.kept vs.locals q.slots refl (λ j n. refl) (spare k).0 (spare k).1 within q.fits;
        leads = same_place o u Live moves vs c (mid + 1 + 1) pc slots' c.base (parts vs (at c from slots c.base)) code.1.1 (leads_on u _ _ _ q.leads (leads_on u _ _ _ lead1 lead2));
      }

  joins_arrive : (vs : Variables) (c : Site) (first : ℕ) (old w : Work) (ks : List Setting) (from pc : ℕ) (v : Value) (slots : List Value) → AreSpare o u first c.names c.held → w ≡ noted Condition v old → Joins o u c.function first from pc → Named o u vs
      → Fits c.names (slots_of first ks ++ c.held) (notes old ks ++ c.kept) vs.locals slots → Live (parts vs (at c from slots (v ∷ c.base))) → Arrived vs c first w ks pc (at c from slots (v ∷ c.base))
  joins_arrive vs c first old w ks from pc v slots spare e joins named fits live = go (is_true v) refl
    where
      go : (b : Bool) → is_true v ≡ b → Arrived vs c first w ks pc (at c from slots (v ∷ c.base))
      go true q =
          let lead = branch_lead o u Live moves vs c from joins.no v slots c.base true q joins.test live in record {
            slots = slots;
            named = named;
            fits = subst (λ w. Fits c.names (slots_of first ks ++ c.held) (notes w ks ++ c.kept) vs.locals slots) (sym (e ∙ noted_true v old q)) fits;
            leads = leads_on u _ _ _ lead (comes_lead o u vs c (from + 1) pc slots c.base joins.over);
          }
      go false q =
          let code = joins.off in
          let n = option_slot first Condition in
          let no : Value = value.Bool false in
          let lead1 = branch_lead o u Live moves vs c from joins.no v slots c.base false q joins.test live in
          let live1 = lives u Live moves _ _ lead1 live in
          let lead2 = push_lead o u Live moves vs c joins.no (instr.PushBool false) no slots c.base refl code.0 live1 in
          let live2 = lives u Live moves _ _ lead2 live1 in
          let lead3 = store_lead o u Live moves vs c (joins.no + 1) n no slots c.base code.1.0 live2 in
          let within = store_within o u Live moves vs c (joins.no + 1) n no slots c.base code.1.0 live2 in
          let slots' = slice_set slots n no in
          let back = same_place o u Live moves vs c (joins.no + 1 + 1) joins.back slots' c.base (parts vs (at c from slots (v ∷ c.base))) code.1.1 (leads_on u _ _ _ lead1 (leads_on u _ _ _ lead2 lead3)) in record {
            slots = slots';
            named = named;
            fits = fits_noted Condition no old w first ks c.names c.held c.kept vs.locals slots (ap (λ w. noted_in w Condition) e ∙ noted_false v old q) (λ j n. ap (λ w. noted_in w j) e ∙ noted_other Condition j v old n) (spare Condition).0 (spare Condition).1 within fits;
            leads = leads_on u _ _ _ back (comes_lead o u vs c joins.back pc slots' c.base joins.on);
          }

  arrived : (vs : Variables) (c : Site) (first : ℕ) (w : Work) (ks : List Setting) (pc : ℕ) (s : Stack) → AreSpare o u first c.names c.held → Live (parts vs s) → Arrives o u vs c first w ks pc s → Arrived vs c first w ks pc s
  arrived vs c first w ks pc s spare live (inl r) =
      let st = r.1.4 in
      subst (λ ks. Arrived vs c first w ks pc s) (sym r.1.2)
      (subst (λ z. Arrived vs c first w (r.1.0 ++ r.1.1) pc z) (sym st.is) (sets_arrive vs c first w r.1.0 r.1.1 r.0 pc st.slots spare r.1.3 st.named st.holds (subst (λ z. Live (parts vs z)) st.is live)))
  arrived vs c first w ks pc s spare live (inr r) =
      let q = r.1.1 in
      let st = q.3 in
      subst (λ z. Arrived vs c first w ks pc z) (sym st.is) (joins_arrive vs c first q.0 w ks r.0 pc r.1.0 st.slots spare q.1 q.2 st.named st.holds (subst (λ z. Live (parts vs z)) st.is live))

  -- an option's value is noted

  plain_follows : (k : Setting) (rest : Term) (vs : Variables) (c : Site) (first : ℕ) (tested : Bool) (ks : List Setting) (mid to : ℕ) (v : Value) (slots : List Value) → AreSpare o u first c.names c.held → Row o u c.function mid (instr.Store (option_slot first k) ∷ []) to
      → IsTested k tested → Options o u rest c.function c.held c.names c.exit c.kind first tested (k ∷ ks) to → ((w : Work) → noted_in (noted k v w) k ≡ v) → Named o u vs → Fits c.names (slots_of first ks ++ c.held) (notes (work_in rest) ks ++ c.kept) vs.locals slots
      → Live (parts vs (at c mid slots (v ∷ c.base))) → Follows o u (Becomes false vs (settled k v rest)) vs c (at c mid slots (v ∷ c.base))
  plain_follows k rest vs c first tested ks mid to v slots spare code test opts here named fits live =
      let w = work_in rest in
      let e = work_settled o u c.function c.held c.names c.exit c.kind first tested k v rest (k ∷ ks) to opts in
      let slots' = slice_set slots (option_slot first k) v in
      let lead = same_place o u Live moves vs c (mid + 1) to slots' c.base (parts vs (at c mid slots (v ∷ c.base))) code.1 (store_lead o u Live moves vs c mid (option_slot first k) v slots c.base code.0 live) in
      let within = store_within o u Live moves vs c mid (option_slot first k) v slots c.base code.0 live in
      let fits' = fits_known k v w (work_in (settled k v rest)) first ks c.names c.held c.kept vs.locals slots (ap (λ w. noted_in w k) e ∙ here w) (λ j n. ap (λ w. noted_in w j) e ∙ noted_other k j v w n) (spare k).0 (spare k).1 within fits in (
        at c to slots' c.base,
        lead,
        options_stand o u (settled k v rest) vs c (at c to slots' c.base) first tested (k ∷ ks) to spare (options_settled o u c.function c.held c.names c.exit c.kind first tested k v rest (k ∷ ks) to test opts)
            (inl (to, ([], k ∷ ks, refl, refl, record { named = named; slots = slots'; holds = fits'; is = refl }))),
      )

  note_follows : (k : Setting) (rest : Term) (vs : Variables) (c : Site) (first : ℕ) (tested : Bool) (ks : List Setting) (mid to : ℕ) (v : Value) (slots : List Value) → AreSpare o u first c.names c.held → Notes o u k c.function first mid to
      → IsTested k tested → Options o u rest c.function c.held c.names c.exit c.kind first tested (known_behind k ks) to → Named o u vs → Fits c.names (slots_of first ks ++ c.held) (notes (work_in rest) ks ++ c.kept) vs.locals slots
      → Live (parts vs (at c mid slots (v ∷ c.base))) → Follows o u (Becomes false vs (settled k v rest)) vs c (at c mid slots (v ∷ c.base))
  note_follows Condition rest vs c first tested ks mid to v slots spare code test opts named fits live = (
    at c mid slots (v ∷ c.base),
    stays u (parts vs (at c mid slots (v ∷ c.base))),
    options_stand o u (settled Condition v rest) vs c (at c mid slots (v ∷ c.base)) first tested ks to spare (options_settled o u c.function c.held c.names c.exit c.kind first tested Condition v rest ks to test opts)
        (inr (mid, (v, (work_in rest, work_settled o u c.function c.held c.names c.exit c.kind first tested Condition v rest ks to opts, code, record { named = named; slots = slots; holds = fits; is = refl })))),
  )
  note_follows Outputs rest vs c first tested ks mid to v slots spare code test opts named fits live = plain_follows Outputs rest vs c first tested ks mid to v slots spare code test opts (λ w. refl) named fits live
  note_follows Inputs rest vs c first tested ks mid to v slots spare code test opts named fits live = plain_follows Inputs rest vs c first tested ks mid to v slots spare code test opts (λ w. refl) named fits live
  note_follows Processors rest vs c first tested ks mid to v slots spare code test opts named fits live = plain_follows Processors rest vs c first tested ks mid to v slots spare code test opts (λ w. refl) named fits live
  note_follows CanFail rest vs c first tested ks mid to v slots spare code test opts named fits live = plain_follows CanFail rest vs c first tested ks mid to v slots spare code test opts (λ w. refl) named fits live
  note_follows Retries rest vs c first tested ks mid to v slots spare code test opts named fits live = plain_follows Retries rest vs c first tested ks mid to v slots spare code test opts (λ w. refl) named fits live
  note_follows TaskName rest vs c first tested ks mid to v slots spare code test opts named fits live = plain_follows TaskName rest vs c first tested ks mid to v slots spare code test opts (λ w. refl) named fits live

  abbrev settling : Term → Variables → ℕ → Setting → Term → Act
  settling a vs d k rest = Rattle.bds_meaning.specs.Acts.bind (step o.program vs d a) (λ a'. Settle k a' rest) (λ us. Becomes false vs (settled k (first us) rest))

  settle_underway : (k : Setting) (a rest : Term) (vs : Variables) (d : ℕ) (c : Site) (s : Stack) (first : ℕ) (tested : Bool) (ks : List Setting) (mid to : ℕ) → suc (length c.below) ≡ d → Live (parts vs s) → Sim o u Live moves a vs d → AreSpare o u first c.names c.held
      → Notes o u k c.function first mid to → IsTested k tested → Options o u rest c.function c.held c.names c.exit c.kind first tested (known_behind k ks) to → Stands o u a vs (part_holding c (slots_of first ks) (notes (work_in rest) ks) mid 1) s
      → Follows o u (settling a vs d k rest) vs c s
  settle_underway k a rest vs d c s first' tested ks mid to e live sa spare code test opts st =
      let ca = part_holding c (slots_of first' ks) (notes (work_in rest) ks) mid 1 in
      bind_follows o u Live moves (step o.program vs d a) (λ a'. Settle k a' rest) (λ us. Becomes false vs (settled k (first us) rest)) vs ca c s (record { function = refl; below = refl; loop = inl refl }) live
      (λ vs' a' s' st'. (first', (tested, (ks, spare, inl (mid, to, code, test, opts, st')))))
      (λ us slots len named fits live'. one_follows o u Live moves us (Becomes false vs (settled k (first us) rest)) vs c mid slots len live'
      (λ live''. note_follows k rest vs c first' tested ks mid to (first us) slots spare code test opts named fits live''))
      (sa ca s e live st)

  pub settle_follows : (k : Setting) (a rest : Term) (vs : Variables) (d : ℕ) (c : Site) (s : Stack) → suc (length c.below) ≡ d → Live (parts vs s) → Sim o u Live moves a vs d → Stands o u (Settle k a rest) vs c s → Follows o u (settling a vs d k rest) vs c s
  settle_follows k a rest vs d c s e live sa r = go r.1.1.2
    where
      first' : ℕ
      first' = r.0

      tested : Bool
      tested = r.1.0

      ks : List Setting
      ks = r.1.1.0

      spare : AreSpare o u first' c.names c.held
      spare = r.1.1.1

      go : ((mid to : ℕ) × Notes o u k c.function first' mid to × IsTested k tested × Options o u rest c.function c.held c.names c.exit c.kind first' tested (known_behind k ks) to × Stands o u a vs (part_holding c (slots_of first' ks) (notes (work_in rest) ks) mid 1) s)
          ⊎ ((pc : ℕ) × SettleAt o u k (Stands o u a) (Options o u rest c.function c.held c.names c.exit c.kind first' tested) c.function c.held c.names first' tested ks pc × Arrives o u vs c first' (work_in rest) ks pc s) → Follows o u (settling a vs d k rest) vs c s
      go = elim [
        | inl q ↦ settle_underway k a rest vs d c s first' tested ks q.0 q.1 e live sa spare q.2 q.3 q.4 q.5
        | inr q ↦
            let h = q.1 in
            let w = arrived vs c first' (work_in rest) ks q.0 s spare live q.2 in
            let s' : Stack = at c q.0 w.slots c.base in
            behind o u (settling a vs d k rest) vs c s s' w.leads
            (settle_underway k a rest vs d c s' first' tested ks h.0 h.1 e (lives u Live moves _ _ w.leads live) sa spare h.3 h.4 h.5 (h.2.at vs w.slots c.base (notes (work_in rest) ks ++ c.kept) c.below w.named w.fits))
      ]

  -- options are loaded
  options_lead : (vs : Variables) (c : Site) (first : ℕ) (w : Work) (ks js : List Setting) (pc to : ℕ) (slots ops : List Value) → KeepsHeld (slots_of first ks ++ c.held) (notes w ks ++ c.kept) slots → AreAmong js ks → Row o u c.function pc (loads_of first js) to
      → Leads u (parts vs (at c pc slots ops)) (parts vs (at c to slots (onto (notes w js) ops)))
  options_lead vs c first w ks [] pc to slots ops keeps among code = same_place o u Live moves vs c pc to slots ops (parts vs (at c pc slots ops)) code (stays u (parts vs (at c pc slots ops)))
  options_lead vs c first w ks (j ∷ js) pc to slots ops keeps among code =
      leads_on u _ _ _ (load_lead o u Live moves vs c pc (option_slot first j) (noted_in w j) slots ops (keeps_among j ks first w c.held c.kept slots among.0 keeps) code.0)
      (options_lead vs c first w ks js (pc + 1) to slots (noted_in w j ∷ ops) keeps among.1 code.1)

  gives_back : (c : Site) (pc : ℕ) (slots ws : List Value) → answered ws (at c pc slots c.base) ≡ Some (at c pc slots (ws ++ c.base))
  gives_back c pc slots [] = refl
  gives_back c pc slots (v ∷ ws) = ap (λ q. q >>= pushed v) (gives_back c pc slots ws)

  -- whether outputs are out of date is a condition
  pub weigh_follows : (line : At) (rest : Term) (vs : Variables) (c : Site) (s : Stack) → Live (parts vs s) → Stands o u (Weigh line rest) vs c s
      → Follows o u (Wants line (Compares (texts_in (work_in rest).outs) (texts_in (work_in rest).ins)) (λ us. settled Condition (first us) rest)) vs c s
  weigh_follows line rest vs c s live r =
      let first' = r.0 in
      let tested = r.1.0 in
      let ks = r.1.1.0 in
      let spare = r.1.1.1 in
      let h = r.1.1.2.1 in
      let w : Work = work_in rest in
      let a = arrived vs c first' w ks r.1.1.2.0 s spare live r.1.1.2.2 in
      let place = h.0 in
      let is = h.5.is in
      let us0 : List Value = w.ins ∷ w.outs ∷ [] in
      let lead = leads_on u _ _ _ a.leads (options_lead vs c first' w ks (Outputs ∷ Inputs ∷ []) r.1.1.2.0 place a.slots c.base a.fits.keeps h.2 h.4) in
      let live' = lives u Live moves _ _ lead live in
      let q = asks Compared us0 refl in (
        at c place a.slots (us0 ++ c.base),
        at c (place + 1) a.slots c.base,
        lead,
        (
          q.point,
          q.is,
          λ t. here o u (values vs.globals) (call c place a.slots (us0 ++ c.base)) c.below t instr.OutOfDate is ∙ q.row_is u is.f c.function place (values vs.globals) a.slots c.base c.below t (alive o u Live moves vs c place instr.OutOfDate a.slots (us0 ++ c.base) is t live'),
          record { function = c.function; pc = place; f = is.f; stands = refl; there = is.there; lines = h.5.lines },
          λ us len. (
            at c (place + 1) a.slots (us ++ c.base),
            gives_back c (place + 1) a.slots us,
            options_stand o u (settled Condition (first us) rest) vs c (at c (place + 1) a.slots (us ++ c.base)) first' tested ks h.1 spare (options_settled o u c.function c.held c.names c.exit c.kind first' tested Condition (first us) rest ks h.1 h.3 h.7)
                (inr (
                  place + 1,
                  (
                    first us,
                    (w, work_settled o u c.function c.held c.names c.exit c.kind first' tested Condition (first us) rest ks h.1 h.7, h.6, record { named = a.named; slots = a.slots; holds = a.fits; is = ap (λ l. at c (place + 1) a.slots (l ++ c.base)) (one_value o u us len) }),
                  ),
                )),
          ),
        ),
      )

  -- the task or rule

  made_follows : (making : Making) (line : At) (w : Work) (command : Value) (vs : Variables) (c : Site) (end : ℕ) (slots : List Value) → Lined o u c.function end (making_code making) line → Comes o u c.function (end + 1) c.exit → making_count making ≡ c.kind → Named o u vs
      → Fits c.names c.held c.kept vs.locals slots → Live (parts vs (at c end slots (command ∷ onto (notes w made_of) c.base))) → Follows o u (made making line w (text_in command)) vs c (at c end slots (command ∷ onto (notes w made_of) c.base))
  made_follows as_task line w command vs c end slots lined comes k named fits live =
      go (in_ranges w (task_of w (text_in command))) (λ t. task_row u lined.is.f c.function end (values vs.globals) slots c.below t w command c.base (alive o u Live moves vs c end instr.NewTask slots (command ∷ onto (notes w made_of) c.base) lined.is t live))
    where
      s : Stack
      s = at c end slots (command ∷ onto (notes w made_of) c.base)

      go : (q : Result TaskNew RunFault) → ((t : ℕ) → row u lined.is.f instr.NewTask end (values vs.globals) s t ≡ left_with u lined.is.f c.function end (values vs.globals) slots c.below t c.base (Some (mapped point.Task q))) → Follows o u (wanting line MakesTask q) vs c s
      go (Ok task) on = (
        s,
        at c (end + 1) slots c.base,
        stays u (parts vs s),
        (
          point.Task task,
          refl,
          λ t. here o u (values vs.globals) (call c end slots (command ∷ onto (notes w made_of) c.base)) c.below t instr.NewTask lined.is ∙ on t,
          record { function = c.function; pc = end; f = lined.is.f; stands = refl; there = lined.is.there; lines = lined.lines },
          λ us len. (at c (end + 1) slots (us ++ c.base), gives_back c (end + 1) slots us, (len ∙ k, (end + 1, comes, record { named = named; slots = slots; holds = fits; is = refl }))),
        ),
      )
      go (Err fault) on = (
        s,
        stays u (parts vs s),
        λ t. here o u (values vs.globals) (call c end slots (command ∷ onto (notes w made_of) c.base)) c.below t instr.NewTask lined.is ∙ on t ∙ ap (λ l. l >>= λ at. Some (Ends (point.Stop fault at) t)) lined.lines,
      )
  made_follows as_rule line w command vs c end slots lined comes k named fits live =
      go (in_ranges w (rule_of w (text_in command))) (λ t. rule_row u lined.is.f c.function end (values vs.globals) slots c.below t w command c.base (alive o u Live moves vs c end instr.Declare slots (command ∷ onto (notes w made_of) c.base) lined.is t live))
    where
      s : Stack
      s = at c end slots (command ∷ onto (notes w made_of) c.base)

      go : (q : Result Rule RunFault) → ((t : ℕ) → row u lined.is.f instr.Declare end (values vs.globals) s t ≡ left_with u lined.is.f c.function end (values vs.globals) slots c.below t c.base (Some (mapped point.Declare q))) → Follows o u (wanting line Declares q) vs c s
      go (Ok rule) on = (
        s,
        at c (end + 1) slots c.base,
        stays u (parts vs s),
        (
          point.Declare rule,
          refl,
          λ t. here o u (values vs.globals) (call c end slots (command ∷ onto (notes w made_of) c.base)) c.below t instr.Declare lined.is ∙ on t,
          record { function = c.function; pc = end; f = lined.is.f; stands = refl; there = lined.is.there; lines = lined.lines },
          λ us len. (at c (end + 1) slots (us ++ c.base), gives_back c (end + 1) slots us, (len ∙ k, (end + 1, comes, record { named = named; slots = slots; holds = fits; is = refl }))),
        ),
      )
      go (Err fault) on = (
        s,
        stays u (parts vs s),
        λ t. here o u (values vs.globals) (call c end slots (command ∷ onto (notes w made_of) c.base)) c.below t instr.Declare lined.is ∙ on t ∙ ap (λ l. l >>= λ at. Some (Ends (point.Stop fault at) t)) lined.lines,
      )

  abbrev makes : Term → Variables → ℕ → Making → At → Work → Act
  makes command vs d making line w = Rattle.bds_meaning.specs.Acts.bind (step o.program vs d command) (λ command'. Make making line w command') (λ us. made making line w (text_in (first us)))

  make_underway : (making : Making) (line : At) (w : Work) (command : Term) (vs : Variables) (d : ℕ) (c : Site) (s : Stack) (end : ℕ) → suc (length c.below) ≡ d → Live (parts vs s) → Sim o u Live moves command vs d → is_wanted making w ≡ true
      → Lined o u c.function end (making_code making) line → Comes o u c.function (end + 1) c.exit → making_count making ≡ c.kind → Stands o u command vs (part_over c (onto (notes w made_of) []) end 1) s → Follows o u (makes command vs d making line w) vs c s
  make_underway making line w command vs d c s end e live sc wanted lined comes k st =
      let ca = part_over c (onto (notes w made_of) []) end 1 in
      bind_follows o u Live moves (step o.program vs d command) (λ command'. Make making line w command') (λ us. made making line w (text_in (first us))) vs ca c s (record { function = refl; below = refl; loop = inl refl }) live
      (λ vs' a' s' st'. inl (end, wanted, lined, comes, k, st'))
      (λ us slots len named fits live'. let q = one_value o u us len in
      subst (λ l. Follows o u (made making line w (text_in (first us))) vs c (at c end slots (l ++ onto (notes w made_of) c.base))) (sym q)
      (made_follows making line w (first us) vs c end slots lined comes k named fits (subst (λ l. Live (parts vs (at c end slots (l ++ onto (notes w made_of) c.base)))) q live')))
      (sc ca s e live st)

  -- from the options to the command, where it is wanted
  wanted_lead : (making : Making) (tested : Bool) (w : Work) (vs : Variables) (c : Site) (first : ℕ) (ks : List Setting) (pc start : ℕ) (slots : List Value) → is_wanted making w ≡ true → Wanted o u making tested w c.function first ks pc start c.exit c.kind
      → KeepsHeld (slots_of first ks ++ c.held) (notes w ks ++ c.kept) slots → Live (parts vs (at c pc slots c.base)) → Leads u (parts vs (at c pc slots c.base)) (parts vs (at c start slots c.base))
  wanted_lead as_rule tested w vs c first ks pc start slots e h keeps live = same_place o u Live moves vs c pc start slots c.base (parts vs (at c pc slots c.base)) h (stays u (parts vs (at c pc slots c.base)))
  wanted_lead as_task false w vs c first ks pc start slots e h keeps live = same_place o u Live moves vs c pc start slots c.base (parts vs (at c pc slots c.base)) h.1 (stays u (parts vs (at c pc slots c.base)))
  wanted_lead as_task true w vs c first ks pc start slots e h keeps live =
      let v : Value = value.Bool w.needed in
      let lead = load_lead o u Live moves vs c pc (option_slot first Condition) v slots c.base (keeps_among Condition ks first w c.held c.kept slots h.2 keeps) h.3.0 in
      same_place o u Live moves vs c (pc + 1 + 1) start slots c.base (parts vs (at c pc slots c.base)) h.3.1.1
      (leads_on u _ _ _ lead (branch_lead o u Live moves vs c (pc + 1) h.0 v slots c.base true (truth_of w.needed ∙ e) h.3.1.0 (lives u Live moves _ _ lead live)))

  -- a task that isn't needed is an empty text
  unwanted_follows : (making : Making) (tested : Bool) (w : Work) (vs : Variables) (c : Site) (first : ℕ) (ks : List Setting) (pc start : ℕ) (slots : List Value) → is_wanted making w ≡ false → Wanted o u making tested w c.function first ks pc start c.exit c.kind → Named o u vs
      → KeepsHeld (slots_of first ks ++ c.held) (notes w ks ++ c.kept) slots → Fits c.names c.held c.kept vs.locals slots → Live (parts vs (at c pc slots c.base)) → Follows o u (Becomes false vs (Reduced (value.Text [] ∷ []))) vs c (at c pc slots c.base)
  unwanted_follows as_rule tested w vs c first ks pc start slots e h named keeps fits live = absurd (Prim.cc e)
  unwanted_follows as_task false w vs c first ks pc start slots e h named keeps fits live = absurd (Prim.cc (e, h.0))
  unwanted_follows as_task true w vs c first ks pc start slots e h named keeps fits live =
      let v : Value = value.Bool w.needed in
      let lead1 = load_lead o u Live moves vs c pc (option_slot first Condition) v slots c.base (keeps_among Condition ks first w c.held c.kept slots h.2 keeps) h.3.0 in
      let live1 = lives u Live moves _ _ lead1 live in
      let lead2 = branch_lead o u Live moves vs c (pc + 1) h.0 v slots c.base false (truth_of w.needed ∙ e) h.3.1.0 live1 in
      let live2 = lives u Live moves _ _ lead2 live1 in
      let lead3 = push_lead o u Live moves vs c h.0 (instr.PushText []) (value.Text []) slots c.base refl h.4.0 live2 in
      let all = same_place o u Live moves vs c (h.0 + 1) h.1 slots (value.Text [] ∷ c.base) (parts vs (at c pc slots c.base)) h.4.1 (leads_on u _ _ _ lead1 (leads_on u _ _ _ lead2 lead3)) in (
        at c h.1 slots (value.Text [] ∷ c.base),
        all,
        (h.6, (h.1, h.5, record { named = named; slots = slots; holds = fits; is = refl })),
      )

  make_arrived : (making : Making) (line : At) (w : Work) (command : Term) (vs : Variables) (d : ℕ) (c : Site) (first : ℕ) (tested : Bool) (ks : List Setting) (pc : ℕ) (slots : List Value) → suc (length c.below) ≡ d → Sim o u Live moves command vs d
      → MakeAt o u making line w (Stands o u command) c.function c.held c.names c.exit c.kind first tested ks pc → Named o u vs → Fits c.names (slots_of first ks ++ c.held) (notes w ks ++ c.kept) vs.locals slots → Live (parts vs (at c pc slots c.base))
      → (wanted : Bool) → is_wanted making w ≡ wanted → Follows o u (made_if wanted vs (makes command vs d making line w)) vs c (at c pc slots c.base)
  make_arrived making line w command vs d c first tested ks pc slots e sc h named fits live true q =
      let less = fits_fewer c.names (slots_of first ks) c.held (notes w ks) c.kept vs.locals slots (as_many first w ks) fits in
      let lead1 = wanted_lead making tested w vs c first ks pc h.0 slots q h.4 fits.keeps live in
      let lead = leads_on u _ _ _ lead1 (options_lead vs c first w ks made_of h.0 h.1 slots c.base fits.keeps h.3 h.5) in
      let s' : Stack = at c h.1 slots (onto (notes w made_of) c.base) in
      behind o u (makes command vs d making line w) vs c (at c pc slots c.base) s' lead
      (make_underway making line w command vs d c s' h.2 e (lives u Live moves _ _ lead live) sc q h.7 h.8 h.9 (h.6.at vs slots (onto (notes w made_of) c.base) c.kept c.below named less))
  make_arrived making line w command vs d c first tested ks pc slots e sc h named fits live false q =
      let less = fits_fewer c.names (slots_of first ks) c.held (notes w ks) c.kept vs.locals slots (as_many first w ks) fits in
      unwanted_follows making tested w vs c first ks pc h.0 slots q h.4 named fits.keeps less live

  pub make_follows : (making : Making) (line : At) (w : Work) (command : Term) (vs : Variables) (d : ℕ) (c : Site) (s : Stack) → suc (length c.below) ≡ d → Live (parts vs s) → Sim o u Live moves command vs d → Stands o u (Make making line w command) vs c s
      → Follows o u (made_if (is_wanted making w) vs (makes command vs d making line w)) vs c s
  make_follows making line w command vs d c s e live sc (inl r) =
      subst (λ b. Follows o u (made_if b vs (makes command vs d making line w)) vs c s) (sym r.1) (make_underway making line w command vs d c s r.0 e live sc r.1 r.2 r.3 r.4 r.5)
  make_follows making line w command vs d c s e live sc (inr r) =
      let pc = r.1.1.2.0 in
      let a = arrived vs c r.0 w r.1.1.0 pc s r.1.1.1 live r.1.1.2.2 in
      behind o u (made_if (is_wanted making w) vs (makes command vs d making line w)) vs c s (at c pc a.slots c.base) a.leads
      (make_arrived making line w command vs d c r.0 r.1.0 r.1.1.0 pc a.slots e sc r.1.1.2.1 a.named a.fits (lives u Live moves _ _ a.leads live) (is_wanted making w) refl)
