-- A `switch`: its labels, one behind another, and the statements of its cases.
use Rattle.std.proofs.Common.{◌≡◌, ℕ, suc, ◌+◌, Bool, true, false, List, [], ◌∷◌, ◌++◌, length, Option, Some, None, Result, Ok, Err, slice_get, slice_set, refl, sym, ap, ◌∙◌, subst, inl, inr, arith}
use Rattle.bds_value.specs.declared.value.Value.{Value, out-Value}
use Rattle.bds_value.specs.declared.value.Value.TheOpen.{Value-F}
use Rattle.bds_value.specs.declared.value.Value.TheVariants as value
use Rattle.bds_value.specs.declared.value.Op.TheVariants as op
use Rattle.bds_value.specs.declared.faults.RunFault.{RunFault}
use Rattle.bds_value.specs.Operators.{holds, result_at, binary_of}
use Rattle.bds_value.specs.Order.{text_cmp}
use Rattle.std.specs.Ordering.{int_cmp, bool_cmp}
use Rattle.bds_code.specs.declared.instr.Instr.TheVariants as instr
use Rattle.bds_code.specs.declared.unit.Unit.{Unit as CodeUnit}
use Rattle.bds_code_frames.specs.Stack.{Stack}
use Rattle.bds_meaning.specs.Acts.{Act, Has, Becomes, Wants, Fails, Returns, Breaks, Continues, Exits, in_switch}
use Rattle.bds_meaning.specs.Computed.{computed}
use Rattle.bds_meaning.specs.Step.{step}
use Rattle.bds_meaning.specs.Switches.{is_true_result, is_equal, statements_of, from_default, tried, compared}
use Rattle.bds_meaning.specs.Term.{Term, Reduced, Operated, Nothing, Then, Switch, Case, Default, Tries, Within}
use Rattle.bds_schedule.specs.Values.{first}
use Rattle.bds_meaning.specs.Variables.{Variables, left_to}
use Rattle.bds_value.specs.Readers.{is_true}
use Rattle.bds_sim_terms.specs.steps.Stands.{Source, Names, Fits, parts, Target, target, Loop, switch_at, Site, at, part, part_holding, switched, Is, Comes, Named, CodeBegins, SwitchAt, CaseAt, Tested, CasesRun, CasesTried, DefaultRuns, Stands}
use Rattle.bds_sim.specs.Threads.{Parts}
use Rattle.bds_sim_terms.proofs.steps.Leads.{Leads, Moves, stays, leads_on, lives, comes_lead}
use Rattle.bds_sim_terms.proofs.steps.Slots.{holds_length, fits_outer, fits_fewer, fits_held}
use Rattle.bds_sim_terms.proofs.steps.Follows.{Follows, Sim, bind_follows, no_value}
use Rattle.bds_sim_terms.proofs.steps.Computing.{computes}
use Rattle.bds_sim_terms.proofs.steps.Counting.{truth_of}
use Rattle.bds_sim_terms.proofs.steps.Walking.{load_lead, store_within, store_lead, computed_lead, branch_lead, same_place, one_follows}

-- a comparison always has a truth value
equal_is : (label v : Value) → (b : Bool) × (binary_of op.Equal label v ≡ Ok (value.Bool b))
equal_is label v = go (out-Value label) (out-Value v)
  where
    go : (a b : Value-F Value) → (t : Bool) × (result_at op.Equal a b v ≡ Ok (value.Bool t))
    go (Value-F.List t items) b = (false, refl)
    go (Value-F.Int a) (Value-F.Int b) = (holds op.Equal (int_cmp a b), refl)
    go (Value-F.Text a) (Value-F.Text b) = (holds op.Equal (text_cmp a b), refl)
    go (Value-F.Bool a) (Value-F.Bool b) = (holds op.Equal (bool_cmp a b), refl)
    go (Value-F.Map t entries) b = (false, refl)
    go (Value-F.Int a) _ = (false, refl)
    go (Value-F.Text a) _ = (false, refl)
    go (Value-F.Bool a) _ = (false, refl)

module _ (o : Source) (u : CodeUnit) where
  -- the statements of a case, and those behind them
  case_begins : (a rest : Term) (function start next : ℕ) (loop : Loop) (held : List ℕ) (names : Names) → CaseAt o u (Stands o u a) function loop held names start next → CodeBegins o u (Stands o u rest) function (Some loop) held names next names loop.out.place 0
      → CodeBegins o u (Stands o u (Then a rest)) function (Some loop) held names start names loop.out.place 0
  case_begins a rest function start next loop held names here behind = record {
    at = λ vs slots base kept below named fits. (refl, (names, (0, here.end, next, here.on, behind, here.begins.at vs slots base kept below named fits)));
  }

  -- the statements of cases, where their code begins
  pub statements_begin : (cases : Term) (function from : ℕ) (loop : Loop) (held : List ℕ) (names : Names) → CasesRun o u cases function loop held names from → CodeBegins o u (Stands o u (statements_of cases)) function (Some loop) held names from names loop.out.place 0
  statements_begin (Case label a cases) function from loop held names r = case_begins a (statements_of cases) function from r.0 loop held names r.1 (statements_begin cases function r.0 loop held names r.2)
  statements_begin (Default a cases) function from loop held names r = case_begins a (statements_of cases) function from r.0 loop held names r.1 (statements_begin cases function r.0 loop held names r.2)
  statements_begin _ function from loop held names r = record {
    at = λ vs slots base kept below named fits. (refl, (from, r, record { named = named; slots = slots; holds = fits; is = refl }));
  }

  -- the cases from `default` on
  default_runs : (cases : Term) (function from : ℕ) (loop : Loop) (held : List ℕ) (names : Names) → DefaultRuns o u cases function loop held names from → CasesRun o u (from_default cases) function loop held names from
  default_runs (Case label a cases) function from loop held names r = default_runs cases function from loop held names r
  default_runs (Default a cases) function from loop held names r = r
  default_runs _ function from loop held names r = r

  module _ (Live : Parts → Type 0) (moves : Moves u Live) where
    module _ (vs : Variables) (c : Site) (v : Value) (slot out : ℕ) (here : SwitchAt o u c slot out) where
      abbrev lp : Loop
      lp = switch_at c.loop out c.names

      abbrev Holding : List Value → Type 0
      Holding slots = Fits c.names (slot ∷ c.held) (v ∷ c.kept) vs.locals slots

      -- statements begin: the value isn't needed any more
      starts : (t : Term) (k pc : ℕ) (slots : List Value) → 0 ≡ c.kind → k ≡ length c.names → Named o u vs → Holding slots → CodeBegins o u (Stands o u t) c.function (Some lp) c.held c.names pc c.names out 0 → Stands o u (Within k t) vs c (at c pc slots c.base)
      starts t k pc slots z e named holds begins =
          (z, e, (out, here.done, (c.names, ([], refl, begins.at vs slots c.base c.kept c.below named (fits_fewer c.names (slot ∷ []) c.held (v ∷ []) c.kept vs.locals slots refl holds)))))

      -- the next label, or the other cases
      tried_follows : (cases others : Term) (k from other : ℕ) (slots : List Value) → 0 ≡ c.kind → k ≡ length c.names → Named o u vs → Holding slots → CasesTried o u cases c.function slot lp c.held c.names from other → CasesRun o u others c.function lp c.held c.names other
          → (s' : Stack) × Leads u (parts vs (at c from slots c.base)) (parts vs s') × Stands o u (tried k v cases others) vs c s'
      tried_follows (Case label a cases) others k from other slots z e named holds r runs =
          let l = r.3 in (
            at c from slots c.base,
            stays u (parts vs (at c from slots c.base)),
            (z, (slot, out, l.test, r.0, r.1, r.2, other, here, l.tested, r.4, r.5, r.6, runs, l.begins.at vs slots c.base (v ∷ c.kept) c.below named holds)),
          )
      tried_follows (Default a cases) others k from other slots z e named holds r runs = tried_follows cases others k from other slots z e named holds r runs
      tried_follows _ others k from other slots z e named holds r runs = (
        at c other slots c.base,
        comes_lead o u vs c from other slots c.base r,
        starts (statements_of others) k other slots z e named holds (statements_begin others c.function other lp c.held c.names runs),
      )

      -- behind a label
      compared_follows : (a cases others : Term) (w : Value) (k test start next behind other : ℕ) (slots : List Value) → 0 ≡ c.kind → k ≡ length c.names → Named o u vs → Holding slots → Tested o u c.function slot test start next
          → CaseAt o u (Stands o u a) c.function lp c.held c.names start behind → CasesRun o u cases c.function lp c.held c.names behind → CasesTried o u cases c.function slot lp c.held c.names next other → CasesRun o u others c.function lp c.held c.names other
          → Live (parts vs (at c test slots (w ∷ c.base))) → Follows o u (Becomes false vs (compared (is_equal w v) k v a cases others)) vs c (at c test slots (w ∷ c.base))
      compared_follows a cases others w k test start next behind other slots z e named holds tested case rest tries runs live =
          let q = equal_is w v in
          let b = value.Bool q.0 in
          let lead1 = load_lead o u Live moves vs c test slot v slots (w ∷ c.base) holds.keeps.0 tested.compares.0 in
          let live1 = lives u Live moves _ _ lead1 live in
          let lead2 = computed_lead o u Live moves vs c (test + 1) instr.Equal (Operated op.Equal) (v ∷ w ∷ []) slots c.base b (computes instr.Equal (Operated op.Equal) 2 (v ∷ w ∷ []) (refl, refl) refl) (ap (Rattle.bds_schedule.specs.Faults.outcome Rattle.bds_value.specs.RunFaults.op_fault) q.1) tested.compares.1.0 live1 in
          let lead3 = same_place o u Live moves vs c (test + 1 + 1) tested.branch slots (b ∷ c.base) (parts vs (at c test slots (w ∷ c.base))) tested.compares.1.1 (leads_on u _ _ _ lead1 lead2) in
          let live3 = lives u Live moves _ _ lead3 live in
          go (is_equal w v) (truth_of q.0 ∙ sym (ap is_true_result q.1 ∙ truth_of q.0)) lead3 live3
        where
          go : (t : Bool) → is_true (value.Bool (equal_is w v).0) ≡ t → Leads u (parts vs (at c test slots (w ∷ c.base))) (parts vs (at c tested.branch slots (value.Bool (equal_is w v).0 ∷ c.base))) → Live (parts vs (at c tested.branch slots (value.Bool (equal_is w v).0 ∷ c.base)))
              → Follows o u (Becomes false vs (compared t k v a cases others)) vs c (at c test slots (w ∷ c.base))
          go true q lead live' = (
            at c start slots c.base,
            leads_on u _ _ _ lead (leads_on u _ _ _ (branch_lead o u Live moves vs c tested.branch next (value.Bool (equal_is w v).0) slots c.base true q tested.other live') (comes_lead o u vs c (tested.branch + 1) start slots c.base tested.equal)),
            starts (Then a (statements_of cases)) k start slots z e named holds (case_begins a (statements_of cases) c.function start behind lp c.held c.names case (statements_begin cases c.function behind lp c.held c.names rest)),
          )
          go false q lead live' =
              let t = tried_follows cases others k next other slots z e named holds tries runs in
              (t.0, leads_on u _ _ _ lead (leads_on u _ _ _ (branch_lead o u Live moves vs c tested.branch next (value.Bool (equal_is w v).0) slots c.base false q tested.other live') t.1), t.2)

    pub switch_follows : (a cases : Term) (vs : Variables) (d : ℕ) (c : Site) (s : Stack) → suc (length c.below) ≡ d → Live (parts vs s) → Sim o u Live moves a vs d → Stands o u (Switch a cases) vs c s → Follows o u (step o.program vs d (Switch a cases)) vs c s
    switch_follows a cases vs d c s e live sim r =
        let q = r.1 in
        let slot = q.0 in
        let out = q.1 in
        let pc = q.2 in
        let here = q.4 in
        bind_follows o u Live moves (step o.program vs d a) (λ a'. Switch a' cases) (λ us. Becomes false vs (tried (length vs.locals) (first us) cases (from_default cases))) vs (part c pc 1) c s (record { function = refl; below = refl; loop = inl refl }) live
        (λ vs' a' s' st. (r.0, (slot, out, pc, q.3, here, q.5, q.6, q.7, st)))
        (λ us slots len named holds live'. one_follows o u Live moves us (Becomes false vs (tried (length vs.locals) (first us) cases (from_default cases))) vs c pc slots len live'
        (λ live''.
        let v = first us in
        let lead = store_lead o u Live moves vs c pc slot v slots c.base q.5 live'' in
        let held = fits_held slot v c.names c.held c.kept vs.locals slots (store_within o u Live moves vs c pc slot v slots c.base q.5 live'') here.free here.unheld holds in
        let t = tried_follows vs c v slot out here cases (from_default cases) (length vs.locals) (pc + 1) q.3 (slice_set slots slot v) r.0 (holds_length c.names vs.locals slots holds.holds) named held q.6
        (default_runs cases c.function q.3 (switch_at c.loop out c.names) c.held c.names q.7) in
        (t.0, leads_on u _ _ _ lead t.1, t.2)))
        (sim (part c pc 1) s e live q.8)

    pub tries_follows : (v : Value) (label a cases others : Term) (vs : Variables) (d : ℕ) (c : Site) (s : Stack) → suc (length c.below) ≡ d → Live (parts vs s) → Sim o u Live moves label vs d → Stands o u (Tries v label a cases others) vs c s
        → Follows o u (step o.program vs d (Tries v label a cases others)) vs c s
    tries_follows v label a cases others vs d c s e live sim r =
        let q = r.1 in
        let slot = q.0 in
        let test = q.2 in
        let cl = part_holding c (slot ∷ []) (v ∷ []) test 1 in
        bind_follows o u Live moves (step o.program vs d label) (λ label'. Tries v label' a cases others) (λ us. Becomes false vs (compared (is_equal (first us) v) (length vs.locals) v a cases others)) vs cl c s (record { function = refl; below = refl; loop = inl refl }) live
        (λ vs' label' s' st. (r.0, (slot, q.1, test, q.3, q.4, q.5, q.6, q.7, q.8, q.9, q.10, q.11, q.12, st)))
        (λ us slots len named holds live'. one_follows o u Live moves us (Becomes false vs (compared (is_equal (first us) v) (length vs.locals) v a cases others)) vs c test slots len live'
        (λ live''. compared_follows vs c v slot q.1 q.7 a cases others (first us) (length vs.locals) test q.3 q.4 q.5 q.6 slots r.0 (holds_length c.names vs.locals slots holds.holds) named holds q.8 q.9 q.10 q.11 q.12 live''))
        (sim cl s e live q.13)

    -- statements that run
    pub within_follows : (x : Act) (vs : Variables) (k : ℕ) (form : Term → Term) (c : Site) (out : ℕ) (names added : Names) (s : Stack) → 0 ≡ c.kind → k ≡ length c.names → names ≡ added ++ c.names → Comes o u c.function out c.exit
        → ((vs' : Variables) (t' : Term) (s' : Stack) → Stands o u t' vs' (switched c out names) s' → Stands o u (form t') vs' c s')
        → Follows o u x vs (switched c out names) s → Follows o u (in_switch vs k form x) vs c s
    within_follows (Has us) vs k form c out names added s z e q done w f =
        let inner = subst (λ ns. Fits ns c.held c.kept vs.locals f.2.0) q f.2.1 in
        (at c out f.2.0 c.base, subst (λ l. Leads u (parts vs s) (parts vs (at c out f.2.0 l))) (no_value o u us c.base f.0) f.2.2, (z, (out, done, record { named = f.1; slots = f.2.0; holds = fits_outer added c.names c.held c.kept vs.locals f.2.0 k e inner; is = refl })))
    within_follows (Becomes false vs' t) vs k form c out names added s z e q done w f = (f.0, f.1, w vs' t f.0 f.2)
    within_follows (Becomes true vs' t) vs k form c out names added s z e q done w f = (f.0, f.1, f.2, f.3, f.4, f.5, w vs' t f.2 f.6)
    within_follows (Wants line r go) vs k form c out names added s z e q done w f = (f.0, f.1, f.2, (f.3.0, f.3.1, f.3.2, f.3.3, λ us len. let r = f.3.4 us len in (r.0, r.1, w vs (go us) r.0 r.2)))
    within_follows (Fails line fault) vs k form c out names added s z e q done w f = f
    within_follows (Returns us) vs k form c out names added s z e q done w f = record { pc = f.pc; slots = f.slots; ops = f.ops; is = f.is; few = f.few; named = f.named; leads = f.leads }
    within_follows Breaks vs k form c out names added s z e q done w f =
        let same : f.to ≡ target out c.names = cc (sym f.here) in
        let inner = subst (λ (l : Target). Fits (f.added ++ l.names) c.held c.kept vs.locals f.slots) same f.holds in
        (at c out f.slots c.base, subst (λ (l : Target). Leads u (parts vs s) (parts vs (at c l.place f.slots c.base))) same f.leads, (z, (out, done, record { named = f.named; slots = f.slots; holds = fits_outer f.added c.names c.held c.kept vs.locals f.slots k e inner; is = refl })))
    within_follows Continues vs k form c out names added s z e q done w f = record { to = f.to; here = f.here; added = f.added; slots = f.slots; named = f.named; holds = f.holds; leads = f.leads }
    within_follows (Exits status) vs k form c out names added s z e q done w f = f
