-- Each step of a term is followed by the machine: one case for each form.
use Rattle.std.proofs.Common.{◌≡◌, ℕ, suc, ◌+◌, ◌-◌, ◌<◌, Bool, true, false, List, [], ◌∷◌, ◌++◌, map, length, reverse, drop, Option, Some, None, IsSome, Result, Ok, Err, slice_get, slice_set, nat_lt, refl, sym, ap, ◌∙◌, subst, inl, inr, arith, length-append, append_assoc}
use Rattle.std.proofs.lemmas.Option.{slice_get_within}
use Rattle.std.proofs.lemmas.List.{reverse-append, reverse-reverse, length-reverse}
use Rattle.bds_value.specs.declared.value.At.{At}
use Rattle.bds_value.specs.declared.value.Value.{Value}
use Rattle.bds_value.specs.Value.{default_of}
use Rattle.bds_value.specs.declared.faults.RunFault.{RunFault}
use Rattle.bds_value.specs.declared.faults.RunFault.TheVariants as run
use Rattle.bds_code.specs.declared.instr.Instr.{Instr}
use Rattle.bds_code.specs.declared.instr.Instr.TheVariants as instr
use Rattle.bds_code.specs.declared.unit.Function.{Function}
use Rattle.bds_code.specs.declared.unit.Unit.{Unit as CodeUnit}
use Rattle.bds_code_frames.specs.Stack.{Stack, pushed}
use Rattle.bds_machine.specs.declared.point.Point.{Point}
use Rattle.bds_machine.specs.declared.point.Point.TheVariants as point
use Rattle.bds_machine.specs.Calls.{On, Ends}
use Rattle.bds_value.specs.Options.{◌>>=◌}
use Rattle.bds_machine.specs.Table.{row}
use Rattle.bds_machine_values.specs.Updates.{path_of, value_changed, variable}
use Rattle.bds_meaning.specs.Actions.{request_of}
use Rattle.bds_meaning.specs.Acts.{Act, Has, Becomes, Wants, Fails, Returns, Breaks, Continues, Exits, Code, code, in_frame, in_turn, gives}
use Rattle.bds_meaning.specs.Computed.{computed}
use Rattle.bds_schedule.specs.Requests.{Spawns}
use Rattle.bds_meaning.specs.Step.{function_in, choice, entered, item_next, updated, step}
use Rattle.bds_value.specs.Statuses.{status_of}
use Rattle.bds_value.specs.declared.TheConstants.{MAX_CALLS}
use Rattle.bds_meaning.specs.Updates.{path_of as source_path, value_after, changed}
use Rattle.bds_meaning.specs.Term.{Computation, Change, Into, Action, Printed, FileRead, FileWritten, FileRemoved, FileStamped, CommandRun, Compared, Achieved, IdsAwaited, AllAwaited, Saved, SavedHere, Term, Reduced, Constant, Variable, Compute, Does, Nothing, More, Choose, Call, Frame, Then, Block, Inside, Declare, Update, While, Each, Items, Turn, Switch, Case, Default, Tries, Within, Break, Continue, Return, Error, Exit, Settle, Weigh, Make, SpawnCall, SpawnBlock}
use Rattle.bds_value.specs.Readers.{items_in, is_true, text_in, number_in}
use Rattle.bds_schedule.specs.Values.{first}
use Rattle.bds_meaning.specs.Variables.{Bindings, Variables, Scope, local, global, value_in, value_of, stored, bound, outer, with_locals, with_declared, left_to}
use Rattle.bds_sim_terms.specs.steps.Stands.{Source, Row, Holds, Passed, EndsAt, position_of, Names, Free, Unheld, Fits, parts, values, takes, kind_of, action_code, count_of, IsPoint, Points, IsCode, is_key, is_global, IsChange, IsNumber, load_code, Target, target, Loop, Site, call, at, part, part_named, statement, looped, switched, results, Is, Comes, Last, LastAt, Named, CodeBegins, LoopAt, Resumes, Runs, Stands, Codes}
use Rattle.bds_sim.specs.Threads.{Parts, code_behind, answered}
use Rattle.bds_sim_terms.proofs.steps.Leads.{Leads, Moves, stays, leads_on, lives, here, comes_lead}
use Rattle.bds_sim_terms.proofs.steps.Slots.{split, holds_length, holds_get, fits_outer, fits_fewer, fits_new, fits_put, fits_bound, fits_passed, passes, global_value, global_stored, stored_names}
use Rattle.bds_sim_terms.proofs.steps.Follows.{Follows, bind_follows, Sim, two_follows, no_value, at_place}
use Rattle.bds_sim_terms.proofs.steps.Walking.{alive, dead, goes_by, ends_with, one_follows, loads_lead, onto_is, drops_lead, constant_lead}
use Rattle.bds_sim_terms.proofs.steps.Settling.{settle_follows, weigh_follows, make_follows}
use Rattle.bds_sim_terms.proofs.steps.Looping.{each_follows, items_follows}
use Rattle.bds_sim_terms.proofs.steps.Switching.{switch_follows, tries_follows, within_follows}
use Rattle.bds_sim_terms.proofs.steps.Rows.{frame, drop_front, finishing, some_outcome, load_row, global_row, store_row, branch, branch_row, tick_row, spent_row, call_row, call_spent, deep_row, return_row}
use Rattle.bds_sim_terms.proofs.steps.Computing.{Computes, computes}
use Rattle.bds_sim_terms.proofs.steps.Asking.{asks}
use Rattle.bds_sim_terms.proofs.steps.Updating.{path_read, value_told, count_is, update_row, from_value, updated_there, variable_there, local_put, global_put}
use Rattle.bds_sim_terms.proofs.steps.Ending.{spawn_row, stop_row, exit_row, store_global_row}

module _ (o : Source) (u : CodeUnit) (Live : Parts → Type 0) (moves : Moves u Live) where
  -- where the machine has an outcome, the source has it
  computed_follows : (vs : Variables) (c : Site) (pc : ℕ) (i : Instr) (line : At) (comp : Computation) (us slots : List Value) (made : Computes comp us i) → 1 ≡ c.kind → LastAt o u c pc i line → Named o u vs → Fits c.names c.held c.kept vs.locals slots
      → Live (parts vs (at c pc slots (us ++ c.base))) → Follows o u (gives vs line (computed comp us)) vs c (at c pc slots (us ++ c.base))
  computed_follows vs c pc i line comp us slots made k last named holds live =
      go (computed comp us) (made.told (some_outcome last.last.is.f pc (values vs.globals) (call c (pc + 1) slots c.base) c.below 0 made.outcome (subst IsSome (made.row_is u last.last.is.f c.function pc (values vs.globals) slots c.base c.below 0) (alive o u Live moves vs c pc i slots (us ++ c.base) last.last.is 0 live))))
    where
      go : (res : Result Value RunFault) → made.outcome ≡ Some res → Follows o u (gives vs line res) vs c (at c pc slots (us ++ c.base))
      go (Ok v) q = ends_with o u Live moves vs vs c pc i (v ∷ []) slots slots (us ++ c.base) last.last k named holds (λ t. made.row_is u last.last.is.f c.function pc (values vs.globals) slots c.base c.below t ∙ ap (finishing last.last.is.f pc (values vs.globals) (call c (pc + 1) slots c.base) c.below t) q)
      go (Err fault) q = (
        at c pc slots (us ++ c.base),
        stays u (parts vs (at c pc slots (us ++ c.base))),
        λ t. here o u (values vs.globals) (call c pc slots (us ++ c.base)) c.below t i last.last.is ∙ made.row_is u last.last.is.f c.function pc (values vs.globals) slots c.base c.below t
            ∙ ap (finishing last.last.is.f pc (values vs.globals) (call c (pc + 1) slots c.base) c.below t) q ∙ ap (λ l. l >>= λ at. Some (Ends (point.Stop fault at) t)) last.lines,
      )

  -- what values are made into
  compute_follows : (vs : Variables) (c : Site) (pc n : ℕ) (i : Instr) (line : At) (comp : Computation) (us slots : List Value) → IsCode comp n i → length us ≡ n → 1 ≡ c.kind → LastAt o u c pc i line → Named o u vs → Fits c.names c.held c.kept vs.locals slots
      → Live (parts vs (at c pc slots (us ++ c.base))) → Follows o u (gives vs line (computed comp us)) vs c (at c pc slots (us ++ c.base))
  compute_follows vs c pc n i line comp us slots code len k last named holds live =
      computed_follows vs c pc i line comp us slots (computes i comp n us code len) k last named holds live

  load_follows : (vs : Variables) (c : Site) (pc n : ℕ) (scope : Scope) (x : List ℕ) (slots : List Value) → 1 ≡ c.kind → IsNumber o scope c.names x n → Last o u c pc (load_code scope n) → Named o u vs → Fits c.names c.held c.kept vs.locals slots → Live (parts vs (at c pc slots c.base))
      → Follows o u (Becomes false vs (Reduced (value_of vs scope x ∷ []))) vs c (at c pc slots c.base)
  load_follows vs c pc n global x slots k number last named holds live =
      ends_with o u Live moves vs vs c pc (instr.LoadGlobal n) (value_in vs.globals x ∷ []) slots slots c.base last k named holds
      (λ t. let there = global_row u last.is.f c.function pc (values vs.globals) slots c.below t n c.base (alive o u Live moves vs c pc (instr.LoadGlobal n) slots c.base last.is t live) in
      there.2 ∙ ap (λ v. Some (On (values vs.globals) (at c (pc + 1) slots (v ∷ c.base)) t)) (global_value vs.globals o.globals x there.0 named (ap (slice_get (values vs.globals)) (sym number) ∙ there.1)))
  load_follows vs c pc n local x slots k number last named holds live =
      ends_with o u Live moves vs vs c pc (instr.Load n) (value_in vs.locals x ∷ []) slots slots c.base last k named holds (λ t. load_row u last.is.f c.function pc (values vs.globals) slots c.below t n (value_in vs.locals x) c.base (holds_get x c.names vs.locals slots n number holds.holds))

  declare_follows : (vs : Variables) (c : Site) (names : Names) (slot pc : ℕ) (x : List ℕ) (v : Value) (slots : List Value) → 0 ≡ c.kind → c.names ≡ (x, Some slot) ∷ names → Free slot names → Unheld slot c.held → Last o u c pc (instr.Store slot)
      → Named o u vs → Fits names c.held c.kept vs.locals slots → Live (parts vs (at c pc slots (v ∷ c.base))) → Follows o u (Becomes false (with_declared vs local x v) (Reduced [])) vs c (at c pc slots (v ∷ c.base))
  declare_follows vs c names slot pc x v slots k e free unheld last named holds live =
      let row_at = λ (t : ℕ). store_row u last.is.f c.function pc (values vs.globals) slots c.below t slot v c.base (alive o u Live moves vs c pc (instr.Store slot) slots (v ∷ c.base) last.is t live) in
      let new : Fits ((x, Some slot) ∷ names) c.held c.kept ((x, v) ∷ vs.locals) (slice_set slots slot v) = fits_new x slot v names c.held c.kept vs.locals slots (there slots slot (row_at 0).0) free unheld holds in
      ends_with o u Live moves vs (with_declared vs local x v) c pc (instr.Store slot) [] slots (slice_set slots slot v) (v ∷ c.base) last k named (subst (λ ns. Fits ns c.held c.kept ((x, v) ∷ vs.locals) (slice_set slots slot v)) (sym e) new) (λ t. (row_at t).1)
    where
      found : (slots : List Value) (slot : ℕ) (q : Option Value) → slice_get slots slot ≡ q → IsSome q → slot < length slots
      found slots slot None e h = absurd (cc h)
      found slots slot (Some w) e h = slice_get_within slots slot w e

      there : (slots : List Value) (slot : ℕ) → IsSome (slice_get slots slot) → slot < length slots
      there slots slot h = found slots slot (slice_get slots slot) refl h

  global_follows : (vs : Variables) (c : Site) (pc : ℕ) (x : List ℕ) (v : Value) (slots : List Value) → 0 ≡ c.kind → Last o u c pc (instr.StoreGlobal (position_of o.globals x)) → Named o u vs → Fits c.names c.held c.kept vs.locals slots → Live (parts vs (at c pc slots (v ∷ c.base)))
      → Follows o u (Becomes false (with_declared vs global x v) (Reduced [])) vs c (at c pc slots (v ∷ c.base))
  global_follows vs c pc x v slots k last named holds live =
      let n = position_of o.globals x in
      ends_with o u Live moves vs (with_declared vs global x v) c pc (instr.StoreGlobal n) [] slots slots (v ∷ c.base) last k (stored_names vs.globals x v ∙ named) holds
      (λ t. store_global_row u last.is.f c.function pc (values vs.globals) slots c.below t n v c.base (alive o u Live moves vs c pc (instr.StoreGlobal n) slots (v ∷ c.base) last.is t live)
      ∙ ap (λ g. Some (On g (at c (pc + 1) slots c.base) t)) (global_stored vs.globals o.globals x v named))

  choose_follows : (vs : Variables) (c : Site) (pc other : ℕ) (a b : Term) (v : Value) (slots : List Value) (test : Bool) → is_true v ≡ test → Is o u c.function pc (instr.JumpUnless other)
      → CodeBegins o u (Stands o u a) c.function c.loop c.held c.names (pc + 1) c.names c.exit c.kind → CodeBegins o u (Stands o u b) c.function c.loop c.held c.names other c.names c.exit c.kind
      → Named o u vs → Fits c.names c.held c.kept vs.locals slots → Live (parts vs (at c pc slots (v ∷ c.base))) → Follows o u (Becomes false vs (choice test a b)) vs c (at c pc slots (v ∷ c.base))
  choose_follows vs c pc other a b v slots test e is ba bb named holds live = go test (λ t. branch_row u is.f c.function pc (values vs.globals) slots c.below t other v c.base (alive o u Live moves vs c pc (instr.JumpUnless other) slots (v ∷ c.base) is t live) ∙ ap (λ q. branch u is.f c.function pc (values vs.globals) slots c.below t q other c.base) e)
    where
      go : (test : Bool) → ((t : ℕ) → row u is.f (instr.JumpUnless other) pc (values vs.globals) (at c pc slots (v ∷ c.base)) t ≡ branch u is.f c.function pc (values vs.globals) slots c.below t test other c.base)
          → Follows o u (Becomes false vs (choice test a b)) vs c (at c pc slots (v ∷ c.base))
      go true e = (at c (pc + 1) slots c.base, goes_by o u Live moves vs vs c pc (instr.JumpUnless other) slots (v ∷ c.base) (at c (pc + 1) slots c.base) is e, ba.at vs slots c.base c.kept c.below named holds)
      go false e = (at c other slots c.base, goes_by o u Live moves vs vs c pc (instr.JumpUnless other) slots (v ∷ c.base) (at c other slots c.base) is e, bb.at vs slots c.base c.kept c.below named holds)

  kind_is : (action : Action) (us : List Value) → count_of (request_of {S = Code} action us) ≡ kind_of action
  kind_is Printed us = refl
  kind_is FileRead us = refl
  kind_is FileWritten us = refl
  kind_is FileRemoved us = refl
  kind_is (FileStamped q) us = refl
  kind_is CommandRun us = refl
  kind_is Compared us = refl
  kind_is Achieved us = refl
  kind_is IdsAwaited us = refl
  kind_is AllAwaited us = refl
  kind_is Saved us = refl
  kind_is SavedHere us = refl

  points : (action : Action) (us : List Value) (p : Point) (g : List Value) (s : Stack) → IsPoint (request_of {S = Code} action us) p → code_behind u s ≡ Some (action_code action) → Points o u (request_of action us) p g s
  points Printed us p g s e b = (e, tt)
  points FileRead us p g s e b = (e, tt)
  points FileWritten us p g s e b = (e, tt)
  points FileRemoved us p g s e b = (e, tt)
  points (FileStamped q) us p g s e b = (e, b)
  points CommandRun us p g s e b = (e, tt)
  points Compared us p g s e b = e
  points Achieved us p g s e b = e
  points IdsAwaited us p g s e b = e
  points AllAwaited us p g s e b = e
  points Saved us p g s e b = e
  points SavedHere us p g s e b = e

  -- the instruction behind which a call stands
  is_behind : (c : Site) (pc : ℕ) (i : Instr) (slots ops : List Value) → Is o u c.function pc i → code_behind u (at c (pc + 1) slots ops) ≡ Some i
  is_behind c pc i slots ops is =
      ap (λ q. q >>= λ (f : Function). slice_get f.code (pc + 1 - 1)) is.there
      ∙ ap (slice_get is.f.code) (let q : pc + 1 - 1 ≡ pc = omega arith in q) ∙ is.code

  given : (c : Site) (pc : ℕ) (slots ws : List Value) → answered ws (at c pc slots c.base) ≡ Some (at c pc slots (ws ++ c.base))
  given c pc slots [] = refl
  given c pc slots (v ∷ ws) = ap (λ q. q >>= pushed v) (given c pc slots ws)

  -- a point, and what is left behind it
  action_follows : (vs : Variables) (c : Site) (pc : ℕ) (action : Action) (line : At) (us slots : List Value) → length us ≡ takes action → kind_of action ≡ c.kind → LastAt o u c pc (action_code action) line → Named o u vs → Fits c.names c.held c.kept vs.locals slots
      → Live (parts vs (at c pc slots (us ++ c.base))) → Follows o u (Wants line (request_of action us) (λ ws. Reduced ws)) vs c (at c pc slots (us ++ c.base))
  action_follows vs c pc action line us slots len k last named holds live =
      let i = action_code action in
      let a = asks action us len in (
        at c pc slots (us ++ c.base),
        at c (pc + 1) slots c.base,
        stays u (parts vs (at c pc slots (us ++ c.base))),
        (
          a.point,
          points action us a.point (values vs.globals) (at c (pc + 1) slots c.base) a.is (is_behind c pc i slots c.base last.last.is),
          λ t. here o u (values vs.globals) (call c pc slots (us ++ c.base)) c.below t i last.last.is ∙ a.row_is u last.last.is.f c.function pc (values vs.globals) slots c.base c.below t (alive o u Live moves vs c pc i slots (us ++ c.base) last.last.is t live),
          record { function = c.function; pc = pc; f = last.last.is.f; stands = refl; there = last.last.is.there; lines = last.lines },
          λ ws len'. (at c (pc + 1) slots (ws ++ c.base), given c (pc + 1) slots ws, (len' ∙ kind_is action us ∙ k, (pc + 1, last.last.comes, record { named = named; slots = slots; holds = holds; is = refl }))),
        ),
      )

  -- the same function has the same result
  same_function : (n : ℕ) (f g : Function) → slice_get u.functions n ≡ Some f → slice_get u.functions n ≡ Some g → f ≡ g
  same_function n f g e e' = cc (e, e')

  -- a running call
  frame_follows : (x : Act) (vs : Variables) (own : Bindings) (cc c : Site) (pc : ℕ) (slots : List Value) (s : Stack) (runs : Runs o u cc.function c.kind) → cc.exit ≡ length runs.f.code → cc.loop ≡ None → cc.below ≡ at c pc slots c.base → Comes o u c.function pc c.exit
      → Fits c.names c.held c.kept vs.locals slots → Live (parts (with_locals own vs) s)
      → ((vs' : Variables) (own' : Bindings) (t' : Term) (s' : Stack) → Fits c.names c.held c.kept vs'.locals slots → Stands o u t' (with_locals own' vs') cc s' → Stands o u (Frame own' t') vs' c s')
      → Follows o u x (with_locals own vs) cc s → Follows o u (in_frame vs (λ own' t'. Frame own' t') own x) vs c s
  frame_follows (Has us) vs own cc c pc slots s runs e none b comes holds live w f =
      let end = lives u Live moves _ _ f.2.2 live in
      absurd (dead o u Live moves (with_locals own vs) cc.function runs.f f.2.0 (us ++ cc.base) cc.below runs.there (subst (λ n. Live (parts vs (record { function = cc.function; place = n; slots = f.2.0; ops = us ++ cc.base } ∷ cc.below))) e end))
  frame_follows (Becomes false vs' t) vs own cc c pc slots s runs e none b comes holds live w f = (f.0, f.1, w (with_locals vs.locals vs') vs'.locals t f.0 holds f.2)
  frame_follows (Becomes true vs' t) vs own cc c pc slots s runs e none b comes holds live w f = (f.0, f.1, f.2, f.3, f.4, f.5, w (with_locals vs.locals vs') vs'.locals t f.2 holds f.6)
  frame_follows (Wants line q go) vs own cc c pc slots s runs e none b comes holds live w f = (f.0, f.1, f.2, (f.3.0, f.3.1, f.3.2, f.3.3, λ us len. let r = f.3.4 us len in (r.0, r.1, w vs own (go us) r.0 holds r.2)))
  frame_follows (Fails line fault) vs own cc c pc slots s runs e none b comes holds live w f = f
  frame_follows (Returns us) vs own cc c pc slots s runs e none b comes holds live w f =
      let same : f.is.f.ret ≡ runs.f.ret = ap (λ (g : Function). g.ret) (same_function cc.function f.is.f runs.f f.is.there runs.there) in (
        at c pc slots (us ++ c.base),
        leads_on u _ _ _ f.leads (goes_by o u Live moves vs vs cc f.pc instr.Return f.slots (us ++ f.ops) (at c pc slots (us ++ c.base)) f.is (λ t. return_row u f.is.f cc.function f.pc (values vs.globals) f.slots cc.below t us f.ops c.function pc slots c.base c.below f.few b)),
        (f.few ∙ ap results same ∙ runs.gives, (pc, comes, record { named = f.named; slots = slots; holds = holds; is = refl })),
      )
  frame_follows Breaks vs own cc c pc slots s runs e none b comes holds live w f = absurd (Prim.cc (none, f.here))
  frame_follows Continues vs own cc c pc slots s runs e none b comes holds live w f = absurd (Prim.cc (none, f.here))
  frame_follows (Exits status) vs own cc c pc slots s runs e none b comes holds live w f = f

  -- a loop goes on behind a turn
  goes_again : (vs : Variables) (k : ℕ) (next' : Term) (c : Site) (again : ℕ) (more : List ℕ) (hold : List Value) (added : Names) (slots : List Value) → 0 ≡ c.kind → k ≡ length c.names → Resumes o u (Stands o u next') c more hold again → Named o u vs
      → Fits (added ++ c.names) (more ++ c.held) (hold ++ c.kept) vs.locals slots → Stands o u next' (left_to k vs) c (at c again slots c.base)
  goes_again vs k next' c again more hold added slots z e resumes named inner =
      subst (λ n. Stands o u next' (left_to k vs) (record { function = c.function; loop = c.loop; names = c.names; exit = c.exit; kind = n; base = c.base; below = c.below; held = c.held; kept = c.kept }) (at c again slots c.base)) z
      (resumes.at (left_to k vs) slots named (fits_outer added c.names (more ++ c.held) (hold ++ c.kept) vs.locals slots k e inner))

  -- a loop's turn
  turn_follows : (x : Act) (vs : Variables) (k : ℕ) (next' : Term) (form : Term → Term) (c : Site) (out again : ℕ) (names added : Names) (more : List ℕ) (hold : List Value) (s : Stack) → 0 ≡ c.kind → k ≡ length c.names → names ≡ added ++ c.names
      → Resumes o u (Stands o u next') c more hold again → Comes o u c.function out c.exit
      → ((vs' : Variables) (t' : Term) (s' : Stack) → Stands o u t' vs' (looped c out again names more hold) s' → Stands o u (form t') vs' c s')
      → Follows o u x vs (looped c out again names more hold) s → Follows o u (in_turn vs k next' form x) vs c s
  turn_follows (Has us) vs k next' form c out again names added more hold s z e q resumes done w f =
      let inner = subst (λ ns. Fits ns (more ++ c.held) (hold ++ c.kept) vs.locals f.2.0) q f.2.1 in
      (at c again f.2.0 c.base, subst (λ l. Leads u (parts vs s) (parts vs (at c again f.2.0 l))) (no_value o u us c.base f.0) f.2.2, goes_again vs k next' c again more hold added f.2.0 z e resumes f.1 inner)
  turn_follows (Becomes false vs' t) vs k next' form c out again names added more hold s z e q resumes done w f = (f.0, f.1, w vs' t f.0 f.2)
  turn_follows (Becomes true vs' t) vs k next' form c out again names added more hold s z e q resumes done w f = (f.0, f.1, f.2, f.3, f.4, f.5, w vs' t f.2 f.6)
  turn_follows (Wants line r go) vs k next' form c out again names added more hold s z e q resumes done w f = (f.0, f.1, f.2, (f.3.0, f.3.1, f.3.2, f.3.3, λ us len. let r = f.3.4 us len in (r.0, r.1, w vs (go us) r.0 r.2)))
  turn_follows (Fails line fault) vs k next' form c out again names added more hold s z e q resumes done w f = f
  turn_follows (Returns us) vs k next' form c out again names added more hold s z e q resumes done w f = record { pc = f.pc; slots = f.slots; ops = f.ops; is = f.is; few = f.few; named = f.named; leads = f.leads }
  turn_follows Breaks vs k next' form c out again names added more hold s z e q resumes done w f =
      let same : f.to ≡ target out c.names = cc (sym f.here) in
      let inner = subst (λ (l : Target). Fits (f.added ++ l.names) (more ++ c.held) (hold ++ c.kept) vs.locals f.slots) same f.holds in
      let outside = fits_fewer c.names more c.held hold c.kept (outer k vs.locals) f.slots resumes.as_many (fits_outer f.added c.names (more ++ c.held) (hold ++ c.kept) vs.locals f.slots k e inner) in
      (at c out f.slots c.base, subst (λ (l : Target). Leads u (parts vs s) (parts vs (at c l.place f.slots c.base))) same f.leads, (z, (out, done, record { named = f.named; slots = f.slots; holds = outside; is = refl })))
  turn_follows Continues vs k next' form c out again names added more hold s z e q resumes done w f =
      let same : f.to ≡ target again c.names = cc (sym f.here) in
      let inner = subst (λ (l : Target). Fits (f.added ++ l.names) (more ++ c.held) (hold ++ c.kept) vs.locals f.slots) same f.holds in
      (at c again f.slots c.base, subst (λ (l : Target). Leads u (parts vs s) (parts vs (at c l.place f.slots c.base))) same f.leads, goes_again vs k next' c again more hold f.added f.slots z e resumes f.named inner)
  turn_follows (Exits status) vs k next' form c out again names added more hold s z e q resumes done w f = f

  -- a loop's next turn
  loop_follows : (t body next' : Term) (vs : Variables) (c : Site) (top pc : ℕ) (slots : List Value) → 0 ≡ c.kind → LoopAt o u (Stands o u t) (Stands o u body) (Stands o u next') c.function c.loop c.held c.names c.exit top → Comes o u c.function pc top
      → Named o u vs → Fits c.names c.held c.kept vs.locals slots → Follows o u (Becomes true vs (Choose t (Turn (length vs.locals) body (Then next' (While t body next'))) Nothing)) vs c (at c pc slots c.base)
  loop_follows t body next' vs c top pc slots k loop comes named holds =
      let long : length vs.locals ≡ length c.names = holds_length c.names vs.locals slots holds.holds in
      let again : CodeBegins o u (Stands o u (While t body next')) c.function c.loop c.held c.names loop.back c.names c.exit 0
      = record { at = λ vs' slots' base' kept' below' named' holds'. (refl, (top, loop.back, loop, loop.turns, record { named = named'; slots = slots'; holds = holds'; is = refl })) } in
      let next_begins : CodeBegins o u (Stands o u (Then next' (While t body next'))) c.function c.loop c.held c.names loop.again c.names c.exit 0
      = record { at = λ vs' slots' base' kept' below' named' holds'. (refl, (c.names, (0, loop.back, loop.back, record { count = 0; jumps = refl }, again, loop.begin_next.at vs' slots' base' kept' below' named' holds'))) } in
      let turn : CodeBegins o u (Stands o u (Turn (length vs.locals) body (Then next' (While t body next')))) c.function c.loop c.held c.names (loop.test + 1) c.names c.exit c.kind
      = record {
        at = λ vs' slots' base' kept' below' named' holds'. (
          k,
          long,
          (
            loop.again,
            loop.out,
            (
              [],
              (
                [],
                record { as_many = refl; at = λ vs2 slots2 named2 holds2. next_begins.at vs2 slots2 base' kept' below' named2 holds2 },
                loop.done,
                (c.names, ([], refl, loop.begin_body.at vs' slots' base' kept' below' named' holds')),
              ),
            ),
          ),
        );
      } in
      let done : CodeBegins o u (Stands o u Nothing) c.function c.loop c.held c.names loop.out c.names c.exit c.kind
      = record { at = λ vs' slots' base' kept' below' named' holds'. (k, (loop.out, loop.done, record { named = named'; slots = slots'; holds = holds'; is = refl })) } in (
        at c top slots c.base,
        at c (top + 1) slots c.base,
        at c (top + 1) slots c.base,
        comes_lead o u vs c pc top slots c.base comes,
        record {
          ticks = λ n. here o u (values vs.globals) (call c top slots c.base) c.below (suc n) instr.Tick loop.tick ∙ tick_row u loop.tick.f c.function top (values vs.globals) slots c.below n c.base;
          spent = here o u (values vs.globals) (call c top slots c.base) c.below 0 instr.Tick loop.tick ∙ spent_row u loop.tick.f c.function top (values vs.globals) slots c.below 0 c.base;
        },
        stays u (parts vs (at c (top + 1) slots c.base)),
        (loop.test, loop.out, loop.branch, turn, done, loop.begin_test.at vs slots c.base c.kept c.below named holds),
      )

  length_reverse : (us : List Value) → length (reverse us) ≡ length us
  length_reverse us = Rattle.std.proofs.lemmas.List.length-reverse us

  -- the variable that changes, and its new value
  pub record Puts (vs : Variables) (c : Site) (scope : Scope) (x : List ℕ) (n pc : ℕ) (slots : List Value) (old : Value) : Type 0 where
    pub value_is : old ≡ value_of vs scope x
    pub after : Value → List Value
    pub named : (new : Value) → Named o u (stored vs scope x new)
    pub holds : (new : Value) → Fits c.names c.held c.kept (stored vs scope x new).locals (after new)
    pub put : (f : Function) (t : ℕ) (new : Value) → from_value u f c.function pc (values vs.globals) slots c.below t (is_global scope) n c.base (Some (Ok new)) ≡ Some (On (values (stored vs scope x new).globals) (at c (pc + 1) (after new) c.base) t)

  puts : (vs : Variables) (c : Site) (scope : Scope) (x : List ℕ) (n pc : ℕ) (slots : List Value) (old : Value) → IsNumber o scope c.names x n → Named o u vs → Fits c.names c.held c.kept vs.locals slots → variable (is_global scope) n (values vs.globals) (at c (pc + 1) slots c.base) ≡ Some old → Puts vs c scope x n pc slots old
  puts vs c local x n pc slots old number named holds there = record {
    value_is = let q : Some old ≡ Some (value_in vs.locals x) = sym there ∙ holds_get x c.names vs.locals slots n number holds.holds in cc q;
    after = λ new. slice_set slots n new;
    named = λ new. named;
    holds = λ new. fits_put x n new c.names c.held c.kept vs.locals slots number holds;
    put = λ f t new. local_put u f c.function pc (values vs.globals) slots c.below t n new old c.base there;
  }
  puts vs c global x n pc slots old number named holds there =
      let at_place : slice_get (values vs.globals) (position_of o.globals x) ≡ Some old = ap (slice_get (values vs.globals)) (sym number) ∙ there in record {
        value_is = global_value vs.globals o.globals x old named at_place;
        after = λ new. slots;
        named = λ new. stored_names vs.globals x new ∙ named;
        holds = λ new. holds;
        put = λ f t new. global_put u f c.function pc (values vs.globals) slots c.below t n new old c.base there
            ∙ ap (λ g. Some (On g (at c (pc + 1) slots c.base) t)) (ap (λ n. slice_set (values vs.globals) n new) number ∙ global_stored vs.globals o.globals x new named);
      }

  outcome_put : (vs : Variables) (c : Site) (pc n : ℕ) (line : At) (scope : Scope) (x : List ℕ) (us slots : List Value) (i : Instr) (last : LastAt o u c pc i line) (old : Value) → Puts vs c scope x n pc slots old → 0 ≡ c.kind → (res : Result Value RunFault)
      → ((t : ℕ) → row u last.last.is.f i pc (values vs.globals) (at c pc slots (us ++ c.base)) t ≡ from_value u last.last.is.f c.function pc (values vs.globals) slots c.below t (is_global scope) n c.base (Some res))
      → Follows o u (updated vs line scope x res) vs c (at c pc slots (us ++ c.base))
  outcome_put vs c pc n line scope x us slots i last old p z (Ok new) e =
      ends_with o u Live moves vs (stored vs scope x new) c pc i [] slots (p.after new) (us ++ c.base) last.last z (p.named new) (p.holds new) (λ t. e t ∙ p.put last.last.is.f t new)
  outcome_put vs c pc n line scope x us slots i last old p z (Err fault) e = (
    at c pc slots (us ++ c.base),
    stays u (parts vs (at c pc slots (us ++ c.base))),
    λ t. here o u (values vs.globals) (call c pc slots (us ++ c.base)) c.below t i last.last.is ∙ e t ∙ ap (λ l. l >>= λ at. Some (Ends (point.Stop fault at) t)) last.lines,
  )

  update_follows : (vs : Variables) (c : Site) (pc n what k : ℕ) (line : At) (scope : Scope) (x : List ℕ) (into : List Into) (change : Change) (us slots : List Value) → 0 ≡ c.kind → IsNumber o scope c.names x n → IsChange change what k
      → LastAt o u c pc (instr.Update (is_global scope) n (map is_key into) what) line → length us ≡ k + length into → Named o u vs → Fits c.names c.held c.kept vs.locals slots → Live (parts vs (at c pc slots (us ++ c.base)))
      → Follows o u (updated vs line scope x (changed change into us (value_of vs scope x))) vs c (at c pc slots (us ++ c.base))
  update_follows vs c pc n what k line scope x into change us slots z number is_change last len named holds live =
      let s = split us k (length into) len in
      let f = last.last.is.f in
      let g = values vs.globals in
      let kinds = map is_key into in
      let i = instr.Update (is_global scope) n kinds what in
      let args = reverse s.args in
      let steps = reverse s.steps in
      let stack_is : us ++ c.base ≡ s.args ++ (s.steps ++ c.base) = ap (λ l. l ++ c.base) s.is ∙ append_assoc s.args s.steps c.base in
      let row_at = λ (t : ℕ). ap (λ l. row u f i pc g (at c pc slots l) t) stack_is
      ∙ update_row u f c.function pc g slots c.below t (is_global scope) n kinds what k s.args s.steps c.base (count_is change what k is_change) s.few (s.rest ∙ sym (length_map into)) in
      let alive_at = λ (t : ℕ). subst IsSome (row_at t) (alive o u Live moves vs c pc i slots (us ++ c.base) last.last.is t live) in
      let found = variable_there u f c.function pc g slots c.below 0 (is_global scope) n what args c.base (path_of kinds steps) (variable (is_global scope) n g (at c (pc + 1) slots c.base)) refl (alive_at 0) in
      let old = found.0 in
      let there = λ (t : ℕ). updated_there u f c.function pc g slots c.below t (is_global scope) n what args c.base steps kinds old (path_of kinds steps) refl found.1 (alive_at t) in
      let p = puts vs c scope x n pc slots old number named holds found.1 in
      let path = (there 0).path in
      let told = value_told change what k path old args is_change (length_reverse s.args ∙ s.few) (there 0).some in
      let reversed : reverse us ≡ steps ++ args = ap reverse s.is ∙ reverse-append s.args s.steps in
      let dropped : drop (length into) (reverse us) ≡ args
      = ap (drop (length into)) reversed ∙ ap (λ m. drop m (steps ++ args)) (sym (length_reverse s.steps ∙ s.rest)) ∙ drop_front steps args in
      let led : source_path into (reverse us) ≡ path = ap (source_path into) reversed ∙ path_read into steps args path (there 0).led in
      let source_is : value_after change args path old ≡ changed change into us (value_of vs scope x)
      = sym (ap (λ a. value_after change a (source_path into (reverse us)) (value_of vs scope x)) dropped ∙ ap (λ p. value_after change args p (value_of vs scope x)) led ∙ ap (value_after change args path) (sym p.value_is)) in
      let same_path = λ (t : ℕ). let q : (there t).path ≡ (there 0).path = cc ((there t).led, (there 0).led) in q in
      let from_row = λ (t : ℕ). row_at t ∙ (there t).is ∙ ap (λ q. from_value u f c.function pc g slots c.below t (is_global scope) n c.base (value_changed what q old args)) (same_path t)
      ∙ ap (from_value u f c.function pc g slots c.below t (is_global scope) n c.base) (told ∙ ap Some source_is) in
      outcome_put vs c pc n line scope x us slots i last old p z (changed change into us (value_of vs scope x)) from_row
    where
      length_map : (into : List Into) → length (map is_key into) ≡ length into
      length_map into = Rattle.std.proofs.lemmas.List.length-map into is_key

  -- a thread of a block
  block_follows : (vs : Variables) (c : Site) (block : Term) (line : At) (number from pc exit : ℕ) (f : Function) (is : List ℕ) (names names' : Names) (slots : List Value) → 1 ≡ c.kind → slice_get u.functions number ≡ Some f → length f.params ≡ length is → Passed c.names is names
      → CodeBegins o u (Stands o u block) number None [] names 0 names' exit 0 → EndsAt o u number f exit → Row o u c.function from (map instr.Load is) pc → LastAt o u c pc (instr.Spawn number) line → Named o u vs → Fits c.names c.held c.kept vs.locals slots
      → Live (parts vs (at c from slots c.base))
      → Follows o u (Wants line (Spawns (code vs block)) (λ ws. Reduced ws)) vs c (at c from slots c.base)
  block_follows vs c block line number from pc exit f is names names' slots k there few passed begins ends loads last named holds live =
      let p = loads_lead o u Live moves vs c is from pc slots c.base loads live in
      let us = reverse p.us in
      let own = reverse us ++ map default_of f.locals in
      let held : Holds names vs.locals own = subst (λ l. Holds names vs.locals (l ++ map default_of f.locals)) (sym (reverse-reverse p.us)) (passes c.names vs.locals p.us slots (map default_of f.locals) is names holds.holds p.reads passed) in (
        at c pc slots (us ++ c.base),
        at c (pc + 1) slots c.base,
        subst (λ l. Leads u (parts vs (at c from slots c.base)) (parts vs (at c pc slots l))) (onto_is o u Live moves p.us c.base) p.leads,
        (
          point.Spawn number (reverse us),
          (
            record {
              number = number;
              args = reverse us;
              f = f;
              is = refl;
              there = there;
              stands = record { number = number; names = names'; f = f; there = there; exit = exit; ends = ends; stands = begins.at vs own [] [] [] named (fits_passed names vs.locals own held) };
            },
            refl,
          ),
          λ t. here o u (values vs.globals) (call c pc slots (us ++ c.base)) c.below t (instr.Spawn number) last.last.is
              ∙ spawn_row u last.last.is.f c.function pc (values vs.globals) slots c.below t number f us c.base there (length-reverse p.us ∙ p.few ∙ sym few),
          record { function = c.function; pc = pc; f = last.last.is.f; stands = refl; there = last.last.is.there; lines = last.lines },
          λ ws len'. (at c (pc + 1) slots (ws ++ c.base), given c (pc + 1) slots ws, (len' ∙ k, (pc + 1, last.last.comes, record { named = named; slots = slots; holds = holds; is = refl }))),
        ),
      )

  module _ (codes : Codes o u) where
    entered_follows : (vs : Variables) (c : Site) (pc : ℕ) (x : List ℕ) (line : At) (us slots : List Value) (shallow : Bool) → nat_lt (suc (length c.below)) MAX_CALLS ≡ shallow → length us ≡ length (function_in o.program x).parameters → Runs o u (o.number x) c.kind
        → LastAt o u c pc (instr.Call (o.number x)) line → Named o u vs → Fits c.names c.held c.kept vs.locals slots → Follows o u (entered shallow vs line (function_in o.program x) us) vs c (at c pc slots (us ++ c.base))
    entered_follows vs c pc x line us slots false deep len runs last named holds = (
      at c pc slots (us ++ c.base),
      stays u (parts vs (at c pc slots (us ++ c.base))),
      λ t. here o u (values vs.globals) (call c pc slots (us ++ c.base)) c.below t (instr.Call (o.number x)) last.last.is ∙ deep_row u last.last.is.f c.function pc (values vs.globals) slots c.below t (o.number x) line (us ++ c.base) deep last.lines,
    )
    entered_follows vs c pc x line us slots true deep len runs last named holds =
        let n = o.number x in
        let d = function_in o.program x in
        let code = codes.code x runs.f runs.there in
        let own = reverse us ++ map default_of runs.f.locals in
        let s2 : Stack = frame n 0 own [] ∷ at c (pc + 1) slots c.base in
        let inside : Variables = with_locals (bound d.parameters (reverse us)) vs in (
          at c pc slots (us ++ c.base),
          s2,
          s2,
          stays u (parts vs (at c pc slots (us ++ c.base))),
          record {
            ticks = λ t. here o u (values vs.globals) (call c pc slots (us ++ c.base)) c.below (suc t) (instr.Call n) last.last.is
                ∙ call_row u last.last.is.f c.function pc (values vs.globals) slots c.below t n runs.f us c.base runs.there (len ∙ sym code.params) deep;
            spent = here o u (values vs.globals) (call c pc slots (us ++ c.base)) c.below 0 (instr.Call n) last.last.is ∙ call_spent u last.last.is.f c.function pc (values vs.globals) slots c.below 0 n (us ++ c.base) deep;
          },
          stays u (parts vs s2),
          (
            pc + 1,
            last.last.comes,
            (
              slots,
              holds,
              (
                n,
                (
                  runs,
                  (
                    code.names,
                    code.body.at inside own [] [] (at c (pc + 1) slots c.base) named (fits_bound d.parameters (reverse us) (map default_of runs.f.locals) (length_reverse us ∙ len)),
                  ),
                ),
              ),
            ),
          ),
        )

    spawn_follows : (vs : Variables) (c : Site) (pc : ℕ) (x : List ℕ) (f : Function) (line : At) (us slots : List Value) → 1 ≡ c.kind → slice_get u.functions (o.number x) ≡ Some f → length us ≡ length (function_in o.program x).parameters
        → LastAt o u c pc (instr.Spawn (o.number x)) line → Named o u vs → Fits c.names c.held c.kept vs.locals slots
        → Follows o u (Wants line (Spawns (code (with_locals (bound (function_in o.program x).parameters (reverse us)) vs) (function_in o.program x).body)) (λ ws. Reduced ws)) vs c (at c pc slots (us ++ c.base))
    spawn_follows vs c pc x f line us slots k there len last named holds =
        let n = o.number x in
        let d = function_in o.program x in
        let of = codes.code x f there in
        let own = reverse us ++ map default_of f.locals in
        let inside : Variables = with_locals (bound d.parameters (reverse us)) vs in (
          at c pc slots (us ++ c.base),
          at c (pc + 1) slots c.base,
          stays u (parts vs (at c pc slots (us ++ c.base))),
          (
            point.Spawn n (reverse us),
            (
              record {
                number = n;
                args = reverse us;
                f = f;
                is = refl;
                there = there;
                stands = record {
                  number = n;
                  names = of.names;
                  f = f;
                  there = there;
                  exit = length f.code;
                  ends = inl refl;
                  stands = of.body.at inside own [] [] [] named (fits_bound d.parameters (reverse us) (map default_of f.locals) (length_reverse us ∙ len));
                };
              },
              refl,
            ),
            λ t. here o u (values vs.globals) (call c pc slots (us ++ c.base)) c.below t (instr.Spawn n) last.last.is
                ∙ spawn_row u last.last.is.f c.function pc (values vs.globals) slots c.below t n f us c.base there (len ∙ sym of.params),
            record { function = c.function; pc = pc; f = last.last.is.f; stands = refl; there = last.last.is.there; lines = last.lines },
            λ ws len'. (at c (pc + 1) slots (ws ++ c.base), given c (pc + 1) slots ws, (len' ∙ k, (pc + 1, last.last.comes, record { named = named; slots = slots; holds = holds; is = refl }))),
          ),
        )

    pub sim : (t : Term) (vs : Variables) (d : ℕ) → Sim o u Live moves t vs d
    sim (Reduced us) vs d c s e live r =
        at_place o u (Has us) vs vs c r.1.0 (us ++ c.base) s Live live r.1.2 (λ live'. (r.0, r.1.2.named, (r.1.2.slots, r.1.2.holds, comes_lead o u vs c r.1.0 c.exit r.1.2.slots (us ++ c.base) r.1.1)))
    sim (Constant v) vs d c s e live r =
        let pc = r.1.0 in
        let end = r.1.1 in
        let st = r.1.4 in
        at_place o u (Becomes false vs (Reduced (v ∷ []))) vs vs c pc c.base s Live live st
        (λ live'. (at c end st.slots (v ∷ c.base), constant_lead o u Live moves vs c v pc end st.slots c.base r.1.2 live', (r.0, (end, r.1.3, record { named = st.named; slots = st.slots; holds = st.holds; is = refl }))))
    sim (Variable scope x) vs d c s e live r =
        let st = r.1.4 in
        at_place o u (Becomes false vs (Reduced (value_of vs scope x ∷ []))) vs vs c r.1.0 c.base s Live live st
        (λ live'. load_follows vs c r.1.0 r.1.1 scope x st.slots r.0 r.1.2 r.1.3 st.named st.holds live')
    sim (Compute comp line a) vs d c s e live r =
        let pc = r.1.0 in
        let n = r.1.1.0 in
        let i = r.1.1.1.0 in
        let q = r.1.1.1 in
        bind_follows o u Live moves (step o.program vs d a) (λ a'. Compute comp line a') (λ us. gives vs line (computed comp us)) vs (part c pc n) c s (record { function = refl; below = refl; loop = inl refl }) live
        (λ vs' a' s' st. (r.0, (pc, (n, (i, q.1, q.2, st)))))
        (λ us slots len named holds live'. compute_follows vs c pc n i line comp us slots q.1 len r.0 q.2 named holds live')
        (sim a vs d (part c pc n) s e live q.3)
    sim (Does action line a) vs d c s e live r =
        let pc = r.0 in
        bind_follows o u Live moves (step o.program vs d a) (λ a'. Does action line a') (λ us. Wants line (request_of action us) (λ ws. Reduced ws)) vs (part c pc (takes action)) c s (record { function = refl; below = refl; loop = inl refl }) live
        (λ vs' a' s' st. (pc, r.1, (st, r.2.1)))
        (λ us slots len named holds live'. action_follows vs c pc action line us slots len r.2.1 r.1 named holds live')
        (sim a vs d (part c pc (takes action)) s e live r.2.0)
    sim Nothing vs d c s e live r =
        at_place o u (Has []) vs vs c r.1.0 c.base s Live live r.1.2 (λ live'. (r.0, r.1.2.named, (r.1.2.slots, r.1.2.holds, comes_lead o u vs c r.1.0 c.exit r.1.2.slots c.base r.1.1)))
    sim (More a b) vs d c s e live r =
        let pc = r.3.0 in
        two_follows o u Live moves a b (λ a' b'. More a' b') (λ us ws. Has (ws ++ us)) r.0 r.1 pc d vs c s e live (sim a vs d) (sim b vs d)
        (λ vs' a' b' s' st. (r.0, r.1, r.2, (pc, r.3.1, st)))
        (λ us ws slots len len' named holds live'. (
          omega (arith, length-append ws us, len, len', r.2),
          named,
          (slots, holds, subst (λ l. Leads u (parts vs (at c pc slots (ws ++ (us ++ c.base)))) (parts vs (at c c.exit slots l))) (sym (append_assoc ws us c.base)) (comes_lead o u vs c pc c.exit slots (ws ++ (us ++ c.base)) r.3.1)),
        ))
        r.3.2
    sim (Choose t a b) vs d c s e live r =
        let pc = r.0 in
        bind_follows o u Live moves (step o.program vs d t) (λ t'. Choose t' a b) (λ us. Becomes false vs (choice (is_true (first us)) a b)) vs (part c pc 1) c s (record { function = refl; below = refl; loop = inl refl }) live
        (λ vs' t' s' st. (pc, r.1, r.2, r.3, r.4, st))
        (λ us slots len named holds live'. one_follows o u Live moves us (Becomes false vs (choice (is_true (first us)) a b)) vs c pc slots len live'
        (λ live''. choose_follows vs c pc r.1 a b (first us) slots (is_true (first us)) refl r.2 r.3 r.4 named holds live''))
        (sim t vs d (part c pc 1) s e live r.5)
    sim (Call x line a) vs d c s e live r =
        let pc = r.1.0 in
        let n = length (function_in o.program x).parameters in
        bind_follows o u Live moves (step o.program vs d a) (λ a'. Call x line a') (λ us. entered (nat_lt d MAX_CALLS) vs line (function_in o.program x) us) vs (part c pc n) c s (record { function = refl; below = refl; loop = inl refl }) live
        (λ vs' a' s' st. (r.0, (pc, r.1.1, st)))
        (λ us slots len named holds live'. entered_follows vs c pc x line us slots (nat_lt d MAX_CALLS) (ap (λ n. nat_lt n MAX_CALLS) e) len r.0 r.1.1 named holds)
        (sim a vs d (part c pc n) s e live r.1.2)
    sim (Frame own t) vs d c s e live r =
        let pc = r.0 in
        let slots = r.2.0 in
        let number = r.2.2.0 in
        let runs = r.2.2.1.0 in
        let names = r.2.2.1.1.0 in
        let cc : Site = record { function = number; loop = None; names = names; exit = length runs.f.code; kind = 0; base = []; below = at c pc slots c.base; held = []; kept = [] } in
        frame_follows (step o.program (with_locals own vs) (d + 1) t) vs own cc c pc slots s runs refl refl refl r.1 r.2.1 live
        (λ vs' own' t' s' holds st. (pc, r.1, (slots, holds, (number, (runs, (names, st))))))
        (sim t (with_locals own vs) (d + 1) cc s (omega (arith, e)) live r.2.2.1.1.1)
    sim (Then a b) vs d c s e live r =
        let names = r.1.0 in
        let w = r.1.1 in
        let ca = statement c names w.1 w.0 in
        bind_follows o u Live moves (step o.program vs d a) (λ a'. Then a' b) (λ us. Becomes false vs b) vs ca c s (record { function = refl; below = refl; loop = inr (refl, refl, refl, refl) }) live
        (λ vs' a' s' st. (r.0, (names, (w.0, w.1, w.2, w.3, w.4, st))))
        (λ us slots len named holds live'. (
          at c w.2 slots c.base,
          drops_lead o u Live moves vs c w.0 w.1 w.2 slots us len w.3,
          subst (λ k. Stands o u b vs (record { function = c.function; loop = c.loop; names = c.names; exit = c.exit; kind = k; base = c.base; below = c.below; held = c.held; kept = c.kept }) (at c w.2 slots c.base)) r.0
              (w.4.at vs slots c.base c.kept c.below named holds),
        ))
        (sim a vs d ca s e live w.5)
    sim (Block t) vs d c s e live r = (s, stays u (parts vs s), (r.0, r.1, r.2))
    sim (Inside k t) vs d c s e live r =
        let added = r.2.0 in
        let w = r.2.1 in
        let ct = statement c (added ++ c.names) w.1 w.0 in
        bind_follows o u Live moves (step o.program vs d t) (λ t'. Inside k t') (λ us. Becomes false (left_to k vs) (Reduced [])) vs ct c s (record { function = refl; below = refl; loop = inr (refl, refl, refl, refl) }) live
        (λ vs' t' s' st. (r.0, r.1, (added, (w.0, w.1, w.2, st))))
        (λ us slots len named holds live'. (
          at c c.exit slots c.base,
          drops_lead o u Live moves vs c w.0 w.1 c.exit slots us len w.2,
          (r.0, (c.exit, record { count = 0; jumps = refl }, record { named = named; slots = slots; holds = fits_outer added c.names c.held c.kept vs.locals slots k r.1 holds; is = refl })),
        ))
        (sim t vs d ct s e live w.3)
    sim (Declare local x a) vs d c s e live r =
        let names = r.1.0 in
        let slot = r.1.1.0 in
        let pc = r.1.1.1 in
        let q = r.1.1 in
        bind_follows o u Live moves (step o.program vs d a) (λ a'. Declare local x a') (λ us. Becomes false (with_declared vs local x (first us)) (Reduced [])) vs (part_named c names pc 1) c s (record { function = refl; below = refl; loop = inl refl }) live
        (λ vs' a' s' st. (r.0, (names, (slot, pc, q.2, q.3, q.4, q.5, st))))
        (λ us slots len named holds live'. one_follows o u Live moves us (Becomes false (with_declared vs local x (first us)) (Reduced [])) vs c pc slots len live'
        (λ live''. declare_follows vs c names slot pc x (first us) slots r.0 q.2 q.3 q.4 q.5 named holds live''))
        (sim a vs d (part_named c names pc 1) s e live q.6)
    sim (Declare global x a) vs d c s e live r =
        let pc = r.1.0 in
        bind_follows o u Live moves (step o.program vs d a) (λ a'. Declare global x a') (λ us. Becomes false (with_declared vs global x (first us)) (Reduced [])) vs (part c pc 1) c s (record { function = refl; below = refl; loop = inl refl }) live
        (λ vs' a' s' st. (r.0, (pc, r.1.1, st)))
        (λ us slots len named holds live'. one_follows o u Live moves us (Becomes false (with_declared vs global x (first us)) (Reduced [])) vs c pc slots len live' (λ live''. global_follows vs c pc x (first us) slots r.0 r.1.1 named holds live''))
        (sim a vs d (part c pc 1) s e live r.1.2)
    sim (While t body next') vs d c s e live r =
        let st = r.1.4 in
        at_place o u (Becomes true vs (Choose t (Turn (length vs.locals) body (Then next' (While t body next'))) Nothing)) vs vs c r.1.1 c.base s Live live st
        (λ live'. loop_follows t body next' vs c r.1.0 r.1.1 st.slots r.0 r.1.2 r.1.3 st.named st.holds)
    sim (Turn k t next') vs d c s e live r =
        let again = r.2.0 in
        let out = r.2.1 in
        let more = r.2.2.0 in
        let hold = r.2.2.1.0 in
        let q = r.2.2.1 in
        let names = q.3.0 in
        let added = q.3.1.0 in
        turn_follows (step o.program vs d t) vs k next' (λ t'. Turn k t' next') c out again names added more hold s r.0 r.1 q.3.1.1 q.1 q.2
        (λ vs' t' s' st. (r.0, r.1, (again, out, (more, (hold, q.1, q.2, (names, (added, q.3.1.1, st)))))))
        (sim t vs d (looped c out again names more hold) s e live q.3.1.2)
    sim (Switch a cases) vs d c s e live r = switch_follows o u Live moves a cases vs d c s e live (sim a vs d) r
    sim (Case label a cases) vs d c s e live r = absurd r
    sim (Default a cases) vs d c s e live r = absurd r
    sim (Tries v label a cases others) vs d c s e live r = tries_follows o u Live moves v label a cases others vs d c s e live (sim label vs d) r
    sim (Within k t) vs d c s e live r =
        let out = r.2.0 in
        let names = r.2.2.0 in
        let q = r.2.2.1 in
        within_follows o u Live moves (step o.program vs d t) vs k (λ t'. Within k t') c out names q.0 s r.0 r.1 q.1 r.2.1 (λ vs' t' s' st. (r.0, r.1, (out, r.2.1, (names, (q.0, q.1, st)))))
        (sim t vs d (switched c out names) s e live q.2)
    sim Break vs d c s e live r =
        let st = r.1.3.2 in
        let to = r.1.0 in
        let there = subst (λ z. Leads u (parts vs z) (parts vs (at c to.place st.slots c.base))) (sym st.is) (comes_lead o u vs c r.0 to.place st.slots c.base r.1.2) in
        record { to = to; here = r.1.1; added = r.1.3.0; slots = st.slots; named = st.named; holds = subst (λ ns. Fits ns c.held c.kept vs.locals st.slots) r.1.3.1 st.holds; leads = there }
    sim Continue vs d c s e live r =
        let st = r.1.3.2 in
        let to = r.1.0 in
        let there = subst (λ z. Leads u (parts vs z) (parts vs (at c to.place st.slots c.base))) (sym st.is) (comes_lead o u vs c r.0 to.place st.slots c.base r.1.2) in
        record { to = to; here = r.1.1; added = r.1.3.0; slots = st.slots; named = st.named; holds = subst (λ ns. Fits ns c.held c.kept vs.locals st.slots) r.1.3.1 st.holds; leads = there }
    sim (Return a) vs d c s e live r =
        let pc = r.0 in
        let k = results r.1.0.f.ret in
        bind_follows o u Live moves (step o.program vs d a) (λ a'. Return a') (λ us. Returns us) vs (part c pc k) c s (record { function = refl; below = refl; loop = inl refl }) live
        (λ vs' a' s' st. (pc, (r.1.0, st)))
        (λ us slots len named holds live'. record { pc = pc; slots = slots; ops = c.base; is = r.1.0; few = len; named = named; leads = stays u (parts vs (at c pc slots (us ++ c.base))) })
        (sim a vs d (part c pc k) s e live r.1.1)
    sim (Error line a) vs d c s e live r =
        let pc = r.0 in
        let is = r.1.0 in
        bind_follows o u Live moves (step o.program vs d a) (λ a'. Error line a') (λ us. Fails line (run.Error (text_in (first us)))) vs (part c pc 1) c s (record { function = refl; below = refl; loop = inl refl }) live
        (λ vs' a' s' st. (pc, (is, r.1.1, st)))
        (λ us slots len named holds live'. one_follows o u Live moves us (Fails line (run.Error (text_in (first us)))) vs c pc slots len live' (λ live''. (
          at c pc slots (first us ∷ c.base),
          stays u (parts vs (at c pc slots (first us ∷ c.base))),
          λ t. here o u (values vs.globals) (call c pc slots (first us ∷ c.base)) c.below t instr.Stop is ∙ stop_row u is.f c.function pc (values vs.globals) slots c.below t (first us) c.base line r.1.1 (alive o u Live moves vs c pc instr.Stop slots (first us ∷ c.base) is t live''),
        )))
        (sim a vs d (part c pc 1) s e live r.1.2)
    sim (Exit a) vs d c s e live r =
        let pc = r.0 in
        let is = r.1.0 in
        bind_follows o u Live moves (step o.program vs d a) (λ a'. Exit a') (λ us. Exits (status_of (number_in (first us)))) vs (part c pc 1) c s (record { function = refl; below = refl; loop = inl refl }) live
        (λ vs' a' s' st. (pc, (is, st)))
        (λ us slots len named holds live'. one_follows o u Live moves us (Exits (status_of (number_in (first us)))) vs c pc slots len live' (λ live''. (
          at c pc slots (first us ∷ c.base),
          stays u (parts vs (at c pc slots (first us ∷ c.base))),
          λ t. here o u (values vs.globals) (call c pc slots (first us ∷ c.base)) c.below t instr.Exit is ∙ exit_row u is.f c.function pc (values vs.globals) slots c.below t (first us) c.base (alive o u Live moves vs c pc instr.Exit slots (first us ∷ c.base) is t live''),
        )))
        (sim a vs d (part c pc 1) s e live r.1.1)
    sim (Update line scope x into change a) vs d c s e live r =
        let q = r.1 in
        let pc = q.0 in
        let k = q.3 in
        bind_follows o u Live moves (step o.program vs d a) (λ a'. Update line scope x into change a') (λ us. updated vs line scope x (changed change into us (value_of vs scope x))) vs (part c pc (k + length into)) c s (record { function = refl; below = refl; loop = inl refl }) live
        (λ vs' a' s' st. (r.0, (pc, q.1, q.2, k, q.4, q.5, q.6, st)))
        (λ us slots len named holds live'. update_follows vs c pc q.1 q.2 k line scope x into change us slots r.0 q.4 q.5 q.6 len named holds live')
        (sim a vs d (part c pc (k + length into)) s e live q.7)
    sim (SpawnCall x line a) vs d c s e live r =
        let f = r.1.0 in
        let pc = r.1.2.0 in
        let n = length (function_in o.program x).parameters in
        bind_follows o u Live moves (step o.program vs d a) (λ a'. SpawnCall x line a') (λ us. Wants line (Spawns (code (with_locals (bound (function_in o.program x).parameters (reverse us)) vs) (function_in o.program x).body)) (λ ws. Reduced ws)) vs (part c pc n) c s (record { function = refl; below = refl; loop = inl refl }) live
        (λ vs' a' s' st. (r.0, (f, r.1.1, (pc, r.1.2.1, st))))
        (λ us slots len named holds live'. spawn_follows vs c pc x f line us slots r.0 r.1.1 len r.1.2.1 named holds)
        (sim a vs d (part c pc n) s e live r.1.2.2)
    sim (Each x a body) vs d c s e live r =
        let loop = r.1.0 in
        let pc = r.1.1.0 in
        let start = r.1.1.1 in
        bind_follows o u Live moves (step o.program vs d a) (λ a'. Each x a' body) (λ us. Becomes false vs (Items x 0 (first us) body)) vs (part c pc 1) c s (record { function = refl; below = refl; loop = inl refl }) live
        (λ vs' a' s' st. (r.0, (loop, (pc, start, r.1.1.2, r.1.1.3, st))))
        (λ us slots len named holds live'. one_follows o u Live moves us (Becomes false vs (Items x 0 (first us) body)) vs c pc slots len live'
        (λ live''. each_follows o u Live moves vs c pc start x body loop (first us) slots r.0 r.1.1.2 r.1.1.3 named holds live''))
        (sim a vs d (part c pc 1) s e live r.1.1.4)
    sim (Items x i list body) vs d c s e live r =
        let loop = r.1.0 in
        let n = r.1.1.0 in
        let pc = r.1.1.1 in
        let st = r.1.1.3 in
        subst (λ z. Follows o u (item_next vs x i list body (slice_get (items_in list) i)) vs c z) (sym st.is)
        (items_follows o u Live moves vs c n i pc x list body loop st.slots r.0 r.1.1.2 st.named st.holds (subst (λ z. Live (parts vs z)) st.is live))
    sim (Settle k a rest) vs d c s e live r = settle_follows o u Live moves k a rest vs d c s e live (sim a vs d) r
    sim (Weigh line rest) vs d c s e live r = weigh_follows o u Live moves line rest vs c s live r
    sim (Make making line w command) vs d c s e live r = make_follows o u Live moves making line w command vs d c s e live (sim command vs d) r
    sim (SpawnBlock line block) vs d c s e live r =
        let number = r.1.0 in
        let f = r.1.1.0 in
        let is = r.1.1.1.0 in
        let names = r.1.1.1.1.0 in
        let w = r.1.1.1.1.2 in
        at_place o u (Wants line (Spawns (code vs block)) (λ ws. Reduced ws)) vs vs c w.0 c.base s Live live w.10
        (λ live'. block_follows vs c block line number w.0 w.1 w.2 f is names r.1.1.1.1.1 w.10.slots r.0 w.3 w.4 w.5 w.6 w.7 w.8 w.9 w.10.named w.10.holds live')
