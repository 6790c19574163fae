-- Each row of a live thread leaves less before it, or has used a tick, and leaves the thread live.
use Rattle.std.proofs.Common.{◌≡◌, ◌≢◌, ◌∙◌, ◌⊎◌, inl, inr, ℕ, ◌+◌, ◌-◌, ◌<◌, ◌≤◌, Bool, true, false, List, [], ◌∷◌}
use Rattle.std.proofs.Common.{length, slice_get, Option, Some, None, sym, ap, refl, subst, arith}
use Rattle.std.specs.Prelude.{cond, nat_eq, unwrap_or}
use Rattle.std.proofs.lemmas.Bool.{eqb-true, false≢true}
use Rattle.std.proofs.lemmas.Option.{slice_get_within}
use Rattle.bds_value.specs.declared.value.At.{At}
use Rattle.bds_value.specs.declared.value.Value.{Value}
use Rattle.bds_value.specs.declared.faults.RunFault.{RunFault}
use Rattle.bds_value.specs.Options.{◌>>=◌}
use Rattle.bds_host.specs.declared.asks.Ask.TheVariants as ask
use Rattle.bds_code.specs.declared.unit.Function.{Function}
use Rattle.bds_code.specs.declared.unit.Unit.{Unit as CodeUnit}
use Rattle.bds_code_frames.specs.Stack.{Call, Stack, pushed, with_ops, with_place}
use Rattle.bds_verify.specs.Pass.{is_tick}
use Rattle.bds_verify.specs.Verified.{VerifiedUnit}
use Rattle.bds_machine.specs.declared.point.Point.{Point}
use Rattle.bds_machine.specs.declared.point.Point.TheVariants as point
use Rattle.bds_machine.specs.Answers.{is_awaited}
use Rattle.bds_machine.specs.Calls.{Step, On, Leaves, Ends}
use Rattle.bds_machine.specs.Table.{row, step as machine_step}
use Rattle.bds_machine.specs.Weight.{ahead, ahead_in, all_ahead, weight}
use Rattle.bds_machine.proofs.Moves.{Well, ahead-next, at_most}
use Rattle.bds_machine.proofs.Progress.{next_row}
use Rattle.bds_machine.proofs.Wholes.{code_short}
use Rattle.bds_schedule.specs.Requests.{ThreadAct, GoesOn, Needs, Stops, Quits}
use Rattle.bds_sim.specs.schedule.Agree.{IsGiven}
use Rattle.bds_sim.specs.Threads.{Live}
use Rattle.bds_sim.specs.Threads.{Parts, answered}
use Rattle.bds_sim.specs.Row.{begins, behind, ended, left, line_behind, no_line, outcome_of, request_of, row_step}
use Rattle.bds_sim.proofs.Lasting.{keeps, stays_live}
use Rattle.bds_rank.specs.Keeping.{IsFit, StaysLive}
use Rattle.bds_rank.specs.Lessening.{Falls, IsSmall}
use Rattle.bds_rank.specs.Machine.{RowsFall, code_left}
use Rattle.bds_rank.proofs.Leaving.{IsFew, IsTop, LeftSo, bind_some, row_left}

-- An answer leaves function and place of the newest call

pub answers_there : (us : List Value) (d : Call) (below : Stack)
    → (e : Call) × (answered us (d ∷ below) ≡ Some (e ∷ below)) × (e.function ≡ d.function) × (e.place ≡ d.place)
answers_there [] d below = (d, refl, refl, refl)
answers_there (v ∷ us) d below =
    let w = answers_there us d below in
    (with_ops (v ∷ w.0.ops) w.0, ap (λ o. o >>= pushed v) w.1, w.2, w.3)

module _ (u : CodeUnit) where
  lighter_on : (s s' : Stack) (t : ℕ) → weight u s' t < weight u s 1 → (t ≡ 0 → ⊥) → all_ahead u s' < all_ahead u s
  unfolding weight
  lighter_on s s' t less some = omega arith

  lighter_tick : (s s' : Stack) (t : ℕ) → weight u s' t < weight u s 1 → t ≡ 0
      → all_ahead u s' < all_ahead u s + 33554432
  unfolding weight
  lighter_tick s s' t less none = omega arith

  -- one place further
  lighter_behind : (c d : Call) (below : Stack) → d.function ≡ c.function → d.place ≡ c.place + 1
      → ahead u c.function (c.place + 1) < ahead u c.function c.place
      → all_ahead u (d ∷ below) < all_ahead u (c ∷ below)
  lighter_behind c d below function place less =
      let e : ahead u d.function d.place ≡ ahead u c.function (c.place + 1) =
      ap (λ n. ahead u n d.place) function ∙ ap (ahead u c.function) place in omega arith

  -- a thread that begins
  begun_ahead : (n : ℕ) (o : Option Function) → ((f : Function) → o ≡ Some f → length f.code ≤ 16777216)
      → slice_get u.functions n ≡ o → ahead u n 0 ≤ 16777217
  unfolding ahead
  begun_ahead n None short is =
      let e : ahead_in (slice_get u.functions n) 0 ≡ 0 = ap (λ o. ahead_in o 0) is in omega arith
  begun_ahead n (Some f) short is =
      let e : ahead_in (slice_get u.functions n) 0 ≡ cond (is_tick (slice_get f.code 0)) 0 (length f.code - 0 + 1) =
      ap (λ o. ahead_in o 0) is in
      let few = at_most (is_tick (slice_get f.code 0)) (length f.code) 0 in
      let code = short f refl in omega arith

  begun_small : VerifiedUnit u → (g : List Value) (n : ℕ) (args : List Value)
      → code_left u (begins u g n args) ≤ 33554432
  begun_small v g n args =
      let few = begun_ahead n (slice_get u.functions n) (λ f is. code_short u f (v.functions n f is).whole) refl in
      small (ahead u n 0) few
    where
      small : (a : ℕ) → a ≤ 16777217 → a + 1 + 0 ≤ 33554432
      small a few = omega arith

  small_request : VerifiedUnit u → (g : List Value) (s : Stack) (p : Point) → IsFew p
      → IsSmall (code_left u) (request_of u g s p)
  small_request v g s (point.Asks (ask.Read path)) few = tt
  small_request v g s (point.Asks (ask.Stamp path)) few = tt
  small_request v g s (point.Asks (ask.Write path text)) few = tt
  small_request v g s (point.Asks (ask.Remove path)) few = tt
  small_request v g s (point.Asks (ask.Out text)) few = tt
  small_request v g s (point.Asks (ask.Err text)) few = tt
  small_request v g s (point.Asks (ask.Sys command)) few = tt
  small_request v g s (point.Asks (ask.Start task attempt command)) few = tt
  small_request v g s (point.Asks (ask.Next ks ns)) few = tt
  small_request v g s (point.Asks (ask.Save path image)) few = tt
  small_request v g s (point.Old outs ins) few = tt
  small_request v g s (point.Task task) few = few
  small_request v g s (point.Declare rule) few = tt
  small_request v g s (point.Goal targets) few = tt
  small_request v g s (point.Spawn n args) few = begun_small v g n args
  small_request v g s (point.Wait texts) few = tt
  small_request v g s point.WaitAll few = tt
  small_request v g s (point.Save path) few = tt
  small_request v g s (point.Exit code) few = tt
  small_request v g s (point.Stop fault at) few = tt
  small_request v g s point.Finished few = tt
  small_request v g s point.Spent few = tt

  fit_request : (g : List Value) (s : Stack) (p : Point) → IsFew p
      → ((n : ℕ) (args : List Value) → p ≡ point.Spawn n args → Live u (begins u g n args))
      → IsFit (Live u) (request_of u g s p)
  fit_request g s (point.Asks (ask.Read path)) few begun = tt
  fit_request g s (point.Asks (ask.Stamp path)) few begun = tt
  fit_request g s (point.Asks (ask.Write path text)) few begun = tt
  fit_request g s (point.Asks (ask.Remove path)) few begun = tt
  fit_request g s (point.Asks (ask.Out text)) few begun = tt
  fit_request g s (point.Asks (ask.Err text)) few begun = tt
  fit_request g s (point.Asks (ask.Sys command)) few begun = tt
  fit_request g s (point.Asks (ask.Start task attempt command)) few begun = tt
  fit_request g s (point.Asks (ask.Next ks ns)) few begun = tt
  fit_request g s (point.Asks (ask.Save path image)) few begun = tt
  fit_request g s (point.Old outs ins) few begun = tt
  fit_request g s (point.Task task) few begun = tt
  fit_request g s (point.Declare rule) few begun = few
  fit_request g s (point.Goal targets) few begun = tt
  fit_request g s (point.Spawn n args) few begun = begun n args refl
  fit_request g s (point.Wait texts) few begun = tt
  fit_request g s point.WaitAll few begun = tt
  fit_request g s (point.Save path) few begun = tt
  fit_request g s (point.Exit code) few begun = tt
  fit_request g s (point.Stop fault at) few begun = tt
  fit_request g s point.Finished few begun = tt
  fit_request g s point.Spent few begun = tt

  -- what holds of a thread that needs something, and of one that has finished
  needs_so : (P : ThreadAct Parts → Type 0) (p : Point) (g : List Value) (s : Stack) → is_awaited p ≡ true
      → P (Needs (unwrap_or (line_behind u s) no_line) (request_of u g s p) (behind g s)) → P (left u p g s)
  needs_so P (point.Asks a) g s awaited h = h
  needs_so P (point.Old outs ins) g s awaited h = h
  needs_so P (point.Task task) g s awaited h = h
  needs_so P (point.Declare rule) g s awaited h = h
  needs_so P (point.Goal targets) g s awaited h = h
  needs_so P (point.Spawn n args) g s awaited h = h
  needs_so P (point.Wait texts) g s awaited h = h
  needs_so P point.WaitAll g s awaited h = h
  needs_so P (point.Save path) g s awaited h = h
  needs_so P (point.Exit code) g s awaited h = absurd (false≢true awaited)
  needs_so P (point.Stop fault at) g s awaited h = absurd (false≢true awaited)
  needs_so P point.Finished g s awaited h = absurd (false≢true awaited)
  needs_so P point.Spent g s awaited h = absurd (false≢true awaited)

  ends_so : (P : ThreadAct Parts → Type 0) → ((line : At) (f : RunFault) → P (Stops line f))
      → ((status : ℕ) → P (Quits status)) → (p : Point) → P (ended p)
  ends_so P stops quits (point.Stop fault line) = stops line fault
  ends_so P stops quits (point.Exit status) = quits status
  ends_so P stops quits (point.Asks a) = quits 0
  ends_so P stops quits (point.Old outs ins) = quits 0
  ends_so P stops quits (point.Task task) = quits 0
  ends_so P stops quits (point.Declare rule) = quits 0
  ends_so P stops quits (point.Goal targets) = quits 0
  ends_so P stops quits (point.Spawn n args) = quits 0
  ends_so P stops quits (point.Wait texts) = quits 0
  ends_so P stops quits point.WaitAll = quits 0
  ends_so P stops quits (point.Save path) = quits 0
  ends_so P stops quits point.Finished = quits 0
  ends_so P stops quits point.Spent = quits 0

  -- the row at which the newest call of a thread stands
  left_from : (g : List Value) (c : Call) (below : Stack) (p : Point) (g' : List Value) (s' : Stack) (t : ℕ)
      → machine_step u g (c ∷ below) 1 ≡ Some (Leaves p g' s' t) → (p ≡ point.Finished) ⊎ LeftSo u c below p s' t
  unfolding machine_step
  left_from g c below p g' s' t e =
      let f =
      bind_some (slice_get u.functions c.function)
      (λ f. slice_get f.code c.place >>= λ i. row u f i c.place g (c ∷ below) 1) (Leaves p g' s' t) e in
      let i =
      bind_some (slice_get f.0.code c.place) (λ i. row u f.0 i c.place g (c ∷ below) 1) (Leaves p g' s' t) f.2
      in
      row_left u f.0 g c below p g' s' t f.1 i.0 i.1 i.2

  module _ (v : VerifiedUnit u) (m : Parts) (live : Live u m) where
    abbrev Good : ThreadAct Parts → Type 0
    Good a = Falls (code_left u) m a × StaysLive (Live u) a

    goes_so : (g' : List Value) (s' : Stack) (t : ℕ) → weight u s' t < weight u m.calls 1
        → Live u (record { globals = g'; calls = s' }) → (b : Bool) → nat_eq t 0 ≡ b
        → Good (GoesOn b (record { globals = g'; calls = s' }))
    goes_so g' s' t less stays true is = (lighter_tick m.calls s' t less (eqb-true t 0 is), stays)
    goes_so g' s' t less stays false is =
        (lighter_on m.calls s' t less (λ none. absurd (false≢true (sym is ∙ ap (λ n. nat_eq n 0) none))), stays)

    -- behind an answer
    module _ (c : Call) (below : Stack) (calls : m.calls ≡ c ∷ below) (p : Point) (g' : List Value) (s' : Stack)
        (t : ℕ) (e : machine_step u m.globals m.calls 1 ≡ Some (Leaves p g' s' t)) (so : LeftSo u c below p s' t)
      where
        abbrev top : IsTop (with_place (c.place + 1) c) below s'
        top = so.gone.top

        at_one : machine_step u m.globals m.calls 1 ≡ Some (Leaves p g' s' 1)
        at_one = subst (λ n. machine_step u m.globals m.calls 1 ≡ Some (Leaves p g' s' n)) so.ticks e

        given_there : (us : List Value)
            → (d : Call) × (answered us s' ≡ Some (d ∷ below)) × (d.function ≡ c.function) × (d.place ≡ c.place + 1)
        given_there us =
            let w = answers_there us top.call below in
            (w.0, ap (answered us) top.is ∙ w.1, w.2 ∙ top.function, w.3 ∙ top.place)

        given_is : (us : List Value) → (behind g' s' us).calls ≡ (given_there us).0 ∷ below
        given_is us = ap (λ o. unwrap_or o s') (given_there us).1

        less_behind : (us : List Value) → code_left u (behind g' s' us) < code_left u m
        less_behind us =
            let w = given_there us in
            let further =
            ahead-next u c.function c.place so.f so.there
            (slice_get_within so.f.code c.place so.instruction so.code) (ap is_tick so.code ∙ so.still) in
            let less = lighter_behind c w.0 below w.2 w.3 further in
            subst (λ s. all_ahead u s < code_left u m) (sym (given_is us))
            (subst (λ s. all_ahead u (w.0 ∷ below) < all_ahead u s) (sym calls) less)

        live_behind : (us : List Value) → IsGiven (request_of u g' s' p) us → Live u (behind g' s' us)
        live_behind us given =
            let w = given_there us in
            subst (λ s. Live u (record { globals = g'; calls = s })) (sym (given_is us))
            ((stays_live u v).answered m p g' s' us (w.0 ∷ below) live so.gone.awaited at_one given w.1)

        begun_live : (n : ℕ) (args : List Value) → p ≡ point.Spawn n args → Live u (begins u g' n args)
        begun_live n args is =
            (stays_live u v).begun m n args g' s' live
            (subst (λ p. machine_step u m.globals m.calls 1 ≡ Some (Leaves p g' s' 1)) is at_one)

        needs_good : Good (left u p g' s')
        needs_good =
            needs_so Good p g' s' so.gone.awaited (
              (small_request v g' s' p so.gone.few, less_behind),
              (fit_request g' s' p so.gone.few begun_live, live_behind),
            )

    finished_good : (p : Point) (g' : List Value) (s' : Stack) → p ≡ point.Finished → Good (left u p g' s')
    finished_good p g' s' is = subst (λ p. Good (left u p g' s')) (sym is) (tt, tt)

    leaves_good : (s : Stack) → m.calls ≡ s → (p : Point) (g' : List Value) (s' : Stack) (t : ℕ)
        → machine_step u m.globals m.calls 1 ≡ Some (Leaves p g' s' t) → Good (left u p g' s')
    leaves_good [] none p g' s' t e = absurd (live.some none)
    leaves_good (c ∷ below) calls p g' s' t e =
        go
        (left_from m.globals c below p g' s' t
        (subst (λ s. machine_step u m.globals s 1 ≡ Some (Leaves p g' s' t)) calls e))
      where
        go : (p ≡ point.Finished) ⊎ LeftSo u c below p s' t → Good (left u p g' s')
        go (inl is) = finished_good p g' s' is
        go (inr so) = needs_good c below calls p g' s' t e so

    step_good : (x : Step) → machine_step u m.globals m.calls 1 ≡ Some x → Well u m.calls 1 x
        → Good (outcome_of u (Some x))
    step_good (On g' s' t) e well =
        goes_so g' s' t well.2 ((keeps u v).stays m (record { globals = g'; calls = s' }) 1 t live e) (nat_eq t 0)
        refl
    step_good (Leaves p g' s' t) e well = leaves_good m.calls refl p g' s' t e
    step_good (Ends p t) e well = ends_so Good (λ line f. (tt, tt)) (λ status. (tt, tt)) p

    good : Good (row_step u m)
    good =
        let x = next_row u m.globals m.calls 1 v live.valid live.some in
        subst (λ o. Good (outcome_of u o)) (sym x.1) (step_good x.0 x.1 x.2)

pub rows_fall : RowsFall
rows_fall u v m live = let w = good u v m live in record { less = w.0; live = w.1 }
