use Rattle.std.proofs.Common.{◌∙◌, ap, sym, subst, List}
use Rattle.bds_value.specs.declared.value.Value.{Value}
use Rattle.bds_code_frames.specs.declared.thread.Thread.{Thread}
use Rattle.bds_state_threads.specs.Made.{IsBegun}
use Rattle.bds_verify.specs.Threads.{Typed}
use Rattle.bds_state.proofs.Spawning.{begun_counted, found_live, live_globals}
use Rattle.bds_state.proofs.state.made_by.Goals as goal

pub new_thread-requires-clause-globals : goal.new_thread-requires-clause-globals
new_thread-requires-clause-globals c =
    let h = c.requires.maker in
    let same = c.in_ok-globals.ensures
    ∙ ap (λ (t : Thread). t.globals) (found_live c.args.threads.now c.args.maker c.index-threads-maker.result h
    c.index-threads-maker.is) in
    subst (λ (g : List Value). Typed g c.args.unit.now.globals) (sym same)
    (live_globals c.args.unit.now h.thread h.live (c.requires.valid c.args.maker h.thread h.there))

pub returns : goal.returns
returns c =
    let h = c.requires.maker in
    let same = c.in_ok-globals.ensures
    ∙ ap (λ (t : Thread). t.globals) (found_live c.args.threads.now c.args.maker c.index-threads-maker.result h
    c.index-threads-maker.is) in
    let begun = subst (λ (g : List Value). IsBegun c.args.unit.now c.args.maker c.args.function c.args.args g
    c.in_ok-made.made) same c.in_ok-made.ensures.begun in (
      h.thread,
      h.there,
      begun,
      c.in_ok-made.ensures.valid,
      begun_counted c.args.unit.now c.args.maker c.args.function c.args.args h.thread.globals c.in_ok-made.made begun
          c.are_counted.ensures,
    )
