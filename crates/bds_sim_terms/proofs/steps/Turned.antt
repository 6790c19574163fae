-- A call that has run a thread to a point has taken the turn of the source's thread.
use Rattle.std.proofs.Common.{◌≡◌, List, [], ◌∷◌, reverse, length, Some, refl, ap, subst, arith}
use Rattle.std.specs.Prelude.{◌≢◌}
use Rattle.bds_value.specs.declared.value.Value.{Value}
use Rattle.bds_code.specs.declared.unit.Unit.{Unit as CodeUnit}
use Rattle.bds_code_frames.specs.declared.frame.Frame.{Frame}
use Rattle.bds_value.specs.declared.ids.Status.{Status}
use Rattle.bds_value.specs.declared.ids.Status.TheVariants.{Ready}
use Rattle.bds_code_frames.specs.Stack.{stack, call_of}
use Rattle.bds_machine.specs.Running.{rows, left_at}
use Rattle.bds_verify.specs.Threads.{HasParts}
use Rattle.bds_sim_terms.specs.steps.Stands.{Source}
use Rattle.bds_verify.specs.Verified.{VerifiedUnit}
use Rattle.bds_sim.specs.Threads.{Live}
use Rattle.bds_sim_terms.specs.steps.Law.{TurnsAgree}
use Rattle.bds_sim_terms.proofs.steps.Leads.{Moves}
use Rattle.bds_sim_terms.proofs.steps.Turning.{turns}
use Rattle.bds_sim.proofs.Valid.{Keeps}
use Rattle.bds_sim.proofs.Lasting.{keeps}

some_calls : (frames : List Frame) → frames ≢ [] → stack frames ≢ []
some_calls [] some e = some refl
some_calls (f ∷ fs) some e = absurd (omega (arith, ap length e, Rattle.std.proofs.lemmas.List.length-map (reverse (f ∷ fs)) call_of, Rattle.std.proofs.lemmas.List.length-reverse (f ∷ fs)))

ready_live : (u : CodeUnit) (status : Status) (g : List Value) (frames : List Frame) → status ≡ Ready → HasParts u status g frames → Live u (record { globals = g; calls = stack frames })
ready_live u status g frames e h =
    let parts = subst (λ status. HasParts u status g frames) e h in
    record { valid = parts.0; some = some_calls frames parts.1 }

moving : (u : CodeUnit) → VerifiedUnit u → Moves u (Live u)
moving u verified = let k : Keeps u = keeps u verified in record { moves = k.moves; stays = k.stays; short = k.short }

pub turns_agree : (o : Source) (u : CodeUnit) → TurnsAgree o u
turns_agree o u codes verified old before p new after ready valid run c st =
    let live = ready_live u old.status old.globals old.frames ready valid in
    turns o u (Live u) (moving u verified) codes c (stack old.frames) before st.calls (subst (λ g. Live u (record { globals = g; calls = stack old.frames })) st.globals_are live)
    run.count p new.globals (stack new.frames) after
    (subst (λ g. rows u run.count g (stack old.frames) before ≡ Some (left_at p new.globals (stack new.frames) after)) st.globals_are run.run)
