-- What is told of a request makes it the machine's.
use Rattle.std.proofs.Common.{◌≡◌, ℕ, List, [], ◌∷◌, ◌++◌, Some, refl, sym, ap, subst}
use Rattle.bds_value.specs.declared.value.Value.{Value}
use Rattle.bds_host.specs.declared.asks.Ask.{Ask}
use Rattle.bds_host.specs.declared.asks.Ask.TheVariants as ask
use Rattle.bds_code.specs.declared.unit.Unit.{Unit as CodeUnit}
use Rattle.bds_code_frames.specs.Stack.{Stack, call_at}
use Rattle.bds_machine.specs.declared.point.Point.{Point}
use Rattle.bds_machine.specs.declared.point.Point.TheVariants as point
use Rattle.bds_meaning.specs.Acts.{Code}
use Rattle.bds_schedule.specs.Requests.{Request, Contacts, Inspects, Compares, MakesTask, Declares, Achieves, Spawns, AwaitsIds, AwaitsAll, Saves}
use Rattle.bds_schedule.specs.Requests.{Question, IsThere, IsEmpty, SizeOf}
use Rattle.bds_sim_terms.specs.steps.Stands.{Source, question_number, IsContact, Points, Spawned, StandsAlone}
use Rattle.bds_sim.specs.Threads.{Parts}
use Rattle.bds_sim.specs.schedule.Agree.{SameRequest}
use Rattle.bds_sim.specs.Row.{question_at, locals_of, begins, request_of}
use Rattle.bds_sim_terms.specs.Stand.{Stand, Finished}
use Rattle.bds_code.specs.declared.instr.Instr.TheVariants as instr

question_is : (q : Question) → question_at (Some (instr.FileStamp (question_number q))) ≡ q
question_is IsThere = refl
question_is IsEmpty = refl
question_is SizeOf = refl

module _ (o : Source) (u : CodeUnit) (Live : Parts → Type 0) where
  abbrev Is : Request Code → Request Parts → Type 0
  Is r r' = SameRequest (Stand o u Live) (Finished o u Live) r r'

  contact : (a : Ask) (g : List Value) (s : Stack) → IsContact a → Is (Contacts a) (request_of u g s (point.Asks a))
  contact (ask.Read path) g s h = SameRequest.contacts (ask.Read path) tt
  contact (ask.Write path text) g s h = SameRequest.contacts (ask.Write path text) tt
  contact (ask.Remove path) g s h = SameRequest.contacts (ask.Remove path) tt
  contact (ask.Out text) g s h = SameRequest.contacts (ask.Out text) tt
  contact (ask.Sys command) g s h = SameRequest.contacts (ask.Sys command) tt
  contact (ask.Stamp path) g s h = absurd h
  contact (ask.Err text) g s h = absurd h
  contact (ask.Start task attempt command) g s h = absurd h
  contact (ask.Next ks ns) g s h = absurd h
  contact (ask.Save path image) g s h = absurd h

  pub told_request : (r : Request Code) (p : Point) (g : List Value) (s : Stack) → Points o u r p g s → ((n : ℕ) (args : List Value) → p ≡ point.Spawn n args → Live (begins u g n args)) → Is r (request_of u g s p)
  told_request (Contacts a) p g s h live = subst (λ p. Is (Contacts a) (request_of u g s p)) (sym h.0) (contact a g s h.1)
  told_request (Inspects q path) p g s h live =
      subst (λ p. Is (Inspects q path) (request_of u g s p)) (sym h.0)
      (subst (λ x. Is (Inspects q path) (Inspects (question_at x) path)) (sym h.1) (subst (λ q'. Is (Inspects q path) (Inspects q' path)) (sym (question_is q)) (SameRequest.inspects q path)))
  told_request (Compares outs ins) p g s h live = subst (λ p. Is (Compares outs ins) (request_of u g s p)) (sym h) (SameRequest.compares outs ins)
  told_request (MakesTask task) p g s h live = subst (λ p. Is (MakesTask task) (request_of u g s p)) (sym h) (SameRequest.makes_task task)
  told_request (Declares rule) p g s h live = subst (λ p. Is (Declares rule) (request_of u g s p)) (sym h) (SameRequest.declares rule)
  told_request (Achieves targets) p g s h live = subst (λ p. Is (Achieves targets) (request_of u g s p)) (sym h) (SameRequest.achieves targets)
  told_request (Spawns c) p g s h live =
      let w : Spawned o u c p = h.0 in
      let is : call_at w.number (w.args ++ locals_of (Some w.f)) ∷ [] ≡ (begins u g w.number w.args).calls = ap (λ x. call_at w.number (w.args ++ locals_of x) ∷ []) (sym w.there) in
      subst (λ p. Is (Spawns c) (request_of u g s p)) (sym w.is)
      (SameRequest.spawns c (begins u g w.number w.args) (record { globals_are = sym h.1; calls = subst (StandsAlone o u c.variables c.term) is w.stands; live = live w.number w.args w.is }))
  told_request (AwaitsIds texts) p g s h live = subst (λ p. Is (AwaitsIds texts) (request_of u g s p)) (sym h) (SameRequest.awaits_ids texts)
  told_request AwaitsAll p g s h live = subst (λ p. Is AwaitsAll (request_of u g s p)) (sym h) SameRequest.awaits_all
  told_request (Saves path) p g s h live = subst (λ p. Is (Saves path) (request_of u g s p)) (sym h) (SameRequest.saves path)
