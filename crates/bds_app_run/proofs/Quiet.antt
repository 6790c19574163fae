-- Where a call saves nothing.
use Rattle.std.proofs.Common.{ℕ, ◌≡◌, ◌∙◌, inl, inr, List, [], ◌∷◌, ◌++◌, Result, Ok, Err, refl, sym, ap, subst, append_assoc, append-nil, drop}
use Rattle.std.proofs.lemmas.List.{append_cancel_left}
use Rattle.bds_host.specs.declared.asks.Ask.{Ask}
use Rattle.bds_host.specs.declared.asks.Ask.TheVariants.{Save, Err as Tells}
use Rattle.bds_host.specs.declared.asks.Reply.{Reply}
use Rattle.bds_host.specs.declared.asks.Reply.TheVariants as reply
use Rattle.bds_host.specs.declared.asks.Reply.TheVariants.{NoRoom}
use Rattle.bds_host.specs.declared.faults.Fault.{Fault as AFault}
use Rattle.bds_host.specs.declared.faults.Fault.TheVariants as fault
use Rattle.bds_host.specs.Host.{Log}
use Rattle.bds_host.specs.Message.{message_of}
use Rattle.bds_sim.specs.schedule.Agree.{IsPlain}
use Rattle.bds_engine_parts.proofs.WholeRuns.{first_or, none_behind}
use Rattle.bds_app_run.specs.Saves.{ArePlain, Quiet}
use Rattle.bds_app_run.specs.Telling.{TellsDevice}
use Rattle.bds_app_run.specs.Asks.{IsAskDone}
use Rattle.bds_app_run.specs.declared.outcome.Outcome.{Outcome}
use Rattle.bds_app_run.specs.declared.stop.Stop.{Stop}
use Rattle.bds_app_run.specs.declared.stop.Stop.TheVariants as stop

pub nothing_added : (log : Log) → Quiet log log
nothing_added log = record { pairs = []; grown = sym (append-nil log); plain = tt }

plain_more : (ps : Log) (a : Ask) (r : Reply) → ArePlain ps → IsPlain a → ArePlain (ps ++ (a, r) ∷ [])
plain_more [] a r h plain = (plain, tt)
plain_more (p ∷ ps) a r h plain = (h.0, plain_more ps a r h.1 plain)

pub quiet_more : (before log after : Log) (a : Ask) (r : Reply) → Quiet before log → IsPlain a → after ≡ log ++ (a, r) ∷ [] → Quiet before after
quiet_more before log after a r q plain e =
    record { pairs = q.pairs ++ (a, r) ∷ []; grown = e ∙ ap (λ x. x ++ (a, r) ∷ []) q.grown ∙ append_assoc before q.pairs ((a, r) ∷ []); plain = plain_more q.pairs a r q.plain plain }

-- no save is plain
not_first : (p : Ask × Reply) (l m : Log) (file bytes : List ℕ) (reply : Reply) → IsPlain p.0 → p ∷ l ≡ (Save file bytes, reply) ∷ m → ⊥
not_first p l m file bytes reply h e = subst (λ (q : Ask × Reply). IsPlain q.0) (ap (λ x. first_or p x) e) h

none_plain : (ps earlier rest : Log) (file bytes : List ℕ) (reply : Reply) → ArePlain ps → ps ≡ earlier ++ (Save file bytes, reply) ∷ rest → ⊥
none_plain [] earlier rest file bytes reply h e = none_behind earlier (Save file bytes, reply) rest e
none_plain (p ∷ ps) [] rest file bytes reply h e = not_first p ps rest file bytes reply h.0 e
none_plain (p ∷ ps) (q ∷ earlier) rest file bytes reply h e = none_plain ps earlier rest file bytes reply h.1 (ap (λ l. drop 1 l) e)

-- a save stands behind what has none, or before it
pub behind_plain : (ps more earlier rest : Log) (file bytes : List ℕ) (reply : Reply) → ArePlain ps → ps ++ more ≡ earlier ++ (Save file bytes, reply) ∷ rest → (pairs : Log) × (earlier ≡ ps ++ pairs) × (more ≡ pairs ++ (Save file bytes, reply) ∷ rest)
behind_plain [] more earlier rest file bytes reply h e = (earlier, refl, e)
behind_plain (p ∷ ps) more [] rest file bytes reply h e = absurd (not_first p (ps ++ more) rest file bytes reply h.0 e)
behind_plain (p ∷ ps) more (q ∷ earlier) rest file bytes reply h e =
    let r = behind_plain ps more earlier rest file bytes reply h.1 (ap (λ l. drop 1 l) e) in
    (r.0, ap (λ x. x ∷ earlier) (sym (ap (λ l. first_or p l) e)) ∙ ap (λ l. p ∷ l) r.1, r.2)

pub before_plain : (more ps earlier rest : Log) (file bytes : List ℕ) (reply : Reply) → ArePlain ps → more ++ ps ≡ earlier ++ (Save file bytes, reply) ∷ rest → (left : Log) × (more ≡ earlier ++ (Save file bytes, reply) ∷ left)
before_plain [] ps earlier rest file bytes reply h e = absurd (none_plain ps earlier rest file bytes reply h e)
before_plain (m ∷ more) ps [] rest file bytes reply h e = (more, ap (λ x. x ∷ more) (ap (λ l. first_or m l) e))
before_plain (m ∷ more) ps (q ∷ earlier) rest file bytes reply h e =
    let r = before_plain more ps earlier rest file bytes reply h (ap (λ l. drop 1 l) e) in
    (r.0, ap (λ x. x ∷ more) (ap (λ l. first_or m l) e) ∙ ap (λ l. q ∷ l) r.1)

pub none_saved : (before after : Log) → Quiet before after → (earlier rest : Log) (file bytes : List ℕ) (reply : Reply) → after ≡ before ++ (earlier ++ (Save file bytes, reply) ∷ rest) → ⊥
none_saved before after q earlier rest file bytes reply e =
    none_plain q.pairs earlier rest file bytes reply q.plain (append_cancel_left before q.pairs (earlier ++ (Save file bytes, reply) ∷ rest) (sym q.grown ∙ e))

pub quiet_twice : (before log after : Log) → Quiet before log → Quiet log after → Quiet before after
quiet_twice before log after q r = record { pairs = q.pairs ++ r.pairs; grown = r.grown ∙ ap (λ x. x ++ r.pairs) q.grown ∙ append_assoc before q.pairs r.pairs; plain = both q.pairs q.plain }
  where
    both : (ps : Log) → ArePlain ps → ArePlain (ps ++ r.pairs)
    both [] h = r.plain
    both (p ∷ ps) h = (h.0, both ps h.1)

-- a refusal is told
pub quiet_refused : (f : AFault) (before after : Log) (r : Result (Unit {0}) Stop) → IsAskDone (Tells (message_of f)) before after r → Quiet before after
quiet_refused f before after (Ok u) a = quiet_more before before after (Tells (message_of f)) reply.Done (nothing_added before) tt a.grown
quiet_refused f before after (Err stop.Fault) a = quiet_more before before after (Tells (message_of f)) reply.Fault (nothing_added before) tt a.grown
quiet_refused f before after (Err stop.NoMemory) (inl same) = subst (λ x. Quiet before x) (sym same) (nothing_added before)
quiet_refused f before after (Err stop.NoMemory) (inr more) = quiet_more before before after (Tells (message_of f)) NoRoom (nothing_added before) tt more

-- a fault of the device is told
pub quiet_told : (before after : Log) (o : Outcome) → TellsDevice before after o → Quiet before after
quiet_told before after _ (TellsDevice.told_so r a) = quiet_more before before after (Tells (message_of fault.Device)) r (nothing_added before) tt a.grown
quiet_told before after _ (TellsDevice.untold (inl same)) = subst (λ x. Quiet before x) (sym same) (nothing_added before)
quiet_told before after _ (TellsDevice.untold (inr more)) = quiet_more before before after (Tells (message_of fault.Device)) NoRoom (nothing_added before) tt more
