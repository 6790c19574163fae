-- What is told at an end, and what the log holds behind it.
use Rattle.std.proofs.Common.{◌≡◌, ◌≢◌, ◌++◌, ◌∙◌, ◌+◌, ◌⊎◌, ◌<◌, inl, inr, ℕ, List, [], ◌∷◌, refl, sym, ap, append_assoc, append-nil, arith}
use Rattle.bds_host.specs.declared.asks.Ask.{Ask}
use Rattle.bds_host.specs.declared.asks.Ask.TheVariants.{Out, Err as Tells}
use Rattle.bds_host.specs.declared.asks.Reply.{Reply}
use Rattle.bds_host.specs.declared.asks.Reply.TheVariants as reply
use Rattle.bds_host.specs.declared.faults.Fault.TheVariants as fault
use Rattle.bds_host.specs.Host.{Log, Answered, FoundNoRoom, faults}
use Rattle.bds_host.specs.Message.{message_of}
use Rattle.bds_host.proofs.Growing.{faults-append}
use Rattle.bds_engine_parts.specs.Run.{FaultIsTold}
use Rattle.bds_engine_parts.proofs.Told.{IsClean}
use Rattle.bds_app_run.specs.Telling.{Prints, Says, TellsDevice}
use Rattle.bds_app_run.specs.declared.outcome.Outcome.{Outcome}
use Rattle.bds_app_run.specs.declared.outcome.Outcome.TheVariants.{Ended, Device, NoMemory}

pub clean_faults : (before after : Log) → IsClean before after → faults after ≡ faults before
clean_faults before after h =
    let grown : faults after ≡ faults before + faults h.pairs = ap faults h.grown ∙ faults-append before h.pairs in
    let none : faults h.pairs ≡ 0 = h.clean in
    omega (arith, grown, none)

-- a fault that is told stands in the log
pub has_risen : (before after : Log) → FaultIsTold before after → faults after ≢ faults before
has_risen before after h same =
    let fault_pair : Log = (h.ask, reply.Fault) ∷ [] in
    let told_pair : Log = (Tells (message_of fault.Device), h.reply) ∷ [] in
    let grown : faults after ≡ faults before + (faults h.pairs + (faults fault_pair + faults told_pair)) =
    ap faults h.grown ∙ faults-append before (h.pairs ++ (fault_pair ++ told_pair)) ∙ ap (λ n. faults before + n) (faults-append h.pairs (fault_pair ++ told_pair) ∙ ap (λ n. faults h.pairs + n) (faults-append fault_pair told_pair)) in
    let one : faults fault_pair ≡ 1 = refl in
    omega (arith, grown, one, same)

pub not_risen : (before after : Log) → faults after ≡ faults before → faults before < faults after → ⊥
not_risen before after same rose = omega (arith, same, rose)

-- an ask that was done is no fault
pub done_clean : (log after : Log) (ask : Ask) → after ≡ log ++ (ask, reply.Done) ∷ [] → faults after ≡ faults log
done_clean log after ask e =
    let grown : faults after ≡ faults log + faults ((ask, reply.Done) ∷ []) = ap faults e ∙ faults-append log ((ask, reply.Done) ∷ []) in
    let none : faults ((ask, reply.Done) ∷ []) ≡ 0 = refl in
    omega (arith, grown, none)

-- an answer with its log: there was no memory; an ask was done, and this is the answer; or a fault was told
abbrev pub Comes : Ask → Outcome → Log → Log → Log → Outcome → Type 0
Comes ask answer before log after o = (o ≡ NoMemory) ⊎ (((o ≡ answer) × (after ≡ log ++ (ask, reply.Done) ∷ [])) ⊎ ((o ≡ Device) × FaultIsTold before after))

module _ (before log : Log) (clean : IsClean before log) where
  -- an ask that was replied by a fault, which is told behind it
  pub fault_comes : (ask : Ask) (mid after : Log) (r : Reply) → mid ≡ log ++ (ask, reply.Fault) ∷ [] → Answered mid after (Tells (message_of fault.Device)) r → FaultIsTold before after
  fault_comes ask mid after r e a =
      let told_pair : Log = (Tells (message_of fault.Device), r) ∷ [] in
      let one : Log = (ask, reply.Fault) ∷ [] in
      record {
        pairs = clean.pairs;
        ask = ask;
        reply = r;
        grown = a.grown ∙ ap (λ x. x ++ told_pair) (e ∙ ap (λ x. x ++ one) clean.grown) ∙ append_assoc (before ++ clean.pairs) one told_pair ∙ append_assoc before clean.pairs (one ++ told_pair);
        clean = clean.clean;
        room = a.told;
      }

  pub device_comes : (ask : Ask) (mid after : Log) (o : Outcome) → mid ≡ log ++ (ask, reply.Fault) ∷ [] → TellsDevice mid after o → (o ≡ NoMemory) ⊎ ((o ≡ Device) × FaultIsTold before after)
  device_comes ask mid after _ e (TellsDevice.told_so r a) = inr (refl, fault_comes ask mid after r e a)
  device_comes ask mid after _ e (TellsDevice.untold room) = inl refl

  behind_fault : (ask : Ask) (answer : Outcome) (mid after : Log) (o : Outcome) → mid ≡ log ++ (ask, reply.Fault) ∷ [] → TellsDevice mid after o → Comes ask answer before log after o
  behind_fault ask answer mid after o e t = by (device_comes ask mid after o e t)
    where
      by : (o ≡ NoMemory) ⊎ ((o ≡ Device) × FaultIsTold before after) → Comes ask answer before log after o
      by (inl none) = inl none
      by (inr told) = inr (inr told)

  pub says_comes : (text : List ℕ) (refusal : Outcome) (after : Log) (o : Outcome) → Says text refusal log after o → Comes (Tells text) refusal before log after o
  says_comes text refusal after _ (Says.said a) = inr (inl (refl, a.grown))
  says_comes text refusal after o (Says.faulted mid _ a t) = behind_fault (Tells text) refusal mid after o a.grown t
  says_comes text refusal after _ (Says.no_memory room) = inl refl

  pub prints_comes : (text : List ℕ) (after : Log) (o : Outcome) → Prints text log after o → Comes (Out text) (Ended 0) before log after o
  prints_comes text after _ (Prints.printed a) = inr (inl (refl, a.grown))
  prints_comes text after o (Prints.faulted mid _ a t) = behind_fault (Out text) (Ended 0) mid after o a.grown t
  prints_comes text after _ (Prints.no_memory room) = inl refl

-- What was added

abbrev pub Grows : Log → Log → Type 0
Grows before after = (rest : Log) × (after ≡ before ++ rest)

pub grows_on : (before mid after : Log) → Grows before mid → Grows mid after → Grows before after
grows_on before mid after g h = (g.0 ++ h.0, h.1 ∙ ap (λ x. x ++ h.0) g.1 ∙ append_assoc before g.0 h.0)

pub clean_grows : (before log : Log) → IsClean before log → Grows before log
clean_grows before log h = (h.pairs, h.grown)

pub answered_grows : (before after : Log) (ask : Ask) (r : Reply) → Answered before after ask r → Grows before after
answered_grows before after ask r a = ((ask, r) ∷ [], a.grown)

pub no_room_grows : (before after : Log) (ask : Ask) → FoundNoRoom before after ask → Grows before after
no_room_grows before after ask (inl same) = ([], same ∙ sym (append-nil before))
no_room_grows before after ask (inr more) = ((ask, reply.NoRoom) ∷ [], more)

pub device_grows : (before after : Log) (o : Outcome) → TellsDevice before after o → Grows before after
device_grows before after _ (TellsDevice.told_so r a) = answered_grows before after (Tells (message_of fault.Device)) r a
device_grows before after _ (TellsDevice.untold room) = no_room_grows before after (Tells (message_of fault.Device)) room

pub says_grows : (text : List ℕ) (refusal : Outcome) (before after : Log) (o : Outcome) → Says text refusal before after o → Grows before after
says_grows text refusal before after _ (Says.said a) = answered_grows before after (Tells text) reply.Done a
says_grows text refusal before after o (Says.faulted mid _ a t) = grows_on before mid after (answered_grows before mid (Tells text) reply.Fault a) (device_grows mid after o t)
says_grows text refusal before after _ (Says.no_memory room) = no_room_grows before after (Tells text) room

pub prints_grows : (text : List ℕ) (before after : Log) (o : Outcome) → Prints text before after o → Grows before after
prints_grows text before after _ (Prints.printed a) = answered_grows before after (Out text) reply.Done a
prints_grows text before after o (Prints.faulted mid _ a t) = grows_on before mid after (answered_grows before mid (Out text) reply.Fault a) (device_grows mid after o t)
prints_grows text before after _ (Prints.no_memory room) = no_room_grows before after (Out text) room

-- Answers

abbrev pub Same : Outcome → Outcome → Type 0
Same o other = (o ≡ other) ⊎ ((o ≡ NoMemory) ⊎ (other ≡ NoMemory))

pub turned : (o other : Outcome) → Same o other → Same other o
turned o other (inl same) = inl (sym same)
turned o other (inr (inl none)) = inr (inr none)
turned o other (inr (inr none)) = inr (inl none)

-- no fault, and this answer; a fault, and `Device`; or no memory
abbrev pub Settled : Outcome → Log → Log → Outcome → Type 0
Settled answer before after o = (o ≡ NoMemory) ⊎ (((o ≡ answer) × (faults after ≡ faults before)) ⊎ ((o ≡ Device) × (faults after ≢ faults before)))

pub comes_settled : (ask : Ask) (answer : Outcome) (before log after : Log) (o : Outcome) → IsClean before log → Comes ask answer before log after o → Settled answer before after o
comes_settled ask answer before log after o clean (inl none) = inl none
comes_settled ask answer before log after o clean (inr (inl h)) = inr (inl (h.0, done_clean log after ask h.1 ∙ clean_faults before log clean))
comes_settled ask answer before log after o clean (inr (inr h)) = inr (inr (h.0, has_risen before after h.1))

pub device_settled : (answer : Outcome) (before after : Log) (o : Outcome) → (o ≡ NoMemory) ⊎ ((o ≡ Device) × FaultIsTold before after) → Settled answer before after o
device_settled answer before after o (inl none) = inl none
device_settled answer before after o (inr h) = inr (inr (h.0, has_risen before after h.1))

-- two answers with one log
pub settled_same : (answer : Outcome) (before after : Log) (o other : Outcome) → Settled answer before after o → Settled answer before after other → Same o other
settled_same answer before after o other (inl none) b = inr (inl none)
settled_same answer before after o other (inr a) (inl none) = inr (inr none)
settled_same answer before after o other (inr (inl a)) (inr (inl b)) = inl (a.0 ∙ sym b.0)
settled_same answer before after o other (inr (inl a)) (inr (inr b)) = absurd (b.1 a.1)
settled_same answer before after o other (inr (inr a)) (inr (inl b)) = absurd (a.1 b.1)
settled_same answer before after o other (inr (inr a)) (inr (inr b)) = inl (a.0 ∙ sym b.0)

-- without a fault it is the answer, unless there was no memory
pub settled_clean : (answer : Outcome) (before after : Log) (o : Outcome) → Settled answer before after o → faults after ≡ faults before → (o ≡ NoMemory) ⊎ (o ≡ answer)
settled_clean answer before after o (inl none) clean = inl none
settled_clean answer before after o (inr (inl h)) clean = inr h.0
settled_clean answer before after o (inr (inr h)) clean = absurd (h.1 clean)

-- and with one it isn't
pub settled_risen : (answer : Outcome) (before after : Log) (o : Outcome) → Settled answer before after o → faults before < faults after → (o ≡ Device) ⊎ (o ≡ NoMemory)
settled_risen answer before after o (inl none) rose = inr none
settled_risen answer before after o (inr (inl h)) rose = let same = h.1 in absurd (omega (arith, same, rose))
settled_risen answer before after o (inr (inr h)) rose = inl h.0

-- What was printed last tells a refusal from another answer

last_of : Log → Ask → Ask
last_of [] a = a
last_of (p ∷ log) a = last_of log p.0

last_is : (log : Log) (a b : Ask) (r : Reply) → last_of (log ++ (a, r) ∷ []) b ≡ a
unfolding last_of
last_is [] a b r = refl
last_is (p ∷ log) a b r = last_is log a p.0 r

pub other_last : (after log log' : Log) (text text' : List ℕ) → after ≡ log ++ (Out text, reply.Done) ∷ [] → after ≡ log' ++ (Tells text', reply.Done) ∷ [] → ⊥
other_last after log log' text text' e e' =
    let same : Out text ≡ Tells text' = sym (last_is log (Out text) (Out text) reply.Done) ∙ ap (λ l. last_of l (Out text)) (sym e ∙ e') ∙ last_is log' (Tells text') (Out text) reply.Done in
    cc same
