-- The own log stays that of turns.
use Rattle.std.proofs.Common.{◌≡◌, ◌∙◌, ℕ, List, [], ◌∷◌, ◌++◌, append_assoc, append-nil, ap, sym, subst, refl}
use Rattle.std.proofs.Common.{inl, inr, None, Result, Ok, Err}
use Rattle.std.proofs.lemmas.List.{map-append}
use Rattle.std.proofs.lemmas.List.Concat.{flat_map-append}
use Rattle.bds_value.specs.declared.listed.NoMemory.{NoMemory}
use Rattle.bds_host.specs.declared.asks.Ask.{Ask}
use Rattle.bds_host.specs.declared.asks.Reply.{Reply}
use Rattle.bds_host.specs.declared.asks.Reply.TheVariants.{NoRoom}
use Rattle.bds_host.specs.Host.{Log}
use Rattle.bds_farm.specs.Farm.{Entry, FarmRun, Queue, Turn, empty}
use Rattle.bds_farm.specs.Farming.{Farming, HasTurned, IsBegun, IsFarm, IsFront, IsLost, TurnsTo, insides_of, pairs_of}
use Rattle.bds_farm.specs.Inside.{LostInside, TurnInside}

not_empty : (pairs : Log) (pair : Ask × Reply) → pairs ++ pair ∷ [] ≡ [] → ⊥
not_empty [] pair e = cc e
not_empty (p ∷ pairs) pair e = cc e

-- What is asked inside, up to a want of memory

ends_at : (p : Ask × Reply) (ps : Log) → (front : Log) × ((q : Ask × Reply) × (p ∷ ps ≡ front ++ q ∷ []))
ends_at p [] = ([], (p, refl))
ends_at p (q ∷ ps) = let e = ends_at q ps in (p ∷ e.0, (e.1.0, ap (λ l. p ∷ l) e.1.1))

whole_front : (ps : Log) → IsFront ps ps
whole_front [] = IsFront.none
whole_front (p ∷ ps) =
    let e = ends_at p ps in
    subst (λ l. IsFront (p ∷ ps) l) (sym e.1.1) (IsFront.some e.0 [] e.1.0.0 e.1.0.1 e.1.0.1 e.1.1)

-- there was no memory for the reply
pub reply_lost : (submit poll : List ℕ) (ask : Ask) (q q' : Queue) (inner inner' log log' : Log) (reply : Reply)
    → TurnInside submit poll ask q q' inner inner' reply → log' ≡ log ++ (ask, NoRoom) ∷ []
    → IsLost submit poll ask (record { queue = q; inner = inner; log = log })
    (record { queue = q'; inner = inner'; log = log' })
reply_lost submit poll ask q q' inner inner' log log' reply h is =
    record {
      asked = h.inside;
      begun = record { reply = reply; inside = h.inside; after = q'; turn = h.turn; front = whole_front h.inside };
      inner = h.grown;
      log = is;
    }

-- or for what it is made of
pub turn_lost : (submit poll : List ℕ) (ask : Ask) (q q' : Queue) (inner inner' log log' : Log)
    → LostInside submit poll ask q inner inner' → log' ≡ log ++ (ask, NoRoom) ∷ []
    → IsLost submit poll ask (record { queue = q; inner = inner; log = log })
    (record { queue = q'; inner = inner'; log = log' })
turn_lost submit poll ask q q' inner inner' log log' h is =
    record { asked = h.asked; begun = h.begun; inner = h.grown; log = is }

module _ (submit poll : List ℕ) (start : Log) where
  pub farm_begins : (inner : Log) → inner ≡ start
      → IsFarm submit poll start (record { queue = empty; inner = inner; log = [] })
  farm_begins inner is = IsFarm.all [] FarmRun.begins refl (is ∙ sym (append-nil start))

  all_more : (r s : Farming) (ask : Ask) (reply : Reply) (ts : List (Turn submit poll))
      → FarmRun submit poll ts r.queue → r.log ≡ pairs_of submit poll ts → r.inner ≡ start ++ insides_of submit poll ts
      → HasTurned submit poll ask r s reply → IsFarm submit poll start s
  all_more r s ask reply ts run log inner h =
      let t : Turn submit poll = record { ask = ask; reply = reply; inside = h.inside } in
      IsFarm.all (ts ++ t ∷ []) (FarmRun.goes_on ts r.queue s.queue t run h.turn)
      (h.log ∙ ap (λ l. l ++ (ask, reply) ∷ []) log
      ∙ sym (map-append (λ (u : Turn submit poll). (u.ask, u.reply)) ts (t ∷ [])))
      (h.inner ∙ ap (λ l. l ++ h.inside) inner ∙ append_assoc start (insides_of submit poll ts) h.inside
      ∙ ap (λ l. start ++ l)
      (ap (λ l. insides_of submit poll ts ++ l) (sym (append-nil h.inside))
      ∙ sym (flat_map-append (λ (u : Turn submit poll). u.inside) ts (t ∷ []))))

  lost_more : (r s : Farming) (ts : List (Turn submit poll)) (q : Queue) (asked more rest : Log) (ask : Ask)
      (pair : Ask × Reply) (mores : Log) → FarmRun submit poll ts q → IsBegun submit poll q ask asked
      → r.log ≡ pairs_of submit poll ts ++ (ask, NoRoom) ∷ rest
      → r.inner ≡ start ++ (insides_of submit poll ts ++ (asked ++ more)) → s.log ≡ r.log ++ pair ∷ []
      → s.inner ≡ r.inner ++ mores → IsFarm submit poll start s
  lost_more r s ts q asked more rest ask pair mores run begun log inner log' inner' =
      let own : Log = insides_of submit poll ts in
      IsFarm.lost ts q asked (more ++ mores) (rest ++ pair ∷ []) ask run begun
      (log' ∙ ap (λ l. l ++ pair ∷ []) log ∙ append_assoc (pairs_of submit poll ts) ((ask, NoRoom) ∷ rest) (pair ∷ []))
      (inner' ∙ ap (λ l. l ++ mores) inner ∙ append_assoc start (own ++ (asked ++ more)) mores
      ∙ ap (λ l. start ++ l) (append_assoc own (asked ++ more) mores)
      ∙ ap (λ l. start ++ (own ++ l)) (append_assoc asked more mores))
      (λ e. absurd (not_empty rest pair e))

  loses : (r s : Farming) (ask : Ask) (ts : List (Turn submit poll)) → FarmRun submit poll ts r.queue
      → r.log ≡ pairs_of submit poll ts → r.inner ≡ start ++ insides_of submit poll ts → IsLost submit poll ask r s
      → IsFarm submit poll start s
  loses r s ask ts run log inner h =
      let own : Log = insides_of submit poll ts in
      IsFarm.lost ts r.queue h.asked [] [] ask run h.begun (h.log ∙ ap (λ l. l ++ (ask, NoRoom) ∷ []) log)
      (h.inner ∙ ap (λ l. l ++ h.asked) inner ∙ append_assoc start own h.asked
      ∙ ap (λ l. start ++ (own ++ l)) (sym (append-nil h.asked))) (λ e. refl)

  pub farm_more : (r s : Farming) (ask : Ask) (result : Result Reply NoMemory) → IsFarm submit poll start r
      → TurnsTo submit poll ask r s result → IsFarm submit poll start s
  farm_more r s ask (Ok reply) (IsFarm.all ts run log inner) h = all_more r s ask reply ts run log inner h
  farm_more r s ask (Ok reply) (IsFarm.lost ts q asked more rest lost run begun log inner none) h =
      lost_more r s ts q asked more rest lost (ask, reply) h.inside run begun log inner h.log h.inner
  farm_more r s ask (Err e) h (inl same) = subst (λ x. IsFarm submit poll start x) (sym same) h
  farm_more r s ask (Err e) (IsFarm.all ts run log inner) (inr h) = loses r s ask ts run log inner h
  farm_more r s ask (Err e) (IsFarm.lost ts q asked more rest lost run begun log inner none) (inr h) =
      lost_more r s ts q asked more rest lost (ask, NoRoom) h.asked run begun log inner h.log h.inner

-- the commands are those that were given
pub turned : (submit poll submit' poll' : List ℕ) (r s : Farming) (ask : Ask) (result : Result Reply NoMemory)
    → submit' ≡ submit → poll' ≡ poll
    → TurnsTo submit' poll' ask r s result → TurnsTo submit poll ask r s result
turned submit poll submit' poll' r s ask result a b turns =
    subst (λ x. TurnsTo x poll ask r s result) a (subst (λ y. TurnsTo submit' y ask r s result) b turns)

pub farm_on : (submit poll submit' poll' : List ℕ) (start : Log) (r s : Farming) (ask : Ask)
    (result : Result Reply NoMemory) → submit' ≡ submit → poll' ≡ poll → IsFarm submit poll start r
    → TurnsTo submit' poll' ask r s result
    → (submit' ≡ submit) × (poll' ≡ poll) × IsFarm submit poll start s
farm_on submit poll submit' poll' start r s ask result a b h turns =
    (a, b, farm_more submit poll start r s ask result h (turned submit poll submit' poll' r s ask result a b turns))

pub farm_new : (submit poll : List ℕ) (start inner log : Log) (opened ends : List Entry) → inner ≡ start → opened ≡ []
    → ends ≡ [] → log ≡ []
    → IsFarm submit poll start
    (record { queue = record { last = None; open_ends = opened; ends = ends }; inner = inner; log = log })
farm_new submit poll start inner log opened ends is opened_is ends_is log_is =
    subst (λ o. IsFarm submit poll start
    (record { queue = record { last = None; open_ends = o; ends = ends }; inner = inner; log = log }))
    (sym opened_is)
    (subst (λ e. IsFarm submit poll start
    (record { queue = record { last = None; open_ends = []; ends = e }; inner = inner; log = log })) (sym ends_is)
    (subst (λ l. IsFarm submit poll start
    (record { queue = record { last = None; open_ends = []; ends = [] }; inner = inner; log = l })) (sym log_is)
    (farm_begins submit poll start inner is)))
