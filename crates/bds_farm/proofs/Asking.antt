-- Questions for ends, and the turn that they make.
use Rattle.std.proofs.Common.{◌≡◌, ◌≢◌, ◌∙◌, ◌+◌, ◌<◌, ◌≤◌, ℕ, Bool, true, false, List, [], ◌∷◌, ◌++◌, length}
use Rattle.std.proofs.Common.{append_assoc, append-nil, ap, sym, subst, refl, arith, Option, Some, None}
use Rattle.std.proofs.Common.{Result, Ok, Err, IfOk, OnErr, length-append, inl, inr, min}
use Rattle.std.specs.List.{reduce}
use Rattle.bds_value.specs.declared.listed.NoMemory.{NoMemory}
use Rattle.bds_host.specs.declared.asks.Ask.{Ask}
use Rattle.bds_host.specs.declared.asks.Ask.TheVariants.{Sys, Next}
use Rattle.bds_host.specs.declared.asks.Reply.{Reply}
use Rattle.bds_host.specs.declared.asks.Reply.TheVariants.{SysDone, Run, Ended, Fault, NoRoom}
use Rattle.bds_host.specs.Asks.{has}
use Rattle.bds_host.specs.Host.{Log, Answered, FoundNoRoom}
use Rattle.bds_farm.specs.Farm.{AreOthers, Entry, FarmTurn, FindsNone, Gives, GivesOr, IsOther, Polls}
use Rattle.bds_farm.specs.Farm.{Queue, most_polls}
use Rattle.bds_farm.specs.Farming.{IsFront}
use Rattle.bds_farm.specs.Inside.{HasAnswered, HasAsked, HasFailed, HasPolled, Inside, LastEnd, LearnsOut}
use Rattle.bds_farm.specs.Inside.{LostInside, LostPoll, LostStep, PollsOnce, TurnInside}
use Rattle.bds_around.specs.Turns.{least_above, or_else, turn_of}
use Rattle.bds_farm.proofs.Submissions.{nothing_lost, one_lost, room_lost}

pub polled_out : (poll : List ℕ) (q q' : Queue) (before after : Log) (code : ℕ) (out : List ℕ)
    (result : Result Bool NoMemory) → Answered before after (Sys poll) (SysDone code out)
    → LearnsOut code out q q' result → PollsOnce poll q q' before after result
polled_out poll q q' before after code out (Ok true) ran (code_is, learns) =
    record {
      out = out;
      grown = ran.grown ∙ ap (λ c. before ++ (Sys poll, SysDone c out) ∷ []) code_is;
      learns = learns;
    }
polled_out poll q q' before after code out (Ok false) ran (other, same) = HasFailed.coded code out other ran.grown same
polled_out poll q q' before after code out (Err e) ran h = LostPoll.unlearnt (SysDone code out) ran.grown

-- there was no room for a question
pub unpolled : (poll : List ℕ) (before after : Log) → FoundNoRoom before after (Sys poll) → LostPoll poll before after
unpolled poll before after (inl same) = LostPoll.unasked same
unpolled poll before after (inr grown) = LostPoll.unlearnt NoRoom grown

abbrev queue : Option ℕ → List Entry → List Entry → Queue
queue last opened ends = record { last = last; open_ends = opened; ends = ends }

gives_of : (running : List ℕ) (last : Option ℕ) (opened ends ends' : List Entry) (task code : ℕ)
    → GivesOr running ends ends' (Some (task, code))
    → Gives running (queue last opened ends) task code (queue last opened ends')
gives_of running last opened ends ends' task code (older, younger, (is, others, runs, left)) =
    record {
      older = older;
      younger = younger;
      is = is;
      others = others;
      runs = runs;
      left = ap (λ l. queue last opened l) left;
    }

pub given_step : (poll running : List ℕ) (last : Option ℕ) (opened ends ends' : List Entry) (task code : ℕ) (log : Log)
    → GivesOr running ends ends' (Some (task, code))
    → HasAnswered poll running (queue last opened ends) (queue last opened ends') log log (Ended task code)
given_step poll running last opened ends ends' task code log h =
    HasAnswered.given task code (gives_of running last opened ends ends' task code h) refl

pub failed_step : (poll running : List ℕ) (last : Option ℕ) (opened ends ends' : List Entry) (q' : Queue)
    (before after : Log) → GivesOr running ends ends' None → HasFailed poll (queue last opened ends') q' before after
    → HasAnswered poll running (queue last opened ends) q' before after Fault
failed_step poll running last opened ends ends' q' before after (others, same) h =
    HasAnswered.failed others (subst (λ l. HasFailed poll (queue last opened l) q' before after) same h)

pub lost_step : (poll running : List ℕ) (last : Option ℕ) (opened ends ends' : List Entry) (before after : Log)
    → GivesOr running ends ends' None → LostPoll poll before after
    → LostStep poll running (queue last opened ends) before after
lost_step poll running last opened ends ends' before after (others, same) h = record { others = others; lost = h }

pub last_step : (poll running : List ℕ) (last : Option ℕ) (opened ends ends' : List Entry) (task code : ℕ)
    → GivesOr running ends ends' (Some (task, code))
    → LastEnd poll running (queue last opened ends) (queue last opened ends') (Ended task code)
last_step poll running last opened ends ends' task code h =
    LastEnd.last_given task code (gives_of running last opened ends ends' task code h)

pub last_nothing : (poll running : List ℕ) (last : Option ℕ) (opened ends ends' : List Entry)
    → GivesOr running ends ends' None → LastEnd poll running (queue last opened ends) (queue last opened ends') Fault
last_nothing poll running last opened ends ends' (others, same) =
    LastEnd.last_none others (ap (λ l. queue last opened l) same)

-- The loop

polled_front : (poll running : List ℕ) (from : Queue) (inside : Log) (q : Queue) → Polls poll running from inside q
    → (more : Log) → IsFront (inside ++ more) inside
polled_front poll running from _ _ Polls.not_yet more = IsFront.none
polled_front poll running from _ _ (Polls.once_more inside q after out polls others learns) more =
    IsFront.some inside more (Sys poll) (SysDone 0 out) (SysDone 0 out)
    (append_assoc inside ((Sys poll, SysDone 0 out) ∷ []) more)

pub polls_begin : (poll running : List ℕ) (q : Queue) (log : Log) → HasPolled poll running q q log log 0
polls_begin poll running q log =
    record { inside = []; grown = sym (append-nil log); polls = Polls.not_yet; many = refl }

module _ (submit poll running : List ℕ) (from q q' : Queue) (before mid after : Log) (count : ℕ)
    (h : HasPolled poll running from q before mid count) where
  pub polls_more : HasAsked poll running q q' mid after → HasPolled poll running from q' before after (count + 1)
  polls_more x =
      record {
        inside = h.inside ++ (Sys poll, SysDone 0 x.learnt.out) ∷ [];
        grown = x.learnt.grown ∙ ap (λ l. l ++ (Sys poll, SysDone 0 x.learnt.out) ∷ []) h.grown
            ∙ append_assoc before h.inside ((Sys poll, SysDone 0 x.learnt.out) ∷ []);
        polls = Polls.once_more h.inside q q' x.learnt.out h.polls x.others x.learnt.learns;
        many = length-append h.inside ((Sys poll, SysDone 0 x.learnt.out) ∷ []) ∙ ap (λ n. n + 1) h.many;
      }

  finds_none : running ≢ [] → AreOthers running q.ends → FindsNone poll running from h.inside q
  finds_none some others = record { some = some; polls = h.polls; others = others }

  fewer : count < most_polls → length h.inside < most_polls
  fewer few = let many = h.many in omega (arith, many, few)

  -- one more question would have been a turn, whatever was learnt from it
  pub polls_lost : running ≢ [] → count < most_polls → LostStep poll running q mid after
      → LostInside submit poll (Next [] running) from before after
  polls_lost some few x = by x.lost
    where
      Lost : Log → Type 0
      Lost l = LostInside submit poll (Next [] running) from before l

      turn : FarmTurn submit poll from (Next [] running) Fault (h.inside ++ (Sys poll, Fault) ∷ []) q
      turn = FarmTurn.poll_faults running h.inside q (finds_none some x.others) (fewer few)

      by : LostPoll poll mid after → Lost after
      by (LostPoll.unasked same) =
          record {
            asked = h.inside;
            grown = same ∙ h.grown;
            begun = record {
              reply = Fault;
              inside = h.inside ++ (Sys poll, Fault) ∷ [];
              after = q;
              turn = turn;
              front = polled_front poll running from h.inside q h.polls ((Sys poll, Fault) ∷ []);
            };
          }
      by (LostPoll.unlearnt r grown) =
          one_lost submit poll (Next [] running) from before after h.inside [] (Sys poll) r Fault Fault q turn
          (grown ∙ ap (λ l. l ++ (Sys poll, r) ∷ []) h.grown ∙ append_assoc before h.inside ((Sys poll, r) ∷ []))

  failed_turn : running ≢ [] → count < most_polls → AreOthers running q.ends → HasFailed poll q q' mid after
      → TurnInside submit poll (Next [] running) from q' before after Fault
  failed_turn some few others (HasFailed.faulted grown same) =
      record {
        inside = h.inside ++ (Sys poll, Fault) ∷ [];
        grown = grown ∙ ap (λ l. l ++ (Sys poll, Fault) ∷ []) h.grown
            ∙ append_assoc before h.inside ((Sys poll, Fault) ∷ []);
        turn = subst (λ x. FarmTurn submit poll from (Next [] running) Fault (h.inside ++ (Sys poll, Fault) ∷ []) x)
            (sym same) (FarmTurn.poll_faults running h.inside q (finds_none some others) (fewer few));
        fitting = refl;
        told = λ e. cc e;
      }
  failed_turn some few others (HasFailed.coded code out other grown same) =
      record {
        inside = h.inside ++ (Sys poll, SysDone code out) ∷ [];
        grown = grown ∙ ap (λ l. l ++ (Sys poll, SysDone code out) ∷ []) h.grown
            ∙ append_assoc before h.inside ((Sys poll, SysDone code out) ∷ []);
        turn = subst
            (λ x. FarmTurn submit poll from (Next [] running) Fault (h.inside ++ (Sys poll, SysDone code out) ∷ []) x)
            (sym same) (FarmTurn.poll_fails running h.inside q code out (finds_none some others) (fewer few) other);
        fitting = refl;
        told = λ e. cc e;
      }

  pub answered_turn : running ≢ [] → count < most_polls → (r : Reply) → HasAnswered poll running q q' mid after r
      → TurnInside submit poll (Next [] running) from q' before after r
  answered_turn some few _ (HasAnswered.given task code gives same) =
      record {
        inside = h.inside;
        grown = same ∙ h.grown;
        turn = FarmTurn.ended running h.inside q q' task code h.polls (let f = fewer few in omega (arith, f)) gives;
        fitting = gives.runs;
        told = λ e. cc e;
      }
  answered_turn some few _ (HasAnswered.failed others fails) = failed_turn some few others fails

pub last_turn : (submit poll running : List ℕ) (from q q' : Queue) (before after : Log) (count : ℕ)
    → HasPolled poll running from q before after count → running ≢ [] → count ≡ most_polls → (r : Reply)
    → LastEnd poll running q q' r → TurnInside submit poll (Next [] running) from q' before after r
last_turn submit poll running from q q' before after count h some all _ (LastEnd.last_given task code gives) =
    record {
      inside = h.inside;
      grown = h.grown;
      turn = FarmTurn.ended running h.inside q q' task code h.polls
          (let many = h.many in omega (arith, many, all)) gives;
      fitting = gives.runs;
      told = λ e. cc e;
    }
last_turn submit poll running from q q' before after count h some all _ (LastEnd.last_none others same) =
    record {
      inside = h.inside;
      grown = h.grown;
      turn = subst (λ x. FarmTurn submit poll from (Next [] running) Fault h.inside x) (sym same)
          (FarmTurn.too_often running h.inside q (record { some = some; polls = h.polls; others = others })
          (h.many ∙ all));
      fitting = refl;
      told = λ e. cc e;
    }

-- Other asks

some_or : (a b : Option ℕ) (k : ℕ) → b ≡ Some k → or_else a b ≡ None → ⊥
some_or (Some x) b k is none = cc none
some_or None b k is none = cc (is, none)

pub no_turn : (last : Option ℕ) (ready : List ℕ) → turn_of last ready ≡ None → ready ≡ []
no_turn last [] none = refl
no_turn None (x ∷ xs) none = absurd (cc none)
no_turn (Some bound) (x ∷ xs) none = absurd (some_or (least_above bound (x ∷ xs)) (reduce min (x ∷ xs)) _ refl none)

pub run_turn : (submit poll ready running : List ℕ) (q : Queue) (k : ℕ) (log : Log) → turn_of q.last ready ≡ Some k
    → has ready k ≡ true
    → TurnInside submit poll (Next ready running) q
    (record { last = Some k; open_ends = q.open_ends; ends = q.ends }) log log (Run k)
run_turn submit poll ready running q k log turn within =
    record {
      inside = [];
      grown = sym (append-nil log);
      turn = FarmTurn.turns ready running k turn;
      fitting = within;
      told = λ e. cc e;
    }

pub nothing_turn : (submit poll running : List ℕ) (q : Queue) (log : Log) → running ≡ []
    → TurnInside submit poll (Next [] running) q q log log Fault
nothing_turn submit poll running q log none =
    subst (λ x. TurnInside submit poll (Next [] x) q q log log Fault) (sym none)
    (record {
      inside = [];
      grown = sym (append-nil log);
      turn = FarmTurn.nothing_runs;
      fitting = refl;
      told = λ e. cc e;
    })

pub passing : (submit poll : List ℕ) (a : Ask) (q : Queue) (before after : Log) (result : Result Reply NoMemory)
    → IsOther a → IfOk result (λ r. Answered before after a r) → OnErr result (FoundNoRoom before after a)
    → Inside submit poll a q q before after result
passing submit poll a q before after (Ok r) other answered refused =
    record {
      inside = (a, r) ∷ [];
      grown = answered.grown;
      turn = FarmTurn.passes a r other;
      fitting = answered.fitting;
      told = answered.told;
    }
passing submit poll a q before after (Err e) other answered refused =
    room_lost submit poll a q before after [] a Fault Fault q (FarmTurn.passes a Fault other) refused

pub unpassed : (submit poll : List ℕ) (a : Ask) (q : Queue) (log : Log) → IsOther a → LostInside submit poll a q log log
unpassed submit poll a q log other =
    nothing_lost submit poll a q log log Fault ((a, Fault) ∷ []) q (FarmTurn.passes a Fault other) refl

pub empty_of : (xs : List ℕ) → length xs ≤ 0 → xs ≡ []
empty_of [] le = refl
empty_of (x ∷ xs) le = absurd (omega arith)
