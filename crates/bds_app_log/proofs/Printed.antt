-- What was printed is printed again, one ask behind the other.
use Rattle.std.proofs.Common.{◌≡◌, ◌∙◌, ◌<◌, ◌≤◌, ◌+◌, ℕ, suc, List, [], ◌∷◌, ◌++◌, length, take, drop, get_or, arith}
use Rattle.std.proofs.Common.{Bool, true, false, Result, Ok, Err, append_assoc, append-nil, ap, cond, refl, sym, subst}
use Rattle.std.proofs.lemmas.List.{map-append, take-append-drop, take_all}
use Rattle.std.proofs.Math.Seq.{take-suc}
use Rattle.std.specs.Prelude.{IsErrAnd}
use Rattle.bds_host.specs.declared.asks.Ask.{Ask}
use Rattle.bds_host.specs.declared.asks.Reply.{Reply}
use Rattle.bds_host.specs.declared.asks.Reply.TheVariants.{Done}
use Rattle.bds_host.specs.Host.{Log}
use Rattle.bds_app_run.specs.Telling.{TellsDevice}
use Rattle.bds_app_run.specs.declared.outcome.Outcome.{Outcome}
use Rattle.bds_app_run.specs.declared.outcome.Outcome.TheVariants.{NoMemory as OutOfMemory}
use Rattle.bds_app_run.specs.Asks.{IsAskDone}
use Rattle.bds_app_log.specs.Asking.{AreDone, IsDoneWhere, IsPrinted, StopsAt}
use Rattle.bds_app_log.specs.Replays.{PrintsAgain, all_done, is_printed, printed_in}
use Rattle.bds_app_run.specs.declared.stop.Stop.{Stop}
use Rattle.bds_app_run.specs.declared.stop.Stop.TheVariants.{Fault, NoMemory}

abbrev one_if : Bool → Ask → List Ask
one_if b ask = cond b (ask ∷ []) []

one_kept : (b : Bool) (ask : Ask) (xs : List Ask) → cond b (ask ∷ xs) xs ≡ one_if b ask ++ xs
one_kept true ask xs = refl
one_kept false ask xs = refl

-- what is printed by one list of pairs behind another
pub printed_append : (pairs more : Log) → printed_in (pairs ++ more) ≡ printed_in pairs ++ printed_in more
printed_append [] more = refl
printed_append (p ∷ pairs) more =
    one_kept (is_printed p.0) p.0 (printed_in (pairs ++ more))
    ∙ ap (λ xs. one_if (is_printed p.0) p.0 ++ xs) (printed_append pairs more)
    ∙ sym (append_assoc (one_if (is_printed p.0) p.0) (printed_in pairs) (printed_in more))
    ∙ ap (λ xs. xs ++ printed_in more) (sym (one_kept (is_printed p.0) p.0 (printed_in pairs)))

-- and by one pair
printed_one : (p : Ask × Reply) → printed_in (p ∷ []) ≡ one_if (is_printed p.0) p.0
printed_one p = refl

done_append : (xs ys : List Ask) → all_done (xs ++ ys) ≡ all_done xs ++ all_done ys
done_append xs ys = map-append (λ (ask : Ask). (ask, Done)) xs ys

one_done : (b : Bool) (ask : Ask) (before after : Log) → IsDoneWhere b ask before after (Ok tt)
    → after ≡ before ++ all_done (one_if b ask)
one_done true ask before after h = h.grown
one_done false ask before after h = h.0 ∙ sym (append-nil before)

-- one more
pub done_more : (done : Log) (p : Ask × Reply) (before log after : Log) → log ≡ before ++ all_done (printed_in done)
    → IsPrinted p.0 log after (Ok tt) → after ≡ before ++ all_done (printed_in (done ++ p ∷ []))
done_more done p before log after is h =
    one_done (is_printed p.0) p.0 log after h ∙ ap (λ l. l ++ all_done (one_if (is_printed p.0) p.0)) is
    ∙ append_assoc before (all_done (printed_in done)) (all_done (one_if (is_printed p.0) p.0))
    ∙ ap (λ l. before ++ l) (sym (ap (λ l. all_done l) (printed_append done (p ∷ []))
    ∙ done_append (printed_in done) (printed_in (p ∷ []))))

-- the next one isn't done
stops_where : (b : Bool) (done rest : List Ask) (ask : Ask) (before log after : Log) (stop : Stop)
    → log ≡ before ++ all_done done → IsDoneWhere b ask log after (Err stop)
    → StopsAt (done ++ (one_if b ask ++ rest)) before after stop
stops_where true done rest ask before log after stop is h =
    record {
      first = done;
      ask = ask;
      rest = rest;
      is = refl;
      comes = subst (λ l. IsAskDone ask l after (Err stop)) is h;
    }
stops_where false done rest ask before log after stop is h = absurd (let no = h.1 in cc no)

pub stops_next : (done rest : Log) (p : Ask × Reply) (before log after : Log) (stop : Stop)
    → log ≡ before ++ all_done (printed_in done) → IsPrinted p.0 log after (Err stop)
    → StopsAt (printed_in (done ++ p ∷ rest)) before after stop
stops_next done rest p before log after stop is h =
    let split : printed_in (done ++ p ∷ rest) ≡ printed_in done ++ (one_if (is_printed p.0) p.0 ++ printed_in rest) =
    printed_append done (p ∷ rest) ∙ ap (λ l. printed_in done ++ l)
    (one_kept (is_printed p.0) p.0 (printed_in rest)) in
    subst (λ l. StopsAt l before after stop) (sym split)
    (stops_where (is_printed p.0) (printed_in done) (printed_in rest) p.0 before log after stop is h)

-- The same by places in the whole list

taken : (xs : Log) (i : ℕ) (p : Ask × Reply) → i < length xs → p ≡ get_or xs i p → take (i + 1) xs ≡ take i xs ++ p ∷ []
taken xs i p within is =
    let e : i + 1 ≡ suc i = omega arith in
    ap (λ n. take n xs) e ∙ take-suc xs i p within ∙ ap (λ x. take i xs ++ x ∷ []) (sym is)

pub done_next : (xs : Log) (i : ℕ) (p : Ask × Reply) (before log after : Log) → i < length xs → p ≡ get_or xs i p
    → log ≡ before ++ all_done (printed_in (take i xs)) → IsPrinted p.0 log after (Ok tt)
    → after ≡ before ++ all_done (printed_in (take (i + 1) xs))
done_next xs i p before log after within is invariant h =
    done_more (take i xs) p before log after invariant h
    ∙ ap (λ l. before ++ all_done (printed_in l)) (sym (taken xs i p within is))

pub stops_there : (xs : Log) (i : ℕ) (p : Ask × Reply) (before log after : Log) (stop : Stop) → i < length xs
    → p ≡ get_or xs i p → log ≡ before ++ all_done (printed_in (take i xs)) → IsPrinted p.0 log after (Err stop)
    → StopsAt (printed_in xs) before after stop
stops_there xs i p before log after stop within is invariant h =
    let split : take i xs ++ (p ∷ drop (i + 1) xs) ≡ xs =
    sym (append_assoc (take i xs) (p ∷ []) (drop (i + 1) xs))
    ∙ ap (λ l. l ++ drop (i + 1) xs) (sym (taken xs i p within is)) ∙ take-append-drop (i + 1) xs in
    subst (λ l. StopsAt (printed_in l) before after stop) split
    (stops_next (take i xs) (drop (i + 1) xs) p before log after stop invariant h)

pub all_done_at_end : (xs : Log) (i : ℕ) (before after : Log) → length xs ≤ i
    → after ≡ before ++ all_done (printed_in (take i xs)) → after ≡ before ++ all_done (printed_in xs)
all_done_at_end xs i before after past is = is ∙ ap (λ l. before ++ all_done (printed_in l)) (take_all i xs past)

pub stops_returned : (asks : List Ask) (before after : Log) (stop : Stop) (r : Result Unit Stop)
    → IsErrAnd r (λ x. x ≡ stop) → StopsAt asks before after stop → AreDone asks before after r
stops_returned asks before after stop (Ok _) is h = absurd is
stops_returned asks before after stop (Err e) is h = subst (λ x. StopsAt asks before after x) (sym is) h

-- What becomes of the answer

pub faulted_at : (asks : List Ask) (came : Outcome) (before log after : Log) (answer : Outcome)
    → StopsAt asks before log Fault → TellsDevice log after answer → PrintsAgain asks came before after answer
faulted_at asks came before log after answer h told =
    PrintsAgain.faulted h.first h.rest h.ask log answer h.is h.comes told

pub lacking_at : (asks : List Ask) (came : Outcome) (before after : Log) → StopsAt asks before after NoMemory
    → PrintsAgain asks came before after OutOfMemory
lacking_at asks came before after h = PrintsAgain.no_memory h.first h.rest h.ask h.is h.comes
