-- A run over the replies that another run was given comes to its end, by asks that are alike.
use Rattle.std.proofs.Common.{◌≡◌, ◌≢◌, ◌∙◌, ◌+◌, true, false, List, [], ◌∷◌, ◌++◌, append_assoc, append-nil, ap, sym}
use Rattle.std.proofs.Common.{subst, refl, if◌then◌else◌, arith}
use Rattle.std.specs.List.{All}
use Rattle.std.proofs.lemmas.List.{append_cancel_left}
use Rattle.std.proofs.lemmas.List.Elements.{All-nil, All-push, All-head, All-tail}
use Rattle.bds_host.specs.declared.asks.Ask.{Ask}
use Rattle.bds_host.specs.declared.asks.Reply.{Reply}
use Rattle.bds_host.specs.declared.asks.Reply.TheVariants as reply
use Rattle.bds_host.specs.declared.asks.Reply.TheVariants.{Fault, NoRoom}
use Rattle.bds_host.specs.Asks.{answers, fits}
use Rattle.bds_host.specs.Host.{Log, faults, is_fault}
use Rattle.bds_host.proofs.Growing.{faults-append}
use Rattle.bds_schedule.specs.Determined.{replies_of}
use Rattle.bds_schedule.specs.Steps.{Step, Goes, Asks, Ends, Leads}
use Rattle.bds_front.specs.Unique.{IsLikeAsk, AreLikePairs}
use Rattle.bds_front.proofs.OneEnd.{Front, StepsAgree, goes_through, one_end}
use Rattle.bds_engine_parts.proofs.WholeRuns.{asked}
use Rattle.bds_replay.specs.Replayed.{replayed_reply, IsReplayed}
use Rattle.bds_app_log.proofs.Alike.{answer_alike}

-- a pair has a reply that fits its ask, and that wasn't lost
pub record IsFit (p : Ask × Reply) : Type 0 where
  pub fitting : fits p.0 p.1 ≡ true
  pub told : p.1 ≢ NoRoom

-- a reply that fits an ask, and is no fault, answers it
answering : (ask : Ask) (r : Reply) → fits ask r ≡ true → r ≢ NoRoom → is_fault r ≡ false → answers ask r ≡ true
answering ask (reply.Bytes text) fit told clean = fit
answering ask reply.Missing fit told clean = fit
answering ask (reply.Stamp there size time) fit told clean = fit
answering ask reply.Done fit told clean = fit
answering ask (reply.SysDone code out) fit told clean = fit
answering ask reply.Started fit told clean = fit
answering ask (reply.Run k) fit told clean = fit
answering ask (reply.Ended task code) fit told clean = fit
answering ask reply.Fault fit told clean = absurd (cc clean)
answering ask reply.NoRoom fit told clean = absurd (told refl)

-- each pair that steps lead through fits
pub each_fits : {C E : Type 0} (Steps : C → Step C E → Type 0) (from : C) (before : Log) (c : C) (after : Log)
    → Leads Steps from before c after
    → (added : Log) × ((after ≡ before ++ added) × All IsFit added)
each_fits Steps from before c after Leads.here = ([], (sym (append-nil before), All-nil IsFit))
each_fits Steps from before c after (Leads.goes s _ _ l m) = each_fits Steps from before s after l
each_fits Steps from before c after (Leads.asks s log _ ask next r l m answered) =
    let h = each_fits Steps from before s log l in
    let here : IsFit (ask, r) = record { fitting = answered.fitting; told = answered.told } in (
      h.0 ++ (ask, r) ∷ [],
      (
        answered.grown ∙ ap (λ x. x ++ (ask, r) ∷ []) h.1.0
            ∙ append_assoc before h.0 ((ask, r) ∷ []),
        All-push IsFit h.0 (ask, r) h.1.1 here,
      ),
    )

-- and so each pair of what is known to be added
pub fit_added : {C E : Type 0} (Steps : C → Step C E → Type 0) (from c : C) (before pairs : Log)
    → Leads Steps from before c (before ++ pairs) → All IsFit pairs
fit_added Steps from c before pairs l =
    let h = each_fits Steps from before c (before ++ pairs) l in
    subst (λ x. All IsFit x) (sym (append_cancel_left before pairs h.0 h.1.0)) h.1.1

-- a pair in the middle
pub fit_there : (first rest : Log) (p : Ask × Reply) → All IsFit (first ++ p ∷ rest) → IsFit p
fit_there [] rest p h = All-head IsFit p rest h
fit_there (q ∷ first) rest p h = fit_there first rest p (All-tail IsFit q (first ++ p ∷ rest) h)

clean_there : (first rest : Log) (ask : Ask) (r : Reply) → faults (first ++ (ask, r) ∷ rest) ≡ 0 → is_fault r ≡ false
clean_there first rest ask r h = clean r (rw faults-append at h)
  where
    clean : (x : Reply) → faults first + faults ((ask, x) ∷ rest) ≡ 0 → is_fault x ≡ false
    clean (reply.Bytes text) h = refl
    clean reply.Missing h = refl
    clean (reply.Stamp there size time) h = refl
    clean reply.Done h = refl
    clean (reply.SysDone code out) h = refl
    clean reply.Started h = refl
    clean (reply.Run k) h = refl
    clean (reply.Ended task code) h = refl
    clean reply.Fault h = let e : faults ((ask, Fault) ∷ rest) ≡ 1 + faults rest =
        faults-append ((ask, Fault) ∷ []) rest in absurd (omega arith)
    clean reply.NoRoom h = refl

-- what a run comes to over the replies that another run was given
pub record ComesAgain {E : Type 0} (pairs again : Log) (left : List Reply) (e e' : E) : Type 0 where
  pub end : e' ≡ e
  pub used : left ≡ []
  pub alike : AreLikePairs IsLikeAsk again pairs

module _ {C E : Type 0} (Steps : C → Step C E → Type 0) (Same : C → C → Type 0)
    (agrees : (c d : C) (s t : Step C E) → Same c d → Steps c s → Steps d t → StepsAgree IsLikeAsk Same s t) where
  -- the next pair of a run that goes on where another asks
  record NextPair (ask : Ask) (rest : List Reply) (pairs : Log) : Type 0 where
    first : Log
    more : Log
    other : Ask
    reply : Reply
    is : pairs ≡ first ++ (other, reply) ∷ more
    left : rest ≡ reply ∷ replies_of more
    like : IsLikeAsk ask other

  next_of : (at c s : C) (later pairs first : Log) (ask : Ask) (next : Reply → C) (rest : List Reply) (e : E)
      → Same s at → Steps s (Asks ask next) → Front Steps at later c → Steps c (Ends e)
      → pairs ≡ first ++ later → replies_of later ≡ rest → NextPair ask rest pairs
  next_of at c s later pairs first ask next rest e same asks (Front.here _) ends is left =
      absurd (agrees s at (Asks ask next) (Ends e) same asks ends)
  next_of at c s later pairs first ask next rest e same asks (Front.goes _ t _ _ m f) ends is left =
      absurd (agrees s at (Asks ask next) (Goes t) same asks m)
  next_of at c s later pairs first ask next rest e same asks (Front.asks _ _ other go r more m f) ends is left =
      record {
        first = first;
        more = more;
        other = other;
        reply = r;
        is = is;
        left = sym left;
        like =
            (agrees s at (Asks ask next) (Asks other go) same asks m).0;
      }

  -- where some replies lead to an ask, and these with more to an end, an ask that is alike comes next there
  next_pair : (from from' s c : C) (before before' some pairs : Log) (ask : Ask) (next : Reply → C) (rest : List Reply)
      (e : E) → Same from from' → Leads Steps from before s (before ++ some) → Steps s (Asks ask next)
      → Leads Steps from' before' c (before' ++ pairs) → Steps c (Ends e) → replies_of pairs ≡ replies_of some ++ rest
      → NextPair ask rest pairs
  next_pair from from' s c before before' some pairs ask next rest e same l asks k ends is =
      let h = goes_through Steps IsLikeAsk Same agrees from from' before before' some pairs rest s c e same l k is ends
      in
      next_of h.at c s h.later pairs h.first ask next rest e h.same asks h.ahead ends h.is h.left

  -- a given reply isn't refused where it was given
  not_refused : (from from' s c : C) (before before' some pairs : Log) (ask : Ask) (next : Reply → C)
      (rest : List Reply) (e : E) → Same from from' → Leads Steps from before s (before ++ some)
      → Steps s (Asks ask next)
      → Leads Steps from' before' c (before' ++ pairs) → Steps c (Ends e) → replies_of pairs ≡ replies_of some ++ rest
      → faults pairs ≡ 0 → replayed_reply ask rest ≡ Fault → ⊥
  not_refused from from' s c before before' some pairs ask next rest e same l asks k ends is clean refused =
      let n = next_pair from from' s c before before' some pairs ask next rest e same l asks k ends is in
      let fit = fit_added Steps from' c before' pairs k in
      let pair : IsFit (n.other, n.reply) = fit_there n.first n.more (n.other, n.reply)
      (subst (λ x. All IsFit x) n.is fit) in
      let plain : is_fault n.reply ≡ false =
      clean_there n.first n.more n.other n.reply (subst (λ x. faults x ≡ 0) n.is clean) in
      let answered : answers ask n.reply ≡ true =
      answer_alike ask n.other n.like n.reply ∙ answering n.other n.reply pair.fitting pair.told plain in
      let given : replayed_reply ask (n.reply ∷ replies_of n.more) ≡ Fault =
      subst (λ x. replayed_reply ask x ≡ Fault) n.left refused in
      let same_reply : n.reply ≡ Fault = sym (ap (λ b. if b then n.reply else Fault) answered) ∙ given in
      absurd (cc (plain, ap is_fault same_reply))

  -- a run that came to an end, without a fault, comes there again over its replies
  pub comes_again : (from from' c d : C) (before pairs again : Log) (left : List Reply) (e e' : E) → Same from' from
      → Leads Steps from before c (before ++ pairs) → Steps c (Ends e) → faults pairs ≡ 0
      → Leads Steps from' [] d again → Steps d (Ends e')
      → IsReplayed (replies_of pairs) (record { left = left; log = again }) → ComesAgain pairs again left e e'
  comes_again from from' c d before pairs again left e e' same l ends clean k ends' (IsReplayed.so_far h) =
      let r = one_end Steps IsLikeAsk Same agrees from' from [] before again pairs left d c e' e same k ends' l ends h
      in
      record { end = r.1; used = r.0; alike = r.2 }
  comes_again from from' c d before pairs again left e e' same l ends clean k ends'
      (IsReplayed.broken first rest ask unused log is refused) =
      let was = asked Steps from' [] d again again k refl first rest ask Fault log in
      absurd (not_refused from' from was.at c [] before first pairs ask was.next unused e same was.leads was.asks l ends
      is clean refused)
