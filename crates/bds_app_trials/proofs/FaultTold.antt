-- A fault of the device that a dry run tells is told inside, and is the last reply but one there too.
use Rattle.std.proofs.Common.{◌≡◌, ◌∙◌, ℕ, List, [], ◌∷◌, ◌++◌, refl, ap, sym, subst, min}
use Rattle.std.specs.List.{All, flat_map, reduce}
use Rattle.std.proofs.lemmas.List.Concat.{flat_map-append}
use Rattle.std.proofs.lemmas.List.Elements.{All-cons, All-head, All-nil, All-tail}
use Rattle.bds_host.specs.declared.asks.Ask.{Ask}
use Rattle.bds_host.specs.declared.asks.Ask.TheVariants as ask
use Rattle.bds_host.specs.declared.asks.Reply.TheVariants as reply
use Rattle.bds_host.specs.declared.faults.Fault.TheVariants as fault
use Rattle.bds_host.specs.Auto.{next_reply}
use Rattle.bds_host.specs.Host.{Log}
use Rattle.bds_host.specs.Message.{message_of}
use Rattle.bds_dry.specs.Dry.{IsDryPair, IsDryReply, IsImage, asked_inside, inside}
use Rattle.bds_engine_parts.specs.Run.{FaultIsTold}
use Rattle.bds_app_trials.specs.DryRuns.{IsToldInside, NamesOne, NamesOneOf, NamesOnePair}
use Rattle.bds_app_trials.proofs.DryFaults.{image_alike, not_lost}
use Rattle.bds_app_trials.proofs.JobPairs.{IsToldPair, JobPairs}

all_front : {X : Type 0} (P : X → Type 0) (xs ys : List X) → All P (xs ++ ys) → All P xs
all_front P [] ys all = All-nil P
all_front P (x ∷ xs) ys all =
    All-cons P x xs (All-head P x (xs ++ ys) all) (all_front P xs ys (All-tail P x (xs ++ ys) all))

all_behind : {X : Type 0} (P : X → Type 0) (xs : List X) (y : X) (ys : List X) → All P (xs ++ y ∷ ys) → P y
all_behind P [] y ys all = All-head P y ys all
all_behind P (x ∷ xs) y ys all = all_behind P xs y ys (All-tail P x (xs ++ y ∷ ys) all)

-- the ask inside that is answered by the fault
pub record FaultInside (a : Ask) : Type 0 where
  pub asked : Ask
  pub is : asked_inside a reply.Fault ≡ (asked, reply.Fault) ∷ []

no_end : (ks ns : List ℕ) → NamesOneOf ks ns → reply.Fault ≡ next_reply (reduce min ks) (reduce min ns) → ⊥
no_end [] [] named is = absurd named
no_end [] (n ∷ ns) named is = cc is
no_end (k ∷ ks) ns named is = cc is

fault_inside : (a : Ask) → IsDryReply a reply.Fault → NamesOne a → FaultInside a
fault_inside (ask.Read p) is named = record { asked = ask.Read p; is = refl }
fault_inside (ask.Stamp p) is named = record { asked = ask.Stamp p; is = refl }
fault_inside (ask.Out t) is named = record { asked = ask.Out t; is = refl }
fault_inside (ask.Err t) is named = record { asked = ask.Err t; is = refl }
fault_inside (ask.Start n k t) is named = record { asked = _; is = refl }
fault_inside (ask.Sys t) is named = record { asked = _; is = refl }
fault_inside (ask.Write p t) is named = absurd (cc is)
fault_inside (ask.Remove p) is named = absurd (cc is)
fault_inside (ask.Save p t) is named = absurd (cc is)
fault_inside (ask.Next ks ns) is named = absurd (no_end ks ns named is)

module _ (before after own : Log) (dry : IsToldInside before after own) (h : JobPairs [] own)
    (told : FaultIsTold [] own) where
  abbrev last : Log
  last = (ask.Err (message_of fault.Device), told.reply) ∷ []

  abbrev whole : Log
  whole = told.pairs ++ (told.ask, reply.Fault) ∷ last

  told_inside : (pairs : Log) → after ≡ before ++ pairs → pairs ≡ flat_map inside own → All IsDryPair own
      → FaultIsTold before after
  told_inside pairs grown is dry_own =
      let dry_whole : All IsDryPair whole = subst (All IsDryPair) told.grown dry_own in
      let named : All NamesOnePair whole = subst (All NamesOnePair) (sym h.grown ∙ told.grown) h.named in
      let at : FaultInside told.ask =
      fault_inside told.ask (all_behind IsDryPair told.pairs (told.ask, reply.Fault) last dry_whole)
      (all_behind NamesOnePair told.pairs (told.ask, reply.Fault) last named) in
      record {
        pairs = flat_map inside told.pairs;
        ask = at.asked;
        reply = told.reply;
        grown = grown ∙ ap (λ l. before ++ l)
            (is ∙ ap (flat_map inside) told.grown ∙ flat_map-append inside told.pairs ((told.ask, reply.Fault) ∷ last)
            ∙ ap (λ l. flat_map inside told.pairs ++ (l ++ last)) at.is);
        clean = image_alike told.pairs (all_front IsDryPair told.pairs ((told.ask, reply.Fault) ∷ last) dry_whole)
            (all_front NamesOnePair told.pairs ((told.ask, reply.Fault) ∷ last) named) ∙ told.clean;
        room = told.room;
      }

  by_image : (pairs : Log) → after ≡ before ++ pairs → IsImage pairs own → FaultIsTold before after
  by_image pairs grown (IsImage.all is dry_own) = told_inside pairs grown is dry_own
  by_image pairs grown (IsImage.lost first more rest a is more_is dry_own) =
      absurd (not_lost first rest a (subst (All IsToldPair) (sym h.grown ∙ is) h.told))

  pub fault_is_told : FaultIsTold before after
  fault_is_told = by_image dry.pairs dry.grown dry.image
