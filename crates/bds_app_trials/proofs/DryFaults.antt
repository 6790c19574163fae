-- A reply inside is a fault exactly where the own one is, if each ask for what comes next names somebody.
use Rattle.std.proofs.Common.{◌≡◌, ◌∙◌, ℕ, ◌+◌, List, [], ◌∷◌, ◌++◌, refl, ap, ap₂, sym, subst, min}
use Rattle.std.specs.List.{All, flat_map, reduce}
use Rattle.std.proofs.lemmas.List.Elements.{All-head, All-tail}
use Rattle.bds_host.specs.declared.asks.Ask.{Ask}
use Rattle.bds_host.specs.declared.asks.Ask.TheVariants as ask
use Rattle.bds_host.specs.declared.asks.Reply.{Reply}
use Rattle.bds_host.specs.declared.asks.Reply.TheVariants as reply
use Rattle.bds_host.specs.Auto.{next_reply}
use Rattle.bds_host.specs.Host.{Log, faults}
use Rattle.bds_host.proofs.Growing.{faults-append}
use Rattle.bds_dry.specs.Dry.{IsDryPair, IsDryReply, IsImage, asked_inside, inside, sys_line, task_line, told_reply}
use Rattle.bds_app_trials.specs.DryRuns.{HasPassed, IsToldInside, NamesOne, NamesOneOf, NamesOnePair}
use Rattle.bds_app_trials.proofs.JobPairs.{IsToldPair, JobPairs}

abbrev one : Ask → Reply → Log
one a r = (a, r) ∷ []

-- a line is told in place of an act
told_alike : (a b : Ask) (r : Reply) → faults (one a (told_reply r)) ≡ faults (one b r)
told_alike a b (reply.Bytes text) = refl
told_alike a b reply.Missing = refl
told_alike a b (reply.Stamp there size time) = refl
told_alike a b reply.Done = refl
told_alike a b (reply.SysDone code out) = refl
told_alike a b reply.Started = refl
told_alike a b (reply.Run k) = refl
told_alike a b (reply.Ended n code) = refl
told_alike a b reply.Fault = refl
told_alike a b reply.NoRoom = refl

done_clean : (a : Ask) (r : Reply) → r ≡ reply.Done → 0 ≡ faults (one a r)
done_clean a r is = subst (λ x. 0 ≡ faults (one a x)) (sym is) refl

next_clean : (a : Ask) (ks ns : List ℕ) → NamesOneOf ks ns → 0 ≡ faults (one a (next_reply (reduce min ks) (reduce min ns)))
next_clean a [] [] h = absurd h
next_clean a [] (n ∷ ns) h = refl
next_clean a (k ∷ ks) ns h = refl

inside_alike : (a : Ask) (r : Reply) → IsDryReply a r → NamesOne a → faults (asked_inside a r) ≡ faults (one a r)
inside_alike (ask.Read p) r is named = refl
inside_alike (ask.Stamp p) r is named = refl
inside_alike (ask.Out t) r is named = refl
inside_alike (ask.Err t) r is named = refl
inside_alike (ask.Start n k t) r is named = told_alike (ask.Out (task_line n t)) (ask.Start n k t) r
inside_alike (ask.Sys t) r is named = told_alike (ask.Out (sys_line t)) (ask.Sys t) r
inside_alike (ask.Write p t) r is named = done_clean (ask.Write p t) r is
inside_alike (ask.Remove p) r is named = done_clean (ask.Remove p) r is
inside_alike (ask.Save p t) r is named = done_clean (ask.Save p t) r is
inside_alike (ask.Next ks ns) r is named =
    subst (λ x. 0 ≡ faults (one (ask.Next ks ns) x)) (sym is) (next_clean (ask.Next ks ns) ks ns named)

pub image_alike : (own : Log) → All IsDryPair own → All NamesOnePair own → faults (flat_map inside own) ≡ faults own
image_alike [] dry named = refl
image_alike ((a, r) ∷ own) dry named =
    faults-append (asked_inside a r) (flat_map inside own)
    ∙ ap₂ (λ m n. m + n)
    (inside_alike a r (All-head IsDryPair (a, r) own dry) (All-head NamesOnePair (a, r) own named))
    (image_alike own (All-tail IsDryPair (a, r) own dry) (All-tail NamesOnePair (a, r) own named))
    ∙ sym (faults-append (one a r) own)

-- no pair without a reply stands among pairs that were told
pub not_lost : (first rest : Log) (a : Ask) → All IsToldPair (first ++ (a, reply.NoRoom) ∷ rest) → ⊥
not_lost [] rest a told = All-head IsToldPair (a, reply.NoRoom) rest told refl
not_lost (p ∷ first) rest a told =
    not_lost first rest a (All-tail IsToldPair p (first ++ (a, reply.NoRoom) ∷ rest) told)

pairs_alike : (pairs own : Log) → IsImage pairs own → All NamesOnePair own → All IsToldPair own
    → faults pairs ≡ faults own
pairs_alike pairs own (IsImage.all is dry) named told = ap faults is ∙ image_alike own dry named
pairs_alike pairs own (IsImage.lost first more rest a is more_is dry) named told =
    absurd (not_lost first rest a (subst (All IsToldPair) is told))

-- the log inside has as many faults more as there are in the own one
pub dry_faults : (before after own : Log) → IsToldInside before after own → JobPairs [] own
    → faults after ≡ faults before + faults own
dry_faults before after own dry h =
    ap faults dry.grown ∙ faults-append before dry.pairs
    ∙ ap (λ n. faults before + n)
    (pairs_alike dry.pairs own dry.image (subst (All NamesOnePair) (sym h.grown) h.named)
    (subst (All IsToldPair) (sym h.grown) h.told))

pub dry_passed : (before after own : Log) → IsToldInside before after own → HasPassed before after
dry_passed before after own dry = record { pairs = dry.pairs; grown = dry.grown; passed = dry.passed }
