-- What was replied stays so.
use Rattle.std.proofs.Common.{◌≡◌, ◌≢◌, ◌∙◌, Bool, true, false, ◌&&◌, List, [], ◌∷◌, ◌++◌, append_assoc}
use Rattle.std.proofs.Common.{ap, sym, subst, refl, drop, if◌then◌else◌, Result, Ok}
use Rattle.std.proofs.Common.{Err}
use Rattle.std.proofs.lemmas.List.{map-append}
use Rattle.bds_value.specs.declared.listed.NoMemory.{NoMemory}
use Rattle.bds_host.specs.declared.asks.Ask.{Ask}
use Rattle.bds_host.specs.declared.asks.Ask.TheVariants as ask
use Rattle.bds_host.specs.declared.asks.Reply.{Reply}
use Rattle.bds_host.specs.declared.asks.Reply.TheVariants as reply
use Rattle.bds_host.specs.declared.asks.Reply.TheVariants.{Fault, NoRoom}
use Rattle.bds_host.specs.Asks.{answers, fits}
use Rattle.bds_host.specs.Host.{Log}
use Rattle.bds_replay.specs.Log.{is_given}
use Rattle.bds_replay.specs.Recorded.{replies_of}
use Rattle.bds_replay.specs.Replayed.{Replaying, IsReplayed, ReplaysTo, replayed_reply}

-- what answers an ask fits it, and isn't lost
answers_no_fault : (a : Ask) → answers a Fault ≡ false
answers_no_fault (ask.Read p) = refl
answers_no_fault (ask.Stamp p) = refl
answers_no_fault (ask.Write p t) = refl
answers_no_fault (ask.Remove p) = refl
answers_no_fault (ask.Out t) = refl
answers_no_fault (ask.Err t) = refl
answers_no_fault (ask.Sys t) = refl
answers_no_fault (ask.Start n k t) = refl
answers_no_fault (ask.Next xs ys) = refl
answers_no_fault (ask.Save p t) = refl

answers_no_loss : (a : Ask) → answers a NoRoom ≡ false
answers_no_loss (ask.Read p) = refl
answers_no_loss (ask.Stamp p) = refl
answers_no_loss (ask.Write p t) = refl
answers_no_loss (ask.Remove p) = refl
answers_no_loss (ask.Out t) = refl
answers_no_loss (ask.Err t) = refl
answers_no_loss (ask.Sys t) = refl
answers_no_loss (ask.Start n k t) = refl
answers_no_loss (ask.Next xs ys) = refl
answers_no_loss (ask.Save p t) = refl

-- what something was answered by answers an ask where it fits it
pub answers_is : (a : Ask) (r : Reply) → is_given r && fits a r ≡ answers a r
answers_is a (reply.Bytes text) = refl
answers_is a reply.Missing = refl
answers_is a (reply.Stamp there size time) = refl
answers_is a reply.Done = refl
answers_is a (reply.SysDone code out) = refl
answers_is a reply.Started = refl
answers_is a (reply.Run k) = refl
answers_is a (reply.Ended task code) = refl
answers_is a reply.Fault = sym (answers_no_fault a)
answers_is a reply.NoRoom = sym (answers_no_loss a)

pub ruleset answering = (answers_is)

answers_fit : (a : Ask) (r : Reply) → answers a r ≡ true → (fits a r ≡ true) × (r ≢ NoRoom)
answers_fit a (reply.Bytes text) h = (h, λ e. cc e)
answers_fit a reply.Missing h = (h, λ e. cc e)
answers_fit a (reply.Stamp there size time) h = (h, λ e. cc e)
answers_fit a reply.Done h = (h, λ e. cc e)
answers_fit a (reply.SysDone code out) h = (h, λ e. cc e)
answers_fit a reply.Started h = (h, λ e. cc e)
answers_fit a (reply.Run k) h = (h, λ e. cc e)
answers_fit a (reply.Ended task code) h = (h, λ e. cc e)
answers_fit a reply.Fault h = (refl, λ e. cc e)
answers_fit a reply.NoRoom h = absurd (cc (h, answers_no_loss a))

chosen_fits : (a : Ask) (r : Reply) (b : Bool) → answers a r ≡ b
    → (fits a (if b then r else Fault) ≡ true) × ((if b then r else Fault) ≢ NoRoom)
chosen_fits a r true is = answers_fit a r is
chosen_fits a r false is = (refl, λ e. cc e)

both_fit : (a : Ask) (left : List Reply) → (fits a (replayed_reply a left) ≡ true) × (replayed_reply a left ≢ NoRoom)
both_fit a [] = (refl, λ e. cc e)
both_fit a (r ∷ left) = chosen_fits a r (answers a r) refl

pub replayed-fits : (a : Ask) (left : List Reply) → fits a (replayed_reply a left) ≡ true
replayed-fits a left = (both_fit a left).0

pub replayed-told : (a : Ask) (left : List Reply) → replayed_reply a left ≢ NoRoom
replayed-told a left = (both_fit a left).1

pub ruleset replies = (replayed-fits, replayed-told)

so_far_more : (given left : List Reply) (log : Log) (a : Ask) (r : Reply) (b : Bool) → answers a r ≡ b
    → given ≡ replies_of log ++ r ∷ left
    → IsReplayed given (record { left = left; log = log ++ (a, if b then r else Fault) ∷ [] })
so_far_more given left log a r true is h =
    IsReplayed.so_far
    (h ∙ sym (append_assoc (replies_of log) (r ∷ []) left)
    ∙ ap (λ l. l ++ left) (sym (map-append (λ p. p.1) log ((a, r) ∷ []))))
so_far_more given left log a r false is h =
    IsReplayed.broken log [] a (r ∷ left) refl h (ap (λ b. if b then r else Fault) is)

so_far_on : (given left : List Reply) (log : Log) (a : Ask) → given ≡ replies_of log ++ left
    → IsReplayed given (record { left = drop 1 left; log = log ++ (a, replayed_reply a left) ∷ [] })
so_far_on given [] log a h = IsReplayed.broken log [] a [] refl h refl
so_far_on given (r ∷ left) log a h = so_far_more given left log a r (answers a r) refl h

broken_more : (given : List Reply) (r s : Replaying) (others first rest : Log) (a : Ask) (unused : List Reply)
    → r.log ≡ first ++ (a, Fault) ∷ rest → given ≡ replies_of first ++ unused → replayed_reply a unused ≡ Fault
    → s.log ≡ r.log ++ others → IsReplayed given s
broken_more given r s others first rest a unused log is none grown =
    IsReplayed.broken first (rest ++ others) a unused
    (grown ∙ ap (λ l. l ++ others) log ∙ append_assoc first ((a, Fault) ∷ rest) others) is none

pub replayed_more : (given : List Reply) (r s : Replaying) (a : Ask) (result : Result Reply NoMemory)
    → IsReplayed given r → ReplaysTo a r s result → IsReplayed given s
replayed_more given r s a (Ok x) (IsReplayed.so_far h) (is, after) =
    subst (λ y. IsReplayed given y)
    (ap (λ z. let y : Replaying = record { left = drop 1 r.left; log = r.log ++ (a, z) ∷ [] } in y) (sym is)
    ∙ sym after) (so_far_on given r.left r.log a h)
replayed_more given r s a (Ok x) (IsReplayed.broken first rest b unused log is none) (_, after) =
    broken_more given r s ((a, x) ∷ []) first rest b unused log is none (ap (λ y. y.log) after)
replayed_more given r s a (Err e) h same = subst (λ y. IsReplayed given y) (sym same) h
