-- Asks that are alike are answered by the same replies, and what is printed by runs that are alike is alike.
use Rattle.std.proofs.Common.{◌≡◌, ℕ, Bool, true, false, List, [], ◌∷◌, ap, cond, subst, refl}
use Rattle.bds_host.specs.declared.asks.Ask.{Ask}
use Rattle.bds_host.specs.declared.asks.Ask.TheVariants as ask
use Rattle.bds_host.specs.declared.asks.Reply.{Reply}
use Rattle.bds_host.specs.declared.asks.Reply.TheVariants as reply
use Rattle.bds_host.specs.declared.faults.Fault.TheVariants as fault
use Rattle.bds_host.specs.Asks.{answers}
use Rattle.bds_host.specs.Host.{Log}
use Rattle.bds_host.specs.Message.{message_of}
use Rattle.bds_schedule.specs.Determined.{IsSameAsk}
use Rattle.bds_front.specs.Unique.{IsLikeAsk, AreLikePairs}
use Rattle.bds_app_log.specs.Replays.{is_printed, printed_in}
use Rattle.bds_app_log.specs.Same.{AreAlike}

saves_alike : (p p' i i' : List ℕ) (r : Reply) → answers (ask.Save p i) r ≡ answers (ask.Save p' i') r
saves_alike p p' i i' (reply.Bytes text) = refl
saves_alike p p' i i' reply.Missing = refl
saves_alike p p' i i' (reply.Stamp there size time) = refl
saves_alike p p' i i' reply.Done = refl
saves_alike p p' i i' (reply.SysDone code out) = refl
saves_alike p p' i i' reply.Started = refl
saves_alike p p' i i' (reply.Run k) = refl
saves_alike p p' i i' (reply.Ended task code) = refl
saves_alike p p' i i' reply.Fault = refl
saves_alike p p' i i' reply.NoRoom = refl

tells_alike : (t t' : List ℕ) (r : Reply) → answers (ask.Err t) r ≡ answers (ask.Err t') r
tells_alike t t' (reply.Bytes text) = refl
tells_alike t t' reply.Missing = refl
tells_alike t t' (reply.Stamp there size time) = refl
tells_alike t t' reply.Done = refl
tells_alike t t' (reply.SysDone code out) = refl
tells_alike t t' reply.Started = refl
tells_alike t t' (reply.Run k) = refl
tells_alike t t' (reply.Ended task code) = refl
tells_alike t t' reply.Fault = refl
tells_alike t t' reply.NoRoom = refl

same_answers : (a b : Ask) → IsSameAsk a b → (r : Reply) → answers a r ≡ answers b r
same_answers (ask.Save p i) (ask.Save p' i') same r = saves_alike p p' i i' r
same_answers (ask.Save p i) (ask.Read x) same r = ap (λ x. answers x r) same
same_answers (ask.Save p i) (ask.Stamp x) same r = ap (λ x. answers x r) same
same_answers (ask.Save p i) (ask.Write x t) same r = ap (λ x. answers x r) same
same_answers (ask.Save p i) (ask.Remove x) same r = ap (λ x. answers x r) same
same_answers (ask.Save p i) (ask.Out x) same r = ap (λ x. answers x r) same
same_answers (ask.Save p i) (ask.Err x) same r = ap (λ x. answers x r) same
same_answers (ask.Save p i) (ask.Sys x) same r = ap (λ x. answers x r) same
same_answers (ask.Save p i) (ask.Start n k x) same r = ap (λ x. answers x r) same
same_answers (ask.Save p i) (ask.Next x y) same r = ap (λ x. answers x r) same
same_answers (ask.Read p) b same r = ap (λ x. answers x r) same
same_answers (ask.Stamp p) b same r = ap (λ x. answers x r) same
same_answers (ask.Write p t) b same r = ap (λ x. answers x r) same
same_answers (ask.Remove p) b same r = ap (λ x. answers x r) same
same_answers (ask.Out t) b same r = ap (λ x. answers x r) same
same_answers (ask.Err t) b same r = ap (λ x. answers x r) same
same_answers (ask.Sys t) b same r = ap (λ x. answers x r) same
same_answers (ask.Start n k t) b same r = ap (λ x. answers x r) same
same_answers (ask.Next x y) b same r = ap (λ x. answers x r) same

pub answer_alike : (a b : Ask) → IsLikeAsk a b → (r : Reply) → answers a r ≡ answers b r
answer_alike _ _ (IsLikeAsk.like a b same) r = same_answers a b same r
answer_alike _ _ (IsLikeAsk.like_told path line line') r =
    tells_alike (message_of (fault.Syntax path line)) (message_of (fault.Syntax path line')) r

same_printed : (a b : Ask) → IsSameAsk a b → is_printed a ≡ is_printed b
same_printed (ask.Save p i) (ask.Save p' i') same = refl
same_printed (ask.Save p i) (ask.Read x) same = ap is_printed same
same_printed (ask.Save p i) (ask.Stamp x) same = ap is_printed same
same_printed (ask.Save p i) (ask.Write x t) same = ap is_printed same
same_printed (ask.Save p i) (ask.Remove x) same = ap is_printed same
same_printed (ask.Save p i) (ask.Out x) same = ap is_printed same
same_printed (ask.Save p i) (ask.Err x) same = ap is_printed same
same_printed (ask.Save p i) (ask.Sys x) same = ap is_printed same
same_printed (ask.Save p i) (ask.Start n k x) same = ap is_printed same
same_printed (ask.Save p i) (ask.Next x y) same = ap is_printed same
same_printed (ask.Read p) b same = ap is_printed same
same_printed (ask.Stamp p) b same = ap is_printed same
same_printed (ask.Write p t) b same = ap is_printed same
same_printed (ask.Remove p) b same = ap is_printed same
same_printed (ask.Out t) b same = ap is_printed same
same_printed (ask.Err t) b same = ap is_printed same
same_printed (ask.Sys t) b same = ap is_printed same
same_printed (ask.Start n k t) b same = ap is_printed same
same_printed (ask.Next x y) b same = ap is_printed same

printed_alike : (a b : Ask) → IsLikeAsk a b → is_printed a ≡ is_printed b
printed_alike _ _ (IsLikeAsk.like a b same) = same_printed a b same
printed_alike _ _ (IsLikeAsk.like_told path line line') = refl

one_printed : (a b : Ask) (xs ys : List Ask) → IsLikeAsk a b → AreAlike xs ys
    → AreAlike (cond (is_printed a) (a ∷ xs) xs) (cond (is_printed b) (b ∷ ys) ys)
one_printed a b xs ys asked h = subst (λ y. AreAlike (cond (is_printed a) (a ∷ xs) xs) (cond y (b ∷ ys) ys))
    (printed_alike a b asked) (at (is_printed a))
  where
    at : (y : Bool) → AreAlike (cond y (a ∷ xs) xs) (cond y (b ∷ ys) ys)
    at true = (asked, h)
    at false = h

-- what is printed by runs that are alike
pub prints_alike : (pairs others : Log) → AreLikePairs IsLikeAsk pairs others
    → AreAlike (printed_in pairs) (printed_in others)
prints_alike [] [] h = tt
prints_alike [] (q ∷ others) h = absurd h
prints_alike (p ∷ pairs) [] h = absurd h
prints_alike (p ∷ pairs) (q ∷ others) h =
    one_printed p.0 q.0 (printed_in pairs) (printed_in others) h.0 (prints_alike pairs others h.2)
