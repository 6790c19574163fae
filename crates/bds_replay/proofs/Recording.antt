-- What is stored stays stored.
use Rattle.std.proofs.Common.{◌≡◌, ◌∙◌, [], ◌∷◌, ◌++◌, append_assoc, append-nil, ap, sym, subst, inl}
use Rattle.std.proofs.Common.{inr, Result, Ok, Err}
use Rattle.std.proofs.lemmas.List.{map-append}
use Rattle.bds_value.specs.declared.listed.NoMemory.{NoMemory}
use Rattle.bds_host.specs.declared.asks.Ask.{Ask}
use Rattle.bds_host.specs.declared.asks.Reply.{Reply}
use Rattle.bds_host.specs.declared.asks.Reply.TheVariants.{NoRoom}
use Rattle.bds_host.specs.Host.{Log, Answered, FoundNoRoom}
use Rattle.bds_replay.specs.Recorded.{Recording, AreAskedFor, IsRecorded, IsLost, StoresTo, replies_of}

-- one more pair on both sides
all_more : (start : Log) (r : Recording) (ask : Ask) (reply : Reply) → r.inner ≡ start ++ r.log
    → r.replies ≡ replies_of r.log
    → IsRecorded start
    (record {
      inner = r.inner ++ (ask, reply) ∷ [];
      replies = r.replies ++ reply ∷ [];
      log = r.log ++ (ask, reply) ∷ [];
    })
all_more start r ask reply inner replies =
    IsRecorded.all (ap (λ l. l ++ (ask, reply) ∷ []) inner ∙ append_assoc start r.log ((ask, reply) ∷ []))
    (ap (λ l. l ++ reply ∷ []) replies ∙ sym (map-append (λ p. p.1) r.log ((ask, reply) ∷ [])))

-- one behind the other
asked_append : (own inner own' inner' : Log) → AreAskedFor own inner → AreAskedFor own' inner'
    → AreAskedFor (own ++ own') (inner ++ inner')
asked_append own inner _ _ h AreAskedFor.none =
    subst (λ l. AreAskedFor l (inner ++ [])) (sym (append-nil own))
    (subst (λ l. AreAskedFor own l) (sym (append-nil inner)) h)
asked_append own inner _ _ h (AreAskedFor.kept own' inner' p k) =
    subst (λ l. AreAskedFor l (inner ++ (inner' ++ p ∷ []))) (append_assoc own own' (p ∷ []))
    (subst (λ l. AreAskedFor ((own ++ own') ++ p ∷ []) l) (append_assoc inner inner' (p ∷ []))
    (AreAskedFor.kept (own ++ own') (inner ++ inner') p (asked_append own inner own' inner' h k)))
asked_append own inner _ _ h (AreAskedFor.lost own' inner' ask reply k fit) =
    subst (λ l. AreAskedFor l (inner ++ (inner' ++ (ask, reply) ∷ []))) (append_assoc own own' ((ask, NoRoom) ∷ []))
    (subst (λ l. AreAskedFor ((own ++ own') ++ (ask, NoRoom) ∷ []) l) (append_assoc inner inner' ((ask, reply) ∷ []))
    (AreAskedFor.lost (own ++ own') (inner ++ inner') ask reply (asked_append own inner own' inner' h k) fit))
asked_append own inner _ _ h (AreAskedFor.unasked own' inner' ask k) =
    subst (λ l. AreAskedFor l (inner ++ inner')) (append_assoc own own' ((ask, NoRoom) ∷ []))
    (AreAskedFor.unasked (own ++ own') (inner ++ inner') ask (asked_append own inner own' inner' h k))

one_kept : (p : Ask × Reply) → AreAskedFor (p ∷ []) (p ∷ [])
one_kept p = AreAskedFor.kept [] [] p AreAskedFor.none

-- there was no room inside
pub lost_inside : (r s : Recording) (ask : Ask) → FoundNoRoom r.inner s.inner ask → s.log ≡ r.log ++ (ask, NoRoom) ∷ []
    → IsLost ask r s
lost_inside r s ask (inl same) log =
    record {
      more = [];
      inner = same ∙ sym (append-nil r.inner);
      asked = AreAskedFor.unasked [] [] ask AreAskedFor.none;
      log = log;
    }
lost_inside r s ask (inr grown) log =
    record { more = (ask, NoRoom) ∷ []; inner = grown; asked = one_kept (ask, NoRoom); log = log }

-- there was no room for the reply
pub lost_behind : (r s : Recording) (ask : Ask) (reply : Reply) → Answered r.inner s.inner ask reply
    → s.log ≡ r.log ++ (ask, NoRoom) ∷ [] → IsLost ask r s
lost_behind r s ask reply answered log =
    record {
      more = (ask, reply) ∷ [];
      inner = answered.grown;
      asked = AreAskedFor.lost [] [] ask reply AreAskedFor.none answered.fitting;
      log = log;
    }

-- a pair was lost, and more comes behind it
lost_more : (start : Log) (r s : Recording) (first more rest : Log) (ask : Ask) (others mores : Log)
    → r.log ≡ first ++ (ask, NoRoom) ∷ rest
    → r.inner ≡ start ++ (first ++ more) → AreAskedFor ((ask, NoRoom) ∷ rest) more → s.log ≡ r.log ++ others
    → s.inner ≡ r.inner ++ mores
    → AreAskedFor others mores → IsRecorded start s
lost_more start r s first more rest ask others mores log inner asked log' inner' asked' =
    IsRecorded.up_to first (more ++ mores) (rest ++ others) ask
    (log' ∙ ap (λ l. l ++ others) log ∙ append_assoc first ((ask, NoRoom) ∷ rest) others)
    (inner' ∙ ap (λ l. l ++ mores) inner ∙ append_assoc start (first ++ more) mores
    ∙ ap (λ l. start ++ l) (append_assoc first more mores))
    (asked_append ((ask, NoRoom) ∷ rest) more others mores asked asked')

-- a pair is lost
loses : (start : Log) (r s : Recording) (ask : Ask) → r.inner ≡ start ++ r.log → IsLost ask r s → IsRecorded start s
loses start r s ask inner h =
    IsRecorded.up_to r.log h.more [] ask h.log
    (h.inner ∙ ap (λ l. l ++ h.more) inner ∙ append_assoc start r.log h.more) h.asked

pub recorded_more : (start : Log) (r s : Recording) (ask : Ask) (result : Result Reply NoMemory) → IsRecorded start r
    → StoresTo ask r s result → IsRecorded start s
recorded_more start r s ask (Ok reply) (IsRecorded.all inner replies) stored =
    subst (λ x. IsRecorded start x) (sym stored) (all_more start r ask reply inner replies)
recorded_more start r s ask (Ok reply) (IsRecorded.up_to first more rest lost log inner asked) stored =
    lost_more start r s first more rest lost ((ask, reply) ∷ []) ((ask, reply) ∷ []) log inner asked
    (ap (λ x. x.log) stored) (ap (λ x. x.inner) stored) (one_kept (ask, reply))
recorded_more start r s ask (Err e) h (inl same) = subst (λ x. IsRecorded start x) (sym same) h
recorded_more start r s ask (Err e) (IsRecorded.all inner replies) (inr h) = loses start r s ask inner h
recorded_more start r s ask (Err e) (IsRecorded.up_to first more rest lost log inner asked) (inr h) =
    lost_more start r s first more rest lost ((ask, NoRoom) ∷ []) h.more log inner asked h.log h.inner h.asked
