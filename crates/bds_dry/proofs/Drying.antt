-- What is asked inside, and that it stays the image of the own log.
use Rattle.std.proofs.Common.{◌≡◌, ◌∙◌, ℕ, Bool, true, false, List, [], ◌∷◌, ◌++◌, append_assoc, append-nil, ap}
use Rattle.std.proofs.Common.{sym, subst, refl, inl, inr, if◌then◌else◌, Result, Ok, Err, IfOk, OnErr}
use Rattle.std.specs.List.{All, flat_map}
use Rattle.std.proofs.lemmas.List.Concat.{flat_map-append}
use Rattle.std.proofs.lemmas.List.Elements.{All-nil, All-cons, All-push, All-append}
use Rattle.bds_value.specs.declared.listed.NoMemory.{NoMemory}
use Rattle.bds_host.specs.declared.asks.Ask.{Ask}
use Rattle.bds_host.specs.declared.asks.Ask.TheVariants as ask
use Rattle.bds_host.specs.declared.asks.Reply.{Reply}
use Rattle.bds_host.specs.declared.asks.Reply.TheVariants.{SysDone, Started, Fault, NoRoom}
use Rattle.bds_host.specs.Auto.{auto_reply}
use Rattle.bds_host.specs.Host.{Log, Answered, FoundNoRoom}
use Rattle.bds_dry.specs.Dry.{Drying, inside, asked_inside, task_line, sys_line, IsDryReply, IsDryPair, IsPassed}
use Rattle.bds_dry.specs.Dry.{IsPassedPair, IsImage, IsDry, Replies, Lost, Dries, IsTold, IsAlone}
use Rattle.bds_dry.specs.Dry.{DriesTo}

-- nothing was asked
pub nothing_lost : (log : Log) → Lost log log
nothing_lost log = record { more = []; grown = sym (append-nil log); passed = All-nil IsPassedPair }

-- at most an ask with NoRoom
pub room_lost : (before after : Log) (a : Ask) → IsPassed a → FoundNoRoom before after a → Lost before after
room_lost before after a passed (inl same) =
    record { more = []; grown = same ∙ sym (append-nil before); passed = All-nil IsPassedPair }
room_lost before after a passed (inr grown) =
    record {
      more = (a, NoRoom) ∷ [];
      grown = grown;
      passed = All-cons IsPassedPair (a, NoRoom) [] passed (All-nil IsPassedPair);
    }

passing_inside : (a : Ask) (r : Reply) → IsPassed a → (asked_inside a r ≡ (a, r) ∷ []) × IsDryReply a r
passing_inside (ask.Read p) r h = (refl, tt)
passing_inside (ask.Stamp p) r h = (refl, tt)
passing_inside (ask.Out t) r h = (refl, tt)
passing_inside (ask.Err t) r h = (refl, tt)
passing_inside (ask.Write p t) r h = absurd h
passing_inside (ask.Remove p) r h = absurd h
passing_inside (ask.Sys t) r h = absurd h
passing_inside (ask.Start n k t) r h = absurd h
passing_inside (ask.Next xs ys) r h = absurd h
passing_inside (ask.Save p t) r h = absurd h

pub passing : (a : Ask) (before after : Log) (result : Result Reply NoMemory) → IsPassed a
    → IfOk result (λ r. Answered before after a r) → OnErr result (FoundNoRoom before after a)
    → Dries a before after result
passing a before after (Ok r) passed answered refused =
    let h = passing_inside a r passed in
    record {
      grown = answered.grown ∙ ap (λ l. before ++ l) (sym h.0);
      is = h.1;
      fitting = answered.fitting;
      told = answered.told;
    }
passing a before after (Err e) passed answered refused = room_lost before after a passed refused

pub started_dry : (task attempt : ℕ) (cmd : List ℕ) (before after : Log) (told : Bool)
    → IsTold (task_line task cmd) before after (Ok told)
    → Dries (ask.Start task attempt cmd) before after (Ok (if told then Started else Fault))
started_dry task attempt cmd before after true h =
    record { grown = h.grown; is = inl refl; fitting = refl; told = λ e. cc e }
started_dry task attempt cmd before after false h =
    record { grown = h.grown; is = inr refl; fitting = refl; told = λ e. cc e }

pub done_dry : (cmd : List ℕ) (before after : Log) (told : Bool) → IsTold (sys_line cmd) before after (Ok told)
    → Dries (ask.Sys cmd) before after (Ok (if told then SysDone 0 [] else Fault))
done_dry cmd before after true h = record { grown = h.grown; is = inl refl; fitting = refl; told = λ e. cc e }
done_dry cmd before after false h = record { grown = h.grown; is = inr refl; fitting = refl; told = λ e. cc e }

alone_inside : (a : Ask) (r : Reply) → IsAlone a → r ≡ auto_reply a → (asked_inside a r ≡ []) × IsDryReply a r
alone_inside (ask.Write p t) r h is = (refl, is)
alone_inside (ask.Remove p) r h is = (refl, is)
alone_inside (ask.Save p t) r h is = (refl, is)
alone_inside (ask.Next xs ys) r h is = (refl, is)
alone_inside (ask.Read p) r h is = absurd h
alone_inside (ask.Stamp p) r h is = absurd h
alone_inside (ask.Out t) r h is = absurd h
alone_inside (ask.Err t) r h is = absurd h
alone_inside (ask.Sys t) r h is = absurd h
alone_inside (ask.Start n k t) r h is = absurd h

pub alone : (a : Ask) (log from to : Log) (result : Result Reply NoMemory) → IsAlone a
    → IfOk result (λ r. r ≡ auto_reply a) → IfOk result (λ r. Answered from to a r) → Dries a log log result
alone a log from to (Ok r) h is answered =
    let x = alone_inside a r h is in
    record {
      grown = sym (append-nil log) ∙ ap (λ l. log ++ l) (sym x.0);
      is = x.1;
      fitting = answered.fitting;
      told = answered.told;
    }
alone a log from to (Err e) h is answered = nothing_lost log

-- The image

-- what is asked inside may reach the inner host
passed_inside : (a : Ask) (r : Reply) → All IsPassedPair (asked_inside a r)
passed_inside (ask.Read p) r = All-cons IsPassedPair (ask.Read p, r) [] tt (All-nil IsPassedPair)
passed_inside (ask.Stamp p) r = All-cons IsPassedPair (ask.Stamp p, r) [] tt (All-nil IsPassedPair)
passed_inside (ask.Out t) r = All-cons IsPassedPair (ask.Out t, r) [] tt (All-nil IsPassedPair)
passed_inside (ask.Err t) r = All-cons IsPassedPair (ask.Err t, r) [] tt (All-nil IsPassedPair)
passed_inside (ask.Start n k t) r = All-cons IsPassedPair (_, _) [] tt (All-nil IsPassedPair)
passed_inside (ask.Sys t) r = All-cons IsPassedPair (_, _) [] tt (All-nil IsPassedPair)
passed_inside (ask.Write p t) r = All-nil IsPassedPair
passed_inside (ask.Remove p) r = All-nil IsPassedPair
passed_inside (ask.Save p t) r = All-nil IsPassedPair
passed_inside (ask.Next xs ys) r = All-nil IsPassedPair

one_inside : (own : Log) (a : Ask) (r : Reply)
    → flat_map inside (own ++ (a, r) ∷ []) ≡ flat_map inside own ++ asked_inside a r
one_inside own a r =
    flat_map-append inside own ((a, r) ∷ []) ∙ ap (λ l. flat_map inside own ++ l) (append-nil (asked_inside a r))

image_more : (pairs own : Log) (a : Ask) (r : Reply) → IsImage pairs own → IsDryReply a r
    → IsImage (pairs ++ asked_inside a r) (own ++ (a, r) ∷ [])
image_more pairs own a r (IsImage.all is dry) reply =
    IsImage.all (ap (λ l. l ++ asked_inside a r) is ∙ sym (one_inside own a r))
    (All-push IsDryPair own (a, r) dry reply)
image_more pairs own a r (IsImage.lost first more rest b own_is is dry) reply =
    IsImage.lost first (more ++ asked_inside a r) (rest ++ (a, r) ∷ []) b
    (ap (λ l. l ++ (a, r) ∷ []) own_is ∙ append_assoc first ((b, NoRoom) ∷ rest) ((a, r) ∷ []))
    (ap (λ l. l ++ asked_inside a r) is ∙ append_assoc (flat_map inside first) more (asked_inside a r)) dry

image_lost : (pairs own more : Log) (a : Ask) → IsImage pairs own → IsImage (pairs ++ more) (own ++ (a, NoRoom) ∷ [])
image_lost pairs own more a (IsImage.all is dry) = IsImage.lost own more [] a refl (ap (λ l. l ++ more) is) dry
image_lost pairs own more a (IsImage.lost first others rest b own_is is dry) =
    IsImage.lost first (others ++ more) (rest ++ (a, NoRoom) ∷ []) b
    (ap (λ l. l ++ (a, NoRoom) ∷ []) own_is ∙ append_assoc first ((b, NoRoom) ∷ rest) ((a, NoRoom) ∷ []))
    (ap (λ l. l ++ more) is ∙ append_assoc (flat_map inside first) others more) dry

pub dry_more : (start : Log) (r s : Drying) (a : Ask) (result : Result Reply NoMemory) → IsDry start r
    → DriesTo a r s result → IsDry start s
dry_more start r s a (Ok reply) h done =
    record {
      pairs = h.pairs ++ asked_inside a reply;
      grown = done.inner.grown ∙ ap (λ l. l ++ asked_inside a reply) h.grown
          ∙ append_assoc start h.pairs (asked_inside a reply);
      passed = All-append IsPassedPair h.pairs (asked_inside a reply) h.passed (passed_inside a reply);
      image = subst (λ x. IsImage (h.pairs ++ asked_inside a reply) x) (sym done.log)
          (image_more h.pairs r.log a reply h.image done.inner.is);
    }
dry_more start r s a (Err e) h (inl same) = subst (λ x. IsDry start x) (sym same) h
dry_more start r s a (Err e) h (inr lost) =
    record {
      pairs = h.pairs ++ lost.inner.more;
      grown = lost.inner.grown ∙ ap (λ l. l ++ lost.inner.more) h.grown ∙ append_assoc start h.pairs lost.inner.more;
      passed = All-append IsPassedPair h.pairs lost.inner.more h.passed lost.inner.passed;
      image = subst (λ x. IsImage (h.pairs ++ lost.inner.more) x) (sym lost.log)
          (image_lost h.pairs r.log lost.inner.more a h.image);
    }

-- a reply that there is no room for is one that was lost
pub kept_lost : (a : Ask) (before after : Log) (r : Reply) → Replies a before after r → Lost before after
kept_lost a before after r h = record { more = asked_inside a r; grown = h.grown; passed = passed_inside a r }

-- at the beginning
pub dry_begins : (start inner : Log) → inner ≡ start → IsDry start (record { inner = inner; log = [] })
dry_begins start inner is =
    record {
      pairs = [];
      grown = is ∙ sym (append-nil start);
      passed = All-nil IsPassedPair;
      image = IsImage.all refl (All-nil IsDryPair);
    }
