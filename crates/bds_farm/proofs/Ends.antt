-- The law of ends, from what is known at each turn.
use Rattle.std.proofs.Common.{◌≡◌, ◌∙◌, ℕ, Bool, true, false, ◌&&◌, nat_eq, List, [], ◌∷◌, ◌++◌, append_assoc}
use Rattle.std.proofs.Common.{append-nil, ap, sym, subst, refl, Option, Some}
use Rattle.std.specs.List.{flat_map}
use Rattle.std.proofs.lemmas.List.Concat.{flat_map-append}
use Rattle.std.proofs.lemmas.Bool.{eqb-true}
use Rattle.bds_host.specs.declared.asks.Ask.{Ask}
use Rattle.bds_host.specs.declared.asks.Ask.TheVariants as ask
use Rattle.bds_host.specs.declared.asks.Ask.TheVariants.{Sys, Start, Next}
use Rattle.bds_host.specs.declared.asks.Reply.{Reply}
use Rattle.bds_host.specs.declared.asks.Reply.TheVariants.{SysDone, Started, Run, Ended, Fault}
use Rattle.bds_host.specs.Host.{Log}
use Rattle.bds_farm.specs.Farm.{Entry, Queue, is_of, is_open, without, submitted, LearnsLine, LearnsLines}
use Rattle.bds_farm.specs.Farm.{Gives, Polls, IsOther, FarmTurn, Turn, FarmRun, lines, end_line}
use Rattle.bds_farm.specs.Ends.{IsLearnt, IsQuiet, IsTold, LastSubmission, EndsAreLearnt, Turns, submits, ends}
use Rattle.bds_farm.proofs.Splits.{Last, split_last}
use Rattle.bds_farm.proofs.Entries.{Every, NotIn, Once, eq_sym, every_append, every_both, every_filter}
use Rattle.bds_farm.proofs.Entries.{every_left, every_right, every_weaker, found, once_push, once_without, taken_out}
use Rattle.bds_farm.proofs.Entries.{without-none}

module _ (submit poll : List ℕ) where
  abbrev T : Type 0
  T = Turn submit poll

  abbrev insides : Turns submit poll → Log
  insides ts = flat_map (λ (t : T). t.inside) ts

  abbrev Learnt : Turns submit poll → Log → Entry → Type 0
  Learnt ts now e = IsLearnt submit poll e.0 e.1 ts now

  abbrev Open : Turns submit poll → Entry → Type 0
  Open ts e = LastSubmission submit poll e.0 e.1 ts

  -- what is known behind turns, and behind what was asked inside since
  record Known (ts : Turns submit poll) (now : Log) (q : Queue) : Type 0 where
    open_ends : Every (Open ts) q.open_ends
    learnt_ends : Every (Learnt ts now) q.ends
    once_open : Once q.open_ends
    once_ends : Once q.ends
    apart : Every (λ (e : Entry). NotIn e.0 q.ends) q.open_ends

  told_more : (line : List ℕ) (pairs more : Log) → IsTold submit poll line pairs
      → IsTold submit poll line (pairs ++ more)
  told_more line pairs more h =
      record {
        out = h.out;
        front = h.front;
        back = h.back ++ more;
        asked = ap (λ l. l ++ more) h.asked
            ∙ append_assoc h.front ((Sys poll, SysDone 0 h.out) ∷ h.back) more;
        above = h.above;
        below = h.below;
        there =
            h.there;
      }

  -- more was asked inside
  learnt_more : (ts : Turns submit poll) (now more : Log) (e : Entry) → Learnt ts now e → Learnt ts (now ++ more) e
  learnt_more ts now more e h =
      record {
        attempt = h.attempt;
        submission = h.submission;
        told = subst (λ l. IsTold submit poll (end_line e.0 h.attempt e.1) l)
            (append_assoc (insides h.submission.since) now more)
            (told_more (end_line e.0 h.attempt e.1) (insides h.submission.since ++ now) more h.told);
      }

  now_more : (ts : Turns submit poll) (now more : Log) (q : Queue) → Known ts now q → Known ts (now ++ more) q
  now_more ts now more q h =
      record {
        open_ends = h.open_ends;
        learnt_ends =
            every_weaker (Learnt ts now) (Learnt ts (now ++ more))
            (λ e x. learnt_more ts now more e x) q.ends h.learnt_ends;
        once_open = h.once_open;
        once_ends =
            h.once_ends;
        apart = h.apart;
      }

  -- A turn is over

  open_over : (ts : Turns submit poll) (t : T) (e : Entry) → Open ts e → IsQuiet submit poll e.0 t
      → Open (ts ++ t ∷ []) e
  open_over ts t e h quiet =
      record {
        before = h.before;
        turn = h.turn;
        since = h.since ++ t ∷ [];
        is = ap (λ l. l ++ t ∷ []) h.is ∙ append_assoc h.before (h.turn ∷ h.since) (t ∷ []);
        cmd = h.cmd;
        ask = h.ask;
        reply = h.reply;
        quiet = every_append (IsQuiet submit poll e.0) h.since (t ∷ []) h.quiet (quiet, tt);
      }

  pairs_over : (since : Turns submit poll) (t : T) (now more : Log) → t.inside ≡ now ++ more
      → (insides since ++ now) ++ more ≡ insides (since ++ t ∷ []) ++ []
  pairs_over since t now more is =
      append_assoc (insides since) now more ∙ ap (λ l. insides since ++ l) (sym is)
      ∙ ap (λ l. insides since ++ l) (sym (append-nil t.inside))
      ∙ sym (flat_map-append (λ (u : T). u.inside) since (t ∷ [])) ∙ sym (append-nil (insides (since ++ t ∷ [])))

  learnt_over : (ts : Turns submit poll) (now more : Log) (t : T) (e : Entry) → t.inside ≡ now ++ more
      → Learnt ts now e → IsQuiet submit poll e.0 t → Learnt (ts ++ t ∷ []) [] e
  unfolding open_over
  learnt_over ts now more t e is h quiet =
      record {
        attempt = h.attempt;
        submission = open_over ts t (e.0, h.attempt) h.submission quiet;
        told = subst (λ l. IsTold submit poll (end_line e.0 h.attempt e.1) l)
            (pairs_over h.submission.since t now more is)
            (told_more (end_line e.0 h.attempt e.1) (insides h.submission.since ++ now) more h.told);
      }

  over : (ts : Turns submit poll) (now more : Log) (t : T) (q : Queue) → t.inside ≡ now ++ more → Known ts now q
      → Every (λ (e : Entry). IsQuiet submit poll e.0 t) q.open_ends
      → Every (λ (e : Entry). IsQuiet submit poll e.0 t) q.ends
      → Known (ts ++ t ∷ []) [] q
  over ts now more t q is h quiet_open quiet_ends =
      record {
        open_ends =
            every_both (Open ts) (λ (e : Entry). IsQuiet submit poll e.0 t) (Open (ts ++ t ∷ []))
            (λ e x y. open_over ts t e x y) q.open_ends h.open_ends quiet_open;
        learnt_ends =
            every_both (Learnt ts now) (λ (e : Entry). IsQuiet submit poll e.0 t) (Learnt (ts ++ t ∷ []) [])
            (λ e x y. learnt_over ts now more t e is x y) q.ends h.learnt_ends quiet_ends;
        once_open = h.once_open;
        once_ends = h.once_ends;
        apart = h.apart;
      }

  every_so : {X : Type 0} (P : X → Type 0) → ((x : X) → P x) → (xs : List X) → Every P xs
  every_so P f [] = tt
  every_so P f (x ∷ xs) = (f x, every_so P f xs)

  -- a turn that submits nothing and gives no end
  over_quietly : (ts : Turns submit poll) (now more : Log) (t : T) (q : Queue) → t.inside ≡ now ++ more
      → Known ts now q → ((task : ℕ) → IsQuiet submit poll task t) → Known (ts ++ t ∷ []) [] q
  over_quietly ts now more t q is h quiet =
      over ts now more t q is h (every_so (λ (e : Entry). IsQuiet submit poll e.0 t) (λ e. quiet e.0) q.open_ends)
      (every_so (λ (e : Entry). IsQuiet submit poll e.0 t) (λ e. quiet e.0) q.ends)

  -- Learning

  and_true : (a b : Bool) → a && b ≡ true → (a ≡ true) × (b ≡ true)
  and_true true b h = (refl, h)
  and_true false b h = absurd (cc h)

  -- an open submission is known
  known_open : (ts : Turns submit poll) (now : Log) (q : Queue) (task attempt : ℕ) → Known ts now q
      → is_open task attempt q ≡ true → LastSubmission submit poll task attempt ts × NotIn task q.ends
  known_open ts now q task attempt h is =
      let both =
      every_both (Open ts) (λ (e : Entry). NotIn e.0 q.ends) (λ (e : Entry). Open ts e × NotIn e.0 q.ends)
      (λ e x y. (x, y)) q.open_ends h.open_ends h.apart in
      let f = found (λ (e : Entry). Open ts e × NotIn e.0 q.ends)
      (λ (e : Entry). nat_eq e.0 task && nat_eq e.1 attempt) q.open_ends is both in
      let same = and_true (nat_eq f.item.0 task) (nat_eq f.item.1 attempt) f.passes in
      let task_is : f.item.0 ≡ task = eqb-true f.item.0 task same.0 in
      let attempt_is : f.item.1 ≡ attempt = eqb-true f.item.1 attempt same.1 in (
        subst (λ n. LastSubmission submit poll n attempt ts) task_is
            (subst (λ a. LastSubmission submit poll f.item.0 a ts) attempt_is f.holds.0),
        subst (λ n. NotIn n q.ends) task_is f.holds.1,
      )

  learns_line : (ts : Turns submit poll) (inside : Log) (out line : List ℕ) (above below : List (List ℕ))
      (q after : Queue) → lines out ≡ above ++ line ∷ below → LearnsLine line q after
      → Known ts (inside ++ (Sys poll, SysDone 0 out) ∷ []) q
      → Known ts (inside ++ (Sys poll, SysDone 0 out) ∷ []) after
  learns_line ts inside out line above below q _ there (LearnsLine.skips other) h = h
  learns_line ts inside out line above below q _ there (LearnsLine.learns task attempt code low is opened) h =
      let now : Log = inside ++ (Sys poll, SysDone 0 out) ∷ [] in
      let k = known_open ts now q task attempt h opened in
      let told : IsTold submit poll (end_line task attempt code) (insides k.0.since ++ now) =
      record {
        out = out;
        front = insides k.0.since ++ inside;
        back = [];
        asked = sym (append_assoc (insides k.0.since) inside ((Sys poll, SysDone 0 out) ∷ []));
        above =
            above;
        below = below;
        there = subst (λ l. lines out ≡ above ++ l ∷ below) is there;
      } in
      let new : Learnt ts now (task, code) = record { attempt = attempt; submission = k.0; told = told } in
      let left = without-none task q.open_ends in
      record {
        open_ends = every_filter (Open ts) _ q.open_ends h.open_ends;
        learnt_ends = every_append (Learnt ts now) q.ends ((task, code) ∷ []) h.learnt_ends (new, tt);
        once_open = once_without task q.open_ends h.once_open;
        once_ends = once_push q.ends task code h.once_ends k.1;
        apart = every_both (λ (e : Entry). NotIn e.0 q.ends) (λ (e : Entry). is_of task e ≡ false)
            (λ (e : Entry). NotIn e.0 (q.ends ++ (task, code) ∷ []))
            (λ e x y. every_append (λ (f : Entry). is_of e.0 f ≡ false) q.ends ((task, code) ∷ []) x
            (eq_sym e.0 task y, tt)) (without task q.open_ends)
            (every_filter (λ (e : Entry). NotIn e.0 q.ends) _ q.open_ends h.apart) left;
      }

  learns_lines : (ts : Turns submit poll) (inside : Log) (out : List ℕ) (q : Queue) (ls below : List (List ℕ))
      (after : Queue) → lines out ≡ ls ++ below → LearnsLines q ls after → Known ts inside q
      → Known ts (inside ++ (Sys poll, SysDone 0 out) ∷ []) after
  learns_lines ts inside out q _ below _ there LearnsLines.none h =
      now_more ts inside ((Sys poll, SysDone 0 out) ∷ []) q h
  learns_lines ts inside out q _ below after there (LearnsLines.one_more ls line before _ more last) h =
      let split = there ∙ append_assoc ls (line ∷ []) below in
      learns_line ts inside out line ls below before after split last
      (learns_lines ts inside out q ls (line ∷ below) before split more h)

  polled : (ts : Turns submit poll) (running : List ℕ) (q : Queue) (inside : Log) (after : Queue)
      → Polls poll running q inside after → Known ts [] q → Known ts inside after
  polled ts running q _ _ Polls.not_yet h = h
  polled ts running q _ after (Polls.once_more inside before _ out more others lines_learnt) h =
      learns_lines ts inside out before (lines out) [] after (sym (append-nil (lines out))) lines_learnt
      (polled ts running q inside before more h)

  -- Turns

  other_quiet : (a : Ask) (r : Reply) (task : ℕ) → IsOther a → (submits task a r ≡ false) × (ends task a r ≡ false)
  other_quiet (ask.Read p) r task h = (refl, refl)
  other_quiet (ask.Stamp p) r task h = (refl, refl)
  other_quiet (ask.Write p t) r task h = (refl, refl)
  other_quiet (ask.Remove p) r task h = (refl, refl)
  other_quiet (ask.Out t) r task h = (refl, refl)
  other_quiet (ask.Err t) r task h = (refl, refl)
  other_quiet (ask.Sys t) r task h = (refl, refl)
  other_quiet (ask.Save p t) r task h = (refl, refl)
  other_quiet (ask.Start n k t) r task h = absurd h
  other_quiet (ask.Next xs ys) r task h = absurd h

  quiet_at : (task : ℕ) (t : T) (a : Ask) (r : Reply) → t.ask ≡ a → t.reply ≡ r → submits task a r ≡ false
      → ends task a r ≡ false → IsQuiet submit poll task t
  quiet_at task t a r ask_is reply_is s e = (
    ap (λ x. submits task x t.reply) ask_is ∙ ap (λ x. submits task a x) reply_is
        ∙ s,
    ap (λ x. ends task x t.reply) ask_is ∙ ap (λ x. ends task a x) reply_is ∙ e,
  )

  last_changed : (ts : Turns submit poll) (now : Log) (q : Queue) (last : Option ℕ) → Known ts now q
      → Known ts now (record { last = last; open_ends = q.open_ends; ends = q.ends })
  last_changed ts now q last h =
      record {
        open_ends = h.open_ends;
        learnt_ends = h.learnt_ends;
        once_open = h.once_open;
        once_ends = h.once_ends;
        apart = h.apart;
      }

  submitted_known : (ts : Turns submit poll) (q : Queue) (t : T) (task attempt : ℕ) (cmd : List ℕ)
      → t.ask ≡ Start task attempt cmd → t.reply ≡ Started → Known ts [] q
      → Known (ts ++ t ∷ []) [] (submitted task attempt q)
  submitted_known ts q t task attempt cmd ask_is reply_is h =
      let open_left = without task q.open_ends in
      let ends_left = without task q.ends in
      let left : Queue = record { last = q.last; open_ends = open_left; ends = ends_left } in
      let k : Known ts [] left = record {
        open_ends = every_filter (Open ts) _ q.open_ends h.open_ends;
        learnt_ends = every_filter (Learnt ts []) _ q.ends h.learnt_ends;
        once_open = once_without task q.open_ends h.once_open;
        once_ends = once_without task q.ends h.once_ends;
        apart = every_filter (λ (e : Entry). NotIn e.0 ends_left) _ q.open_ends
            (every_weaker (λ (e : Entry). NotIn e.0 q.ends) (λ (e : Entry). NotIn e.0 ends_left)
            (λ e x. every_filter (λ (f : Entry). is_of e.0 f ≡ false) _ q.ends x) q.open_ends h.apart);
      } in
      let quiet =
      λ (e : Entry) (x : is_of task e ≡ false). quiet_at e.0 t (Start task attempt cmd) Started ask_is reply_is
      (eq_sym e.0 task x) refl in
      let o = over ts [] t.inside t left refl k
      (every_weaker (λ (e : Entry). is_of task e ≡ false) (λ (e : Entry). IsQuiet submit poll e.0 t) quiet open_left
      (without-none task q.open_ends))
      (every_weaker (λ (e : Entry). is_of task e ≡ false) (λ (e : Entry). IsQuiet submit poll e.0 t) quiet ends_left
      (without-none task q.ends)) in
      let new : Open (ts ++ t ∷ []) (task, attempt) =
      record {
        before = ts;
        turn = t;
        since = [];
        is = refl;
        cmd = cmd;
        ask = ask_is;
        reply = reply_is;
        quiet = tt;
      } in
      record {
        open_ends = (new, o.open_ends);
        learnt_ends = o.learnt_ends;
        once_open = (without-none task q.open_ends, o.once_open);
        once_ends = o.once_ends;
        apart = (without-none task q.ends, o.apart);
      }

  -- an end is given
  given_known : (ts : Turns submit poll) (q after : Queue) (t : T) (running : List ℕ) (task code : ℕ)
      → t.ask ≡ Next [] running → t.reply ≡ Ended task code → Gives running q task code after → Known ts t.inside q
      → Known (ts ++ t ∷ []) [] after
  given_known ts q after t running task code ask_is reply_is g h =
      let taken = taken_out g.older g.younger task code (subst (λ l. Once l) g.is h.once_ends) in
      let left : Queue = record { last = q.last; open_ends = q.open_ends; ends = g.older ++ g.younger } in
      let apart_all : Every (λ (e : Entry). NotIn e.0 (g.older ++ (task, code) ∷ g.younger)) q.open_ends =
      subst (λ l. Every (λ (e : Entry). NotIn e.0 l) q.open_ends) g.is h.apart in
      let learnt_all : Every (Learnt ts t.inside) (g.older ++ (task, code) ∷ g.younger) =
      subst (λ l. Every (Learnt ts t.inside) l) g.is h.learnt_ends in
      let back = every_right (Learnt ts t.inside) g.older ((task, code) ∷ g.younger) learnt_all in
      let open_apart : NotIn task q.open_ends =
      every_weaker (λ (e : Entry). NotIn e.0 (g.older ++ (task, code) ∷ g.younger))
      (λ (e : Entry). is_of task e ≡ false)
      (λ e x. eq_sym task e.0
      (every_right (λ (f : Entry). is_of e.0 f ≡ false) g.older
      ((task, code) ∷ g.younger) x).0) q.open_ends apart_all in
      let k : Known ts t.inside left = record {
        open_ends = h.open_ends;
        learnt_ends =
            every_append (Learnt ts t.inside) g.older g.younger
            (every_left (Learnt ts t.inside) g.older ((task, code) ∷ g.younger) learnt_all) back.1;
        once_open = h.once_open;
        once_ends = taken.once;
        apart = every_weaker (λ (e : Entry). NotIn e.0 (g.older ++ (task, code) ∷ g.younger))
            (λ (e : Entry). NotIn e.0 (g.older ++ g.younger))
            (λ e x. every_append (λ (f : Entry). is_of e.0 f ≡ false) g.older g.younger
            (every_left (λ (f : Entry). is_of e.0 f ≡ false) g.older ((task, code) ∷ g.younger) x)
            (every_right (λ (f : Entry). is_of e.0 f ≡ false) g.older
            ((task, code) ∷ g.younger) x).1) q.open_ends apart_all;
      } in
      let quiet =
      λ (e : Entry) (x : is_of task e ≡ false). quiet_at e.0 t (Next [] running)
      (Ended task code) ask_is reply_is refl (eq_sym e.0 task x) in
      let ends_apart : NotIn task (g.older ++ g.younger) =
      every_append (λ (e : Entry). is_of task e ≡ false) g.older g.younger taken.older_apart taken.younger_apart in
      subst (λ x. Known (ts ++ t ∷ []) [] x) (sym g.left)
      (over ts t.inside [] t left (sym (append-nil t.inside)) k
      (every_weaker (λ (e : Entry). is_of task e ≡ false)
      (λ (e : Entry). IsQuiet submit poll e.0 t) quiet q.open_ends open_apart)
      (every_weaker (λ (e : Entry). is_of task e ≡ false) (λ (e : Entry). IsQuiet submit poll e.0 t) quiet
      (g.older ++ g.younger) ends_apart))

  turn_known : (ts : Turns submit poll) (t : T) (q : Queue) (a : Ask) (r : Reply) (inside : Log) (after : Queue)
      → FarmTurn submit poll q a r inside after → t.ask ≡ a → t.reply ≡ r → t.inside ≡ inside → Known ts [] q
      → Known (ts ++ t ∷ []) [] after
  turn_known ts t q _ _ _ _ (FarmTurn.passes a r other) ask_is reply_is inside_is h =
      over_quietly ts [] t.inside t q refl h
      (λ task. let x = other_quiet a r task other in quiet_at task t a r ask_is reply_is x.0 x.1)
  turn_known ts t q _ _ _ _ (FarmTurn.submits task attempt cmd out) ask_is reply_is inside_is h =
      submitted_known ts q t task attempt cmd ask_is reply_is h
  turn_known ts t q _ _ _ _ (FarmTurn.unwritten task attempt cmd) ask_is reply_is inside_is h =
      over_quietly ts [] t.inside t q refl h
      (λ n. quiet_at n t (Start task attempt cmd) Fault ask_is reply_is refl refl)
  turn_known ts t q _ _ _ _ (FarmTurn.unasked task attempt cmd) ask_is reply_is inside_is h =
      over_quietly ts [] t.inside t q refl h
      (λ n. quiet_at n t (Start task attempt cmd) Fault ask_is reply_is refl refl)
  turn_known ts t q _ _ _ _ (FarmTurn.refused task attempt code cmd out other) ask_is reply_is inside_is h =
      over_quietly ts [] t.inside t q refl h
      (λ n. quiet_at n t (Start task attempt cmd) Fault ask_is reply_is refl refl)
  turn_known ts t q _ _ _ _ (FarmTurn.turns ready running k turn) ask_is reply_is inside_is h =
      last_changed (ts ++ t ∷ []) [] q (Some k)
      (over_quietly ts [] t.inside t q refl h
      (λ n. quiet_at n t (Next ready running) (Run k) ask_is reply_is refl refl))
  turn_known ts t q _ _ _ after
      (FarmTurn.ended running inside learnt_queue _ task code polls few gives) ask_is reply_is inside_is h =
      given_known ts learnt_queue after t running task code ask_is reply_is gives
      (subst (λ l. Known ts l learnt_queue) (sym inside_is) (polled ts running q inside learnt_queue polls h))
  turn_known ts t q _ _ _ _ FarmTurn.nothing_runs ask_is reply_is inside_is h =
      over_quietly ts [] t.inside t q refl h (λ n. quiet_at n t (Next [] []) Fault ask_is reply_is refl refl)
  turn_known ts t q _ _ _ after (FarmTurn.poll_faults running inside _ none few) ask_is reply_is inside_is h =
      over_quietly ts inside ((Sys poll, Fault) ∷ []) t after inside_is (polled ts running q inside after none.polls h)
      (λ n. quiet_at n t (Next [] running) Fault ask_is reply_is refl refl)
  turn_known ts t q _ _ _ after
      (FarmTurn.poll_fails running inside _ code out none few other) ask_is reply_is inside_is h =
      over_quietly ts inside ((Sys poll, SysDone code out) ∷ []) t after inside_is
      (polled ts running q inside after none.polls h)
      (λ n. quiet_at n t (Next [] running) Fault ask_is reply_is refl refl)
  turn_known ts t q _ _ _ after (FarmTurn.too_often running inside _ none many) ask_is reply_is inside_is h =
      over_quietly ts inside [] t after (inside_is ∙ sym (append-nil inside))
      (polled ts running q inside after none.polls h)
      (λ n. quiet_at n t (Next [] running) Fault ask_is reply_is refl refl)

  known : (ts : Turns submit poll) (q : Queue) → FarmRun submit poll ts q → Known ts [] q
  known _ _ FarmRun.begins = record { open_ends = tt; learnt_ends = tt; once_open = tt; once_ends = tt; apart = tt }
  known _ after (FarmRun.goes_on ts q _ t run turn) =
      turn_known ts t q t.ask t.reply t.inside after turn refl refl refl (known ts q run)

  -- a turn that gives an end
  turn_learnt : (ts : Turns submit poll) (q : Queue) (a : Ask) (r : Reply) (inside : Log) (after : Queue)
      (task code : ℕ) (ready running : List ℕ) → FarmTurn submit poll q a r inside after → r ≡ Ended task code
      → a ≡ Next ready running → Known ts [] q
      → IsLearnt submit poll task code ts inside
  turn_learnt ts q _ _ _ _ task code ready running (FarmTurn.passes a r other) reply_is ask_is h =
      absurd (subst IsOther ask_is other)
  turn_learnt ts q _ _ _ _ task code ready running (FarmTurn.submits n attempt cmd out) reply_is ask_is h =
      absurd (cc reply_is)
  turn_learnt ts q _ _ _ _ task code ready running (FarmTurn.unwritten n attempt cmd) reply_is ask_is h =
      absurd (cc reply_is)
  turn_learnt ts q _ _ _ _ task code ready running (FarmTurn.unasked n attempt cmd) reply_is ask_is h =
      absurd (cc reply_is)
  turn_learnt ts q _ _ _ _ task code ready running (FarmTurn.refused n attempt c cmd out other) reply_is ask_is h =
      absurd (cc reply_is)
  turn_learnt ts q _ _ _ _ task code ready running (FarmTurn.turns r' run' k turn) reply_is ask_is h =
      absurd (cc reply_is)
  turn_learnt ts q _ _ _ after task code ready running
      (FarmTurn.ended run' inside learnt_queue _ n c polls few gives) reply_is ask_is h =
      let k = polled ts run' q inside learnt_queue polls h in
      let all : Every (Learnt ts inside) (gives.older ++ (n, c) ∷ gives.younger) =
      subst (λ l. Every (Learnt ts inside) l) gives.is k.learnt_ends in
      let there = (every_right (Learnt ts inside) gives.older ((n, c) ∷ gives.younger) all).0 in
      let task_is : n ≡ task = cc reply_is in
      let code_is : c ≡ code = cc reply_is in
      subst (λ x. IsLearnt submit poll x code ts inside) task_is
      (subst (λ x. IsLearnt submit poll n x ts inside) code_is there)
  turn_learnt ts q _ _ _ _ task code ready running FarmTurn.nothing_runs reply_is ask_is h = absurd (cc reply_is)
  turn_learnt ts q _ _ _ _ task code ready running (FarmTurn.poll_faults run' inside _ none few) reply_is ask_is h =
      absurd (cc reply_is)
  turn_learnt ts q _ _ _ _ task code ready running
      (FarmTurn.poll_fails run' inside _ c out none few other) reply_is ask_is h = absurd (cc reply_is)
  turn_learnt ts q _ _ _ _ task code ready running (FarmTurn.too_often run' inside _ none many) reply_is ask_is h =
      absurd (cc reply_is)

  -- a turn somewhere in a run
  record Goes (before : Turns submit poll) (t : T) : Type 0 where
    from : Queue
    to : Queue
    run : FarmRun submit poll before from
    turn : FarmTurn submit poll from t.ask t.reply t.inside to

  goes_at : (ts : Turns submit poll) (q : Queue) → FarmRun submit poll ts q
      → (before after : Turns submit poll) (t : T) → ts ≡ before ++ t ∷ after → Goes before t
  goes_at _ _ FarmRun.begins [] after t is = absurd (cc is)
  goes_at _ _ FarmRun.begins (b ∷ before) after t is = absurd (cc is)
  goes_at _ last (FarmRun.goes_on ts q _ u run turn) before after t is =
      go (λ more same. goes_at ts q run before more t same) (split_last ts before after u t is)
    where
      go : ((more : Turns submit poll) → ts ≡ before ++ t ∷ more → Goes before t) → Last ts u before t after
          → Goes before t
      go earlier (Last.at_end same here) =
          record {
            from = q;
            to = last;
            run = subst (λ x. FarmRun submit poll x q) same run;
            turn = subst (λ (x : T). FarmTurn submit poll q x.ask x.reply x.inside last) here turn;
          }
      go earlier (Last.before_end more same) = earlier more same

  pub ends_are_learnt : EndsAreLearnt submit poll
  ends_are_learnt before after t q task code run reply_is ready running ask_is =
      let g = goes_at (before ++ t ∷ after) q run before after t refl in
      turn_learnt before g.from t.ask t.reply t.inside g.to task code ready running g.turn reply_is ask_is
      (known before g.from g.run)
