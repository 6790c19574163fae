-- The fronts of a history live, and a history comes to rest in one configuration.
use Rattle.std.proofs.Common.{◌≡◌, ◌∙◌, ℕ, Bool, true, false, [], ◌∷◌, ◌++◌, sym, ap, refl, subst, append_assoc, append-nil, ◌≢◌, ◌⊎◌, inl, inr}
use Rattle.std.proofs.lemmas.Bool.{false≢true}
use Rattle.bds_host.specs.declared.asks.Ask.{Ask}
use Rattle.bds_host.specs.declared.asks.Ask.TheVariants.{Save}
use Rattle.bds_host.specs.declared.asks.Reply.{Reply}
use Rattle.bds_host.specs.declared.asks.Reply.TheVariants.{Done, NoRoom}
use Rattle.bds_meaning.specs.History.{Event, pair, restart, History, Lives}
use Rattle.bds_schedule.specs.Revive.{revived}
use Rattle.bds_meaning.specs.Run.{Program, Conf, Moves}
use Rattle.bds_schedule.specs.Steps.{Goes, Asks}
use Rattle.bds_meaning.proofs.OneNext.{one_next}
use Rattle.bds_meaning_laws.specs.Living.{HistoriesLiveInOne, LawsHoldBehindEachEvent}
use Rattle.bds_meaning_laws.proofs.Jobs.{histories_keep_the_laws}
use Rattle.bds_meaning_laws.proofs.Told.{no_split, split_last}

-- Fronts

abbrev is_done : Reply → Bool
is_done Done = true
is_done _ = false

done_told : Done ≢ NoRoom
done_told is = false≢true (sym (ap is_done is))

module _ (program : Program) (first : Conf) where
  -- a history leads somewhere
  abbrev IsLived : History → Type 0
  IsLived h = (d : Conf) × Lives program first h d

  -- a front of one more event is all of it, or a front of what was before
  front_of : (h before behind : History) (e : Event) → h ++ e ∷ [] ≡ before ++ behind → IsLived (h ++ e ∷ []) → ((rest : History) → h ≡ before ++ rest → IsLived before) → IsLived before
  front_of h before [] e is all less = subst IsLived (is ∙ append-nil before) all
  front_of h before (x ∷ behind) e is all less = go (split_last h before behind e x is)
    where
      go : ((behind ≡ []) × (h ≡ before) × (e ≡ x)) ⊎ ((rest : History) × (behind ≡ rest ++ e ∷ []) × (h ≡ before ++ x ∷ rest)) → IsLived before
      go (inl l) = less [] (l.1 ∙ sym (append-nil before))
      go (inr o) = less (x ∷ o.0) o.2

  fronts_live : (h : History) (c : Conf) → Lives program first h c → (before behind : History) → h ≡ before ++ behind → IsLived before
  fronts_live _ _ Lives.opens [] behind is = (first, Lives.opens)
  fronts_live _ _ Lives.opens (b ∷ before) behind is = absurd (no_split [] b (before ++ behind) is)
  fronts_live _ _ (Lives.goes h c d lives moves) before behind is = fronts_live h c lives before behind is
  fronts_live _ _ (Lives.asks h c ask next reply lives moves answered) before behind is =
      front_of h before behind (pair ask reply) is (next reply, Lives.asks h c ask next reply lives moves answered) (λ rest. fronts_live h c lives before rest)
  fronts_live _ _ (Lives.restarts h c path image next cpus budget lives moves) before behind is =
      let saved : IsLived (h ++ pair (Save path image) Done ∷ []) = (next Done, Lives.asks h c (Save path image) next Done lives moves (record { grown = refl; fitting = refl; told = done_told })) in
      let apart : (h ++ pair (Save path image) Done ∷ []) ++ restart cpus budget ∷ [] ≡ h ++ pair (Save path image) Done ∷ restart cpus budget ∷ [] = append_assoc h _ _ in
      front_of (h ++ pair (Save path image) Done ∷ []) before behind (restart cpus budget) (apart ∙ is)
      (subst IsLived (sym apart) (_, Lives.restarts h c path image next cpus budget lives moves))
      (λ rest front. front_of h before rest (pair (Save path image) Done) front saved (λ more. fronts_live h c lives before more))

pub laws_hold_behind_each_event : LawsHoldBehindEachEvent
laws_hold_behind_each_event program first c before behind opens lives =
    let front = fronts_live program first (before ++ behind) c lives before behind refl in
    record { at = front.0; lives = front.1; keeps = histories_keep_the_laws program first front.0 before opens front.1 }

-- One configuration

last_parts : (h h' behind : History) (e x : Event) → behind ≡ [] → ((behind ≡ []) × (h ≡ h') × (e ≡ x)) ⊎ ((rest : History) × (behind ≡ rest ++ e ∷ []) × (h ≡ h' ++ x ∷ rest)) → (h ≡ h') × (e ≡ x)
last_parts h h' behind e x none (inl l) = (l.1, l.2)
last_parts h h' behind e x none (inr o) = absurd (no_split o.0 e [] (sym none ∙ o.1))

same_last : (h h' : History) (e x : Event) → h ++ e ∷ [] ≡ h' ++ x ∷ [] → (h ≡ h') × (e ≡ x)
same_last h h' e x is = last_parts h h' [] e x refl (split_last h h' [] e x is)

abbrev is_pair : Event → Bool
is_pair (pair ask reply) = true
is_pair (restart cpus budget) = false

abbrev reply_in : Event → Reply
reply_in (pair ask reply) = reply
reply_in (restart cpus budget) = Done

abbrev cpus_of : Event → ℕ
cpus_of (pair ask reply) = 0
cpus_of (restart cpus budget) = cpus

abbrev budget_of : Event → ℕ
budget_of (pair ask reply) = 0
budget_of (restart cpus budget) = budget

module _ (program : Program) where
  -- steps without an ask lead there
  data Reaches : Conf → Conf → Type 0 where
    here : (c : Conf) → Reaches c c
    goes : (c d e : Conf) → Moves program c (Goes d) → Reaches d e → Reaches c e

  reaches_on : (c d e : Conf) → Reaches c d → Moves program d (Goes e) → Reaches c e
  reaches_on _ _ e (Reaches.here c) moves = Reaches.goes c e e moves (Reaches.here e)
  reaches_on _ _ e (Reaches.goes c d f first rest) moves = Reaches.goes c d e first (reaches_on d f e rest moves)

  -- one of two is on the way to the other
  abbrev AreOnOneWay : Conf → Conf → Type 0
  AreOnOneWay c d = Reaches c d ⊎ Reaches d c

  turned : (c d : Conf) → AreOnOneWay c d → AreOnOneWay d c
  turned c d (inl r) = inr r
  turned c d (inr r) = inl r

  further : (c d e : Conf) → Moves program c (Goes d) → Reaches c e → AreOnOneWay d e
  further _ d _ moves (Reaches.here c) = inr (Reaches.goes c d d moves (Reaches.here d))
  further _ d _ moves (Reaches.goes c f e first rest) = inl (subst (λ x. Reaches x e) (one_next program c (Goes f) (Goes d) first moves) rest)

  one_further : (c d e : Conf) → Moves program c (Goes d) → AreOnOneWay c e → AreOnOneWay d e
  one_further c d e moves (inl r) = further c d e moves r
  one_further c d e moves (inr r) = inr (reaches_on e c d r moves)

  -- what doesn't go on by itself reaches nothing else
  at_rest : (c d : Conf) → ((e : Conf) → Moves program c (Goes e) → ⊥) → Reaches c d → c ≡ d
  at_rest _ _ rests (Reaches.here c) = refl
  at_rest _ _ rests (Reaches.goes c e d first rest) = absurd (rests e first)

  both_rest : (c d : Conf) → ((e : Conf) → Moves program c (Goes e) → ⊥) → ((e : Conf) → Moves program d (Goes e) → ⊥) → AreOnOneWay c d → c ≡ d
  both_rest c d c_rests d_rests (inl r) = at_rest c d c_rests r
  both_rest c d c_rests d_rests (inr r) = sym (at_rest d c d_rests r)

  asking_rests : (c : Conf) (ask : Ask) (next : Reply → Conf) → Moves program c (Asks ask next) → (e : Conf) → Moves program c (Goes e) → ⊥
  asking_rests c ask next moves e moves' = one_next program c (Asks ask next) (Goes e) moves moves'

  same_next : (c d : Conf) (ask ask' : Ask) (next next' : Reply → Conf) → Moves program c (Asks ask next) → Moves program d (Asks ask' next') → AreOnOneWay c d → (r : Reply) → next r ≡ next' r
  same_next c d ask ask' next next' moves moves' way r =
      let same = both_rest c d (asking_rests c ask next moves) (asking_rests d ask' next' moves') way in
      (one_next program c (Asks ask next) (Asks ask' next') moves (subst (λ x. Moves program x (Asks ask' next')) (sym same) moves')).1 r

  one_place : (c d : Conf) → c ≡ d → AreOnOneWay c d
  one_place c d is = inl (subst (λ x. Reaches c x) is (Reaches.here c))

  module _ (first : Conf) where
    on_one_way : (h h' : History) (c d : Conf) → Lives program first h c → Lives program first h' d → h ≡ h' → AreOnOneWay c d
    on_one_way h h' _ d (Lives.goes _ c e lives moves) other is = one_further c e d moves (on_one_way h h' c d lives other is)
    on_one_way _ _ c _ Lives.opens (Lives.goes h d e lives moves) is = turned e c (one_further d e c moves (turned c d (on_one_way [] h c d Lives.opens lives is)))
    on_one_way _ _ _ _ Lives.opens Lives.opens is = inl (Reaches.here first)
    on_one_way _ _ _ _ Lives.opens (Lives.asks h d ask next r lives moves answered) is = absurd (no_split h (pair ask r) [] is)
    on_one_way _ _ _ _ Lives.opens (Lives.restarts h d path image next cpus budget lives moves) is = absurd (no_split h _ _ is)
    on_one_way _ _ c _ (Lives.asks h b ask next r lives moves answered) (Lives.goes h' d e others moves') is =
        turned e c (one_further d e c moves' (turned c d (on_one_way (h ++ pair ask r ∷ []) h' c d (Lives.asks h b ask next r lives moves answered) others is)))
    on_one_way _ _ _ _ (Lives.asks h c ask next r lives moves answered) Lives.opens is = absurd (no_split h (pair ask r) [] (sym is))
    on_one_way _ _ _ _ (Lives.asks h c ask next r lives moves answered) (Lives.asks h' d ask' next' r' others moves' answered') is =
        let same = same_last h h' (pair ask r) (pair ask' r') is in
        one_place (next r) (next' r') (same_next c d ask ask' next next' moves moves' (on_one_way h h' c d lives others same.0) r ∙ ap next' (ap reply_in same.1))
    on_one_way _ _ _ _ (Lives.asks h c ask next r lives moves answered) (Lives.restarts h' d path image next' cpus budget others moves') is =
        absurd (false≢true (sym (ap is_pair (same_last h (h' ++ pair (Save path image) Done ∷ []) (pair ask r) (restart cpus budget) (is ∙ sym (append_assoc h' _ _))).1)))
    on_one_way _ _ c _ (Lives.restarts h b path image next cpus budget lives moves) (Lives.goes h' d e others moves') is =
        turned e c (one_further d e c moves' (turned c d (on_one_way (h ++ pair (Save path image) Done ∷ restart cpus budget ∷ []) h' c d (Lives.restarts h b path image next cpus budget lives moves) others is)))
    on_one_way _ _ _ _ (Lives.restarts h c path image next cpus budget lives moves) Lives.opens is = absurd (no_split h _ _ (sym is))
    on_one_way _ _ _ _ (Lives.restarts h c path image next cpus budget lives moves) (Lives.asks h' d ask' next' r' others moves' answered') is =
        absurd (false≢true (ap is_pair (same_last (h ++ pair (Save path image) Done ∷ []) h' (restart cpus budget) (pair ask' r') (append_assoc h _ _ ∙ is)).1))
    on_one_way _ _ _ _ (Lives.restarts h c path image next cpus budget lives moves) (Lives.restarts h' d path' image' next' cpus' budget' others moves') is =
        let last = same_last (h ++ pair (Save path image) Done ∷ []) (h' ++ pair (Save path' image') Done ∷ []) (restart cpus budget) (restart cpus' budget') (append_assoc h _ _ ∙ is ∙ sym (append_assoc h' _ _)) in
        let same = same_last h h' (pair (Save path image) Done) (pair (Save path' image') Done) last.0 in
        let next_same = same_next c d (Save path image) (Save path' image') next next' moves moves' (on_one_way h h' c d lives others same.0) Done in
        one_place _ _ (ap (λ c. revived c cpus budget) next_same ∙ ap (λ n. revived (next' Done) n budget) (ap cpus_of last.1) ∙ ap (λ n. revived (next' Done) cpus' n) (ap budget_of last.1))

pub histories_live_in_one : HistoriesLiveInOne
histories_live_in_one program first c d h lives others = both_rest program c d lives.1 others.1 (on_one_way program first h h c d lives.0 others.0 refl)
