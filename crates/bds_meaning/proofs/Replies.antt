-- A run is a function of its replies.
use Rattle.std.proofs.Common.{◌≡◌, ◌∙◌, ℕ, suc, List, [], ◌∷◌, ◌++◌, append_assoc, Option, Some, sym, ap, refl, subst}
use Rattle.std.proofs.lemmas.List.{map-append}
use Rattle.bds_value.specs.Options.{◌>>=◌}
use Rattle.bds_host.specs.declared.asks.Ask.{Ask}
use Rattle.bds_host.specs.declared.asks.Reply.{Reply}
use Rattle.bds_host.specs.Host.{Log}
use Rattle.bds_schedule.specs.Determined.{IsSameAsk, AreSameAsks, IsSameStep, asks_of, replies_of}
use Rattle.bds_meaning.specs.Determined.{Walked, stepped, walked, IsWalked}
use Rattle.bds_meaning.specs.Run.{Program, Conf, Moves, source_move}
use Rattle.bds_schedule.specs.Stages.{End}
use Rattle.bds_schedule.specs.Steps.{Step, Goes, Asks, Ends, Leads}
use Rattle.bds_meaning.proofs.OneNext.{same_source_move}

same_with_last : (xs ys : List Ask) (a b : Ask) → AreSameAsks xs ys → IsSameAsk a b → AreSameAsks (xs ++ a ∷ []) (ys ++ b ∷ [])
same_with_last [] [] a b same last = (last, tt)
same_with_last (x ∷ xs) (y ∷ ys) a b same last = (same.0, same_with_last xs ys a b same.1 last)
same_with_last [] (y ∷ ys) a b same last = absurd same
same_with_last (x ∷ xs) [] a b same last = absurd same

abbrev at_with : Conf → List Reply → List Ask → Option Walked
at_with c left asked = Some (record { at = c; left = left; asked = asked })

module _ (program : Program) where
  same_as : (bytes : List ℕ) (c : Conf) (s : Step Conf End) → source_move program bytes c ≡ s → IsSameStep (source_move program [] c) s
  same_as bytes c s is = subst (λ u. IsSameStep (source_move program [] c) u) is (same_source_move program [] bytes c)

  goes_on : (c d : Conf) (left : List Reply) (asked : List Ask) (s : Step Conf End) → IsSameStep s (Goes d) → stepped program (record { at = c; left = left; asked = asked }) s ≡ at_with d left asked
  goes_on c d left asked (Goes e) same = ap (λ e. at_with e left asked) same
  goes_on c d left asked (Asks a next) same = absurd same
  goes_on c d left asked (Ends e) same = absurd same

  goes_walked : (from c d : Conf) (pairs : Log) → IsWalked program from pairs c → IsSameStep (source_move program [] c) (Goes d) → IsWalked program from pairs d
  goes_walked from c d pairs w same = record {
    steps = suc w.steps;
    asked = w.asked;
    same = w.same;
    walked = λ rest. ap (λ o. o >>= λ v. stepped program v (source_move program [] v.at)) (w.walked rest) ∙ goes_on c d rest w.asked (source_move program [] c) same;
  }

  replies_with : (pairs : Log) (ask : Ask) (reply : Reply) (rest : List Reply) → replies_of (pairs ++ (ask, reply) ∷ []) ++ rest ≡ replies_of pairs ++ (reply ∷ rest)
  replies_with pairs ask reply rest = ap (λ l. l ++ rest) (map-append (λ p. p.1) pairs ((ask, reply) ∷ [])) ∙ append_assoc (replies_of pairs) (reply ∷ []) rest

  asks_walked_by : (from c : Conf) (pairs : Log) (ask : Ask) (next : Reply → Conf) (reply : Reply) (s : Step Conf End) → IsWalked program from pairs c → source_move program [] c ≡ s → IsSameStep s (Asks ask next) → IsWalked program from (pairs ++ (ask, reply) ∷ []) (next reply)
  asks_walked_by from c pairs ask next reply (Goes d) w is same = absurd same
  asks_walked_by from c pairs ask next reply (Ends e) w is same = absurd same
  asks_walked_by from c pairs ask next reply (Asks a next') w is same = record {
    steps = suc w.steps;
    asked = w.asked ++ a ∷ [];
    same = subst (λ l. AreSameAsks (w.asked ++ a ∷ []) l) (sym (map-append (λ p. p.0) pairs ((ask, reply) ∷ []))) (same_with_last w.asked (asks_of pairs) a ask w.same same.0);
    walked = λ rest.
        ap (λ l. walked program w.steps from l >>= λ v. stepped program v (source_move program [] v.at)) (replies_with pairs ask reply rest)
        ∙ ap (λ o. o >>= λ v. stepped program v (source_move program [] v.at)) (w.walked (reply ∷ rest))
        ∙ ap (λ u. stepped program (record { at = c; left = reply ∷ rest; asked = w.asked }) u) is
        ∙ ap (λ d. at_with d rest (w.asked ++ a ∷ [])) (same.1 reply);
  }

  asks_walked : (from c : Conf) (pairs after : Log) (ask : Ask) (next : Reply → Conf) (reply : Reply) → IsWalked program from pairs c → IsSameStep (source_move program [] c) (Asks ask next) → after ≡ pairs ++ (ask, reply) ∷ [] → IsWalked program from after (next reply)
  asks_walked from c pairs after ask next reply w same grown =
      subst (λ l. IsWalked program from l (next reply)) (sym grown) (asks_walked_by from c pairs ask next reply (source_move program [] c) w refl same)

  pub walks : (from to : Conf) (pairs : Log) → Leads (Moves program) from [] to pairs → IsWalked program from pairs to
  walks from _ _ Leads.here = record { steps = 0; asked = []; same = tt; walked = λ rest. refl }
  walks from _ _ (Leads.goes c d log leads (bytes, is)) = goes_walked from c d log (walks from c log leads) (same_as bytes c (Goes d) is)
  walks from _ _ (Leads.asks c log after ask next reply leads (bytes, is) answered) =
      asks_walked from c log after ask next reply (walks from c log leads) (same_as bytes c (Asks ask next) is) answered.grown
