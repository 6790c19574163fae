-- A rule that is declared keeps what a table asks.
use Rattle.std.proofs.Common.{◌≡◌, ◌<◌, ◌++◌, ◌∷◌, [], List, None, length, sym, subst, arith, append-nil, append_assoc}
use Rattle.std.proofs.lemmas.List.{length_push}
use Rattle.std.specs.List.{AllByRecursion}
use Rattle.bds_value.specs.declared.TheConstants.{MAX_RULES}
use Rattle.bds_rules.specs.declared.rule.Rule.{Rule}
use Rattle.bds_rules.specs.Makers.{made_already}
use Rattle.bds_rules.specs.Own.{AreOwn, AreRules, IsLegal}

own_more : (before rules : List Rule) (r : Rule) → AreOwn before rules → made_already (before ++ rules) r.outs ≡ None → AreOwn before (rules ++ r ∷ [])
own_more before [] r a e = (subst (λ xs. made_already xs r.outs ≡ None) (append-nil before) e, tt)
own_more before (x ∷ rules) r a e = (a.0, own_more (before ++ x ∷ []) rules r a.1 (subst (λ xs. made_already xs r.outs ≡ None) (sym (append_assoc before (x ∷ []) rules)) e))

legal_more : (rules : List Rule) (r : Rule) → AllByRecursion IsLegal rules → IsLegal r → AllByRecursion IsLegal (rules ++ r ∷ [])
legal_more [] r a l = (l, tt)
legal_more (x ∷ rules) r a l = (a.0, legal_more rules r a.1 l)

pub declares_own : (rules : List Rule) (r : Rule) → AreRules rules → length rules < MAX_RULES → made_already rules r.outs ≡ None → IsLegal r → AreRules (rules ++ r ∷ [])
declares_own rules r a room none l = record {
  count = let e = length_push rules r in omega arith;
  legal = legal_more rules r a.legal l;
  own = own_more [] rules r a.own none;
}
