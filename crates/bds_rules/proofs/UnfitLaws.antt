-- The first rule that isn't fit, and each one before it, which is.
use Rattle.std.proofs.Common.{◌≡◌, ℕ, zero, suc, ◌+◌, ◌-◌, ◌<◌, ◌≤◌, List, [], ◌∷◌, ◌++◌, length, slice_get, take, Option, Some, None, refl, sym, ap, ◌∙◌, subst, arith, append-nil, append_assoc}
use Rattle.std.proofs.lemmas.List.{take-append-le}
use Rattle.std.proofs.Math.Seq.{take-append_seam}
use Rattle.std.specs.List.{AllByRecursion}
use Rattle.bds_rules.specs.declared.rule.Rule.{Rule}
use Rattle.bds_rules.specs.Makers.{made_already, rule_at}
use Rattle.bds_rules.specs.Own.{AreOwn, AreRules, IsLegal, first_unfit}
use Rattle.bds_rules.specs.RuleFields.{AreFieldRules}
use Rattle.bds_rules.proofs.FitLaws.{unfit_told}

-- a rule that may stand behind these
pub record IsBehind (before : List Rule) (r : Rule) : Type 0 where
  pub legal : IsLegal r
  pub own : made_already before r.outs ≡ None

legal_from : (rs : List Rule) (k : ℕ) (r : Rule) → AllByRecursion IsLegal rs → slice_get rs k ≡ Some r → IsLegal r
legal_from [] k r a e = absurd (let none : ◌≡◌ {A = Option Rule} None (Some r) = e in cc)
legal_from (x ∷ rs) zero r a e = let same : x ≡ r = cc in subst IsLegal same a.0
legal_from (x ∷ rs) (suc k) r a e = legal_from rs k r a.1 e

own_from : (before rs : List Rule) (k : ℕ) (r : Rule) → AreOwn before rs → slice_get rs k ≡ Some r → made_already (before ++ take k rs) r.outs ≡ None
own_from before [] k r a e = absurd (let none : ◌≡◌ {A = Option Rule} None (Some r) = e in cc)
own_from before (x ∷ rs) zero r a e =
    let same : x ≡ r = cc in
    subst (λ xs. made_already xs r.outs ≡ None) (sym (append-nil before)) (subst (λ (y : Rule). made_already before y.outs ≡ None) same a.0)
own_from before (x ∷ rs) (suc k) r a e = subst (λ xs. made_already xs r.outs ≡ None) (append_assoc before (x ∷ []) (take k rs)) (own_from (before ++ x ∷ []) rs k r a.1 e)

-- rule n of a table
pub behind_at : (rs : List Rule) (n : ℕ) (r : Rule) → AreRules rs → rule_at rs n ≡ Some r → IsBehind (take (n - 1) rs) r
behind_at rs n r a e = record { legal = legal_from rs (n - 1) r a.legal e; own = own_from [] rs (n - 1) r a.own e }

get_seam : (xs : List Rule) (y : Rule) (ys : List Rule) → slice_get (xs ++ y ∷ ys) (length xs) ≡ Some y
get_seam [] y ys = refl
get_seam (x ∷ xs) y ys = get_seam xs y ys

get_front : (xs ys : List Rule) (k : ℕ) → k < length xs → slice_get (xs ++ ys) k ≡ slice_get xs k
get_front [] ys k l = absurd (omega (arith, l))
get_front (x ∷ xs) ys zero l = refl
get_front (x ∷ xs) ys (suc k) l = get_front xs ys k (omega (arith, l))

pub record IsFirstUnfit (rs : List Rule) (n : ℕ) : Type 0 where
  pub number : 1 ≤ n
  pub rule : Rule
  pub there : rule_at rs n ≡ Some rule
  pub bad : IsBehind (take (n - 1) rs) rule → ⊥
  pub earlier : (k : ℕ) (r : Rule) → 1 ≤ k → k < n → rule_at rs k ≡ Some r → IsBehind (take (k - 1) rs) r

pub first_unfit_rule : (rs : List Rule) (n : ℕ) → AreFieldRules rs → first_unfit rs ≡ Some n → IsFirstUnfit rs n
first_unfit_rule rs n f e =
    let u = (unfit_told rs f).first n e in
    let far : n ≡ length u.before + 1 = u.number in
    let here : n - 1 ≡ length u.before = omega (arith, far) in
    let front : take (n - 1) rs ≡ u.before = ap (λ k. take k rs) here ∙ ap (take (length u.before)) u.split ∙ take-append_seam u.before (u.rule ∷ u.behind) in
    record {
      number = omega (arith, far);
      rule = u.rule;
      there = ap (slice_get rs) here ∙ ap (λ xs. slice_get xs (length u.before)) u.split ∙ get_seam u.before u.rule u.behind;
      bad = λ h. u.unfit h.legal (subst (λ xs. made_already xs u.rule.outs ≡ None) front h.own);
      earlier = λ k r o l d.
          let less : k - 1 < length u.before = omega (arith, far, l, o) in
          let is : rule_at u.before k ≡ Some r = sym (get_front u.before (u.rule ∷ u.behind) (k - 1) less) ∙ ap (λ xs. slice_get xs (k - 1)) (sym u.split) ∙ d in
          let same : take (k - 1) u.before ≡ take (k - 1) rs = sym (take-append-le (k - 1) u.before (u.rule ∷ u.behind) (omega (arith, less))) ∙ ap (take (k - 1)) (sym u.split) in
          subst (λ xs. IsBehind xs r) same (behind_at u.before k r u.fit is);
    }
