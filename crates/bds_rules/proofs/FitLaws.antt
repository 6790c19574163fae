-- Rules of a file that are fit are those of a table, and the other way round.
use Rattle.std.proofs.Common.{◌≡◌, ℕ, ◌+◌, ◌≤◌, Bool, true, false, not, ◌&&◌, nat_le, List, [], ◌∷◌, ◌++◌, length, Option, Some, None, refl, sym, ap, ◌∙◌, subst, append_assoc, append-nil, arith, rules, if◌then◌else◌}
use Rattle.std.proofs.lemmas.Bool.{false≢true, le-leb, leb-true}
use Rattle.std.proofs.lemmas.List.{length_push, length-append}
use Rattle.std.proofs.lemmas.List.Elements.{All-from_recursion, recursion_from_All}
use Rattle.std.specs.List.{AllByRecursion}
use Rattle.std.specs.Option.{is_some, unwrap_or}
use Rattle.bds_value.specs.declared.TheConstants.{MAX_CPUS, MAX_RETRY}
use Rattle.bds_rules.specs.declared.rule.Rule.{Rule}
use Rattle.bds_rules.specs.Makers.{made_already}
use Rattle.bds_rules.specs.Own.{AreOwn, AreRules, IsLegal, TellsUnfit, first_unfit, is_fit, unfit_behind}
use Rattle.bds_rules.specs.RuleFields.{AreFieldRules, IsFieldRule}

legal_field : (r : Rule) → IsLegal r → IsFieldRule r
legal_field r l = record { outs = l.outs; ins = l.ins; cpus = let h = l.cpus in omega arith; retry = let h = l.retry in omega arith; name = l.name; command = l.command }

all_field : (rules : List Rule) → AllByRecursion IsLegal rules → AllByRecursion IsFieldRule rules
all_field [] a = tt
all_field (r ∷ rules) a = (legal_field r a.0, all_field rules a.1)

pub field_rules : (rules : List Rule) → AreRules rules → AreFieldRules rules
field_rules rules a = record { count = a.count; each = All-from_recursion IsFieldRule rules (all_field rules a.legal) }

pub record Fit (before : List Rule) (r : Rule) : Type 0 where
  pub some_cpus : 1 ≤ r.cpus
  pub cpus : r.cpus ≤ MAX_CPUS
  pub retry : r.retry ≤ MAX_RETRY
  pub own : made_already before r.outs ≡ None

none_where : {X : Type 0} (o : Option X) → not (is_some o) ≡ true → o ≡ None
none_where None e = refl
none_where (Some x) e = elim (false≢true e) [ ]

left : (a b : Bool) → a && b ≡ true → a ≡ true
left true b e = refl
left false b e = e

right : (a b : Bool) → a && b ≡ true → b ≡ true
right true b e = e
right false b e = elim (false≢true e) [ ]

pub fit : (before : List Rule) (r : Rule) → is_fit before r ≡ true → Fit before r
fit before r e =
    let a = left (nat_le 1 r.cpus) _ e in
    let e1 = right (nat_le 1 r.cpus) _ e in
    let b = left (nat_le r.cpus MAX_CPUS) _ e1 in
    let e2 = right (nat_le r.cpus MAX_CPUS) _ e1 in
    let c = left (nat_le r.retry MAX_RETRY) _ e2 in
    let d = right (nat_le r.retry MAX_RETRY) _ e2 in
    record { some_cpus = leb-true 1 r.cpus a; cpus = leb-true r.cpus MAX_CPUS b; retry = leb-true r.retry MAX_RETRY c; own = none_where (made_already before r.outs) d }

Some≢None : (n : ℕ) → ◌≡◌ {A = Option ℕ} (Some n) None → ⊥
Some≢None n e = false≢true (sym (ap is_some e))

fit_then : (before : List Rule) (r : Rule) (o : Option ℕ) (n : ℕ) → (if is_fit before r then o else Some n) ≡ None → (is_fit before r ≡ true) × (o ≡ None)
fit_then before r o n = go (is_fit before r)
  where
    go : (b : Bool) → (if b then o else Some n) ≡ None → (b ≡ true) × (o ≡ None)
    go true e = (refl, e)
    go false e = elim (Some≢None n e) [ ]

all_fit : (before rules : List Rule) → AllByRecursion IsFieldRule rules → unfit_behind before rules ≡ None → AllByRecursion IsLegal rules × AreOwn before rules
all_fit before [] a e = (tt, tt)
all_fit before (r ∷ rules) a e =
    let h = fit_then before r (unfit_behind (before ++ r ∷ []) rules) (length before + 1) e in
    let f = fit before r h.0 in
    let more = all_fit (before ++ r ∷ []) rules a.1 h.1 in
    ((record { outs = a.0.outs; ins = a.0.ins; some_cpus = f.some_cpus; cpus = f.cpus; retry = f.retry; name = a.0.name; command = a.0.command }, more.0), (f.own, more.1))

pub fit_rules : (rules : List Rule) → AreFieldRules rules → first_unfit rules ≡ None → AreRules rules
fit_rules rules a e =
    let h = all_fit [] rules (recursion_from_All IsFieldRule rules a.each) e in
    record { count = a.count; legal = h.0; own = h.1 }

-- a legal rule that makes no file of these is fit

both : (a b : Bool) → a ≡ true → b ≡ true → a && b ≡ true
both true b e f = f
both false b e f = e

none_is : {X : Type 0} (o : Option X) → o ≡ None → not (is_some o) ≡ true
none_is o e = ap (λ p. not (is_some p)) e

legal_fit : (before : List Rule) (r : Rule) → IsLegal r → made_already before r.outs ≡ None → is_fit before r ≡ true
legal_fit before r l own =
    both (nat_le 1 r.cpus) _ (le-leb 1 r.cpus l.some_cpus)
    (both (nat_le r.cpus MAX_CPUS) _ (le-leb r.cpus MAX_CPUS l.cpus)
    (both (nat_le r.retry MAX_RETRY) _ (le-leb r.retry MAX_RETRY l.retry) (none_is (made_already before r.outs) own)))

-- behind some rules, the first that is unfit
record UnfitBehind (before rules : List Rule) (n : ℕ) : Type 0 where
  more : List Rule
  rule : Rule
  behind : List Rule
  split : rules ≡ more ++ rule ∷ behind
  number : n ≡ length before + length more + 1
  legal : AllByRecursion IsLegal more
  own : AreOwn before more
  unfit : IsLegal rule → made_already (before ++ more) rule.outs ≡ None → ⊥

Some-same : (m n : ℕ) → ◌≡◌ {A = Option ℕ} (Some m) (Some n) → m ≡ n
Some-same m n e = ap (λ o. unwrap_or o m) e

unfit_first : (before rules : List Rule) (n : ℕ) → AllByRecursion IsFieldRule rules → unfit_behind before rules ≡ Some n → UnfitBehind before rules n
unfit_first before [] n a e = elim (Some≢None n (sym e)) [ ]
unfit_first before (r ∷ rules) n a e = go (is_fit before r) refl (λ d. unfit_first (before ++ r ∷ []) rules n a.1 d) e
  where
    go : (b : Bool) → is_fit before r ≡ b → (unfit_behind (before ++ r ∷ []) rules ≡ Some n → UnfitBehind (before ++ r ∷ []) rules n) → (if b then unfit_behind (before ++ r ∷ []) rules else Some (length before + 1)) ≡ Some n → UnfitBehind before (r ∷ rules) n
    go true f told d =
        let u = told d in
        let h = fit before r f in
        let long : length (before ++ r ∷ []) ≡ length before + 1 = length_push before r in
        let joined : (before ++ r ∷ []) ++ u.more ≡ before ++ (r ∷ u.more) = append_assoc before (r ∷ []) u.more in
        record {
          more = r ∷ u.more;
          rule = u.rule;
          behind = u.behind;
          split = ap (λ l. r ∷ l) u.split;
          number = omega (arith, u.number, long);
          legal = (record { outs = a.0.outs; ins = a.0.ins; some_cpus = h.some_cpus; cpus = h.cpus; retry = h.retry; name = a.0.name; command = a.0.command }, u.legal);
          own = (h.own, u.own);
          unfit = λ l own. u.unfit l (subst (λ b. made_already b u.rule.outs ≡ None) (sym joined) own);
        }
    go false f told d =
        let number : length before + 1 ≡ n = Some-same (length before + 1) n d in
        record {
          more = [];
          rule = r;
          behind = rules;
          split = refl;
          number = omega (arith, number);
          legal = tt;
          own = tt;
          unfit = λ l own. false≢true (sym f ∙ legal_fit before r l (subst (λ b. made_already b r.outs ≡ None) (append-nil before) own));
        }

pub unfit_told : (rules : List Rule) → AreFieldRules rules → TellsUnfit rules
unfit_told rules a = record {
  none = λ e. fit_rules rules a e;
  first = λ n e.
      let u = unfit_first [] rules n (recursion_from_All IsFieldRule rules a.each) e in
      let long : length rules ≡ length u.more + length (u.rule ∷ u.behind) = ap length u.split ∙ length-append u.more (u.rule ∷ u.behind) in
      record {
        before = u.more;
        rule = u.rule;
        behind = u.behind;
        split = u.split;
        number = omega (arith, u.number);
        fit = record { count = let h = a.count in omega arith; legal = u.legal; own = u.own };
        unfit = u.unfit;
      };
}
