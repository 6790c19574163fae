-- What is found in an index of files, and what is there behind one more; which rules an index finds fit.
use Rattle.std.proofs.Common.{◌≡◌, ◌++◌, is_some, not, ◌&&◌, nat_le, rules, arith, ℕ, ◌+◌, List, [], ◌∷◌, length, take, drop, get_or, ◌<◌, ◌≤◌, suc, Bool, true, false, ◌||◌, Option, Some, None, Vec, refl, sym, subst, cond, ap, ◌∙◌, if◌then◌else◌}
use Rattle.std.specs.Global.{Global}
use Rattle.std.specs.Str.{bytes_eq}
use Rattle.std.specs.Map.{lookup}
use Rattle.std.specs.Option.{option_or, unwrap_or}
use Rattle.std.proofs.lemmas.Slice.Eq.{bytes_eq-Decides}
use Rattle.std.proofs.lemmas.List.{drop_more, length-take-le}
use Rattle.std.proofs.Math.Seq.{take-append_seam, take-suc}
use Rattle.bds_value.specs.declared.TheConstants.{MAX_CPUS, MAX_RETRY}
use Rattle.bds_rules.specs.declared.rule.Rule.{Rule}
use Rattle.bds_rules.specs.Makers.{is_among, maker, maker_from, made_already, made_by}
use Rattle.bds_rules.specs.Own.{first_unfit, is_fit, unfit_behind}
use Rattle.bds_rules.specs.Indexes.{AreMakers, are_new, is_fit_in, number_if, number_in, number_of_one}

module _ {K X : Type 0} (name : K → List ℕ) where
  push_here : (x : List ℕ) (e : K × X) (es : List (K × X)) (k : K) (v : X) (b : Bool) → bytes_eq x (name e.0) ≡ b →
      lookup (λ k. bytes_eq x (name k)) (es ++ (k, v) ∷ []) ≡ option_or (lookup (λ k. bytes_eq x (name k)) es) (if bytes_eq x (name k) then Some v else None) →
      lookup (λ k. bytes_eq x (name k)) (e ∷ es ++ (k, v) ∷ []) ≡ option_or (lookup (λ k. bytes_eq x (name k)) (e ∷ es)) (if bytes_eq x (name k) then Some v else None)
  push_here x e es k v true q h = rw q refl
  push_here x e es k v false q h = rw q h

  only : (b : Bool) (v : X) → cond b (Some v) None ≡ (if b then Some v else None)
  only true v = refl
  only false v = refl

  pub lookup_push : (x : List ℕ) (es : List (K × X)) (k : K) (v : X) →
      lookup (λ k. bytes_eq x (name k)) (es ++ (k, v) ∷ []) ≡ option_or (lookup (λ k. bytes_eq x (name k)) es) (if bytes_eq x (name k) then Some v else None)
  lookup_push x [] k v = only (bytes_eq x (name k)) v
  lookup_push x (e ∷ es) k v = push_here x e es k v (bytes_eq x (name e.0)) refl (lookup_push x es k v)

  stays_at : (o : Option X) (b : Bool) (v : X) → (b ≡ true → is_some o ≡ true) → o ≡ option_or o (if b then Some v else None)
  stays_at (Some t) b v h = refl
  stays_at None false v h = refl
  stays_at None true v h = absurd (search (rules, h refl))

  -- a name that has an entry keeps it
  pub stays : (x y : List ℕ) (es : List (K × X)) (v : X) → is_some (lookup (λ k. bytes_eq y (name k)) es) ≡ true →
      lookup (λ k. bytes_eq x (name k)) es ≡ option_or (lookup (λ k. bytes_eq x (name k)) es) (if bytes_eq x y then Some v else None)
  stays x y es v there =
      stays_at (lookup (λ k. bytes_eq x (name k)) es) (bytes_eq x y) v
      (λ q. subst (λ z. is_some (lookup (λ k. bytes_eq z (name k)) es) ≡ true) (sym ((bytes_eq-Decides x y).0 q)) there)

  pub none_of : (o : Option X) (b : Bool) → b ≡ is_some o → b ≡ false → o ≡ None
  none_of None b q r = refl
  none_of (Some t) b q r = absurd (search (rules, q, r))

same_bool : (a b : Bool) → (a ≡ true → b ≡ true) → (b ≡ true → a ≡ true) → a ≡ b
same_bool true b f g = sym (f refl)
same_bool false true f g = g refl
same_bool false false f g = refl

pub swapped : (a b : List ℕ) → bytes_eq a b ≡ bytes_eq b a
swapped a b = same_bool (bytes_eq a b) (bytes_eq b a)
    (λ e. (bytes_eq-Decides b a).1 (sym ((bytes_eq-Decides a b).0 e)))
    (λ e. (bytes_eq-Decides a b).1 (sym ((bytes_eq-Decides b a).0 e)))

pub or_none : (a : Option ℕ) → option_or a None ≡ a
or_none None = refl
or_none (Some t) = refl

pub step_at : (a : Option ℕ) (b : Bool) (n : ℕ) (o : Option ℕ) → option_or (option_or a (if b then Some n else None)) o ≡ option_or a (if b then Some n else o)
step_at (Some t) b n o = refl
step_at None true n o = refl
step_at None false n o = refl

file_at : (a : Option ℕ) (b c : Bool) (n : ℕ) → option_or (option_or a (if b then Some n else None)) (if c then Some n else None) ≡ option_or a (if b || c then Some n else None)
file_at (Some t) b c n = refl
file_at None true c n = refl
file_at None false c n = refl

pub file_step : (x : List ℕ) (a : Option ℕ) (f : List ℕ) (fs : List (List ℕ)) (n : ℕ) →
    option_or (option_or a (number_of_one x f n)) (number_if fs n x) ≡ option_or a (number_if (f ∷ fs) n x)
file_step x a f fs n =
    file_at a (bytes_eq x f) (is_among fs x) n
    ∙ ap (λ (b : Bool). option_or a (if b || is_among fs x then Some n else None)) (swapped x f)

-- one more rule at the end

number_at : (b : Bool) (m n : ℕ) → m ≡ n → (if b then Some m else None) ≡ option_or None (if b then Some n else None)
number_at true m n e = ap Some e
number_at false m n e = refl

pushed_at : (b : Bool) (n : ℕ) (o p q : Option ℕ) → p ≡ option_or o q → (if b then Some n else p) ≡ option_or (if b then Some n else o) q
pushed_at true n o p q e = refl
pushed_at false n o p q e = e

maker_push : (k : ℕ) (before : List Rule) (r : Rule) (x : List ℕ) (n : ℕ) → n ≡ k + length before → maker_from k (before ++ r ∷ []) x ≡ option_or (maker_from k before x) (number_if r.outs n x)
maker_push k [] r x n e = number_at (is_among r.outs x) k n (omega (arith, e))
maker_push k (b ∷ before) r x n e =
    pushed_at (is_among b.outs x) k (maker_from (k + 1) before x) (maker_from (k + 1) (before ++ r ∷ []) x) (number_if r.outs n x)
    (maker_push (k + 1) before r x n (omega (arith, e)))

pub more_makers : (before : List Rule) (r : Rule) (es new : List (Vec ℕ Global × ℕ)) (n : ℕ) → n ≡ length before + 1 → AreMakers before es
    → ((x : List ℕ) → number_in new x ≡ option_or (number_in es x) (number_if r.outs n x)) → AreMakers (before ++ r ∷ []) new
more_makers before r es new n e h step x =
    step x ∙ ap (λ o. option_or o (number_if r.outs n x)) (h x) ∙ sym (maker_push 1 before r x n (omega (arith, e)))

get_last : (before : List Rule) (r d : Rule) → get_or (before ++ r ∷ []) (length before) d ≡ r
get_last [] r d = refl
get_last (b ∷ before) r d = get_last before r d

-- an index of some rules that has the files of one more is one of all of them
pub more_known : (before rules : List Rule) (r at : Rule) (files : List (List ℕ)) (es new : List (Vec ℕ Global × ℕ)) → rules ≡ before ++ r ∷ [] → at ≡ get_or rules (length before) at → files ≡ at.outs
    → AreMakers before es → ((x : List ℕ) → number_in new x ≡ option_or (number_in es x) (number_if files (length before + 1) x)) → AreMakers rules new
more_known before rules r at files es new all is same known more =
    let last : at ≡ r = is ∙ ap (λ rs. get_or rs (length before) at) all ∙ get_last before r at in
    let outs : files ≡ r.outs = same ∙ ap (λ (x : Rule). x.outs) last in
    subst (λ rs. AreMakers rs new) (sym all)
    (more_makers before r es new (length before + 1) refl known (λ x. more x ∙ ap (λ (fs : List (List ℕ)). option_or (number_in es x) (number_if fs (length before + 1) x)) outs))

-- what stood in a list stands in front of what it became, and of what that became

pub kept_pushed : {X : Type 0} (old new : List X) (x : X) → new ≡ old ++ x ∷ [] → take (length old) new ≡ old
kept_pushed old new x e = ap (take (length old)) e ∙ take-append_seam old (x ∷ [])

pub kept_on : {X : Type 0} (old between new : List X) → take (length old) between ≡ old → take (length between) new ≡ between → take (length old) new ≡ old
kept_on {X = X} [] between new e f = refl
kept_on {X = X} (x ∷ old) [] new e f = absurd (let none : ◌≡◌ {A = List X} [] (x ∷ old) = e in cc)
kept_on {X = X} (x ∷ old) (y ∷ between) [] e f = absurd (let none : ◌≡◌ {A = List X} [] (y ∷ between) = f in cc)
kept_on {X = X} (x ∷ old) (y ∷ between) (z ∷ new) e f =
    let first : y ∷ take (length old) between ≡ x ∷ old = e in
    let second : z ∷ take (length between) new ≡ y ∷ between = f in
    let front : take (length old) between ≡ old = cc in
    let behind : take (length between) new ≡ between = cc in
    let same : z ≡ x = cc in
    ap (λ y. y ∷ take (length old) new) same ∙ ap (λ ys. x ∷ ys) (kept_on old between new front behind)

-- only a rule that is there makes a file

few_from : (k : ℕ) (rules : List Rule) (x : List ℕ) (n : ℕ) → maker_from k rules x ≡ Some n → n < k + length rules
few_from k [] x n e = absurd (let none : ◌≡◌ {A = Option ℕ} None (Some n) = e in cc)
few_from k (r ∷ rs) x n e = go (is_among r.outs x) (few_from (k + 1) rs x n) e
  where
    go : (b : Bool) → (maker_from (k + 1) rs x ≡ Some n → n < k + 1 + length rs) → (if b then Some k else maker_from (k + 1) rs x) ≡ Some n → n < k + length (r ∷ rs)
    go true more d = let same : k ≡ n = ap (λ (o : Option ℕ). unwrap_or o k) d in omega (arith, same)
    go false more d = let less : n < k + 1 + length rs = more d in omega (arith, less)

pub maker_few : (rules : List Rule) (x : List ℕ) (n : ℕ) → maker rules x ≡ Some n → n ≤ length rules
maker_few rules x n e = let less : n < 1 + length rules = few_from 1 rules x n e in omega (arith, less)

-- a rule is fit where the index finds it so

new_at : (es : List (Vec ℕ Global × ℕ)) (before : List Rule) (f : List ℕ) (files : List (List ℕ)) (o : Option ℕ) → are_new es files ≡ not (is_some (made_already before files))
    → not (is_some o) && are_new es files ≡ not (is_some (made_by f o (made_already before files)))
new_at es before f files None more = more
new_at es before f files (Some n) more = refl

new_is : (before : List Rule) (es : List (Vec ℕ Global × ℕ)) → AreMakers before es → (files : List (List ℕ)) → are_new es files ≡ not (is_some (made_already before files))
new_is before es h [] = refl
new_is before es h (f ∷ files) = ap (λ (o : Option ℕ). not (is_some o) && are_new es files) (h f) ∙ new_at es before f files (maker before f) (new_is before es h files)

pub fit_in : (before : List Rule) (es : List (Vec ℕ Global × ℕ)) (r : Rule) → AreMakers before es → is_fit_in es r ≡ is_fit before r
fit_in before es r h = ap (λ (b : Bool). nat_le 1 r.cpus && (nat_le r.cpus MAX_CPUS && (nat_le r.retry MAX_RETRY && b))) (new_is before es h r.outs)

pub fit_step : (before rest : List Rule) (r : Rule) (o : Option ℕ) → is_fit before r ≡ true → unfit_behind before (r ∷ rest) ≡ o → unfit_behind (before ++ r ∷ []) rest ≡ o
fit_step before rest r o = go (is_fit before r)
  where
    go : (b : Bool) → b ≡ true → (if b then unfit_behind (before ++ r ∷ []) rest else Some (length before + 1)) ≡ o → unfit_behind (before ++ r ∷ []) rest ≡ o
    go true e h = h
    go false e h = absurd (search (rules, e))

pub unfit_step : (before rest : List Rule) (r : Rule) (o : Option ℕ) → is_fit before r ≡ false → unfit_behind before (r ∷ rest) ≡ o → Some (length before + 1) ≡ o
unfit_step before rest r o = go (is_fit before r)
  where
    go : (b : Bool) → b ≡ false → (if b then unfit_behind (before ++ r ∷ []) rest else Some (length before + 1)) ≡ o → Some (length before + 1) ≡ o
    go false e h = h
    go true e h = absurd (search (rules, e))

-- over a list, from one item to the next

pub split_at : {X : Type 0} (xs : List X) (i : ℕ) (x : X) → i < length xs → x ≡ get_or xs i x → drop i xs ≡ x ∷ drop (i + 1) xs
split_at xs i x l is = drop_more xs i x l ∙ ap (λ y. y ∷ drop (i + 1) xs) (sym is)

taken_at : {X : Type 0} (xs : List X) (i : ℕ) (x : X) → i < length xs → x ≡ get_or xs i x → take (i + 1) xs ≡ take i xs ++ x ∷ []
taken_at xs i x l is =
    let next : i + 1 ≡ suc i = omega arith in
    ap (λ k. take k xs) next ∙ take-suc xs i x l ∙ ap (λ y. take i xs ++ y ∷ []) (sym is)

pub files_on : (files : List (List ℕ)) (i n : ℕ) (f g x : List ℕ) (a b whole : Option ℕ) → i < length files → f ≡ get_or files i f → g ≡ f → b ≡ option_or a (number_of_one x g n)
    → option_or a (number_if (drop i files) n x) ≡ whole → option_or b (number_if (drop (i + 1) files) n x) ≡ whole
files_on files i n f g x a b whole l is same step all =
    ap (λ o. option_or o (number_if (drop (i + 1) files) n x)) (step ∙ ap (λ y. option_or a (number_of_one x y n)) same)
    ∙ file_step x a f (drop (i + 1) files) n
    ∙ ap (λ fs. option_or a (number_if fs n x)) (sym (split_at files i f l is))
    ∙ all

first_new : (es : List (Vec ℕ Global × ℕ)) (files : List (List ℕ)) (i : ℕ) (f g : List ℕ) (b c whole : Bool) → i < length files → f ≡ get_or files i f → g ≡ f → b ≡ is_some (number_in es g) → b ≡ c
    → are_new es (drop i files) ≡ whole → not c && are_new es (drop (i + 1) files) ≡ whole
first_new es files i f g b c whole l is same there e all =
    let found : is_some (number_in es f) ≡ c = ap (λ y. is_some (number_in es y)) (sym same) ∙ sym there ∙ e in
    ap (λ (d : Bool). not d && are_new es (drop (i + 1) files)) (sym found) ∙ ap (are_new es) (sym (split_at files i f l is)) ∙ all

pub new_on : (es : List (Vec ℕ Global × ℕ)) (files : List (List ℕ)) (i : ℕ) (f g : List ℕ) (b whole : Bool) → i < length files → f ≡ get_or files i f → g ≡ f → b ≡ is_some (number_in es g) → b ≡ false
    → are_new es (drop i files) ≡ whole → are_new es (drop (i + 1) files) ≡ whole
new_on es files i f g b whole = first_new es files i f g b false whole

pub new_stops : (es : List (Vec ℕ Global × ℕ)) (files : List (List ℕ)) (i : ℕ) (f g : List ℕ) (b whole : Bool) → i < length files → f ≡ get_or files i f → g ≡ f → b ≡ is_some (number_in es g) → b ≡ true
    → are_new es (drop i files) ≡ whole → false ≡ whole
new_stops es files i f g b whole = first_new es files i f g b true whole

-- the judge has seen the first i rules, and found none unfit
abbrev pub Judged : List Rule → ℕ → List (Vec ℕ Global × ℕ) → Type 0
Judged rules i es = AreMakers (take i rules) es × (unfit_behind (take i rules) (drop i rules) ≡ first_unfit rules)

rest_at : (rules : List Rule) (i : ℕ) (r : Rule) (es : List (Vec ℕ Global × ℕ)) → i < length rules → r ≡ get_or rules i r → Judged rules i es → unfit_behind (take i rules) (r ∷ drop (i + 1) rules) ≡ first_unfit rules
rest_at rules i r es l is j = ap (unfit_behind (take i rules)) (sym (split_at rules i r l is)) ∙ j.1

fit_at : (rules : List Rule) (i : ℕ) (r : Rule) (es : List (Vec ℕ Global × ℕ)) (b c : Bool) → Judged rules i es → b ≡ is_fit_in es r → b ≡ c → is_fit (take i rules) r ≡ c
fit_at rules i r es b c j is e = sym (fit_in (take i rules) es r j.0) ∙ sym is ∙ e

pub judged_on : (rules : List Rule) (i : ℕ) (r : Rule) (es new : List (Vec ℕ Global × ℕ)) (outs : List (List ℕ)) (b : Bool) → i < length rules → r ≡ get_or rules i r → b ≡ is_fit_in es r → b ≡ true
    → outs ≡ r.outs → ((x : List ℕ) → number_in new x ≡ option_or (number_in es x) (number_if outs (i + 1) x)) → Judged rules i es → Judged rules (i + 1) new
judged_on rules i r es new outs b l is fits true_is same step j =
    let here : take (i + 1) rules ≡ take i rules ++ r ∷ [] = taken_at rules i r l is in
    let within : i ≤ length rules = omega (arith, l) in
    let long : length (take i rules) ≡ i = length-take-le i rules within in
    let fine : is_fit (take i rules) r ≡ true = fit_at rules i r es b true j fits true_is in (
      subst (λ xs. AreMakers xs new) (sym here) (more_makers (take i rules) r es new (i + 1) (omega (arith, long)) j.0 (λ x. step x ∙ ap (λ (fs : List (List ℕ)). option_or (number_in es x) (number_if fs (i + 1) x)) same)),
      subst (λ xs. unfit_behind xs (drop (i + 1) rules) ≡ first_unfit rules) (sym here) (fit_step (take i rules) (drop (i + 1) rules) r (first_unfit rules) fine (rest_at rules i r es l is j)),
    )

pub judged_stops : (rules : List Rule) (i : ℕ) (r : Rule) (es : List (Vec ℕ Global × ℕ)) (b : Bool) → i < length rules → r ≡ get_or rules i r → b ≡ is_fit_in es r → b ≡ false
    → Judged rules i es → Some (i + 1) ≡ first_unfit rules
judged_stops rules i r es b l is fits false_is j =
    let within : i ≤ length rules = omega (arith, l) in
    let long : length (take i rules) ≡ i = length-take-le i rules within in
    ap (λ k. Some (k + 1)) (sym long) ∙ unfit_step (take i rules) (drop (i + 1) rules) r (first_unfit rules) (fit_at rules i r es b false j fits false_is) (rest_at rules i r es l is j)
