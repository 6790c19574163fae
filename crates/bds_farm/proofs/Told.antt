-- What a line tells of open submissions.
use Rattle.std.proofs.Common.{◌≡◌, ◌≢◌, ◌∙◌, ◌<◌, ◌≤◌, ◌^◌, ℕ, Bool, true, false, ◌&&◌, nat_eq, List, [], ◌∷◌}
use Rattle.std.proofs.Common.{◌++◌, Option, Some, None, ap, sym, subst, refl, arith}
use Rattle.std.specs.List.{list_any}
use Rattle.std.proofs.lemmas.Bool.{eqb-true, eq-eqb}
use Rattle.bds_farm.specs.Farm.{Entry, IsToldBy, LearnsLine, Queue, end_line, learnt, without}

abbrev is_entry : ℕ → ℕ → Entry → Bool
is_entry task attempt f = nat_eq f.0 task && nat_eq f.1 attempt

both_true : (a b : Bool) → a && b ≡ true → (a ≡ true) × (b ≡ true)
both_true true b h = (refl, h)
both_true false b h = absurd (cc h)

join_true : (a b : Bool) → a ≡ true → b ≡ true → a && b ≡ true
join_true a b p q = rw (p, q) refl

no_entry : (line : List ℕ) (e : Entry) → ((n : ℕ) → n < 2 ^ 8 → line ≢ end_line e.0 e.1 n) → (task attempt code : ℕ)
    → code ≤ 255 → line ≡ end_line task attempt code → is_entry task attempt e ≡ false
no_entry line e none task attempt code low is = go (is_entry task attempt e) refl
  where
    go : (b : Bool) → is_entry task attempt e ≡ b → is_entry task attempt e ≡ false
    go true t =
        let both = both_true (nat_eq e.0 task) (nat_eq e.1 attempt) t in
        let task_is : e.0 ≡ task = eqb-true e.0 task both.0 in
        let attempt_is : e.1 ≡ attempt = eqb-true e.1 attempt both.1 in
        absurd (none code (omega arith)
        (is ∙ ap (λ x. end_line x attempt code) (sym task_is) ∙ ap (λ x. end_line e.0 x code) (sym attempt_is)))
    go false t = t

any_first : (test : Entry → Bool) (e : Entry) (es : List Entry) → test e ≡ true → list_any test (e ∷ es) ≡ true
any_first test e es h = rw h refl

any_other : (test : Entry → Bool) (e : Entry) (es : List Entry) (b : Bool) → test e ≡ b → list_any test es ≡ true
    → list_any test (e ∷ es) ≡ true
any_other test e es true is h = rw is refl
any_other test e es false is h = rw is h

any_none : (test : Entry → Bool) (e : Entry) (es : List Entry) → test e ≡ false → list_any test es ≡ false
    → list_any test (e ∷ es) ≡ false
any_none test e es is h = rw is h

-- the first tells it
pub told_here : (e : Entry) (es : List Entry) (line : List ℕ) (code : ℕ) → code < 2 ^ 8 → line ≡ end_line e.0 e.1 code
    → IsToldBy (e ∷ es) line (Some (e.0, code))
told_here e es line code low is = (
  e.1,
  (
    any_first (is_entry e.0 e.1) e es
        (join_true (nat_eq e.0 e.0) (nat_eq e.1 e.1) (eq-eqb e.0 e.0 refl) (eq-eqb e.1 e.1 refl)),
    is,
    omega arith,
  ),
)

-- another, or none
pub told_there : (e : Entry) (es : List Entry) (line : List ℕ) (result : Option Entry)
    → ((n : ℕ) → n < 2 ^ 8 → line ≢ end_line e.0 e.1 n) → IsToldBy es line result → IsToldBy (e ∷ es) line result
told_there e es line (Some f) none (attempt, (any, is, low)) =
    (attempt, (any_other (is_entry f.0 attempt) e es (is_entry f.0 attempt e) refl any, is, low))
told_there e es line None none others =
    λ task attempt code low is. any_none (is_entry task attempt) e es (no_entry line e none task attempt code low is)
    (others task attempt code low is)

pub told_none : (line : List ℕ) → IsToldBy [] line None
told_none line = λ task attempt code low is. refl

pub learns_so : (line : List ℕ) (last : Option ℕ) (opened ends opened' ends' : List Entry) (e : Entry)
    → IsToldBy opened line (Some e) → ends' ≡ ends ++ e ∷ [] → opened' ≡ without e.0 opened
    → LearnsLine line (record { last = last; open_ends = opened; ends = ends })
    (record { last = last; open_ends = opened'; ends = ends' })
learns_so line last opened ends opened' ends' e (attempt, (any, is, low)) ends_is opened_is =
    let q : Queue = record { last = last; open_ends = opened; ends = ends } in
    let r : LearnsLine line q (learnt e.0 e.1 q) = LearnsLine.learns e.0 attempt e.1 low is any in
    subst (λ l. LearnsLine line q (record { last = last; open_ends = l; ends = ends' })) (sym opened_is)
    (subst (λ l. LearnsLine line q (record { last = last; open_ends = without e.0 opened; ends = l })) (sym ends_is) r)

pub skips_so : (line : List ℕ) (last : Option ℕ) (opened ends : List Entry) → IsToldBy opened line None
    → LearnsLine line (record { last = last; open_ends = opened; ends = ends })
    (record { last = last; open_ends = opened; ends = ends })
skips_so line last opened ends none = LearnsLine.skips none

pub ruleset tells = (told_here, told_there, told_none)
