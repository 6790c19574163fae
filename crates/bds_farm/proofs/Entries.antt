-- Lists of entries in which each task stands once.
use Rattle.std.proofs.Common.{◌≡◌, ℕ, Bool, true, false, not, nat_eq, cond, List, [], ◌∷◌, ◌++◌, filter, ap}
use Rattle.std.proofs.Common.{sym, subst, refl, ◌⊎◌, inl, inr, ◌≢◌}
use Rattle.std.proofs.Math.Dec.{eqb}
use Rattle.std.proofs.lemmas.Bool.{eq-eqb}
use Rattle.std.proofs.lemmas.Bool.Decides.{eqb_tells}
use Rattle.std.specs.Bool.{⊤}
use Rattle.std.specs.List.{AllByRecursion, list_any}
use Rattle.bds_farm.specs.Farm.{Entry, is_of, without}

abbrev pub Every : {X : Type 0} → (X → Type 0) → List X → Type 0
Every P xs = AllByRecursion P xs

pub every_weaker : {X : Type 0} (P Q : X → Type 0) → ((x : X) → P x → Q x) → (xs : List X) → Every P xs → Every Q xs
every_weaker P Q f [] h = tt
every_weaker P Q f (x ∷ xs) h = (f x h.0, every_weaker P Q f xs h.1)

pub every_both : {X : Type 0} (P Q R : X → Type 0) → ((x : X) → P x → Q x → R x) → (xs : List X) → Every P xs
    → Every Q xs → Every R xs
every_both P Q R f [] h k = tt
every_both P Q R f (x ∷ xs) h k = (f x h.0 k.0, every_both P Q R f xs h.1 k.1)

pub every_append : {X : Type 0} (P : X → Type 0) (xs ys : List X) → Every P xs → Every P ys → Every P (xs ++ ys)
every_append P [] ys h k = k
every_append P (x ∷ xs) ys h k = (h.0, every_append P xs ys h.1 k)

pub every_left : {X : Type 0} (P : X → Type 0) (xs ys : List X) → Every P (xs ++ ys) → Every P xs
every_left P [] ys h = tt
every_left P (x ∷ xs) ys h = (h.0, every_left P xs ys h.1)

pub every_right : {X : Type 0} (P : X → Type 0) (xs ys : List X) → Every P (xs ++ ys) → Every P ys
every_right P [] ys h = h
every_right P (x ∷ xs) ys h = every_right P xs ys h.1

every_kept : {X : Type 0} (P : X → Type 0) (keep : X → Bool) (x : X) (xs : List X) (b : Bool) → keep x ≡ b → P x
    → Every P (filter keep xs) → Every P (filter keep (x ∷ xs))
every_kept P keep x xs true is p h = let e : filter keep (x ∷ xs) ≡ x ∷ filter keep xs =
    ap (λ c. cond c (x ∷ filter keep xs) (filter keep xs)) is in subst (λ l. Every P l) (sym e) (p, h)
every_kept P keep x xs false is p h = let e : filter keep (x ∷ xs) ≡ filter keep xs =
    ap (λ c. cond c (x ∷ filter keep xs) (filter keep xs)) is in subst (λ l. Every P l) (sym e) h

pub every_filter : {X : Type 0} (P : X → Type 0) (keep : X → Bool) (xs : List X) → Every P xs → Every P (filter keep xs)
every_filter P keep [] h = tt
every_filter P keep (x ∷ xs) h = every_kept P keep x xs (keep x) refl h.0 (every_filter P keep xs h.1)

passes_test : {X : Type 0} (keep : X → Bool) (x : X) (xs : List X) (b : Bool) → keep x ≡ b
    → Every (λ y. keep y ≡ true) (filter keep xs) → Every (λ y. keep y ≡ true) (filter keep (x ∷ xs))
passes_test keep x xs true is h = let e : filter keep (x ∷ xs) ≡ x ∷ filter keep xs =
    ap (λ c. cond c (x ∷ filter keep xs) (filter keep xs)) is in
    subst (λ l. Every (λ y. keep y ≡ true) l) (sym e) (is, h)
passes_test keep x xs false is h = let e : filter keep (x ∷ xs) ≡ filter keep xs =
    ap (λ c. cond c (x ∷ filter keep xs) (filter keep xs)) is in subst (λ l. Every (λ y. keep y ≡ true) l) (sym e) h

-- what is left passes the test
pub filter_passes : {X : Type 0} (keep : X → Bool) (xs : List X) → Every (λ y. keep y ≡ true) (filter keep xs)
filter_passes keep [] = tt
filter_passes keep (x ∷ xs) = passes_test keep x xs (keep x) refl (filter_passes keep xs)

-- an item that a search finds
pub record Found {X : Type 0} (P : X → Type 0) (test : X → Bool) : Type 0 where
  pub item : X
  pub passes : test item ≡ true
  pub holds : P item

found_first : {X : Type 0} (P : X → Type 0) (test : X → Bool) (x : X) (xs : List X) (b : Bool) → test x ≡ b
    → list_any test (x ∷ xs) ≡ true → P x → (list_any test xs ≡ true → Found P test) → Found P test
found_first P test x xs true is any p more = record { item = x; passes = is; holds = p }
found_first P test x xs false is any p more = more (rw is at any)

pub found : {X : Type 0} (P : X → Type 0) (test : X → Bool) (xs : List X) → list_any test xs ≡ true → Every P xs
    → Found P test
found P test [] any h = absurd (cc any)
found P test (x ∷ xs) any h = found_first P test x xs (test x) refl any h.0 (λ more. found P test xs more h.1)

-- Entries

pub eq_sym : (m n : ℕ) → nat_eq m n ≡ false → nat_eq n m ≡ false
eq_sym m n h = go (eqb_tells n m)
  where
    go : ((eqb n m ≡ true) × (n ≡ m)) ⊎ ((eqb n m ≡ false) × (n ≢ m)) → nat_eq n m ≡ false
    go (inl x) = absurd (cc (h, eq-eqb m n (sym x.1)))
    go (inr x) = x.0

-- a task has no entry
abbrev pub NotIn : ℕ → List Entry → Type 0
NotIn task es = Every (λ (e : Entry). is_of task e ≡ false) es

abbrev pub Once : List Entry → Type 0
Once [] = ⊤
Once (e ∷ es) = NotIn e.0 es × Once es

not_true : (b : Bool) → not b ≡ true → b ≡ false
not_true true h = absurd (cc h)
not_true false h = refl

pub without-none : (task : ℕ) (es : List Entry) → NotIn task (without task es)
without-none task es =
    every_weaker (λ e. not (is_of task e) ≡ true) (λ e. is_of task e ≡ false) (λ e h. not_true (is_of task e) h)
    (without task es) (filter_passes (λ e. not (is_of task e)) es)

once_kept : (task : ℕ) (e : Entry) (es : List Entry) (b : Bool) → not (is_of task e) ≡ b → NotIn e.0 es
    → Once (without task es) → Once (without task (e ∷ es))
once_kept task e es true is apart h =
    let w : without task (e ∷ es) ≡ e ∷ without task es = ap (λ c. cond c (e ∷ without task es) (without task es)) is in
    subst (λ l. Once l) (sym w) (every_filter (λ f. is_of e.0 f ≡ false) (λ f. not (is_of task f)) es apart, h)
once_kept task e es false is apart h =
    let w : without task (e ∷ es) ≡ without task es = ap (λ c. cond c (e ∷ without task es) (without task es)) is in
    subst (λ l. Once l) (sym w) h

pub once_without : (task : ℕ) (es : List Entry) → Once es → Once (without task es)
once_without task [] h = tt
once_without task (e ∷ es) h = once_kept task e es (not (is_of task e)) refl h.0 (once_without task es h.1)

pub once_push : (es : List Entry) (task code : ℕ) → Once es → NotIn task es → Once (es ++ (task, code) ∷ [])
once_push [] task code h apart = (tt, tt)
once_push (e ∷ es) task code h apart = (
  every_append (λ f. is_of e.0 f ≡ false) es ((task, code) ∷ []) h.0 (eq_sym e.0 task apart.0, tt),
  once_push es task code h.1 apart.1,
)

-- an entry is taken out
pub record TakenOut (task : ℕ) (older younger : List Entry) : Type 0 where
  pub older_apart : NotIn task older
  pub younger_apart : NotIn task younger
  pub once : Once (older ++ younger)

pub taken_out : (older younger : List Entry) (task code : ℕ) → Once (older ++ (task, code) ∷ younger)
    → TakenOut task older younger
taken_out [] younger task code h = record { older_apart = tt; younger_apart = h.0; once = h.1 }
taken_out (e ∷ older) younger task code h =
    let r = taken_out older younger task code h.1 in
    let front = every_left (λ f. is_of e.0 f ≡ false) older ((task, code) ∷ younger) h.0 in
    let back = every_right (λ f. is_of e.0 f ≡ false) older ((task, code) ∷ younger) h.0 in
    record {
      older_apart = (eq_sym task e.0 back.0, r.older_apart);
      younger_apart = r.younger_apart;
      once = (every_append (λ f. is_of e.0 f ≡ false) older younger front back.1, r.once);
    }
