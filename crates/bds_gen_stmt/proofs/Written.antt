-- A function is whole into which whole marks were written.
use Rattle.std.proofs.Common.{◌≡◌, ◌≤◌, ◌<◌, ◌+◌, ◌&&◌, ℕ, suc, List, [], ◌∷◌, ◌++◌, length, length-append, reverse, Option, Some, None, Bool, true, false, refl, sym, subst, arith, rules, nat_eq, nat_lt, if◌then◌else◌}
use Rattle.std.specs.Prelude.{⊤, nat_le}
use Rattle.std.specs.List.{AllByRecursion, list_all}
use Rattle.std.proofs.lemmas.Grind.{common_steps}
use Rattle.std.proofs.lemmas.List.{length-reverse}
use Rattle.bds_value.specs.declared.TheConstants.{MAX_COUNT, MAX_TEXT, MAX_CODE}
use Rattle.bds_value.specs.declared.value.At.{At}
use Rattle.bds_value.specs.declared.value.Ty.{Ty}
use Rattle.bds_value.specs.Reading.{follows}
use Rattle.bds_code.specs.declared.instr.Instr.{Instr}
use Rattle.bds_code.specs.declared.instr.Instr.TheVariants.{PushText, PushDefault, MakeList, MakeMap, Update}
use Rattle.bds_code.specs.declared.unit.Function.{Function}
use Rattle.bds_verify.specs.Whole.{is_value_ty, are_value_tys, is_whole_instr, rises_from, rises}
use Rattle.bds_gen_expr.specs.Marks.{Mark, does, label, slot, count, is_last, put, written}
use Rattle.bds_gen_flow.proofs.ExprParts.{reverse-step}
use Rattle.bds_gen_stmt.proofs.Wholes.{IsWholeInstr, AreValueTys, AreWhole, within, both-true}

-- Lists

pub all-true : {X : Type 0} (p : X → Bool) (xs : List X) → AllByRecursion (λ x. p x ≡ true) xs → list_all p xs ≡ true
all-true p [] h = refl
all-true p (x ∷ xs) h = both-true (p x) (list_all p xs) h.0 (all-true p xs h.1)

pub all-behind : {X : Type 0} (P : X → Type 0) (xs ys : List X) → AllByRecursion P xs → AllByRecursion P ys → AllByRecursion P (xs ++ ys)
all-behind P [] ys h k = k
all-behind P (x ∷ xs) ys h k = (h.0, all-behind P xs ys h.1 k)

pub all-as : {X : Type 0} (P Q : X → Type 0) (xs : List X) → ((x : X) → P x → Q x) → AllByRecursion P xs → AllByRecursion Q xs
all-as P Q [] f h = tt
all-as P Q (x ∷ xs) f h = (f x h.0, all-as P Q xs f h.1)

values-reverse : (ts : List Ty) → AreValueTys ts → AreValueTys (reverse ts)
values-reverse [] h = tt
values-reverse (t ∷ ts) h = subst AreValueTys (sym (reverse-step t ts)) (all-behind (λ t. is_value_ty t ≡ true) (reverse ts) (t ∷ []) (values-reverse ts h.1) (h.0, tt))

pub value-tys : (ts : List Ty) → AreValueTys ts → length ts ≤ MAX_COUNT → are_value_tys ts ≡ true
value-tys ts h l = both-true (nat_le (length ts) MAX_COUNT) (list_all is_value_ty ts) (within (length ts) MAX_COUNT l) (all-true is_value_ty ts h)

pub lt-true : (n m : ℕ) → n < m → nat_lt n m ≡ true
lt-true n m h = grind (arith, common_steps)

true-lt : (n m : ℕ) → nat_lt n m ≡ true → n < m
true-lt n m h = grind (arith, common_steps)

-- Labels

abbrev pub Labels : Type 0
Labels = List (ℕ × List Ty)

abbrev pub AreUpTo : ℕ → Labels → Type 0
AreUpTo p ls = AllByRecursion (λ l. l.0 ≤ p) ls

abbrev pub AreBefore : ℕ → Labels → Type 0
AreBefore p ls = AllByRecursion (λ l. l.0 < p) ls

and-both : (a b : Bool) → (a && b) ≡ true → (a ≡ true) × (b ≡ true)
and-both true b h = (refl, h)
and-both false b h = absurd (search (rules, h))

rises-behind : (ls : Labels) (last : Option ℕ) (p : ℕ) (t : List Ty) → rises_from last ls ≡ true → AreBefore p ls → follows nat_lt last p ≡ true → rises_from last (ls ++ (p, t) ∷ []) ≡ true
rises-behind [] last p t r b f = both-true (follows nat_lt last p) true f refl
rises-behind (l ∷ ls) last p t r b f =
    let h = and-both (follows nat_lt last l.0) (rises_from (Some l.0) ls) r in
    both-true (follows nat_lt last l.0) (rises_from (Some l.0) (ls ++ (p, t) ∷ [])) h.0 (rises-behind ls (Some l.0) p t h.1 b.1 (lt-true l.0 p b.0))

not-same : (n p : ℕ) → n ≤ p → nat_eq n p ≡ false → n < p
not-same n p h e = grind (arith, common_steps)

-- where the last label is before the end, all are
before-end : (ls : Labels) (last : Option ℕ) (p : ℕ) → rises_from last ls ≡ true → AreUpTo p ls → is_last ls p ≡ false → AreBefore p ls
before-end [] last p r u e = tt
before-end (l ∷ []) last p r u e = (not-same l.0 p u.0 e, tt)
before-end (l ∷ (k ∷ ls)) last p r u e =
    let h = and-both (follows nat_lt last l.0) (rises_from (Some l.0) (k ∷ ls)) r in
    let rest : AreBefore p (k ∷ ls) = before-end (k ∷ ls) (Some l.0) p h.1 u.1 e in
    let next : l.0 < k.0 = true-lt l.0 k.0 (and-both (nat_lt l.0 k.0) (rises_from (Some k.0) ls) h.1).0 in
    let far : k.0 < p = rest.0 in
    (omega (arith, next, far), rest)

many-behind : (ls : Labels) (low n : ℕ) → rises_from (Some low) ls ≡ true → AreBefore n ls → low < n → length ls + suc low ≤ n
many-behind [] low n r b l = omega (arith, l)
many-behind (k ∷ ls) low n r b l =
    let h = and-both (nat_lt low k.0) (rises_from (Some k.0) ls) r in
    let next : low < k.0 = true-lt low k.0 h.0 in
    let rest : length ls + suc k.0 ≤ n = many-behind ls k.0 n h.1 b.1 b.0 in
    omega (arith, next, rest)

pub many-labels : (ls : Labels) (n : ℕ) → rises ls ≡ true → AreBefore n ls → length ls ≤ n
many-labels [] n r b = omega arith
many-labels (k ∷ ls) n r b = let rest : length ls + suc k.0 ≤ n = many-behind ls k.0 n r b.1 b.0 in omega (arith, rest)

-- A function that isn't finished

module _ (files : ℕ) where
  pub record Partly (f : Function) : Type 0 where
    pub code : AllByRecursion (λ i. is_whole_instr i ≡ true) f.code
    pub lines : AllByRecursion (λ a. nat_lt a.file files ≡ true) f.lines
    pub alike : length f.lines ≡ length f.code
    pub rising : rises f.labels ≡ true
    pub up_to : AreUpTo (length f.code) f.labels
    pub types : AllByRecursion (λ l. are_value_tys l.1 ≡ true) f.labels
    pub locals : AreValueTys f.locals

  whole-instr : (i : Instr) (p : ℕ) → IsWholeInstr i p → p ≤ MAX_CODE → is_whole_instr i ≡ true
  whole-instr (PushText t) p h l = within (length t) MAX_TEXT h
  whole-instr (PushDefault t) p h l = h
  whole-instr (MakeList t n) p h l = h
  whole-instr (MakeMap t n) p h l = h
  whole-instr (Update scope n kinds what) p h l = within (length kinds) MAX_COUNT (omega (arith, h, l))
  whole-instr _ p h l = refl

  does-partly : (f : Function) (i : Instr) (at : At) (p : ℕ) → length f.code ≡ p → Partly f → IsWholeInstr i p → p ≤ MAX_CODE → at.file < files → Partly (put f (does i at))
  does-partly f i at p e h w l a = record {
    code = all-behind (λ i. is_whole_instr i ≡ true) f.code (i ∷ []) h.code (whole-instr i p w l, tt);
    lines = all-behind (λ a. nat_lt a.file files ≡ true) f.lines (at ∷ []) h.lines (lt-true at.file files a, tt);
    alike = let x = length-append f.lines (at ∷ []) in let y = length-append f.code (i ∷ []) in let same = h.alike in omega (arith, x, y, same);
    rising = h.rising;
    up_to = let y = length-append f.code (i ∷ []) in all-as (λ l. l.0 ≤ length f.code) (λ l. l.0 ≤ length (f.code ++ i ∷ [])) f.labels (λ l k. omega (arith, y, k)) h.up_to;
    types = h.types;
    locals = h.locals;
  }

  label-partly : (f : Function) (s : List Ty) (p : ℕ) → length f.code ≡ p → Partly f → AreValueTys s → length s ≤ p → p ≤ MAX_CODE → Partly (put f (label s))
  label-partly f s p e h v l m = by (is_last f.labels (length f.code)) refl
    where
      grown : Function → Labels → Function
      grown f ls = record f { labels = ls }

      short : length (reverse s) ≤ MAX_COUNT
      short = let x = length-reverse s in omega (arith, x, l, m)

      by : (b : Bool) → is_last f.labels (length f.code) ≡ b → Partly (record f { labels = if b then f.labels else f.labels ++ (length f.code, reverse s) ∷ [] })
      by true q = h
      by false q = record {
        code = h.code;
        lines = h.lines;
        alike = h.alike;
        rising = rises-behind f.labels None (length f.code) (reverse s) h.rising (before-end f.labels None (length f.code) h.rising h.up_to q) refl;
        up_to = all-behind (λ l. l.0 ≤ length f.code) f.labels ((length f.code, reverse s) ∷ []) h.up_to (omega arith, tt);
        types = all-behind (λ l. are_value_tys l.1 ≡ true) f.labels ((length f.code, reverse s) ∷ []) h.types (value-tys (reverse s) (values-reverse s v) short, tt);
        locals = h.locals;
      }

  slot-partly : (f : Function) (t : Ty) → Partly f → is_value_ty t ≡ true → Partly (put f (slot t))
  slot-partly f t h v = record {
    code = h.code;
    lines = h.lines;
    alike = h.alike;
    rising = h.rising;
    up_to = h.up_to;
    types = h.types;
    locals = all-behind (λ t. is_value_ty t ≡ true) f.locals (t ∷ []) h.locals (v, tt);
  }

  pub written-partly : (ms : List Mark) (f : Function) (p : ℕ) → length f.code ≡ p → Partly f → AreWhole files ms p → p + count ms ≤ MAX_CODE → Partly (written f ms)
  written-partly [] f p e h w l = h
  written-partly (does i at ∷ ms) f p e h w l =
      let long = length-append f.code (i ∷ []) in
      written-partly ms (put f (does i at)) (suc p) (omega (arith, long, e)) (does-partly f i at p e h w.0 (omega (arith, l)) w.1) w.2 (omega (arith, l))
  written-partly (label t ∷ ms) f p e h w l = written-partly ms (put f (label t)) p e (label-partly f t p e h w.0 w.1 (omega (arith, l))) w.2 l
  written-partly (slot t ∷ ms) f p e h w l = written-partly ms (put f (slot t)) p e (slot-partly f t h w.0) w.1 l

  -- an instruction stands behind all labels
  abbrev pub EndsDoing : List Mark → Type 0
  EndsDoing [] = ⊥
  EndsDoing (does i at ∷ []) = ⊤
  EndsDoing (label s ∷ []) = ⊥
  EndsDoing (slot t ∷ []) = ⊥
  EndsDoing (m ∷ (k ∷ ms)) = EndsDoing (k ∷ ms)

  pub ends-behind : (ms : List Mark) (i : Instr) (at : At) → EndsDoing (ms ++ does i at ∷ [])
  ends-behind [] i at = tt
  ends-behind (does j b ∷ []) i at = tt
  ends-behind (label s ∷ []) i at = tt
  ends-behind (slot t ∷ []) i at = tt
  ends-behind (m ∷ (k ∷ ms)) i at = ends-behind (k ∷ ms) i at

  pub written-before : (ms : List Mark) (f : Function) (p : ℕ) → length f.code ≡ p → Partly f → AreWhole files ms p → p + count ms ≤ MAX_CODE → EndsDoing ms → AreBefore (length (written f ms).code) (written f ms).labels
  written-before [] f p e h w l d = absurd d
  written-before (does i at ∷ []) f p e h w l d = let y = length-append f.code (i ∷ []) in all-as (λ l. l.0 ≤ length f.code) (λ l. l.0 < length (f.code ++ i ∷ [])) f.labels (λ l k. omega (arith, y, k)) h.up_to
  written-before (label t ∷ []) f p e h w l d = absurd d
  written-before (slot t ∷ []) f p e h w l d = absurd d
  written-before (does i at ∷ (k ∷ ms)) f p e h w l d =
      let long = length-append f.code (i ∷ []) in
      written-before (k ∷ ms) (put f (does i at)) (suc p) (omega (arith, long, e)) (does-partly f i at p e h w.0 (omega (arith, l)) w.1) w.2 (omega (arith, l)) d
  written-before (label t ∷ (k ∷ ms)) f p e h w l d = written-before (k ∷ ms) (put f (label t)) p e (label-partly f t p e h w.0 w.1 (omega (arith, l))) w.2 l d
  written-before (slot t ∷ (k ∷ ms)) f p e h w l d = written-before (k ∷ ms) (put f (slot t)) p e (slot-partly f t h w.0) w.1 l d
