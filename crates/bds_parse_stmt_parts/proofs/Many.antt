-- Reading several, one behind the other.
use Rattle.std.proofs.Common.{◌≡◌, ℕ, zero, suc, ◌+◌, ◌<◌, ◌≤◌, Bool, true, false, List, [], ◌∷◌, ◌++◌, length, map, Option, Some, None, refl, sym, ap, ◌∙◌, subst, arith}
use Rattle.std.specs.Prelude.{if◌then◌else◌}
use Rattle.bds_value.specs.Options.{◌>>=◌}
use Rattle.bds_tree.specs.declared.token.Token.{Token}
use Rattle.bds_parse_expr.specs.declared.fault.ParseFault.{ParseFault}
use Rattle.bds_parse_expr.specs.declared.fault.ParseFault.TheVariants as fault
use Rattle.bds_parse_expr.specs.Gives.{FailsWith}
use Rattle.bds_parse_expr.specs.Reading.{Read}
use Rattle.bds_parse_expr.proofs.Steps.{bind_some}
use Rattle.bds_parse_expr.proofs.Sound.{bind_ok, some_same}
use Rattle.bds_parse_stmt_parts.specs.Reading.{Next, many_by, many, many_onto}

-- a fault that is passed on
pub passed : {Y Z : Type 0} (e : ParseFault) (a : Option Y) (b : Option Z) → FailsWith e a → (a ≡ None → b ≡ None) → FailsWith e b
passed (fault.Syntax l) a b f h = h f
passed fault.NoMemory a b f h = tt

pub map_push : {X Y : Type 0} (f : X → Y) (xs : List X) (x : X) → map f (xs ++ x ∷ []) ≡ map f xs ++ f x ∷ []
map_push f [] x = refl
map_push f (z ∷ xs) x = ap (λ ys. f z ∷ ys) (map_push f xs x)

-- the next one, by the reading of one and by the test whether they end
pub next_some : {A : Type 0} (ended : Bool) (r : Read A) (x : A × List Token) → (if ended then Some None else (r >>= λ y. Some (Some y))) ≡ Some (Some x) → r ≡ Some x
next_some true r x e = let q = some_same _ _ e in cc
next_some false None x e = cc
next_some false (Some y) x e = some_same _ _ e

pub next_none : {A : Type 0} (ended : Bool) (r : Read A) → (if ended then Some None else (r >>= λ y. Some (Some y))) ≡ Some None → ended ≡ true
next_none true r e = refl
next_none false None e = cc
next_none false (Some y) e = let q = some_same _ _ e in cc

-- each of them is read behind the one before
abbrev pub Chain : {A : Type 0} → (A → List Token → List Token → Type 0) → List A → List Token → List Token → Type 0
Chain P [] ts rest = ts ≡ rest
Chain P (x ∷ xs) ts rest = (mid : List Token) × P x ts mid × Chain P xs mid rest

module _ {A : Type 0} (next : Next A) where
  abbrev pub Takes : A → List Token → List Token → Type 0
  Takes x ts rest = (next ts ≡ Some (Some (x, rest))) × (length rest < length ts)

  pub many_finds : (xs : List A) (n : ℕ) (ts rest : List Token) → Chain Takes xs ts rest → next rest ≡ Some None → length ts ≤ n → many next n ts ≡ Some (xs, rest)
  unfolding many
  many_finds [] zero ts rest c stop le = subst (λ u. many next zero u ≡ Some ([], rest)) (sym c) (bind_some _ None _ _ stop refl)
  many_finds [] (suc n) ts rest c stop le = subst (λ u. many next (suc n) u ≡ Some ([], rest)) (sym c) (bind_some _ None _ _ stop refl)
  many_finds (x ∷ xs) zero ts rest c stop le = absurd (omega (arith, c.1.1))
  many_finds (x ∷ xs) (suc n) ts rest c stop le =
      let short : length c.0 ≤ n = omega (arith, c.1.1) in
      bind_some _ (Some (x, c.0)) _ _ c.1.0 (bind_some _ (xs, rest) _ _ (many_finds xs n c.0 rest c.2 stop short) refl)

  module _ (P : A → List Token → List Token → Type 0) (sound : (ts : List Token) (x : A × List Token) → next ts ≡ Some (Some x) → P x.0 ts x.1) where
    pub record IsMany (xs : List A) (ts rest : List Token) : Type 0 where
      pub chain : Chain P xs ts rest
      pub stop : next rest ≡ Some None

    many_end : (ts : List Token) (x : List A × List Token) → next ts ≡ Some None → Some ([], ts) ≡ Some x → IsMany x.0 ts x.1
    many_end ts x stop e = subst (λ (y : List A × List Token). IsMany y.0 ts y.1) (some_same _ _ e) (record { chain = refl; stop = stop })

    step_sound : (go : List Token → Read (List A)) → ((us : List Token) (y : List A × List Token) → go us ≡ Some y → IsMany y.0 us y.1) → (ts : List Token) (x : List A × List Token) (o : Option (A × List Token)) → next ts ≡ Some o → many_by go ts o ≡ Some x → IsMany x.0 ts x.1
    step_sound go h ts x None f g = many_end ts x f g
    step_sound go h ts x (Some y) f g =
        let later = bind_ok _ _ _ g in
        let others = h y.1 later.0 later.1 in
        subst (λ (z : List A × List Token). IsMany z.0 ts z.1) (some_same _ _ later.2)
        (record { chain = (y.1, sound ts y f, others.chain); stop = others.stop })

    many_sound : (n : ℕ) (ts : List Token) (x : List A × List Token) → many next n ts ≡ Some x → IsMany x.0 ts x.1
    unfolding many
    many_sound zero ts x e = let p = bind_ok _ _ _ e in step_sound (λ us. None) (λ us y f. cc) ts x p.0 p.1 p.2
    many_sound (suc n) ts x e = let p = bind_ok _ _ _ e in step_sound (many next n) (many_sound n) ts x p.0 p.1 p.2

    pub onto_sound : (first : List A) (ts : List Token) (x : List A × List Token) → many_onto next first ts ≡ Some x → (ys : List A) × (x.0 ≡ first ++ ys) × IsMany ys ts x.1
    onto_sound first ts x e =
        let p = bind_ok _ _ _ e in
        let same : (first ++ p.0.0, p.0.1) ≡ x = some_same _ _ p.2 in
        (p.0.0, sym (ap (λ (z : List A × List Token). z.0) same), subst (λ u. IsMany p.0.0 ts u) (ap (λ (z : List A × List Token). z.1) same) (many_sound (length ts) ts p.0 p.1))

  pub onto_finds : (first xs : List A) (ts rest : List Token) → Chain Takes xs ts rest → next rest ≡ Some None → many_onto next first ts ≡ Some (first ++ xs, rest)
  onto_finds first xs ts rest c stop = bind_some _ (xs, rest) _ _ (many_finds xs (length ts) ts rest c stop (omega arith)) refl

  -- from what is read already and what stands behind it, with turns enough, the loop comes to this
  pub record Loops (xs : List A) (rest : List Token) (end : Read (List A)) : Type 0 where
    pub turns : ℕ
    pub enough : length rest ≤ turns
    pub comes : (many next turns rest >>= λ ys. Some (xs ++ ys.0, ys.1)) ≡ end

  pub loop_start : (xs : List A) (ts : List Token) → Loops xs ts (many_onto next xs ts)
  loop_start xs ts = record { turns = length ts; enough = omega arith; comes = refl }

  many_none : (n : ℕ) (ts : List Token) → next ts ≡ None → many next n ts ≡ None
  unfolding many
  many_none zero ts e = ap (λ r. r >>= many_by (λ us. None) ts) e
  many_none (suc n) ts e = ap (λ r. r >>= many_by (many next n) ts) e

  many_stop : (n : ℕ) (ts : List Token) → next ts ≡ Some None → many next n ts ≡ Some ([], ts)
  unfolding many
  many_stop zero ts e = ap (λ r. r >>= many_by (λ us. None) ts) e
  many_stop (suc n) ts e = ap (λ r. r >>= many_by (many next n) ts) e

  many_take : (n : ℕ) (ts : List Token) (x : A × List Token) → next ts ≡ Some (Some x) → many next (suc n) ts ≡ (many next n x.1 >>= λ xs. Some (x.0 ∷ xs.0, xs.1))
  unfolding many
  many_take n ts x e = ap (λ r. r >>= many_by (many next n) ts) e

  pub loop_none : (xs : List A) (rest : List Token) (end : Read (List A)) → Loops xs rest end → next rest ≡ None → end ≡ None
  loop_none xs rest end l e = sym l.comes ∙ ap (λ r. r >>= λ ys. Some (xs ++ ys.0, ys.1)) (many_none l.turns rest e)

  append_nil : (xs : List A) → xs ++ [] ≡ xs
  append_nil [] = refl
  append_nil (x ∷ xs) = ap (λ ys. x ∷ ys) (append_nil xs)

  append_more : (xs : List A) (x : A) (ys : List A) → (xs ++ x ∷ []) ++ ys ≡ xs ++ x ∷ ys
  append_more [] x ys = refl
  append_more (z ∷ xs) x ys = ap (λ u. z ∷ u) (append_more xs x ys)

  pub loop_stop : (xs : List A) (rest : List Token) (end : Read (List A)) → Loops xs rest end → next rest ≡ Some None → end ≡ Some (xs, rest)
  loop_stop xs rest end l e = sym l.comes ∙ ap (λ r. r >>= λ ys. Some (xs ++ ys.0, ys.1)) (many_stop l.turns rest e) ∙ ap (λ u. Some (u, rest)) (append_nil xs)

  onto : List A → List A × List Token → Read (List A)
  onto xs ys = Some (xs ++ ys.0, ys.1)

  before : A → List A × List Token → Read (List A)
  before x ys = Some (x ∷ ys.0, ys.1)

  put_on : (xs : List A) (x : A) (r : Read (List A)) → (r >>= before x) >>= onto xs ≡ r >>= onto (xs ++ x ∷ [])
  unfolding onto before
  put_on xs x None = refl
  put_on xs x (Some ys) = ap (λ u. Some (u, ys.1)) (sym (append_more xs x ys.0))

  pub loop_next : (xs : List A) (rest : List Token) (end : Read (List A)) (x : A) (left : List Token) → Loops xs rest end → next rest ≡ Some (Some (x, left)) → length left < length rest → Loops (xs ++ x ∷ []) left end
  unfolding onto before
  loop_next xs rest end x left l e short = go l.turns l.enough l.comes
    where
      go : (n : ℕ) → length rest ≤ n → (many next n rest >>= λ ys. Some (xs ++ ys.0, ys.1)) ≡ end → Loops (xs ++ x ∷ []) left end
      go zero le comes = absurd (omega arith)
      go (suc n) le comes = record {
        turns = n;
        enough = omega arith;
        comes = sym (put_on xs x (many next n left)) ∙ ap (λ r. r >>= λ ys. Some (xs ++ ys.0, ys.1)) (sym (many_take n rest (x, left) e)) ∙ comes;
      }
