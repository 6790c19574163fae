-- The rows that make lists and maps keep the types.
use Rattle.std.proofs.Common.{◌≡◌, ◌≤◌, ◌+◌, ℕ, zero, suc, List, [], ◌∷◌, ◌++◌, length, reverse, replicate, nat_le, cond, is_some, Bool, true, false, Option, Some, None, Ok, Err, refl, sym, ap, ◌∙◌, subst, arith}
use Rattle.std.proofs.lemmas.Bool.{leb-true}
use Rattle.std.proofs.lemmas.List.{length-replicate, reverse-append, length-reverse}
use Rattle.std.specs.Bool.{IsTrue}
use Rattle.std.specs.Str.{bytes_eq}
use Rattle.bds_value.specs.declared.faults.RunFault.TheVariants.{TooLong}
use Rattle.bds_value.specs.declared.TheConstants.{MAX_TEXT, MAX_ITEMS, MAX_NESTING}
use Rattle.bds_value.specs.declared.value.Ty.{Ty}
use Rattle.bds_value.specs.declared.value.Ty.TheVariants as ty
use Rattle.bds_value.specs.declared.value.Value.{Value}
use Rattle.bds_value.specs.declared.value.Value.TheVariants as value
use Rattle.bds_value.specs.Fields.{IsValueTy, nesting, is_solid}
use Rattle.bds_value.specs.Order.{KeysRise, is_before}
use Rattle.bds_value.specs.Path.{at_key, set_key, insert_key}
use Rattle.bds_value.proofs.KeyLaws.{rise-set_key, rise-insert_key}
use Rattle.bds_value.proofs.Limits.{limits-Text}
use Rattle.bds_value.specs.Options.{◌>>=◌}
use Rattle.bds_value.specs.Readers.{as_text}
use Rattle.bds_lib.proofs.FormedLaws.{all_append, all_reverse}
use Rattle.bds_code.specs.declared.unit.Function.{Function}
use Rattle.bds_code.specs.Operands.{giving, pairs_taken, swapped}
use Rattle.bds_code.specs.Row as row
use Rattle.bds_code_frames.specs.Stack.{Stack, Call}
use Rattle.bds_verify.specs.Threads.{Holds, Typed, IsCall}
use Rattle.bds_verify.specs.Whole.{is_item_ty}
use Rattle.bds_machine_values.specs.Operands.{taken_all}
use Rattle.bds_machine_values.specs.Faults.{gives, finishes}
use Rattle.bds_machine_values.specs.Literals.{list_made, map_made, paired, with_pair, with_pairs, short_map}
use Rattle.bds_machine.proofs.HeldFits.{IsHeld, AllHold, Pairs, PairHolds, PairsHold, holds-List, holds-Map, value-List, value-Map, within}
use Rattle.bds_machine.proofs.OperandFits.{kept_here, take_all, text_there}
use Rattle.bds_machine.proofs.ResultFits.{Fits, gives_fits, finishes_fits}
use Rattle.bds_machine.proofs.TypesFits.{bind_ok, giving-ok, swapped-ok, pair_tys, pairs_taken-ok}

-- so many values of one type
all_same : (t : Ty) (n : ℕ) (vs : List Value) → Typed vs (replicate n t) → AllHold t vs × (length vs ≡ n)
all_same t zero [] h = (tt, refl)
all_same t zero (v ∷ vs) h = absurd h
all_same t (suc n) [] h = absurd h
all_same t (suc n) (v ∷ vs) h = let r = all_same t n vs h.1 in ((h.0, r.0), omega (arith, r.1))

item_room : (t : Ty) → is_item_ty t ≡ true → (nesting t + 1 ≤ MAX_NESTING) × IsTrue (is_solid t)
item_room t h = let r = within t 199 h in (omega (arith, r.0), r.1)

pub list_of-item : (t : Ty) → is_item_ty t ≡ true → IsValueTy (ty.List t)
list_of-item t h = let r = item_room t h in value-List t r.0 r.1

pub map_of-item : (t : Ty) → is_item_ty t ≡ true → IsValueTy (ty.Map t)
map_of-item t h = let r = item_room t h in value-Map t r.0 r.1

some_bind : {A B : Type 0} (o : Option A) (go : A → Option B) (y : B) → (o >>= go) ≡ Some y → (x : A) × (o ≡ Some x) × (go x ≡ Some y)
some_bind None go y h = absurd (cc)
some_bind (Some x) go y h = (x, refl, h)

paired_append : (xs : List Value) (ps : Pairs) (k v : Value) (key : List ℕ) → paired xs ≡ Some ps → as_text k ≡ Some key → paired (xs ++ k ∷ v ∷ []) ≡ Some (ps ++ (key, v) ∷ [])
paired_append [] ps k v key h e = let none : [] ≡ ps = cc in rw e (ap (λ (qs : Pairs). Some (qs ++ (key, v) ∷ [])) none)
paired_append (x ∷ []) ps k v key h e = absurd (cc)
paired_append (x ∷ y ∷ xs) ps k v key h e =
    let a = some_bind (as_text x) (λ j. paired xs >>= λ qs. Some ((j, y) ∷ qs)) ps h in
    let b = some_bind (paired xs) (λ qs. Some ((a.0, y) ∷ qs)) ps a.2 in
    let again = paired_append xs b.0 k v key b.1 e in
    let is : (a.0, y) ∷ b.0 ≡ ps = cc in
    rw (a.1, again) (ap (λ (qs : Pairs). Some (qs ++ (key, v) ∷ [])) is)

-- keys and values of these types by turns
pairs_there : (n : ℕ) (t : Ty) (vs : List Value) → Typed vs (pair_tys n t) → (ps : Pairs) × (paired (reverse vs) ≡ Some ps) × PairsHold t ps
pairs_there zero t [] h = ([], refl, tt)
pairs_there zero t (v ∷ vs) h = absurd h
pairs_there (suc n) t [] h = absurd h
pairs_there (suc n) t (v ∷ []) h = absurd h.1
pairs_there (suc n) t (v ∷ k ∷ vs) h =
    let rest = pairs_there n t vs h.1.1 in
    let key = text_there k h.1.0 in
    let short : length key.0 ≤ MAX_TEXT = limits-Text k key.0 key.2 h.1.0.limits in
    let turned : reverse (v ∷ k ∷ vs) ≡ reverse vs ++ k ∷ v ∷ [] = reverse-append (v ∷ k ∷ []) vs in (
      rest.0 ++ (key.0, v) ∷ [],
      ap paired turned ∙ paired_append (reverse vs) rest.0 k v key.0 rest.1 key.1,
      all_append {X = List ℕ × Value} (PairHolds t) rest.0 ((key.0, v) ∷ []) rest.2 ((short, h.0), tt),
    )

pub pairs-set : (t : Ty) (k : List ℕ) (v : Value) (ps : Pairs) → Holds v t → PairsHold t ps → PairsHold t (set_key k v ps)
pairs-set t k v [] h all = tt
pairs-set t k v (p ∷ ps) h all = by_test (bytes_eq p.0 k) (pairs-set t k v ps h all.1)
  where
    by_test : (b : Bool) → PairsHold t (set_key k v ps) → PairsHold t (cond b ((p.0, v) ∷ ps) (p ∷ set_key k v ps))
    by_test true again = ((all.0.0, h), all.1)
    by_test false again = (all.0, again)

pub pairs-insert : (t : Ty) (k : List ℕ) (v : Value) (ps : Pairs) → length k ≤ MAX_TEXT → Holds v t → PairsHold t ps → PairsHold t (insert_key k v ps)
pairs-insert t k v [] short h all = ((short, h), tt)
pairs-insert t k v (p ∷ ps) short h all = by_test (is_before p.0 k) (pairs-insert t k v ps short h all.1)
  where
    by_test : (b : Bool) → PairsHold t (insert_key k v ps) → PairsHold t (cond b (p ∷ insert_key k v ps) ((k, v) ∷ p ∷ ps))
    by_test true again = (all.0, again)
    by_test false again = ((short, h), all)

pair_added : (t : Ty) (ps : Pairs) (p : List ℕ × Value) → PairHolds t p → KeysRise ps × PairsHold t ps → KeysRise (with_pair ps p) × PairsHold t (with_pair ps p)
pair_added t ps p h all = by_place (at_key p.0 ps) refl
  where
    by_place : (o : Option Value) → at_key p.0 ps ≡ o
        → KeysRise (cond (is_some o) (set_key p.0 p.1 ps) (insert_key p.0 p.1 ps)) × PairsHold t (cond (is_some o) (set_key p.0 p.1 ps) (insert_key p.0 p.1 ps))
    by_place None none = (rise-insert_key p.0 p.1 ps none all.0, pairs-insert t p.0 p.1 ps h.0 h.1 all.1)
    by_place (Some x) is = (rise-set_key p.0 p.1 ps all.0, pairs-set t p.0 p.1 ps h.1 all.1)

pairs_added : (t : Ty) (ps qs : Pairs) → PairsHold t qs → KeysRise ps × PairsHold t ps → KeysRise (with_pairs ps qs) × PairsHold t (with_pairs ps qs)
pairs_added t ps [] h all = all
pairs_added t ps (q ∷ qs) h all = pairs_added t (with_pair ps q) qs h.1 (pair_added t ps q h.0 all)

short_map_held : (t : Ty) (ps : Pairs) → IsValueTy (ty.Map t) → KeysRise ps × PairsHold t ps → IsHeld (ty.Map t) (short_map t ps)
short_map_held t ps nests h = by_test (nat_le (length ps) MAX_ITEMS) refl
  where
    by_test : (b : Bool) → nat_le (length ps) MAX_ITEMS ≡ b → IsHeld (ty.Map t) (cond b (Some (Ok (value.Map t ps))) (Some (Err (TooLong (length ps)))))
    by_test true e = holds-Map t ps nests (leb-true (length ps) MAX_ITEMS e) h.0 h.1
    by_test false e = tt

pair_count : (n : ℕ) (t : Ty) → n + n ≡ length (pair_tys n t)
pair_count zero t = refl
pair_count (suc n) t = let r = pair_count n t in omega (arith, r)

module _ (f : Function) (next : List Ty) (c : Call) (below : Stack) where
  pub list_made_fits : (shape : List Ty) (t : Ty) (n : ℕ) → swapped (replicate n t) (ty.List t) shape ≡ Ok next → IsValueTy (ty.List t) → IsCall f shape c → Fits f next c below (list_made t n (c ∷ below))
  list_made_fits shape t n h nests call = by_test (nat_le n MAX_ITEMS) refl
    where
      made : n ≤ MAX_ITEMS → Fits f next c below (taken_all n (c ∷ below) >>= λ r. gives (value.List t r.0) r.1)
      made few =
          let r = swapped-ok (replicate n t) (ty.List t) shape next h in
          take_all (Fits f next c below) f c below (replicate n t) r.0 n c (λ r. gives (value.List t r.0) r.1) (sym (length-replicate n t)) (kept_here f shape (replicate n t ++ r.0) c r.1 call)
          (λ vs d k kept.
          let all = all_same t n vs k in
          let size : length (reverse vs) ≤ MAX_ITEMS = omega (arith, length-reverse vs, all.1, few) in
          gives_fits f next c below r.0 (ty.List t) (value.List t (reverse vs)) d r.2 (holds-List t (reverse vs) nests size (all_reverse (λ v. Holds v t) vs all.0)) kept)

      by_test : (b : Bool) → nat_le n MAX_ITEMS ≡ b → Fits f next c below (cond b (taken_all n (c ∷ below) >>= λ r. gives (value.List t r.0) r.1) (Some (Err (TooLong n))))
      by_test true e = made (leb-true n MAX_ITEMS e)
      by_test false e = tt

  pub map_made_fits : (shape : List Ty) (t : Ty) (n : ℕ) → row.map_made t n shape ≡ Ok next → IsValueTy (ty.Map t) → IsCall f shape c → Fits f next c below (map_made t n (c ∷ below))
  map_made_fits shape t n h nests call =
      let r = bind_ok (pairs_taken n t shape) (giving (ty.Map t)) next h in
      take_all (Fits f next c below) f c below (pair_tys n t) r.0 (n + n) c (λ r. paired r.0 >>= λ ps. finishes (short_map t (with_pairs [] ps)) r.1) (pair_count n t)
      (kept_here f shape (pair_tys n t ++ r.0) c (pairs_taken-ok n t shape r.0 r.1) call)
      (λ vs d k kept.
      let ps = pairs_there n t vs k in
      subst (λ o. Fits f next c below (o >>= λ ps. finishes (short_map t (with_pairs [] ps)) (d ∷ below))) (sym ps.1)
      (finishes_fits f next c below r.0 (ty.Map t) (short_map t (with_pairs [] ps.0)) d (giving-ok (ty.Map t) r.0 next r.2) (short_map_held t (with_pairs [] ps.0) nests (pairs_added t [] ps.0 ps.2 (tt, tt))) kept))
