-- Slots and variables.
use Rattle.std.proofs.Common.{inl, inr, ◌≡◌, ℕ, zero, suc, ◌+◌, ◌-◌, ◌<◌, Bool, true, false, List, [], ◌∷◌, ◌++◌, length, Option, Some, None, refl, sym, ap, ◌∙◌, subst, arith, append_assoc, length-append, drop, get_or}
use Rattle.std.specs.Prelude.{◌≢◌, ◌⊎◌, slice_get, slice_set, reverse, if◌then◌else◌}
use Rattle.std.specs.Str.{bytes_eq}
use Rattle.std.proofs.Math.Seq.{get_or-append_seam}
use Rattle.std.proofs.lemmas.List.{get_or-set_same, get_or-set_other, length-set}
use Rattle.std.proofs.lemmas.Option.{slice_get_within, slice_get-get_or, get_or_from_slice_get}
use Rattle.bds_value.specs.Options.{◌>>=◌}
use Rattle.bds_value.specs.declared.value.Value.{Value}
use Rattle.bds_value.specs.declared.value.Value.TheVariants as value
use Rattle.bds_meaning.specs.Variables.{Bindings, value_in, stored_in, bound, outer}
use Rattle.bds_sim_terms.specs.steps.Stands.{Names, slot_of, position_of, Free, InSlot, Holds, Unheld, KeepsHeld, Clear, Apart, Fits, numbered, PassedTo, Passed, values, names_of}

abbrev none : Value
none = value.Bool false

pub get_same : (slots : List Value) (i : ℕ) (v : Value) → i < length slots → slice_get (slice_set slots i v) i ≡ Some v
get_same slots i v h =
    let within : i < length (slice_set slots i v) = omega (arith, length-set slots i v) in
    slice_get-get_or (slice_set slots i v) i none within ∙ ap Some (get_or-set_same slots i v none h)

pub get_other : (slots : List Value) (i j : ℕ) (v w : Value) → j ≢ i → slice_get slots j ≡ Some w → slice_get (slice_set slots i v) j ≡ Some w
get_other slots i j v w n h =
    let was : j < length slots = slice_get_within slots j w h in
    let within : j < length (slice_set slots i v) = omega (arith, length-set slots i v, was) in
    slice_get-get_or (slice_set slots i v) j none within ∙ ap Some (get_or-set_other slots i j v none n ∙ get_or_from_slice_get slots j w none h)

pub in_slot_other : (o : Option ℕ) (w : Value) (ns : Names) (slots : List Value) (i : ℕ) (v : Value) → o ≢ Some i → InSlot o w ns slots → InSlot o w ns (slice_set slots i v)
in_slot_other None w ns slots i v n h = tt
in_slot_other (Some j) w ns slots i v n h = (get_other slots i j v w (λ e. n (ap Some e)) h.0, h.1)

-- a write to a slot of no name in force
pub holds_other : (ns : Names) (ls : Bindings) (slots : List Value) (i : ℕ) (v : Value) → Free i ns → Holds ns ls slots → Holds ns ls (slice_set slots i v)
holds_other [] [] slots i v free h = tt
holds_other [] (q ∷ ls) slots i v free h = h
holds_other (p ∷ ns) [] slots i v free h = h
holds_other (p ∷ ns) (q ∷ ls) slots i v free h = (h.0, in_slot_other p.1 q.1 ns slots i v free.0 h.1, holds_other ns ls slots i v free.1 h.2)

pub holds_length : (ns : Names) (ls : Bindings) (slots : List Value) → Holds ns ls slots → length ls ≡ length ns
holds_length [] [] slots h = refl
holds_length [] (q ∷ ls) slots h = absurd h
holds_length (p ∷ ns) [] slots h = absurd h
holds_length (p ∷ ns) (q ∷ ls) slots h = ap suc (holds_length ns ls slots h.2)

abbrev pub stored : Option ℕ → List Value → Value → List Value
stored None slots v = slots
stored (Some i) slots v = slice_set slots i v

free_other : (x : List ℕ) (ns : Names) (i j : ℕ) → slot_of ns x ≡ Some i → Free j ns → j ≢ i
free_other x [] i j e free = absurd (cc e)
free_other x (p ∷ ns) i j e free =
    let go : (b : Bool) → (if b then p.1 else slot_of ns x) ≡ Some i → j ≢ i = elim [
      | true ↦ λ e' same. free.0 (e' ∙ ap Some (sym same))
      | false ↦ λ e'. free_other x ns i j e' free.1
    ] in go (bytes_eq p.0 x) e

in_slot_put : (o : Option ℕ) (w v : Value) (ns : Names) (slots : List Value) (x : List ℕ) (i : ℕ) → slot_of ns x ≡ Some i → InSlot o w ns slots → InSlot o w ns (slice_set slots i v)
in_slot_put None w v ns slots x i e h = tt
in_slot_put (Some j) w v ns slots x i e h = (get_other slots i j v w (free_other x ns i j e h.1) h.0, h.1)

in_slot_here : (o : Option ℕ) (w v : Value) (ns : Names) (ls : Bindings) (slots : List Value) → InSlot o w ns slots → Holds ns ls slots → InSlot o v ns (stored o slots v) × Holds ns ls (stored o slots v)
in_slot_here None w v ns ls slots h hs = (tt, hs)
in_slot_here (Some i) w v ns ls slots h hs = ((get_same slots i v (slice_get_within slots i w h.0), h.1), holds_other ns ls slots i v h.1 hs)

-- an assignment
pub holds_put : (x : List ℕ) (v : Value) (ns : Names) (ls : Bindings) (slots : List Value) → Holds ns ls slots → Holds ns (stored_in ls x v) (stored (slot_of ns x) slots v)
holds_put x v [] [] slots h = tt
holds_put x v [] (q ∷ ls) slots h = absurd h
holds_put x v (p ∷ ns) [] slots h = absurd h
holds_put x v (p ∷ ns) (q ∷ ls) slots h =
    let same : (o : Option ℕ) → (slot_of ns x ≡ o) → Holds ns (stored_in ls x v) (stored o slots v) → Holds (p ∷ ns) (q ∷ stored_in ls x v) (stored o slots v) = elim [
      | None ↦ λ e r. (h.0, h.1, r)
      | Some i ↦ λ e r. (h.0, in_slot_put p.1 q.1 v ns slots x i e h.1, r)
    ] in
    let go : (b : Bool) → Holds (p ∷ ns) (if b then (q.0, v) ∷ ls else q ∷ stored_in ls x v) (stored (if b then p.1 else slot_of ns x) slots v) = elim [
      | true ↦ let r = in_slot_here p.1 q.1 v ns ls slots h.1 h.2 in (h.0, r.0, r.1)
      | false ↦ same (slot_of ns x) refl (holds_put x v ns ls slots h.2)
    ] in
    subst (λ n. Holds (p ∷ ns) (if bytes_eq n x then (q.0, v) ∷ ls else q ∷ stored_in ls x v) (stored (if bytes_eq p.0 x then p.1 else slot_of ns x) slots v)) h.0 (go (bytes_eq p.0 x))

-- the outer variables alone
holds_drop : (added ns : Names) (ls : Bindings) (slots : List Value) (n : ℕ) → n ≡ length added → Holds (added ++ ns) ls slots → Holds ns (drop n ls) slots
holds_drop [] ns ls slots n e h = subst (λ k. Holds ns (drop k ls) slots) (sym e) h
holds_drop (p ∷ added) ns [] slots n e h = absurd h
holds_drop (p ∷ added) ns (q ∷ ls) slots n e h = subst (λ k. Holds ns (drop k (q ∷ ls)) slots) (sym e) (holds_drop added ns ls slots (length added) refl h.2)

pub holds_outer : (added ns : Names) (ls : Bindings) (slots : List Value) (k : ℕ) → k ≡ length ns → Holds (added ++ ns) ls slots → Holds ns (outer k ls) slots
holds_outer added ns ls slots k e h = holds_drop added ns ls slots (length ls - k) (omega (arith, holds_length (added ++ ns) ls slots h, length-append added ns)) h

-- a name's value
pub holds_get : (x : List ℕ) (ns : Names) (ls : Bindings) (slots : List Value) (i : ℕ) → slot_of ns x ≡ Some i → Holds ns ls slots → slice_get slots i ≡ Some (value_in ls x)
holds_get x [] ls slots i e h = absurd (cc e)
holds_get x (p ∷ ns) [] slots i e h = absurd h
holds_get x (p ∷ ns) (q ∷ ls) slots i e h =
    let go : (b : Bool) → (if b then p.1 else slot_of ns x) ≡ Some i → slice_get slots i ≡ Some (if b then q.1 else value_in ls x) = elim [
      | true ↦ λ e'. let there : InSlot (Some i) q.1 ns slots = subst (λ o. InSlot o q.1 ns slots) e' h.1 in there.0
      | false ↦ λ e'. holds_get x ns ls slots i e' h.2
    ] in
    go (bytes_eq p.0 x) e ∙ ap (λ n. Some (if bytes_eq n x then q.1 else value_in ls x)) h.0

-- a call's parameters: the names from slot i on, over the slots from i on
free_numbered : (xs : List (List ℕ)) (i j : ℕ) → j < i → Free j (numbered xs i)
free_numbered [] i j h = tt
free_numbered (x ∷ xs) i j h = ((λ e. let q : i ≡ j = cc e in absurd (omega (arith, q, h))), free_numbered xs (suc i) j (omega (arith, h)))

pub holds_bound : (xs : List (List ℕ)) (vs pre rest : List Value) → length vs ≡ length xs → Holds (numbered xs (length pre)) (bound xs vs) (pre ++ (vs ++ rest))
holds_bound [] vs pre rest e = tt
holds_bound (x ∷ xs) [] pre rest e = absurd (omega (arith, e))
holds_bound (x ∷ xs) (v ∷ vs) pre rest e =
    let all = pre ++ (v ∷ (vs ++ rest)) in
    let within : length pre < length all = omega (arith, length-append pre (v ∷ (vs ++ rest))) in
    let at : slice_get all (length pre) ≡ Some v = slice_get-get_or all (length pre) v within ∙ ap Some (get_or-append_seam pre v (vs ++ rest) v) in
    let n : length (pre ++ v ∷ []) ≡ suc (length pre) = omega (arith, length-append pre (v ∷ [])) in
    let more = holds_bound xs vs (pre ++ v ∷ []) rest (omega (arith, e)) in
    let more' = subst (λ k. Holds (numbered xs k) (bound xs vs) ((pre ++ v ∷ []) ++ (vs ++ rest))) n more in
    (refl, (at, free_numbered xs (suc (length pre)) (length pre) (omega arith)), subst (λ l. Holds (numbered xs (suc (length pre))) (bound xs vs) l) (append_assoc pre (v ∷ []) (vs ++ rest)) more')

-- globals by their numbers

same_position : (gs : Bindings) (x : List ℕ) (n : ℕ) → position_of (names_of gs) x ≡ n → get_or (values gs) n none ≡ value_in gs x
same_position [] x n e = refl
same_position (b ∷ gs) x n e =
    let go : (same : Bool) (n : ℕ) → (if same then 0 else position_of (names_of gs) x + 1) ≡ n → get_or (values (b ∷ gs)) n none ≡ (if same then b.1 else value_in gs x) = elim [
      | true ↦ λ n e. ap (λ k. get_or (values (b ∷ gs)) k none) (sym e)
      | false ↦ λ n e. let q : n ≡ suc (position_of (names_of gs) x) = omega (arith, e) in ap (λ k. get_or (values (b ∷ gs)) k none) q ∙ same_position gs x (position_of (names_of gs) x) refl
    ] in go (bytes_eq b.0 x) n e

pub global_value : (gs : Bindings) (globals : List (List ℕ)) (x : List ℕ) (v : Value) → names_of gs ≡ globals → slice_get (values gs) (position_of globals x) ≡ Some v → v ≡ value_in gs x
global_value gs globals x v named e =
    sym (get_or_from_slice_get (values gs) (position_of globals x) v none e) ∙ same_position gs x (position_of globals x) (ap (λ ns. position_of ns x) named)

stored_at : (gs : Bindings) (x : List ℕ) (v : Value) → slice_set (values gs) (position_of (names_of gs) x) v ≡ values (stored_in gs x v)
stored_at [] x v = refl
stored_at (b ∷ gs) x v =
    let go : (same : Bool) → slice_set (values (b ∷ gs)) (if same then 0 else position_of (names_of gs) x + 1) v ≡ values (if same then (b.0, v) ∷ gs else b ∷ stored_in gs x v) = elim [
      | true ↦ refl
      | false ↦ let e : position_of (names_of gs) x + 1 ≡ suc (position_of (names_of gs) x) = omega arith in ap (λ n. slice_set (values (b ∷ gs)) n v) e ∙ ap (λ l. b.1 ∷ l) (stored_at gs x v)
    ] in go (bytes_eq b.0 x)

pub global_stored : (gs : Bindings) (globals : List (List ℕ)) (x : List ℕ) (v : Value) → names_of gs ≡ globals → slice_set (values gs) (position_of globals x) v ≡ values (stored_in gs x v)
global_stored gs globals x v named = ap (λ ns. slice_set (values gs) (position_of ns x) v) (sym named) ∙ stored_at gs x v

pub stored_names : (gs : Bindings) (x : List ℕ) (v : Value) → names_of (stored_in gs x v) ≡ names_of gs
stored_names [] x v = refl
stored_names (b ∷ gs) x v =
    let go : (same : Bool) → names_of (if same then (b.0, v) ∷ gs else b ∷ stored_in gs x v) ≡ b.0 ∷ names_of gs = elim [
      | true ↦ refl
      | false ↦ ap (λ l. b.0 ∷ l) (stored_names gs x v)
    ] in go (bytes_eq b.0 x)

-- the first k of so many values, and the others
pub record Split (us : List Value) (k m : ℕ) : Type 0 where
  pub args : List Value
  pub steps : List Value
  pub is : us ≡ args ++ steps
  pub few : length args ≡ k
  pub rest : length steps ≡ m

pub split : (us : List Value) (k m : ℕ) → length us ≡ k + m → Split us k m
split us zero m e = record { args = []; steps = us; is = refl; few = refl; rest = omega (arith, e) }
split [] (suc k) m e = absurd (omega (arith, e))
split (v ∷ us) (suc k) m e = let s = split us k m (omega (arith, e)) in record { args = v ∷ s.args; steps = s.steps; is = ap (λ l. v ∷ l) s.is; few = ap suc s.few; rest = s.rest }

-- held slots

pub keeps_other : (hs : List ℕ) (vs slots : List Value) (i : ℕ) (v : Value) → Unheld i hs → KeepsHeld hs vs slots → KeepsHeld hs vs (slice_set slots i v)
keeps_other [] [] slots i v free h = tt
keeps_other [] (w ∷ vs) slots i v free h = h
keeps_other (j ∷ hs) [] slots i v free h = h
keeps_other (j ∷ hs) (w ∷ vs) slots i v free h = (get_other slots i j v w free.0 h.0, keeps_other hs vs slots i v free.1 h.1)

apart_slot : (x : List ℕ) (ns : Names) (i : ℕ) (hs : List ℕ) → slot_of ns x ≡ Some i → Apart ns hs → Unheld i hs
apart_slot x [] i hs e h = absurd (cc e)
apart_slot x (p ∷ ns) i hs e h =
    let go : (b : Bool) → (if b then p.1 else slot_of ns x) ≡ Some i → Unheld i hs = elim [
      | true ↦ λ e'. subst (λ o. Clear o hs) e' h.0
      | false ↦ λ e'. apart_slot x ns i hs e' h.1
    ] in go (bytes_eq p.0 x) e

clear_none : (o : Option ℕ) → Clear o []
clear_none None = tt
clear_none (Some i) = tt

clear_fewer : (o : Option ℕ) (i : ℕ) (hs : List ℕ) → Clear o (i ∷ hs) → Clear o hs
clear_fewer None i hs h = tt
clear_fewer (Some j) i hs h = h.1

clear_more : (o : Option ℕ) (i : ℕ) (hs : List ℕ) → o ≢ Some i → Clear o hs → Clear o (i ∷ hs)
clear_more None i hs n h = tt
clear_more (Some j) i hs n h = ((λ e. n (ap Some (sym e))), h)

apart_none : (ns : Names) → Apart ns []
apart_none [] = tt
apart_none (p ∷ ns) = (clear_none p.1, apart_none ns)

pub apart_more : (ns : Names) (i : ℕ) (hs : List ℕ) → Free i ns → Apart ns hs → Apart ns (i ∷ hs)
apart_more [] i hs free h = tt
apart_more (p ∷ ns) i hs free h = (clear_more p.1 i hs free.0 h.0, apart_more ns i hs free.1 h.1)

apart_outer : (added ns : Names) (hs : List ℕ) → Apart (added ++ ns) hs → Apart ns hs
apart_outer [] ns hs h = h
apart_outer (p ∷ added) ns hs h = apart_outer added ns hs h.1

apart_fewer : (ns : Names) (i : ℕ) (hs : List ℕ) → Apart ns (i ∷ hs) → Apart ns hs
apart_fewer [] i hs h = tt
apart_fewer (p ∷ ns) i hs h = (clear_fewer p.1 i hs h.0, apart_fewer ns i hs h.1)

pub fits_outer : (added ns : Names) (held : List ℕ) (kept : List Value) (ls : Bindings) (slots : List Value) (k : ℕ) → k ≡ length ns → Fits (added ++ ns) held kept ls slots → Fits ns held kept (outer k ls) slots
fits_outer added ns held kept ls slots k e f = record { holds = holds_outer added ns ls slots k e f.holds; keeps = f.keeps; apart = apart_outer added ns held f.apart }

-- without the slots that a loop held
pub fits_fewer : (ns : Names) (more held : List ℕ) (hold kept : List Value) (ls : Bindings) (slots : List Value) → length more ≡ length hold → Fits ns (more ++ held) (hold ++ kept) ls slots → Fits ns held kept ls slots
fits_fewer ns [] held [] kept ls slots e f = f
fits_fewer ns [] held (v ∷ hold) kept ls slots e f = absurd (omega (arith, e))
fits_fewer ns (i ∷ more) held [] kept ls slots e f = absurd (omega (arith, e))
fits_fewer ns (i ∷ more) held (v ∷ hold) kept ls slots e f = fits_fewer ns more held hold kept ls slots (omega (arith, e)) (record { holds = f.holds; keeps = f.keeps.1; apart = apart_fewer ns i (more ++ held) f.apart })

pub fits_new : (x : List ℕ) (slot : ℕ) (v : Value) (ns : Names) (held : List ℕ) (kept : List Value) (ls : Bindings) (slots : List Value) → slot < length slots → Free slot ns → Unheld slot held → Fits ns held kept ls slots → Fits ((x, Some slot) ∷ ns) held kept ((x, v) ∷ ls) (slice_set slots slot v)
fits_new x slot v ns held kept ls slots within free unheld f =
    record { holds = (refl, (get_same slots slot v within, free), holds_other ns ls slots slot v free f.holds); keeps = keeps_other held kept slots slot v unheld f.keeps; apart = (unheld, f.apart) }

pub fits_put : (x : List ℕ) (n : ℕ) (v : Value) (ns : Names) (held : List ℕ) (kept : List Value) (ls : Bindings) (slots : List Value) → slot_of ns x ≡ Some n → Fits ns held kept ls slots → Fits ns held kept (stored_in ls x v) (slice_set slots n v)
fits_put x n v ns held kept ls slots e f =
    record { holds = subst (λ q. Holds ns (stored_in ls x v) (stored q slots v)) e (holds_put x v ns ls slots f.holds); keeps = keeps_other held kept slots n v (apart_slot x ns n held e f.apart) f.keeps; apart = f.apart }

-- a call's parameters
pub fits_bound : (xs : List (List ℕ)) (vs rest : List Value) → length vs ≡ length xs → Fits (numbered xs 0) [] [] (bound xs vs) (vs ++ rest)
fits_bound xs vs rest e = record { holds = holds_bound xs vs [] rest e; keeps = tt; apart = apart_none (numbered xs 0) }

-- a further slot that is held
pub fits_held : (slot : ℕ) (v : Value) (ns : Names) (held : List ℕ) (kept : List Value) (ls : Bindings) (slots : List Value) → slot < length slots → Free slot ns → Unheld slot held → Fits ns held kept ls slots → Fits ns (slot ∷ held) (v ∷ kept) ls (slice_set slots slot v)
fits_held slot v ns held kept ls slots within free unheld f =
    record { holds = holds_other ns ls slots slot v free f.holds; keeps = (get_same slots slot v within, keeps_other held kept slots slot v unheld f.keeps); apart = apart_more ns slot held free f.apart }

-- a slot that is held gets another value
pub fits_again : (slot : ℕ) (old v : Value) (ns : Names) (held : List ℕ) (kept : List Value) (ls : Bindings) (slots : List Value) → Free slot ns → Unheld slot held → Fits ns (slot ∷ held) (old ∷ kept) ls slots → Fits ns (slot ∷ held) (v ∷ kept) ls (slice_set slots slot v)
fits_again slot old v ns held kept ls slots free unheld f =
    record { holds = holds_other ns ls slots slot v free f.holds; keeps = (get_same slots slot v (slice_get_within slots slot old f.keeps.0), keeps_other held kept slots slot v unheld f.keeps.1); apart = f.apart }

-- what a thread of a block begins with

passed_apart : (is : List ℕ) (from to : Option ℕ) (i k : ℕ) → PassedTo is from to → slice_get is k ≡ Some i → from ≢ Some i → to ≢ Some k
passed_apart is from None i k h e apart f = absurd (Prim.cc f)
passed_apart is from (Some j) i k h e apart f =
    let same : Some j ≡ Some k = f in
    apart (h.1 ∙ sym h.2 ∙ ap (λ (q : Option ℕ). slice_get is (place q)) same ∙ e)
  where
    place : Option ℕ → ℕ
    place None = 0
    place (Some k) = k

free_passed : (ns : Names) (is : List ℕ) (ns' : Names) (i k : ℕ) → Passed ns is ns' → slice_get is k ≡ Some i → Free i ns → Free k ns'
free_passed [] is [] i k h e free = tt
free_passed [] is (q ∷ ns') i k h e free = absurd h
free_passed (p ∷ ns) is [] i k h e free = absurd h
free_passed (p ∷ ns) is (q ∷ ns') i k h e free = (passed_apart is p.1 q.1 i k h.1 e free.0, free_passed ns is ns' i k h.2 e free.1)

kept_at : (is : List ℕ) (us slots : List Value) (k i : ℕ) (v : Value) → KeepsHeld is us slots → slice_get is k ≡ Some i → slice_get slots i ≡ Some v → slice_get us k ≡ Some v
kept_at [] [] slots k i v h e f = absurd (cc e)
kept_at [] (w ∷ us) slots k i v h e f = absurd h
kept_at (j ∷ is) [] slots k i v h e f = absurd h
kept_at (j ∷ is) (w ∷ us) slots zero i v h e f = sym h.0 ∙ ap (λ (q : Option ℕ). q >>= λ n. slice_get slots n) e ∙ f
kept_at (j ∷ is) (w ∷ us) slots (suc k) i v h e f = kept_at is us slots k i v h.1 e f

front_at : (us rest : List Value) (k : ℕ) (v : Value) → slice_get us k ≡ Some v → slice_get (us ++ rest) k ≡ Some v
front_at [] rest k v e = absurd (cc e)
front_at (w ∷ us) rest zero v e = e
front_at (w ∷ us) rest (suc k) v e = front_at us rest k v e

in_slot_passed : (is : List ℕ) (us slots rest : List Value) (from to : Option ℕ) (v : Value) (ns ns' : Names) → KeepsHeld is us slots → PassedTo is from to → Passed ns is ns' → InSlot from v ns slots → InSlot to v ns' (us ++ rest)
in_slot_passed is us slots rest from None v ns ns' keeps to others h = tt
in_slot_passed is us slots rest from (Some k) v ns ns' keeps to others h =
    let was : InSlot (Some to.0) v ns slots = subst (λ o. InSlot o v ns slots) to.1 h in
    (front_at us rest k v (kept_at is us slots k to.0 v keeps to.2 was.0), free_passed ns is ns' to.0 k others to.2 was.1)

-- the values of the slots, in their order, are the first of the thread
pub passes : (ns : Names) (ls : Bindings) (us slots rest : List Value) (is : List ℕ) (ns' : Names) → Holds ns ls slots → KeepsHeld is us slots → Passed ns is ns' → Holds ns' ls (us ++ rest)
passes [] [] us slots rest is [] h keeps p = tt
passes [] ls us slots rest is (q ∷ ns') h keeps p = absurd p
passes [] (b ∷ ls) us slots rest is [] h keeps p = absurd h
passes (n ∷ ns) [] us slots rest is ns' h keeps p = absurd h
passes (n ∷ ns) (b ∷ ls) us slots rest is [] h keeps p = absurd p
passes (n ∷ ns) (b ∷ ls) us slots rest is (q ∷ ns') h keeps p = (sym p.0 ∙ h.0, in_slot_passed is us slots rest n.1 q.1 b.1 ns ns' keeps p.1 p.2 h.1, passes ns ls us slots rest is ns' h.2 keeps p.2)

pub fits_passed : (ns' : Names) (ls : Bindings) (slots : List Value) → Holds ns' ls slots → Fits ns' [] [] ls slots
fits_passed ns' ls slots h = record { holds = h; keeps = tt; apart = apart_none ns' }
