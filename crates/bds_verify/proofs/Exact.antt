-- The pass finds nothing wrong exactly where there is one list for each place.
use Rattle.std.proofs.Common.{◌≡◌, ◌<◌, ◌≤◌, ◌+◌, ◌⊎◌, inl, inr, ◌||◌, ℕ, zero, suc, nat_lt, nat_eq, List, [], length, slice_get, get_or, Option, Some, None, Result, Ok, Err, IsSome, Bool, true, false, cond, add-one, refl, sym, ◌∙◌, ap, subst, arith}
use Rattle.std.proofs.lemmas.Grind.{common_steps}
use Rattle.std.proofs.lemmas.Bool.{cases_lt}
use Rattle.std.proofs.lemmas.Option.{slice_get_within, slice_get-get_or}
use Rattle.bds_value.specs.declared.value.Ty.{Ty}
use Rattle.bds_code.specs.declared.instr.Instr.{Instr}
use Rattle.bds_code.specs.declared.instr.Instr.TheVariants.{Tick}
use Rattle.bds_code.specs.declared.unit.Function.{Function}
use Rattle.bds_code.specs.declared.unit.Unit.{Unit as CodeUnit}
use Rattle.bds_code.specs.declared.effects.EffectFault.{EffectFault}
use Rattle.bds_verify.specs.declared.places.Kind.{Kind}
use Rattle.bds_verify.specs.declared.places.Kind.TheVariants.{NoTick, RunsOff}
use Rattle.bds_verify.specs.Verified.{label_at, goes_on, target, after, IsFine, AreShapes}
use Rattle.bds_verify.specs.Pass.{or_else, shape_of, differs, no_tick, to_label, jump_fault, ended, runs_off, judged, kept, judge_at, onward_at, comes, fault_at, is_tick}
use Rattle.bds_verify.proofs.SameTys.{differs-none, same_tys-refl}
use Rattle.bds_verify.proofs.Steps.{comes-next}

or_else-none : (a b : Option Kind) → or_else a b ≡ None → (a ≡ None) × (b ≡ None)
or_else-none None b h = (refl, h)
or_else-none (Some k) b h = absurd (cc)

chosen : (b : Bool) (k : Kind) → cond b None (Some k) ≡ None → b ≡ true
chosen true k h = refl
chosen false k h = absurd (cc)

differs-same : (d : List Ty) → differs (Some d) (Some d) ≡ None
differs-same d = rw (same_tys-refl d) refl

-- a list that comes and passes is the list at the place
arrives : (label come : Option (List Ty)) (c : List Ty) → differs label come ≡ None → come ≡ Some c → shape_of label come ≡ c
arrives None come c h e = rw e refl
arrives (Some d) come c h e = sym (differs-none d c (subst (λ x. differs (Some d) x ≡ None) e h))

is_tick-true : (i : Option Instr) → is_tick i ≡ true → i ≡ Some Tick
is_tick-true (Some Tick) h = refl
is_tick-true _ h = absurd (cc)

both_ways : (a b : Bool) (k : Kind) → b ≡ true → cond (a || b) None (Some k) ≡ None
both_ways true b k e = refl
both_ways false true k e = refl
both_ways false false k e = absurd (cc)

labelled : (n m : ℕ) (P : Type 0) → (n ≡ m) ⊎ P → n < m → P
labelled n m P (inl e) l = absurd (omega arith)
labelled n m P (inr p) l = p

module _ (u : CodeUnit) (f : Function) where
  ticks : (place to : ℕ) → no_tick f place to ≡ None → to ≤ place → slice_get f.code to ≡ Some Tick
  ticks place to h l =
      let t : (nat_lt place to || is_tick (slice_get f.code to)) ≡ true = chosen (nat_lt place to || is_tick (slice_get f.code to)) (NoTick to) h in
      is_tick-true (slice_get f.code to) (grind (arith, common_steps))

  jumps : (label : Option (List Ty)) (place to : ℕ) (next : List Ty) → to_label f label place to next ≡ None → (label ≡ Some next) × (to ≤ place → slice_get f.code to ≡ Some Tick)
  jumps None place to next h = absurd (cc)
  jumps (Some d) place to next h =
      let p : (no_tick f place to ≡ None) × (differs (Some d) (Some next) ≡ None) = or_else-none (no_tick f place to) (differs (Some d) (Some next)) h in
      (ap (λ x. Some x) (sym (differs-none d next p.1)), ticks place to p.0)

  jumped : (to? : Option ℕ) (place : ℕ) (next : List Ty) → jump_fault f to? place next ≡ None → (to : ℕ) → to? ≡ Some to → (label_at f.labels to ≡ Some next) × (to ≤ place → slice_get f.code to ≡ Some Tick)
  jumped None place next h to e = absurd (cc)
  jumped (Some t) place next h to e =
      let same : t ≡ to = cc in
      subst (λ n. (label_at f.labels n ≡ Some next) × (n ≤ place → slice_get f.code n ≡ Some Tick)) same (jumps (label_at f.labels t) place t next h)

  fell : (place : ℕ) → runs_off f true place ≡ None → place + 1 < length f.code
  fell place h = let t : nat_lt (place + 1) (length f.code) ≡ true = chosen (nat_lt (place + 1) (length f.code)) RunsOff h in grind (arith, common_steps)

  ends : (label : Option (List Ty)) (place : ℕ) → ended f label place ≡ None → (place + 1 ≡ length f.code) ⊎ IsSome label
  ends None place h = let t : nat_eq (place + 1) (length f.code) ≡ true = chosen (nat_eq (place + 1) (length f.code)) RunsOff h in inl (grind (arith, common_steps))
  ends (Some d) place h = inr (grind (arith, common_steps))

  -- the list at a place
  abbrev pub shape : ℕ → List Ty
  shape n = shape_of (label_at f.labels n) (comes u f n)

  module _ (code : 0 < length f.code) (ok : (n : ℕ) → n < length f.code → fault_at u f n ≡ None) where
    here : (n : ℕ) → n < length f.code → (differs (label_at f.labels n) (comes u f n) ≡ None) × (judge_at u f (slice_get f.code n) n (shape n) ≡ None)
    unfolding fault_at
    here n l = or_else-none (differs (label_at f.labels n) (comes u f n)) (judge_at u f (slice_get f.code n) n (shape n)) (ok n l)

    at_row : (n : ℕ) (i : Instr) (r : Result (List Ty) EffectFault) → slice_get f.code n ≡ Some i → n < length f.code → after u f i (shape n) ≡ r
        → judged f i n (shape n) r ≡ None → (next : List Ty) × IsFine u f shape n i next
    at_row n i (Err e) is l eff h = absurd (cc)
    at_row n i (Ok next) is l eff h =
        let p : (jump_fault f (target i) n next ≡ None) × (runs_off f (goes_on i) n ≡ None) = or_else-none (jump_fault f (target i) n next) (runs_off f (goes_on i) n) h in (
          next,
          record {
            effect = eff;
            jump = jumped (target i) n next p.0;
            falls = λ g.
                let within : n + 1 < length f.code = fell n (subst (λ b. runs_off f b n ≡ None) g p.1) in
                let come : comes u f (n + 1) ≡ Some next = comes-next u f n ∙ ap (λ x. onward_at u f x (shape n)) is ∙ ap (λ b. kept f b (after u f i (shape n))) g ∙ ap (λ r. kept f true r) eff in
                (within, arrives (label_at f.labels (n + 1)) (comes u f (n + 1)) next (here (n + 1) within).0 come);
            ends = λ g. ends (label_at f.labels (n + 1)) n (subst (λ b. runs_off f b n ≡ None) g p.1);
          },
        )

    pub pass_sound : AreShapes u f shape
    pass_sound = record {
      start = arrives (label_at f.labels 0) (Some []) [] (here 0 code).0 refl;
      labels = λ n declared l e. ap (λ x. shape_of x (comes u f n)) e;
      each = λ n i is.
          let l : n < length f.code = slice_get_within f.code n i is in
          at_row n i (after u f i (shape n)) is l refl (subst (λ x. judge_at u f x n (shape n) ≡ None) is (here n l).1);
    }

  module _ (shapes : ℕ → List Ty) (good : AreShapes u f shapes) where
    pub record Agrees (n : ℕ) : Type 0 where
      pub same : shape n ≡ shapes n
      pub came : (c : List Ty) → comes u f n ≡ Some c → c ≡ shapes n

    from_label : (n : ℕ) (label come : Option (List Ty)) → ((d : List Ty) → label ≡ Some d → shapes n ≡ d) → ((c : List Ty) → come ≡ Some c → c ≡ shapes n)
        → (come ≡ None → IsSome label) → shape_of label come ≡ shapes n
    from_label n (Some d) come declared came none = sym (declared d refl)
    from_label n None (Some c) declared came none = came c refl
    from_label n None None declared came none = (let p : IsSome {T = List Ty} None = none refl in absurd (cc))

    agrees : (n : ℕ) → n < length f.code → ((c : List Ty) → comes u f n ≡ Some c → c ≡ shapes n) → (comes u f n ≡ None → IsSome (label_at f.labels n)) → Agrees n
    agrees n l came none = record { same = from_label n (label_at f.labels n) (comes u f n) (λ d e. good.labels n d l e) came none; came = came }

    come_next : (n : ℕ) (i : Instr) (next : List Ty) → slice_get f.code n ≡ Some i → Agrees n → IsFine u f shapes n i next → comes u f (n + 1) ≡ kept f (goes_on i) (Ok next)
    come_next n i next is a fine =
        comes-next u f n ∙ ap (λ x. onward_at u f x (shape n)) is ∙ ap (λ s. kept f (goes_on i) (after u f i s)) a.same ∙ ap (λ r. kept f (goes_on i) r) fine.effect

    onwards : (n : ℕ) (i : Instr) (next : List Ty) (b : Bool) → goes_on i ≡ b → n + 1 < length f.code → IsFine u f shapes n i next → comes u f (n + 1) ≡ kept f b (Ok next) → Agrees (n + 1)
    onwards n i next true g l fine come = agrees (n + 1) l (λ c e. let same : c ≡ next = cc in same ∙ sym (fine.falls g).1) (λ e. absurd (cc))
    onwards n i next false g l fine come = agrees (n + 1) l (λ c e. absurd (cc)) (λ e. labelled _ _ _ (fine.ends g) l)

    pub all_agree : (n : ℕ) → n < length f.code → Agrees n
    all_agree zero l = agrees 0 l (λ c e. let same : c ≡ [] = cc in same ∙ sym good.start) (λ e. absurd (cc))
    all_agree (suc n) l =
        let before : n < length f.code = omega arith in
        let there = slice_get-get_or f.code n Tick before in
        let i = get_or f.code n Tick in
        let fine = good.each n i there in
        let a : Agrees n = all_agree n before in
        let next : Agrees (n + 1) = onwards n i fine.0 (goes_on i) refl (omega arith) fine.1 (come_next n i fine.0 there a fine.1) in
        subst Agrees (add-one n) next

    no_tick-none : (place to : ℕ) → (to ≤ place → slice_get f.code to ≡ Some Tick) → no_tick f place to ≡ None
    no_tick-none place to h = elim (cases_lt place to) [
      | inl l ↦ (let e : nat_lt place to ≡ true = grind (arith, common_steps) in rw e refl)
      | inr l ↦ (let e : is_tick (slice_get f.code to) ≡ true = ap is_tick (h l) in both_ways (nat_lt place to) (is_tick (slice_get f.code to)) (NoTick to) e)
    ]

    jump-none : (to? : Option ℕ) (place : ℕ) (next : List Ty) → ((to : ℕ) → to? ≡ Some to → (label_at f.labels to ≡ Some next) × (to ≤ place → slice_get f.code to ≡ Some Tick))
        → jump_fault f to? place next ≡ None
    jump-none None place next h = refl
    jump-none (Some to) place next h =
        let p = h to refl in
        ap (λ x. to_label f x place to next) p.0 ∙ ap (λ x. or_else x (differs (Some next) (Some next))) (no_tick-none place to p.1) ∙ differs-same next

    ended-none : (label : Option (List Ty)) (place : ℕ) → (place + 1 ≡ length f.code) ⊎ IsSome label → ended f label place ≡ None
    ended-none (Some d) place h = refl
    ended-none None place (inl e) = let t : nat_eq (place + 1) (length f.code) ≡ true = grind (arith, common_steps) in rw t refl
    ended-none None place (inr p) = absurd (cc)

    off-none : (b : Bool) (place : ℕ) → (b ≡ true → place + 1 < length f.code) → (b ≡ false → (place + 1 ≡ length f.code) ⊎ IsSome (label_at f.labels (place + 1))) → runs_off f b place ≡ None
    off-none true place h g = let l : place + 1 < length f.code = h refl in let t : nat_lt (place + 1) (length f.code) ≡ true = grind (arith, common_steps) in rw t refl
    off-none false place h g = ended-none (label_at f.labels (place + 1)) place (g refl)

    differs-none' : (label come : Option (List Ty)) (s : List Ty) → ((d : List Ty) → label ≡ Some d → s ≡ d) → ((c : List Ty) → come ≡ Some c → c ≡ s) → differs label come ≡ None
    differs-none' None come s h g = refl
    differs-none' (Some d) None s h g = refl
    differs-none' (Some d) (Some c) s h g = let e : c ≡ d = g c refl ∙ h d refl in ap (λ x. differs (Some d) (Some x)) e ∙ differs-same d

    pub pass_complete : (n : ℕ) → n < length f.code → fault_at u f n ≡ None
    unfolding fault_at
    pass_complete n l =
        let there = slice_get-get_or f.code n Tick l in
        let i = get_or f.code n Tick in
        let fine = good.each n i there in
        let a : Agrees n = all_agree n l in
        ap (λ x. or_else x (judge_at u f (slice_get f.code n) n (shape n))) (differs-none' (label_at f.labels n) (comes u f n) (shapes n) (λ d e. good.labels n d l e) a.came)
        ∙ ap (λ x. judge_at u f x n (shape n)) there
        ∙ ap (judged f i n (shape n)) (ap (after u f i) a.same ∙ fine.1.effect)
        ∙ ap (λ x. or_else x (runs_off f (goes_on i) n)) (jump-none (target i) n fine.0 fine.1.jump)
        ∙ off-none (goes_on i) n (λ g. (fine.1.falls g).0) fine.1.ends
