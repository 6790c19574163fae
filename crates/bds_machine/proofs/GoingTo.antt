-- Where the newest call stands behind rows that leave it the newest.
use Rattle.std.proofs.Common.{◌≡◌, ℕ, List, [], ◌∷◌, Option, Some, None, slice_get, slice_set, option_map}
use Rattle.std.proofs.Common.{sym, ap, ◌∙◌, subst}
use Rattle.bds_value.specs.declared.value.Value.{Value}
use Rattle.bds_code_frames.specs.Stack.{Stack, beside, stack, place_of, moved, pushed, popped, popped_of, swapped}
use Rattle.bds_code_frames.specs.Stack.{with_place, with_slots}
use Rattle.bds_code_frames.specs.declared.frame.Frame.{Frame}
use Rattle.bds_machine.specs.Stretches.{GoesTo}

same_some : {X : Type 0} (x y : X) → Some x ≡ Some y → x ≡ y
same_some x y e = cc

none_some : {X : Type 0} (x : X) → ◌≡◌ {A = Option X} None (Some x) → ⊥
none_some x e = absurd (cc)

pub moved_goes : (next : ℕ) (s s' : Stack) → moved next s ≡ Some s' → GoesTo next s s'
moved_goes next [] s' e = elim (none_some s' e) [ ]
moved_goes next (c ∷ below) s' e = ap place_of (sym (same_some (with_place next c ∷ below) s' e))

swapped_place : (slot : ℕ) (v old : Value) (s s' : Stack) → swapped slot v s ≡ Some (old, s') → place_of s' ≡ place_of s
swapped_place slot v old [] s' e = elim (none_some (old, s') e) [ ]
swapped_place slot v old (c ∷ below) s' e = from (slice_get c.slots slot) e
  where
    from : (o : Option Value) → beside o (with_slots (slice_set c.slots slot v) c ∷ below) ≡ Some (old, s')
        → place_of s' ≡ Some (c.function, c.place)
    from None e = elim (none_some (old, s') e) [ ]
    from (Some w) e =
        ap (λ (x : Value × Stack). place_of x.1)
        (sym (same_some (w, with_slots (slice_set c.slots slot v) c ∷ below) (old, s') e))

pub swapped_goes : (next slot : ℕ) (v : Value) (s s1 s2 : Stack) → moved next s ≡ Some s1
    → (old : Value) × (swapped slot v s1 ≡ Some (old, s2)) → GoesTo next s s2
swapped_goes next slot v s s1 s2 e h = swapped_place slot v h.0 s1 s2 h.1 ∙ moved_goes next s s1 e

pub goes_behind : (next slot : ℕ) (v : Value) (s s1 s2 : Stack) → (old : Value) × (swapped slot v s ≡ Some (old, s1))
    → moved next s1 ≡ Some s2 → GoesTo next s s2
goes_behind next slot v s s1 s2 h e =
    moved_goes next s1 s2 e ∙ ap (option_map (λ (p : ℕ × ℕ). (p.0, next))) (swapped_place slot v h.0 s s1 h.1)

pushed_place : (v : Value) (s s' : Stack) → pushed v s ≡ Some s' → place_of s' ≡ place_of s
pushed_place v [] s' e = elim (none_some s' e) [ ]
pushed_place v (c ∷ below) s' e = ap place_of (sym (same_some _ s' e))

pub pushed_goes : (next : ℕ) (v : Value) (s s1 s2 : Stack) → pushed v s ≡ Some s1 → moved next s1 ≡ Some s2
    → GoesTo next s s2
pushed_goes next v s s1 s2 h e =
    moved_goes next s1 s2 e ∙ ap (option_map (λ (p : ℕ × ℕ). (p.0, next))) (pushed_place v s s1 h)

popped_place : (v : Value) (s s' : Stack) → popped s ≡ Some (v, s') → place_of s' ≡ place_of s
popped_place v [] s' e = elim (none_some (v, s') e) [ ]
popped_place v (c ∷ below) s' e = from c.ops e
  where
    from : (ops : List Value) → popped_of ops c below ≡ Some (v, s') → place_of s' ≡ Some (c.function, c.place)
    from [] e = elim (none_some (v, s') e) [ ]
    from (w ∷ ws) e = ap (λ (x : Value × Stack). place_of x.1) (sym (same_some _ (v, s') e))

pub popped_goes : (next : ℕ) (v : Value) (s s1 s2 : Stack) → popped s ≡ Some (v, s1) → GoesTo next s1 s2
    → GoesTo next s s2
popped_goes next v s s1 s2 h e = e ∙ ap (option_map (λ (p : ℕ × ℕ). (p.0, next))) (popped_place v s s1 h)

pub kept_goes : (next : ℕ) (fs mid : List Frame) (s' : Stack) → mid ≡ fs → GoesTo next (stack mid) s'
    → GoesTo next (stack fs) s'
kept_goes next fs mid s' same e = subst (λ fs. GoesTo next (stack fs) s') same e

pub goes_from : (next number at : ℕ) (s s' : Stack) → GoesTo next s s' → place_of s ≡ Some (number, at)
    → place_of s' ≡ Some (number, next)
goes_from next number at s s' e stands = e ∙ ap (option_map (λ (p : ℕ × ℕ). (p.0, next))) stands
