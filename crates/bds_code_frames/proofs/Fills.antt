-- Slots that are added together.
use Rattle.std.proofs.Common.{◌≡◌, ◌+◌, ℕ, List, [], ◌∷◌, ◌++◌, length, take, drop, reverse, Option, Some, None, IsSome}
use Rattle.std.proofs.Common.{true, refl, sym, ap, ◌∙◌, subst, arith}
use Rattle.std.proofs.lemmas.List.{take_all, drop_all, take-append-le, drop-append-le, length-drop, length-append}
use Rattle.bds_value.specs.declared.value.Value.{Value}
use Rattle.bds_value.specs.declared.value.Value.TheVariants as value
use Rattle.bds_code_frames.specs.declared.frame.Frame.{Frame}
use Rattle.bds_code_frames.specs.declared.head.Head.{Head}
use Rattle.bds_code_frames.specs.Laid.{frame_at, under, IsLaid, frames_of}
use Rattle.bds_code_frames.specs.Stack.{stack, slot_added, slots_added, with_slots}
use Rattle.bds_code_frames.proofs.Newest.{apart, defined_newest}
use Rattle.bds_code_frames.proofs.Steps.{top, laid-some, below-kept, none-left}

module _ (vs ws us : List Value) (below : List Head) (old : List Frame) (newest : Option Head) (h : Head) (n : ℕ)
    (view : frames_of vs below newest ≡ old) (is : newest ≡ Some h) (laid : IsLaid vs below newest) (alone : (v : Value)
    → IsSome (slot_added v (stack old))) (e : ws ≡ vs ++ us) (count : length us ≡ n) where
  no-operands : drop h.operands vs ≡ []
  no-operands = none-left (drop h.operands vs) (value.Bool true) _ _
      (defined_newest vs below old newest h view is (slot_added (value.Bool true)) (alone (value.Bool true)))

  end_of : h.operands ≡ length vs
  end_of =
      let b = (laid-some vs below newest h is laid).3.operands in
      let len = length-drop h.operands vs in
      let zero_len : length (drop h.operands vs) ≡ 0 = ap length no-operands in
      omega arith

  longer : length ws ≡ length vs + n
  longer = ap length e ∙ length-append vs us ∙ ap (λ m. length vs + m) count

  pub slots_added-is : slots_added us (stack old) ≡ Some (stack (under ws below h.slots
      ++ frame_at ws (record {
        function = h.function;
        place = h.place;
        slots = h.slots;
        operands = h.operands + n;
      }) ∷ []))
  slots_added-is =
      let l = laid-some vs below newest h is laid in
      let a = l.3.slots in
      let end = end_of in
      let m = longer in
      let k : Head = record { function = h.function; place = h.place; slots = h.slots; operands = h.operands + n } in
      let s : drop h.slots (take (h.operands + n) ws) ≡ drop h.slots (take h.operands vs) ++ us =
      ap (drop h.slots) (take_all (h.operands + n) ws (omega arith)) ∙ ap (drop h.slots) e
      ∙ drop-append-le h.slots vs us (omega arith)
      ∙ ap (λ xs. drop h.slots xs ++ us) (sym (take_all h.operands vs (omega arith))) in
      let o : drop (h.operands + n) ws ≡ [] = drop_all (h.operands + n) ws (omega arith) in
      let t : take h.slots vs ≡ take h.slots ws =
      sym (ap (take h.slots) e ∙ take-append-le h.slots vs us (omega arith)) in
      ap (slots_added us) (apart vs below old newest h view is)
      ∙ ap (λ os. Some (with_slots (drop h.slots (take h.operands vs)
      ++ us) (record {
        function = h.function;
        place = h.place;
        slots = drop h.slots (take h.operands vs);
        ops = reverse os;
      }) ∷ stack (under vs below h.slots))) no-operands
      ∙ ap Some (sym (top ws below k _ _ (under vs below h.slots) s o (below-kept vs ws below h l t)))

-- without a frame there is none to add to
pub frame-there : (vs : List Value) (below : List Head) (old : List Frame) (newest : Option Head)
    → frames_of vs below newest ≡ old → newest ≡ None → ((v : Value) → IsSome (slot_added v (stack old))) → ⊥
frame-there vs below old newest view is alone =
    let e : old ≡ [] = sym view ∙ ap (frames_of vs below) is in
    let q : IsSome (slot_added (value.Bool true) (stack [])) =
    subst (λ fs. IsSome (slot_added (value.Bool true) (stack fs))) e (alone (value.Bool true)) in
    absurd (cc)

pub some-there : {X : Type 0} (o : Option X) → (o ≡ None → ⊥) → IsSome o
some-there None h = absurd (h refl)
some-there (Some x) h = refl

pub newest-head : {X : Type 0} (o : Option X) → IsSome o → (x : X) × (o ≡ Some x)
newest-head None h = absurd (cc)
newest-head (Some x) h = (x, refl)
