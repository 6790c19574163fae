-- What each change of the values does to the frames.
use Rattle.std.proofs.Common.{◌≡◌, ◌<◌, ◌≤◌, ◌+◌, ◌-◌, ℕ, List, [], ◌∷◌, ◌++◌, length, take, drop, reverse, slice_get, slice_set, get_or, Option, Some, None, IsSome, is_some, true, refl, sym, ap, ◌∙◌, subst, arith}
use Rattle.std.proofs.lemmas.List.{take_all, drop_all, take-append-le, drop-append-le, length-take-le, length-drop, length-append, reverse-append, length-reverse, take-set-le, drop-set-lt, drop-set-add, get_or-take, get_or-drop}
use Rattle.std.proofs.lemmas.Option.{slice_get-get_or}
use Rattle.std.proofs.Math.Seq.{take-set-lt}
use Rattle.bds_value.specs.declared.value.Value.{Value}
use Rattle.bds_code_frames.specs.declared.frame.Frame.{Frame}
use Rattle.bds_code_frames.specs.declared.head.Head.{Head}
use Rattle.bds_code_frames.specs.Laid.{frame_at, under, Fits, IsLaid, frames_of}
use Rattle.bds_code_frames.specs.Stack.{Call, call_of, Stack, stack, moved, pushed, popped, popped_of, swapped, beside, with_slots, slot_added, slot_added_of}
use Rattle.bds_code_frames.proofs.Laying.{under-keep, length-under}
use Rattle.bds_code_frames.proofs.Newest.{stack-push, apart, defined_newest}

-- the newest call by its parts
pub top : (ws : List Value) (below : List Head) (k : Head) (ss os : List Value) (us : List Frame) → drop k.slots (take k.operands ws) ≡ ss → drop k.operands ws ≡ os → under ws below k.slots ≡ us → stack (under ws below k.slots ++ frame_at ws k ∷ []) ≡ record { function = k.function; place = k.place; slots = ss; ops = reverse os } ∷ stack us
top ws below k ss os us s o u =
    stack-push (under ws below k.slots) (frame_at ws k)
    ∙ ap (λ xs. record { function = k.function; place = k.place; slots = xs; ops = reverse (drop k.operands ws) } ∷ stack (under ws below k.slots)) s
    ∙ ap (λ xs. record { function = k.function; place = k.place; slots = ss; ops = reverse xs } ∷ stack (under ws below k.slots)) o
    ∙ ap (λ fs. record { function = k.function; place = k.place; slots = ss; ops = reverse os } ∷ stack fs) u

pub laid-some : (vs : List Value) (below : List Head) (newest : Option Head) (h : Head) → newest ≡ Some h → IsLaid vs below newest → IsLaid vs below (Some h)
laid-some vs below newest h is l = subst (IsLaid vs below) is l

-- changes behind the beginning of the newest frame leave those below it
pub below-kept : (vs ws : List Value) (below : List Head) (h : Head) → IsLaid vs below (Some h) → take h.slots vs ≡ take h.slots ws → under ws below h.slots ≡ under vs below h.slots
below-kept vs ws below h l same = sym (under-keep vs ws below h.slots l.2 same)

pub pushed-is : (vs ws : List Value) (below : List Head) (old : List Frame) (newest : Option Head) (h : Head) (v : Value) → frames_of vs below newest ≡ old → newest ≡ Some h → IsLaid vs below newest → ws ≡ vs ++ v ∷ [] → pushed v (stack old) ≡ Some (stack (under ws below h.slots ++ frame_at ws h ∷ []))
pushed-is vs ws below old newest h v view is laid e =
    let l = laid-some vs below newest h is laid in
    let f = l.3 in
    let a = f.slots in
    let b = f.operands in
    let s : drop h.slots (take h.operands ws) ≡ drop h.slots (take h.operands vs) = ap (λ xs. drop h.slots (take h.operands xs)) e ∙ ap (drop h.slots) (take-append-le h.operands vs (v ∷ []) b) in
    let o : drop h.operands ws ≡ drop h.operands vs ++ v ∷ [] = ap (drop h.operands) e ∙ drop-append-le h.operands vs (v ∷ []) b in
    let t : take h.slots vs ≡ take h.slots ws = sym (ap (take h.slots) e ∙ take-append-le h.slots vs (v ∷ []) (omega arith)) in
    ap (pushed v) (apart vs below old newest h view is)
    ∙ ap (λ os. Some (record { function = h.function; place = h.place; slots = drop h.slots (take h.operands vs); ops = os } ∷ stack (under vs below h.slots))) (sym (reverse-append (drop h.operands vs) (v ∷ [])))
    ∙ ap Some (sym (top ws below h _ _ (under vs below h.slots) s o (below-kept vs ws below h l t)))

some-popped : (xs : List Value) (c : Call) (s : Stack) → IsSome (popped_of (reverse xs) c s) → 0 < length xs
some-popped [] c s d = absurd (cc)
some-popped (x ∷ xs) c s d = omega arith

-- there is an operand to take
pub operand-there : (vs : List Value) (below : List Head) (old : List Frame) (newest : Option Head) (h : Head) → frames_of vs below newest ≡ old → newest ≡ Some h → IsSome (popped (stack old)) → h.operands < length vs
operand-there vs below old newest h view is d =
    let some = some-popped (drop h.operands vs) _ _ (defined_newest vs below old newest h view is popped d) in
    let n = length-drop h.operands vs in
    omega arith

pub popped-is : (vs ws : List Value) (below : List Head) (old : List Frame) (newest : Option Head) (h : Head) (v : Value) → frames_of vs below newest ≡ old → newest ≡ Some h → IsLaid vs below newest → IsSome (popped (stack old)) → vs ≡ ws ++ v ∷ [] → popped (stack old) ≡ Some (v, stack (under ws below h.slots ++ frame_at ws h ∷ []))
popped-is vs ws below old newest h v view is laid d e =
    let l = laid-some vs below newest h is laid in
    let f = l.3 in
    let a = f.slots in
    let there = operand-there vs below old newest h view is d in
    let n : length vs ≡ length ws + 1 = ap length e ∙ length-append ws (v ∷ []) in
    let b : h.operands ≤ length ws = omega arith in
    let s : drop h.slots (take h.operands ws) ≡ drop h.slots (take h.operands vs) = sym (ap (λ xs. drop h.slots (take h.operands xs)) e ∙ ap (drop h.slots) (take-append-le h.operands ws (v ∷ []) b)) in
    let o : drop h.operands vs ≡ drop h.operands ws ++ v ∷ [] = ap (drop h.operands) e ∙ drop-append-le h.operands ws (v ∷ []) b in
    let t : take h.slots vs ≡ take h.slots ws = ap (take h.slots) e ∙ take-append-le h.slots ws (v ∷ []) (omega arith) in
    ap popped (apart vs below old newest h view is)
    ∙ ap (λ os. popped_of os (call_of (frame_at vs h)) (stack (under vs below h.slots))) (ap reverse o ∙ reverse-append (drop h.operands ws) (v ∷ []))
    ∙ ap (λ ss. Some (v, ss)) (sym (top ws below h _ _ (under vs below h.slots) s refl (below-kept vs ws below h l t)))

-- how many there are
pub count-is : (vs : List Value) (below : List Head) (newest : Option Head) (old : List Frame) (h : Head) → frames_of vs below newest ≡ old → newest ≡ Some h → length below + 1 ≡ length old
count-is vs below newest old h view is =
    sym (ap length (sym view) ∙ ap (λ o. length (frames_of vs below o)) is ∙ length-append (under vs below h.slots) (frame_at vs h ∷ []) ∙ ap (λ m. m + 1) (length-under vs below h.slots))

-- what stands in a slot
slots-length : (vs : List Value) (h : Head) → Fits h (length vs) → length (drop h.slots (take h.operands vs)) ≡ h.operands - h.slots
slots-length vs h f = length-drop h.slots (take h.operands vs) ∙ ap (λ n. n - h.slots) (length-take-le h.operands vs f.operands)

pub slot-in : (vs : List Value) (h : Head) (i : ℕ) → Fits h (length vs) → i < length (drop h.slots (take h.operands vs)) → h.slots + i < length vs
slot-in vs h i f w =
    let n = slots-length vs h f in
    let a = f.slots in
    let b = f.operands in
    omega arith

pub slot-is : (vs : List Value) (h : Head) (i : ℕ) (x : Value) → Fits h (length vs) → i < length (drop h.slots (take h.operands vs)) → x ≡ get_or vs (h.slots + i) x → slice_get (drop h.slots (take h.operands vs)) i ≡ Some x
slot-is vs h i x f w e =
    let n = slots-length vs h f in
    let a = f.slots in
    let b = f.operands in
    let at : h.slots + i < h.operands = omega arith in
    slice_get-get_or (drop h.slots (take h.operands vs)) i x w
    ∙ ap Some (get_or-drop h.slots (take h.operands vs) i x ∙ get_or-take h.operands vs (h.slots + i) x at)
    ∙ ap Some (sym e)

-- another value in a slot
pub swapped-is : (vs ws : List Value) (below : List Head) (old : List Frame) (newest : Option Head) (h : Head) (i : ℕ) (v x : Value) → frames_of vs below newest ≡ old → newest ≡ Some h → IsLaid vs below newest → i < length (drop h.slots (take h.operands vs)) → x ≡ get_or vs (h.slots + i) x → ws ≡ slice_set vs (h.slots + i) v → swapped i v (stack old) ≡ Some (x, stack (under ws below h.slots ++ frame_at ws h ∷ []))
swapped-is vs ws below old newest h i v x view is laid w e written =
    let l = laid-some vs below newest h is laid in
    let f = l.3 in
    let a = f.slots in
    let b = f.operands in
    let n = slots-length vs h f in
    let at : h.slots + i < h.operands = omega arith in
    let ss = drop h.slots (take h.operands vs) in
    let s : drop h.slots (take h.operands ws) ≡ slice_set ss i v = ap (λ xs. drop h.slots (take h.operands xs)) written ∙ ap (drop h.slots) (take-set-lt h.operands vs (h.slots + i) v at) ∙ drop-set-add h.slots (take h.operands vs) i v in
    let o : drop h.operands ws ≡ drop h.operands vs = ap (drop h.operands) written ∙ drop-set-lt h.operands vs (h.slots + i) v at in
    let t : take h.slots vs ≡ take h.slots ws = sym (ap (take h.slots) written ∙ take-set-le h.slots vs (h.slots + i) v (omega arith)) in
    ap (swapped i v) (apart vs below old newest h view is)
    ∙ ap (λ o. beside o (with_slots (slice_set ss i v) (call_of (frame_at vs h)) ∷ stack (under vs below h.slots))) (slot-is vs h i x f w e)
    ∙ ap (λ zs. Some (x, zs)) (sym (top ws below h _ _ (under vs below h.slots) s o (below-kept vs ws below h l t)))

added-none : (os : List Value) (v : Value) (c : Call) (s : Stack) → IsSome (slot_added_of v os c s) → length os ≡ 0
added-none [] v c s d = refl
added-none (o ∷ os) v c s d = absurd (cc)

pub none-left : (xs : List Value) (v : Value) (c : Call) (s : Stack) → IsSome (slot_added_of v (reverse xs) c s) → xs ≡ []
none-left xs v c s d =
    let z : length xs ≡ 0 = sym (length-reverse xs) ∙ added-none (reverse xs) v c s d in
    drop_all 0 xs (omega arith)

-- a slot more, where there are no operands
pub slot_added-is : (vs ws : List Value) (below : List Head) (old : List Frame) (newest : Option Head) (h : Head) (v : Value) → frames_of vs below newest ≡ old → newest ≡ Some h → IsLaid vs below newest → IsSome (slot_added v (stack old)) → ws ≡ vs ++ v ∷ [] → slot_added v (stack old) ≡ Some (stack (under ws below h.slots ++ frame_at ws (record { function = h.function; place = h.place; slots = h.slots; operands = h.operands + 1 }) ∷ []))
slot_added-is vs ws below old newest h v view is laid d e =
    let l = laid-some vs below newest h is laid in
    let f = l.3 in
    let a = f.slots in
    let b = f.operands in
    let none : drop h.operands vs ≡ [] = none-left (drop h.operands vs) v _ _ (defined_newest vs below old newest h view is (slot_added v) d) in
    let len = length-drop h.operands vs in
    let zero_len : length (drop h.operands vs) ≡ 0 = ap length none in
    let n : length ws ≡ length vs + 1 = ap length e ∙ length-append vs (v ∷ []) in
    let end : h.operands ≡ length vs = omega arith in
    let k : Head = record { function = h.function; place = h.place; slots = h.slots; operands = h.operands + 1 } in
    let s : drop h.slots (take (h.operands + 1) ws) ≡ drop h.slots (take h.operands vs) ++ v ∷ [] =
    ap (drop h.slots) (take_all (h.operands + 1) ws (omega arith)) ∙ ap (drop h.slots) e ∙ drop-append-le h.slots vs (v ∷ []) (omega arith)
    ∙ ap (λ xs. drop h.slots xs ++ v ∷ []) (sym (take_all h.operands vs (omega arith))) in
    let o : drop (h.operands + 1) ws ≡ [] = drop_all (h.operands + 1) ws (omega arith) in
    let t : take h.slots vs ≡ take h.slots ws = sym (ap (take h.slots) e ∙ take-append-le h.slots vs (v ∷ []) (omega arith)) in
    ap (slot_added v) (apart vs below old newest h view is)
    ∙ ap (λ os. slot_added_of v (reverse os) (record { function = h.function; place = h.place; slots = drop h.slots (take h.operands vs); ops = reverse os }) (stack (under vs below h.slots))) none
    ∙ ap Some (sym (top ws below k _ _ (under vs below h.slots) s o (below-kept vs ws below h l t)))

pub popped-some : (vs ws : List Value) (below : List Head) (old : List Frame) (newest : Option Head) (v : Value) → frames_of vs below newest ≡ old → IsLaid vs below newest → IsSome (popped (stack old)) → vs ≡ ws ++ v ∷ [] → popped (stack old) ≡ Some (v, stack (frames_of ws below newest))
popped-some vs ws below old None v view laid d e = let q : IsSome (popped (stack [])) = subst (λ fs. IsSome (popped (stack fs))) (sym view) d in absurd (cc)
popped-some vs ws below old (Some h) v view laid d e = popped-is vs ws below old (Some h) h v view refl laid d e

-- another place of the newest frame
pub moved-is : (vs : List Value) (below : List Head) (old : List Frame) (newest : Option Head) (h : Head) (p : ℕ)
    → frames_of vs below newest ≡ old → newest ≡ Some h
    → moved p (stack old) ≡ Some (stack (under vs below h.slots ++ frame_at vs (record h { place = p }) ∷ []))
moved-is vs below old newest h p view is =
    ap (moved p) (apart vs below old newest h view is)
    ∙ ap Some (sym (stack-push (under vs below h.slots) (frame_at vs (record h { place = p }))))

pub moved-there : (vs : List Value) (below : List Head) (old : List Frame) (newest : Option Head) (p : ℕ)
    → frames_of vs below newest ≡ old → IsSome (moved p (stack old)) → IsSome newest
moved-there vs below old None p view d =
    let q : IsSome (moved p (stack [])) = subst (λ fs. IsSome (moved p (stack fs))) (sym view) d in absurd (cc)
moved-there vs below old (Some h) p view d = refl

pub count-some : (vs : List Value) (below : List Head) (newest : Option Head) (old : List Frame)
    → frames_of vs below newest ≡ old → is_some newest ≡ true → length below + 1 ≡ length old
count-some vs below None old view some = absurd (cc)
count-some vs below (Some h) old view some = count-is vs below (Some h) old h view refl
