-- A frame more, and one fewer.
use Rattle.std.proofs.Common.{◌≡◌, ◌<◌, ◌≤◌, ◌+◌, ℕ, List, [], ◌∷◌, ◌++◌, length, take, drop, Option, Some, None, IsSome, ◌↔◌, refl, sym, ap, ◌∙◌, subst, arith, append-nil}
use Rattle.std.specs.Option.{option_to_list}
use Rattle.std.proofs.lemmas.List.{take-take, take_all, drop_all, length-take-le, length-append}
use Rattle.bds_value.specs.declared.TheConstants.{MAX_COUNT}
use Rattle.bds_value.specs.declared.value.Value.{Value}
use Rattle.bds_code_frames.specs.declared.frame.Frame.{Frame}
use Rattle.bds_code_frames.specs.declared.head.Head.{Head}
use Rattle.bds_code_frames.specs.Laid.{frame_at, begin_of, under, Fits, AreLaid, IsLaid, frames_of}
use Rattle.bds_code_frames.specs.Stack.{stack, opened, closed}
use Rattle.bds_code_frames.proofs.Laying.{begin-snoc, under-snoc, laid-snoc, laid-init, under-keep, length-under}
use Rattle.bds_code_frames.proofs.Newest.{apart}
use Rattle.bds_code_frames.proofs.Steps.{laid-some}

-- a frame at the end
pub opened-is : (vs : List Value) (below more : List Head) (newest : Option Head) (old : List Frame) (f p : ℕ) → frames_of vs below newest ≡ old → IsLaid vs below newest → more ≡ below ++ option_to_list newest → frames_of vs more (Some (record { function = f; place = p; slots = length vs; operands = length vs })) ≡ old ++ opened f p ∷ []
opened-is vs below more None old f p view l e =
    let none : more ≡ [] = e ∙ append-nil below ∙ l.1 in
    ap (λ b. frames_of vs b (Some (record { function = f; place = p; slots = length vs; operands = length vs }))) none
    ∙ ap (λ xs. frames_of xs [] (Some (record { function = f; place = p; slots = length xs; operands = length xs }))) l.0
    ∙ ap (λ fs. fs ++ opened f p ∷ []) view
opened-is vs below more (Some h) old f p view l e =
    let whole = take_all (length vs) vs (omega arith) in
    let none = drop_all (length vs) vs (omega arith) in
    let us = under vs more (length vs) in
    let lower : us ≡ old = ap (λ b. under vs b (length vs)) e ∙ under-snoc vs below h (length vs) ∙ ap (λ xs. under vs below h.slots ++ frame_at xs h ∷ []) whole ∙ view in
    ap (λ xs. us ++ record { function = f; place = p; slots = drop (length vs) xs; operands = drop (length vs) vs } ∷ []) whole
    ∙ ap (λ xs. us ++ record { function = f; place = p; slots = xs; operands = xs } ∷ []) none
    ∙ ap (λ fs. fs ++ opened f p ∷ []) lower

-- what is laid stays so under a further head
pub more-laid : (vs : List Value) (below more : List Head) (newest : Option Head) (old : List Frame) (k : Head) → frames_of vs below newest ≡ old → IsLaid vs below newest → more ≡ below ++ option_to_list newest → length old < MAX_COUNT → k.operands ≡ length vs → k.slots ≤ k.operands → k.operands ≤ k.slots + MAX_COUNT → ((h : Head) → newest ≡ Some h → h.operands ≤ k.slots) → (newest ≡ None → k.slots ≡ length vs) → IsLaid vs more (Some k)
more-laid vs below more None old k view l e room o s few w z =
    let none : more ≡ [] = e ∙ append-nil below ∙ l.1 in
    let len : length vs ≡ 0 = ap length l.0 in
    let begins = z refl in
    subst (λ b. IsLaid vs b (Some k)) (sym none) (omega arith, omega arith, tt, record { slots = s; operands = omega arith; few_slots = few; few_operands = omega arith })
more-laid vs below more (Some h) old k view l e room o s few w z =
    let f = l.3 in
    let a = f.slots in
    let b = f.operands in
    let c = f.few_slots in
    let d = f.few_operands in
    let before = w h refl in
    let n : length old ≡ length below + 1 = ap length (sym view) ∙ length-append (under vs below h.slots) (frame_at vs h ∷ []) ∙ ap (λ m. m + 1) (length-under vs below h.slots) in
    let m : length (below ++ h ∷ []) ≡ length below + 1 = length-append below (h ∷ []) in
    subst (λ b. IsLaid vs b (Some k)) (sym e) (omega arith, begin-snoc below h k.slots ∙ l.1, laid-snoc below h k.slots l.2 (record { slots = a; operands = before; few_slots = c; few_operands = omega arith }), record { slots = s; operands = omega arith; few_slots = few; few_operands = omega arith })

-- without the newest frame
pub closed-is : (vs ws : List Value) (below less : List Head) (newest next : Option Head) (old : List Frame) (h : Head) → frames_of vs below newest ≡ old → newest ≡ Some h → IsLaid vs below newest → ws ≡ take h.slots vs → below ≡ less ++ option_to_list next → (next ≡ None → below ≡ []) → closed (stack old) ≡ Some (stack (frames_of ws less next))
closed-is vs ws below less newest None old h view is laid cut e none = ap closed (apart vs below old newest h view is) ∙ ap (λ b. Some (stack (under vs b h.slots))) (none refl)
closed-is vs ws below less newest (Some g) old h view is laid cut e none =
    let l = laid-some vs below newest h is laid in
    let parts = laid-init less g h.slots (subst (λ b. AreLaid b h.slots) e l.2) in
    let s = parts.1.slots in
    let o = parts.1.operands in
    let t : take g.slots vs ≡ take g.slots ws = sym (ap (take g.slots) cut ∙ take-take g.slots h.slots vs (omega arith)) in
    ap closed (apart vs below old newest h view is)
    ∙ ap (λ b. Some (stack (under vs b h.slots))) e
    ∙ ap (λ fs. Some (stack fs)) (under-snoc vs less g h.slots ∙ ap (λ xs. under vs less g.slots ++ frame_at xs g ∷ []) (sym cut) ∙ ap (λ us. us ++ frame_at ws g ∷ []) (under-keep vs ws less g.slots parts.0 t))

pub closed-laid : (vs ws : List Value) (below less : List Head) (newest next : Option Head) (h : Head) → newest ≡ Some h → IsLaid vs below newest → ws ≡ take h.slots vs → below ≡ less ++ option_to_list next → (next ≡ None → below ≡ []) → IsLaid ws less next
closed-laid vs ws below less newest None h is laid cut e none =
    let l = laid-some vs below newest h is laid in
    let z : h.slots ≡ 0 = ap (λ b. begin_of b h.slots) (sym (none refl)) ∙ l.1 in
    (cut ∙ ap (λ n. take n vs) z, sym (append-nil less) ∙ sym e ∙ none refl)
closed-laid vs ws below less newest (Some g) h is laid cut e none =
    let l = laid-some vs below newest h is laid in
    let f = l.3 in
    let a = f.slots in
    let b = f.operands in
    let parts = laid-init less g h.slots (subst (λ b. AreLaid b h.slots) e l.2) in
    let n : length ws ≡ h.slots = ap length cut ∙ length-take-le h.slots vs (omega arith) in
    let m : length below ≡ length less + 1 = ap length e ∙ length-append less (g ∷ []) in
    let few = l.0 in
    (omega arith, sym (begin-snoc less g h.slots) ∙ ap (λ b. begin_of b h.slots) (sym e) ∙ l.1, parts.0, subst (Fits g) (sym n) parts.1)

-- where no head is left to take there was none
pub none-below : (below : List Head) (next : Option Head) (n : ℕ) → n ≡ length below → IsSome next ↔ (0 < n) → next ≡ None → below ≡ []
none-below [] next n len some e = refl
none-below (h ∷ hs) next n len some e =
    let there : IsSome next = some.1 (omega arith) in
    let q = subst IsSome e there in
    absurd (cc)

pub opened-laid : (vs : List Value) (below more : List Head) (old : List Frame) (newest : Option Head) (f p : ℕ) → frames_of vs below newest ≡ old → IsLaid vs below newest → length old < MAX_COUNT → more ≡ below ++ option_to_list newest → IsLaid vs more (Some (record { function = f; place = p; slots = length vs; operands = length vs }))
opened-laid vs below more old None f p view laid room e =
    more-laid vs below more None old (record { function = f; place = p; slots = length vs; operands = length vs }) view laid e room refl (omega arith) (omega arith) (λ g is. absurd (cc)) (λ is. refl)
opened-laid vs below more old (Some h) f p view laid room e =
    let b = laid.3.operands in
    more-laid vs below more (Some h) old (record { function = f; place = p; slots = length vs; operands = length vs }) view laid e room refl (omega arith) (omega arith)
    (λ g is. let same : h ≡ g = cc in subst (λ z. z.operands ≤ length vs) same b) (λ is. absurd (cc))
