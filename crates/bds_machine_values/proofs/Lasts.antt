-- Of the operands that are taken, the first that are taken are the last ones.
use Rattle.std.proofs.Common.{◌≡◌, ◌≤◌, ◌+◌, ◌-◌, ℕ, List, [], ◌∷◌, take, drop, length, reverse, nat_le, Some, sym, ap, ◌∙◌, arith}
use Rattle.std.proofs.Math.Seq.{drop-append_seam}
use Rattle.std.proofs.lemmas.Grind.{common_steps}
use Rattle.std.proofs.lemmas.List.{reverse-append, reverse-reverse, take-append-drop, take-take, length-drop, length-reverse, length-take-le}
use Rattle.bds_value.specs.declared.value.Value.{Value}
use Rattle.bds_code_frames.specs.Stack.{Stack, popped}
use Rattle.bds_machine_values.specs.Operands.{taken_all}
use Rattle.bds_machine_values.proofs.Taking.{full, one_more}

-- the first of a list, reversed, ends with fewer of them, reversed
reverse_last : (n i : ℕ) (xs : List Value) → n ≤ length xs → i ≤ n → drop (n - i) (reverse (take n xs)) ≡ reverse (take i xs)
reverse_last n i xs few l =
    let ys = take n xs in
    let back = reverse (drop i ys) in
    let count : n - i ≡ length back = sym (length-reverse (drop i ys) ∙ length-drop i ys ∙ ap (λ k. k - i) (length-take-le n xs few)) in
    ap (λ k. drop k (reverse ys)) count ∙ ap (λ zs. drop (length back) (reverse zs)) (sym (take-append-drop i ys)) ∙ ap (drop (length back)) (reverse-append (take i ys) (drop i ys))
    ∙ drop-append_seam back (reverse (take i ys)) ∙ ap reverse (take-take i n xs l)

pub last_taken : (n i : ℕ) (s s' e : Stack) (all vs : List Value) → taken_all n s ≡ Some (all, e) → taken_all i s ≡ Some (vs, s') → i ≤ n → drop (n - i) all ≡ vs
last_taken n i [] s' e all vs h k l = absurd (cc)
last_taken n i (c ∷ below) s' e all vs h k l =
    let more = full (nat_le n (length c.ops)) _ _ h in
    let fewer = full (nat_le i (length c.ops)) _ _ k in
    let few : n ≤ length c.ops = grind (arith, common_steps, more.0) in
    ap (drop (n - i)) (sym (ap (λ (x : List Value × Stack). x.0) more.1)) ∙ reverse_last n i c.ops few l ∙ ap (λ (x : List Value × Stack). x.0) fewer.1

-- one more is taken
pub also_taken : (i : ℕ) (s now next : Stack) (vs : List Value) (v : Value) → taken_all i s ≡ Some (vs, now) → popped now ≡ Some (v, next) → taken_all (i + 1) s ≡ Some (v ∷ vs, next)
also_taken i s now next vs v taken pop =
    let back : Some (vs, now) ≡ Some (reverse (reverse vs), now) = ap (λ ws. Some (ws, now)) (sym (reverse-reverse vs)) in
    one_more i s now next (reverse vs) v (taken ∙ back) pop ∙ ap (λ ws. Some (ws, next)) (reverse-append (reverse vs) (v ∷ []) ∙ ap (λ ws. v ∷ ws) (reverse-reverse vs))
