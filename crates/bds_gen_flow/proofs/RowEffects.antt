-- What rows make of operands that they take.
use Rattle.std.proofs.Common.{◌≡◌, List, [], ◌∷◌, Bool, true, false, not, ◌&&◌, Some, Ok, refl, sym, ◌∙◌, ap, subst, rules}
use Rattle.bds_value.specs.declared.value.Ty.{Ty, out-Ty}
use Rattle.bds_value.specs.declared.value.Ty.TheVariants as ty
use Rattle.bds_value.specs.declared.value.Ty.TheOpen.{Ty-F}
use Rattle.bds_value.specs.Results.{◌>>=◌}
use Rattle.bds_value.specs.Types.{same_ty, is_void, is_void_at, list_item, list_item_at, map_item, map_item_at}
use Rattle.bds_code.specs.Operands.{any_taken, taken, all_taken, item_of, item_at, entry_of, entry_at, giving, swapped, provided, value_ty}
use Rattle.bds_code.specs.Row.{item_added, lists_joined, compared, item_taken, entry_taken, shown}
use Rattle.bds_check_names.specs.Types.{is_known, known_at, differ}
use Rattle.bds_value.proofs.TypeLaws.{same_ty-refl, same_ty-true}

known-not_void : (w : Ty-F Ty) → known_at w ≡ true → is_void_at w ≡ false
known-not_void Ty-F.Bool h = refl
known-not_void Ty-F.Int h = refl
known-not_void Ty-F.Text h = refl
known-not_void (Ty-F.List t) h = refl
known-not_void (Ty-F.Map t) h = refl
known-not_void Ty-F.Void h = absurd (search (rules, h))

pub not_void : (t : Ty) → is_known t ≡ true → is_void t ≡ false
not_void t h = known-not_void (out-Ty t) h

pub int-solid : is_void ty.Int ≡ false
int-solid = ap is_void_at ty.outs-Int

pub bool-solid : is_void ty.Bool ≡ false
bool-solid = ap is_void_at ty.outs-Bool

pub text-solid : is_void ty.Text ≡ false
text-solid = ap is_void_at ty.outs-Text

pub list-solid : (t : Ty) → is_void (ty.List t) ≡ false
list-solid t = ap is_void_at (ty.outs-List t)

pub void-void : is_void ty.Void ≡ true
void-void = ap is_void_at ty.outs-Void

pub any-is : (t : Ty) (s : List Ty) → is_void t ≡ false → any_taken (t ∷ s) ≡ Ok (t, s)
any-is t s v = rw v refl

pub taken-is : (t : Ty) (s : List Ty) → is_void t ≡ false → taken t (t ∷ s) ≡ Ok s
taken-is t s v = ap (λ r. r >>= λ r. provided (same_ty t r.0) r.1) (any-is t s v) ∙ ap (λ b. provided b s) (same_ty-refl t)

pub given-is : (t : Ty) (s : List Ty) → is_void t ≡ false → giving t s ≡ Ok (t ∷ s)
given-is t s v = rw v refl

pub given-none : (s : List Ty) → giving ty.Void s ≡ Ok s
given-none s = rw void-void refl

pub swap_one : (a t : Ty) (s : List Ty) → is_void a ≡ false → is_void t ≡ false → swapped (a ∷ []) t (a ∷ s) ≡ Ok (t ∷ s)
swap_one a t s va vt = ap (λ r. r >>= all_taken [] >>= giving t) (taken-is a s va) ∙ given-is t s vt

pub swap_two : (a b t : Ty) (s : List Ty) → is_void a ≡ false → is_void b ≡ false → is_void t ≡ false → swapped (a ∷ b ∷ []) t (a ∷ b ∷ s) ≡ Ok (t ∷ s)
swap_two a b t s va vb vt = ap (λ r. r >>= all_taken (b ∷ []) >>= giving t) (taken-is a (b ∷ s) va) ∙ swap_one b t s vb vt

-- nothing is left of it
pub take_one : (a : Ty) (s : List Ty) → is_void a ≡ false → swapped (a ∷ []) ty.Void (a ∷ s) ≡ Ok s
take_one a s va = ap (λ r. r >>= all_taken [] >>= giving ty.Void) (taken-is a s va) ∙ given-none s

pub show-is : (t : Ty) (s : List Ty) → is_void t ≡ false → shown (t ∷ s) ≡ Ok (ty.Text ∷ s)
show-is t s v = ap (λ r. r >>= λ r. giving ty.Text r.1) (any-is t s v) ∙ given-is ty.Text s text-solid

pub compare-is : (test : Ty → Bool) (t : Ty) (s : List Ty) → is_void t ≡ false → test t ≡ true → compared test (t ∷ t ∷ s) ≡ Ok (ty.Bool ∷ s)
compare-is test t s v h =
    ap (λ r. r >>= λ r. provided (test r.0) r.1 >>= taken r.0 >>= giving ty.Bool) (any-is t (t ∷ s) v)
    ∙ ap (λ b. provided b (t ∷ s) >>= taken t >>= giving ty.Bool) h
    ∙ ap (λ r. r >>= giving ty.Bool) (taken-is t s v) ∙ given-is ty.Bool s bool-solid

pub add_item-is : (t : Ty) (s : List Ty) → is_void t ≡ false → item_added (t ∷ ty.List t ∷ s) ≡ Ok (ty.List t ∷ s)
add_item-is t s v =
    ap (λ r. r >>= λ r. taken (ty.List r.0) r.1 >>= giving (ty.List r.0)) (any-is t (ty.List t ∷ s) v)
    ∙ ap (λ r. r >>= giving (ty.List t)) (taken-is (ty.List t) s (list-solid t)) ∙ given-is (ty.List t) s (list-solid t)

value-is : (t : Ty) → is_void t ≡ false → value_ty t ≡ Ok t
value-is t v = rw v refl

pub item-at : (t : Ty) (w : Ty-F Ty) → is_void t ≡ false → list_item_at w ≡ Some t → item_at w ≡ Ok t
item-at t (Ty-F.List u) v h = let e : u ≡ t = cc in subst (λ x. value_ty x ≡ Ok t) (sym e) (value-is t v)
item-at t Ty-F.Bool v h = absurd (search (rules, h))
item-at t Ty-F.Int v h = absurd (search (rules, h))
item-at t Ty-F.Text v h = absurd (search (rules, h))
item-at t (Ty-F.Map u) v h = absurd (search (rules, h))
item-at t Ty-F.Void v h = absurd (search (rules, h))

pub item-is : (l t : Ty) → is_void t ≡ false → list_item l ≡ Some t → item_of l ≡ Ok t
item-is l t v h = item-at t (out-Ty l) v h

pub join-is : (l t : Ty) (s : List Ty) → is_void l ≡ false → is_void t ≡ false → list_item l ≡ Some t → lists_joined (l ∷ l ∷ s) ≡ Ok (l ∷ s)
join-is l t s v w h =
    ap (λ r. r >>= λ r. item_of r.0 >>= λ t. taken r.0 r.1 >>= giving r.0) (any-is l (l ∷ s) v)
    ∙ ap (λ r. r >>= λ t. taken l (l ∷ s) >>= giving l) (item-is l t w h)
    ∙ ap (λ r. r >>= giving l) (taken-is l s v) ∙ given-is l s v

pub take_item-is : (l t : Ty) (s : List Ty) → is_void l ≡ false → is_void t ≡ false → list_item l ≡ Some t → item_taken (ty.Int ∷ l ∷ s) ≡ Ok (t ∷ s)
take_item-is l t s v w h =
    ap (λ r. r >>= any_taken >>= λ r. item_of r.0 >>= λ t. giving t r.1) (taken-is ty.Int (l ∷ s) int-solid)
    ∙ ap (λ r. r >>= λ r. item_of r.0 >>= λ t. giving t r.1) (any-is l s v)
    ∙ ap (λ r. r >>= λ t. giving t s) (item-is l t w h) ∙ given-is t s w

-- operands that are there and don't differ

pub differ-choice : (x y : Bool) (b : Bool) → x ≡ true → y ≡ true → (x && y && not b) ≡ false → b ≡ true
differ-choice true true true p q h = refl
differ-choice true true false p q h = absurd (search (rules, h))
differ-choice true false b p q h = absurd (search (rules, q))
differ-choice false y b p q h = absurd (search (rules, p))

pub same-unless : (a b : Ty) → is_known a ≡ true → is_known b ≡ true → differ a b ≡ false → a ≡ b
same-unless a b ka kb h = same_ty-true a b (differ-choice (is_known a) (is_known b) (same_ty a b) ka kb h)

pub int-known : is_known ty.Int ≡ true
int-known = ap known_at ty.outs-Int

pub bool-known : is_known ty.Bool ≡ true
bool-known = ap known_at ty.outs-Bool

pub text-known : is_known ty.Text ≡ true
text-known = ap known_at ty.outs-Text

unknown-layer : (w : Ty-F Ty) → known_at w ≡ false → is_void_at w ≡ true
unknown-layer Ty-F.Void h = refl
unknown-layer Ty-F.Bool h = absurd (search (rules, h))
unknown-layer Ty-F.Int h = absurd (search (rules, h))
unknown-layer Ty-F.Text h = absurd (search (rules, h))
unknown-layer (Ty-F.List t) h = absurd (search (rules, h))
unknown-layer (Ty-F.Map t) h = absurd (search (rules, h))

pub unknown-void : (t : Ty) → is_known t ≡ false → is_void t ≡ true
unknown-void t h = unknown-layer (out-Ty t) h

pub entry-of-map : (t : Ty) (w : Ty-F Ty) → is_void t ≡ false → map_item_at w ≡ Some t → entry_at w ≡ Ok t
entry-of-map t (Ty-F.Map u) v h = let e : u ≡ t = cc in subst (λ x. value_ty x ≡ Ok t) (sym e) (value-is t v)
entry-of-map t Ty-F.Bool v h = absurd (search (rules, h))
entry-of-map t Ty-F.Int v h = absurd (search (rules, h))
entry-of-map t Ty-F.Text v h = absurd (search (rules, h))
entry-of-map t (Ty-F.List u) v h = absurd (search (rules, h))
entry-of-map t Ty-F.Void v h = absurd (search (rules, h))

pub take_entry-is : (m t : Ty) (s : List Ty) → is_void m ≡ false → is_void t ≡ false → map_item m ≡ Some t → entry_taken (ty.Text ∷ m ∷ s) ≡ Ok (t ∷ s)
take_entry-is m t s v w h =
    ap (λ r. r >>= any_taken >>= λ r. entry_of r.0 >>= λ t. giving t r.1) (taken-is ty.Text (m ∷ s) text-solid)
    ∙ ap (λ r. r >>= λ r. entry_of r.0 >>= λ t. giving t r.1) (any-is m s v)
    ∙ ap (λ r. r >>= λ t. giving t s) (entry-of-map t (out-Ty m) w h) ∙ given-is t s w

pub map-solid : (t : Ty) → is_void (ty.Map t) ≡ false
map-solid t = ap is_void_at (ty.outs-Map t)
