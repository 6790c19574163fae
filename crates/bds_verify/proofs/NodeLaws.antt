-- Lists of types by number.
use Rattle.std.proofs.Common.{◌≡◌, ℕ, zero, suc, ◌+◌, ◌-◌, ◌<◌, ◌&&◌, nat_eq, List, [], ◌∷◌, ◌++◌, length, slice_get}
use Rattle.std.proofs.Common.{get_or}
use Rattle.std.proofs.Common.{reverse, take, Option, Some, None, Bool, true, false, refl, sym, ap, subst, ◌∙◌, arith}
use Rattle.std.proofs.lemmas.Grind.{common_steps}
use Rattle.std.proofs.lemmas.List.{reverse-append, take_more, length-append}
use Rattle.bds_value.specs.declared.value.Ty.{Ty}
use Rattle.bds_value.specs.Types.{same_ty}
use Rattle.bds_value.proofs.TypeLaws.{same_ty-true}
use Rattle.bds_verify.specs.Numbered.{Nodes, node_at, is_this, before_of, IsListOf, Keeps, IsAdded, LeadsOne, Leads}

pub node_behind : (nodes : Nodes) (n : ℕ) → 0 < n → slice_get nodes (n - 1) ≡ node_at nodes n
node_behind nodes zero l = absurd (omega (arith, l))
node_behind nodes (suc k) l = let same : suc k - 1 ≡ k = omega arith in ap (slice_get nodes) same

both : (a b : Bool) → (a && b) ≡ true → (a ≡ true) × (b ≡ true)
both true true e = (refl, refl)
both true false e = absurd (cc)
both false b e = absurd (cc)

this_node : (node : ℕ × Ty) (before : ℕ) (t : Ty) → is_this (Some node) before t ≡ true → node ≡ (before, t)
this_node (m, u) before t h =
    let p = both (nat_eq m before) (same_ty u t) h in
    let test : nat_eq m before ≡ true = p.0 in
    let number : m ≡ before = grind (arith, common_steps) in
    let ty : u ≡ t = same_ty-true u t p.1 in
    cc

is_it : (found : Option (ℕ × Ty)) (before : ℕ) (t : Ty) → is_this found before t ≡ true → found ≡ Some (before, t)
is_it None before t h = absurd (cc)
is_it (Some node) before t h = ap (λ it. Some it) (this_node node before t h)

pub this_one : (nodes : Nodes) (n before : ℕ) (t : Ty) → is_this (node_at nodes n) before t ≡ true
    → LeadsOne nodes nodes before n t
this_one nodes n before t h = (λ m ts list. list, is_it (node_at nodes n) before t h)

-- one more node
after_more : {X : Type 0} (xs ys : List X) (k : ℕ) (x : X) → slice_get xs k ≡ Some x → slice_get (xs ++ ys) k ≡ Some x
after_more [] ys k x h = absurd (cc)
after_more (z ∷ xs) ys zero x h = h
after_more (z ∷ xs) ys (suc k) x h = after_more xs ys k x h

last_there : {X : Type 0} (xs : List X) (x : X) → slice_get (xs ++ x ∷ []) (length xs) ≡ Some x
last_there [] x = refl
last_there (y ∷ xs) x = last_there xs x

node_stays : (nodes more : Nodes) (n : ℕ) (node : ℕ × Ty) → node_at nodes n ≡ Some node
    → node_at (nodes ++ more) n ≡ Some node
node_stays nodes more zero node h = absurd (cc)
node_stays nodes more (suc k) node h = after_more nodes more k node h

list_stays : (nodes more : Nodes) (ts : List Ty) (n : ℕ) → IsListOf nodes n ts → IsListOf (nodes ++ more) n ts
unfolding IsListOf
list_stays nodes more [] n h = h
list_stays nodes more (t ∷ ts) n h = (h.0, node_stays nodes more n (h.0, t) h.1, list_stays nodes more ts h.0 h.2)

node_there : (nodes : Nodes) (n : ℕ) (node : ℕ × Ty) → n ≡ suc (length nodes)
    → node_at (nodes ++ node ∷ []) n ≡ Some node
node_there nodes n node e = subst (λ k. node_at (nodes ++ node ∷ []) k ≡ Some node) (sym e) (last_there nodes node)

added_here : (nodes : Nodes) (n before : ℕ) (t : Ty) → n ≡ length (nodes ++ (before, t) ∷ [])
    → LeadsOne nodes (nodes ++ (before, t) ∷ []) before n t
added_here nodes n before t size =
    let many : length (nodes ++ (before, t) ∷ []) ≡ length nodes + 1 = length-append nodes ((before, t) ∷ []) in
    let number : n ≡ suc (length nodes) = omega (arith, size, many) in
    (λ m ts h. list_stays nodes ((before, t) ∷ []) ts m h, node_there nodes n (before, t) number)

pub added_one : (old new : Nodes) (n before : ℕ) (t : Ty) → IsAdded old new n before t → LeadsOne old new before n t
added_one old new n before t h =
    subst (λ (ns : Nodes). LeadsOne old ns before n t) (sym h.0) (added_here old n before t (h.1 ∙ ap length h.0))

-- more types
pub leads_none : (nodes : Nodes) (n : ℕ) → Leads nodes nodes n n []
leads_none nodes n = (λ m ts h. h, λ ts h. h)

with_node : (nodes : Nodes) (n before : ℕ) (t : Ty) (ts : List Ty) → node_at nodes n ≡ Some (before, t)
    → IsListOf nodes before ts
    → IsListOf nodes n (t ∷ ts)
unfolding IsListOf
with_node nodes n before t ts node h = (before, node, h)

pub leads_on : (old now new : Nodes) (first last n : ℕ) (types : List Ty) (t : Ty) → Leads old now first last types
    → LeadsOne now new last n t → Leads old new first n (types ++ t ∷ [])
leads_on old now new first last n types t before one =
    let turned : reverse (types ++ t ∷ []) ≡ t ∷ reverse types = reverse-append types (t ∷ []) in (
      λ m ts h. one.0 m ts (before.0 m ts h),
      λ ts h. subst (λ (it : List Ty). IsListOf new n (it ++ ts)) (sym turned)
          (with_node new n last t (reverse types ++ ts) one.1 (one.0 last (reverse types ++ ts) (before.1 ts h))),
    )

pub leads_further : (old now new : Nodes) (first last n i : ℕ) (types : List Ty) (t : Ty) → i < length types
    → t ≡ get_or types i t
    → Leads old now first last (take i types) → LeadsOne now new last n t → Leads old new first n (take (i + 1) types)
leads_further old now new first last n i types t within is before one =
    let more : take (i + 1) types ≡ take i types ++ t ∷ [] =
    take_more types i t within ∙ ap (λ x. take i types ++ x ∷ []) (sym is) in
    subst (λ (ts : List Ty). Leads old new first n ts) (sym more)
    (leads_on old now new first last n (take i types) t before one)

-- a number has one list
first_alike : (m other : ℕ) (t u : Ty) → ◌≡◌ {A = Option (ℕ × Ty)} (Some (m, t)) (Some (other, u))
    → (m ≡ other) × (t ≡ u)
first_alike m other t u e =
    let pairs : ◌≡◌ {A = ℕ × Ty} (m, t) (other, u) = cc in
    (ap (λ (p : ℕ × Ty). p.0) pairs, ap (λ (p : ℕ × Ty). p.1) pairs)

no_node : (nodes : Nodes) (n : ℕ) (node : ℕ × Ty) → n ≡ 0 → node_at nodes n ≡ Some node → ⊥
no_node nodes zero node e h = absurd (cc)
no_node nodes (suc k) node e h = absurd (omega (arith, e))

pub same_list : (nodes : Nodes) (xs ys : List Ty) (n : ℕ) → IsListOf nodes n xs → IsListOf nodes n ys → xs ≡ ys
unfolding IsListOf
same_list nodes [] [] n h g = refl
same_list nodes [] (y ∷ ys) n h g = absurd (no_node nodes n (g.0, y) h g.1)
same_list nodes (x ∷ xs) [] n h g = absurd (no_node nodes n (h.0, x) g h.1)
same_list nodes (x ∷ xs) (y ∷ ys) n h g =
    let alike = first_alike h.0 g.0 x y (sym h.1 ∙ g.1) in
    let first : x ≡ y = alike.1 in
    let rest : xs ≡ ys = same_list nodes xs ys g.0 (subst (λ m. IsListOf nodes m xs) alike.0 h.2) g.2 in
    cc

-- a list without its last type
pub less_one : (nodes : Nodes) (n : ℕ) (t : Ty) (ts : List Ty) → IsListOf nodes n (t ∷ ts)
    → IsListOf nodes (before_of (node_at nodes n)) ts
unfolding IsListOf
less_one nodes n t ts h = subst (λ m. IsListOf nodes m ts) (sym (ap before_of h.1)) h.2
