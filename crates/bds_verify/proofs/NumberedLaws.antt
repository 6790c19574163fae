-- What is known of the list that comes, as a pass goes on.
use Rattle.std.proofs.Common.{◌≡◌, ℕ, zero, suc, ◌+◌, ◌-◌, ◌<◌, ◌≤◌, ◌⊎◌, inl, inr, List, [], ◌∷◌, ◌++◌, length, get_or}
use Rattle.std.proofs.Common.{reverse, take, drop, Option, Some, None, true, refl, sym, ap, subst, ◌∙◌, arith}
use Rattle.std.specs.Option.{option_to_list}
use Rattle.std.proofs.lemmas.List.{reverse-append, reverse-reverse, take-append-drop, length-take-le, take_all}
use Rattle.std.proofs.lemmas.List.{take-take, take-append-le, take_more, length-append}
use Rattle.bds_value.specs.declared.value.Ty.{Ty}
use Rattle.bds_code.specs.Effects.{LeavesFront}
use Rattle.bds_verify.specs.Pass.{same_tys}
use Rattle.bds_verify.specs.Verified.{label_at}
use Rattle.bds_verify.specs.Numbered.{Nodes, node_at, before_of, IsListOf, Keeps, Leads, IsFront, noted_at, IsNoted}
use Rattle.bds_verify.specs.Numbered.{AreDeclared}
use Rattle.bds_verify.proofs.NodeLaws.{same_list, less_one}
use Rattle.bds_verify.proofs.NoteLaws.{nothing}
use Rattle.bds_verify.proofs.SameTys.{same_tys-true, same_tys-refl}

-- the first types of the list that comes
pub front_none : (nodes : Nodes) (shape : List Ty) → IsFront nodes 0 0 shape
unfolding IsListOf
front_none nodes shape = (omega arith, refl)

pub front_whole : (nodes : Nodes) (n : ℕ) (shape : List Ty) → IsListOf nodes n (reverse shape)
    → IsFront nodes n (length shape) shape
front_whole nodes n shape h = (
  omega arith,
  subst (λ (ts : List Ty). IsListOf nodes n (reverse ts))
      (sym (take_all (length shape) shape (omega arith))) h,
)

popped_here : (nodes : Nodes) (n count : ℕ) (shape : List Ty) → 0 < count → IsFront nodes n count shape
    → IsFront nodes (before_of (node_at nodes n)) (count - 1) shape
popped_here nodes n zero shape l h = absurd (omega (arith, l))
popped_here nodes n (suc c) [] l h = absurd (omega (arith, h.0))
popped_here nodes n (suc c) (x ∷ xs) l h =
    let within : c < length (x ∷ xs) = omega (arith, h.0) in
    let one : suc c ≡ c + 1 = omega arith in
    let more : take (suc c) (x ∷ xs) ≡ take c (x ∷ xs) ++ get_or (x ∷ xs) c x ∷ [] =
    ap (λ k. take k (x ∷ xs)) one ∙ take_more (x ∷ xs) c x within in
    let turned : reverse (take (suc c) (x ∷ xs)) ≡ get_or (x ∷ xs) c x ∷ reverse (take c (x ∷ xs)) =
    ap (λ (ts : List Ty). reverse ts) more ∙ reverse-append (take c (x ∷ xs)) (get_or (x ∷ xs) c x ∷ []) in
    let list = less_one nodes n (get_or (x ∷ xs) c x) (reverse (take c (x ∷ xs)))
    (subst (λ (ts : List Ty). IsListOf nodes n ts) turned h.1) in
    let same : suc c - 1 ≡ c = omega arith in
    let fits : c ≤ length (x ∷ xs) = omega (arith, within) in
    subst (λ k. IsFront nodes (before_of (node_at nodes n)) k (x ∷ xs)) (sym same) (fits, list)

pub popped : (nodes : Nodes) (n m count less : ℕ) (shape : List Ty) → 0 < count → m ≡ before_of (node_at nodes n)
    → less ≡ count - 1
    → IsFront nodes n count shape → IsFront nodes m less shape
popped nodes n m count less shape l e size h =
    subst (λ k. IsFront nodes k less shape) (sym e) (subst (λ k. IsFront nodes (before_of (node_at nodes n)) k shape)
    (sym size) (popped_here nodes n count shape l h))

few_given : (gives : Option Ty) → length (option_to_list gives) ≤ 1
few_given None = omega arith
few_given (Some t) = omega arith

pub stays : (nodes : Nodes) (n count : ℕ) (old new : List Ty) → LeavesFront old new → count ≤ length new - 1
    → IsFront nodes n count old → IsFront nodes n count new
stays nodes n count old new (keeps, gives, within, is) short h =
    let kept : length (take keeps old) ≡ keeps = length-take-le keeps old within in
    let size : length new ≡ length (take keeps old) + length (option_to_list gives) =
    ap length is ∙ length-append (take keeps old) (option_to_list gives) in
    let few : length (option_to_list gives) ≤ 1 = few_given gives in
    let less : count ≤ length (take keeps old) = omega (arith, short, size, few) in
    let shorter : count ≤ keeps = omega (arith, less, kept) in
    let same : take count new ≡ take count old = ap (take count) is
    ∙ take-append-le count (take keeps old) (option_to_list gives) less ∙ take-take count keeps old shorter in
    let fits : count ≤ length new = omega (arith, short) in
    (fits, subst (λ (ts : List Ty). IsListOf nodes n (reverse ts)) (sym same) h.1)

pub reached : (old new : Nodes) (n last known : ℕ) (came rest : List Ty) → rest ≡ drop known came
    → Leads old new n last rest
    → IsFront old n known came → IsListOf new last (reverse came)
reached old new n last known came rest e leads front =
    let all : reverse rest ++ reverse (take known came) ≡ reverse came =
    ap (λ ts. reverse ts ++ reverse (take known came)) e
    ∙ sym (reverse-append (take known came) (drop known came))
    ∙ ap (λ (ts : List Ty). reverse ts) (take-append-drop known came) in
    subst (λ (ts : List Ty). IsListOf new last ts) all (leads.1 (reverse (take known came)) front.1)

-- the numbers of the lists of labels
pub declared_kept : (old new : Nodes) (labels : List (ℕ × List Ty)) (numbers : List ℕ) → Keeps old new
    → AreDeclared old labels numbers
    → AreDeclared new labels numbers
declared_kept old new labels numbers keeps h place list there some =
    keeps (noted_at numbers place) (reverse list) (h place list there some)

pub declared_none : (nodes : Nodes) (labels : List (ℕ × List Ty)) → AreDeclared nodes labels []
declared_none nodes labels place list there some =
    let none : noted_at [] place ≡ 0 = nothing place in absurd (omega (arith, some, none))

turned_back : (xs ys : List Ty) → reverse xs ≡ reverse ys → xs ≡ ys
turned_back xs ys e = sym (reverse-reverse xs) ∙ ap (λ (ts : List Ty). reverse ts) e ∙ reverse-reverse ys

pub same_by_number : (nodes : Nodes) (labels : List (ℕ
    × List Ty)) (numbers : List ℕ) (place n : ℕ) (declared came : List Ty) → 0 < n
    → noted_at numbers place ≡ n → label_at labels place ≡ Some declared → AreDeclared nodes labels numbers
    → IsListOf nodes n (reverse came)
    → true ≡ same_tys came declared
same_by_number nodes labels numbers place n declared came some same here known list =
    let there : 0 < noted_at numbers place = omega (arith, some, same) in
    let other : IsListOf nodes n (reverse declared) =
    subst (λ k. IsListOf nodes k (reverse declared)) same (known place declared here there) in
    let equal : came ≡ declared =
    turned_back came declared (same_list nodes (reverse came) (reverse declared) n list other) in
    sym (subst (λ (ts : List Ty). same_tys came ts ≡ true) equal (same_tys-refl came))

pub begun : (nodes : Nodes) (labels : List (ℕ × List Ty)) (numbers : List ℕ) (place n : ℕ) (declared : List Ty) → 0 < n
    → n ≡ noted_at numbers place → label_at labels place ≡ Some declared → AreDeclared nodes labels numbers
    → IsFront nodes n (length declared) declared
begun nodes labels numbers place n declared some same here known =
    let there : 0 < noted_at numbers place = omega (arith, some, same) in
    front_whole nodes n declared (subst (λ k. IsListOf nodes k (reverse declared)) (sym same)
    (known place declared here there))

pub counted : (old new : Nodes) (labels : List (ℕ
    × List Ty)) (numbers : List ℕ) (before n known : ℕ) (came rest : List Ty) → rest ≡ drop known came
    → Leads old new before n rest → IsFront old before known came × AreDeclared old labels numbers
    → (IsFront new n (length came) came × AreDeclared new labels numbers) × IsListOf new n (reverse came)
counted old new labels numbers before n known came rest e leads h =
    let list : IsListOf new n (reverse came) = reached old new before n known came rest e leads h.0 in
    ((front_whole new n came list, declared_kept old new labels numbers leads.0 h.1), list)

noted_here : (nodes : Nodes) (labels : List (ℕ
    × List Ty)) (old new : List ℕ) (place n at : ℕ) (declared other : List Ty)
    → ((at ≡ place) × (noted_at new at ≡ n)) ⊎ (noted_at new at ≡ noted_at old at)
    → label_at labels place ≡ Some declared → IsListOf nodes n (reverse declared) → AreDeclared nodes labels old
    → label_at labels at ≡ Some other → 0 < noted_at new at → IsListOf nodes (noted_at new at) (reverse other)
noted_here nodes labels old new place n at declared other (inl (same, is)) here list before there some =
    let moved : label_at labels place ≡ Some other = subst (λ k. label_at labels k ≡ Some other) same there in
    let one : declared ≡ other = cc in
    subst (λ k. IsListOf nodes k (reverse other)) (sym is) (subst (λ (ts : List Ty). IsListOf nodes n (reverse ts)) one
    list)
noted_here nodes labels old new place n at declared other (inr was) here list before there some =
    let known : 0 < noted_at old at = omega (arith, some, was) in
    subst (λ k. IsListOf nodes k (reverse other)) (sym was) (before at other there known)

pub noted_same : (nodes : Nodes) (labels : List (ℕ
    × List Ty)) (old new : List ℕ) (place n : ℕ) (declared came : List Ty)
    → IsNoted old new place n → label_at labels place ≡ Some declared → same_tys came declared ≡ true
    → IsListOf nodes n (reverse came)
    → AreDeclared nodes labels old → AreDeclared nodes labels new
noted_same nodes labels old new place n declared came noted here same list before at other there some =
    noted_here nodes labels old new place n at declared other (noted at) here
    (subst (λ (ts : List Ty). IsListOf nodes n (reverse ts)) (same_tys-true came declared same) list) before there some
