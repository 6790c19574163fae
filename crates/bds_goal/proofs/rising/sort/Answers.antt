use Rattle.std.proofs.Common.{◌≡◌, ap, rules, Bor, List, ℕ}
use Rattle.std.specs.Ordering.{is_lt}
use Rattle.std.specs.declared.cmp.Ordering.{Ordering}
use Rattle.std.specs.Cmp.{IsStrictWeakOrder}
use Rattle.std.specs.List.Sorted.{IsSortedBy, IsSortedByClosure}
use Rattle.std.proofs.lemmas.Cmp.{nat_list_cmp_total}
use Rattle.std.proofs.lemmas.List.MinMax.{ranks_by}
use Rattle.std.proofs.lemmas.Fn.{always_returns_same}
use denote.Param.Members.{Mut, Called}
use Rattle.bds_value.specs.Order.{text_cmp}
use Rattle.bds_goal.proofs.rising.sort.Goals as goal

-- a closure that answers as an order does sorts by it
sorted_by : {F : Type 0} {g : Mut F (Bor (List ℕ) × (Bor (List ℕ) × Unit {0})) Ordering} {f : F} (cmp : List ℕ → List ℕ → Ordering) → IsStrictWeakOrder (λ x y. is_lt (cmp x y)) → (ys : List (List ℕ)) → IsSortedByClosure g f ys
    → ((a : Bor (List ℕ) × (Bor (List ℕ) × Unit {0})) (r : Ordering) (f' : F) → Called g f a r f' → (r ≡ cmp a.0.now a.1.0.now) × (f' ≡ f))
    → IsSortedBy (λ x y. is_lt (cmp x y)) ys
sorted_by {g = g} {f = f} cmp order ys up h =
    let lt = λ (x y : List ℕ). is_lt (cmp x y) in
    up lt order (always_returns_same g (λ a r. is_lt r ≡ lt a.0.now a.1.0.now) f (λ a r f' k. (ap is_lt (h a r f' k).0, (h a r f' k).1)))

pub returns-clause-sorted : goal.returns-clause-sorted
returns-clause-sorted c = sorted_by text_cmp (ranks_by nat_list_cmp_total (λ (t : List ℕ). t)) c.sort_by.new.self.items c.in_ok-sort_by.ensures.sorted (λ a r f k. search rules)
