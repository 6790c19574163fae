-- The order of the marks is the plan, and the first file that nothing makes is the least.
use Rattle.std.proofs.Common.{◌≡◌, ℕ, Bool, true, false, not, ◌||◌, List, [], ◌∷◌, ◌++◌, Option, Some, None, Ok, Err, refl, sym, ap, ◌∙◌, subst, if◌then◌else◌}
use Rattle.std.proofs.lemmas.Bool.{false≢true}
use Rattle.std.specs.Prelude.{find}
use Rattle.std.specs.Option.{is_some}
use Rattle.std.specs.Str.{bytes_eq}
use Rattle.bds_value.specs.Order.{is_before}
use Rattle.bds_value.specs.declared.value.Stamp.{Stamp}
use Rattle.bds_rules.specs.declared.rule.Rule.{Rule}
use Rattle.bds_rules.specs.Makers.{is_among, maker}
use Rattle.bds_rules.specs.Own.{AreOwn}
use Rattle.bds_tasks.specs.declared.task.Task.{Task}
use Rattle.bds_tasks.specs.Tasks.{pending_makes}
use Rattle.bds_goal.specs.Chains.{Follow, IsOrder, MayFollow}
use Rattle.bds_goal.specs.declared.faults.PlanFault.TheVariants.{NoRule}
use Rattle.bds_goal.specs.Due.{first_unmade, is_unmade, old_marks, planned_marks}
use Rattle.bds_goal.specs.Edges.{AreWanted, edges}
use Rattle.bds_goal.specs.Marks.{Edge, IsClosed, IsCycleIn, Marked}
use Rattle.bds_goal.specs.Goals.{HasNoCycle, IsFirstUnmade, IsPlanned, IsReach, IsUnmade, Makes, Needs, Plans, PlansBy, Rises, stamp_in}
use Rattle.bds_goal.proofs.DueLaws.{is_planned, planned_is}
use Rattle.bds_goal.proofs.EdgeLaws.{are_edges}
use Rattle.bds_goal.proofs.ReachLaws.{cycle_of, one_reach}
use Rattle.bds_goal.proofs.MakerLaws.{Some≢None, itself, made_by_maker, maker_is, or_left, or_right, same_bytes, some_is}
use Rattle.bds_goal.proofs.OrderLaws.{and_both, and_left, and_right, not_true}
use Rattle.bds_goal.proofs.RisingLaws.{first_before, not_after, not_itself, rest_rises}

-- an order of numbers that lead and are to be placed in the same way
module _ (Next Next2 : ℕ → ℕ → Type 0) (Todo Todo2 : ℕ → Type 0) (to : (r s : ℕ) → Next r s → Next2 r s) (back : (r s : ℕ) → Next2 r s → Next r s) (todo_to : (n : ℕ) → Todo n → Todo2 n) (todo_back : (n : ℕ) → Todo2 n → Todo n) where
  may_to : (placed : List ℕ) (n : ℕ) → MayFollow Next Todo placed n → MayFollow Next2 Todo2 placed n
  may_to placed n m = record { todo = todo_to n m.todo; new = m.new; free = λ s e t. m.free s (back n s e) (todo_back s t) }

  may_back : (placed : List ℕ) (n : ℕ) → MayFollow Next2 Todo2 placed n → MayFollow Next Todo placed n
  may_back placed n m = record { todo = todo_back n m.todo; new = m.new; free = λ s e t. m.free s (to n s e) (todo_to s t) }

  follow_to : (placed ns : List ℕ) → Follow Next Todo placed ns → Follow Next2 Todo2 placed ns
  follow_to placed [] f = tt
  follow_to placed (n ∷ ns) f = (may_to placed n f.0, (λ m h. f.1 m (may_back placed m h)), follow_to (placed ++ n ∷ []) ns f.2)

  pub order_to : (ns : List ℕ) → IsOrder Next Todo ns → IsOrder Next2 Todo2 ns
  order_to ns o = record { follow = follow_to [] ns o.follow; all = λ n t. o.all n (todo_back n t) }

-- the first of rising files that passes a test

found_first : (test : List ℕ → Bool) (files : List (List ℕ)) (f : List ℕ) → Rises files → find test files ≡ Some f → (is_among files f ≡ true) × (test f ≡ true) × ((g : List ℕ) → is_among files g ≡ true → test g ≡ true → is_before g f ≡ false)
found_first test [] f r e = elim (Some≢None f (sym e)) [ ]
found_first test (x ∷ xs) f r e = go (λ h. found_first test xs f (rest_rises x xs r) h) (test x) refl e
  where
    go : (find test xs ≡ Some f → (is_among xs f ≡ true) × (test f ≡ true) × ((g : List ℕ) → is_among xs g ≡ true → test g ≡ true → is_before g f ≡ false)) → (b : Bool) → test x ≡ b → (if b then Some x else find test xs) ≡ Some f → (is_among (x ∷ xs) f ≡ true) × (test f ≡ true) × ((g : List ℕ) → is_among (x ∷ xs) g ≡ true → test g ≡ true → is_before g f ≡ false)
    go more true d h =
        let is : x ≡ f = some_is x f h in (
          subst (λ z. bytes_eq x z || is_among xs z ≡ true) is (or_left (bytes_eq x x) (is_among xs x) (itself x)),
          subst (λ z. test z ≡ true) is d,
          λ g a t. subst (λ z. is_before g z ≡ false) is (least g (bytes_eq x g) refl a),
        )
      where
        least : (g : List ℕ) (b : Bool) → bytes_eq x g ≡ b → b || is_among xs g ≡ true → is_before g x ≡ false
        least g true k a = subst (λ z. is_before z x ≡ false) (same_bytes x g k) (not_itself x)
        least g false k a = not_after x g (first_before x xs r g a)
    go more false d h =
        let m = more h in
        (later f m.0, m.1, λ g a t. m.2 g (others g t (bytes_eq x g) refl a) t)
      where
        later : (g : List ℕ) → is_among xs g ≡ true → bytes_eq x g || is_among xs g ≡ true
        later g a = or_right (bytes_eq x g) (is_among xs g) a

        others : (g : List ℕ) → test g ≡ true → (b : Bool) → bytes_eq x g ≡ b → b || is_among xs g ≡ true → is_among xs g ≡ true
        others g t true k a = elim (false≢true (sym d ∙ subst (λ z. test z ≡ true) (sym (same_bytes x g k)) t)) [ ]
        others g t false k a = a

found_none : (test : List ℕ → Bool) (files : List (List ℕ)) → ◌≡◌ {A = Option (List ℕ)} (find test files) None → (g : List ℕ) → is_among files g ≡ true → test g ≡ false
found_none test [] e g a = elim (false≢true a) [ ]
found_none test (x ∷ xs) e g a = go (λ h. found_none test xs h g) (test x) refl e
  where
    go : (find test xs ≡ None → is_among xs g ≡ true → test g ≡ false) → (b : Bool) → test x ≡ b → (if b then Some x else find test xs) ≡ None → test g ≡ false
    go more true d h = elim (Some≢None x h) [ ]
    go more false d h = at (bytes_eq x g) refl a
      where
        at : (b : Bool) → bytes_eq x g ≡ b → b || is_among xs g ≡ true → test g ≡ false
        at true k j = subst (λ z. test z ≡ false) (same_bytes x g k) d
        at false k j = more h j

module _ (rules : List Rule) (targets files : List (List ℕ)) (stamp : List ℕ → Stamp) (tasks : List Task) (own : AreOwn [] rules) (reach : IsReach rules targets files) where
  no_rule_is : (f : List ℕ) → not (is_some (maker rules f)) ≡ true → (n : ℕ) → Makes rules n f → ⊥
  no_rule_is f e n m = false≢true (sym (not_true (is_some (maker rules f)) e) ∙ ap is_some (maker_is rules own n f m))

  is_no_rule : (f : List ℕ) → ((n : ℕ) → Makes rules n f → ⊥) → not (is_some (maker rules f)) ≡ true
  is_no_rule f none = go (maker rules f) refl
    where
      go : (o : Option ℕ) → maker rules f ≡ o → not (is_some o) ≡ true
      go None e = refl
      go (Some n) e = elim (none n (made_by_maker rules f n e)) [ ]

  unmade_is : (f : List ℕ) → is_among files f ≡ true → is_unmade stamp tasks rules f ≡ true → IsUnmade rules targets stamp tasks f
  unmade_is f a e =
      let rest = and_right (not (stamp f).there) _ e in
      record {
        reached = (reach.set f).0 a;
        missing = not_true (stamp f).there (and_left (not (stamp f).there) _ e);
        no_rule = no_rule_is f (and_left (not (is_some (maker rules f))) _ rest);
        no_task = not_true (pending_makes tasks f) (and_right (not (is_some (maker rules f))) _ rest);
      }

  is_unmade_where : (f : List ℕ) → IsUnmade rules targets stamp tasks f → (is_among files f ≡ true) × (is_unmade stamp tasks rules f ≡ true)
  is_unmade_where f u = ((reach.set f).1 u.reached, and_both (not (stamp f).there) _ (ap not u.missing) (and_both (not (is_some (maker rules f))) _ (is_no_rule f u.no_rule) (ap not u.no_task)))

  pub first_is : (f : List ℕ) → first_unmade stamp tasks rules files ≡ Some f → IsFirstUnmade rules targets stamp tasks f
  first_is f e =
      let h = found_first (is_unmade stamp tasks rules) files f reach.rises e in
      record { unmade = unmade_is f h.0 h.1; least = λ g u. let w = is_unmade_where g u in h.2 g w.0 w.1 }

  pub none_unmade : first_unmade stamp tasks rules files ≡ None → (f : List ℕ) → IsUnmade rules targets stamp tasks f → ⊥
  none_unmade e f u = let w = is_unmade_where f u in false≢true (sym (found_none (is_unmade stamp tasks rules) files e f w.0) ∙ w.1)

module _ (rules : List Rule) (targets files : List (List ℕ)) (stamps : List Stamp) (tasks : List Task) (marks due : List Bool) (own : AreOwn [] rules) (w : AreWanted rules targets marks) (reach : IsReach rules targets files)
    (closed : IsClosed (edges rules) (old_marks (stamp_in files stamps) tasks marks rules) due) where
  pub plans_numbers : (ns : List ℕ) → first_unmade (stamp_in files stamps) tasks rules files ≡ None → IsOrder (Edge (edges rules)) (Marked (planned_marks tasks marks due rules)) ns → PlansBy rules targets stamps tasks (Ok ns)
  plans_numbers ns none o others other =
      subst (λ fs. Plans rules targets (stamp_in fs stamps) tasks (Ok ns)) (one_reach rules targets files others reach other) (
        order_to (Edge (edges rules)) (Needs rules) (Marked (planned_marks tasks marks due rules)) (IsPlanned rules targets (stamp_in files stamps) tasks)
            (λ r s. ((are_edges rules own).same r s).0) (λ r s. ((are_edges rules own).same r s).1)
            (planned_is (stamp_in files stamps) tasks rules targets (edges rules) marks due (are_edges rules own) w closed)
            (is_planned (stamp_in files stamps) tasks rules targets (edges rules) marks due (are_edges rules own) w closed) ns o,
        none_unmade rules targets files (stamp_in files stamps) tasks own reach none,
      )

  pub plans_never : (chain : List ℕ) → HasNoCycle rules targets → IsCycleIn (edges rules) (planned_marks tasks marks due rules) chain → ⊥
  plans_never chain none c =
      none chain (cycle_of rules targets (edges rules) (planned_marks tasks marks due rules) chain (are_edges rules own)
      (λ n m. (planned_is (stamp_in files stamps) tasks rules targets (edges rules) marks due (are_edges rules own) w closed n m).due.reached) c)

pub plans_no_rule : (rules : List Rule) (targets files : List (List ℕ)) (stamps : List Stamp) (tasks : List Task) (f : List ℕ) → AreOwn [] rules → IsReach rules targets files → first_unmade (stamp_in files stamps) tasks rules files ≡ Some f → PlansBy rules targets stamps tasks (Err (NoRule f))
plans_no_rule rules targets files stamps tasks f own reach first others other =
    subst (λ fs. IsFirstUnmade rules targets (stamp_in fs stamps) tasks f) (one_reach rules targets files others reach other) (first_is rules targets files (stamp_in files stamps) tasks own reach f first)
