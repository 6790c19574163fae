-- List loops: the counter, the test and the next item.
use Rattle.std.proofs.Common.{pos, ◌≤◌, ◌≡◌, ℕ, suc, ◌+◌, ◌<◌, true, false, List, [], ◌∷◌, length, Option, Some, None, IsSome, slice_get, slice_set, refl, sym, ap, ◌∙◌, subst, inl, inr, arith}
use Rattle.std.proofs.lemmas.Option.{slice_get_within}
use Rattle.bds_value.specs.declared.value.Value.{Value}
use Rattle.bds_code.specs.declared.instr.Instr.TheVariants as instr
use Rattle.bds_code.specs.declared.unit.Unit.{Unit as CodeUnit}
use Rattle.bds_machine.specs.Table.{row}
use Rattle.bds_machine_values.specs.Updates.{value_changed}
use Rattle.bds_meaning.specs.Acts.{Becomes, code}
use Rattle.bds_meaning.specs.Step.{item_next}
use Rattle.bds_meaning.specs.Term.{Term, Items}
use Rattle.bds_value.specs.Readers.{items_in}
use Rattle.bds_meaning.specs.Variables.{Variables, with_locals}
use Rattle.bds_sim_terms.specs.steps.Stands.{Source, Row, EachAt, Counts, Fits, parts, values, Site, call, at, Comes, Named, Stands}
use Rattle.bds_sim.specs.Threads.{Parts}
use Rattle.bds_sim_terms.proofs.steps.Leads.{Leads, Moves, stays, leads_on, lives, here, comes_lead}
use Rattle.bds_sim_terms.proofs.steps.Slots.{holds_length, fits_fewer, fits_new, fits_held, fits_again}
use Rattle.bds_sim_terms.proofs.steps.Follows.{Follows, Ticks, behind}
use Rattle.bds_sim_terms.proofs.steps.Rows.{finishing, some_outcome, tick_row, spent_row}
use Rattle.bds_sim_terms.proofs.steps.Computing.{computes, method_row}
use Rattle.bds_sim_terms.proofs.steps.Updating.{value_told, update_row, from_value, updated_there, local_put}
use Rattle.std.specs.Ordering.{int_cmp, is_lt}
use Rattle.bds_value.specs.declared.TheConstants.{MAX_ITEMS}
use Rattle.bds_value.specs.declared.value.Op.TheVariants as op
use Rattle.bds_value.specs.declared.value.Value.TheVariants as value
use Rattle.bds_machine_values.specs.Results.{called}
use Rattle.bds_meaning.specs.Term.{Operated, ItemTaken, Increased}
use Rattle.bds_sim_terms.proofs.steps.Counting.{number, truth_of, less_is, there_is, past_is, item_is, size_is, increased}
use Rattle.bds_sim_terms.proofs.steps.Walking.{alive, goes_by, push_lead, load_lead, store_within, store_lead, computed_lead, branch_lead, same_place}

module _ (o : Source) (u : CodeUnit) (Live : Parts → Type 0) (moves : Moves u Live) where
  module _ (vs : Variables) (c : Site) (x : List ℕ) (body : Term) (loop : EachAt o u (Stands o u body) c.function c.held c.names c.exit x) where
    abbrev Counted : ℕ → Value → List Value → Type 0
    Counted n list slots = Fits c.names (loop.count ∷ loop.list ∷ c.held) (number n ∷ list ∷ c.kept) vs.locals slots

    -- behind the list: it and the counter have their slots
    pub each_follows' : (pc start : ℕ) (v : Value) (slots : List Value) → 0 ≡ c.kind → Row o u c.function pc (instr.Store loop.list ∷ instr.PushInt (pos 0) ∷ instr.Store loop.count ∷ []) start → Comes o u c.function start loop.top
        → Named o u vs → Fits c.names c.held c.kept vs.locals slots → Live (parts vs (at c pc slots (v ∷ c.base))) → Follows o u (Becomes false vs (Items x 0 v body)) vs c (at c pc slots (v ∷ c.base))
    each_follows' pc start v slots k code comes named holds live =
        let slots1 = slice_set slots loop.list v in
        let slots2 = slice_set slots1 loop.count (number 0) in
        let lead1 = store_lead o u Live moves vs c pc loop.list v slots c.base code.0 live in
        let live1 = lives u Live moves _ _ lead1 live in
        let lead2 = push_lead o u Live moves vs c (pc + 1) (instr.PushInt (pos 0)) (number 0) slots1 c.base refl code.1.0 live1 in
        let live2 = lives u Live moves _ _ lead2 live1 in
        let lead3 = store_lead o u Live moves vs c (pc + 1 + 1) loop.count (number 0) slots1 c.base code.1.1.0 live2 in
        let there = same_place o u Live moves vs c (pc + 1 + 1 + 1) start slots2 c.base (parts vs (at c pc slots (v ∷ c.base))) code.1.1.1 (leads_on u _ _ _ lead1 (leads_on u _ _ _ lead2 lead3)) in
        let fits1 = fits_held loop.list v c.names c.held c.kept vs.locals slots (store_within o u Live moves vs c pc loop.list v slots c.base code.0 live) loop.free_list loop.unheld_list holds in
        let fits2 = fits_held loop.count (number 0) c.names (loop.list ∷ c.held) (v ∷ c.kept) vs.locals slots1 (store_within o u Live moves vs c (pc + 1 + 1) loop.count (number 0) slots1 c.base code.1.1.0 live2) loop.free_count loop.unheld_count fits1 in (
          at c start slots2 c.base,
          there,
          (k, (loop, (0, start, inl (comes, refl), record { named = named; slots = slots2; holds = fits2; is = refl }))),
        )

    -- the counter is one more
    count_lead : (n : ℕ) (list : Value) (slots : List Value) → n < length (items_in list) → Counted n list slots → Live (parts vs (at c loop.again slots c.base)) → Leads u (parts vs (at c loop.again slots c.base)) (parts vs (at c loop.back (slice_set slots loop.count (number (n + 1))) c.base))
    count_lead n list slots few holds live =
        let w = loop.counts in
        let is = w.1.0 in
        let i = instr.Update false loop.count [] 1 in
        let lead1 = push_lead o u Live moves vs c loop.again (instr.PushInt (pos 1)) (number 1) slots c.base refl w.0 live in
        let live1 = lives u Live moves _ _ lead1 live in
        let short : length (items_in list) ≤ MAX_ITEMS = moves.short (parts vs (at c loop.again slots c.base)) (call c loop.again slots c.base) c.below loop.list list live refl holds.keeps.1.0 in
        let row_at = λ (t : ℕ). update_row u is.f c.function (loop.again + 1) (values vs.globals) slots c.below t false loop.count [] 1 1 (number 1 ∷ []) [] c.base refl refl refl in
        let alive_at = λ (t : ℕ). subst IsSome (row_at t) (alive o u Live moves vs c (loop.again + 1) i slots (number 1 ∷ c.base) is t live1) in
        let there = λ (t : ℕ). updated_there u is.f c.function (loop.again + 1) (values vs.globals) slots c.below t false loop.count 1 (number 1 ∷ []) c.base [] [] (number n) (Some []) refl holds.keeps.0 (alive_at t) in
        let same = λ (t : ℕ). let q : (there t).path ≡ [] = cc (sym (there t).led) in q in
        let told = λ (t : ℕ). value_told Increased 1 1 [] (number n) (number 1 ∷ []) (refl, refl) refl (subst (λ p. IsSome (value_changed 1 p (number n) (number 1 ∷ []))) (same t) (there t).some) in
        let on = λ (t : ℕ). row_at t ∙ (there t).is
        ∙ ap (λ p. from_value u is.f c.function (loop.again + 1) (values vs.globals) slots c.below t false loop.count c.base (value_changed 1 p (number n) (number 1 ∷ []))) (same t)
        ∙ ap (from_value u is.f c.function (loop.again + 1) (values vs.globals) slots c.below t false loop.count c.base) (told t ∙ ap Some (increased n (omega (arith, few, short))))
        ∙ local_put u is.f c.function (loop.again + 1) (values vs.globals) slots c.below t loop.count (number (n + 1)) (number n) c.base holds.keeps.0 in
        same_place o u Live moves vs c (loop.again + 1 + 1) loop.back (slice_set slots loop.count (number (n + 1))) c.base (parts vs (at c loop.again slots c.base)) w.1.1
        (leads_on u _ _ _ lead1 (goes_by o u Live moves vs vs c (loop.again + 1) i slots (number 1 ∷ c.base) (at c (loop.again + 1 + 1) (slice_set slots loop.count (number (n + 1))) c.base) is on))

    -- the test of the loop
    test_lead : (i : ℕ) (list : Value) (slots : List Value) → Counted i list slots → Live (parts vs (at c (loop.top + 1) slots c.base)) → Leads u (parts vs (at c (loop.top + 1) slots c.base)) (parts vs (at c loop.test slots (value.Bool (is_lt (int_cmp (pos i) (pos (length (items_in list))))) ∷ c.base)))
    test_lead i list slots holds live =
        let w = loop.looks in
        let p = loop.top + 1 in
        let len = length (items_in list) in
        let short : len ≤ MAX_ITEMS = moves.short (parts vs (at c p slots c.base)) (call c p slots c.base) c.below loop.list list live refl holds.keeps.1.0 in
        let lead1 = load_lead o u Live moves vs c p loop.count (number i) slots c.base holds.keeps.0 w.1.0 in
        let lead2 = leads_on u _ _ _ lead1 (load_lead o u Live moves vs c (p + 1) loop.list list slots (number i ∷ c.base) holds.keeps.1.0 w.1.1.0) in
        let live2 = lives u Live moves _ _ lead2 live in
        let sized = λ (t : ℕ). method_row u w.1.1.1.0.f c.function (p + 1 + 1) (values vs.globals) slots c.below t 17 0 [] (number i ∷ c.base) list refl refl in
        let some = some_outcome w.1.1.1.0.f (p + 1 + 1) (values vs.globals) (call c (p + 1 + 1 + 1) slots (number i ∷ c.base)) c.below 0 (called 17 list []) (subst IsSome (sized 0) (alive o u Live moves vs c (p + 1 + 1) (instr.Method 17) slots (list ∷ number i ∷ c.base) w.1.1.1.0 0 live2)) in
        let lead3 = leads_on u _ _ _ lead2 (goes_by o u Live moves vs vs c (p + 1 + 1) (instr.Method 17) slots (list ∷ number i ∷ c.base) (at c (p + 1 + 1 + 1) slots (number len ∷ number i ∷ c.base)) w.1.1.1.0
        (λ t. sized t ∙ ap (finishing w.1.1.1.0.f (p + 1 + 1) (values vs.globals) (call c (p + 1 + 1 + 1) slots (number i ∷ c.base)) c.below t) (size_is list short some))) in
        let live3 = lives u Live moves _ _ lead3 live in
        let b = value.Bool (is_lt (int_cmp (pos i) (pos len))) in
        let lead4 = leads_on u _ _ _ lead3 (computed_lead o u Live moves vs c (p + 1 + 1 + 1) instr.Less (Operated op.Less) (number len ∷ number i ∷ []) slots c.base b (computes instr.Less (Operated op.Less) 2 (number len ∷ number i ∷ []) (refl, refl) refl) (less_is i len) w.1.1.1.1.0 live3) in
        same_place o u Live moves vs c (p + 1 + 1 + 1 + 1) loop.test slots (b ∷ c.base) (parts vs (at c p slots c.base)) w.1.1.1.1.1 lead4

    top_follows : (i : ℕ) (list : Value) (slots : List Value) → 0 ≡ c.kind → Named o u vs → Counted i list slots → Live (parts vs (at c loop.top slots c.base)) → (q : Option Value) → slice_get (items_in list) i ≡ q → Follows o u (item_next vs x i list body q) vs c (at c loop.top slots c.base)
    top_follows i list slots k named holds live q e =
        let is = loop.looks.0 in
        let ticks : Ticks o u (parts vs (at c loop.top slots c.base)) (parts vs (at c (loop.top + 1) slots c.base)) = record {
          ticks = λ n. here o u (values vs.globals) (call c loop.top slots c.base) c.below (suc n) instr.Tick is ∙ tick_row u is.f c.function loop.top (values vs.globals) slots c.below n c.base;
          spent = here o u (values vs.globals) (call c loop.top slots c.base) c.below 0 instr.Tick is ∙ spent_row u is.f c.function loop.top (values vs.globals) slots c.below 0 c.base;
        } in
        let live1 = moves.stays (parts vs (at c loop.top slots c.base)) (parts vs (at c (loop.top + 1) slots c.base)) 1 0 live (ticks.ticks 0) in
        let lead = test_lead i list slots holds live1 in
        go q e ticks live1 lead (lives u Live moves _ _ lead live1)
      where
        b : Value
        b = value.Bool (is_lt (int_cmp (pos i) (pos (length (items_in list)))))

        go : (q : Option Value) → slice_get (items_in list) i ≡ q → Ticks o u (parts vs (at c loop.top slots c.base)) (parts vs (at c (loop.top + 1) slots c.base)) → Live (parts vs (at c (loop.top + 1) slots c.base))
            → Leads u (parts vs (at c (loop.top + 1) slots c.base)) (parts vs (at c loop.test slots (b ∷ c.base))) → Live (parts vs (at c loop.test slots (b ∷ c.base))) → Follows o u (item_next vs x i list body q) vs c (at c loop.top slots c.base)
        go None e ticks live1 lead live2 = (
          at c loop.top slots c.base,
          at c (loop.top + 1) slots c.base,
          at c loop.out slots c.base,
          stays u (parts vs (at c loop.top slots c.base)),
          ticks,
          leads_on u _ _ _ lead (branch_lead o u Live moves vs c loop.test loop.out b slots c.base false (truth_of (is_lt (int_cmp (pos i) (pos (length (items_in list))))) ∙ past_is i (items_in list) e) loop.branch live2),
          (k, (loop.out, loop.done, record { named = named; slots = slots; holds = fits_fewer c.names (loop.count ∷ loop.list ∷ []) c.held (number i ∷ list ∷ []) c.kept vs.locals slots refl holds; is = refl })),
        )
        go (Some v) e ticks live1 lead live2 =
            let w = loop.takes in
            let p = loop.test + 1 in
            let vs' : Variables = with_locals ((x, v) ∷ vs.locals) vs in
            let lead1 = branch_lead o u Live moves vs c loop.test loop.out b slots c.base true (truth_of (is_lt (int_cmp (pos i) (pos (length (items_in list))))) ∙ there_is i (items_in list) v e) loop.branch live2 in
            let lead2 = leads_on u _ _ _ lead1 (leads_on u _ _ _ (load_lead o u Live moves vs c p loop.list list slots c.base holds.keeps.1.0 w.0) (load_lead o u Live moves vs c (p + 1) loop.count (number i) slots (list ∷ c.base) holds.keeps.0 w.1.0)) in
            let live3 = lives u Live moves _ _ lead2 live2 in
            let lead3 = computed_lead o u Live moves vs c (p + 1 + 1) instr.Item ItemTaken (number i ∷ list ∷ []) slots c.base v (computes instr.Item ItemTaken 2 (number i ∷ list ∷ []) (refl, refl) refl) (item_is i list v e) w.1.1.0 live3 in
            let live4 = lives u Live moves _ _ lead3 live3 in
            let slots' = slice_set slots loop.item v in
            let lead4 = store_lead o u Live moves vs c (p + 1 + 1 + 1) loop.item v slots c.base w.1.1.1.0 live4 in
            let all = same_place o u Live moves vs c (p + 1 + 1 + 1 + 1) loop.body slots' c.base (parts vs (at c (loop.top + 1) slots c.base)) w.1.1.1.1 (leads_on u _ _ _ lead (leads_on u _ _ _ lead2 (leads_on u _ _ _ lead3 lead4))) in
            let fits = fits_new x loop.item v c.names (loop.count ∷ loop.list ∷ c.held) (number i ∷ list ∷ c.kept) vs.locals slots (store_within o u Live moves vs c (p + 1 + 1 + 1) loop.item v slots c.base w.1.1.1.0 live4) loop.free_item loop.unheld_item holds in
            let few : i < length (items_in list) = slice_get_within (items_in list) i v e in (
              at c loop.top slots c.base,
              at c (loop.top + 1) slots c.base,
              at c loop.body slots' c.base,
              stays u (parts vs (at c loop.top slots c.base)),
              ticks,
              all,
              (
                k,
                holds_length c.names vs.locals slots holds.holds,
                (
                  loop.again,
                  loop.out,
                  (
                    loop.count ∷ loop.list ∷ [],
                    (
                      number i ∷ list ∷ [],
                      record { as_many = refl; at = λ vs2 slots2 named2 holds2. (refl, (loop, (i, loop.again, inr (refl, refl, few), record { named = named2; slots = slots2; holds = holds2; is = refl }))) },
                      loop.done,
                      ((x, Some loop.item) ∷ c.names, ((x, Some loop.item) ∷ [], refl, loop.begin_body.at vs' slots' c.base (number i ∷ list ∷ c.kept) c.below named fits)),
                    ),
                  ),
                ),
              ),
            )

    items_follows' : (n i pc : ℕ) (list : Value) (slots : List Value) → 0 ≡ c.kind → Counts o u c.function loop.top loop.again pc n i (items_in list) → Named o u vs → Counted n list slots → Live (parts vs (at c pc slots c.base))
        → Follows o u (item_next vs x i list body (slice_get (items_in list) i)) vs c (at c pc slots c.base)
    items_follows' n i pc list slots k (inl q) named holds live =
        let lead = comes_lead o u vs c pc loop.top slots c.base q.0 in
        behind o u (item_next vs x i list body (slice_get (items_in list) i)) vs c (at c pc slots c.base) (at c loop.top slots c.base) lead
        (top_follows i list slots k named (subst (λ n. Counted n list slots) q.1 holds) (lives u Live moves _ _ lead live) (slice_get (items_in list) i) refl)
    items_follows' n i pc list slots k (inr q) named holds live =
        let live1 : Live (parts vs (at c loop.again slots c.base)) = subst (λ p. Live (parts vs (at c p slots c.base))) q.0 live in
        let slots' = slice_set slots loop.count (number (n + 1)) in
        let lead1 : Leads u (parts vs (at c loop.again slots c.base)) (parts vs (at c loop.top slots' c.base))
        = leads_on u _ _ _ (count_lead n list slots q.2 holds live1) (comes_lead o u vs c loop.back loop.top slots' c.base loop.turns) in
        let fits : Counted (n + 1) list slots' = fits_again loop.count (number n) (number (n + 1)) c.names (loop.list ∷ c.held) (list ∷ c.kept) vs.locals slots loop.free_count loop.unheld_count holds in
        let lead : Leads u (parts vs (at c pc slots c.base)) (parts vs (at c loop.top slots' c.base)) = subst (λ p. Leads u (parts vs (at c p slots c.base)) (parts vs (at c loop.top slots' c.base))) (sym q.0) lead1 in
        behind o u (item_next vs x i list body (slice_get (items_in list) i)) vs c (at c pc slots c.base) (at c loop.top slots' c.base) lead
        (top_follows i list slots' k named (subst (λ n. Counted n list slots') (sym q.1) fits) (lives u Live moves _ _ lead live) (slice_get (items_in list) i) refl)

  pub each_follows : (vs : Variables) (c : Site) (pc start : ℕ) (x : List ℕ) (body : Term) (loop : EachAt o u (Stands o u body) c.function c.held c.names c.exit x) (v : Value) (slots : List Value) → 0 ≡ c.kind
      → Row o u c.function pc (instr.Store loop.list ∷ instr.PushInt (pos 0) ∷ instr.Store loop.count ∷ []) start → Comes o u c.function start loop.top → Named o u vs → Fits c.names c.held c.kept vs.locals slots
      → Live (parts vs (at c pc slots (v ∷ c.base))) → Follows o u (Becomes false vs (Items x 0 v body)) vs c (at c pc slots (v ∷ c.base))
  each_follows vs c pc start x body loop v slots k row comes named holds live = each_follows' vs c x body loop pc start v slots k row comes named holds live

  pub items_follows : (vs : Variables) (c : Site) (n i pc : ℕ) (x : List ℕ) (list : Value) (body : Term) (loop : EachAt o u (Stands o u body) c.function c.held c.names c.exit x) (slots : List Value) → 0 ≡ c.kind
      → Counts o u c.function loop.top loop.again pc n i (items_in list) → Named o u vs → Fits c.names (loop.count ∷ loop.list ∷ c.held) (number n ∷ list ∷ c.kept) vs.locals slots → Live (parts vs (at c pc slots c.base))
      → Follows o u (item_next vs x i list body (slice_get (items_in list) i)) vs c (at c pc slots c.base)
  items_follows vs c n i pc x list body loop slots k counts named holds live = items_follows' vs c x body loop n i pc list slots k counts named holds live
