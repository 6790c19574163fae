-- A row that leaves the machine is valid behind any answer.
use Rattle.std.proofs.Common.{◌≡◌, ◌≢◌, ◌+◌, ℕ, List, [], ◌∷◌, ◌++◌, reverse, slice_get, true, Option, Some, None, Ok, refl, sym, ap, ◌∙◌, subst, inl, inr}
use Rattle.bds_value.specs.declared.value.Ty.{Ty}
use Rattle.bds_value.specs.declared.value.Value.{Value}
use Rattle.bds_code.specs.declared.instr.Instr.{Instr}
use Rattle.bds_code.specs.declared.unit.Unit.{Unit as CodeUnit}
use Rattle.bds_code.specs.Operands.{given, swapped}
use Rattle.bds_code.specs.Row.{row}
use Rattle.bds_code_frames.specs.Stack.{Call, Stack, with_ops}
use Rattle.bds_verify.specs.Threads.{AreLive, IsCall, Typed}
use Rattle.bds_verify.specs.Verified.{IsFine, goes_on}
use Rattle.bds_machine.specs.declared.point.Point.{Point}
use Rattle.bds_machine.specs.Answers.{awaited, IsAnswer}
use Rattle.bds_machine.specs.Calls.{Leaves, received}
use Rattle.bds_machine.specs.Points.{asked}
use Rattle.bds_machine.specs.Table.{asks, onward}
use Rattle.bds_machine.proofs.Asked.{AsksRow}
use Rattle.bds_machine.proofs.Effects.{given-Void, turned-ok}
use Rattle.bds_machine.proofs.Ends.{next_call, behind_typed, stops_well}
use Rattle.bds_machine.proofs.Fits.{Kept}
use Rattle.bds_machine.proofs.Moves.{Newest, Goes, LeavesWell, awaited_rests, some_calls, moves_live}
use Rattle.bds_machine.proofs.TypesFits.{swapped-ok, given-value}

some_same : {A : Type 0} {x y : A} → Some x ≡ Some y → x ≡ y
some_same h = cc

module _ (u : CodeUnit) (g : List Value) (c : Call) (below : Stack) (t : ℕ) (n : Newest u g c below)
    (i : Instr) (next : List Ty) (at : slice_get n.f.code c.place ≡ Some i) (fine : IsFine u n.f (n.shapes c.function) c.place i next)
    (type : Ty) (awaits : awaited i ≡ Some type) (on : goes_on i ≡ true) where
  -- behind an answer, with these operands
  answered : (rest : List Ty) (d : Call) (ops : List Value) → reverse next ≡ given type ++ rest → Kept n.f rest (next_call u g c below t n) d → Typed ops (given type ++ rest)
      → AreLive u g (with_ops ops d ∷ below)
  answered rest d ops gives k typed =
      let falls = fine.falls on in
      moves_live u g c below n g (with_ops ops d) (c.place + 1) n.globals_typed k.function k.place
      (record { slots = k.call.slots; ops = subst (Typed ops) (sym (ap reverse falls.1 ∙ gives)) typed }) falls.0

  any_answer : (rest : List Ty) (d : Call) → reverse next ≡ given type ++ rest → Kept n.f rest (next_call u g c below t n) d
      → (v : Option Value) → IsAnswer v type → (s' : Stack) → received v (d ∷ below) ≡ Some s' → AreLive u g s' × (s' ≢ [])
  any_answer rest d gives k None void s' got =
      let none : given type ≡ [] = ap given void ∙ given-Void in
      subst (λ s. AreLive u g s × (s ≢ [])) (some_same got)
      (answered rest d d.ops gives k (subst (Typed d.ops) (ap (λ x. x ++ rest) (sym none)) k.call.ops), some_calls d below)
  any_answer rest d gives k (Some v) holds s' got =
      let one : given type ≡ type ∷ [] = given-value type holds.nests in
      subst (λ s. AreLive u g s × (s ≢ [])) (some_same got)
      (answered rest d (v ∷ d.ops) gives k (subst (Typed (v ∷ d.ops)) (ap (λ x. x ++ rest) (sym one)) (holds, k.call.ops)), some_calls (with_ops (v ∷ d.ops) d) below)

  leaves_well : (rest : List Ty) (p : Point) (d : Call) → reverse next ≡ given type ++ rest → asked u i (next_call u g c below t n ∷ below) ≡ Some (Ok (p, d ∷ below))
      → Kept n.f rest (next_call u g c below t n) d → LeavesWell u p g (d ∷ below)
  leaves_well rest p d gives is k = record {
    type = type;
    function = c.function;
    at = c.place;
    f = n.f;
    instruction = i;
    stands = ap (λ function. Some (function, d.place)) k.function ∙ ap (λ place. Some (c.function, place)) k.place;
    there = n.there;
    code = at;
    awaits = awaits;
    call = next_call u g c below t n;
    below = below;
    shape = reverse (n.shapes c.function c.place);
    next = reverse next;
    typed = behind_typed u g c below t n (reverse (n.shapes c.function c.place)) refl;
    taken = turned-ok (row u n.f i (reverse (n.shapes c.function c.place))) next fine.effect;
    asks = is;
    valid = any_answer rest d gives k;
  }

  asks_by : (rest : List Ty) → reverse next ≡ given type ++ rest → AsksRow n.f rest (next_call u g c below t n) below (asked u i (next_call u g c below t n ∷ below))
      → Goes u c below t (asks u n.f i c.place g (next_call u g c below t n ∷ below) t)
  asks_by rest gives (inl h) =
      let stop = stops_well u g c below t n h.0 in
      (stop.0, ap (λ o. onward n.f c.place o t (λ x. Leaves x.0 g x.1 t)) h.1 ∙ stop.1, stop.2)
  asks_by rest gives (inr h) =
      (Leaves h.0 g (h.1 ∷ below) t, ap (λ o. onward n.f c.place o t (λ x. Leaves x.0 g x.1 t)) h.2, (λ e. leaves_well rest h.0 h.1 gives h.2 h.3, awaited_rests u h.0 g (h.1 ∷ below) h.4))

  -- a row that takes operands of these types, and gives one of what is awaited
  pub asks_well : (takes : List Ty) → swapped takes type (reverse (n.shapes c.function c.place)) ≡ Ok (reverse next)
      → ((rest : List Ty) → IsCall n.f (takes ++ rest) (next_call u g c below t n) → AsksRow n.f rest (next_call u g c below t n) below (asked u i (next_call u g c below t n ∷ below)))
      → Goes u c below t (asks u n.f i c.place g (next_call u g c below t n ∷ below) t)
  asks_well takes e then =
      let r = swapped-ok takes type (reverse (n.shapes c.function c.place)) (reverse next) e in
      asks_by r.0 r.2 (then r.0 (behind_typed u g c below t n (takes ++ r.0) r.1))
