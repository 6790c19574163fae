-- Operands of a type are there to be taken.
use Rattle.std.proofs.Common.{◌≡◌, ℕ, List, [], ◌∷◌, Option, Some, refl, ap, ◌∙◌, subst}
use Rattle.std.specs.List.{AllByRecursion}
use Rattle.bds_value.specs.declared.value.Ty.{Ty}
use Rattle.bds_value.specs.declared.value.Ty.TheVariants as ty
use Rattle.bds_value.specs.declared.value.Value.{Value}
use Rattle.bds_value.specs.declared.value.Value.TheVariants as value
use Rattle.bds_value.specs.Value.{type_of, IsWellFormed, FitsHere}
use Rattle.bds_value.proofs.Every.{every-List}
use Rattle.bds_value.proofs.ResultLaws.{of_text, of_list}
use Rattle.bds_value.specs.Options.{◌>>=◌}
use Rattle.bds_value.specs.Readers.{text_at, items_at, as_bool, as_int, as_text, as_items, as_texts, all_texts}
use Rattle.bds_code.specs.declared.unit.Function.{Function}
use Rattle.bds_code_frames.specs.Stack.{Call, Stack, popped, popped_of, with_ops}
use Rattle.bds_verify.specs.Threads.{Holds, IsCall, Typed}
use Rattle.bds_machine_values.specs.Operands.{taken_as}
use Rattle.bds_machine.proofs.Fits.{Kept}
use Rattle.bds_machine.proofs.OperandFits.{bool_there, int_there, text_there}

-- what follows a thing that is there
pub then_is : {A B : Type 0} (o : Option A) (x : A) (go : A → Option B) (y : Option B) → o ≡ Some x → go x ≡ y → o >>= go ≡ y
then_is o x go y e h = ap (λ o. o >>= go) e ∙ h

-- a value that is read as one of a type
abbrev pub Reads : {X : Type 0} → (Value → Option X) → Ty → Type 0
Reads {X = X} reads t = (v : Value) → Holds v t → (x : X) × (reads v ≡ Some x)

pub reads-Bool : Reads as_bool ty.Bool
reads-Bool v h = let r = bool_there v h in (r.0, r.1)

pub reads-Int : Reads as_int ty.Int
reads-Int v h = let r = int_there v h in (r.0, r.1)

pub reads-Text : Reads as_text ty.Text
reads-Text v h = let r = text_there v h in (r.0, r.1)

text_read : (v : Value) → type_of v ≡ ty.Text → (t : List ℕ) × (as_text v ≡ Some t)
text_read v e = let r = of_text v e in (r.0, ap as_text r.1 ∙ ap text_at (value.outs-Text r.0))

all_read : (vs : List Value) → AllByRecursion (λ v. type_of v ≡ ty.Text) vs → (ts : List (List ℕ)) × (all_texts vs ≡ Some ts)
all_read [] h = ([], refl)
all_read (v ∷ vs) h =
    let t = text_read v h.0 in
    let ts = all_read vs h.1 in
    (t.0 ∷ ts.0, then_is (as_text v) t.0 (λ t. all_texts vs >>= λ ts. Some (t ∷ ts)) (Some (t.0 ∷ ts.0)) t.1 (then_is (all_texts vs) ts.0 (λ ts. Some (t.0 ∷ ts)) (Some (t.0 ∷ ts.0)) ts.1 refl))

pub reads-Texts : Reads as_texts (ty.List ty.Text)
reads-Texts v h =
    let items = of_list v ty.Text h.type in
    let parts = (every-List FitsHere ty.Text items.0).0 (subst IsWellFormed items.1 h.formed) in
    let ts = all_read items.0 parts.0 in
    (ts.0, then_is (as_items v) items.0 all_texts (Some ts.0) (ap as_items items.1 ∙ ap items_at (value.outs-List ty.Text items.0)) ts.1)

pub kept_on : (f : Function) (shape rest : List Ty) (c d e : Call) → Kept f shape c d → Kept f rest d e → Kept f rest c e
kept_on f shape rest c d e h k = record { function = k.function ∙ h.function; place = k.place ∙ h.place; call = k.call }

-- a thing that is taken, and the call without it
pub record Took {X : Type 0} (f : Function) (rest : List Ty) (c : Call) (below : Stack) (o : Option (X × Stack)) : Type 0 where
  pub value : X
  pub left : Call
  pub is : o ≡ Some (value, left ∷ below)
  pub kept : Kept f rest c left

module _ (f : Function) (rest : List Ty) (c : Call) (below : Stack) where
  pub record Popped (t : Ty) : Type 0 where
    pub value : Value
    pub left : Call
    pub is : popped (c ∷ below) ≡ Some (value, left ∷ below)
    pub kept : Kept f rest c left
    pub holds : Holds value t

  popped_by : (t : Ty) (ops : List Value) → c.ops ≡ ops → Typed ops (t ∷ rest) → IsCall f (t ∷ rest) c → Popped t
  popped_by t [] e h k = absurd h
  popped_by t (v ∷ vs) e h k = record {
    value = v;
    left = with_ops vs c;
    is = ap (λ ops. popped_of ops c below) e;
    kept = record { function = refl; place = refl; call = record { slots = k.slots; ops = h.1 } };
    holds = h.0;
  }

  pub pops : (t : Ty) → IsCall f (t ∷ rest) c → Popped t
  pops t k = popped_by t c.ops refl k.ops k

  pub takes_as : {X : Type 0} (reads : Value → Option X) (t : Ty) → Reads reads t → IsCall f (t ∷ rest) c → Took f rest c below (taken_as reads (c ∷ below))
  takes_as reads t there k =
      let p = pops t k in
      let x = there p.value p.holds in
      record {
        value = x.0;
        left = p.left;
        is = then_is (popped (c ∷ below)) (p.value, p.left ∷ below) (λ r. reads r.0 >>= λ x. Some (x, r.1)) (Some (x.0, p.left ∷ below)) p.is
            (then_is (reads p.value) x.0 (λ x. Some (x, p.left ∷ below)) (Some (x.0, p.left ∷ below)) x.1 refl);
        kept = p.kept;
      }
