-- The rows of a verified unit keep a thread valid.
use Rattle.std.proofs.Common.{◌++◌, ◌∙◌, ◌≡◌, ◌≤◌, zero, suc, slice_get, sym, ℕ, List, [], ◌∷◌, length, Some, IsSome, refl, ap, subst, arith}
use Rattle.std.specs.Prelude.{◌≢◌}
use Rattle.bds_value.specs.declared.TheConstants.{MAX_ITEMS}
use Rattle.bds_value.specs.declared.value.Ty.{Ty}
use Rattle.bds_value.specs.declared.value.Value.{Value}
use Rattle.bds_value.specs.declared.value.Value.TheVariants as value
use Rattle.bds_value.specs.Spelling.{IsWithinHere, IsWithinLimits}
use Rattle.bds_value.proofs.Every.{every-List}
use Rattle.bds_value.proofs.FormedLaws.{value_cases}
use Rattle.bds_code.specs.declared.unit.Unit.{Unit as CodeUnit}
use Rattle.bds_code_frames.specs.Stack.{Stack}
use Rattle.bds_machine.specs.Calls.{Step, On}
use Rattle.bds_machine.specs.Table.{step as machine_step}
use Rattle.bds_verify.specs.Threads.{Typed, AreCalls, AreLive}
use Rattle.bds_value.specs.Readers.{items_in}
use Rattle.bds_sim.proofs.Reading.{items_there as items_at}
use Rattle.bds_machine.proofs.Moves.{Well}
use Rattle.bds_machine.proofs.Progress.{next_row}
use Rattle.bds_verify.specs.Verified.{VerifiedUnit}
use Rattle.bds_sim.specs.Threads.{Live}
use Rattle.bds_sim.proofs.Valid.{Keeps}

-- what is told of the rows of a verified unit
abbrev pub KeepsValid : CodeUnit → Type 0
KeepsValid u = (g : List Value) → (s : Stack) → (t : ℕ) → AreLive u g s → s ≢ [] → IsSome (machine_step u g s t)
    × ((g' : List Value) → (s' : Stack) → (t' : ℕ) → machine_step u g s t ≡ Some (On g' s' t') → AreLive u g' s' × (s' ≢ []))

-- what a valid call holds is within the limits of values
few_in : (v : Value) → IsWithinLimits v → length (items_in v) ≤ MAX_ITEMS
few_in = value_cases (λ v. IsWithinLimits v → length (items_in v) ≤ MAX_ITEMS)
    (λ b h. none_in (value.Bool b) (ap items_at (value.outs-Bool b)))
    (λ n h. none_in (value.Int n) (ap items_at (value.outs-Int n)))
    (λ s h. none_in (value.Text s) (ap items_at (value.outs-Text s)))
    (λ t items h. subst (λ l. length l ≤ MAX_ITEMS) (sym (ap items_at (value.outs-List t items))) ((every-List IsWithinHere t items).0 h).0)
    (λ t ps h. none_in (value.Map t ps) (ap items_at (value.outs-Map t ps)))
  where
    none_in : (v : Value) → items_in v ≡ [] → length (items_in v) ≤ MAX_ITEMS
    none_in v e = subst (λ l. length l ≤ MAX_ITEMS) (sym e) (omega arith)

slot_short : (vs : List Value) (ts : List Ty) (i : ℕ) (v : Value) → Typed vs ts → slice_get vs i ≡ Some v → length (items_in v) ≤ MAX_ITEMS
slot_short [] ts i v h e = absurd (cc e)
slot_short (w ∷ vs) [] i v h e = absurd h
slot_short (w ∷ vs) (t ∷ ts) zero v h e = let q : w ≡ v = cc e in subst (λ v. length (items_in v) ≤ MAX_ITEMS) q (few_in w h.0.limits)
slot_short (w ∷ vs) (t ∷ ts) (suc i) v h e = slot_short vs ts i v h.1 e

pub valid_moves : (u : CodeUnit) → KeepsValid u → Keeps u
valid_moves u law = record {
  moves = λ m t live. (law m.globals m.calls t live.valid live.some).0;
  stays = λ m m' t t' live e. let n = (law m.globals m.calls t live.valid live.some).1 m'.globals m'.calls t' e in record { valid = n.0; some = n.1 };
  short = λ m c below i v live e q.
      let calls : AreCalls u live.valid.shapes (c ∷ below) = subst (AreCalls u live.valid.shapes) e live.valid.calls in
      slot_short c.slots (calls.f.params ++ calls.f.locals) i v calls.call.slots q;
}

-- a valid thread of a verified unit has a next row, and stays valid
pub rows_keep : (u : CodeUnit) → VerifiedUnit u → KeepsValid u
rows_keep u v g s t live some =
    let r = next_row u g s t v live some in (
      subst IsSome (sym r.1) refl,
      λ g' s' t' e. let same : r.0 ≡ On g' s' t' = told_row r.0 (On g' s' t') (sym r.1 ∙ e) in let w = subst (Well u s t) same r.2 in (w.0, w.1),
    )
  where
    told_row : (x y : Step) → Some x ≡ Some y → x ≡ y
    told_row x y e = cc
