-- How operands go through marks: each instruction finds what it takes, and each label has what comes to it.
use Rattle.std.specs.Prelude.{◌≡◌, ◌≤◌, ◌+◌, ℕ, suc, List, [], ◌∷◌, Option, Some, None, Ok, Bool, true, false, ⊤, slice_get, reverse}
use Rattle.bds_value.specs.declared.value.Ty.{Ty}
use Rattle.bds_code.specs.declared.instr.Instr.{Instr}
use Rattle.bds_code.specs.declared.instr.Instr.TheVariants.{Tick}
use Rattle.bds_code.specs.declared.unit.Function.{Function}
use Rattle.bds_code.specs.declared.unit.Unit.{Unit as CodeUnit}
use Rattle.bds_code.specs.Row.{row}
use Rattle.bds_verify.specs.Verified.{label_at, goes_on, target}
use Rattle.bds_gen_expr.specs.Marks.{Mark, does, label, slot, count}

-- the list at a label is the one that comes, if one does
abbrev pub Meets : Option (List Ty) → List Ty → Type 0
Meets None s = ⊤
Meets (Some c) s = c ≡ s

abbrev pub kept : Bool → List Ty → Option (List Ty)
kept true s = Some s
kept false s = None

-- `Labels` are the labels of the function, each with its list, and `Ticks` its places where a tick is counted
module _ (u : CodeUnit) (f : Function) (Labels : ℕ → List Ty → Type 0) (Ticks : ℕ → Type 0) where
  -- an instruction at a place with these operands, and those behind it
  pub record IsRow (p : ℕ) (i : Instr) (s next : List Ty) : Type 0 where
    pub effect : row u f i s ≡ Ok next
    pub jump : (to : ℕ) → target i ≡ Some to → Labels to next × (to ≤ p → Ticks to)

  -- these marks from a place on, from what comes to what comes behind them
  abbrev pub Goes : List Mark → ℕ → Option (List Ty) → Option (List Ty) → Type 0
  Goes [] p come end = come ≡ end
  Goes (does i at ∷ ms) p come end = (s : List Ty) × (next : List Ty) × (come ≡ Some s) × IsRow p i s next × Goes ms (suc p) (kept (goes_on i) next) end
  Goes (label s ∷ ms) p come end = Meets come s × Goes ms p (Some s) end
  Goes (slot t ∷ ms) p come end = Goes ms p come end

  -- these marks stand in the function from a place on
  abbrev pub HasMarks : List Mark → ℕ → Type 0
  HasMarks [] p = ⊤
  HasMarks (does i at ∷ ms) p = (i ≡ Tick → Ticks p) × HasMarks ms (suc p)
  HasMarks (label s ∷ ms) p = Labels p s × HasMarks ms p
  HasMarks (slot t ∷ ms) p = HasMarks ms p

  -- code that stands from a place to another, and leads from these operands to those
  pub record Runs (ms : List Mark) (p q : ℕ) (s t : List Ty) : Type 0 where
    pub place : p + count ms ≡ q
    pub goes : HasMarks ms p → Goes ms p (Some s) (Some t)

-- the labels and ticks of a function itself
abbrev pub Own : Function → ℕ → List Ty → Type 0
Own f q s = label_at f.labels q ≡ Some (reverse s)

abbrev pub OwnTicks : Function → ℕ → Type 0
OwnTicks f q = slice_get f.code q ≡ Some Tick

abbrev pub Anything : ℕ → List Ty → Type 0
Anything q s = ⊤

abbrev pub Anywhere : ℕ → Type 0
Anywhere q = ⊤

-- operands go through a whole function, whatever jumps need and with its own labels; nothing comes behind its end
pub record Passes (u : CodeUnit) (f : Function) (ms : List Mark) : Type 0 where
  pub anyhow : Goes u f Anything Anywhere ms 0 (Some []) None
  pub own : HasMarks u f (Own f) (OwnTicks f) ms 0 → Goes u f (Own f) (OwnTicks f) ms 0 (Some []) None
