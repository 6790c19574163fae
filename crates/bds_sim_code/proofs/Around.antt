-- What is in force before a statement of a block is the same to the checker, the generator and the relation.
use Rattle.std.proofs.Common.{◌≡◌, ◌≢◌, ℕ, ◌+◌, ◌<◌, ◌≤◌, Bool, true, false, List, [], ◌∷◌, ◌++◌, Option, Some, None, arith, ap}
use Rattle.std.specs.Prelude.{⊤}
use Rattle.bds_code.specs.declared.unit.Unit.{Unit as CodeUnit}
use Rattle.bds_check_names.specs.declared.names.Names.{Names as Checked}
use Rattle.bds_gen_stmt.specs.Spots.{Loop as Written, Spot}
use Rattle.bds_meaning.specs.Work.{Setting, Outputs, Inputs, Processors, CanFail, Retries, TaskName, Condition}
use Rattle.bds_sim_terms.specs.steps.Stands.{Source, Names, Target, Loop, out_of, again_of, Free, Unheld, option_number, option_slot, AreSpare}
use Rattle.bds_sim_code.proofs.Agree.{Agrees}
use Rattle.bds_sim_code.specs.StmtHere.{Leaps}

-- the slots of names, and those that are held, are all below this one

abbrev pub Under : ℕ → Option ℕ → Type 0
Under next None = ⊤
Under next (Some i) = i < next

abbrev pub AllUnder : ℕ → Names → Type 0
AllUnder next [] = ⊤
AllUnder next (p ∷ ns) = Under next p.1 × AllUnder next ns

abbrev pub HeldUnder : ℕ → List ℕ → Type 0
HeldUnder next [] = ⊤
HeldUnder next (h ∷ hs) = (h < next) × HeldUnder next hs

-- the generator's place is that of the relation, and the names there are still in force
abbrev pub Reaches : Option Written → (Written → ℕ) → Option Target → Names → Type 0
Reaches (Some w) place (Some to) ns = (place w ≡ to.place) × ((added : Names) × (ns ≡ added ++ to.names))
Reaches _ place _ ns = ⊥

abbrev pub WhereTrue : Bool → Type 0 → Type 0
WhereTrue true A = A
WhereTrue false A = ⊤

-- where a loop or a `switch` is around, it is one
pub record IsAround (leaps : Leaps) (w : Option Written) (l : Option Loop) (ns : Names) : Type 0 where
  pub breaks : WhereTrue leaps.breaks (Reaches w (λ k. k.end) (out_of l) ns)
  pub continues : WhereTrue leaps.continues (Reaches w (λ k. k.again) (again_of l) ns)

pub record Around (o : Source) (u : CodeUnit) (held : List ℕ) (loop : Option Loop) (names : Checked) (sp : Spot) (loops : Leaps) (ns : Names) : Type 0 where
  pub agrees : Agrees o u names sp.scope ns
  pub low : sp.at_top ≡ false
  pub under : AllUnder sp.next ns
  pub held_under : HeldUnder sp.next held
  pub around : IsAround loops sp.loop loop ns
  -- no name and nothing that is held has one of the eight slots of options, and they are in front of the next slot
  pub spare : AreSpare o u sp.first ns held
  pub room : sp.first + 8 ≤ sp.next

-- a slot from there on is free

not_under : (next i : ℕ) (p : Option ℕ) → Under next p → next ≤ i → p ≡ Some i → ⊥
not_under next i None h le e = absurd (cc)
not_under next i (Some j) h le e = absurd (let f : j ≡ i = ap (number_or_zero) e in omega (arith, h, le, f))
  where
    number_or_zero : Option ℕ → ℕ
    number_or_zero None = 0
    number_or_zero (Some k) = k

pub free_above : (next i : ℕ) (ns : Names) → AllUnder next ns → next ≤ i → Free i ns
free_above next i [] h le = tt
free_above next i (p ∷ ns) h le = (not_under next i p.1 h.0 le, free_above next i ns h.1 le)

pub unheld_above : (next i : ℕ) (hs : List ℕ) → HeldUnder next hs → next ≤ i → Unheld i hs
unheld_above next i [] h le = tt
unheld_above next i (j ∷ hs) h le = (below, unheld_above next i hs h.1 le)
  where
    below : j ≡ i → ⊥
    below e = absurd (let k = h.0 in omega (arith, k, le, e))

-- further on

pub under_more : (next more : ℕ) (p : Option ℕ) → Under next p → next ≤ more → Under more p
under_more next more None h le = tt
under_more next more (Some i) h le = omega (arith, h, le)

pub all_under_more : (next more : ℕ) (ns : Names) → AllUnder next ns → next ≤ more → AllUnder more ns
all_under_more next more [] h le = tt
all_under_more next more (p ∷ ns) h le = (under_more next more p.1 h.0 le, all_under_more next more ns h.1 le)

pub held_under_more : (next more : ℕ) (hs : List ℕ) → HeldUnder next hs → next ≤ more → HeldUnder more hs
held_under_more next more [] h le = tt
held_under_more next more (i ∷ hs) h le = (let k = h.0 in omega (arith, k, le), held_under_more next more hs h.1 le)

-- the slots of options

few_options : (k : Setting) → option_number k < 8
few_options Outputs = omega arith
few_options Inputs = omega arith
few_options Processors = omega arith
few_options CanFail = omega arith
few_options Retries = omega arith
few_options TaskName = omega arith
few_options Condition = omega arith

module _ (o : Source) (u : CodeUnit) (first : ℕ) where
  beyond : (i : ℕ) (k : Setting) → first + 8 ≤ i → i ≡ option_slot first k → ⊥
  beyond i k le e = absurd (let few = few_options k in omega (arith, le, few, e))

  abbrev number_in : Option ℕ → ℕ
  number_in None = 0
  number_in (Some i) = i

  -- with one more local, and with one more slot that is held
  pub spare_local : (x : List ℕ) (i : ℕ) (ns : Names) (held : List ℕ) → first + 8 ≤ i → AreSpare o u first ns held → AreSpare o u first ((x, Some i) ∷ ns) held
  spare_local x i ns held le h k = let r = h k in ((apart, r.0), r.1)
    where
      apart : Some i ≢ Some (option_slot first k)
      apart e = beyond i k le (ap number_in e)

  pub spare_held : (i : ℕ) (ns : Names) (held : List ℕ) → first + 8 ≤ i → AreSpare o u first ns held → AreSpare o u first ns (i ∷ held)
  spare_held i ns held le h k = let r = h k in (r.0, (beyond i k le, r.1))

  -- where all names have slots below them
  pub spare_above : (ns : Names) → AllUnder first ns → AreSpare o u first ns []
  spare_above ns under k = (free_above first (option_slot first k) ns under (omega arith), tt)
