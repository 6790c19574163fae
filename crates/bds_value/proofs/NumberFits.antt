-- The numbers of each kind of value have 64 bits where those of its parts do.
use Rattle.std.proofs.Common.{◌≡◌, ℕ, ℤ, Bool, List, sym, subst}
use Rattle.std.specs.Prelude.{FitsSigned}
use Rattle.std.specs.Int.{w64}
use Rattle.std.specs.List.{All}
use Rattle.std.proofs.lemmas.List.Elements.{recursion_from_All}
use Rattle.bds_value.specs.declared.value.Ty.{Ty}
use Rattle.bds_value.specs.declared.value.Value.{Value}
use Rattle.bds_value.specs.declared.value.Value.TheVariants as value
use Rattle.bds_value.specs.Fields.{NumberFits, NumbersFit, PairNumbersFit}
use Rattle.bds_value.proofs.Every.{every-Bool, every-Int, every-List, every-Map, every-Text}

pub fits-Bool : (v : Value) (b : Bool) → v ≡ value.Bool b → NumbersFit v
fits-Bool v b e = subst NumbersFit (sym e) ((every-Bool NumberFits b).1 tt)

pub fits-Int : (v : Value) (n : ℤ) → v ≡ value.Int n → FitsSigned w64 n → NumbersFit v
fits-Int v n e h = subst NumbersFit (sym e) ((every-Int NumberFits n).1 h)

pub fits-Text : (v : Value) (t : List ℕ) → v ≡ value.Text t → NumbersFit v
fits-Text v t e = subst NumbersFit (sym e) ((every-Text NumberFits t).1 tt)

pub fits-List : (v : Value) (t : Ty) (items : List Value) → v ≡ value.List t items → All NumbersFit items → NumbersFit v
fits-List v t items e h = subst NumbersFit (sym e) ((every-List NumberFits t items).1 (tt, recursion_from_All NumbersFit items h))

pub fits-Map : (v : Value) (t : Ty) (pairs : List (List ℕ × Value)) → v ≡ value.Map t pairs → All PairNumbersFit pairs → NumbersFit v
fits-Map v t pairs e h = subst NumbersFit (sym e) ((every-Map NumberFits t pairs).1 (tt, recursion_from_All PairNumbersFit pairs h))

pub ruleset fit_rules = (fits-Bool, fits-Int, fits-Text, fits-List, fits-Map)
