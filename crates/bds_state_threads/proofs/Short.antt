-- What a call holds is within the limits.
use Rattle.std.proofs.Common.{◌≡◌, ◌≤◌, ℕ, List, [], ◌∷◌, ◌++◌, length}
use Rattle.std.specs.List.{All}
use Rattle.std.proofs.lemmas.List.Elements.{All-nil, All-cons}
use Rattle.bds_value.specs.declared.TheConstants.{MAX_TEXT, MAX_ITEMS}
use Rattle.bds_value.specs.declared.value.Ty.{Ty}
use Rattle.bds_value.specs.declared.value.Value.{Value}
use Rattle.bds_value.specs.declared.value.Value.TheVariants as value
use Rattle.bds_value.specs.Spelling.{IsWithinHere, IsWithinLimits}
use Rattle.bds_value.proofs.Every.{every-Text, every-List, every-Map}
use Rattle.bds_code.specs.declared.unit.Function.{Function}
use Rattle.bds_code_frames.specs.Stack.{Call}
use Rattle.bds_verify.specs.Threads.{Typed, IsCall}

typed-short : (vs : List Value) (ts : List Ty) → Typed vs ts → All IsWithinLimits vs
typed-short [] ts h = All-nil IsWithinLimits
typed-short (v ∷ vs) [] h = absurd h
typed-short (v ∷ vs) (t ∷ ts) h = All-cons IsWithinLimits v vs h.0.limits (typed-short vs ts h.1)

pub short-slots : (f : Function) (shape : List Ty) (c : Call) → IsCall f shape c → All IsWithinLimits c.slots
short-slots f shape c h = typed-short c.slots (f.params ++ f.locals) h.slots

pub short-operands : (f : Function) (shape : List Ty) (c : Call) → IsCall f shape c → All IsWithinLimits c.ops
short-operands f shape c h = typed-short c.ops shape h.ops

pub short-text : (text : List ℕ) → IsWithinLimits (value.Text text) → length text ≤ MAX_TEXT
short-text text h = (every-Text IsWithinHere text).0 h

pub short-list : (t : Ty) (items : List Value) → IsWithinLimits (value.List t items) → length items ≤ MAX_ITEMS
short-list t items h = ((every-List IsWithinHere t items).0 h).0

pub short-map : (t : Ty) (pairs : List (List ℕ × Value)) → IsWithinLimits (value.Map t pairs) → length pairs ≤ MAX_ITEMS
short-map t pairs h = ((every-Map IsWithinHere t pairs).0 h).0.0
