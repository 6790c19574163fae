-- For contracts within the parser alone: reading a written type.
use Rattle.std.specs.Prelude.{ℕ, zero, suc, List, [], ◌∷◌, Option, Some, None}
use Rattle.bds_value.specs.declared.value.Ty.{Ty}
use Rattle.bds_value.specs.declared.value.Ty.TheVariants as ty
use Rattle.bds_value.specs.Options.{◌>>=◌}
use Rattle.bds_tree.specs.declared.token.Word.{Word}
use Rattle.bds_tree.specs.declared.token.Word.TheVariants as w
use Rattle.bds_tree.specs.declared.token.Token.{Token}
use Rattle.bds_parse_expr.specs.Reading.{Read}
use Rattle.bds_parse_stmt_parts.specs.declared.types.Wrapper.{Wrapper}
use Rattle.bds_parse_stmt_parts.specs.declared.types.Wrapper.TheVariants as wrapper

abbrev pub wrap : Wrapper → Ty → Ty
wrap wrapper.List t = ty.List t
wrap wrapper.Map t = ty.Map t

abbrev pub wrapper_of : Word → Word → Option Wrapper
wrapper_of w.OpenSquare w.CloseSquare = Some wrapper.List
wrapper_of w.OpenValue w.CloseValue = Some wrapper.Map
wrapper_of _ _ = None

-- `[ ]` or `{ }` at the front
abbrev pub wrapper_at : List Token → Option (Wrapper × List Token)
wrapper_at [] = None
wrapper_at (t ∷ []) = None
wrapper_at (t ∷ u ∷ ts) = wrapper_of t.word u.word >>= λ k. Some (k, ts)

abbrev pub wrap_step : (Ty → List Token → Read Ty) → Ty → List Token → Option (Wrapper × List Token) → Read Ty
wrap_step go t ts None = Some (t, ts)
wrap_step go t ts (Some x) = go (wrap x.0 t) x.1

-- a type with each `[ ]` and `{ }` that stands behind it, at most so many
unfoldable pub wrapped : ℕ → Ty → List Token → Read Ty
wrapped zero t ts = wrap_step (λ u us. None) t ts (wrapper_at ts)
wrapped (suc room) t ts = wrap_step (wrapped room) t ts (wrapper_at ts)

abbrev pub plain_type : Word → Option Ty
plain_type w.Bool = Some ty.Bool
plain_type w.Int = Some ty.Int
plain_type w.String = Some ty.Text
plain_type _ = None

abbrev pub type_below : ℕ → Ty → List Token → Read Ty
type_below zero t ts = None
type_below (suc room) t ts = wrapped room t ts

-- a type that nests less than the number
abbrev pub type_at : ℕ → List Token → Read Ty
type_at most [] = None
type_at most (t ∷ ts) = plain_type t.word >>= λ u. type_below most u ts

abbrev pub result_by : Word → List Token → Read Ty → Read Ty
result_by w.Void ts other = Some (ty.Void, ts)
result_by _ ts other = other

abbrev pub result_at : ℕ → List Token → Read Ty
result_at most [] = type_at most []
result_at most (t ∷ ts) = result_by t.word ts (type_at most (t ∷ ts))
