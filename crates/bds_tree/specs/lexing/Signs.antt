-- The signs. A brace is a value brace until the line-end rule has judged it.
use Rattle.std.specs.Prelude.{ℕ, ◌==◌, ◌&&◌, List, [], ◌∷◌, Option, Some, None, Result, Ok, Err, if◌then◌else◌}
use Rattle.bds_tree.specs.declared.lexing.Flaw.{Flaw}
use Rattle.bds_tree.specs.declared.lexing.Flaw.TheVariants as flaw
use Rattle.bds_tree.specs.declared.token.Word.{Word}
use Rattle.bds_tree.specs.declared.token.Word.TheVariants as word

-- the sign of two bytes
unfoldable pub two_sign : ℕ → ℕ → Option Word
two_sign a b =
    if (a == 60) && (b == 61) then Some word.AtMost  -- <=
    else (if (a == 60) && (b == 45) then Some word.From  -- <-
    else (if (a == 62) && (b == 61) then Some word.AtLeast  -- >=
    else (if (a == 61) && (b == 61) then Some word.Equal  -- ==
    else (if (a == 61) && (b == 62) then Some word.Arrow  -- =>
    else (if (a == 33) && (b == 61) then Some word.NotEqual  -- !=
    else (if (a == 38) && (b == 38) then Some word.And  -- &&
    else (if (a == 124) && (b == 124) then Some word.Or  -- ||
    else (if (a == 58) && (b == 61) then Some word.Declare  -- :=
    else (if (a == 43) && (b == 61) then Some word.AddAssign  -- +=
    else (if (a == 43) && (b == 43) then Some word.Increment  -- ++
    else (if (a == 45) && (b == 61) then Some word.SubAssign  -- -=
    else (if (a == 45) && (b == 45) then Some word.Decrement  -- --
    else (if (a == 42) && (b == 61) then Some word.MulAssign  -- *=
    else (if (a == 47) && (b == 61) then Some word.DivAssign  -- /=
    else (if (a == 37) && (b == 61) then Some word.RemAssign  -- %=
    else None)))))))))))))))

-- the sign of one byte
unfoldable pub one_sign : ℕ → Option Word
one_sign a =
    if a == 40 then Some word.OpenRound  -- (
    else (if a == 41 then Some word.CloseRound  -- )
    else (if a == 91 then Some word.OpenSquare  -- [
    else (if a == 93 then Some word.CloseSquare  -- ]
    else (if a == 123 then Some word.OpenValue  -- {
    else (if a == 125 then Some word.CloseValue  -- }
    else (if a == 44 then Some word.Comma  -- ,
    else (if a == 59 then Some word.Semicolon  -- ;
    else (if a == 58 then Some word.Colon  -- :
    else (if a == 63 then Some word.Question  -- ?
    else (if a == 46 then Some word.Dot  -- .
    else (if a == 43 then Some word.Plus  -- +
    else (if a == 45 then Some word.Minus  -- -
    else (if a == 42 then Some word.Star  -- *
    else (if a == 47 then Some word.Slash  -- /
    else (if a == 37 then Some word.Percent  -- %
    else (if a == 33 then Some word.Not  -- !
    else (if a == 60 then Some word.Less  -- <
    else (if a == 62 then Some word.Greater  -- >
    else (if a == 61 then Some word.Assign  -- =
    else None)))))))))))))))))))

-- a sign of one byte before the rest
unfoldable pub short_sign : ℕ → List ℕ → Result (Word × List ℕ) Flaw
short_sign a bytes = elim (one_sign a) [ None ↦ Err (flaw.BadByte a) | Some w ↦ Ok (w, bytes) ]

-- the longest sign that begins with this byte
unfoldable pub sign_at : ℕ → List ℕ → Result (Word × List ℕ) Flaw
sign_at a [] = short_sign a []
sign_at a (b ∷ bytes) = elim (two_sign a b) [ None ↦ short_sign a (b ∷ bytes) | Some w ↦ Ok (w, bytes) ]
