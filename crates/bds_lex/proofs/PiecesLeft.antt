-- Each reader of pieces and signs leaves no more bytes than it got, and tells each fault.
use Rattle.std.proofs.Common.{ℕ, ℤ, zero, suc, ◌≤◌, ◌==◌, ◌^◌, nat_lt, pos, Bool, true, false, List, [], ◌∷◌, ◌++◌, length, drop, Option, Some, None, Result, Ok, Err, if◌then◌else◌, arith, length-drop}
use Rattle.std.specs.Char.{is_ascii_digit}
use Rattle.std.specs.List.{prefix_len}
use Rattle.std.specs.Str.Parse.{digits_value}
use Rattle.bds_value.specs.Results.{◌>>=◌}
use Rattle.bds_tree.specs.declared.lexing.Flaw.{Flaw}
use Rattle.bds_tree.specs.declared.lexing.Flaw.TheVariants as flaw
use Rattle.bds_tree.specs.declared.token.Word.{Word}
use Rattle.bds_tree.specs.lexing.Scan.{split_while, behind, name_at}
use Rattle.bds_tree.specs.declared.token.Piece.{Piece}
use Rattle.bds_tree.specs.declared.token.Piece.TheVariants as piece
use Rattle.bds_tree.specs.declared.token.Index.{Index}
use Rattle.bds_tree.specs.declared.token.Index.TheVariants as index
use Rattle.bds_tree.specs.declared.token.KeyName.{KeyName}
use Rattle.bds_tree.specs.declared.token.KeyName.TheVariants as key
use Rattle.bds_tree.specs.declared.lexing.Style.{Style}
use Rattle.bds_tree.specs.declared.lexing.Style.TheVariants as style
use Rattle.bds_tree.specs.declared.lexing.TextStep.{TextStep}
use Rattle.bds_tree.specs.declared.lexing.TextStep.TheVariants as step
use Rattle.bds_tree.specs.lexing.Bytes.{dollar, single_quote, open_square, backslash, close_square, open_brace, close_brace, begins_name, is_name_byte}
use Rattle.bds_tree.specs.lexing.Signs.{one_sign, two_sign, short_sign, sign_at}
use Rattle.bds_tree.specs.lexing.Pieces.{number, number_index, name_index, index_at, has_no_leading_zero, is_key_byte, quoted_key, named_key, key_at, with_key, with_suffix, variable_at, escape_of, escape_at, step_at, pieces_closed_by, plain_left_by, pieces_in, pieces_of}

-- a fault that isn't want of memory
abbrev pub IsNotMemory : Flaw → Type 0
IsNotMemory flaw.NoMemory = ⊥
IsNotMemory _ = Unit {0}

abbrev pub Told : {A : Type 0} → Result A Flaw → Type 0
Told (Ok x) = Unit {0}
Told (Err e) = IsNotMemory e

-- at most n bytes are left, or a fault is told
abbrev pub Leaves : {A : Type 0} → ℕ → Result (A × List ℕ) Flaw → Type 0
Leaves n (Ok x) = length x.1 ≤ n
Leaves n (Err e) = IsNotMemory e

abbrev pub OptionLeaves : {A : Type 0} → ℕ → Option (A × List ℕ) → Type 0
OptionLeaves n None = Unit {0}
OptionLeaves n (Some x) = length x.1 ≤ n

abbrev pub IsAtMost : ℕ → Option (List ℕ) → Type 0
IsAtMost n None = Unit {0}
IsAtMost n (Some rest) = length rest ≤ n

pub drop_at_most : (k n : ℕ) (bytes : List ℕ) → length bytes ≤ n → length (drop k bytes) ≤ n
drop_at_most k n bytes h = omega (arith, length-drop k bytes)

pub behind_at_most : (c n : ℕ) (bytes : List ℕ) → length bytes ≤ n → IsAtMost n (behind c bytes)
behind_at_most c n [] h = tt
behind_at_most c n (b ∷ bytes) h = go (b == c)
  where
    go : (t : Bool) → IsAtMost n (if t then Some bytes else None)
    go true = omega arith
    go false = tt

short_sign_leaves : (a : ℕ) (bytes : List ℕ) → Leaves (length bytes) (short_sign a bytes)
unfolding short_sign
short_sign_leaves a bytes = go (one_sign a)
  where
    go : (o : Option Word) → Leaves (length bytes) (elim o as (λ o. Result (Word × List ℕ) Flaw) [ None ↦ Err (flaw.BadByte a) | Some w ↦ Ok (w, bytes) ])
    go None = tt
    go (Some w) = omega arith

pub sign_at_leaves : (a : ℕ) (bytes : List ℕ) → Leaves (length bytes) (sign_at a bytes)
unfolding sign_at
sign_at_leaves a [] = short_sign_leaves a []
sign_at_leaves a (b ∷ bytes) = go (two_sign a b)
  where
    go : (o : Option Word) → Leaves (length (b ∷ bytes)) (elim o as (λ o. Result (Word × List ℕ) Flaw) [ None ↦ short_sign a (b ∷ bytes) | Some w ↦ Ok (w, bytes) ])
    go None = short_sign_leaves a (b ∷ bytes)
    go (Some w) = omega arith

pub number_told : (digits : List ℕ) → Told (number digits)
unfolding number
number_told digits = go (nat_lt (digits_value 10 digits) (2 ^ 63))
  where
    go : (t : Bool) → Told (if t then Ok (pos (digits_value 10 digits)) else Err flaw.BigNumber)
    go true = tt
    go false = tt

abbrev pub ResultLeaves : {A : Type 0} → ℕ → Result (Option (A × List ℕ)) Flaw → Type 0
ResultLeaves n (Ok o) = OptionLeaves n o
ResultLeaves n (Err e) = IsNotMemory e

abbrev pub NameLeaves : ℕ → Option (List ℕ × List ℕ) → Type 0
NameLeaves n None = Unit {0}
NameLeaves n (Some name) = length name.1 ≤ n

name_at_leaves : (bytes : List ℕ) → NameLeaves (length bytes) (name_at bytes)
name_at_leaves [] = tt
name_at_leaves (b ∷ bytes) = go (begins_name b)
  where
    go : (t : Bool) → NameLeaves (length (b ∷ bytes)) (if t then Some (split_while is_name_byte (b ∷ bytes)) else None)
    go true = drop_at_most (prefix_len is_name_byte (b ∷ bytes)) (length (b ∷ bytes)) (b ∷ bytes) (omega arith)
    go false = tt

number_index_leaves : (n : ℕ) (digits behind_digits : List ℕ) → length behind_digits ≤ n → ResultLeaves n (number_index digits behind_digits)
unfolding number_index
number_index_leaves n digits behind_digits h = go (behind close_square behind_digits) (behind_at_most close_square n behind_digits h)
  where
    told : (rest : List ℕ) → length rest ≤ n → (r : Result ℤ Flaw) → Told r → ResultLeaves n (r >>= λ i. Ok (Some (index.Number i, rest)))
    told rest short (Ok i) t = short
    told rest short (Err e) t = t

    plain : (rest : List ℕ) → length rest ≤ n → (t : Bool) → ResultLeaves n (if t then (number digits >>= λ i. Ok (Some (index.Number i, rest))) else Ok None)
    plain rest short true = told rest short (number digits) (number_told digits)
    plain rest short false = tt

    go : (o : Option (List ℕ)) → IsAtMost n o → ResultLeaves n (elim o as (λ o. Result (Option (Index × List ℕ)) Flaw) [ None ↦ Ok None | Some rest ↦ if has_no_leading_zero digits then (number digits >>= λ i. Ok (Some (index.Number i, rest))) else Ok None ])
    go None short = tt
    go (Some rest) short = plain rest short (has_no_leading_zero digits)

name_index_leaves : (n : ℕ) (name : List ℕ × List ℕ) → length name.1 ≤ n → OptionLeaves n (name_index name)
name_index_leaves n name h = go (behind close_square name.1) (behind_at_most close_square n name.1 h)
  where
    go : (o : Option (List ℕ)) → IsAtMost n o → OptionLeaves n (elim o as (λ o. Option (Index × List ℕ)) [ None ↦ None | Some rest ↦ Some (index.Name name.0, rest) ])
    go None short = tt
    go (Some rest) short = short

index_at_leaves : (bytes : List ℕ) → ResultLeaves (length bytes) (index_at bytes)
unfolding index_at
index_at_leaves bytes = go (name_at bytes) (name_at_leaves bytes)
  where
    go : (o : Option (List ℕ × List ℕ)) → NameLeaves (length bytes) o → ResultLeaves (length bytes) (elim o as (λ o. Result (Option (Index × List ℕ)) Flaw) [ Some name ↦ Ok (name_index name) | None ↦ number_index (split_while is_ascii_digit bytes).0 (split_while is_ascii_digit bytes).1 ])
    go None short = number_index_leaves (length bytes) (split_while is_ascii_digit bytes).0 (split_while is_ascii_digit bytes).1 (drop_at_most (prefix_len is_ascii_digit bytes) (length bytes) bytes (omega arith))
    go (Some name) short = name_index_leaves (length bytes) name short

quoted_key_leaves : (n : ℕ) (bytes : List ℕ) → length bytes ≤ n → OptionLeaves n (quoted_key bytes)
quoted_key_leaves n bytes h = go (behind single_quote (split_while is_key_byte bytes).1) (behind_at_most single_quote n (split_while is_key_byte bytes).1 (drop_at_most (prefix_len is_key_byte bytes) n bytes h))
  where
    brace : (o : Option (List ℕ)) → IsAtMost n o → OptionLeaves n (elim o as (λ o. Option (KeyName × List ℕ)) [ None ↦ None | Some rest ↦ Some (key.Text (split_while is_key_byte bytes).0, rest) ])
    brace None short = tt
    brace (Some rest) short = short

    go : (o : Option (List ℕ)) → IsAtMost n o → OptionLeaves n (elim o as (λ o. Option (KeyName × List ℕ)) [
      | None ↦ None
      | Some more ↦ elim (behind close_brace more) as (λ o. Option (KeyName × List ℕ)) [ None ↦ None | Some rest ↦ Some (key.Text (split_while is_key_byte bytes).0, rest) ]
    ])
    go None short = tt
    go (Some more) short = brace (behind close_brace more) (behind_at_most close_brace n more short)

named_key_leaves : (n : ℕ) (bytes : List ℕ) → length bytes ≤ n → OptionLeaves n (named_key bytes)
named_key_leaves n bytes h = go (name_at bytes) (name_at_leaves bytes)
  where
    brace : (name : List ℕ × List ℕ) (o : Option (List ℕ)) → IsAtMost n o → OptionLeaves n (elim o as (λ o. Option (KeyName × List ℕ)) [ None ↦ None | Some rest ↦ Some (key.Name name.0, rest) ])
    brace name None short = tt
    brace name (Some rest) short = short

    go : (o : Option (List ℕ × List ℕ)) → NameLeaves (length bytes) o → OptionLeaves n (elim o as (λ o. Option (KeyName × List ℕ)) [
      | None ↦ None
      | Some name ↦ elim (behind close_brace name.1) as (λ o. Option (KeyName × List ℕ)) [ None ↦ None | Some rest ↦ Some (key.Name name.0, rest) ]
    ])
    go None short = tt
    go (Some name) short = brace name (behind close_brace name.1) (behind_at_most close_brace n name.1 (omega arith))

key_at_leaves : (n : ℕ) (bytes : List ℕ) → length bytes ≤ n → OptionLeaves n (key_at bytes)
unfolding key_at
key_at_leaves n bytes h = go (behind single_quote bytes) (behind_at_most single_quote n bytes h)
  where
    go : (o : Option (List ℕ)) → IsAtMost n o → OptionLeaves n (elim o as (λ o. Option (KeyName × List ℕ)) [ Some more ↦ quoted_key more | None ↦ named_key bytes ])
    go None short = named_key_leaves n bytes h
    go (Some more) short = quoted_key_leaves n more short

with_key_leaves : (name bytes : List ℕ) → length (with_key name bytes).1 ≤ length bytes
unfolding with_key
with_key_leaves name bytes = go (behind open_brace bytes) (behind_at_most open_brace (length bytes) bytes (omega arith))
  where
    found : (o : Option (KeyName × List ℕ)) → OptionLeaves (length bytes) o → length (elim o as (λ o. Piece × List ℕ) [ None ↦ (piece.Name name, bytes) | Some k ↦ (piece.Key name k.0, k.1) ]).1 ≤ length bytes
    found None short = omega arith
    found (Some k) short = short

    go : (o : Option (List ℕ)) → IsAtMost (length bytes) o → length (elim o as (λ o. Piece × List ℕ) [
      | None ↦ (piece.Name name, bytes)
      | Some more ↦ elim (key_at more) as (λ o. Piece × List ℕ) [ None ↦ (piece.Name name, bytes) | Some k ↦ (piece.Key name k.0, k.1) ]
    ]).1 ≤ length bytes
    go None short = omega arith
    go (Some more) short = found (key_at more) (key_at_leaves (length bytes) more short)

with_suffix_leaves : (name bytes : List ℕ) → Leaves (length bytes) (with_suffix name bytes)
unfolding with_suffix
with_suffix_leaves name bytes = go (behind open_square bytes) (behind_at_most open_square (length bytes) bytes (omega arith))
  where
    found : (r : Result (Option (Index × List ℕ)) Flaw) (n : ℕ) → n ≤ length bytes → ResultLeaves n r
        → Leaves (length bytes) (r >>= λ found. Ok (elim found as (λ o. Piece × List ℕ) [ None ↦ (piece.Name name, bytes) | Some i ↦ (piece.Item name i.0, i.1) ]))
    found (Ok None) n le short = omega arith
    found (Ok (Some i)) n le short = omega arith
    found (Err e) n le t = t

    go : (o : Option (List ℕ)) → IsAtMost (length bytes) o → Leaves (length bytes) (elim o as (λ o. Result (Piece × List ℕ) Flaw) [
      | None ↦ Ok (with_key name bytes)
      | Some more ↦ index_at more >>= λ found. Ok (elim found as (λ o. Piece × List ℕ) [ None ↦ (piece.Name name, bytes) | Some i ↦ (piece.Item name i.0, i.1) ])
    ])
    go None short = with_key_leaves name bytes
    go (Some more) short = found (index_at more) (length more) short (index_at_leaves more)

variable_at_leaves : (bytes : List ℕ) → Leaves (length bytes) (variable_at bytes)
unfolding variable_at
variable_at_leaves bytes = go (name_at bytes) (name_at_leaves bytes)
  where
    found : (r : Result (Piece × List ℕ) Flaw) (n : ℕ) → n ≤ length bytes → Leaves n r → Leaves (length bytes) (r >>= λ found. Ok (step.Found found.0, found.1))
    found (Ok x) n le short = omega arith
    found (Err e) n le t = t

    go : (o : Option (List ℕ × List ℕ)) → NameLeaves (length bytes) o → Leaves (length bytes) (elim o as (λ o. Result (TextStep × List ℕ) Flaw) [
      | None ↦ Ok (step.Byte dollar, bytes)
      | Some name ↦ with_suffix name.0 name.1 >>= λ found. Ok (step.Found found.0, found.1)
    ])
    go None short = omega arith
    go (Some name) short = found (with_suffix name.0 name.1) (length name.1) short (with_suffix_leaves name.0 name.1)

escape_at_leaves : (kind : Style) (bytes : List ℕ) → Leaves (length bytes) (escape_at kind bytes)
unfolding escape_at
escape_at_leaves kind [] = omega arith
escape_at_leaves style.Quoted (c ∷ bytes) = go (escape_of c)
  where
    go : (o : Option ℕ) → Leaves (length (c ∷ bytes)) (elim o as (λ o. Result (TextStep × List ℕ) Flaw) [ Some b ↦ Ok (step.Byte b, bytes) | None ↦ Err (flaw.BadEscape c) ])
    go None = tt
    go (Some b) = omega arith
escape_at_leaves style.Sys (c ∷ bytes) = go (c == dollar)
  where
    go : (t : Bool) → Leaves (length (c ∷ bytes)) (if t then Ok (step.Bytes backslash dollar, bytes) else Ok (step.Byte backslash, c ∷ bytes))
    go true = omega arith
    go false = omega arith

step_at_leaves : (kind : Style) (b : ℕ) (bytes : List ℕ) → Leaves (length bytes) (step_at kind b bytes)
unfolding step_at
step_at_leaves kind b bytes = escapes (b == backslash)
  where
    variable : (t : Bool) → Leaves (length bytes) (if t then variable_at bytes else Ok (step.Byte b, bytes))
    variable true = variable_at_leaves bytes
    variable false = omega arith

    escapes : (t : Bool) → Leaves (length bytes) (if t then escape_at kind bytes else (if b == dollar then variable_at bytes else Ok (step.Byte b, bytes)))
    escapes true = escape_at_leaves kind bytes
    escapes false = variable (b == dollar)

pieces_in_told : (steps : ℕ) (kind : Style) (plain bytes : List ℕ) → length bytes ≤ steps → Told (pieces_in steps kind plain bytes)
unfolding pieces_in
pieces_in_told steps kind plain [] h = tt
pieces_in_told zero kind plain (b ∷ bytes) h = absurd (omega arith)
pieces_in_told (suc steps) kind plain (b ∷ bytes) h = go (step_at kind b bytes) (step_at_leaves kind b bytes) (λ s short. pieces_in_told steps kind (plain_left_by s.0 plain) s.1 (omega arith))
  where
    rest : (s : TextStep) (r : Result (List Piece) Flaw) → Told r → Told (r >>= λ others. Ok (pieces_closed_by s plain ++ others))
    rest s (Ok others) t = tt
    rest s (Err e) t = t

    go : (r : Result (TextStep × List ℕ) Flaw) → Leaves (length bytes) r → ((s : TextStep × List ℕ) → length s.1 ≤ length bytes → Told (pieces_in steps kind (plain_left_by s.0 plain) s.1)) → Told (r >>= λ s. pieces_in steps kind (plain_left_by s.0 plain) s.1 >>= λ others. Ok (pieces_closed_by s.0 plain ++ others))
    go (Ok s) short more = rest s.0 (pieces_in steps kind (plain_left_by s.0 plain) s.1) (more s short)
    go (Err e) t more = t

pub pieces_of_told : (kind : Style) (bytes : List ℕ) → Told (pieces_of kind bytes)
unfolding pieces_of
pieces_of_told kind bytes = pieces_in_told (length bytes) kind [] bytes (omega arith)
