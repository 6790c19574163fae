-- The pieces of a text, as they are written, are no longer than the text.
use Rattle.std.proofs.Common.{◌≡◌, ℕ, ℤ, pos, zero, suc, ◌+◌, ◌^◌, ◌≤◌, ◌<◌, ◌==◌, ◌&&◌, Bool, true, false, List, [], ◌∷◌, ◌++◌, length, take, drop, Option, Some, None, Result, Ok, Err, if◌then◌else◌, refl, subst, codes, nat_lt, nat_le, rules, arith, length-append, length-drop}
use Rattle.std.specs.Prelude.{⊤, cond}
use Rattle.std.proofs.lemmas.Grind.{common_steps}
use Rattle.std.proofs.lemmas.List.{length-take}
use Rattle.std.proofs.lemmas.Fmt.{length-decimal-le}
use Rattle.std.proofs.lemmas.Int.Digits.{digits_value-lt}
use Rattle.std.proofs.lemmas.Str.Parse.{tells_digits}
use Rattle.std.specs.Char.{is_ascii_digit}
use Rattle.std.specs.Fmt.{signed_decimal}
use Rattle.std.specs.Int.{IsInRange}
use Rattle.std.specs.List.{prefix_len}
use Rattle.std.specs.Str.Parse.{AllDigits, digits_value}
use Rattle.bds_value.specs.declared.TheConstants.{MAX_TEXT}
use Rattle.bds_value.specs.Results.{◌>>=◌}
use Rattle.bds_tree.specs.declared.lexing.Flaw.{Flaw}
use Rattle.bds_tree.specs.declared.lexing.Flaw.TheVariants as flaw
use Rattle.bds_tree.specs.declared.lexing.Style.{Style}
use Rattle.bds_tree.specs.declared.lexing.Style.TheVariants as style
use Rattle.bds_tree.specs.declared.lexing.TextStep.{TextStep}
use Rattle.bds_tree.specs.declared.lexing.TextStep.TheVariants as step
use Rattle.bds_tree.specs.declared.token.Index.{Index}
use Rattle.bds_tree.specs.declared.token.Index.TheVariants as index
use Rattle.bds_tree.specs.declared.token.KeyName.{KeyName}
use Rattle.bds_tree.specs.declared.token.KeyName.TheVariants as key
use Rattle.bds_tree.specs.declared.token.Piece.{Piece}
use Rattle.bds_tree.specs.declared.token.Piece.TheVariants as piece
use Rattle.bds_tree.specs.lexing.Bytes.{dollar, single_quote, open_square, backslash, close_square, open_brace, close_brace, begins_name, is_name_byte}
use Rattle.bds_tree.specs.lexing.Pieces.{number, number_index, name_index, index_at, has_no_leading_zero, is_key_byte, quoted_key, named_key, key_at, with_key, with_suffix, variable_at, escape_of, escape_at, step_at, plain_piece, pieces_closed_by, plain_left_by, pieces_in, pieces_of}
use Rattle.bds_tree.specs.lexing.Scan.{split_while, behind, name_at}
use Rattle.bds_check_names.specs.PieceKinds.{index_text, key_text, name_text, as_written}
use Rattle.bds_check_typing.specs.Texts.{IsShort, AreShortPieces}

abbrev pub IsAtMost : ℕ → Option (List ℕ) → Type 0
IsAtMost n None = ⊤
IsAtMost n (Some rest) = length rest ≤ n

-- what was read is short, and at most so many bytes are left
abbrev pub Reads : {A : Type 0} → (A → Type 0) → ℕ → Result (A × List ℕ) Flaw → Type 0
Reads Good n (Ok x) = Good x.0 × (length x.1 ≤ n)
Reads Good n (Err e) = ⊤

pub behind-at-most : (c n : ℕ) (bytes : List ℕ) → length bytes ≤ n → IsAtMost n (behind c bytes)
behind-at-most c n [] h = tt
behind-at-most c n (b ∷ bytes) h = go (b == c)
  where
    go : (t : Bool) → IsAtMost n (if t then Some bytes else None)
    go true = omega arith
    go false = tt

module _ (n : ℕ) (most : n ≤ MAX_TEXT) where
  pub take-short : (k : ℕ) (bytes : List ℕ) → length bytes ≤ n → IsShort (take k bytes)
  take-short k bytes h = omega (arith, length-take k bytes)

  pub drop-at-most : (k : ℕ) (bytes : List ℕ) → length bytes ≤ n → length (drop k bytes) ≤ n
  drop-at-most k bytes h = omega (arith, length-drop k bytes)

-- What is read, as it is written, and what is left are within so many bytes

module _ {A : Type 0} (written : A → List ℕ) where
  abbrev IsWithin : ℕ → A × List ℕ → Type 0
  IsWithin n x = length (written x.0) + length x.1 ≤ n

  abbrev Takes : ℕ → Result (A × List ℕ) Flaw → Type 0
  Takes n (Ok x) = IsWithin n x
  Takes n (Err e) = ⊤

  abbrev MayTake : ℕ → Option (A × List ℕ) → Type 0
  MayTake n None = ⊤
  MayTake n (Some x) = IsWithin n x

  abbrev TakesMaybe : ℕ → Result (Option (A × List ℕ)) Flaw → Type 0
  TakesMaybe n (Ok o) = MayTake n o
  TakesMaybe n (Err e) = ⊤

abbrev itself : List ℕ → List ℕ
itself x = x

-- one byte less is left
abbrev IsBehind : ℕ → Option (List ℕ) → Type 0
IsBehind n None = ⊤
IsBehind n (Some rest) = length rest + 1 ≤ n

behind-less : (c : ℕ) (bytes : List ℕ) → IsBehind (length bytes) (behind c bytes)
behind-less c [] = tt
behind-less c (b ∷ bytes) = go (b == c)
  where
    go : (t : Bool) → IsBehind (length (b ∷ bytes)) (if t then Some bytes else None)
    go true = omega arith
    go false = tt

both-parts : (k : ℕ) (bytes : List ℕ) → length (take k bytes) + length (drop k bytes) ≤ length bytes
both-parts k bytes = let a = length-take k bytes in let b = length-drop k bytes in omega (arith, a, b)

name-takes : (bytes : List ℕ) → MayTake itself (length bytes) (name_at bytes)
name-takes [] = tt
name-takes (b ∷ bytes) = go (begins_name b)
  where
    go : (t : Bool) → MayTake itself (length (b ∷ bytes)) (if t then Some (split_while is_name_byte (b ∷ bytes)) else None)
    go true = both-parts (prefix_len is_name_byte (b ∷ bytes)) (b ∷ bytes)
    go false = tt

-- How long pieces are

name-length : (x : List ℕ) → length (name_text x) ≡ length x + 1
name-length x = let a = length-append (codes "$") x in omega (arith, a)

name-index-length : (y : List ℕ) → length (index_text (index.Name y)) ≡ length y + 2
name-index-length y = let a = length-append (codes "[") (y ++ codes "]") in let b = length-append y (codes "]") in omega (arith, a, b)

number-index-length : (v : ℤ) → length (index_text (index.Number v)) ≡ length (signed_decimal v) + 2
number-index-length v = let a = length-append (codes "[") (signed_decimal v ++ codes "]") in let b = length-append (signed_decimal v) (codes "]") in omega (arith, a, b)

text-key-length : (t : List ℕ) → length (key_text (key.Text t)) ≡ length t + 4
text-key-length t = let a = length-append (codes "{'") (t ++ codes "'}") in let b = length-append t (codes "'}") in omega (arith, a, b)

name-key-length : (y : List ℕ) → length (key_text (key.Name y)) ≡ length y + 2
name-key-length y = let a = length-append (codes "{") (y ++ codes "}") in let b = length-append y (codes "}") in omega (arith, a, b)

-- A number is no longer than its digits

in-range : (b : ℕ) → (nat_le 48 b && nat_le b 57) ≡ true → IsInRange 48 57 b
in-range b e = grind (arith, common_steps)

digits-passed : (bytes : List ℕ) → AllDigits 10 (take (prefix_len is_ascii_digit bytes) bytes)
digits-passed [] = tt
digits-passed (b ∷ bytes) = go (is_ascii_digit b) refl (digits-passed bytes)
  where
    go : (t : Bool) → is_ascii_digit b ≡ t → AllDigits 10 (take (prefix_len is_ascii_digit bytes) bytes) → AllDigits 10 (take (cond t (1 + prefix_len is_ascii_digit bytes) 0) (b ∷ bytes))
    go true e more =
        let one : suc (prefix_len is_ascii_digit bytes) ≡ 1 + prefix_len is_ascii_digit bytes = omega arith in
        subst (λ n. AllDigits 10 (take n (b ∷ bytes))) one (tells_digits.more b (take (prefix_len is_ascii_digit bytes) bytes) (in-range b e) more)
    go false e more = tt

abbrev NumberFits : ℕ → Result ℤ Flaw → Type 0
NumberFits n (Ok v) = length (signed_decimal v) ≤ n
NumberFits n (Err e) = ⊤

number-fits : (digits : List ℕ) → AllDigits 10 digits → 0 < length digits → NumberFits (length digits) (number digits)
unfolding number
number-fits digits all some = go (nat_lt (digits_value 10 digits) (2 ^ 63)) refl
  where
    below : (n : ℕ) → nat_lt n (2 ^ 63) ≡ true → n < 2 ^ 64
    below n e = grind (arith, common_steps)

    go : (t : Bool) → nat_lt (digits_value 10 digits) (2 ^ 63) ≡ t → NumberFits (length digits) (if t then Ok (pos (digits_value 10 digits)) else Err flaw.BigNumber)
    go true e = length-decimal-le (length digits) (digits_value 10 digits) some (digits_value-lt 10 digits all) (below (digits_value 10 digits) e)
    go false e = tt

some-digits : (digits : List ℕ) → has_no_leading_zero digits ≡ true → 0 < length digits
some-digits [] e = absurd (search (rules, e))
some-digits (d ∷ ds) e = omega arith

-- Indexes and keys, behind their bracket

number-index-takes : (digits behind_digits : List ℕ) → AllDigits 10 digits → TakesMaybe index_text (1 + (length digits + length behind_digits)) (number_index digits behind_digits)
unfolding number_index
number-index-takes digits behind_digits all = go (behind close_square behind_digits) (behind-less close_square behind_digits)
  where
    most : ℕ
    most = 1 + (length digits + length behind_digits)

    found : (rest : List ℕ) → length rest + 1 ≤ length behind_digits → (r : Result ℤ Flaw) → NumberFits (length digits) r → TakesMaybe index_text (1 + (length digits + length behind_digits)) (r >>= λ i. Ok (Some (index.Number i, rest)))
    found rest few (Ok i) fits = let l = number-index-length i in omega (arith, l, few, fits)
    found rest few (Err e) fits = tt

    plain : (rest : List ℕ) → length rest + 1 ≤ length behind_digits → (t : Bool) → has_no_leading_zero digits ≡ t → TakesMaybe index_text (1 + (length digits + length behind_digits)) (if t then (number digits >>= λ i. Ok (Some (index.Number i, rest))) else Ok None)
    plain rest few true e = found rest few (number digits) (number-fits digits all (some-digits digits e))
    plain rest few false e = tt

    go : (o : Option (List ℕ)) → IsBehind (length behind_digits) o → TakesMaybe index_text (1 + (length digits + length behind_digits)) (elim o as (λ o. Result (Option (Index × List ℕ)) Flaw) [ None ↦ Ok None | Some rest ↦ if has_no_leading_zero digits then (number digits >>= λ i. Ok (Some (index.Number i, rest))) else Ok None ])
    go None few = tt
    go (Some rest) few = plain rest few (has_no_leading_zero digits) refl

name-index-takes : (n : ℕ) (name : List ℕ × List ℕ) → IsWithin itself n name → MayTake index_text (1 + n) (name_index name)
name-index-takes n name h = go (behind close_square name.1) (behind-less close_square name.1)
  where
    go : (o : Option (List ℕ)) → IsBehind (length name.1) o → MayTake index_text (1 + n) (elim o as (λ o. Option (Index × List ℕ)) [ None ↦ None | Some rest ↦ Some (index.Name name.0, rest) ])
    go None few = tt
    go (Some rest) few = let l = name-index-length name.0 in omega (arith, l, few, h)

index-takes : (bytes : List ℕ) → TakesMaybe index_text (1 + length bytes) (index_at bytes)
unfolding index_at
index-takes bytes = go (name_at bytes) (name-takes bytes)
  where
    more : (m n : ℕ) (r : Result (Option (Index × List ℕ)) Flaw) → m ≤ n → TakesMaybe index_text m r → TakesMaybe index_text n r
    more m n (Ok None) l h = tt
    more m n (Ok (Some x)) l h = omega (arith, l, h)
    more m n (Err e) l h = tt

    go : (o : Option (List ℕ × List ℕ)) → MayTake itself (length bytes) o → TakesMaybe index_text (1 + length bytes) (elim o as (λ o. Result (Option (Index × List ℕ)) Flaw) [ Some name ↦ Ok (name_index name) | None ↦ number_index (split_while is_ascii_digit bytes).0 (split_while is_ascii_digit bytes).1 ])
    go None few =
        let k : ℕ = prefix_len is_ascii_digit bytes in
        let parts = both-parts k bytes in
        more (1 + (length (take k bytes) + length (drop k bytes))) (1 + length bytes) (number_index (take k bytes) (drop k bytes)) (omega (arith, parts)) (number-index-takes (take k bytes) (drop k bytes) (digits-passed bytes))
    go (Some name) few = name-index-takes (length bytes) name few

quoted-key-takes : (bytes : List ℕ) → MayTake key_text (2 + length bytes) (quoted_key bytes)
quoted-key-takes bytes = go (behind single_quote (split_while is_key_byte bytes).1) (behind-less single_quote (split_while is_key_byte bytes).1)
  where
    parts : length (split_while is_key_byte bytes).0 + length (split_while is_key_byte bytes).1 ≤ length bytes
    parts = both-parts (prefix_len is_key_byte bytes) bytes

    brace : (more : List ℕ) → length more + 1 ≤ length (split_while is_key_byte bytes).1 → (o : Option (List ℕ)) → IsBehind (length more) o
        → MayTake key_text (2 + length bytes) (elim o as (λ o. Option (KeyName × List ℕ)) [ None ↦ None | Some rest ↦ Some (key.Text (split_while is_key_byte bytes).0, rest) ])
    brace more fewer None few = tt
    brace more fewer (Some rest) few = let l = text-key-length (split_while is_key_byte bytes).0 in let p = parts in omega (arith, l, p, fewer, few)

    go : (o : Option (List ℕ)) → IsBehind (length (split_while is_key_byte bytes).1) o → MayTake key_text (2 + length bytes) (elim o as (λ o. Option (KeyName × List ℕ)) [
      | None ↦ None
      | Some more ↦ elim (behind close_brace more) as (λ o. Option (KeyName × List ℕ)) [ None ↦ None | Some rest ↦ Some (key.Text (split_while is_key_byte bytes).0, rest) ]
    ])
    go None few = tt
    go (Some more) few = brace more few (behind close_brace more) (behind-less close_brace more)

named-key-takes : (bytes : List ℕ) → MayTake key_text (1 + length bytes) (named_key bytes)
named-key-takes bytes = go (name_at bytes) (name-takes bytes)
  where
    brace : (name : List ℕ × List ℕ) → IsWithin itself (length bytes) name → (o : Option (List ℕ)) → IsBehind (length name.1) o → MayTake key_text (1 + length bytes) (elim o as (λ o. Option (KeyName × List ℕ)) [ None ↦ None | Some rest ↦ Some (key.Name name.0, rest) ])
    brace name within None few = tt
    brace name within (Some rest) few = let l = name-key-length name.0 in omega (arith, l, within, few)

    go : (o : Option (List ℕ × List ℕ)) → MayTake itself (length bytes) o → MayTake key_text (1 + length bytes) (elim o as (λ o. Option (KeyName × List ℕ)) [
      | None ↦ None
      | Some name ↦ elim (behind close_brace name.1) as (λ o. Option (KeyName × List ℕ)) [ None ↦ None | Some rest ↦ Some (key.Name name.0, rest) ]
    ])
    go None few = tt
    go (Some name) few = brace name few (behind close_brace name.1) (behind-less close_brace name.1)

key-takes : (bytes : List ℕ) → MayTake key_text (1 + length bytes) (key_at bytes)
unfolding key_at
key-takes bytes = go (behind single_quote bytes) (behind-less single_quote bytes)
  where
    fewer : (m n : ℕ) (o : Option (KeyName × List ℕ)) → m ≤ n → MayTake key_text m o → MayTake key_text n o
    fewer m n None l h = tt
    fewer m n (Some x) l h = omega (arith, l, h)

    go : (o : Option (List ℕ)) → IsBehind (length bytes) o → MayTake key_text (1 + length bytes) (elim o as (λ o. Option (KeyName × List ℕ)) [ Some more ↦ quoted_key more | None ↦ named_key bytes ])
    go None few = named-key-takes bytes
    go (Some more) few = fewer (2 + length more) (1 + length bytes) (quoted_key more) (omega (arith, few)) (quoted-key-takes more)

-- Pieces, behind their name

module _ (name bytes : List ℕ) where
  abbrev all : ℕ
  all = 1 + (length name + length bytes)

  name-alone : IsWithin as_written all (piece.Name name, bytes)
  name-alone = let l = name-length name in omega (arith, l)

  with-key : (k : KeyName × List ℕ) (more : List ℕ) → length more + 1 ≤ length bytes → IsWithin key_text (1 + length more) k → IsWithin as_written all (piece.Key name k.0, k.1)
  with-key k more few within = let l = name-length name in let a = length-append (name_text name) (key_text k.0) in omega (arith, l, a, few, within)

  with-index : (i : Index × List ℕ) (more : List ℕ) → length more + 1 ≤ length bytes → IsWithin index_text (1 + length more) i → IsWithin as_written all (piece.Item name i.0, i.1)
  with-index i more few within = let l = name-length name in let a = length-append (name_text name) (index_text i.0) in omega (arith, l, a, few, within)

  with-key-takes : IsWithin as_written all (with_key name bytes)
  unfolding with_key
  with-key-takes = go (behind open_brace bytes) (behind-less open_brace bytes)
    where
      found : (more : List ℕ) → length more + 1 ≤ length bytes → (o : Option (KeyName × List ℕ)) → MayTake key_text (1 + length more) o → IsWithin as_written all (elim o as (λ o. Piece × List ℕ) [ None ↦ (piece.Name name, bytes) | Some k ↦ (piece.Key name k.0, k.1) ])
      found more few None within = name-alone
      found more few (Some k) within = with-key k more few within

      go : (o : Option (List ℕ)) → IsBehind (length bytes) o → IsWithin as_written all (elim o as (λ o. Piece × List ℕ) [
        | None ↦ (piece.Name name, bytes)
        | Some more ↦ elim (key_at more) as (λ o. Piece × List ℕ) [ None ↦ (piece.Name name, bytes) | Some k ↦ (piece.Key name k.0, k.1) ]
      ])
      go None few = name-alone
      go (Some more) few = found more few (key_at more) (key-takes more)

  with-suffix-takes : Takes as_written all (with_suffix name bytes)
  unfolding with_suffix
  with-suffix-takes = go (behind open_square bytes) (behind-less open_square bytes)
    where
      chosen : (more : List ℕ) → length more + 1 ≤ length bytes → (o : Option (Index × List ℕ)) → MayTake index_text (1 + length more) o → Takes as_written all (Ok (elim o as (λ o. Piece × List ℕ) [ None ↦ (piece.Name name, bytes) | Some i ↦ (piece.Item name i.0, i.1) ]))
      chosen more few None within = name-alone
      chosen more few (Some i) within = with-index i more few within

      found : (more : List ℕ) → length more + 1 ≤ length bytes → (r : Result (Option (Index × List ℕ)) Flaw) → TakesMaybe index_text (1 + length more) r → Takes as_written all (r >>= λ found. Ok (elim found as (λ o. Piece × List ℕ) [ None ↦ (piece.Name name, bytes) | Some i ↦ (piece.Item name i.0, i.1) ]))
      found more few (Ok o) within = chosen more few o within
      found more few (Err e) within = tt

      go : (o : Option (List ℕ)) → IsBehind (length bytes) o → Takes as_written all (elim o as (λ o. Result (Piece × List ℕ) Flaw) [
        | None ↦ Ok (with_key name bytes)
        | Some more ↦ index_at more >>= λ found. Ok (elim found as (λ o. Piece × List ℕ) [ None ↦ (piece.Name name, bytes) | Some i ↦ (piece.Item name i.0, i.1) ])
      ])
      go None few = with-key-takes
      go (Some more) few = found more few (index_at more) (index-takes more)

-- Steps

-- a step of so many bytes, with those that are left behind it
abbrev StepFits : ℕ → TextStep → List ℕ → Type 0
StepFits k (step.Byte b) rest = 1 + length rest ≤ k
StepFits k (step.Bytes b c) rest = 2 + length rest ≤ k
StepFits k (step.Found p) rest = length (as_written p) + length rest ≤ k

abbrev Steps : ℕ → Result (TextStep × List ℕ) Flaw → Type 0
Steps k (Ok s) = StepFits k s.0 s.1
Steps k (Err e) = ⊤

variable-at-fits : (bytes : List ℕ) → Steps (1 + length bytes) (variable_at bytes)
unfolding variable_at
variable-at-fits bytes = go (name_at bytes) (name-takes bytes)
  where
    found : (name : List ℕ × List ℕ) → IsWithin itself (length bytes) name → (r : Result (Piece × List ℕ) Flaw) → Takes as_written (1 + (length name.0 + length name.1)) r → Steps (1 + length bytes) (r >>= λ found. Ok (step.Found found.0, found.1))
    found name within (Ok x) few = omega (arith, within, few)
    found name within (Err e) few = tt

    go : (o : Option (List ℕ × List ℕ)) → MayTake itself (length bytes) o → Steps (1 + length bytes) (elim o as (λ o. Result (TextStep × List ℕ) Flaw) [ None ↦ Ok (step.Byte dollar, bytes) | Some name ↦ with_suffix name.0 name.1 >>= λ found. Ok (step.Found found.0, found.1) ])
    go None few = omega arith
    go (Some name) few = found name few (with_suffix name.0 name.1) (with-suffix-takes name.0 name.1)

escape-at-fits : (kind : Style) (bytes : List ℕ) → Steps (1 + length bytes) (escape_at kind bytes)
unfolding escape_at
escape-at-fits style.Quoted [] = omega arith
escape-at-fits style.Sys [] = omega arith
escape-at-fits style.Quoted (c ∷ bytes) = go (escape_of c)
  where
    go : (o : Option ℕ) → Steps (1 + length (c ∷ bytes)) (elim o as (λ o. Result (TextStep × List ℕ) Flaw) [ Some b ↦ Ok (step.Byte b, bytes) | None ↦ Err (flaw.BadEscape c) ])
    go None = tt
    go (Some b) = omega arith
escape-at-fits style.Sys (c ∷ bytes) = go (c == dollar)
  where
    go : (t : Bool) → Steps (1 + length (c ∷ bytes)) (if t then Ok (step.Bytes backslash dollar, bytes) else Ok (step.Byte backslash, c ∷ bytes))
    go true = omega arith
    go false = omega arith

step-at-fits : (kind : Style) (b : ℕ) (bytes : List ℕ) → Steps (1 + length bytes) (step_at kind b bytes)
unfolding step_at
step-at-fits kind b bytes = escapes (b == backslash)
  where
    dollars : (t : Bool) → Steps (1 + length bytes) (if t then variable_at bytes else Ok (step.Byte b, bytes))
    dollars true = variable-at-fits bytes
    dollars false = omega arith

    escapes : (t : Bool) → Steps (1 + length bytes) (if t then escape_at kind bytes else (if b == dollar then variable_at bytes else Ok (step.Byte b, bytes)))
    escapes true = escape-at-fits kind bytes
    escapes false = dollars (b == dollar)

-- Pieces

pub plain-short : (plain : List ℕ) → IsShort plain → AreShortPieces (plain_piece plain)
plain-short [] h = tt
plain-short (b ∷ bytes) h = (h, tt)

pieces-joined : (ps qs : List Piece) → AreShortPieces ps → AreShortPieces qs → AreShortPieces (ps ++ qs)
pieces-joined [] qs h k = k
pieces-joined (p ∷ ps) qs h k = (h.0, pieces-joined ps qs h.1 k)

closed-short : (s : TextStep) (k : ℕ) (plain rest : List ℕ) → StepFits k s rest → length plain + k ≤ MAX_TEXT → AreShortPieces (pieces_closed_by s plain)
closed-short (step.Byte b) k plain rest fits h = tt
closed-short (step.Bytes b c) k plain rest fits h = tt
closed-short (step.Found p) k plain rest fits h = pieces-joined (plain_piece plain) (p ∷ []) (plain-short plain (omega (arith, h))) (omega (arith, fits, h), tt)

length-one-more : (plain : List ℕ) (b : ℕ) → length (plain ++ b ∷ []) ≡ length plain + 1
length-one-more [] b = omega arith
length-one-more (x ∷ plain) b = let h : length (plain ++ b ∷ []) ≡ length plain + 1 = length-one-more plain b in omega arith

length-two-more : (plain : List ℕ) (b c : ℕ) → length (plain ++ b ∷ c ∷ []) ≡ length plain + 2
length-two-more [] b c = omega arith
length-two-more (x ∷ plain) b c = let h : length (plain ++ b ∷ c ∷ []) ≡ length plain + 2 = length-two-more plain b c in omega arith

left-fits : (s : TextStep) (k : ℕ) (plain rest : List ℕ) → StepFits k s rest → length plain + k ≤ MAX_TEXT → length (plain_left_by s plain) + length rest ≤ MAX_TEXT
left-fits (step.Byte b) k plain rest fits h = omega (arith, length-one-more plain b)
left-fits (step.Bytes b c) k plain rest fits h = omega (arith, length-two-more plain b c)
left-fits (step.Found p) k plain rest fits h = omega (arith, fits, h)

abbrev pub ReadsPieces : Result (List Piece) Flaw → Type 0
ReadsPieces (Ok ps) = AreShortPieces ps
ReadsPieces (Err e) = ⊤

pieces-in-short : (steps : ℕ) (kind : Style) (plain bytes : List ℕ) → length plain + length bytes ≤ MAX_TEXT → ReadsPieces (pieces_in steps kind plain bytes)
unfolding pieces_in
pieces-in-short steps kind plain [] h = plain-short plain (omega arith)
pieces-in-short zero kind plain (b ∷ bytes) h = tt
pieces-in-short (suc steps) kind plain (b ∷ bytes) h = go (step_at kind b bytes) (step-at-fits kind b bytes) (λ p left short. pieces-in-short steps kind p left short)
  where
    joined : (s : TextStep) (rest : List ℕ) → StepFits (1 + length bytes) s rest → (r : Result (List Piece) Flaw) → ReadsPieces r → ReadsPieces (r >>= λ others. Ok (pieces_closed_by s plain ++ others))
    joined s rest fits (Ok others) short = pieces-joined (pieces_closed_by s plain) others (closed-short s (1 + length bytes) plain rest fits (omega arith)) short
    joined s rest fits (Err e) short = tt

    go : (r : Result (TextStep × List ℕ) Flaw) → Steps (1 + length bytes) r → ((p left : List ℕ) → length p + length left ≤ MAX_TEXT → ReadsPieces (pieces_in steps kind p left)) → ReadsPieces (r >>= λ s. pieces_in steps kind (plain_left_by s.0 plain) s.1 >>= λ others. Ok (pieces_closed_by s.0 plain ++ others))
    go (Ok s) fits more = joined s.0 s.1 fits (pieces_in steps kind (plain_left_by s.0 plain) s.1) (more (plain_left_by s.0 plain) s.1 (left-fits s.0 (1 + length bytes) plain s.1 fits (omega arith)))
    go (Err e) fits more = tt

pub pieces-of-short : (kind : Style) (bytes : List ℕ) → length bytes ≤ MAX_TEXT → ReadsPieces (pieces_of kind bytes)
unfolding pieces_of
pieces-of-short kind bytes h = pieces-in-short (length bytes) kind [] bytes (omega arith)
