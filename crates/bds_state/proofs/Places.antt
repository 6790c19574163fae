-- Items of a list by their places, where one is put in another's place or behind all; and what a thread has that hasn't
-- ended.
use Rattle.std.proofs.Common.{◌≡◌, ◌≢◌, ◌<◌, ◌≤◌, ℕ, zero, suc, List, [], ◌∷◌, ◌++◌, length, slice_get, slice_index_or}
use Rattle.std.proofs.Common.{Option, Some, None, arith, refl, subst}
use Rattle.std.proofs.lemmas.Option.{slice_get_read}
use Rattle.bds_value.specs.declared.ids.Status.{Status}
use Rattle.bds_value.specs.declared.ids.Status.TheVariants.{Ready, Waiting, Ended}
use Rattle.bds_value.specs.declared.value.Value.{Value}
use Rattle.bds_code.specs.declared.unit.Unit.{Unit as CodeUnit}
use Rattle.bds_code_frames.specs.declared.frame.Frame.{Frame}
use Rattle.bds_code_frames.specs.Stack.{stack}
use Rattle.bds_verify.specs.Threads.{AreLive, HasParts}
use Rattle.std.specs.List.{All, AllByRecursion, slice_set}
use Rattle.std.proofs.lemmas.List.Elements.{All-from_recursion, recursion_from_All}

pub all_set : {X : Type 0} (P : ℕ → X → Type 0) (xs : List X) (i : ℕ) (y : X)
    → ((n : ℕ) (x : X) → slice_get xs n ≡ Some x → P n x) → (i < length xs → P i y)
    → (n : ℕ) (x : X) → slice_get (slice_set xs i y) n ≡ Some x → P n x
all_set P [] i y h p n x e = h n x e
all_set P (z ∷ zs) zero y h p zero x e = let same : y ≡ x = cc in subst (P 0) same (p (omega arith))
all_set P (z ∷ zs) zero y h p (suc n) x e = h (suc n) x e
all_set P (z ∷ zs) (suc i) y h p zero x e = h zero x e
all_set P (z ∷ zs) (suc i) y h p (suc n) x e =
    all_set (λ k. P (suc k)) zs i y (λ k w d. h (suc k) w d) (λ l. p (omega arith)) n x e

pub all_push : {X : Type 0} (P : ℕ → X → Type 0) (xs : List X) (y : X)
    → ((n : ℕ) (x : X) → slice_get xs n ≡ Some x → P n x) → P (length xs) y
    → (n : ℕ) (x : X) → slice_get (xs ++ y ∷ []) n ≡ Some x → P n x
all_push P [] y h p zero x e = let same : y ≡ x = cc in subst (P 0) same p
all_push {X = X} P [] y h p (suc n) x e = absurd (let none : ◌≡◌ {A = Option X} None (Some x) = e in cc)
all_push P (z ∷ zs) y h p zero x e = h zero x e
all_push P (z ∷ zs) y h p (suc n) x e =
    let long : length (z ∷ zs) ≡ suc (length zs) = omega arith in
    all_push (λ k. P (suc k)) zs y (λ k w d. h (suc k) w d) (subst (λ k. P k y) long p) n x e

-- what holds of every item holds of the one at a place
at_recursion : {X : Type 0} (P : X → Type 0) (xs : List X) (n : ℕ) (x : X) → AllByRecursion P xs
    → slice_get xs n ≡ Some x → P x
at_recursion {X = X} P [] n x a e = absurd (let none : ◌≡◌ {A = Option X} None (Some x) = e in cc)
at_recursion P (y ∷ ys) zero x a e = let same : y ≡ x = cc in subst P same a.0
at_recursion P (y ∷ ys) (suc n) x a e = at_recursion P ys n x a.1 e

pub at_place : {X : Type 0} (P : X → Type 0) (xs : List X) (n : ℕ) (x : X) → All P xs → slice_get xs n ≡ Some x → P x
at_place P xs n x a e = at_recursion P xs n x (recursion_from_All P xs a) e

weaker_recursion : {X : Type 0} (P Q : X → Type 0) → ((x : X) → P x → Q x) → (xs : List X) → AllByRecursion P xs
    → AllByRecursion Q xs
weaker_recursion P Q f [] a = tt
weaker_recursion P Q f (x ∷ xs) a = (f x a.0, weaker_recursion P Q f xs a.1)

pub all_weaker : {X : Type 0} (P Q : X → Type 0) → ((x : X) → P x → Q x) → (xs : List X) → All P xs → All Q xs
all_weaker P Q f xs a = All-from_recursion Q xs (weaker_recursion P Q f xs (recursion_from_All P xs a))

pub there_within : {X : Type 0} (xs : List X) (n : ℕ) → n < length xs → (x : X) × (slice_get xs n ≡ Some x)
there_within [] n l = absurd (omega arith)
there_within (x ∷ xs) zero l = (x, refl)
there_within (x ∷ xs) (suc n) l = there_within xs n (omega arith)

-- what an index finds is at its place, and alone there

pub found_at : {X : Type 0} (xs : List X) (i : ℕ) (x : X) → i < length xs → x ≡ slice_index_or xs i x
    → slice_get xs i ≡ Some x
found_at xs i x l e = slice_get_read xs (length xs) i x refl l e

pub same_item : {X : Type 0} (o : Option X) (x y : X) → o ≡ Some x → o ≡ Some y → x ≡ y
same_item o x y e d = cc

pub some_where : (n : ℕ) → (n ≡ 0 → ⊥) → 1 ≤ n
some_where zero none = absurd (none refl)
some_where (suc n) none = omega arith

-- a thread that hasn't ended is live
pub live_parts : (u : CodeUnit) (st : Status) (globals : List Value) (frames : List Frame) → st ≢ Ended
    → HasParts u st globals frames → AreLive u globals (stack frames)
live_parts u Ready globals frames live h = h.0
live_parts u (Waiting ids) globals frames live h = h
live_parts u Ended globals frames live h = absurd (live refl)
