-- What goes on unless something is wrong, a result with another value, and a result that want of memory may replace.
use Rattle.std.specs.Prelude.{◌≡◌, ⊤, Bool, true, false, Result, Ok, Err}

infixl 10 ◌>>=◌
abbrev pub ◌>>=◌ : {A B E : Type 0} → Result A E → (A → Result B E) → Result B E
(Ok x) >>= go = go x
(Err e) >>= go = Err e

abbrev pub result_map : {A B E : Type 0} → (A → B) → Result A E → Result B E
result_map f (Ok x) = Ok (f x)
result_map f (Err e) = Err e

abbrev pub Unless : Bool → Type 0 → Type 0
Unless true P = ⊤
Unless false P = P

-- just this, or a fault of want, as a test tells them
abbrev pub OrWant : {X F : Type 0} → (F → Bool) → Result X F → Result X F → Type 0
OrWant is_want given (Ok x) = Ok x ≡ given
OrWant is_want given (Err fault) = Unless (is_want fault) (Err fault ≡ given)
