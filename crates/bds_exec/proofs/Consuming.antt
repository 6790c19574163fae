-- The bytes that a reader has left, over several reads.
use Rattle.std.proofs.Common.{◌≡◌, ◌≤◌, length, ap, arith, ◌++◌, ℕ, List, [], Option, Some, None, IfSome, append_assoc, append-nil, refl, sym, ◌∙◌}
use Rattle.std.proofs.lemmas.List.{length-append}
use Rattle.std.specs.Io.KnownBytes.{Keeps, Consumes, IsAtEnd}

-- a failed read before one that gave bytes
pub Keeps-Consumes : (a b c : Option (List ℕ)) (bs : List ℕ) → Keeps a b → Consumes b c bs → Consumes a c bs
Keeps-Consumes None b c bs keeps more = tt
Keeps-Consumes (Some xs) None c bs keeps more = absurd keeps
Keeps-Consumes (Some xs) (Some ys) None bs keeps more = more
Keeps-Consumes (Some xs) (Some ys) (Some zs) bs keeps more = sym keeps ∙ more

-- two failed reads
pub Keeps-Keeps : (a b c : Option (List ℕ)) → Keeps a b → Keeps b c → Keeps a c
Keeps-Keeps None b c keeps more = tt
Keeps-Keeps (Some xs) None c keeps more = absurd keeps
Keeps-Keeps (Some xs) (Some ys) None keeps more = more
Keeps-Keeps (Some xs) (Some ys) (Some zs) keeps more = more ∙ keeps

-- two reads that gave bytes
pub Consumes-append : (a b c : Option (List ℕ)) (bs cs : List ℕ) → Consumes a b bs → Consumes b c cs → Consumes a c (bs ++ cs)
Consumes-append None b c bs cs first second = tt
Consumes-append (Some xs) None c bs cs first second = absurd first
Consumes-append (Some xs) (Some ys) None bs cs first second = second
Consumes-append (Some xs) (Some ys) (Some zs) bs cs first second = rw (first, second, append_assoc) refl

-- no bytes were read yet
pub Consumes-none : (a : Option (List ℕ)) → Consumes a a []
Consumes-none None = tt
Consumes-none (Some xs) = refl

-- all were read
pub Consumes-end : (a b c : Option (List ℕ)) (bs : List ℕ) → Consumes a b bs → Consumes b c [] → IsAtEnd c → IfSome a (λ xs. bs ≡ xs)
Consumes-end None b c bs read last end = tt
Consumes-end (Some xs) None c bs read last end = absurd read
Consumes-end (Some xs) (Some ys) None bs read last end = absurd last
Consumes-end (Some xs) (Some ys) (Some zs) bs read last end = rw (read, last, end, append-nil) refl

-- so many bytes were read, so there were as many
pub Consumes-many : (a b : Option (List ℕ)) (bs : List ℕ) (n : ℕ) → Consumes a b bs → n ≤ length bs → IfSome a (λ left. n ≤ length left)
Consumes-many None b bs n read many = tt
Consumes-many (Some xs) None bs n read many = absurd read
Consumes-many (Some xs) (Some ys) bs n read many = omega (arith, many, ap length read, length-append bs ys)

pub ruleset consuming = (Keeps-Consumes, Keeps-Keeps, Consumes-append, Consumes-none, Consumes-end, Consumes-many)
