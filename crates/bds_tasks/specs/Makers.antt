-- For private contracts alone: an index in which the tasks that make a file are found without a search.
use Rattle.std.specs.Prelude.{◌≡◌, ◌&&◌, ◌||◌, ℕ, Bool, true, false, not, List, [], ◌∷◌, ◌++◌, Option, Some, None, Vec}
use Rattle.std.specs.Prelude.{nat_eq, nat_lt, filter, unwrap_or, if◌then◌else◌, ⊤}
use Rattle.std.specs.Global.{Global}
use Rattle.std.specs.List.{list_any}
use Rattle.std.specs.Map.{lookup}
use Rattle.std.specs.Str.{bytes_eq}
use Rattle.indexmap.specs.IndexMap.{IndexMap}
use Rattle.bds_value.specs.Reading.{follows}
use Rattle.bds_tasks.specs.declared.task.Task.{Task}
use Rattle.bds_tasks.specs.Files.{is_among}
use Rattle.bds_tasks.specs.Tasks.{is_pending, numbers_of, passes}

-- a number is one of these
abbrev pub is_in : List ℕ → ℕ → Bool
is_in ns n = list_any (nat_eq n) ns

-- the task makes a file
abbrev pub makes : List ℕ → Task → Bool
makes file t = is_among t.made.outs file

-- what a file has
abbrev pub tasks_at : List ℕ → List (Vec ℕ Global × List ℕ) → Option (List ℕ)
tasks_at file es = lookup (λ k. bytes_eq file k.items) es

-- the tasks of a file
abbrev pub tasks_in : List (Vec ℕ Global × List ℕ) → List ℕ → List ℕ
tasks_in es file = unwrap_or (tasks_at file es) []

-- of tasks, which may be the first of all, each file has some that make it, and each of them that is pending
pub record AreMakersOf (all ts : List Task) (es : List (Vec ℕ Global × List ℕ)) : Type 0 where
  pub make : (file : List ℕ) (n : ℕ) → is_in (tasks_in es file) n ≡ true → is_in (numbers_of (makes file) ts) n ≡ true
  pub there : (file : List ℕ) (n : ℕ) → passes is_pending all n ≡ true → is_in (numbers_of (makes file) ts) n ≡ true
      → is_in (tasks_in es file) n ≡ true

abbrev pub AreMakers : List Task → List (Vec ℕ Global × List ℕ) → Type 0
AreMakers ts es = AreMakersOf ts ts es

-- what a file has behind one task more: of what it had those that are pending
abbrev pub with_one : List Task → List ℕ → ℕ → List ℕ
with_one ts numbers n = filter (passes is_pending ts) numbers ++ n ∷ []

-- the first of these tasks has ended
abbrev pub first_ended : List Task → List ℕ → Bool
first_ended ts [] = false
first_ended ts (n ∷ ns) = not (passes is_pending ts n)

-- the same where the first has ended, and else all that it had
abbrev pub with_next : List Task → List ℕ → ℕ → List ℕ
with_next ts numbers n = if first_ended ts numbers then with_one ts numbers n else numbers ++ n ∷ []

-- one file has one task more
abbrev pub HasOne : List Task → List ℕ → ℕ → List (Vec ℕ Global × List ℕ) → List (Vec ℕ Global × List ℕ) → Type 0
HasOne ts file n old new = (x : List ℕ)
    → tasks_in new x ≡ (if bytes_eq file x then with_next ts (tasks_in old x) n else tasks_in old x)

-- file x has these tasks, and n where it is one of some files
abbrev pub is_in_with : List (List ℕ) → ℕ → List ℕ → List ℕ → ℕ → Bool
is_in_with files n x numbers m = is_in numbers m || (nat_eq m n && is_among files x)

-- each of these files has one task more, and else no file has what it hadn't, and each what is pending
pub record HaveOne (ts : List Task) (files : List (List ℕ)) (n : ℕ) (old new : List (Vec ℕ Global
    × List ℕ)) : Type 0 where
  pub fewer : (x : List ℕ) (m : ℕ) → is_in (tasks_in new x) m ≡ true → is_in_with files n x (tasks_in old x) m ≡ true
  pub more : (x : List ℕ) (m : ℕ) → passes is_pending ts m ≡ true → is_in_with files n x (tasks_in old x) m ≡ true
      → is_in (tasks_in new x) m ≡ true

-- the same, or there is no index any more
abbrev pub HasMore : {S : Type 0} → List Task → List (List ℕ) → ℕ → Option (IndexMap (Vec ℕ Global) (List ℕ) S)
    → Option (IndexMap (Vec ℕ Global) (List ℕ) S) → Type 0
HasMore ts files n old None = ⊤
HasMore ts files n None (Some new) = ⊥
HasMore ts files n (Some old) (Some new) = HaveOne ts files n old.entries new.entries

-- for each of these files the pending tasks that make it
abbrev pub pending_makers : List Task → List (Vec ℕ Global × List ℕ) → List (List ℕ) → List ℕ
pending_makers ts es [] = []
pending_makers ts es (f ∷ files) = filter (passes is_pending ts) (tasks_in es f) ++ pending_makers ts es files

-- those of these numbers that come behind all before them, and behind a last one
abbrev pub unrepeated : Option ℕ → List ℕ → List ℕ
unrepeated last [] = []
unrepeated last (n ∷ ns) = if follows nat_lt last n then n ∷ unrepeated (Some n) ns else unrepeated last ns
