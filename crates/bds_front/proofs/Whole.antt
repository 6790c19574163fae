-- The program of all files.
use Rattle.std.proofs.Common.{◌≡◌, ◌∙◌, ℕ, List, [], ◌∷◌, Option, Some, None, Result, Ok, Err, IsErrAnd, sym, ap, subst, refl}
use Rattle.std.specs.Prelude.{slice_get}
use Rattle.bds_value.specs.declared.value.At.{At}
use Rattle.bds_host.specs.Host.{Log}
use Rattle.bds_tree.specs.StmtTree.{ScriptTree}
use Rattle.bds_check_rules.specs.declared.rules.CheckFault.{CheckFault}
use Rattle.bds_check_rules.specs.declared.rules.CheckFault.TheVariants as check
use Rattle.bds_check_rules.specs.declared.rules.Rule.{Rule}
use Rattle.bds_check_typing.specs.Answers.{broken_at}
use Rattle.bds_check.specs.declared.checking.TypedScript.{TypedScript}
use Rattle.bds_check_typing.specs.Files.{Joins, IsProgramOf}
use Rattle.bds_check_typing.specs.Program.{first_broken}
use Rattle.bds_check_typing.specs.Proper.{IsProgram}
use Rattle.bds_check_laws.proofs.JoinedFiles.{files-program}
use Rattle.bds_check_laws.proofs.ShortTokens.{spelled-short}
use Rattle.bds_meaning.specs.Files.{IsFileIn}
use Rattle.bds_front.specs.declared.front_fault.FrontFault.{FrontFault}
use Rattle.bds_front.specs.declared.front_fault.FrontFault.TheVariants as front
use Rattle.bds_front.specs.declared.including.Joined.{Joined}
use Rattle.bds_front.specs.Loading.{Stops, Makes, Loads}
use Rattle.bds_front.specs.Joining.{or_first, IsWhole, program_of, BreaksRule, UnlessBeyond, Checks, ChecksAll}

module _ (path : List ℕ) (before after : Log) (joined : Joined) (at : At) (w : IsWhole path before after joined at) where
  made : IsProgramOf (IsFileIn w.files) path (program_of at joined.paths joined.parts) w.beyond
  made =
      let P : List (List ℕ) → Type 0 = λ x. Joins (IsFileIn w.files) 0 path 0 (path ∷ []) w.tree.parts x (program_of at joined.paths joined.parts).parts w.beyond in
      record { short = w.short; tree = w.tree; file = w.file; at = w.at-is; joined = subst P (sym w.paths) w.joins }

  pub whole-makes : Makes path before after w.files (program_of at joined.paths joined.parts) w.beyond
  whole-makes = record { read = w.read; made = made; paths = w.paths }

  pub whole-program : IsProgram (program_of at joined.paths joined.parts)
  whole-program = files-program (IsFileIn w.files) (λ p tree h. (h.spelled.legal, spelled-short h.text h.tokens tree h.spelled)) path (program_of at joined.paths joined.parts) w.beyond made

abbrev front-or : Option (List ℕ) → List ℕ
front-or None = []
front-or (Some p) = p

no-beyond : (xs : List (List ℕ)) → or_first None xs ≡ None → xs ≡ []
no-beyond [] h = refl
no-beyond (x ∷ xs) h = absurd cc

first-beyond : (xs : List (List ℕ)) (p : List ℕ) → or_first None xs ≡ Some p → (rest : List (List ℕ)) × (xs ≡ p ∷ rest)
first-beyond [] p h = absurd cc
first-beyond (x ∷ xs) p h = (xs, ap (λ (o : Option (List ℕ)). front-or o ∷ xs) h)

module _ (path : List ℕ) (before after : Log) (joined : Joined) (at : At) (w : IsWhole path before after joined at) where
  abbrev pub program : ScriptTree
  program = program_of at joined.paths joined.parts

  pub loads : (r : Result TypedScript FrontFault) → ChecksAll program joined.beyond r → Loads path before after r
  loads (Ok t) c =
      let none : w.beyond ≡ [] = no-beyond w.beyond (sym w.first ∙ c.0) in
      let m : Makes path before after w.files program [] = subst (λ (x : List (List ℕ)). Makes path before after w.files program x) none (whole-makes path before after joined at w) in
      Loads.loaded w.files program t m c.1.0 c.1.1 c.1.2 c.1.3
  loads (Err (front.IncludeTooDeep p)) c =
      let f = first-beyond w.beyond p (sym w.first ∙ c.0) in
      let m : Makes path before after w.files program (p ∷ f.0) = subst (λ (x : List (List ℕ)). Makes path before after w.files program x) f.1 (whole-makes path before after joined at w) in
      Loads.too_deep w.files program p f.0 m c.1
  loads (Err (front.Check p (check.Broken rule place))) c = Loads.broken w.files program w.beyond (broken_at rule place) p (whole-makes path before after joined at w) c.0 c.1
  loads (Err (front.Check p check.NoMemory)) c = absurd c
  loads (Err (front.Missing p)) c = absurd c
  loads (Err (front.TooLong p)) c = absurd c
  loads (Err (front.Lex p f)) c = absurd c
  loads (Err (front.Parse p f)) c = absurd c
  loads (Err front.Device) c = absurd c
  loads (Err front.NoMemory) c = Loads.stopped front.NoMemory (Stops.no_memory w.files w.read)

-- What checking answers, step by step

pub checks-none : (program : ScriptTree) (r : Result TypedScript FrontFault) → IsErrAnd r (λ x. x ≡ front.NoMemory) → Checks program r
checks-none program (Ok t) h = absurd h
checks-none program (Err f) h = subst (λ (x : FrontFault). Checks program (Err x)) (sym h) tt

pub breaks-checks : (program : ScriptTree) (files : List (List ℕ)) (rule : Rule) (at : At) (f : FrontFault) → program.files ≡ files → first_broken program ≡ Some (broken_at rule at) → BreaksRule files rule at f → Checks program (Err f)
breaks-checks program files rule at (front.Check p c) same first h =
    subst (λ (x : CheckFault). Checks program (Err (front.Check p x))) (sym h.0) (first, subst (λ (x : List (List ℕ)). slice_get x at.file ≡ Some p) (sym same) h.1)
breaks-checks program files rule at front.NoMemory same first h = tt
breaks-checks program files rule at (front.Missing p) same first h = absurd h
breaks-checks program files rule at (front.TooLong p) same first h = absurd h
breaks-checks program files rule at (front.Lex p f) same first h = absurd h
breaks-checks program files rule at (front.Parse p f) same first h = absurd h
breaks-checks program files rule at (front.IncludeTooDeep p) same first h = absurd h
breaks-checks program files rule at front.Device same first h = absurd h

pub checks-stopped : (program : ScriptTree) (beyond : Option (List ℕ)) (f : FrontFault) → Checks program (Err f) → ChecksAll program beyond (Err f)
checks-stopped program beyond (front.IncludeTooDeep p) h = absurd h
checks-stopped program beyond (front.Check p c) h = h
checks-stopped program beyond front.NoMemory h = h
checks-stopped program beyond (front.Missing p) h = h
checks-stopped program beyond (front.TooLong p) h = h
checks-stopped program beyond (front.Lex p f) h = h
checks-stopped program beyond (front.Parse p f) h = h
checks-stopped program beyond front.Device h = h

pub checks-unless : (program : ScriptTree) (beyond : Option (List ℕ)) (t : TypedScript) (r : Result TypedScript FrontFault) → Checks program (Ok t) → UnlessBeyond t beyond r → ChecksAll program beyond r
checks-unless program None t r h u = subst (λ (x : Result TypedScript FrontFault). ChecksAll program None x) (sym u) (refl, h)
checks-unless program (Some p) t r h u = subst (λ (x : Result TypedScript FrontFault). ChecksAll program (Some p) x) (sym u) (refl, h.0)
