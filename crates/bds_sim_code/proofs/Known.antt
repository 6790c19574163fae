-- Which options of a task or a rule have their values in their slots, behind others and where the command begins.
use Rattle.std.proofs.Common.{◌≡◌, ℕ, Bool, true, false, ◌||◌, List, [], ◌∷◌, refl, subst, inl, inr, if◌then◌else◌}
use Rattle.std.specs.Prelude.{codes}
use Rattle.std.proofs.lemmas.Slice.Eq.{bytes_eq-Decides}
use Rattle.bds_tree.specs.StmtTree.{SettingFormTree, setting_named, setting_plain, SettingTree}
use Rattle.bds_tree.specs.Tree.{node, dependency}
use Rattle.bds_check_rules.specs.StmtBreaks.{any_dependency, seen_behind, none_seen}
use Rattle.bds_check_size.specs.StmtSize.{is_option, has_option}
use Rattle.bds_meaning.specs.OpeningActs.{setting_of}
use Rattle.bds_meaning.specs.Work.{Setting, Outputs, Inputs, Processors, CanFail, Retries, TaskName, Condition}
use Rattle.bds_sim_terms.specs.steps.Stands.{Among, AreAmong, known_behind, made_of}

-- the options whose slots hold their values, the last first: behind another option, and behind all of a list

abbrev pub known_form : SettingFormTree → List Setting → List Setting
known_form (setting_named x e) ks = known_behind (setting_of x) ks
known_form (setting_plain (node at t (dependency a b))) ks = Inputs ∷ Outputs ∷ ks
known_form (setting_plain e) ks = ks

abbrev pub known_after : List SettingTree → List Setting → List Setting
known_after [] ks = ks
known_after (s ∷ ss) ks = known_after ss (known_form s.form ks)

-- those that are set before any option, since no option of theirs is there

abbrev pub unset_behind : Bool → Setting → List Setting → List Setting
unset_behind there k ks = if there then ks else k ∷ ks

abbrev pub defaults_of : List SettingTree → List Setting
defaults_of os =
    unset_behind (has_option (codes "taskName") os) TaskName
    (unset_behind (has_option (codes "retry") os) Retries
    (unset_behind (has_option (codes "canFail") os) CanFail
    (unset_behind (has_option (codes "cpus") os) Processors (unset_behind (any_dependency os) Inputs (unset_behind (any_dependency os) Outputs [])))))

among_behind : (k j : Setting) (ks : List Setting) → Among k ks → Among k (known_behind j ks)
among_behind k Condition ks h = h
among_behind k Outputs ks h = inr h
among_behind k Inputs ks h = inr h
among_behind k Processors ks h = inr h
among_behind k CanFail ks h = inr h
among_behind k Retries ks h = inr h
among_behind k TaskName ks h = inr h

among_form : (f : SettingFormTree) (k : Setting) (ks : List Setting) → Among k ks → Among k (known_form f ks)
among_form (setting_named x e) k ks h = among_behind k (setting_of x) ks h
among_form (setting_plain (node at t (dependency a b))) k ks h = inr (inr h)
among_form (setting_plain (node at t f)) k ks h = h

pub among_after : (os : List SettingTree) (k : Setting) (ks : List Setting) → Among k ks → Among k (known_after os ks)
among_after [] k ks h = h
among_after (s ∷ ss) k ks h = among_after ss k (known_form s.form ks) (among_form s.form k ks h)

-- an option that is there is known behind all

module _ (x : List ℕ) (k : Setting) (here : (ks : List Setting) → Among k (known_behind (setting_of x) ks)) where
  named_form : (f : SettingFormTree) (ks : List Setting) → is_option x f ≡ true → Among k (known_form f ks)
  named_form (setting_named y e) ks h = subst (λ z. Among k (known_behind (setting_of z) ks)) ((bytes_eq-Decides x y).0 h) (here ks)
  named_form (setting_plain e) ks h = absurd (cc)

  named_after : (os : List SettingTree) (ks : List Setting) → has_option x os ≡ true → Among k (known_after os ks)
  named_after [] ks h = absurd (cc)
  named_after (s ∷ ss) ks h = by (is_option x s.form) refl (λ r. named_after ss (known_form s.form ks) r) h
    where
      by : (b : Bool) → is_option x s.form ≡ b → (has_option x ss ≡ true → Among k (known_after ss (known_form s.form ks))) → (b || has_option x ss) ≡ true → Among k (known_after ss (known_form s.form ks))
      by true e rest r = among_after ss k (known_form s.form ks) (named_form s.form ks e)
      by false e rest r = rest r

files_form : (f : SettingFormTree) (ks : List Setting) → (seen_behind none_seen f).dependency ≡ true → Among Outputs (known_form f ks) × Among Inputs (known_form f ks)
files_form (setting_named y e) ks h = absurd (cc)
files_form (setting_plain (node at t (dependency a b))) ks h = (inr (inl refl), inl refl)
files_form (setting_plain (node at t f)) ks h = absurd (cc)

files_after : (os : List SettingTree) (ks : List Setting) → any_dependency os ≡ true → Among Outputs (known_after os ks) × Among Inputs (known_after os ks)
files_after [] ks h = absurd (cc)
files_after (s ∷ ss) ks h = by (seen_behind none_seen s.form).dependency refl (λ r. files_after ss (known_form s.form ks) r) h
  where
    by : (b : Bool) → (seen_behind none_seen s.form).dependency ≡ b → (any_dependency ss ≡ true → Among Outputs (known_after ss (known_form s.form ks)) × Among Inputs (known_after ss (known_form s.form ks)))
        → (b || any_dependency ss) ≡ true → Among Outputs (known_after ss (known_form s.form ks)) × Among Inputs (known_after ss (known_form s.form ks))
    by true e rest r =
        let w = files_form s.form ks e in
        (among_after ss Outputs (known_form s.form ks) w.0, among_after ss Inputs (known_form s.form ks) w.1)
    by false e rest r = rest r

-- one that isn't there is among those that are set

among_unset : (there : Bool) (k j : Setting) (ks : List Setting) → Among k ks → Among k (unset_behind there j ks)
among_unset true k j ks h = h
among_unset false k j ks h = inr h

among_here : (there : Bool) (k : Setting) (ks : List Setting) → there ≡ false → Among k (unset_behind there k ks)
among_here true k ks h = absurd (cc)
among_here false k ks h = inl refl

module _ (os : List SettingTree) where
  abbrev hd : Bool
  hd = any_dependency os

  abbrev hc : Bool
  hc = has_option (codes "cpus") os

  abbrev hf : Bool
  hf = has_option (codes "canFail") os

  abbrev hr : Bool
  hr = has_option (codes "retry") os

  abbrev hn : Bool
  hn = has_option (codes "taskName") os

  abbrev d1 : List Setting
  d1 = unset_behind hd Outputs []

  abbrev d2 : List Setting
  d2 = unset_behind hd Inputs d1

  abbrev d3 : List Setting
  d3 = unset_behind hc Processors d2

  abbrev d4 : List Setting
  d4 = unset_behind hf CanFail d3

  abbrev d5 : List Setting
  d5 = unset_behind hr Retries d4

  above : (k : Setting) → Among k d2 → Among k (defaults_of os)
  above k h = among_unset hn k TaskName d5 (among_unset hr k Retries d4 (among_unset hf k CanFail d3 (among_unset hc k Processors d2 h)))

  -- all are known where the command begins, whatever stood before the options as well
  pub all_known : (ks : List Setting) → ((k : Setting) → Among k (defaults_of os) → Among k ks) → AreAmong made_of (known_after os ks)
  all_known ks more = (
    outs hd refl,
    (
      ins hd refl,
      (
        option Processors (codes "cpus") hc refl (λ js. inl refl) (λ e. among_unset hn Processors TaskName d5 (among_unset hr Processors Retries d4 (among_unset hf Processors CanFail d3 (among_here hc Processors d2 e)))),
        (
          option CanFail (codes "canFail") hf refl (λ js. inl refl) (λ e. among_unset hn CanFail TaskName d5 (among_unset hr CanFail Retries d4 (among_here hf CanFail d3 e))),
          (
            option Retries (codes "retry") hr refl (λ js. inl refl) (λ e. among_unset hn Retries TaskName d5 (among_here hr Retries d4 e)),
            (option TaskName (codes "taskName") hn refl (λ js. inl refl) (λ e. among_here hn TaskName d5 e), tt),
          ),
        ),
      ),
    ),
  )
    where
      outs : (b : Bool) → hd ≡ b → Among Outputs (known_after os ks)
      outs true e = (files_after os ks e).0
      outs false e = among_after os Outputs ks (more Outputs (above Outputs (among_unset hd Outputs Inputs d1 (among_here hd Outputs [] e))))

      ins : (b : Bool) → hd ≡ b → Among Inputs (known_after os ks)
      ins true e = (files_after os ks e).1
      ins false e = among_after os Inputs ks (more Inputs (above Inputs (among_here hd Inputs d1 e)))

      option : (k : Setting) (x : List ℕ) (b : Bool) → has_option x os ≡ b → ((js : List Setting) → Among k (known_behind (setting_of x) js)) → (has_option x os ≡ false → Among k (defaults_of os)) → Among k (known_after os ks)
      option k x true e here unset = named_after x k here os ks e
      option k x false e here unset = among_after os k ks (more k (unset e))
