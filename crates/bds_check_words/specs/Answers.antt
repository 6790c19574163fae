-- What an answer of the reading of words has to be.
use Rattle.std.specs.Prelude.{◌≡◌, ◌≤◌, ℕ, List, [], ◌∷◌, ◌++◌, length, Bool, true, false, Result, Ok, Err, ⊤}
use Rattle.bds_value.specs.declared.value.Value.{Value}
use Rattle.bds_value.specs.Results.{OrWant, result_map}
use Rattle.bds_check_names.specs.declared.names.Variable.{Variable}
use Rattle.bds_check_size.specs.ScriptSize.{Settings}
use Rattle.bds_check_typing.specs.GivenValues.{set_by}
use Rattle.bds_check_words.specs.declared.faults.WordsFault.{WordsFault}
use Rattle.bds_check_words.specs.declared.faults.WordsFault.TheVariants as fault
use Rattle.bds_check_words.specs.declared.reading.Preset.{Preset}
use Rattle.bds_check_words.specs.WordSettings.{setting, words_behind, words_give}

abbrev pub is_want : WordsFault → Bool
is_want fault.NoMemory = true
is_want _ = false

-- just this, unless memory runs out
abbrev pub OrNoMemory : {X : Type 0} → Result X WordsFault → Result X WordsFault → Type 0
OrNoMemory = OrWant is_want

abbrev pub preset_of : Preset → Settings × List (List ℕ)
preset_of p = (set_by p.settings, p.args)

-- what the words give, or their fault, unless memory runs out
abbrev pub GivesWords : Result (Settings × List (List ℕ)) WordsFault → Result Preset WordsFault → Type 0
GivesWords given r = OrNoMemory given (result_map preset_of r)

-- For private contracts alone

-- what was given so far, and behind it what other words give
abbrev pub joined : Preset → Result (Settings × List (List ℕ)) WordsFault → Result (Settings × List (List ℕ)) WordsFault
joined p r = result_map (λ g. (set_by p.settings ++ g.0, p.args ++ g.1)) r

abbrev pub PutsSetting : List Variable → List ℕ → List (List ℕ) → Preset → Preset → Result ℕ WordsFault → Type 0
PutsSetting globals x ws old new (Ok n) =
    (v : Value) × (setting globals x ws ≡ Ok (v, n)) × (set_by new.settings ≡ set_by old.settings ++ (x, v) ∷ []) × (new.args ≡ old.args) × (n ≤ length ws)
PutsSetting globals x ws old new (Err fault.NoMemory) = ⊤
PutsSetting globals x ws old new (Err e) = setting globals x ws ≡ Err e

abbrev pub PutsWord : List Variable → List ℕ → List (List ℕ) → Preset → Preset → Result ℕ WordsFault → Type 0
PutsWord globals w ws old new (Ok n) = (joined old (words_behind globals 0 (w ∷ ws)) ≡ joined new (words_behind globals n ws)) × (n ≤ length ws)
PutsWord globals w ws old new (Err fault.NoMemory) = ⊤
PutsWord globals w ws old new (Err e) = words_behind globals 0 (w ∷ ws) ≡ Err e

abbrev pub PutsWords : List Variable → List (List ℕ) → Preset → Preset → Result (Unit {0}) WordsFault → Type 0
PutsWords globals ws old new (Ok _) = joined old (words_give globals ws) ≡ Ok (preset_of new)
PutsWords globals ws old new (Err fault.NoMemory) = ⊤
PutsWords globals ws old new (Err e) = words_give globals ws ≡ Err e
