-- What an answer has to be that sets what words give.
use Rattle.std.specs.Prelude.{◌≡◌, ℕ, List, Result, Ok, Err, ⊤}
use Rattle.bds_check_size.specs.ScriptSize.{Settings}
use Rattle.bds_check_typing.specs.GivenValues.{set_by}
use Rattle.bds_check_words.specs.declared.faults.WordsFault.{WordsFault}
use Rattle.bds_check_words.specs.declared.faults.WordsFault.TheVariants as fault
use Rattle.bds_check.specs.declared.checking.TypedScript.{TypedScript}

-- the same script with what the words give, or their fault; unless memory runs out
abbrev pub IsSet : TypedScript → Result (Settings × List (List ℕ)) WordsFault → Result TypedScript WordsFault → Type 0
IsSet before given (Ok t) = (t.script ≡ before.script) × (given ≡ Ok (set_by t.settings, t.args))
IsSet before given (Err fault.NoMemory) = ⊤
IsSet before given (Err e) = given ≡ Err e
