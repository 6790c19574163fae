-- A script that is run: with which processors and ticks, what the words behind it set, and what its job does next.
use Rattle.std.specs.Prelude.{ℕ, List, Result, Ok, Err}
use Rattle.bds_value.specs.Results.{◌>>=◌}
use Rattle.bds_host.specs.declared.faults.Fault.{Fault}
use Rattle.bds_host.specs.declared.faults.Fault.TheVariants as fault
use Rattle.bds_tree.specs.StmtTree.{ScriptTree}
use Rattle.bds_check_size.specs.ScriptSize.{Settings, program_size}
use Rattle.bds_tree.specs.StmtView.{script_of}
use Rattle.bds_check.specs.declared.checking.TypedScript.{TypedScript}
use Rattle.bds_check_typing.specs.GivenValues.{set_by}
use Rattle.bds_check_typing.specs.WellTypedScripts.{globals_in}
use Rattle.bds_check_words.specs.WordSettings.{words_give}
use Rattle.bds_check_words.specs.declared.faults.WordsFault.{WordsFault}
use Rattle.bds_check_words.specs.declared.faults.WordsFault.TheVariants as words
use Rattle.bds_meaning.specs.Begin.{Job, JobEnd, Stage, Steps}
use Rattle.bds_meaning.specs.Refusals.{Preset, Accepted, unless, too_big}
use Rattle.bds_schedule.specs.Steps.{Step}
use Rattle.bds_app_run.specs.declared.call.Call.{Call}

abbrev pub job_of : Call → Job
job_of c = record { path = c.path; cpus = c.cpus; budget = c.ticks }

-- how it is told that a word isn't taken; words never give want of memory
abbrev pub told_at : List ℕ → WordsFault → Fault
told_at path (words.NoVariable x) = fault.NoVariable path x
told_at path (words.BadValue x) = fault.BadValue path x
told_at path words.NoMemory = fault.Words

abbrev pub preset_or_fault : List ℕ → Result (Settings × List (List ℕ)) WordsFault → Result Preset Fault
preset_or_fault path (Ok given) = Ok (record { settings = given.0; args = given.1 })
preset_or_fault path (Err e) = Err (told_at path e)

-- what the words behind a script set in it, or why they aren't taken
abbrev pub set_by_words : Call → ScriptTree → Result Preset Fault
set_by_words c script = preset_or_fault c.path (words_give (globals_in script) c.words)

abbrev pub size_with : ScriptTree → Preset → ℕ
size_with script preset = program_size preset.settings preset.args script

-- what the job does next
abbrev pub JobSteps : Call → Stage → Step Stage JobEnd → Type 0
JobSteps c = Steps (job_of c) (set_by_words c) size_with

-- what is run of a typed script with what words set, unless its unit is too large
abbrev pub if_fits : Call → ScriptTree → Preset → Result Accepted Fault
if_fits c script preset = unless (too_big c.path (set_by_words c) size_with script preset) (Ok (record { script = script; preset = preset }))

-- what is run of a typed script, or why it isn't
abbrev pub run_opens : Call → ScriptTree → Result Accepted Fault
run_opens c script = set_by_words c script >>= λ preset. if_fits c script preset

-- what words set in a typed script
abbrev pub preset_of : TypedScript → Preset
preset_of t = record { settings = set_by t.settings; args = t.args }

abbrev pub accepted_with : TypedScript → Accepted
accepted_with t = record { script = script_of t.script; preset = preset_of t }
