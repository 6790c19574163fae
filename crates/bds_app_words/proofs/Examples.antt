-- What some words ask for, computed.
use Rattle.std.proofs.Common.{◌≡◌, [], ◌∷◌, Some, None, refl, codes}
use Rattle.clap.proofs.OnLiterals.{clap_on_literals}
use Rattle.bds_value.specs.declared.TheConstants.{MAX_TICKS}
use Rattle.bds_app_words.specs.Asked.{command_of}
use Rattle.bds_app_words.specs.declared.command.Command.TheVariants.{Run, Resume, Check, Info, Make, Format, Replay}
use Rattle.bds_app_words.specs.declared.command.Command.TheVariants.{Dry, Test}
use Rattle.bds_app_words.specs.declared.command.Over.TheVariants.{Plain, Log, Farm}

run_alone : command_of (codes "run" ∷ codes "s.bds" ∷ []) ≡ Some (Run 4 MAX_TICKS (codes "s.bds") [] Plain)
unfolding clap_on_literals
run_alone = refl

run_with_words : command_of (codes "run" ∷ codes "--cpus" ∷ codes "8" ∷ codes "s.bds" ∷ codes "a" ∷ codes "b" ∷ []) ≡
    Some (Run 8 MAX_TICKS (codes "s.bds") (codes "a" ∷ codes "b" ∷ []) Plain)
unfolding clap_on_literals
run_with_words = refl

run_with_hyphens : command_of (codes "run" ∷ codes "s.bds" ∷ codes "--" ∷ codes "-n" ∷ codes "5" ∷ codes "x" ∷ []) ≡
    Some (Run 4 MAX_TICKS (codes "s.bds") (codes "-n" ∷ codes "5" ∷ codes "x" ∷ []) Plain)
unfolding clap_on_literals
run_with_hyphens = refl

run_with_ticks : command_of (codes "run" ∷ codes "--ticks=1000" ∷ codes "s.bds" ∷ codes "x" ∷ codes "--" ∷ codes "y" ∷
    []) ≡ Some (Run 4 1000 (codes "s.bds") (codes "x" ∷ codes "y" ∷ []) Plain)
unfolding clap_on_literals
run_with_ticks = refl

resume_on_two : command_of (codes "resume" ∷ codes "--cpus" ∷ codes "2" ∷ codes "f" ∷ []) ≡ Some
    (Resume 2 MAX_TICKS (codes "f") Plain)
unfolding clap_on_literals
resume_on_two = refl

check_one : command_of (codes "check" ∷ codes "s" ∷ []) ≡ Some (Check (codes "s"))
unfolding clap_on_literals
check_one = refl

info_one : command_of (codes "info" ∷ codes "f" ∷ []) ≡ Some (Info (codes "f"))
unfolding clap_on_literals
info_one = refl

make_most : command_of (codes "make" ∷ codes "10000" ∷ []) ≡ Some (Make 10000)
unfolding clap_on_literals
make_most = refl

format_one : command_of (codes "fmt" ∷ codes "s.bds" ∷ []) ≡ Some (Format (codes "s.bds"))
unfolding clap_on_literals
format_one = refl

no_words : command_of [] ≡ None
unfolding clap_on_literals
no_words = refl

no_script : command_of (codes "run" ∷ []) ≡ None
unfolding clap_on_literals
no_script = refl

none_made : command_of (codes "make" ∷ codes "0" ∷ []) ≡ None
unfolding clap_on_literals
none_made = refl

more_made : command_of (codes "make" ∷ codes "10001" ∷ []) ≡ None
unfolding clap_on_literals
more_made = refl

hyphen_alone : command_of (codes "run" ∷ codes "s" ∷ codes "-n" ∷ []) ≡ None
unfolding clap_on_literals
hyphen_alone = refl

more_ticks : command_of (codes "run" ∷ codes "--ticks" ∷ codes "4611686018427387905" ∷ codes "s" ∷ []) ≡ None
unfolding clap_on_literals
more_ticks = refl

cpus_twice : command_of (codes "run" ∷ codes "--cpus" ∷ codes "1" ∷ codes "--cpus" ∷ codes "2" ∷ codes "s" ∷ []) ≡ None
unfolding clap_on_literals
cpus_twice = refl

help_asked : command_of (codes "--help" ∷ []) ≡ None
unfolding clap_on_literals
help_asked = refl

help_of_run : command_of (codes "run" ∷ codes "--help" ∷ []) ≡ None
unfolding clap_on_literals
help_of_run = refl

help_named : command_of (codes "help" ∷ []) ≡ None
unfolding clap_on_literals
help_named = refl

two_checked : command_of (codes "check" ∷ codes "a" ∷ codes "b" ∷ []) ≡ None
unfolding clap_on_literals
two_checked = refl

two_formatted : command_of (codes "fmt" ∷ codes "a" ∷ codes "b" ∷ []) ≡ None
unfolding clap_on_literals
two_formatted = refl

format_on_two : command_of (codes "fmt" ∷ codes "--cpus" ∷ codes "2" ∷ codes "s" ∷ []) ≡ None
unfolding clap_on_literals
format_on_two = refl

run_with_log : command_of (codes "run" ∷ codes "--log" ∷ codes "l.log" ∷ codes "s.bds" ∷ []) ≡ Some
    (Run 4 MAX_TICKS (codes "s.bds") [] (Log (codes "l.log")))
unfolding clap_on_literals
run_with_log = refl

resume_with_log : command_of (codes "resume" ∷ codes "f" ∷ codes "--log=l.log" ∷ []) ≡ Some
    (Resume 4 MAX_TICKS (codes "f") (Log (codes "l.log")))
unfolding clap_on_literals
resume_with_log = refl

run_on_farm : command_of (codes "run" ∷ codes "--submit" ∷ codes "q" ∷ codes "--poll" ∷ codes "p" ∷ codes "s.bds" ∷ [])
    ≡ Some (Run 4 MAX_TICKS (codes "s.bds") [] (Farm (codes "q") (codes "p")))
unfolding clap_on_literals
run_on_farm = refl

resume_on_farm : command_of (codes "resume" ∷ codes "--poll" ∷ codes "p" ∷ codes "--submit" ∷ codes "q" ∷ codes "f" ∷
    []) ≡ Some (Resume 4 MAX_TICKS (codes "f") (Farm (codes "q") (codes "p")))
unfolding clap_on_literals
resume_on_farm = refl

submit_alone : command_of (codes "run" ∷ codes "--submit" ∷ codes "q" ∷ codes "s.bds" ∷ []) ≡ None
unfolding clap_on_literals
submit_alone = refl

poll_alone : command_of (codes "run" ∷ codes "--poll" ∷ codes "p" ∷ codes "s.bds" ∷ []) ≡ None
unfolding clap_on_literals
poll_alone = refl

log_of_farm : command_of (codes "resume" ∷ codes "--log" ∷ codes "l" ∷ codes "--submit" ∷ codes "q" ∷ codes "--poll" ∷
    codes "p" ∷ codes "f" ∷ []) ≡ None
unfolding clap_on_literals
log_of_farm = refl

log_twice : command_of (codes "run" ∷ codes "--log" ∷ codes "a" ∷ codes "--log" ∷ codes "b" ∷ codes "s" ∷ []) ≡ None
unfolding clap_on_literals
log_twice = refl

replay_one : command_of (codes "replay" ∷ codes "l.log" ∷ []) ≡ Some (Replay (codes "l.log"))
unfolding clap_on_literals
replay_one = refl

replay_two : command_of (codes "replay" ∷ codes "a" ∷ codes "b" ∷ []) ≡ None
unfolding clap_on_literals
replay_two = refl

dry_with_words : command_of (codes "dry" ∷ codes "--cpus" ∷ codes "2" ∷ codes "s.bds" ∷ codes "x" ∷ []) ≡ Some
    (Dry 2 MAX_TICKS (codes "s.bds") (codes "x" ∷ []))
unfolding clap_on_literals
dry_with_words = refl

dry_with_log : command_of (codes "dry" ∷ codes "--log" ∷ codes "l" ∷ codes "s.bds" ∷ []) ≡ None
unfolding clap_on_literals
dry_with_log = refl

test_one : command_of (codes "test" ∷ codes "--ticks=9" ∷ codes "s.bds" ∷ []) ≡ Some (Test 4 9 (codes "s.bds"))
unfolding clap_on_literals
test_one = refl

test_two : command_of (codes "test" ∷ codes "a" ∷ codes "b" ∷ []) ≡ None
unfolding clap_on_literals
test_two = refl
