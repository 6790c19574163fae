-- A configuration of the source has one next step: only the bytes of a saved state are open.
use Rattle.std.proofs.Common.{ℕ, List, subst}
use Rattle.bds_schedule.specs.Determined.{IsSameStep}
use Rattle.bds_meaning.specs.Determined.{HasOneNext}
use Rattle.bds_meaning.specs.Run.{Program, Conf, source_move}
use Rattle.bds_meaning.specs.Threads.{thread_step}
use Rattle.bds_schedule.proofs.OneNext.{same_move}

pub same_source_move : (program : Program) (bytes bytes' : List ℕ) (c : Conf) → IsSameStep (source_move program bytes c) (source_move program bytes' c)
same_source_move program bytes bytes' c = same_move program.files (λ saved. bytes) (λ saved. bytes') (thread_step program.functions) c

pub one_next : (program : Program) → HasOneNext program
one_next program c s t (bytes, is) (bytes', is') =
    subst (λ u. IsSameStep u t) is (subst (λ u. IsSameStep (source_move program bytes c) u) is' (same_source_move program bytes bytes' c))
