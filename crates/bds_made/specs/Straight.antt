-- Terms without loops, calls, switches and `par`: what they do counts no tick.
use Rattle.std.specs.Prelude.{Bool, true, false, ◌&&◌, ◌≡◌, ⊤}
use Rattle.std.specs.List.{AllByRecursion}
use Rattle.bds_meaning.specs.Acts.{Code}
use Rattle.bds_meaning.specs.Run.{Conf}
use Rattle.bds_meaning.specs.Term.{Term, Reduced, Constant, Variable, Compute, Does, Nothing, More, Choose, Then, Block}
use Rattle.bds_meaning.specs.Term.{Inside, Declare, Update, Break, Continue, Return, Error, Exit, Settle, Weigh, Make}
use Rattle.bds_schedule.specs.Configuration.{Life, Ready, Waits, Closes, Ended, Thread}

abbrev pub is_straight : Term → Bool
is_straight (Reduced us) = true
is_straight (Constant v) = true
is_straight (Variable scope x) = true
is_straight (Compute c at a) = is_straight a
is_straight (Does action at a) = is_straight a
is_straight Nothing = true
is_straight (More a b) = is_straight a && is_straight b
is_straight (Choose test a b) = is_straight test && (is_straight a && is_straight b)
is_straight (Then a b) = is_straight a && is_straight b
is_straight (Block a) = is_straight a
is_straight (Inside k a) = is_straight a
is_straight (Declare scope x a) = is_straight a
is_straight (Update at scope x into change a) = is_straight a
is_straight Break = true
is_straight Continue = true
is_straight (Return a) = is_straight a
is_straight (Error at a) = is_straight a
is_straight (Exit a) = is_straight a
is_straight (Settle setting a rest) = is_straight a && is_straight rest
is_straight (Weigh at rest) = is_straight rest
is_straight (Make making at w command) = is_straight command
is_straight _ = false

abbrev pub IsStraight : Code → Type 0
IsStraight c = is_straight c.term ≡ true

-- a thread that goes on has such a term
abbrev pub IsStraightLife : Life Code → Type 0
IsStraightLife (Ready c) = IsStraight c
IsStraightLife (Waits ids c) = IsStraight c
IsStraightLife (Closes ids c) = ⊤
IsStraightLife Ended = ⊤

-- and so have all threads
abbrev pub AreStraight : Conf → Type 0
AreStraight c = AllByRecursion (λ (t : Thread Code). IsStraightLife t.life) c.threads
