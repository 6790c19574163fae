-- A reply by which something was answered may stand in a log.
use Rattle.std.proofs.Common.{List, [], ◌∷◌}
use Rattle.std.specs.List.{All}
use Rattle.std.proofs.lemmas.List.Elements.{All-nil, All-cons, All-head, All-tail}
use Rattle.bds_host.specs.declared.asks.Reply.{Reply}
use Rattle.bds_host.specs.declared.asks.Reply.TheVariants.{Bytes, Missing, Stamp, Done, SysDone, Started, Run, Ended}
use Rattle.bds_host.specs.declared.asks.Reply.TheVariants.{Fault, NoRoom}
use Rattle.bds_replay.specs.Log.{IsFieldReply, IsGiven, ReplyFits}

one_given : (r : Reply) → ReplyFits r → IsGiven r → IsFieldReply r
one_given (Bytes text) h given = h
one_given Missing h given = h
one_given (Stamp there size time) h given = h
one_given Done h given = h
one_given (SysDone code out) h given = h
one_given Started h given = h
one_given (Run k) h given = h
one_given (Ended task code) h given = h
one_given Fault h given = absurd (cc given)
one_given NoRoom h given = absurd (cc given)

pub all_given : (rs : List Reply) → All ReplyFits rs → All IsGiven rs → All IsFieldReply rs
all_given [] h given = All-nil IsFieldReply
all_given (r ∷ rs) h given =
    All-cons IsFieldReply r rs (one_given r (All-head ReplyFits r rs h) (All-head IsGiven r rs given))
    (all_given rs (All-tail ReplyFits r rs h) (All-tail IsGiven r rs given))
