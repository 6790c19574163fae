-- A reply is the one that an answer of the system gives.
use Rattle.std.proofs.Common.{◌≡◌, Option, Some, Result, Ok, Err, IfOk}
use Rattle.bds_host.specs.declared.asks.Ask.{Ask}
use Rattle.bds_host.specs.declared.asks.Reply.{Reply}
use Rattle.bds_exec.specs.Replies.{GivesReply}
use Rattle.bds_exec.specs.System.{Call, AnswerTo, call_of, IsReply, Replies}

-- what a call gives, where it is a reply
pub reply-given : {E : Type 0} (o : Option Reply) (r : Result Reply E) → GivesReply o r → IfOk r (λ reply. o ≡ Some reply)
reply-given o (Ok reply) gives = gives
reply-given o (Err e) gives = tt

-- the answer is one of the system's
pub with_answer : {E : Type 0} (answers : (call : Call) → AnswerTo call → Type 0) (ask : Ask) (answer : AnswerTo (call_of ask)) (r : Result Reply E) → answers (call_of ask) answer → IfOk r (IsReply answers ask answer) → IfOk r (Replies answers ask)
with_answer answers ask answer (Ok reply) known gives = (answer, known, gives)
with_answer answers ask answer (Err e) known gives = tt

pub ruleset answered = (reply-given, with_answer)
