use Rattle.bds_app_fmt.proofs.Formats.{tokens_long, tokens_lost, tokens_printed}
use Rattle.bds_app_fmt.proofs.formatting.print_canonical.Goals as goal

pub returns-in-Ok : goal.returns-in-Ok
returns-in-Ok g c = λ before has. tokens_printed c.args.path before _ _ c.args.lexed.now _ c.print.result has c.in-Ok.ensures.value c.print.ensures

pub returns-in-Err-TooLong : goal.returns-in-Err-TooLong
returns-in-Err-TooLong g c = λ before has.
    tokens_long c.args.path before _ _ c.args.lexed.now c.tell.result has (rw c.in-Err-TooLong.field-0-is at c.in-Err-TooLong.ensures.value) c.tell.ensures

pub returns-in-Err-NoMemory : goal.returns-in-Err-NoMemory
returns-in-Err-NoMemory g c = λ before has. tokens_lost c.args.path before _ c.args.lexed.now has
