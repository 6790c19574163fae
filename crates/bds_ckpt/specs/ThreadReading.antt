-- Reading threads, with the first fault that is met.
use Rattle.std.specs.Prelude.{ℕ, zero, suc, List, Ok, Err}
use Rattle.bds_value.specs.declared.TheConstants.{MAX_THREADS}
use Rattle.bds_value.specs.declared.faults.FieldFault.TheVariants.{BadTag}
use Rattle.bds_value.specs.declared.ids.Id.{Id}
use Rattle.bds_value.specs.declared.ids.Id.TheVariants as id
use Rattle.bds_value.specs.declared.ids.Status.{Status}
use Rattle.bds_value.specs.declared.ids.Status.TheVariants.{Ready, Waiting, Ended}
use Rattle.bds_value.specs.declared.value.Value.{Value}
use Rattle.bds_value.specs.Reading.{Reader, read_map, byte_at, u32_at, value_at, all_at, list_at, ◌>>=◌}
use Rattle.bds_code_frames.specs.declared.frame.Frame.{Frame}
use Rattle.bds_code_frames.specs.declared.thread.Thread.{Thread}

abbrev pub values_at : Reader (List Value)
values_at = all_at value_at

-- an id behind its tag, which stands at a place
abbrev pub id_of : ℕ → ℕ → Reader Id
id_of at zero i = read_map id.Task (u32_at i)
id_of at (suc zero) i = read_map id.Thread (u32_at i)
id_of at (suc (suc n)) i = Err (BadTag at (suc (suc n)))

abbrev pub id_at : Reader Id
id_at i = byte_at i >>= λ b. id_of i.at b.0 b.1

abbrev pub ids_at : Reader (List Id)
ids_at = all_at id_at

-- a status behind its tag
abbrev pub status_of : ℕ → ℕ → Reader Status
status_of at zero i = Ok (Ready, i)
status_of at (suc zero) i = read_map Waiting (ids_at i)
status_of at (suc (suc zero)) i = Ok (Ended, i)
status_of at (suc (suc (suc n))) i = Err (BadTag at (suc (suc (suc n))))

abbrev pub status_at : Reader Status
status_at i = byte_at i >>= λ b. status_of i.at b.0 b.1

abbrev pub frame_at : Reader Frame
frame_at i =
    u32_at i >>= λ function.
    u32_at function.1 >>= λ place.
    values_at place.1 >>= λ slots.
    values_at slots.1 >>= λ operands.
    Ok (record { function = function.0; place = place.0; slots = slots.0; operands = operands.0 }, operands.1)

abbrev pub frames_at : Reader (List Frame)
frames_at = all_at frame_at

abbrev pub thread_at : Reader Thread
thread_at i =
    u32_at i >>= λ parent.
    status_at parent.1 >>= λ status.
    values_at status.1 >>= λ globals.
    frames_at globals.1 >>= λ frames.
    Ok (record { parent = parent.0; status = status.0; globals = globals.0; frames = frames.0 }, frames.1)

abbrev pub threads_at : Reader (List Thread)
threads_at = list_at MAX_THREADS thread_at
