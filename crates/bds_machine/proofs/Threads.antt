-- A ready thread, and one that has left the machine.
use Rattle.std.proofs.Common.{◌≡◌, ◌≢◌, ◌<◌, ℕ, suc, List, [], ◌∷◌, length, reverse, true, Some, None, IsSome, refl, sym, ap, ◌∙◌, subst, arith}
use Rattle.std.proofs.lemmas.List.{length-map, length-reverse}
use Rattle.bds_code.specs.declared.unit.Unit.{Unit as CodeUnit}
use Rattle.bds_code_frames.specs.Stack.{stack, call_of}
use Rattle.bds_code_frames.specs.declared.frame.Frame.{Frame}
use Rattle.bds_value.specs.declared.ids.Status.TheVariants.{Ready}
use Rattle.bds_code_frames.specs.declared.thread.Thread.{Thread}
use Rattle.bds_verify.specs.Threads.{AreLive, HasParts, IsThread}
use Rattle.bds_verify.specs.Verified.{VerifiedUnit}
use Rattle.bds_machine.specs.declared.point.Point.{Point}
use Rattle.bds_machine.specs.declared.point.Point.TheVariants as point
use Rattle.bds_machine.specs.Answers.{IsLeft, IsAtRest, is_awaited, with_frames}
use Rattle.bds_machine.specs.Calls.{Step}
use Rattle.bds_machine.specs.Running.{ComesTo, rows, stepped}
use Rattle.bds_machine.specs.Weight.{weight}
use Rattle.bds_machine.proofs.Moves.{LeavesWell, Rests}
use Rattle.bds_machine.proofs.Rows.{Reaches, reaches_here, reaches_next, reaches_point, stays_well, left_well, rests_well}
use Rattle.bds_machine.proofs.Strides.{LastRow, all_rows, last_row, reaches_on}

stack-length : (frames : List Frame) → length (stack frames) ≡ length frames
stack-length frames = length-map (reverse frames) call_of ∙ length-reverse frames

no_frames : (frames : List Frame) → stack frames ≡ [] → frames ≡ []
no_frames [] h = refl
no_frames (f ∷ fs) h = absurd (let e : length (f ∷ fs) ≡ 0 = sym (stack-length (f ∷ fs)) ∙ ap length h in omega (arith, e))

pub frames-calls : (frames : List Frame) → frames ≢ [] → stack frames ≢ []
frames-calls frames some h = some (no_frames frames h)

pub calls-frames : (frames : List Frame) → stack frames ≢ [] → frames ≢ []
calls-frames frames some h = some (ap stack h)

-- what a valid thread holds that is ready
pub ready_live : (u : CodeUnit) (t : Thread) → t.status ≡ Ready → IsThread u t → AreLive u t.globals (stack t.frames) × (stack t.frames ≢ [])
ready_live u t ready h =
    let parts : HasParts u Ready t.globals t.frames = subst (λ s. HasParts u s t.globals t.frames) ready h in
    (parts.0, frames-calls t.frames parts.1)

pub live_ready : (u : CodeUnit) (t : Thread) → t.status ≡ Ready → AreLive u t.globals (stack t.frames) → stack t.frames ≢ [] → IsThread u t
live_ready u t ready live some = subst (λ s. HasParts u s t.globals t.frames) (sym ready) (live, calls-frames t.frames some)

-- a ready thread that leaves the machine is one that an instruction has left
pub is_left : (u : CodeUnit) (p : Point) (t : Thread) → t.status ≡ Ready → LeavesWell u p t.globals (stack t.frames) → IsLeft u p t
is_left u p t ready h = record {
  type = h.type;
  awaits = record {
    function = h.function;
    at = h.at;
    f = h.f;
    instruction = h.instruction;
    stands = h.stands;
    there = h.there;
    code = h.code;
    awaits = h.awaits;
    valid = λ v answer frames got. let r = h.valid v answer (stack frames) got in live_ready u (with_frames frames t) ready r.0 r.1;
  };
  call = h.call;
  below = h.below;
  shape = h.shape;
  next = h.next;
  typed = h.typed;
  taken = h.taken;
  asks = h.asks;
}

-- a ready thread that has come to rest
pub is_at_rest : (u : CodeUnit) (p : Point) (t : Thread) → t.status ≡ Ready → Rests u p t.globals (stack t.frames) → IsAtRest u p t
is_at_rest u point.Finished t ready h = (no_frames t.frames h.0, h.1)
is_at_rest u point.Spent t ready h = live_ready u t ready h.0 h.1
is_at_rest u (point.Asks a) t ready h = tt
is_at_rest u (point.Old a b) t ready h = tt
is_at_rest u (point.Task a) t ready h = tt
is_at_rest u (point.Declare a) t ready h = tt
is_at_rest u (point.Goal a) t ready h = tt
is_at_rest u (point.Spawn a b) t ready h = tt
is_at_rest u (point.Wait a) t ready h = tt
is_at_rest u point.WaitAll t ready h = tt
is_at_rest u (point.Save a) t ready h = tt
is_at_rest u (point.Exit a) t ready h = tt
is_at_rest u (point.Stop a b) t ready h = tt

-- a ready thread that rows came to from another
pub record IsOnWay (u : CodeUnit) (from : Thread) (before : ℕ) (to : Thread) (after : ℕ) : Type 0 where
  pub reaches : Reaches u from.globals (stack from.frames) before to.globals (stack to.frames) after
  pub live : AreLive u to.globals (stack to.frames)
  pub some : stack to.frames ≢ []
  pub parent : to.parent ≡ from.parent
  pub status : to.status ≡ from.status
  pub ready : from.status ≡ Ready

pub begins : (u : CodeUnit) (t : Thread) (n : ℕ) → t.status ≡ Ready → IsThread u t → IsOnWay u t n t n
begins u t n ready h =
    let parts = ready_live u t ready h in
    record { reaches = reaches_here u t.globals (stack t.frames) n; live = parts.0; some = parts.1; parent = refl; status = refl; ready = ready }

module _ (u : CodeUnit) (v : VerifiedUnit u) (from : Thread) (before : ℕ) (t : Thread) (n : ℕ) (way : IsOnWay u from before t n) where
  pub goes_on_way : (k : ℕ) → IsSome (rows u k t.globals (stack t.frames) n)
  goes_on_way k = all_rows u v k t.globals (stack t.frames) n way.live way.some

  module _ (new : Thread) (left : ℕ) (parent : new.parent ≡ t.parent) (status : new.status ≡ t.status) (k : ℕ) where
    -- the last of the rows
    abbrev Last : Step → Type 0
    Last y = LastRow u v t.globals (stack t.frames) n y

    last_of : (y : Step) → rows u (suc k) t.globals (stack t.frames) n ≡ Some y → Last y
    last_of y e = last_row u v k t.globals (stack t.frames) n y way.live way.some e

    reaches_last : (y : Step) → (m : Last y) → Reaches u from.globals (stack from.frames) before m.globals m.frames m.ticks
    reaches_last y m = reaches_on u from.globals t.globals m.globals (stack from.frames) (stack t.frames) m.frames before n m.ticks way.reaches m.reaches

    pub stays_on_way : rows u (suc k) t.globals (stack t.frames) n ≡ Some (stepped None new.globals (stack new.frames) left)
        → IsOnWay u from before new left × (weight u (stack new.frames) left < weight u (stack t.frames) n)
    stays_on_way e =
        let y = stepped None new.globals (stack new.frames) left in
        let m = last_of y e in
        let next = stays_well u v m.globals m.frames m.ticks m.live m.some new.globals (stack new.frames) left m.last in
        let fell = next.2 in
        let less = m.less in (
          record {
            reaches = reaches_next u from.globals m.globals new.globals (stack from.frames) m.frames (stack new.frames) before m.ticks left (reaches_last y m) m.last;
            live = next.0;
            some = next.1;
            parent = parent ∙ way.parent;
            status = status ∙ way.status;
            ready = way.ready;
          },
          omega (arith, fell, less),
        )

    pub comes_to : (p : Point) → rows u (suc k) t.globals (stack t.frames) n ≡ Some (stepped (Some p) new.globals (stack new.frames) left) → ComesTo u from before p new left
    comes_to p e =
        let y = stepped (Some p) new.globals (stack new.frames) left in
        let m = last_of y e in
        let far = reaches_point u from.globals m.globals new.globals (stack from.frames) m.frames (stack new.frames) before m.ticks left p (reaches_last y m) m.last in
        record { count = far.0; run = far.1; parent = parent ∙ way.parent; status = status ∙ way.status }

    pub leaves_way : (p : Point) → rows u (suc k) t.globals (stack t.frames) n ≡ Some (stepped (Some p) new.globals (stack new.frames) left) → is_awaited p ≡ true → IsLeft u p new
    leaves_way p e h =
        let m = last_of (stepped (Some p) new.globals (stack new.frames) left) e in
        is_left u p new (status ∙ way.status ∙ way.ready) (left_well u v m.globals m.frames m.ticks m.live m.some p new.globals (stack new.frames) left m.last h)

    pub rests_on_way : (p : Point) → rows u (suc k) t.globals (stack t.frames) n ≡ Some (stepped (Some p) new.globals (stack new.frames) left) → IsAtRest u p new
    rests_on_way p e =
        let m = last_of (stepped (Some p) new.globals (stack new.frames) left) e in
        is_at_rest u p new (status ∙ way.status ∙ way.ready) (rests_well u v m.globals m.frames m.ticks m.live m.some p new.globals (stack new.frames) left m.last)
