-- Quick rows of one call, one after the other.
use Rattle.std.proofs.Common.{◌≡◌, ◌≢◌, ◌<◌, ℕ, List, [], ◌∷◌, Some, None, IsSome, sym, ◌∙◌, subst, arith}
use Rattle.bds_value.specs.declared.value.Value.{Value}
use Rattle.bds_code.specs.declared.unit.Unit.{Unit as CodeUnit}
use Rattle.bds_code_frames.specs.Stack.{Stack, stack, place_of}
use Rattle.bds_code_frames.specs.declared.frame.Frame.{Frame}
use Rattle.bds_code_frames.specs.declared.thread.Thread.{Thread}
use Rattle.bds_verify.specs.Threads.{AreLive}
use Rattle.bds_verify.specs.Verified.{VerifiedUnit}
use Rattle.bds_machine.specs.Calls.{On}
use Rattle.bds_machine.specs.Running.{rows, Turned}
use Rattle.bds_machine.specs.Stretches.{Came}
use Rattle.bds_machine.specs.Weight.{weight}
use Rattle.bds_machine.proofs.Rows.{reaches_here, reaches_next, stays_well}
use Rattle.bds_machine.proofs.Strides.{all_rows, last_row, reaches_on}
use Rattle.bds_machine.proofs.Threads.{IsOnWay}

pub some_calls : (s : Stack) (p : ℕ × ℕ) → place_of s ≡ Some p → s ≢ []
some_calls [] p e h = absurd (cc)
some_calls (c ∷ below) p e h = absurd (cc)

pub came_here : (u : CodeUnit) (g : List Value) (s : Stack) (t : ℕ) → AreLive u g s → s ≢ [] → Came u g s t g s t
came_here u g s t live some = record { reaches = reaches_here u g s t; live = live; some = some; less = omega arith }

module _ (u : CodeUnit) (v : VerifiedUnit u) (g g1 : List Value) (s s1 : Stack) (t t1 : ℕ) (way : Came u g s t g1 s1 t1)
  where
    pub came_fine : (n : ℕ) → IsSome (rows u n g1 s1 t1)
    came_fine n = all_rows u v n g1 s1 t1 way.live way.some

    pub came_on : (g2 : List Value) (s2 : Stack) (t2 : ℕ) → Turned u g1 s1 t1 None g2 s2 t2
        → Came u g s t g2 s2 t2 × (weight u s2 t2 < weight u s1 t1) × (weight u s2 t2 < weight u s t)
    came_on g2 s2 t2 turned =
        let m = last_row u v turned.0 g1 s1 t1 (On g2 s2 t2) way.live way.some turned.1 in
        let next = stays_well u v m.globals m.frames m.ticks m.live m.some g2 s2 t2 m.last in
        let fell = next.2 in
        let less = m.less in
        let before = way.less in (
          record {
            reaches = reaches_next u g m.globals g2 s m.frames s2 t m.ticks t2
                (reaches_on u g g1 m.globals s s1 m.frames t t1 m.ticks way.reaches m.reaches) m.last;
            live = next.0;
            some = next.1;
            less = omega (arith, fell, less, before);
          },
          omega (arith, fell, less),
          omega (arith, fell, less, before),
        )

-- where a row wasn't taken all is as before
pub came_kept : (u : CodeUnit) (g g1 g2 : List Value) (s : Stack) (fs1 fs2 : List Frame) (t t1 t2 : ℕ)
    → (g2 ≡ g1) × (fs2 ≡ fs1) × (t2 ≡ t1) → Came u g s t g1 (stack fs1) t1 → Came u g s t g2 (stack fs2) t2
came_kept u g g1 g2 s fs1 fs2 t t1 t2 same way =
    subst (λ x. Came u g s t x (stack fs2) t2) (sym same.0)
    (subst (λ x. Came u g s t g1 (stack x) t2) (sym same.1)
    (subst (λ x. Came u g s t g1 (stack fs1) x) (sym same.2) way))

-- a thread on its way goes on by quick rows
module _ (u : CodeUnit) (from : Thread) (before : ℕ) (t : Thread) (n : ℕ) (way : IsOnWay u from before t n)
    (new : Thread) (left : ℕ) where
  pub hurries_on_way : new.parent ≡ t.parent → new.status ≡ t.status
      → Came u t.globals (stack t.frames) n new.globals (stack new.frames) left → IsOnWay u from before new left
  hurries_on_way parent status came = record {
    reaches = reaches_on u from.globals t.globals new.globals (stack from.frames) (stack t.frames) (stack new.frames)
        before n left way.reaches came.reaches;
    live = came.live;
    some = came.some;
    parent = parent ∙ way.parent;
    status = status ∙ way.status;
    ready = way.ready;
  }
