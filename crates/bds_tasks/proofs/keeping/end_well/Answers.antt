use Rattle.std.proofs.Common.{◌≡◌, ◌-◌, ◌<◌, ◌∙◌, ℕ, List, ap, length, subst, sym}
use Rattle.bds_tasks.specs.Kept.{list_at, lowered, with_keys}
use Rattle.bds_tasks.proofs.KeptLaws.{end_changes, end_new, out_of, out_of_running, users_within, well_kept}
use Rattle.bds_tasks.proofs.PlaceLaws.{lowered_long}
use Rattle.bds_tasks.proofs.ReadLaws.{list_read}
use Rattle.bds_tasks.proofs.UnmetLaws.{counts_long}
use Rattle.bds_tasks.proofs.keeping.end_well.Goals as goal

pub take_out-requires : goal.take_out-requires
take_out-requires c = (out_of_running c.args.n c.args.tasks.now c.args.schedule.now c.requires.behind).0

pub put_keys-requires-clause-counts : goal.put_keys-requires-clause-counts
put_keys-requires-clause-counts c =
    let s = c.args.schedule.now in
    let kept = c.requires.behind.kept in
    ap (λ (ns : List ℕ). length ns) (c.as_slice-2.ensures ∙ c.lower.ensures)
    ∙ lowered_long c.as_slice-users.result.now s.unmet
    ∙ ap (λ (ns : List ℕ). length ns) kept.counted
    ∙ counts_long c.requires.behind.before
    ∙ sym (end_changes c.args.n c.args.tasks.now s c.requires.behind).long

pub returns : goal.returns
returns c =
    let n = c.args.n in
    let now = c.args.tasks.now in
    let s = c.args.schedule.now in
    let behind = c.requires.behind in
    let kept = well_kept n now s behind c.requires.good in
    let all : List (List ℕ) = s.needed_by in
    let read : c.index-as_slice-n.result ≡ list_at c.as_slice.result.now (n - 1) = list_read c.as_slice.result.now
    (n - 1) c.index-as_slice-n.result (subst (λ (us : List (List ℕ)). n - 1 < length us) (sym c.as_slice.ensures)
    (users_within n now s behind)) c.index-as_slice-n.is in
    let users : c.as_slice-users.result.now ≡ list_at all (n - 1) =
    c.as_slice-users.ensures ∙ read ∙ ap (λ (us : List (List ℕ)). list_at us (n - 1)) c.as_slice.ensures in
    let less : c.lower.new.counts ≡ lowered (list_at all (n - 1)) s.unmet =
    c.lower.ensures ∙ ap (λ (ms : List ℕ). lowered ms s.unmet) users in
    record {
      counted = less ∙ kept.counted;
      users = kept.users;
      keyed = c.put_keys.ensures
          ∙ ap (λ (cs : List ℕ). with_keys now cs c.as_slice-users.result.now s.keys) (c.as_slice-2.ensures ∙ less)
          ∙ ap (λ (ms : List ℕ). with_keys now (lowered (list_at all (n - 1)) s.unmet) ms s.keys) users
          ∙ kept.keyed;
      going = c.take_out.ensures ∙ kept.going;
      summed = out_of c.args.tasks.now n (end_new n now s behind) c.without-schedule.result s.busy
          (end_changes n now s behind).here c.without-schedule.ensures ∙ kept.summed;
      lost = kept.lost;
    }
