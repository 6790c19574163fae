use Rattle.std.proofs.Common.{◌≡◌, ◌<◌, ◌∙◌, ℕ, List, suc, ap, arith, length, subst, sym}
use Rattle.std.specs.Option.{option_map}
use Rattle.bds_levels.specs.Least.{NEVER, place}
use Rattle.bds_value.specs.declared.TheConstants.{MAX_TASKS}
use Rattle.bds_tasks.specs.Kept.{busy, keys, most_for, used_of}
use Rattle.bds_tasks.specs.Starts.{in_use}
use Rattle.bds_tasks.proofs.ReadLaws.{place_short}
use Rattle.bds_tasks.proofs.StartLaws.{most_less, most_same, starts_by_keys}
use Rattle.bds_tasks.proofs.UnmetLaws.{keys_long}
use Rattle.bds_tasks.proofs.starts.startable_by_keys.Goals as goal

pub place-requires : goal.place-requires
place-requires c = subst (λ (m : ℕ). m < NEVER) (sym c.most_for.ensures)
    (most_less c.args.cpus c.used_of-used.result c.ranges.cpus.fits)

pub number_at-requires : goal.number_at-requires
number_at-requires c =
    let ts = c.args.tasks.now in
    let few = c.requires.are.count in
    let long = ap (λ (ks : List ℕ). length ks) c.requires.kept.keyed ∙ keys_long ts in
    place_short c.most_for.result c.args.schedule.now.keys c.place.result MAX_TASKS c.place.ensures
    (omega (arith, few, long))

pub returns : goal.returns
returns c =
    let ts = c.args.tasks.now in
    let used : c.used_of-used.result ≡ used_of c.args.cpus (busy ts) =
    c.used_of-used.ensures ∙ ap (used_of c.args.cpus) c.requires.kept.summed in
    let most : c.most_for.result ≡ most_for c.args.cpus (in_use c.args.cpus ts) =
    c.most_for.ensures ∙ ap (most_for c.args.cpus) used ∙ most_same c.args.cpus ts in
    let at : c.place.result ≡ place (most_for c.args.cpus (in_use c.args.cpus ts)) (keys ts) = c.place.ensures
    ∙ ap (λ m. place m c.args.schedule.now.keys) most
    ∙ ap (place (most_for c.args.cpus (in_use c.args.cpus ts))) c.requires.kept.keyed in
    c.number_at.ensures ∙ ap (option_map suc) at ∙ sym (starts_by_keys c.args.cpus ts c.ranges.cpus.fits c.requires.are)
