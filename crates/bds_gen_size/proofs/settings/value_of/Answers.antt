use Rattle.std.proofs.Common.{◌≡◌, ◌∙◌, ap}
use Rattle.std.specs.Option.{option_map}
use Rattle.bds_check_names.specs.Indexes.{last_place}
use Rattle.bds_gen_size.specs.GivenNames.{given_at}
use Rattle.bds_gen_size.proofs.SetLaws.{set-is}
use Rattle.bds_gen_size.proofs.settings.value_of.Goals as goal

pub returns : goal.returns
returns c =
    let gs = c.args.settings.now in
    let x = c.args.name.now in
    c.value_at.ensures ∙ ap (λ n. option_map (λ g. g.value) (given_at gs n)) (c.place.ensures ∙ ap (last_place x) c.requires) ∙ set-is gs x
