use Rattle.std.proofs.Common.{◌<◌, length, refl}
use Rattle.bds_verify.proofs.Accepts.{at_item, whole-rises}
use Rattle.bds_verify.proofs.ShapeLaws.{only_list}
use Rattle.bds_verify.proofs.verified.shape_of.Goals as goal

pub shape_in-requires-clause-rising : goal.shape_in-requires-clause-rising
shape_in-requires-clause-rising c =
    let f = c.index-as_slice-function.result in
    let u = c.args.unit.now in
    let within : c.args.function < length c.as_slice.result.now = rw c.as_slice.ensures c.requires.there in
    let is = at_item u.functions c.as_slice.result.now c.args.function c.args.function f c.as_slice.ensures refl within
    c.index-as_slice-function.is in
    whole-rises u f (c.requires.verified.functions c.args.function f is).whole

pub returns : goal.returns
returns c =
    let f = c.index-as_slice-function.result in
    let u = c.args.unit.now in
    let within : c.args.function < length c.as_slice.result.now = rw c.as_slice.ensures c.requires.there in
    let is = at_item u.functions c.as_slice.result.now c.args.function c.args.function f c.as_slice.ensures refl within
    c.index-as_slice-function.is in
    only_list u c.args.function c.args.place f c.shape_in.result is (c.requires.place f is) c.shape_in.ensures
