use Rattle.std.proofs.Common.{◌≡◌, ◌≤◌, ◌<◌, ◌+◌, ℕ, length, take, get_or, sym, subst, refl, arith}
use Rattle.bds_check_typing.specs.Files.{folder, is_slash}
use Rattle.bds_front.proofs.Folders.{folder-step}
use Rattle.bds_front.proofs.paths.folder_length.Goals as goal

pub loop-i-preserved : goal.loop-i-preserved
loop-i-preserved c =
    let path = c.args.path.now in
    let i = c.loop-i.i in
    let below : i < length path = omega arith in
    let b : ℕ = get_or path i 0 in
    let P : ℕ → Type 0 = λ e. (e ≤ i + 1) × (take e path ≡ folder (take (i + 1) path)) in
    subst P (sym c.end_behind-end.ensures) (folder-step path i b 0 c.loop-i.end (is_slash b) refl below refl c.loop-i.invariant.0 c.loop-i.invariant.1)
