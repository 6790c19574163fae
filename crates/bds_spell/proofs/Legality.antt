-- The test of expressions is that of their shape and nesting.
use Rattle.std.proofs.Common.{◌≡◌, ℕ, ◌+◌, false, refl, sym, ap, ◌∙◌, rules}
use Rattle.bds_value.specs.declared.value.Ty.{Ty, out-Ty}
use Rattle.bds_value.specs.declared.value.Ty.TheVariants as ty
use Rattle.bds_value.proofs.Induction.{ty_induction}
use Rattle.bds_value.specs.Types.{is_void_at}
use Rattle.bds_tree.specs.Tree.{Tree, FormTree, Trees, TreePairs, node, number, text, truth, name, call, group, list, mapping, item, key, method, prefix, binary, choice, dependency, none, more, no_pairs, more_pairs}
use Rattle.bds_tree.specs.Shape.{level_of, level, follow, Shaped, IsShapedForm, AreShaped, ArePairsShaped, height, form_height, heights, pair_heights}
use Rattle.bds_spell.specs.Fits.{below, fits, form_fits, all_fit, pairs_fit}
use Rattle.bds_spell.proofs.Fitting.{Tells, Fitting, is_zero, is_at_most, is_less, holds, also, with, three, pair_and_one, four, six, one_below}

abbrev VoidTold : Ty → Type 0
VoidTold t = Tells (is_void_at (out-Ty t)) (t ≡ ty.Void)

not_void : (t : Ty) → is_void_at (out-Ty t) ≡ false → VoidTold t
not_void t other = record { sound = λ h. search (rules, sym h ∙ other); complete = λ h. search (rules, sym (ap (λ u. is_void_at (out-Ty u)) h ∙ ap is_void_at ty.outs-Void) ∙ other) }

pub is_void_told : (t : Ty) → VoidTold t
is_void_told = ty_induction VoidTold
    (not_void ty.Bool (ap is_void_at ty.outs-Bool))
    (not_void ty.Int (ap is_void_at ty.outs-Int))
    (not_void ty.Text (ap is_void_at ty.outs-Text))
    (λ t is. not_void (ty.List t) (ap is_void_at (ty.outs-List t)))
    (λ t is. not_void (ty.Map t) (ap is_void_at (ty.outs-Map t)))
    (record { sound = λ h. refl; complete = λ h. ap is_void_at ty.outs-Void })

mutual
  pub fits_told : (e : Tree) (n : ℕ) → Fitting (fits e n) (Shaped e) (height e) n
  fits_told (node at t f) n = three (also (is_zero at.file) (also (is_void_told t) (form_told f n)))

  form_told : (f : FormTree) (n : ℕ) → Fitting (form_fits f n) (IsShapedForm f) (form_height f) n
  form_told (number v) n = holds
  form_told (text ps) n = holds
  form_told (truth b) n = holds
  form_told (name m) n = holds
  form_told (call m es) n = all_told es n
  form_told (group e) n = one_below (fits e) (Shaped e) (height e) (fits_told e) n
  form_told (list es) n = all_told es n
  form_told (mapping ps) n = pairs_told ps n
  form_told (item a i) n = three (also (is_at_most 10 (follow a)) (with (one_below (fits a) (Shaped a) (height a) (fits_told a) n) (one_below (fits i) (Shaped i) (height i) (fits_told i) n)))
  form_told (key a k) n = three (also (is_at_most 10 (follow a)) (with (one_below (fits a) (Shaped a) (height a) (fits_told a) n) (one_below (fits k) (Shaped k) (height k) (fits_told k) n)))
  form_told (method a m es) n = three (also (is_at_most 10 (follow a)) (with (one_below (fits a) (Shaped a) (height a) (fits_told a) n) (all_told es n)))
  form_told (prefix o a) n = also (is_at_most 9 (level a)) (one_below (fits a) (Shaped a) (height a) (fits_told a) n)
  form_told (binary a o b) n = four (also (is_at_most (level_of o) (follow a)) (also (is_less (level_of o) (level b)) (with (one_below (fits a) (Shaped a) (height a) (fits_told a) n) (one_below (fits b) (Shaped b) (height b) (fits_told b) n))))
  form_told (choice c a b) n = six (also (is_at_most 2 (follow c)) (also (is_at_most 2 (level a)) (also (is_at_most 2 (level b)) (with (one_below (fits c) (Shaped c) (height c) (fits_told c) n) (with (one_below (fits a) (Shaped a) (height a) (fits_told a) n) (one_below (fits b) (Shaped b) (height b) (fits_told b) n))))))
  form_told (dependency a b) n = four (also (is_at_most 1 (follow a)) (also (is_at_most 2 (level b)) (with (one_below (fits a) (Shaped a) (height a) (fits_told a) n) (one_below (fits b) (Shaped b) (height b) (fits_told b) n))))

  pub all_told : (es : Trees) (n : ℕ) → Fitting (all_fit es n) (AreShaped es) (heights es) n
  all_told none n = holds
  all_told (more e es) n = with (one_below (fits e) (Shaped e) (height e) (fits_told e) n) (all_told es n)

  pairs_told : (ps : TreePairs) (n : ℕ) → Fitting (pairs_fit ps n) (ArePairsShaped ps) (pair_heights ps) n
  pairs_told no_pairs n = holds
  pairs_told (more_pairs k v ps) n = pair_and_one (with (with (one_below (fits k) (Shaped k) (height k) (fits_told k) n) (one_below (fits v) (Shaped v) (height v) (fits_told v) n)) (pairs_told ps n))

pub below_told : (e : Tree) (n : ℕ) → Fitting (below (fits e) n) (Shaped e) (height e + 1) n
below_told e n = one_below (fits e) (Shaped e) (height e) (fits_told e) n
