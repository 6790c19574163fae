-- For private contracts alone: before anything of a script is written, and what is made of all its parts.
use Rattle.std.specs.Prelude.{◌≡◌, ℕ, true, List, []}
use Rattle.bds_value.specs.declared.value.At.{At}
use Rattle.bds_value.specs.declared.value.Ty.{Ty}
use Rattle.bds_value.specs.declared.value.Ty.TheVariants as ty
use Rattle.bds_code.specs.declared.unit.Function.{Function}
use Rattle.bds_code.specs.declared.unit.Unit.{Unit as CodeUnit}
use Rattle.bds_tree.specs.StmtTree.{PartTree}
use Rattle.bds_check_size.specs.ScriptSize.{Settings}
use Rattle.bds_gen_stmt.specs.UnitCode.{first_scope, first_par, unit_of}
use Rattle.bds_gen_stmt_code.specs.Bodies.{begun}
use Rattle.bds_gen_stmt_code.specs.declared.body.Unfinished.{Unfinished}

abbrev pub begins : List PartTree → Unfinished
begins ps = record {
  body = record { function = begun [] [] ty.Void; scope = first_scope ps; first = 0; at_top = true; leaps = [] };
  finished = [];
  first = first_par ps;
}

abbrev pub unit_with : List (List ℕ) → List Ty → List Function → CodeUnit
unit_with files globals functions = record { files = files; globals = globals; functions = functions }

-- these types of globals and these functions are those of the unit of a script with these parts, whatever its files
abbrev pub AreParts : Settings → List (List ℕ) → At → List PartTree → List Ty → List Function → Type 0
AreParts ss args at ps globals functions = (files : List (List ℕ)) → unit_with files globals functions ≡ unit_of ss args (record { at = at; files = files; parts = ps })
