-- `Brand`, which stands for a key in code, as a call passes it: at the key that the proof of the caller picks.
use mathlib.Core.Path.{refl}
use mathlib.Core.List.{[]}
use mir.Syntax.{Dict, tnil, dnil, ty_struct, impl}
use denote.Exit.{no}
use denote.RattleType.{RattleType}
use denote.Param.{arg}
use denote.Param.Laws.{Laws, arg_laws}
use Rattle.std.specs.contracts.marker.Brand as Brand
use Rattle.std.proofs.marker.Brand.TheLaws as brand

-- its row
abbrev pub marker : RattleType
marker = arg (ty_struct [] tnil) no Brand.the_row

-- what the row keeps
pub marker_laws : Laws marker
marker_laws = arg_laws (ty_struct [] tnil) no Brand.the_row brand.the_row_laws refl

-- its implementation of `Key`
abbrev pub dict : Dict
dict = impl [] tnil dnil
