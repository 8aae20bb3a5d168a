-- What the code's columns stand for.
use Rattle.std.specs.Prelude.{◌≡◌, ℕ, Bool, true, slice_get, List, [], ◌∷◌, map, Option, Some, None, Vec}
use Rattle.std.specs.List.{AllByRecursion}
use Rattle.std.specs.Borrow.{Bor}
use Rattle.own_tree.specs.declared.pattern.TPattern.{TPattern}
use Rattle.own_tree.specs.TypedSource.{TPat, any, TPats}
use Rattle.own_tree.specs.TypedView.{pattern_view, pats_of}
use Rattle.own_tree.specs.declared.place.Ty.{Ty}
use Rattle.own_table.specs.declared.table.TypeTable.{TypeTable}
use Rattle.own_shapes.specs.declared.info.CaseInfo.{CaseInfo}
use Rattle.own_table.specs.Table.{IsTypeIn, types_in}
use Rattle.own_shapes.specs.Types.{Shape, shapes_of}
use Rattle.own_match.specs.declared.column.Column.{Column as Held}
use Rattle.own_match.specs.declared.head.Head.TheVariants as head
use Rattle.own_match.specs.Search.{Column, Later, narrowed, gathered, count, gap, gap_in_payloads, gap_columns}
use Rattle.own_match.specs.First.{form_before}

-- what a pattern says at a place, where it says something
abbrev pub said : Option (Bor TPattern) → TPat
said None = any
said (Some p) = pattern_view p.now

abbrev pub said_all : List (Option (Bor TPattern)) → List TPat
said_all cells = map said cells

abbrev pub column_held : (Ty → Shape) → Held → Column
column_held shape c = record { shape = shape c.ty; cells = said_all c.cells.items }

abbrev pub columns_held : (Ty → Shape) → List Held → List Column
columns_held shape cs = map (column_held shape) cs

-- forms that were found
abbrev pub forms_held : {Z : Type 0} → Option (Vec TPattern Z) → Option TPats
forms_held None = None
forms_held (Some fs) = Some (pats_of (map pattern_view fs.items))

-- each column is of a type of the table
abbrev pub AreTyped : TypeTable → List Held → Type 0
AreTyped table cs = AllByRecursion (λ c. IsTypeIn table c.ty) cs

-- it is that case of the enum
abbrev pub IsCase : TypeTable → Ty → ℕ → CaseInfo → Type 0
IsCase table ty k c = ((types_in table).is_enum ty ≡ true) × (slice_get ((types_in table).cases ty) k ≡ Some c)

-- each of these types is one of the table
abbrev pub AreTypes : TypeTable → List Ty → Type 0
AreTypes table tys = AllByRecursion (λ ty. IsTypeIn table ty) tys

abbrev pub form_held : Option TPattern → Option TPat
form_held None = None
form_held (Some f) = Some (pattern_view f)

-- forms that were found, before those that follow
abbrev pub forms_and : List TPattern → Option TPats → Option TPats
forms_and [] later = later
forms_and (f ∷ fs) later = form_before (Some (pattern_view f)) (forms_and fs later)

-- what is missing at the columns that come next
abbrev pub rest_of : (Ty → Shape) → List Held → Later
rest_of shape rest = gap_columns (columns_held shape rest)

-- at a column and those
abbrev pub gap_from : (Ty → Shape) → Held → List Held → List Bool → Option TPats
gap_from shape c rest live = gap (shape c.ty) (said_all c.cells.items) (rest_of shape rest) live

-- at a case of the column's type, and those
abbrev pub gap_in_case : (Ty → Shape) → ℕ → CaseInfo → Held → List Held → List Bool → Option TPats
gap_in_case shape k info c rest live =
    let ss = shapes_of shape info.payloads in
    gathered k (count ss) (gap_in_payloads ss k 0 (said_all c.cells.items) (rest_of shape rest) (narrowed (head.Case k) live (said_all c.cells.items)))
