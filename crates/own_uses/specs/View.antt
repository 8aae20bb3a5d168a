-- What the data of this crate stands for.
use Rattle.own_tree.specs.TypedSource.{Program}
use Rattle.own_tree.specs.TypedView.{program_view}
use Rattle.own_paths.specs.Ops.{Use, as_value, as_borrow, as_inout}
use Rattle.own_shapes.specs.Types.{Types}
use Rattle.own_table.specs.Table.{types_in}
use Rattle.own_uses.specs.declared.usage.Use as used
use Rattle.own_uses.specs.declared.usage.Use.TheVariants as use_of

abbrev pub use_view : used.Use → Use
use_view use_of.Value = as_value
use_view use_of.Borrow = as_borrow
use_view use_of.Inout = as_inout
