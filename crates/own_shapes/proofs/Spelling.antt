-- How worked texts are written as typed trees by hand. The span n is one byte long.
use Rattle.std.specs.Prelude.{ℕ, suc, pos, Bool, true, List, [], ◌∷◌, None, codes}
use Rattle.own_tree.specs.declared.op.Op.{Op}
use Rattle.own_tree.specs.declared.op.OpKind.{OpKind}
use Rattle.own_tree.specs.declared.place.Binding.{Binding}
use Rattle.own_tree.specs.declared.place.Mode.{Mode}
use Rattle.own_tree.specs.declared.place.Place.{Place}
use Rattle.own_tree.specs.declared.place.Ty.{Ty}
use Rattle.own_tree.specs.declared.place.Ty.TheVariants as type
use Rattle.own_tree.specs.declared.span.Span.{Span}
use Rattle.own_tree.specs.declared.tree.CaseItem.{CaseItem}
use Rattle.own_tree.specs.declared.tree.Keyword.{Keyword}
use Rattle.own_tree.specs.declared.tree.Keyword.TheVariants as keyword
use Rattle.own_tree.specs.declared.tree.Name.{Name}
use Rattle.own_tree.specs.declared.typed.At.{At}
use Rattle.own_tree.specs.declared.typed.BodyKind.{BodyKind}
use Rattle.own_tree.specs.declared.typed.Passing.TheVariants as passing
use Rattle.own_tree.specs.declared.typed.Target.TheVariants as target
use Rattle.own_tree.specs.declared.typed.TypedPath.{TypedPath}
use Rattle.own_tree.specs.Source.{Decl, Member, struct_of, field, deinitializer, no_stms as parsed_nothing, Blk as ParsedBlock, block as parsed_block}
use Rattle.own_tree.specs.TypedSource.{TExp, number, path, call, TExps, no_exps, exp, TStm, evaluate, TStms, no_stms, stm, TBlk, block, TBody, Program}
use Rattle.own_shapes.specs.Types.{Types, declared_types, types_declared}

-- ---- spelling

abbrev pub sp : ℕ → Span
sp n = record { start = n; end = suc n }

abbrev pub at : ℕ → Ty → At
at n ty = record { id = n; span = sp n; ty = ty }

abbrev pub node : ℕ → At
node n = at n type.Unit

abbrev pub named : ℕ → List ℕ → Name
named n bytes = record { text = bytes; span = sp n }

abbrev pub file_ : Ty
file_ = type.Named 0

abbrev pub in_place : ℕ → List ℕ → Place
in_place x ks = record { binding = x; fields = ks }

abbrev pub path_at : ℕ → Ty → ℕ → List ℕ → TypedPath
path_at n ty x ks = record { at = at n ty; place = in_place x ks }

abbrev pub p : ℕ → Ty → ℕ → List ℕ → TExp
p n ty x ks = path (path_at n ty x ks)

abbrev pub num : TExp
num = number (at 0 type.Int) (pos 1)

abbrev pub exps : List TExp → TExps
exps [] = no_exps
exps (e ∷ es) = exp e (exps es)

abbrev pub stms : List TStm → TStms
stms [] = no_stms
stms (s ∷ ss) = stm s (stms ss)

-- from an opening to a closing brace
abbrev pub blk : ℕ → ℕ → List TStm → TBlk
blk from to ss = block (record { id = from; span = record { start = from; end = suc to }; ty = type.Unit }) (stms ss)

abbrev pub bound : ℕ → List ℕ → Ty → Mode → ℕ → Binding
bound n name ty m k = record { name = name; ty = ty; mode = m; span = sp n; body = k }

abbrev pub body_of : BodyKind → List ℕ → Ty → Bool → ℕ → ℕ → TBlk → TBody
body_of k params result discards from to b =
    record { kind = k; owner = None; params = params; result = result; discards = discards; span = sp from; close = sp to; block = b }

abbrev pub program_of : List TBody → List Binding → Program
program_of bodies bindings = record { bodies = bodies; bindings = bindings; signatures = []; main = 0; tokens = 0 }

abbrev pub do_ : ℕ → TExp → TStm
do_ n e = evaluate (node n) e

abbrev pub new : ℕ → TExp
new n = call (at n file_) (target.Init 1) (exps (num ∷ [])) (passing.ByValue ∷ [])

abbrev pub take_ : ℕ → TExp → TExp
take_ n e = call (node n) (target.Function 9) (exps (e ∷ [])) (passing.Consume ∷ [])

abbrev pub write_ : ℕ → TExp → TExp
write_ n e = call (node n) (target.Method 2) (exps (e ∷ num ∷ [])) (passing.Borrow ∷ passing.ByValue ∷ [])

abbrev pub op_at : OpKind → Place → ℕ → ℕ → Op
op_at k place n id = record { kind = k; place = place; span = sp n; node = id }

abbrev pub no_block : ParsedBlock
no_block = parsed_block (sp 0) parsed_nothing

-- `struct File: ~Copyable` with `let fd: Int` and a `deinit`
abbrev pub file_decl : Decl
file_decl =
    struct_of (sp 101) (named 108 (codes "File")) true
    (
    field (record { span = sp 203; keyword = keyword.Let; name = named 207 (codes "fd"); written = named 211 (codes "Int") })
    ∷ deinitializer (sp 1403) no_block ∷ []
    )

abbrev pub with_types : List Decl → Types
with_types ds = types_declared (declared_types ds)

abbrev pub file_types : Types
file_types = with_types (file_decl ∷ [])

abbrev pub one_case : List ℕ → List Name → CaseItem
one_case name payloads = record { span = sp 0; name = named 0 name; payloads = payloads }

abbrev pub property : Keyword → List ℕ → List ℕ → Member
property word name ty = field (record { span = sp 0; keyword = word; name = named 0 name; written = named 0 ty })
