-- How worked programs are written as typed trees, and the program text that most of them begin with. A node has its
-- own number, which stands for its place in the text too.
use Rattle.std.specs.Prelude.{ℕ, suc, ℤ, pos, true, false, List, [], ◌∷◌, ◌++◌, Option, Some, None, codes}
use Rattle.own_tree.specs.declared.place.Binding.{Binding}
use Rattle.own_tree.specs.declared.place.Mode.{Mode}
use Rattle.own_tree.specs.declared.place.Mode.TheVariants as mode
use Rattle.own_tree.specs.declared.place.Place.{Place}
use Rattle.own_tree.specs.declared.place.Ty.{Ty}
use Rattle.own_tree.specs.declared.place.Ty.TheVariants as type
use Rattle.own_tree.specs.declared.span.Span.{Span}
use Rattle.own_tree.specs.declared.tree.Keyword.TheVariants as keyword
use Rattle.own_tree.specs.declared.tree.Name.{Name}
use Rattle.own_tree.specs.declared.tree.CaseItem.{CaseItem}
use Rattle.own_tree.specs.declared.typed.At.{At}
use Rattle.own_tree.specs.declared.typed.BodyKind.{BodyKind}
use Rattle.own_tree.specs.declared.typed.BodyKind.TheVariants as body
use Rattle.own_tree.specs.declared.typed.Comparison.TheVariants as compare
use Rattle.own_tree.specs.declared.typed.Passing.{Passing}
use Rattle.own_tree.specs.declared.typed.Passing.TheVariants as passing
use Rattle.own_tree.specs.declared.typed.Target.TheVariants as target
use Rattle.own_tree.specs.declared.typed.TypedPath.{TypedPath}
use Rattle.own_tree.specs.Source.{Member, Decl, struct_of, field, deinitializer, no_stms as parsed_nothing, Blk as ParsedBlock, block as parsed_block}
use Rattle.own_tree.specs.TypedSource.{TExp, number, text, path, compared, call, TExps, no_exps, exp, TStm, assign, discard_self, evaluate, TStms, no_stms, stm, TBlk, block, TBody, Program}
use Rattle.own_shapes.specs.Types.{Types, declared_types, types_declared}
use Rattle.own_runs.specs.Run.{Outcome, output, traced_output, run_of}

-- ---- answers

abbrev pub lines : List (List ℕ) → List ℕ
lines [] = []
lines (l ∷ ls) = l ++ 10 ∷ lines ls

-- how a run comes out, and what it prints
abbrev pub answer : Types → Program → List ℤ → ℕ → Outcome × List ℕ
answer types program input turns = let b = run_of types program input turns in (b.outcome, output b)

abbrev pub traced_answer : Types → Program → List ℤ → ℕ → Outcome × List ℕ
traced_answer types program input turns = let b = run_of types program input turns in (b.outcome, traced_output types b)

-- ---- nodes

abbrev pub sp : ℕ → Span
sp n = record { start = n; end = suc n }

abbrev pub at : ℕ → Ty → At
at n ty = record { id = n; span = sp n; ty = ty }

abbrev pub node : ℕ → At
node n = at n type.Unit

abbrev pub name_at : List ℕ → Name
name_at bytes = record { text = bytes; span = sp 0 }

abbrev pub in_place : ℕ → List ℕ → Place
in_place x ks = record { binding = x; fields = ks }

abbrev pub path_at : ℕ → Ty → ℕ → List ℕ → TypedPath
path_at n ty x ks = record { at = at n ty; place = in_place x ks }

abbrev pub p : ℕ → Ty → ℕ → List ℕ → TExp
p n ty x ks = path (path_at n ty x ks)

-- a number, a path of type `Int`, and a text
abbrev pub i : ℕ → ℕ → TExp
i n z = number (at n type.Int) (pos z)

abbrev pub v : ℕ → ℕ → List ℕ → TExp
v n x ks = p n type.Int x ks

abbrev pub w : ℕ → List ℕ → TExp
w n bytes = text (node n) bytes

abbrev pub exps : List TExp → TExps
exps [] = no_exps
exps (e ∷ es) = exp e (exps es)

abbrev pub stms : List TStm → TStms
stms [] = no_stms
stms (s ∷ ss) = stm s (stms ss)

abbrev pub blk : List TStm → TBlk
blk ss = block (node 0) (stms ss)

abbrev pub do_ : TExp → TStm
do_ e = evaluate (node 0) e

abbrev pub by_value : List TExp → List Passing
by_value [] = []
by_value (e ∷ es) = passing.ByValue ∷ by_value es

abbrev pub say : ℕ → List TExp → TStm
say n items = do_ (call (node n) target.Print (exps items) (by_value items))

abbrev pub read_int : ℕ → TExp
read_int n = call (at n type.Int) target.ReadInt no_exps []

abbrev pub equal : ℕ → TExp → TExp → TExp
equal n a b = compared (at n type.Bool) compare.Equal a b

-- ---- declarations

abbrev pub no_block : ParsedBlock
no_block = parsed_block (sp 0) parsed_nothing

abbrev pub has : List ℕ → List ℕ → Member
has name written = field (record { span = sp 0; keyword = keyword.Var; name = name_at name; written = name_at written })

abbrev pub ends : Member
ends = deinitializer (sp 0) no_block

abbrev pub noncopyable_struct : List ℕ → List Member → Decl
noncopyable_struct name ms = struct_of (sp 0) (name_at name) true ms

abbrev pub names_at : List (List ℕ) → List Name
names_at [] = []
names_at (n ∷ ns) = name_at n ∷ names_at ns

abbrev pub case_with : List ℕ → List (List ℕ) → CaseItem
case_with name payloads = record { span = sp 0; name = name_at name; payloads = names_at payloads }

abbrev pub types_with : List Decl → Types
types_with ds = types_declared (declared_types ds)

abbrev pub bound : List ℕ → Ty → Mode → ℕ → Binding
bound name ty m k = record { name = name; ty = ty; mode = m; span = sp 0; body = k }

abbrev pub body_with : BodyKind → Option ℕ → List ℕ → Ty → List TStm → TBody
body_with kind owner params result ss =
    record { kind = kind; owner = owner; params = params; result = result; discards = false; span = sp 0; close = sp 0; block = blk ss }

abbrev pub function_body : List ℕ → Ty → List TStm → TBody
function_body params result ss = body_with body.Function None params result ss

abbrev pub main_body : List TStm → TBody
main_body ss = function_body [] type.Unit ss

-- ---- `File`: its `init` is body 0, `write` 1, `close` 2, its `deinit` 3, and the function `take` 4

abbrev pub file_ : Ty
file_ = type.Named 0

abbrev pub file_decl : Decl
file_decl = noncopyable_struct (codes "File") (has (codes "fd") (codes "Int") ∷ ends ∷ [])

abbrev pub fd : ℕ → ℕ → TExp
fd n x = v n x (0 ∷ [])

abbrev pub file_bodies : List TBody
file_bodies =
    body_with body.Initializer (Some 0) (0 ∷ 1 ∷ []) type.Unit
    (assign (node 1) (path_at 2 type.Int 0 (0 ∷ [])) (v 3 1 []) ∷ say 4 (w 5 (codes "open") ∷ v 6 1 [] ∷ []) ∷ [])
    ∷ body_with body.Method (Some 0) (2 ∷ 3 ∷ []) type.Unit
    (say 1 (w 2 (codes "write") ∷ v 3 3 [] ∷ w 4 (codes "to") ∷ fd 5 2 ∷ []) ∷ [])
    ∷ body_with body.Method (Some 0) (4 ∷ []) type.Unit
    (say 1 (w 2 (codes "close") ∷ fd 3 4 ∷ []) ∷ discard_self (node 4) (in_place 4 []) ∷ [])
    ∷ body_with body.Deinitializer (Some 0) (5 ∷ []) type.Unit (say 1 (w 2 (codes "deinit") ∷ fd 3 5 ∷ []) ∷ [])
    ∷ function_body (6 ∷ []) type.Unit (say 1 (w 2 (codes "take") ∷ fd 3 6 ∷ []) ∷ []) ∷ []

abbrev pub file_bindings : List Binding
file_bindings =
    bound (codes "self") file_ mode.SelfInit 0 ∷ bound (codes "fd") type.Int mode.Plain 0
    ∷ bound (codes "self") file_ mode.SelfBorrowing 1 ∷ bound (codes "n") type.Int mode.Plain 1
    ∷ bound (codes "self") file_ mode.SelfConsuming 2 ∷ bound (codes "self") file_ mode.SelfDeinit 3
    ∷ bound (codes "f") file_ mode.Consuming 4 ∷ []

-- `File` and more bodies, from number 5 on, with the bindings from number 7 on
abbrev pub with_file : ℕ → List TBody → List Binding → Program
with_file main bodies bindings =
    record { bodies = file_bodies ++ bodies; bindings = file_bindings ++ bindings; signatures = []; main = main; tokens = 0 }

abbrev pub alone : List TBody → List Binding → Program
alone bodies bindings = record { bodies = bodies; bindings = bindings; signatures = []; main = 0; tokens = 0 }

-- `File(fd: e)`, `take(e)`, `e.write(z)` and `e.close()`
abbrev pub new : ℕ → TExp → TExp
new n e = call (at n file_) (target.Init 0) (exps (e ∷ [])) (passing.ByValue ∷ [])

abbrev pub take_ : ℕ → TExp → TStm
take_ n e = do_ (call (node n) (target.Function 4) (exps (e ∷ [])) (passing.Consume ∷ []))

abbrev pub write_ : ℕ → TExp → TExp → TStm
write_ n e z = do_ (call (node n) (target.Method 1) (exps (e ∷ z ∷ [])) (passing.Borrow ∷ passing.ByValue ∷ []))

abbrev pub close_ : ℕ → TExp → TStm
close_ n e = do_ (call (node n) (target.Method 2) (exps (e ∷ [])) (passing.Consume ∷ []))

-- a file in a binding
abbrev pub f : ℕ → ℕ → TExp
f n x = p n file_ x []

abbrev pub file_types : Types
file_types = types_with (file_decl ∷ [])

abbrev pub local_file : List ℕ → ℕ → Binding
local_file name k = bound name file_ mode.Var k

abbrev pub local_int : List ℕ → ℕ → Binding
local_int name k = bound name type.Int mode.Var k
