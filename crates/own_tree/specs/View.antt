-- What a tree of the program stands for.
use Rattle.std.specs.Prelude.{List, [], ◌∷◌, Option, map}
use Rattle.own_tree.specs.declared.tree.Expr.{Expr}
use Rattle.own_tree.specs.declared.tree.Expr.TheOpen.{Expr-F, Passed-F, Stmt-F, Head-F, Argument-F, Closure-F, Clause-F, Block-F}
use Rattle.own_tree.specs.declared.tree.Expr.TheFolds.{fold-Expr, fold-Passed, fold-Stmt, fold-Argument, fold-Closure, fold-Clause, fold-Block}
use Rattle.own_tree.specs.declared.tree.Name.{Name}
use Rattle.own_tree.specs.declared.span.Span.{Span}
use Rattle.own_tree.specs.declared.tree.Passed.{Passed}
use Rattle.own_tree.specs.declared.tree.Argument.{Argument}
use Rattle.own_tree.specs.declared.tree.Stmt.{Stmt}
use Rattle.own_tree.specs.declared.tree.Clause.{Clause}
use Rattle.own_tree.specs.declared.tree.Closure.{Closure}
use Rattle.own_tree.specs.declared.tree.Block.{Block}
use Rattle.own_tree.specs.declared.tree.Pattern.{Pattern}
use Rattle.own_tree.specs.declared.tree.Pattern.TheOpen.{Pattern-F}
use Rattle.own_tree.specs.declared.tree.Pattern.TheFolds.{fold-Pattern}
use Rattle.own_tree.specs.declared.tree.LetPattern.{LetPattern}
use Rattle.own_tree.specs.declared.tree.LetPattern.TheOpen.{LetPattern-F}
use Rattle.own_tree.specs.declared.tree.LetPattern.TheFolds.{fold-LetPattern}
use Rattle.own_tree.specs.declared.tree.FunctionDeclaration.{FunctionDeclaration}
use Rattle.own_tree.specs.declared.tree.Deinitializer.{Deinitializer}
use Rattle.own_tree.specs.declared.tree.Method.{Method}
use Rattle.own_tree.specs.declared.tree.StructMember.{StructMember}
use Rattle.own_tree.specs.declared.tree.StructMember.TheVariants as struct_member
use Rattle.own_tree.specs.declared.tree.EnumMember.{EnumMember}
use Rattle.own_tree.specs.declared.tree.EnumMember.TheVariants as enum_member
use Rattle.own_tree.specs.declared.tree.Declaration.{Declaration}
use Rattle.own_tree.specs.declared.tree.Declaration.TheVariants as declaration
use Rattle.own_tree.specs.declared.tree.Tree.{Tree}
use Rattle.own_tree.specs.Source.{LetPat, let_any, let_bind, let_case, let_number, let_truth, LetPats, no_let_pats, let_pat, Pat, any, bind, bind_case, on_case, on_number, on_truth, Pats, no_pats, pat, Exp, number, text, truth, path, implicit_member, parenthesized, consumed, prefix, binary, choice, member, call, call_closing, call_closure, Given, value, address, closing, Args, no_args, arg, Clo, closure, Stm, let_in, declare, assign, ignore, discard_self, if_then, if_else, else_if, loop_while, loop_repeat, loop_for, switch, leave, go_on, return_none, return_value, evaluate, Stms, no_stms, stm, When, case_of, case_where, default, Clauses, no_clauses, clause, Blk, block, Fun, Member, field, initializer, deinitializer, method, cases, Decl, struct_of, enum_of, function, File}

-- ---- patterns

abbrev pub let_pats_of : List LetPat → LetPats
let_pats_of [] = no_let_pats
let_pats_of (p ∷ ps) = let_pat p (let_pats_of ps)

abbrev pub let_pattern_step : LetPattern-F LetPat → LetPat
let_pattern_step (LetPattern-F.Any s) = let_any s
let_pattern_step (LetPattern-F.Bind n) = let_bind n
let_pattern_step (LetPattern-F.Case s n ps) = let_case s n (let_pats_of ps)
let_pattern_step (LetPattern-F.Number s negative n) = let_number s negative n
let_pattern_step (LetPattern-F.Truth s b) = let_truth s b

abbrev pub let_pattern_view : LetPattern → LetPat
let_pattern_view = fold-LetPattern LetPat let_pattern_step

abbrev pub pats_of : List Pat → Pats
pats_of [] = no_pats
pats_of (p ∷ ps) = pat p (pats_of ps)

abbrev pub pattern_step : Pattern-F Pat → Pat
pattern_step (Pattern-F.Any s) = any s
pattern_step (Pattern-F.Bind s n) = bind s n
pattern_step (Pattern-F.BindCase s p) = bind_case s (let_pattern_view p)
pattern_step (Pattern-F.Case s n ps) = on_case s n (pats_of ps)
pattern_step (Pattern-F.Number s negative n) = on_number s negative n
pattern_step (Pattern-F.Truth s b) = on_truth s b

abbrev pub pattern_view : Pattern → Pat
pattern_view = fold-Pattern Pat pattern_step

-- ---- expressions, statements and blocks

-- an argument and its label, a clause with its span, its head and its statements
abbrev pub Arg : Type 0
Arg = Option Name × Given

abbrev pub Cla : Type 0
Cla = Span × When × Stms

abbrev pub args_of : List Arg → Args
args_of [] = no_args
args_of (a ∷ rest) = arg a.0 a.1 (args_of rest)

abbrev pub stms_of : List Stm → Stms
stms_of [] = no_stms
stms_of (s ∷ ss) = stm s (stms_of ss)

abbrev pub clauses_of : List Cla → Clauses
clauses_of [] = no_clauses
clauses_of (c ∷ cs) = clause c.0 c.1 c.2 (clauses_of cs)

abbrev pub expr_step : Expr-F Exp When Given Stm Arg Blk Cla Clo → Exp
expr_step (Expr-F.Number s negative n) = number s negative n
expr_step (Expr-F.Text s t) = text s t
expr_step (Expr-F.Truth s b) = truth s b
expr_step (Expr-F.Path p) = path p
expr_step (Expr-F.ImplicitMember s n) = implicit_member s n
expr_step (Expr-F.Parenthesized s e) = parenthesized s e
expr_step (Expr-F.Consume s p) = consumed s p
expr_step (Expr-F.Prefix s o e) = prefix s o e
expr_step (Expr-F.Binary s o at a b) = binary s o at a b
expr_step (Expr-F.Choice s c a b) = choice s c a b
expr_step (Expr-F.Member s e n) = member s e n
expr_step (Expr-F.Call s f es) = call s f (args_of es)
expr_step (Expr-F.CallClosing s f es c) = call_closing s f (args_of es) c
expr_step (Expr-F.CallClosure s f c) = call_closure s f c

abbrev pub passed_step : Passed-F Exp When Given Stm Arg Blk Cla Clo → Given
passed_step (Passed-F.Value e) = value e
passed_step (Passed-F.Address s p) = address s p
passed_step (Passed-F.Closure c) = closing c

abbrev pub argument_step : Argument-F Exp When Given Stm Arg Blk Cla Clo → Arg
argument_step a = (a.label, a.passed)

abbrev pub stmt_step : Stmt-F Exp When Given Stm Arg Blk Cla Clo → Stm
stmt_step (Stmt-F.Let s k n t e) = let_in s k n t e
stmt_step (Stmt-F.Declare s k n t) = declare s k n t
stmt_step (Stmt-F.Assign s p o at e) = assign s p o at e
stmt_step (Stmt-F.Ignore s t e) = ignore s t e
stmt_step (Stmt-F.Discard s) = discard_self s
stmt_step (Stmt-F.If s c b) = if_then s c b
stmt_step (Stmt-F.IfElse s c b d) = if_else s c b d
stmt_step (Stmt-F.ElseIf s c b d) = else_if s c b d
stmt_step (Stmt-F.While s c b) = loop_while s c b
stmt_step (Stmt-F.Repeat s b c) = loop_repeat s b c
stmt_step (Stmt-F.For s n low o at high b) = loop_for s n low o at high b
stmt_step (Stmt-F.Switch s e cs) = switch s e (clauses_of cs)
stmt_step (Stmt-F.Break s) = leave s
stmt_step (Stmt-F.Continue s) = go_on s
stmt_step (Stmt-F.Return s) = return_none s
stmt_step (Stmt-F.ReturnValue s e) = return_value s e
stmt_step (Stmt-F.Evaluate e) = evaluate e

abbrev pub head_step : Head-F Exp When Given Stm Arg Blk Cla Clo → When
head_step (Head-F.Case ps) = case_of (pats_of (map pattern_view ps))
head_step (Head-F.Guarded p e) = case_where (pattern_view p) e
head_step Head-F.Default = default

abbrev pub clause_step : Clause-F Exp When Given Stm Arg Blk Cla Clo → Cla
clause_step c = (c.span, c.head, stms_of c.statements)

abbrev pub closure_step : Closure-F Exp When Given Stm Arg Blk Cla Clo → Clo
closure_step c = closure c.span c.names (stms_of c.statements)

abbrev pub block_step : Block-F Exp When Given Stm Arg Blk Cla Clo → Blk
block_step b = block b.span (stms_of b.statements)

abbrev pub expr_view : Expr → Exp
expr_view = fold-Expr Exp When Given Stm Arg Blk Cla Clo expr_step head_step passed_step stmt_step argument_step block_step clause_step closure_step

abbrev pub passed_view : Passed → Given
passed_view = fold-Passed Exp When Given Stm Arg Blk Cla Clo expr_step head_step passed_step stmt_step argument_step block_step clause_step closure_step

abbrev pub argument_view : Argument → Arg
argument_view = fold-Argument Exp When Given Stm Arg Blk Cla Clo expr_step head_step passed_step stmt_step argument_step block_step clause_step closure_step

abbrev pub stmt_view : Stmt → Stm
stmt_view = fold-Stmt Exp When Given Stm Arg Blk Cla Clo expr_step head_step passed_step stmt_step argument_step block_step clause_step closure_step

abbrev pub clause_view : Clause → Cla
clause_view = fold-Clause Exp When Given Stm Arg Blk Cla Clo expr_step head_step passed_step stmt_step argument_step block_step clause_step closure_step

abbrev pub closure_view : Closure → Clo
closure_view = fold-Closure Exp When Given Stm Arg Blk Cla Clo expr_step head_step passed_step stmt_step argument_step block_step clause_step closure_step

abbrev pub block_view : Block → Blk
block_view = fold-Block Exp When Given Stm Arg Blk Cla Clo expr_step head_step passed_step stmt_step argument_step block_step clause_step closure_step

-- ---- declarations and the text

abbrev pub function_view : FunctionDeclaration → Fun
function_view f = record { span = f.span; name = f.name; parameters = f.parameters; result = f.result; body = block_view f.block }

abbrev pub method_view : Method → Member
method_view m = method m.span m.mode (function_view m.function)

abbrev pub deinitializer_view : Deinitializer → Member
deinitializer_view d = deinitializer d.span (block_view d.block)

abbrev pub struct_member_view : StructMember → Member
struct_member_view (struct_member.Field f) = field f
struct_member_view (struct_member.Initializer i) = initializer i.span i.parameters (block_view i.block)
struct_member_view (struct_member.Deinitializer d) = deinitializer_view d
struct_member_view (struct_member.Method m) = method_view m

abbrev pub enum_member_view : EnumMember → Member
enum_member_view (enum_member.Cases s items) = cases s items
enum_member_view (enum_member.Deinitializer d) = deinitializer_view d
enum_member_view (enum_member.Method m) = method_view m

abbrev pub declaration_view : Declaration → Decl
declaration_view (declaration.Struct s) = struct_of s.span s.name s.noncopyable (map struct_member_view s.members)
declaration_view (declaration.Enum e) = enum_of e.span e.name e.noncopyable (map enum_member_view e.members)
declaration_view (declaration.Function f) = function (function_view f)

abbrev pub tree_view : Tree → File
tree_view t = record { declarations = map declaration_view t.declarations; main = t.main; tokens = t.tokens }
