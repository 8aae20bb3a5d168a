-- How many bodies arguments, calls and closures make.
use Rattle.std.specs.Prelude.{◌≡◌, ℕ, suc, ◌+◌, not, List, [], ◌∷◌, length, Option, Some, None}
use Rattle.std.proofs.Common.{arith}
use Rattle.own_tree.specs.declared.place.Ty.{Ty}
use Rattle.own_tree.specs.declared.place.Ty.TheVariants as type
use Rattle.own_tree.specs.declared.span.Span.{Span}
use Rattle.own_tree.specs.declared.tree.ClosureName.{ClosureName}
use Rattle.own_tree.specs.declared.tree.Name.{Name}
use Rattle.own_tree.specs.declared.tree.Path.{Path}
use Rattle.own_tree.specs.declared.tree.Root.{Root}
use Rattle.own_tree.specs.declared.tree.Root.TheVariants as root
use Rattle.own_tree.specs.declared.typed.ParamInfo.{ParamInfo}
use Rattle.own_tree.specs.TypedSource.{TExp, TExps, TStms}
use Rattle.own_paths.specs.Within.{path_of}
use Rattle.own_calls.specs.Arguments.{arguments_agree}
use Rattle.own_judging.specs.Judged.{Judged}
use Rattle.own_judged.specs.Arguments.{Arguments, Argument, a_value, a_closure, and_then, trailing, nothing_given, an_item, and_items}
use Rattle.own_judged.specs.Calls.{Callee, by_path, by_case, by_member, by_value, may_receive, an_address, sent, sent_by_name, own_receiver, sent_to_path, closure_call, built, called, called_path, call_of_path, call_of, last_of, front_of, last_span}
use Rattle.own_judged.specs.Closures.{no_block, a_block, closure_body, closure_inside, closure_literal}
use Rattle.own_judged.specs.Conditions.{true_that, equal}
use Rattle.own_judged.specs.Names.{Local, Self, Scope, Seen, a_local, a_property, a_method, a_function, the_print, the_read_int, a_type, inside_closure}
use Rattle.own_judged.specs.Text.{Text, Callable, Method}
use Rattle.own_judged.specs.Values.{till}
use Rattle.own_known.proofs.Counting.{Counts, counted, both, neither, first_only, second_only, given, judged, found, no_fault, never, a_node, embodies}
use Rattle.own_known.proofs.NoBodies.{ArgumentsCount, nothing_counts, calling_counts, constructed_counts, implicit_counts, of_self_none, path_value_none, place_none, names_none}

-- ---- arguments and items

abbrev pub ArgumentCount : Argument → ℕ → Type 0
ArgumentCount argument n = (s : Span) (p : ParamInfo) → Counts (argument s p) n

pub value_counts :
    (label : Option Name) (at : Span) (e : Option Ty → Judged TExp) (n : ℕ)
    → ((wanted : Option Ty) → Counts (e wanted) n)
    → ArgumentCount (a_value label at e) n
value_counts label at e n c s p = first_only _ _ n (c _) (λ t. neither _ _ (no_fault _ _) (λ u. given _))

pub closure_counts :
    (label : Option Name) (at : Span) (literal : Span → Ty → Judged TExp) (n : ℕ)
    → ((s : Span) (ty : Ty) → Counts (literal s ty) n) → ArgumentCount (a_closure label at literal) n
closure_counts label at literal n c s p = first_only _ _ n (c s p.ty) (λ t. given _)

-- what stands before the parentheses makes so many
abbrev pub CalleeCounts : Callee → ℕ → Type 0
CalleeCounts (by_path r ns) m = m ≡ 0
CalleeCounts (by_case name) m = m ≡ 0
CalleeCounts (by_member e name) m = Counts e m
CalleeCounts by_value m = Unit {0}

module _ (text : Text) where
  pub address_counts :
      (scope : Scope) (label : Option Name) (p : Path) → ArgumentCount (an_address text scope label p) 0
  address_counts scope label p s param = neither _ _ (place_none text scope p) (λ q. given _)

  pub then_counts :
      (first : Argument) (rest : Arguments) (m n : ℕ) → ArgumentCount first m → ArgumentsCount text rest n
      → ArgumentsCount text (and_then first rest) (m + n)
  then_counts first rest m n c d s [] = never _ _ _
  then_counts first rest m n c d s (p ∷ ps) =
      both _ _ m n (c s p) (λ t. first_only _ _ n (d s ps) (λ more. given _))

  pub trailing_counts :
      (at : Span) (literal : Span → Ty → Judged TExp) (n : ℕ) → ((s : Span) (ty : Ty) → Counts (literal s ty) n)
      → ArgumentsCount text (trailing at literal) (n + 0)
  trailing_counts at literal n c =
      then_counts (a_closure None at literal) nothing_given n 0 (closure_counts None at literal n c)
      (nothing_counts text)

  pub item_counts :
      (label : Option Name) (call at : Span) (e : Judged TExp) (n : ℕ) → Counts e n
      → Counts (an_item label call at e) n
  item_counts (Some l) call at e n c = never _ _ _
  item_counts None call at e n c = first_only _ _ n c (λ t. neither _ _ (no_fault _ _) (λ u. given _))

  pub items_count :
      (first : Judged TExp) (rest : Judged TExps) (m n : ℕ) → Counts first m → Counts rest n
      → Counts (and_items first rest) (m + n)
  items_count first rest m n c d = both _ _ m n c (λ t. first_only _ _ n d (λ more. given _))

  -- ---- calls

  module _ (arguments : Arguments) (n : ℕ) (c : ArgumentsCount text arguments n) where
    sent_counts : (id : ℕ) (s : Span) (receiver : TExp) (m : Method) → Counts (sent text id s receiver m arguments) n
    sent_counts id s receiver m =
        second_only _ _ n (judged (true_that (may_receive m.mode (path_of receiver))) _ _)
        (λ u. first_only _ _ n (c s m.callable.params)
        (λ g. neither _ _ (judged (true_that (arguments_agree s.end m.callable.params g.1)) _ _) (λ u. given _)))

    sent_by_name_counts :
        (id : ℕ) (s : Span) (receiver : TExp) (name : Name)
        → Counts (sent_by_name text id s receiver name arguments) n
    sent_by_name_counts id s receiver name =
        second_only _ _ n (no_fault _ _) (λ u. second_only _ _ n (no_fault _ _) (λ u. second_only _ _ n (found _ _ _)
        (λ m. sent_counts id s receiver m)))

    closure_call_counts : (id : ℕ) (s : Span) (l : Local) (ty : Ty) → Counts (closure_call text id s l ty arguments) n
    closure_call_counts id s l (type.Fun f) =
        second_only _ _ n (found _ _ _) (λ g. calling_counts text id s g.result _ _ arguments n c)
    closure_call_counts id s l type.Int = never _ _ _
    closure_call_counts id s l type.Bool = never _ _ _
    closure_call_counts id s l type.Unit = never _ _ _
    closure_call_counts id s l (type.Named t) = never _ _ _

    built_counts : (id : ℕ) (s : Span) (t : ℕ) (o : Option Callable) → Counts (built text id s t o arguments) n
    built_counts id s t None = calling_counts text id s (type.Named t) _ _ arguments n c
    built_counts id s t (Some f) = calling_counts text id s (type.Named t) _ _ arguments n c

    module _ (scope : Scope) where
      own_receiver_none : (s : Span) (me : Option Self) → Counts (own_receiver text scope s me) 0
      own_receiver_none s me =
          neither _ _ a_node (λ id. neither _ _ (of_self_none text scope id s s me []) (λ p. given _))

      sent_to_path_counts :
          (id : ℕ) (s : Span) (r : Root) (first : Span) (name : Name) (ns : List Name)
          → Counts (sent_to_path text scope id s r first name ns arguments) n
      sent_to_path_counts id s r first name ns =
          second_only _ _ n a_node (λ inner. second_only _ _ n
          (path_value_none text scope inner (till first (last_span first (front_of name ns))) r (front_of name ns))
          (λ receiver. sent_by_name_counts id s receiver (last_of name ns)))

      module _ (items : Judged TExps) (d : Counts items n) where
        called_counts :
            (id : ℕ) (s : Span) (name : Name) (x : Seen) → Counts (called text scope id s name arguments items x) n
        called_counts id s name (a_local l) = closure_call_counts id s l l.ty
        called_counts id s name (a_property i f) = never _ _ _
        called_counts id s name (a_method m) =
            second_only _ _ n (own_receiver_none name.span scope.self) (λ receiver. sent_counts id s receiver m)
        called_counts id s name (a_function f) = calling_counts text id s f.result _ _ arguments n c
        called_counts id s name the_print = first_only _ _ n d (λ es. given _)
        called_counts id s name the_read_int = calling_counts text id s type.Int _ _ arguments n c
        called_counts id s name (a_type t) =
            second_only _ _ n (judged (true_that (not (text.types.is_enum (type.Named t)))) _ _)
            (λ u. built_counts id s t (text.initializer t))

        called_path_counts :
            (id : ℕ) (s : Span) (name : Name) (ns : List Name) (x : Seen)
            → Counts (called_path text scope id s name ns arguments items x) n
        called_path_counts id s name [] x = called_counts id s name x
        called_path_counts id s name (f ∷ []) (a_type t) = constructed_counts text id s name.span t f arguments n c
        called_path_counts id s name (f ∷ []) (a_local l) = sent_to_path_counts id s (root.Named name) name.span f []
        called_path_counts id s name (f ∷ []) (a_property i g) =
            sent_to_path_counts id s (root.Named name) name.span f []
        called_path_counts id s name (f ∷ []) (a_method m) = sent_to_path_counts id s (root.Named name) name.span f []
        called_path_counts id s name (f ∷ []) (a_function g) = sent_to_path_counts id s (root.Named name) name.span f []
        called_path_counts id s name (f ∷ []) the_print = sent_to_path_counts id s (root.Named name) name.span f []
        called_path_counts id s name (f ∷ []) the_read_int = sent_to_path_counts id s (root.Named name) name.span f []
        called_path_counts id s name (f ∷ g ∷ fs) (a_type t) =
            sent_to_path_counts id s (root.Named name) name.span f (g ∷ fs)
        called_path_counts id s name (f ∷ g ∷ fs) (a_local l) =
            sent_to_path_counts id s (root.Named name) name.span f (g ∷ fs)
        called_path_counts id s name (f ∷ g ∷ fs) (a_property i e) =
            sent_to_path_counts id s (root.Named name) name.span f (g ∷ fs)
        called_path_counts id s name (f ∷ g ∷ fs) (a_method m) =
            sent_to_path_counts id s (root.Named name) name.span f (g ∷ fs)
        called_path_counts id s name (f ∷ g ∷ fs) (a_function h) =
            sent_to_path_counts id s (root.Named name) name.span f (g ∷ fs)
        called_path_counts id s name (f ∷ g ∷ fs) the_print =
            sent_to_path_counts id s (root.Named name) name.span f (g ∷ fs)
        called_path_counts id s name (f ∷ g ∷ fs) the_read_int =
            sent_to_path_counts id s (root.Named name) name.span f (g ∷ fs)

        path_called :
            (id : ℕ) (s : Span) (r : Root) (ns : List Name)
            → Counts (call_of_path text scope id s r ns arguments items) n
        path_called id s (root.SelfWord word) [] = never _ _ _
        path_called id s (root.SelfWord word) (f ∷ fs) = sent_to_path_counts id s (root.SelfWord word) word f fs
        path_called id s (root.Named name) ns = second_only _ _ n (found _ _ _) (λ x. called_path_counts id s name ns x)

        pub call_counts :
            (wanted : Option Ty) (s : Span) (f : Callee) (m : ℕ) → CalleeCounts f m
            → Counts (call_of text scope wanted s f arguments items) (m + n)
        call_counts wanted s (by_path r ns) m e =
            counted _ n (m + n) (omega (arith, e)) (second_only _ _ n a_node (λ id. path_called id s r ns))
        call_counts wanted s (by_case name) m e =
            counted _ n (m + n) (omega (arith, e))
            (second_only _ _ n a_node (λ id. implicit_counts text id s wanted name arguments n c))
        call_counts wanted s (by_member e name) m h =
            second_only _ _ (m + n) a_node (λ id. both _ _ m n h (λ receiver. sent_by_name_counts id s receiver name))
        call_counts wanted s by_value m h = never _ _ _

  -- ---- closures

  pub block_counts : (s : Span) (ss : Judged TStms) (n : ℕ) → Counts ss n → Counts (a_block s ss) n
  block_counts s ss n c = second_only _ _ n a_node (λ id. first_only _ _ n c (λ ts. given _))

  pub literal_counts :
      (scope : Scope) (s : Span) (names : List ClosureName) (ss : Scope → Judged TStms) (call : Span) (ty : Ty) (n : ℕ)
      → ((inner : Scope) → Counts (ss inner) n) → Counts (closure_literal text scope s names ss call ty) (suc n)
  literal_counts scope s names ss call (type.Fun f) n c =
      second_only _ _ (suc n) (found _ _ _) (λ g.
      second_only _ _ (suc n) (judged (equal (length names) (length g.params)) _ _) (λ u.
      second_only _ _ (suc n) a_node (λ id.
      first_only _ _ (suc n) (embodies (closure_body scope s [] g.result (no_block s))
      (closure_inside scope s names g.params g.result ss) (λ a. closure_body scope s a.0 g.result a.1) n
      (λ k. second_only _ _ n (names_none k names g.params) (λ xs.
      first_only _ _ n (block_counts s (ss (inside_closure scope k g.result xs.1)) n
      (c (inside_closure scope k g.result xs.1)))
      (λ b. given _)))) (λ x. given _))))
  literal_counts scope s names ss call type.Int n c = never _ _ _
  literal_counts scope s names ss call type.Bool n c = never _ _ _
  literal_counts scope s names ss call type.Unit n c = never _ _ _
  literal_counts scope s names ss call (type.Named t) n c = never _ _ _
