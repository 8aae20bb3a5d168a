-- Lists that a walk goes over, one element after the other.
use Rattle.std.proofs.Common.{◌≡◌, ℕ, suc, ◌<◌, List, [], ◌∷◌, ◌++◌, map, length, take, drop, get_or, refl, sym, ap, ◌∙◌, append_assoc, append-nil}
use Rattle.std.proofs.Math.Seq.{take-suc, drop-cons}
use Rattle.std.proofs.lemmas.List.{map-append}
use Rattle.std.proofs.lemmas.List.{length-map}
use Rattle.own_tree.specs.declared.tree.Argument.{Argument}
use Rattle.own_tree.specs.declared.tree.Name.{Name}
use Rattle.own_tree.specs.declared.tree.CaseItem.{CaseItem}
use Rattle.own_tree.specs.declared.tree.ClosureName.{ClosureName}
use Rattle.own_tree.specs.declared.tree.Declaration.{Declaration}
use Rattle.own_tree.specs.declared.tree.EnumMember.{EnumMember}
use Rattle.own_tree.specs.declared.tree.StructMember.{StructMember}
use Rattle.own_tree.specs.declared.tree.LetPattern.{LetPattern}
use Rattle.own_tree.specs.declared.tree.Pattern.{Pattern}
use Rattle.own_tree.specs.declared.tree.Stmt.{Stmt}
use Rattle.own_tree.specs.Source.{Stm, LetPat, Pat, Member}
use Rattle.own_tree.specs.View.{Arg, args_of, stms_of, let_pats_of, pats_of, argument_view, stmt_view, let_pattern_view, pattern_view, struct_member_view, enum_member_view, declaration_view}
use Rattle.own_survey.specs.Parts.{arg_count, local_name, local_names, bound_name, closure_names, let_names, all_let_names, pat_names, all_pat_names, item_names, names_of_member, member_names, declared_name}

-- what is left after some elements
pub left : {A B : Type 0} (view : A → B) (xs : List A) (i : ℕ) (x : A) → i < length xs → x ≡ get_or xs i x → map view (drop i xs) ≡ view x ∷ map view (drop (suc i) xs)
left view xs i x lt is = ap (map view) (drop-cons xs i x lt ∙ ap (λ y. y ∷ drop (suc i) xs) (sym is))

pub arg_count_is : (xs : List Arg) → arg_count (args_of xs) ≡ length xs
arg_count_is [] = refl
arg_count_is (a ∷ xs) = rw (arg_count_is xs) refl

-- ---- names

-- a list of names that is put together part by part
together : {A B : Type 0} (names : List B → List Name) (one : B → List Name) (append : (xs ys : List B) → names (xs ++ ys) ≡ names xs ++ names ys) (alone : (y : B) → names (y ∷ []) ≡ one y)
    (view : A → B) (xs : List A) (i : ℕ) (x : A) → i < length xs → x ≡ get_or xs i x → names (map view (take (suc i) xs)) ≡ names (map view (take i xs)) ++ one (view x)
together names one append alone view xs i x lt is =
    ap (λ ys. names (map view ys)) (take-suc xs i x lt ∙ ap (λ y. take i xs ++ y ∷ []) (sym is)) ∙ ap names (map-append view (take i xs) (x ∷ []))
    ∙ append (map view (take i xs)) (view x ∷ []) ∙ ap (λ ns. names (map view (take i xs)) ++ ns) (alone (view x))

locals-append : (xs ys : List Stm) → local_names (stms_of (xs ++ ys)) ≡ local_names (stms_of xs) ++ local_names (stms_of ys)
locals-append [] ys = refl
locals-append (x ∷ xs) ys = rw (locals-append xs ys) (sym (append_assoc (local_name x) (local_names (stms_of xs)) (local_names (stms_of ys))))

let_parts-append : (xs ys : List LetPat) → all_let_names (let_pats_of (xs ++ ys)) ≡ all_let_names (let_pats_of xs) ++ all_let_names (let_pats_of ys)
let_parts-append [] ys = refl
let_parts-append (x ∷ xs) ys = rw (let_parts-append xs ys) (sym (append_assoc (let_names x) (all_let_names (let_pats_of xs)) (all_let_names (let_pats_of ys))))

parts-append : (xs ys : List Pat) → all_pat_names (pats_of (xs ++ ys)) ≡ all_pat_names (pats_of xs) ++ all_pat_names (pats_of ys)
parts-append [] ys = refl
parts-append (x ∷ xs) ys = rw (parts-append xs ys) (sym (append_assoc (pat_names x) (all_pat_names (pats_of xs)) (all_pat_names (pats_of ys))))

written-append : (xs ys : List ClosureName) → closure_names (xs ++ ys) ≡ closure_names xs ++ closure_names ys
written-append [] ys = refl
written-append (x ∷ xs) ys = rw (written-append xs ys) (sym (append_assoc (bound_name x) (closure_names xs) (closure_names ys)))

pub next_local : (ss : List Stmt) (i : ℕ) (s : Stmt) → i < length ss → s ≡ get_or ss i s
    → local_names (stms_of (map stmt_view (take (suc i) ss))) ≡ local_names (stms_of (map stmt_view (take i ss))) ++ local_name (stmt_view s)
next_local = together (λ ss. local_names (stms_of ss)) local_name locals-append (λ s. append-nil (local_name s)) stmt_view

pub next_let : (ps : List LetPattern) (i : ℕ) (p : LetPattern) → i < length ps → p ≡ get_or ps i p
    → all_let_names (let_pats_of (map let_pattern_view (take (suc i) ps))) ≡ all_let_names (let_pats_of (map let_pattern_view (take i ps))) ++ let_names (let_pattern_view p)
next_let = together (λ ps. all_let_names (let_pats_of ps)) let_names let_parts-append (λ p. append-nil (let_names p)) let_pattern_view

pub next_part : (ps : List Pattern) (i : ℕ) (p : Pattern) → i < length ps → p ≡ get_or ps i p
    → all_pat_names (pats_of (map pattern_view (take (suc i) ps))) ≡ all_pat_names (pats_of (map pattern_view (take i ps))) ++ pat_names (pattern_view p)
next_part = together (λ ps. all_pat_names (pats_of ps)) pat_names parts-append (λ p. append-nil (pat_names p)) pattern_view

pub next_written : (ns : List ClosureName) (i : ℕ) (n : ClosureName) → i < length ns → n ≡ get_or ns i n → closure_names (take (suc i) ns) ≡ closure_names (take i ns) ++ bound_name n
next_written ns i n lt is =
    ap closure_names (take-suc ns i n lt ∙ ap (λ y. take i ns ++ y ∷ []) (sym is)) ∙ written-append (take i ns) (n ∷ []) ∙ ap (λ xs. closure_names (take i ns) ++ xs) (append-nil (bound_name n))

-- names that are pushed behind others
pub pushed : (now before old all one more : List Name) → before ≡ old ++ all → now ≡ before ++ one → more ≡ all ++ one → now ≡ old ++ more
pushed now before old all one more e f g = f ∙ ap (λ ns. ns ++ one) e ∙ append_assoc old all one ∙ ap (λ ns. old ++ ns) (sym g)

pub arg_count_of : (xs : List Argument) → arg_count (args_of (map argument_view xs)) ≡ length xs
arg_count_of xs = arg_count_is (map argument_view xs) ∙ length-map xs argument_view

members-append : (xs ys : List Member) → member_names (xs ++ ys) ≡ member_names xs ++ member_names ys
members-append [] ys = refl
members-append (x ∷ xs) ys = rw (members-append xs ys) (sym (append_assoc (names_of_member x) (member_names xs) (member_names ys)))

pub next_struct_member : (ms : List StructMember) (i : ℕ) (m : StructMember) → i < length ms → m ≡ get_or ms i m
    → member_names (map struct_member_view (take (suc i) ms)) ≡ member_names (map struct_member_view (take i ms)) ++ names_of_member (struct_member_view m)
next_struct_member = together member_names names_of_member members-append (λ m. append-nil (names_of_member m)) struct_member_view

pub next_enum_member : (ms : List EnumMember) (i : ℕ) (m : EnumMember) → i < length ms → m ≡ get_or ms i m
    → member_names (map enum_member_view (take (suc i) ms)) ≡ member_names (map enum_member_view (take i ms)) ++ names_of_member (enum_member_view m)
next_enum_member = together member_names names_of_member members-append (λ m. append-nil (names_of_member m)) enum_member_view

pub next_item : (cs : List CaseItem) (i : ℕ) (c : CaseItem) → i < length cs → c ≡ get_or cs i c → item_names (take (suc i) cs) ≡ item_names (take i cs) ++ c.name ∷ []
next_item cs i c lt is = ap item_names (take-suc cs i c lt ∙ ap (λ y. take i cs ++ y ∷ []) (sym is)) ∙ map-append (λ x. x.name) (take i cs) (c ∷ [])

pub next_name : (ds : List Declaration) (i : ℕ) (d : Declaration) → i < length ds → d ≡ get_or ds i d
    → map declared_name (map declaration_view (take (suc i) ds)) ≡ map declared_name (map declaration_view (take i ds)) ++ declared_name (declaration_view d) ∷ []
next_name = together (map declared_name) (λ d. declared_name d ∷ []) (map-append declared_name) (λ d. refl) declaration_view
