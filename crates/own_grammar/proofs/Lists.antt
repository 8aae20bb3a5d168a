-- The parts of the tree as lists.
use Rattle.std.proofs.Common.{◌≡◌, List, [], ◌∷◌, refl, ap, ◌∙◌}
use Rattle.own_tree.specs.Source.{LetPat, LetPats, no_let_pats, let_pat, Pat, Pats, no_pats, pat, Args, no_args, arg, Stm, Stms, no_stms, stm, Clauses, no_clauses, clause}
use Rattle.own_tree.specs.View.{Arg, Cla, let_pats_of, pats_of, args_of, stms_of, clauses_of}

unfoldable pub let_pats_in : LetPats → List LetPat
let_pats_in no_let_pats = []
let_pats_in (let_pat p ps) = p ∷ let_pats_in ps

pub let_pats_list : (ps : LetPats) → let_pats_of (let_pats_in ps) ≡ ps
unfolding let_pats_in
let_pats_list no_let_pats = refl
let_pats_list (let_pat p ps) = ap (let_pat p) (let_pats_list ps)

unfoldable pub pats_in : Pats → List Pat
pats_in no_pats = []
pats_in (pat p ps) = p ∷ pats_in ps

pub pats_list : (ps : Pats) → pats_of (pats_in ps) ≡ ps
unfolding pats_in
pats_list no_pats = refl
pats_list (pat p ps) = ap (pat p) (pats_list ps)

unfoldable pub args_in : Args → List Arg
args_in no_args = []
args_in (arg l g es) = (l, g) ∷ args_in es

pub args_list : (es : Args) → args_of (args_in es) ≡ es
unfolding args_in
args_list no_args = refl
args_list (arg l g es) = ap (arg l g) (args_list es)

unfoldable pub stms_in : Stms → List Stm
stms_in no_stms = []
stms_in (stm s ss) = s ∷ stms_in ss

pub stms_list : (ss : Stms) → stms_of (stms_in ss) ≡ ss
unfolding stms_in
stms_list no_stms = refl
stms_list (stm s ss) = ap (stm s) (stms_list ss)

unfoldable pub clauses_in : Clauses → List Cla
clauses_in no_clauses = []
clauses_in (clause s h ss cs) = (s, h, ss) ∷ clauses_in cs

pub clauses_list : (cs : Clauses) → clauses_of (clauses_in cs) ≡ cs
unfolding clauses_in
clauses_list no_clauses = refl
clauses_list (clause s h ss cs) = ap (clause s h ss) (clauses_list cs)

pub let_pats_same : (xs : List LetPat) (ps : LetPats) → xs ≡ let_pats_in ps → let_pats_of xs ≡ ps
let_pats_same xs ps e = ap let_pats_of e ∙ let_pats_list ps

pub pats_same : (xs : List Pat) (ps : Pats) → xs ≡ pats_in ps → pats_of xs ≡ ps
pats_same xs ps e = ap pats_of e ∙ pats_list ps

pub args_same : (xs : List Arg) (ps : Args) → xs ≡ args_in ps → args_of xs ≡ ps
args_same xs ps e = ap args_of e ∙ args_list ps

pub stms_same : (xs : List Stm) (ps : Stms) → xs ≡ stms_in ps → stms_of xs ≡ ps
stms_same xs ps e = ap stms_of e ∙ stms_list ps

pub clauses_same : (xs : List Cla) (ps : Clauses) → xs ≡ clauses_in ps → clauses_of xs ≡ ps
clauses_same xs ps e = ap clauses_of e ∙ clauses_list ps
