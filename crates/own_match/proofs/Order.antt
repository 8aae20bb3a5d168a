-- Literals in rising order, and forms that come before one another.
use Rattle.std.proofs.Common.{◌≡◌, ℕ, zero, suc, ◌+◌, ◌≤◌, ◌⊎◌, ℤ, pos, negsuc, ◌<ℤ◌, true, false, List, [], ◌∷◌, inl, inr, sym, ◌∙◌, subst, Contains, arith, int_cmp, Ordering, Less, Equal, Greater}
use Rattle.std.specs.Ordering.{MatchOrdering, match_ordering}
use Rattle.std.specs.BTreeSet.{insert_key}
use Rattle.std.specs.Cmp.{int_ranks, int_chain}
use Rattle.std.specs.Int.Signed.{<ℤ_irrefl}
use Rattle.own_tree.specs.TypedSource.{TPat, any, bind, of_case, of_number, of_truth, TPats, no_pats, pat}
use Rattle.own_match.specs.Forms.{literals, ComesBefore, AllComeBefore}
use Rattle.own_match.specs.Search.{rising_onto, rising}

-- ---- membership by recursion

abbrev pub In : List ℤ → ℤ → Type 0
In [] n = ⊥
In (m ∷ ms) n = (m ≡ n) ⊎ In ms n

pub contains_in : (ms : List ℤ) (n : ℤ) → In ms n → Contains ms n
contains_in [] n h = absurd h
contains_in (m ∷ ms) n (inl e) = (0, omega arith, e)
contains_in (m ∷ ms) n (inr h) = let r = contains_in ms n h in (suc r.0, omega (arith, r.1), r.2)

pub in_contains : (ms : List ℤ) (n : ℤ) → Contains ms n → In ms n
in_contains [] n (k, l, e) = absurd (omega (arith, l))
in_contains (m ∷ ms) n (zero, l, e) = inl e
in_contains (m ∷ ms) n (suc k, l, e) = inr (in_contains ms n (k, omega (arith, l), e))

-- ---- rising

abbrev pub Above : ℤ → List ℤ → Type 0
Above n [] = Unit {0}
Above n (m ∷ ms) = (n <ℤ m) × Above n ms

abbrev pub Rises : List ℤ → Type 0
Rises [] = Unit {0}
Rises (n ∷ ns) = Above n ns × Rises ns

above_all : (n m : ℤ) (ns : List ℤ) → n <ℤ m → Above m ns → Above n ns
above_all n m [] l a = tt
above_all n m (k ∷ ns) l a = (int_chain n m k l a.0, above_all n m ns l a.1)

above_insert : (n m : ℤ) (ns : List ℤ) → n <ℤ m → Above n ns → Above n (insert_key int_cmp ns m)
above_insert n m [] l a = (l, tt)
above_insert n m (k ∷ ns) l a = by_order (int_cmp m k) (above_insert n m ns l a.1)
  where
    by_order : (o : Ordering) → Above n (insert_key int_cmp ns m) → Above n (match_ordering o (m ∷ k ∷ ns) (k ∷ ns) (k ∷ insert_key int_cmp ns m))
    by_order Less later = (l, a)
    by_order Equal later = a
    by_order Greater later = (a.0, later)

insert_rises : (m : ℤ) (ns : List ℤ) → Rises ns → Rises (insert_key int_cmp ns m)
insert_rises m [] r = (tt, tt)
insert_rises m (k ∷ ns) r = by_order (int_cmp m k) (insert_rises m ns r.1) (int_ranks m k)
  where
    by_order : (o : Ordering) → Rises (insert_key int_cmp ns m) → MatchOrdering o (m <ℤ k) (m ≡ k) (k <ℤ m) → Rises (match_ordering o (m ∷ k ∷ ns) (k ∷ ns) (k ∷ insert_key int_cmp ns m))
    by_order Less later h = ((h, above_all m k ns h r.0), r)
    by_order Equal later h = r
    by_order Greater later h = (above_insert k m ns h r.0, later)

insert_in : (m n : ℤ) (ns : List ℤ) → (m ≡ n) ⊎ In ns n → In (insert_key int_cmp ns m) n
insert_in m n [] (inl e) = inl e
insert_in m n [] (inr h) = absurd h
insert_in m n (k ∷ ns) h = by_order (int_cmp m k) (insert_in m n ns) (int_ranks m k) h
  where
    by_order : (o : Ordering) → ((m ≡ n) ⊎ In ns n → In (insert_key int_cmp ns m) n) → MatchOrdering o (m <ℤ k) (m ≡ k) (k <ℤ m) → (m ≡ n) ⊎ In (k ∷ ns) n → In (match_ordering o (m ∷ k ∷ ns) (k ∷ ns) (k ∷ insert_key int_cmp ns m)) n
    by_order Less later r h = h
    by_order Equal later r (inl e) = inl (sym r ∙ e)
    by_order Equal later r (inr h) = h
    by_order Greater later r (inl e) = inr (later (inl e))
    by_order Greater later r (inr (inl e)) = inl e
    by_order Greater later r (inr (inr h)) = inr (later (inr h))

in_insert : (m n : ℤ) (ns : List ℤ) → In (insert_key int_cmp ns m) n → (m ≡ n) ⊎ In ns n
in_insert m n [] h = h
in_insert m n (k ∷ ns) h = by_order (int_cmp m k) (in_insert m n ns) h
  where
    later : (m ≡ n) ⊎ In ns n → (m ≡ n) ⊎ In (k ∷ ns) n
    later (inl e) = inl e
    later (inr h) = inr (inr h)

    by_order : (o : Ordering) → (In (insert_key int_cmp ns m) n → (m ≡ n) ⊎ In ns n) → In (match_ordering o (m ∷ k ∷ ns) (k ∷ ns) (k ∷ insert_key int_cmp ns m)) n → (m ≡ n) ⊎ In (k ∷ ns) n
    by_order Less deeper h = h
    by_order Equal deeper h = inr h
    by_order Greater deeper (inl e) = inr (inl e)
    by_order Greater deeper (inr h) = later (deeper h)

onto_rises : (ns : List ℤ) (ps : List TPat) → Rises ns → Rises (rising_onto ns ps)
onto_rises ns [] r = r
onto_rises ns (of_number n ∷ ps) r = onto_rises (insert_key int_cmp ns n) ps (insert_rises n ns r)
onto_rises ns (any ∷ ps) r = onto_rises ns ps r
onto_rises ns (bind x ∷ ps) r = onto_rises ns ps r
onto_rises ns (of_case c qs ∷ ps) r = onto_rises ns ps r
onto_rises ns (of_truth b ∷ ps) r = onto_rises ns ps r

first_of_three : (m n : ℤ) (ns ms : List ℤ) → (m ≡ n) ⊎ In ns n → In ns n ⊎ ((m ≡ n) ⊎ In ms n)
first_of_three m n ns ms (inl e) = inr (inl e)
first_of_three m n ns ms (inr h) = inl h

onto_in : (ns : List ℤ) (ps : List TPat) (n : ℤ) → In ns n ⊎ In (literals ps) n → In (rising_onto ns ps) n
onto_in ns [] n (inl h) = h
onto_in ns [] n (inr h) = absurd h
onto_in ns (of_number m ∷ ps) n (inl h) = onto_in (insert_key int_cmp ns m) ps n (inl (insert_in m n ns (inr h)))
onto_in ns (of_number m ∷ ps) n (inr (inl e)) = onto_in (insert_key int_cmp ns m) ps n (inl (insert_in m n ns (inl e)))
onto_in ns (of_number m ∷ ps) n (inr (inr h)) = onto_in (insert_key int_cmp ns m) ps n (inr h)
onto_in ns (any ∷ ps) n h = onto_in ns ps n h
onto_in ns (bind x ∷ ps) n h = onto_in ns ps n h
onto_in ns (of_case c qs ∷ ps) n h = onto_in ns ps n h
onto_in ns (of_truth b ∷ ps) n h = onto_in ns ps n h

in_onto : (ns : List ℤ) (ps : List TPat) (n : ℤ) → In (rising_onto ns ps) n → In ns n ⊎ In (literals ps) n
in_onto ns [] n h = inl h
in_onto ns (of_number m ∷ ps) n h = by_place (in_onto (insert_key int_cmp ns m) ps n h)
  where
    by_place : In (insert_key int_cmp ns m) n ⊎ In (literals ps) n → In ns n ⊎ ((m ≡ n) ⊎ In (literals ps) n)
    by_place (inl h) = first_of_three m n ns (literals ps) (in_insert m n ns h)
    by_place (inr h) = inr (inr h)
in_onto ns (any ∷ ps) n h = in_onto ns ps n h
in_onto ns (bind x ∷ ps) n h = in_onto ns ps n h
in_onto ns (of_case c qs ∷ ps) n h = in_onto ns ps n h
in_onto ns (of_truth b ∷ ps) n h = in_onto ns ps n h

pub rising_rises : (ps : List TPat) → Rises (rising ps)
rising_rises ps = onto_rises [] ps tt

pub rising_in : (ps : List TPat) (n : ℤ) → In (literals ps) n → In (rising ps) n
rising_in ps n h = onto_in [] ps n (inr h)

pub in_rising : (ps : List TPat) (n : ℤ) → In (rising ps) n → In (literals ps) n
in_rising ps n h = by_place (in_onto [] ps n h)
  where
    by_place : In [] n ⊎ In (literals ps) n → In (literals ps) n
    by_place (inl h) = absurd h
    by_place (inr h) = h

-- ---- a number that is not among given ones

magnitude : ℤ → ℕ
magnitude (pos n) = n
magnitude (negsuc n) = 0

total : List ℤ → ℕ
total [] = 0
total (n ∷ ns) = magnitude n + total ns

pub fresh : List ℤ → ℤ
fresh ns = pos (suc (total ns))

within : (ns : List ℤ) (n : ℤ) → In ns n → magnitude n ≤ total ns
unfolding magnitude total
within [] n h = absurd h
within (m ∷ ns) n (inl e) = subst (λ k. magnitude k ≤ magnitude m + total ns) e (omega arith)
within (m ∷ ns) n (inr h) = omega (arith, within ns n h)

pub fresh_apart : (ns : List ℤ) → In ns (fresh ns) → ⊥
unfolding fresh magnitude
fresh_apart ns h = omega (arith, within ns (fresh ns) h)

-- ---- a form does not come before itself

mutual
  pub apart_from_itself : (f : TPat) → ComesBefore f f → ⊥
  apart_from_itself any h = h
  apart_from_itself (bind x) h = h
  apart_from_itself (of_number n) h = <ℤ_irrefl h
  apart_from_itself (of_truth true) h = h
  apart_from_itself (of_truth false) h = h
  apart_from_itself (of_case k fs) (inl h) = omega (arith, h)
  apart_from_itself (of_case k fs) (inr h) = all_apart_from_themselves fs h.1

  pub all_apart_from_themselves : (fs : TPats) → AllComeBefore fs fs → ⊥
  all_apart_from_themselves no_pats h = h
  all_apart_from_themselves (pat f fs) (inl h) = apart_from_itself f h
  all_apart_from_themselves (pat f fs) (inr h) = all_apart_from_themselves fs h.1
