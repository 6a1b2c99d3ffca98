-- What a text says with numbers of 32 bits, part by part.
use mathlib.Core.Path.{◌≡◌, refl, sym, ap, ◌∙◌}
use mathlib.Core.Bool.{Bool, true, false, ◌&&◌}
use mathlib.Core.List.{List, [], ◌∷◌}
use mathlib.Core.Option.{Option, none, some, map}
use Prim.Native.Nat.{ℕ, zero, suc}
use native.Mathlib.Omega.{arith}
use lib.ListN.{length}
use lib.Dec.{eqb}
use Rattle.rules_output.specs.Reason.{Reason, kept_by, no_chain}
use Rattle.rules_output.specs.Sentence.{root_text, cell_text, block_text, no_root_text, behind, number_at, ended, links_of, read_back}
use Rattle.walk_reader.specs.Reader.{is_small, are_small, fits, small_back, when, limited, small_at, small_links, links_in}

-- ---- numbers

unfoldable one_fits : Option ℕ → Option ℕ
one_fits none = none
one_fits (some n) = when (is_small n) n

-- a number and its line end
ended_fits : (m : List ℕ) → ended (small_at m) ≡ one_fits (ended (number_at m))
unfolding small_at limited ended one_fits when
ended_fits m = number (number_at m)
  where
    line_end_lem : (n : ℕ) (t u : Bool) → is_small n ≡ t
        → elim t [ true ↦ elim u [ true ↦ some n | false ↦ none ] | false ↦ none ] ≡ one_fits (elim u [ true ↦ some n | false ↦ none ])
    line_end_lem n true true e = sym (ap (λ (s : Bool). when s n) e)
    line_end_lem n false true e = sym (ap (λ (s : Bool). when s n) e)
    line_end_lem n true false e = refl
    line_end_lem n false false e = refl

    behind_it : (n : ℕ) (rest : List ℕ) (t : Bool) → is_small n ≡ t → ended (when t (n, rest)) ≡ one_fits (ended (some (n, rest)))
    behind_it n [] true e = refl
    behind_it n [] false e = refl
    behind_it n (c ∷ []) true e = line_end_lem n true (eqb c 10) e
    behind_it n (c ∷ []) false e = line_end_lem n false (eqb c 10) e
    behind_it n (c ∷ d ∷ l) true e = refl
    behind_it n (c ∷ d ∷ l) false e = refl

    number : (o : Option (ℕ × List ℕ)) → ended (limited o) ≡ one_fits (ended o)
    number none = refl
    number (some (n, rest)) = behind_it n rest (is_small n) refl

small_is : (m : List ℕ) (r : ℕ) (rest : List ℕ) → small_at m ≡ some (r, rest) → (number_at m ≡ some (r, rest)) × (is_small r ≡ true)
unfolding small_at limited when
small_is m r rest e = number (number_at m) refl e
  where
    small : (n : ℕ) (l : List ℕ) (t : Bool) → is_small n ≡ t → when {A = ℕ × List ℕ} t (n, l) ≡ some (r, rest) → (◌≡◌ {A = Option (ℕ × List ℕ)} (some (n, l)) (some (r, rest))) × (is_small r ≡ true)
    small n l true q e =
        let both : ◌≡◌ {A = ℕ × List ℕ} (n, l) (r, rest) = cc in
        (e, ap (λ (x : ℕ × List ℕ). is_small x.0) (sym both) ∙ q)
    small n l false q e = let z : ◌≡◌ {A = ℕ} 0 1 = cc in absurd (omega arith)

    number : (o : Option (ℕ × List ℕ)) → number_at m ≡ o → limited o ≡ some (r, rest)
        → (number_at m ≡ some (r, rest)) × (is_small r ≡ true)
    number none p e = let z : ◌≡◌ {A = ℕ} 0 1 = cc in absurd (omega arith)
    number (some (n, l)) p e = let both = small n l (is_small n) refl e in (p ∙ both.0, both.1)

-- ---- links

unfoldable links_fit : Option (List ℕ × ℕ) → Option (List ℕ × ℕ)
links_fit none = none
links_fit (some y) = when (are_small y.0 && is_small y.1) y

abbrev followed_by : (v : ℕ) → Option (List ℕ × ℕ) → Option (List ℕ × ℕ)
followed_by v x = map (λ y. (v ∷ y.0, y.1)) x

link_fits : (v : ℕ) (x : Option (List ℕ × ℕ)) → is_small v ≡ true → followed_by v (links_fit x) ≡ links_fit (followed_by v x)
unfolding links_fit are_small when
link_fits v none e = refl
link_fits v (some (cells, at)) e =
    pick (are_small cells && is_small at) ∙ sym (ap (λ (s : Bool). when ((s && are_small cells) && is_small at) (v ∷ cells, at)) e)
  where
    pick : (u : Bool) → followed_by v (when u (cells, at)) ≡ when u (v ∷ cells, at)
    pick true = refl
    pick false = refl

link_large : (v : ℕ) (x : Option (List ℕ × ℕ)) → is_small v ≡ false → none ≡ links_fit (followed_by v x)
unfolding links_fit are_small when
link_large v none e = refl
link_large v (some (cells, at)) e = sym (ap (λ (s : Bool). when ((s && are_small cells) && is_small at) (v ∷ cells, at)) e)

-- no link
abbrev lone : Option ℕ → Option (List ℕ × ℕ)
lone x = map (λ at. ([], at)) x

-- what is left of a text with f links at most
abbrev LinksFit : ℕ → Type 0
LinksFit f = (m : List ℕ) → small_links f m ≡ links_fit (links_of f m)

links_fit_lem : (f : ℕ) (l : List ℕ) → small_links f l ≡ links_fit (links_of f l)
unfolding small_links links_of links_fit are_small small_at limited when one_fits
links_fit_lem zero l = refl
links_fit_lem (suc f) l = cell (λ m. links_fit_lem f m) (behind cell_text l)
  where
    test : LinksFit f → (v : ℕ) (rest : List ℕ) (t : Bool) → is_small v ≡ t
        → ◌≡◌ {A = Option (List ℕ × ℕ)} (elim (when {A = ℕ × List ℕ} t (v, rest)) [ some x ↦ followed_by x.0 (small_links f x.1) | none ↦ none ])
        (links_fit (followed_by v (links_of f rest)))
    test rec v rest true e = ap (followed_by v) (rec rest) ∙ link_fits v (links_of f rest) e
    test rec v rest false e = link_large v (links_of f rest) e

    number : LinksFit f → (o : Option (ℕ × List ℕ))
        → ◌≡◌ {A = Option (List ℕ × ℕ)} (elim (limited o) [ some x ↦ followed_by x.0 (small_links f x.1) | none ↦ none ])
        (links_fit (elim o [ some x ↦ followed_by x.0 (links_of f x.1) | none ↦ none ]))
    number rec none = refl
    number rec (some (v, rest)) = test rec v rest (is_small v) refl

    alone : (x : Option ℕ) → lone (one_fits x) ≡ links_fit (lone x)
    alone none = refl
    alone (some at) = pick (is_small at)
      where
        pick : (u : Bool) → lone (when u at) ≡ when u ([], at)
        pick true = refl
        pick false = refl

    block : (b : Option (List ℕ))
        → ◌≡◌ {A = Option (List ℕ × ℕ)} (elim b [ some m ↦ lone (ended (small_at m)) | none ↦ none ])
        (links_fit (elim b [ some m ↦ lone (ended (number_at m)) | none ↦ none ]))
    block none = refl
    block (some m) = ap (λ (x : Option ℕ). lone x) (ended_fits m) ∙ alone (ended (number_at m))

    cell : LinksFit f → (b : Option (List ℕ))
        → ◌≡◌ {A = Option (List ℕ × ℕ)}
        (elim b [
          | some m ↦ elim (small_at m) [ some x ↦ followed_by x.0 (small_links f x.1) | none ↦ none ]
          | none ↦ elim (behind block_text l) [ some m ↦ lone (ended (small_at m)) | none ↦ none ]
        ])
        (links_fit (elim b [
          | some m ↦ elim (number_at m) [ some x ↦ followed_by x.0 (links_of f x.1) | none ↦ none ]
          | none ↦ elim (behind block_text l) [ some m ↦ lone (ended (number_at m)) | none ↦ none ]
        ]))
    cell rec (some m) = number rec (number_at m)
    cell rec none = block (behind block_text l)

-- ---- the whole text

unfoldable pub keep : Option (Reason × ℕ) → Option (Reason × ℕ)
keep none = none
keep (some x) = when (fits x) x

pub back_is : (l : List ℕ) → small_back l ≡ keep (read_back l)
unfolding small_back keep
back_is l = each (read_back l)
  where
    each : (o : Option (Reason × ℕ)) → elim o [ some x ↦ when (fits x) x | none ↦ none ] ≡ keep o
    each none = refl
    each (some x) = refl

abbrev pub chained : (r : ℕ) → Option (List ℕ × ℕ) → Option (Reason × ℕ)
chained r x = map (λ y. (kept_by r y.0, y.1)) x

abbrev pub unreached : Option ℕ → Option (Reason × ℕ)
unreached x = map (λ at. (no_chain, at)) x

unreached_fits : (x : Option ℕ) → keep (unreached x) ≡ unreached (one_fits x)
unfolding keep one_fits fits when
unreached_fits none = refl
unreached_fits (some at) = pick (is_small at)
  where
    pick : (u : Bool) → when {A = Reason × ℕ} u (no_chain, at) ≡ unreached (when u at)
    pick true = refl
    pick false = refl

chained_fits : (r : ℕ) (x : Option (List ℕ × ℕ)) → is_small r ≡ true → keep (chained r x) ≡ chained r (links_fit x)
unfolding keep links_fit fits when
chained_fits r none e = refl
chained_fits r (some (cells, at)) e =
    ap (λ (s : Bool). when {A = Reason × ℕ} (s && (are_small cells && is_small at)) (kept_by r cells, at)) e ∙ pick (are_small cells && is_small at)
  where
    pick : (u : Bool) → when {A = Reason × ℕ} u (kept_by r cells, at) ≡ chained r (when u (cells, at))
    pick true = refl
    pick false = refl

chained_large : (r : ℕ) (x : Option (List ℕ × ℕ)) → is_small r ≡ false → keep (chained r x) ≡ none
unfolding keep fits when
chained_large r none e = refl
chained_large r (some (cells, at)) e = ap (λ (s : Bool). when {A = Reason × ℕ} (s && (are_small cells && is_small at)) (kept_by r cells, at)) e

module _ (l : List ℕ) where
  pub back_no_root : (m : List ℕ) → behind no_root_text l ≡ some m → small_back l ≡ unreached (ended (small_at m))
  unfolding read_back when
  back_no_root m e =
      back_is l ∙ ap keep (rw (e, read_back) refl) ∙ unreached_fits (ended (number_at m)) ∙ ap (λ (x : Option ℕ). unreached x) (sym (ended_fits m))

  module _ (no_root : behind no_root_text l ≡ none) where
    pub back_other : behind root_text l ≡ none → small_back l ≡ none
    unfolding read_back keep when
    back_other e = let is : read_back l ≡ none = rw (no_root, e, read_back) refl in back_is l ∙ ap keep is

    pub back_chain : (k : List ℕ) (r : ℕ) (rest : List ℕ) → behind root_text l ≡ some k → small_at k ≡ some (r, rest)
        → small_back l ≡ chained r (links_in rest)
    unfolding read_back when
    back_chain k r rest e number =
        let is = small_is k r rest number in
        back_is l
        ∙ ap keep (rw (no_root, e, is.0, read_back) refl)
        ∙ chained_fits r (links_of (length rest) rest) is.1
        ∙ ap (chained r) (sym (links_fit_lem (length rest) rest))

    pub back_no_number : (k : List ℕ) → behind root_text l ≡ some k → small_at k ≡ none → small_back l ≡ none
    unfolding read_back small_at limited keep when
    back_no_number k e number =
        let is : ◌≡◌ {A = Option (Reason × ℕ)} (read_back l) (elim (number_at k) [ some x ↦ chained x.0 (links_of (length x.1) x.1) | none ↦ none ]) =
        rw (no_root, e, read_back) refl in
        back_is l ∙ ap keep is ∙ large (number_at k) refl number
      where
        test : (r : ℕ) (rest : List ℕ) (t : Bool) → is_small r ≡ t → when {A = ℕ × List ℕ} t (r, rest) ≡ none → keep (chained r (links_of (length rest) rest)) ≡ none
        test r rest true q e = let z : ◌≡◌ {A = ℕ} 0 1 = cc in absurd (omega arith)
        test r rest false q e = chained_large r (links_of (length rest) rest) q

        large : (o : Option (ℕ × List ℕ)) → number_at k ≡ o → limited o ≡ none
            → keep (elim o [ some x ↦ chained x.0 (links_of (length x.1) x.1) | none ↦ none ]) ≡ none
        large none p e = refl
        large (some (r, rest)) p e = test r rest (is_small r) refl e
