-- The count columns of a walk: what they are at the point, and that no two count the same.
use Rattle.std.proofs.Common.{◌≡◌, ℕ, zero, suc, ◌+◌, ◌<◌, List, [], ◌∷◌, ◌++◌, length, map, Contains, refl, sym, ap, subst, arith, ⊎_elim}
use Rattle.std.proofs.lemmas.List.Elements.{Contains-append_left, Contains-append_right, Contains-append_cases}
use Rattle.tetri_strl.specs.declared.expr.Leaf.{Leaf}
use Rattle.tetri_strl.specs.Tree.{Tree, one, join, scale, barrier, Trees, none, more}
use Rattle.tetri_strl.specs.Tree.{numbers, numbers_of}
use Rattle.tetri_strl.specs.Tree.{leaves, leaves_of}
use Rattle.tetri_compile.specs.declared.outline.Tally.{Tally}
use Rattle.tetri_compile.specs.Draft.{leaf_tallies, tallies, tallies_of}
use Rattle.tetri_base.specs.Lists.{Each, EachPair, Ascends}
use Rattle.tetri_compile.specs.Marks.{own_values, values, values_of}
use Rattle.tetri_compile.specs.Forms.{Reads}
use Rattle.tetri_compile.specs.Walk.{own_uppers, width}
use Rattle.tetri_strl.proofs.ExprLaws.{AreApart, AreApartOf}
use Rattle.tetri_compile.proofs.WalkLemmas.{length-own, length-values}
use Rattle.tetri_compile.proofs.FormLemmas.{Reads-split}
use Rattle.tetri_base.proofs.ListLaws.{EachPair-append, Each-across, Each-from, Each-map, Each-append}

-- a leaf's number is among the numbers
mutual
  pub number_of : (t : Tree) (l : Leaf) → Contains (leaves t) l → Contains (numbers t) l.num
  number_of (one m) l at = same_leaf m l at
    where
      same_leaf : (m l : Leaf) → Contains (m ∷ []) l → Contains (m.num ∷ []) l.num
      same_leaf m l (zero, lt, e) = (0, omega arith, ap (λ j. j.num) e)
      same_leaf m l (suc k, lt, e) = absurd (omega (arith, lt))
  number_of (join op ts) l at = number_of_all ts l at
  number_of (scale t s) l at = number_of t l at
  number_of (barrier t v) l at = number_of t l at

  pub number_of_all : (ts : Trees) (l : Leaf) → Contains (leaves_of ts) l → Contains (numbers_of ts) l.num
  number_of_all none l at = absurd (omega (arith, at.1))
  number_of_all (more t ts) l at =
      ⊎_elim (λ h. Contains-append_left (numbers t) (numbers_of ts) l.num (number_of t l h))
      (λ h. Contains-append_right (numbers t) (numbers_of ts) l.num (number_of_all ts l h)) (Contains-append_cases (leaves t) (leaves_of ts) l at)

module _ (inside : ℕ → List ℕ) (usable : ℕ → Leaf → ℕ) where
  module _ (x : ℕ → ℕ) (value : Leaf → ℕ) (taken : Leaf → ℕ → ℕ) where
    abbrev pub IsRead : Tally → Type 0
    IsRead c = x c.column ≡ taken c.leaf c.part

    leaf_read : (job : ℕ) (l : Leaf) (ps : List ℕ) (n : ℕ) → Reads x n (map (taken l) ps) → Each IsRead (leaf_tallies job l ps n)
    leaf_read job l [] n h = tt
    leaf_read job l (p ∷ ps) n h = (h.0, leaf_read job l ps (n + 1) h.1)

    mutual
      pub tallies_read : (job : ℕ) (t : Tree) (n : ℕ) → Reads x n (values inside value taken t) → Each IsRead (tallies inside usable job t n)
      tallies_read job (one l) n h = leaf_read job l (inside l.set) n h
      tallies_read job (join op ts) n h =
          tallies_read_of job ts (n + length (own_uppers inside usable op ts))
          (Reads-split x n (length (own_uppers inside usable op ts)) (own_values inside value taken op ts) (values_of inside value taken ts) (length-own inside usable value taken [] op ts) h).1
      tallies_read job (scale t s) n h = tallies_read job t n h
      tallies_read job (barrier t v) n h = tallies_read job t n h

      tallies_read_of : (job : ℕ) (ts : Trees) (n : ℕ) → Reads x n (values_of inside value taken ts) → Each IsRead (tallies_of inside usable job ts n)
      tallies_read_of job none n h = tt
      tallies_read_of job (more t ts) n h =
          let parts = Reads-split x n (width inside usable t) (values inside value taken t) (values_of inside value taken ts) (length-values inside usable value taken [] t) h in
          Each-append IsRead _ _ (tallies_read job t n parts.0) (tallies_read_of job ts (n + width inside usable t) parts.1)

  all_contained : (ps : List ℕ) → Each (Contains ps) ps
  all_contained ps = Each-from (Contains ps) ps (λ p at. at)

  -- the tally is of a leaf among these, of this job
  pub record IsOf (owner : ℕ) (ls : List Leaf) (c : Tally) : Type 0 where
    pub job : c.job ≡ owner
    pub leaf : Contains ls c.leaf
    pub part : Contains (inside c.leaf.set) c.part

  IsOf-left : (job : ℕ) (ls ms : List Leaf) (c : Tally) → IsOf job ls c → IsOf job (ls ++ ms) c
  IsOf-left job ls ms c h = record { job = h.job; leaf = Contains-append_left ls ms c.leaf h.leaf; part = h.part }

  IsOf-right : (job : ℕ) (ls ms : List Leaf) (c : Tally) → IsOf job ms c → IsOf job (ls ++ ms) c
  IsOf-right job ls ms c h = record { job = h.job; leaf = Contains-append_right ls ms c.leaf h.leaf; part = h.part }

  leaf_of : (job : ℕ) (l : Leaf) (ps : List ℕ) (n : ℕ) → Each (Contains (inside l.set)) ps → Each (IsOf job (l ∷ [])) (leaf_tallies job l ps n)
  leaf_of job l [] n h = tt
  leaf_of job l (p ∷ ps) n h = (record { job = refl; leaf = (0, omega arith, refl); part = h.0 }, leaf_of job l ps (n + 1) h.1)

  mutual
    pub tallies_leaf : (job : ℕ) (t : Tree) (n : ℕ) → Each (IsOf job (leaves t)) (tallies inside usable job t n)
    tallies_leaf job (one l) n = leaf_of job l (inside l.set) n (all_contained (inside l.set))
    tallies_leaf job (join op ts) n = tallies_leaf_of job ts (n + length (own_uppers inside usable op ts))
    tallies_leaf job (scale t s) n = tallies_leaf job t n
    tallies_leaf job (barrier t v) n = tallies_leaf job t n

    pub tallies_leaf_of : (job : ℕ) (ts : Trees) (n : ℕ) → Each (IsOf job (leaves_of ts)) (tallies_of inside usable job ts n)
    tallies_leaf_of job none n = tt
    tallies_leaf_of job (more t ts) n =
        Each-append (IsOf job (leaves t ++ leaves_of ts)) _ _
        (Each-map (IsOf job (leaves t)) (IsOf job (leaves t ++ leaves_of ts)) (λ c h. IsOf-left job (leaves t) (leaves_of ts) c h) _ (tallies_leaf job t n))
        (Each-map (IsOf job (leaves_of ts)) (IsOf job (leaves t ++ leaves_of ts)) (λ c h. IsOf-right job (leaves t) (leaves_of ts) c h) _ (tallies_leaf_of job ts (n + width inside usable t)))

  -- no two count the same leaf and partition
  abbrev pub CountsOther : Tally → Tally → Type 0
  CountsOther c d = c.job ≡ d.job → c.leaf.num ≡ d.leaf.num → c.part ≡ d.part → ⊥

  abbrev AboveParts : ℕ → Tally → Type 0
  AboveParts p c = p < c.part

  leaf_above : (job p : ℕ) (l : Leaf) (ps : List ℕ) (n : ℕ) → Each (λ q. p < q) ps → Each (AboveParts p) (leaf_tallies job l ps n)
  leaf_above job p l [] n h = tt
  leaf_above job p l (q ∷ ps) n h = (h.0, leaf_above job p l ps (n + 1) h.1)

  leaf_other : (job : ℕ) (l : Leaf) (ps : List ℕ) (n : ℕ) → Ascends ps → EachPair CountsOther (leaf_tallies job l ps n)
  leaf_other job l [] n up = tt
  leaf_other job l (p ∷ ps) n up = (
    Each-map (AboveParts p) (CountsOther (record { column = n; job = job; leaf = l; part = p })) (λ c above a b e. omega (arith, above, e)) _ (leaf_above job p l ps (n + 1) up.0),
    leaf_other job l ps (n + 1) up.1,
  )

  module _ (sorted : (s : ℕ) → Ascends (inside s)) where
    mutual
      pub tallies_other : (job : ℕ) (t : Tree) (n : ℕ) → AreApart t → EachPair CountsOther (tallies inside usable job t n)
      tallies_other job (one l) n apart = leaf_other job l (inside l.set) n (sorted l.set)
      tallies_other job (join op ts) n apart = tallies_other_of job ts (n + length (own_uppers inside usable op ts)) apart
      tallies_other job (scale t s) n apart = tallies_other job t n apart
      tallies_other job (barrier t v) n apart = tallies_other job t n apart

      tallies_other_of : (job : ℕ) (ts : Trees) (n : ℕ) → AreApartOf ts → EachPair CountsOther (tallies_of inside usable job ts n)
      tallies_other_of job none n apart = tt
      tallies_other_of job (more t ts) n apart =
          EachPair-append CountsOther _ _ (tallies_other job t n apart.0) (tallies_other_of job ts (n + width inside usable t) apart.1)
          (Each-across (IsOf job (leaves t)) (IsOf job (leaves_of ts)) CountsOther
          (λ c d p q a b e. apart.2 c.leaf.num (number_of t c.leaf p.leaf) (subst (Contains (numbers_of ts)) (sym b) (number_of_all ts d.leaf q.leaf)))
          _ _ (tallies_leaf job t n) (tallies_leaf_of job ts (n + width inside usable t)))
