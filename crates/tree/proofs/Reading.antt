-- The words of a record, read wherever they stand: the attribute word is above 0 exactly at a representative, a parent word leads to
-- a representative, and that of a representative to the parent's or, at the root, to itself. Assumes that neighbours are mutual and
-- that a set with a pixel in it has an attribute above 0.
use Prim.Native.Nat.{ℕ, ◌<◌}
use mathlib.Core.Logic.{◌⊎◌, inl, inr, ⊎_elim}
use mathlib.Core.Path.{◌≡◌, ◌∙◌}
use native.Mathlib.Omega.{arith}
use Rattle.sets.specs.Sets.{Positions}
use Rattle.connected.specs.Component.{Adjacency, Symmetric}
use Rattle.tree.specs.Tree.{representative, parent_representative, parent_word, attribute_word}
use Rattle.tree.proofs.Together.{together_below}
use Rattle.tree.proofs.Representatives.{representative_below, representative_again}
use Rattle.tree.proofs.Parents.{Found, Parent, Root, parent_found}
use Rattle.tree.proofs.Words.{Positive, OfRepresentative, OfOther, words}

-- par and att give the words of the record
pub record Reading (n : ℕ) (adj : Adjacency) (attr : Positions → ℕ) (g par att : ℕ → ℕ) : Type 0 where
  pub parents : (q : ℕ) → q < n → par q ≡ parent_word n adj g q
  pub attributes : (q : ℕ) → q < n → att q ≡ attribute_word n adj attr g q

-- q is a representative
abbrev pub Self : ℕ → Adjacency → (ℕ → ℕ) → ℕ → Type 0
Self n adj g q = (q < n) × (representative n adj g q ≡ q)

-- r is the representative of the parent of the node of q, or q itself if that is the root
abbrev pub Up : ℕ → Adjacency → (ℕ → ℕ) → ℕ → ℕ → Type 0
Up n adj g q r = (Parent n adj g q r) ⊎ ((Root n adj g q) × (r ≡ q))

module _ (n : ℕ) (adj : Adjacency) (symm : Symmetric adj) (g : ℕ → ℕ) where
  own_self : (q r : ℕ) → q < n → r ≡ representative n adj g q → Self n adj g r
  own_self q r b e = rw e (representative_below n adj symm g q b, representative_again n adj symm g q b)

  found_self : (q r : ℕ) → q < n → Found n adj g (g q) q r → Self n adj g r
  found_self q r b (inl (next, self)) = (together_below n adj symm g (g r) q r next.over, self)
  found_self q r b (inr (none, e)) = own_self q r b e

  found_up : (q r : ℕ) → representative n adj g q ≡ q → Found n adj g (g q) q r → Up n adj g q r
  found_up q r self (inl (next, again)) = inl next
  found_up q r self (inr (none, e)) = inr (none, e ∙ self)

module _ {n : ℕ} {adj : Adjacency} {attr : Positions → ℕ} {g par att : ℕ → ℕ} (symm : Symmetric adj) (positive : Positive n attr)
    (reading : Reading n adj attr g par att) where
  -- what the words of a pixel say
  pub at_pixel : (q : ℕ) → q < n → OfRepresentative n adj attr g q (par q) (att q) ⊎ OfOther n adj attr g q (par q) (att q)
  at_pixel q b = rw (reading.parents q b, reading.attributes q b) (words n adj attr g symm positive q b)

  pub at_marked : (q : ℕ) → q < n → 0 < att q → OfRepresentative n adj attr g q (par q) (att q)
  at_marked q b some = ⊎_elim (λ of. of) (λ other. absurd (omega (arith, other.is_zero))) (at_pixel q b)

  pub at_unmarked : (q : ℕ) → q < n → att q ≡ 0 → OfOther n adj attr g q (par q) (att q)
  at_unmarked q b none = ⊎_elim (λ of. absurd (omega (arith, of.above_zero))) (λ other. other) (at_pixel q b)

  pub at_representative : (q : ℕ) → Self n adj g q → OfRepresentative n adj attr g q (par q) (att q)
  at_representative q (b, self) = ⊎_elim (λ of. of) (λ other. absurd (omega (arith, other.lower))) (at_pixel q b)

  -- every parent word leads to a representative
  pub leads_self : (q : ℕ) → q < n → Self n adj g (par q)
  leads_self q b =
      ⊎_elim
      (λ of. rw of.is_parent (found_self n adj symm g q (parent_representative n adj g q) b (parent_found n adj symm g q)))
      (λ other. own_self n adj symm g q (par q) b other.is_own)
      (at_pixel q b)

  pub leads_marked : (q : ℕ) → q < n → 0 < att (par q)
  leads_marked q b = (at_representative (par q) (leads_self q b)).above_zero

  -- and from a representative up the tree
  pub leads_up : (q : ℕ) → q < n → 0 < att q → Up n adj g q (par q)
  leads_up q b some =
      let of = at_marked q b some in
      rw of.is_parent (found_up n adj symm g q (parent_representative n adj g q) of.self (parent_found n adj symm g q))
