-- The words of a record by position, and what they say of the pixel there. Assumes that neighbours are mutual and that a set with a
-- pixel in it has an attribute above 0.
use Prim.Native.Nat.{ℕ, ◌+◌, ◌*◌, ◌≤◌, ◌<◌}
use mathlib.Core.Bool.{true}
use mathlib.Core.List.{◌++◌}
use mathlib.Core.Logic.{◌⊎◌, inl, inr, ⊎_elim}
use mathlib.Core.Path.{◌≡◌, refl, sym, ap, ◌∙◌}
use native.Mathlib.Nat.{le_refl}
use native.Mathlib.Omega.{arith}
use lib.Dec.{eqb}
use lib.ListN.{length, get_or, replicate, length-append, length-replicate, get_or-append}
use lib.Seq.{get_or-append-add}
use borrow.Author.Tests.{eqb-true, eqb-false}
use Rattle.sets.specs.Sets.{Positions, member}
use Rattle.sets.proofs.Laws.{length_table, table_at}
use Rattle.sets.proofs.Tests.{decided}
use Rattle.connected.specs.Component.{Adjacency, Symmetric}
use Rattle.opening.specs.Node.{node}
use Rattle.opening.proofs.Components.{level_self}
use Rattle.tree.specs.Tree.{representative, parent_representative, is_representative, parent_word, attribute_word, parents, attributes, listing, workspace}
use Rattle.tree.proofs.Together.{Together}
use Rattle.tree.proofs.Representatives.{representative_le}
use Rattle.tree.proofs.RootToLeaf.{length_listing}

-- a set with a pixel in it has an attribute above 0
abbrev pub Positive : ℕ → (Positions → ℕ) → Type 0
Positive n attr = (s : Positions) (q : ℕ) → q < n → s q ≡ true → 1 ≤ attr s

module _ (n : ℕ) (adj : Adjacency) (attr : Positions → ℕ) (g : ℕ → ℕ) where
  length_parents : length (parents n adj g) ≡ n
  unfolding parents
  length_parents = length_table n (parent_word n adj g)

  length_attributes : length (attributes n adj attr g) ≡ n
  unfolding attributes
  length_attributes = length_table n (attribute_word n adj attr g)

  -- the two parts before the list, and the three before the scratch
  length_two : length (parents n adj g ++ attributes n adj attr g) ≡ n + n
  length_two =
      length-append (parents n adj g) (attributes n adj attr g) ∙ omega (arith, length_parents, length_attributes)

  length_three : length (parents n adj g ++ attributes n adj attr g ++ listing n adj g) ≡ 3 * n
  length_three =
      length-append (parents n adj g ++ attributes n adj attr g) (listing n adj g) ∙ omega (arith, length_two, length_listing n adj g)

  pub length_workspace : length (workspace n adj attr g) ≡ 7 * n
  unfolding workspace
  length_workspace =
      length-append (parents n adj g ++ attributes n adj attr g ++ listing n adj g) (replicate (4 * n) 0)
      ∙ omega (arith, length_three, length-replicate {A = ℕ} (4 * n) 0)

  -- a word before the list
  word_at : (i : ℕ) → i < n + n → get_or (workspace n adj attr g) i 0 ≡ get_or (parents n adj g ++ attributes n adj attr g) i 0
  unfolding workspace
  word_at i b =
      get_or-append
      (parents n adj g ++ attributes n adj attr g ++ listing n adj g)
      (replicate (4 * n) 0)
      0
      i
      (omega (arith, length_three))
      ∙ get_or-append (parents n adj g ++ attributes n adj attr g) (listing n adj g) 0 i (omega (arith, length_two))

  pub parent_at : (p : ℕ) → p < n → get_or (workspace n adj attr g) p 0 ≡ parent_word n adj g p
  unfolding parents
  parent_at p b =
      word_at p (omega arith)
      ∙ get_or-append (parents n adj g) (attributes n adj attr g) 0 p (omega (arith, length_parents))
      ∙ table_at n (parent_word n adj g) p 0 b

  pub attribute_at : (p : ℕ) → p < n → get_or (workspace n adj attr g) (n + p) 0 ≡ attribute_word n adj attr g p
  unfolding attributes
  attribute_at p b =
      word_at (n + p) (omega arith)
      ∙ ap (λ (k : ℕ). get_or (parents n adj g ++ attributes n adj attr g) (k + p) 0) (sym length_parents)
      ∙ get_or-append-add (parents n adj g) (attributes n adj attr g) p 0
      ∙ table_at n (attribute_word n adj attr g) p 0 b

  pub listed_at : (i : ℕ) → i < n → get_or (workspace n adj attr g) (2 * n + i) 0 ≡ get_or (listing n adj g) i 0
  unfolding workspace
  listed_at i b =
      let two : 2 * n ≡ length (parents n adj g ++ attributes n adj attr g) = omega (arith, length_two) in
      get_or-append
      (parents n adj g ++ attributes n adj attr g ++ listing n adj g)
      (replicate (4 * n) 0)
      0
      (2 * n + i)
      (omega (arith, length_three))
      ∙ ap (λ (k : ℕ). get_or (parents n adj g ++ attributes n adj attr g ++ listing n adj g) (k + i) 0) two
      ∙ get_or-append-add (parents n adj g ++ attributes n adj attr g) (listing n adj g) i 0

  -- what the two words of a representative say
  pub record OfRepresentative (p parent word : ℕ) : Type 0 where
    pub self : representative n adj g p ≡ p
    pub is_parent : parent ≡ parent_representative n adj g p
    pub is_attribute : word ≡ attr (member (node n adj g p))
    pub above_zero : 1 ≤ word

  -- and what those of any other pixel say
  pub record OfOther (p parent word : ℕ) : Type 0 where
    pub is_own : parent ≡ representative n adj g p
    pub lower : representative n adj g p < p
    pub is_zero : word ≡ 0

  pub words : Symmetric adj → Positive n attr → (p : ℕ) → p < n
      → OfRepresentative p (parent_word n adj g p) (attribute_word n adj attr g p)
      ⊎ OfOther p (parent_word n adj g p) (attribute_word n adj attr g p)
  unfolding parent_word attribute_word is_representative
  words symm some p b =
      let self : Together n adj g (g p) p p = level_self n adj g (g p) p b (le_refl (g p)) in
      ⊎_elim
      (λ e. inl (record {
        self = eqb-true (representative n adj g p) p e;
        is_parent = rw e;
        is_attribute = rw e;
        above_zero = rw e (some (member (node n adj g p)) p b self);
      }))
      (λ e. inr (record {
        is_own = rw e;
        lower = omega (arith, representative_le n adj symm g p p self refl, eqb-false (representative n adj g p) p e);
        is_zero = rw e;
      }))
      (decided (eqb (representative n adj g p) p))
