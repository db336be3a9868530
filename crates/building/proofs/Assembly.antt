-- The flood and the passes over the words of the nodes: what holds after each, and that it is what the next asks.
use Prim.Native.Nat.{ℕ, ◌+◌, ◌/◌, ◌%◌, ◌<◌}
use mathlib.Core.List.{List}
use mathlib.Core.Path.{◌≡◌, sym, ap, ◌∙◌}
use native.Mathlib.Nat.{le_refl, mod-lt}
use native.Mathlib.Omega.{arith}
use lib.Dec.{eqb}
use lib.ListN.{get_or, length}
use borrow.Author.Tests.{eqb-true, eq-eqb}
use Rattle.sets.specs.Sets.{member}
use Rattle.sets.specs.Gather.{first_in}
use Rattle.sets.proofs.Gather.{gather_ext, first_in_le, first_in_holds}
use Rattle.connected.specs.Component.{Adjacency, Symmetric}
use Rattle.opening.specs.Node.{node}
use Rattle.opening.proofs.Components.{level_self}
use Rattle.opening.proofs.Levels.{cond_case}
use Rattle.grid.specs.Pixels.{pixels}
use Rattle.grid.specs.Neighbours.{adjacent}
use Rattle.grid.specs.Attributes.{side, attribute}
use Rattle.grid.specs.declared.Grid.{Grid}
use Rattle.grid.proofs.Attributes.{adjacent_symmetric}
use Rattle.grid.proofs.Frame.{row_below}
use Rattle.tree.specs.Forest.{Forest, node_root, lowest}
use Rattle.tree.specs.Tree.{parent_representative}
use Rattle.tree.proofs.Record.{representative_lowest, parent_lowest}
use Rattle.causes.specs.Bounds.{longest_side}
use Rattle.causes.proofs.Laws.{Bounded, bounded}
use Rattle.levels.specs.Levels.{grey}
use Rattle.levels.specs.Workspace.{Sized, number_at, numbered, closed_of, lowest_of, up_of, held_of}
use Rattle.flooding.specs.Numbers.{parent_by}
use Rattle.flood.specs.Calls.{NumberedBy}
use Rattle.accumulators.specs.Accumulators.{nothing, single, combined, measured, gathered, Short}
use Rattle.accumulators.proofs.Accumulators.{single_small, gathered_ends, measured_attribute}
use Rattle.branches.specs.Branches.{branch}
use Rattle.branches.proofs.Branches.{node_branch}
use Rattle.numbers.specs.Nodes.{NodesOf}
use Rattle.numbers.proofs.Same.{order_same, drops_same, numbered_same}
use Rattle.numbers.proofs.Numbers.{number_forest, parent_first, number_root, number_lowest}
use Rattle.own_pixels.specs.OwnPixels.{Countable, Owned}
use Rattle.descendants.specs.Pouring.{Pourable, Poured}
use Rattle.building.specs.Building.{Buildable, Measured}

-- the picture fits the grid, and the workspace the picture
pub record Fitted (grid : Grid) (picture ws : List ℕ) : Type 0 where
  pub fits : Bounded grid.width grid.height
  pub bytes : length picture ≡ pixels grid
  pub greys : (x : ℕ) → grey picture x < 256
  pub sized : Sized (length picture) ws

-- the flood leaves the numbers of m nodes
pub record FloodLeft (grid : Grid) (picture ws : List ℕ) (m : ℕ) : Type 0 where
  pub fitted : Fitted grid picture ws
  pub numbers : NumberedBy grid picture ws m

-- the pass over the own pixels leaves the lowest own pixel of each node and the accumulator of its own pixels
pub record OwnLeft (grid : Grid) (a : ℕ) (picture ws : List ℕ) (m : ℕ) : Type 0 where
  pub flood : FloodLeft grid picture ws m
  pub lowest : (k : ℕ) → k < m → lowest_of (length picture) ws k ≡ first_in (length picture) (numbered ws k)
  pub held : (k : ℕ) → k < m → held_of (length picture) ws k ≡ gathered a (length picture) (single grid a) (numbered ws k)

pub resized : {grid : Grid} {picture ws ws' : List ℕ} → length ws' ≡ length ws → Fitted grid picture ws → Fitted grid picture ws'
resized long F =
    record {
      fits = F.fits;
      bytes = F.bytes;
      greys = F.greys;
      sized = record { words = long ∙ F.sized.words; small = F.sized.small };
    }

module _ {grid : Grid} {picture ws : List ℕ} (B : Buildable grid picture ws) where
  fits : Bounded grid.width grid.height
  fits = bounded grid.width grid.height B.sides

  pub sized : {ws' : List ℕ} → length ws' ≡ length ws → Sized (length picture) ws'
  sized long = record { words = long ∙ omega (arith, B.bytes, B.words); small = omega (arith, B.bytes, fits.small) }

  pub rebuildable : {ws' : List ℕ} → length ws' ≡ length ws → Buildable grid picture ws'
  rebuildable long = record { sides = B.sides; bytes = B.bytes; words = long ∙ B.words }

  pub flood_left : {ws' : List ℕ} {m : ℕ} → ((x : ℕ) → grey picture x < 256) → length ws' ≡ length ws → NumberedBy grid picture ws' m → FloodLeft grid picture ws' m
  flood_left greys long left =
      record { fitted = record { fits = fits; bytes = B.bytes; greys = greys; sized = sized long }; numbers = left }

-- rows and columns are short
pub short : {grid : Grid} {picture ws : List ℕ} → Fitted grid picture ws → (a q : ℕ) → q < length picture → Short grid a q
unfolding side
short {grid} F a q b =
    cond_case
    (λ (k : ℕ). k < longest_side)
    (eqb a 2)
    (λ e. omega (arith, row_below grid F.fits.wide q (omega (arith, F.bytes)), F.fits.not_higher))
    (λ e. omega (arith, mod-lt q F.fits.wide, F.fits.not_wider))

-- the pass over the own pixels
module _ {grid : Grid} {a : ℕ} {picture ws : List ℕ} {m : ℕ} (F : FloodLeft grid picture ws m) where
  pub own_asked : Countable grid a (length picture) m ws
  own_asked =
      record {
        sized = F.fitted.sized;
        few = F.numbers.few;
        whole = F.fitted.bytes;
        wide = F.fitted.fits.wide;
        high = F.fitted.fits.high;
        short = short F.fitted a;
        within = F.numbers.within;
        some = λ k b. (F.numbers.first k, F.numbers.first_within k b, F.numbers.first_own k b);
      }

  module _ {ws' : List ℕ} (O : Owned grid a (length picture) m ws ws') where
    same_number : (q : ℕ) → q < length picture → number_at ws' q ≡ number_at ws q
    same_number q b = O.kept.before q (omega arith)

    same_word : (i : ℕ) → i < m → get_or ws' (length picture + i) 0 ≡ get_or ws (length picture + i) 0
    same_word i b = O.kept.before (length picture + i) (omega (arith, F.numbers.few))

    same_own : (k x : ℕ) → x < length picture → numbered ws k x ≡ numbered ws' k x
    same_own k x b = ap (λ (i : ℕ). eqb i k) (sym (same_number x b))

    pub own_left : OwnLeft grid a picture ws' m
    own_left =
        record {
          flood =
              record {
                fitted = resized O.kept.words F.fitted;
                numbers =
                    numbered_same
                    same_number
                    O.kept.ups
                    (λ i b. ap (λ (v : ℕ). v / 256) (same_word i b))
                    (λ i b. ap (λ (v : ℕ). v % 256) (same_word i b))
                    F.numbers;
              };
          lowest = λ k b. O.lowest k b ∙ gather_ext (length picture) _ _ _ (numbered ws k) (numbered ws' k) (same_own k);
          held = λ k b.
              O.held k b
              ∙ gather_ext (length picture) (combined a) (nothing a) (single grid a) (numbered ws k) (numbered ws' k) (same_own k);
        }

-- the pass over the descendants
module _ {grid : Grid} {a : ℕ} {picture ws : List ℕ} {m : ℕ} (O : OwnLeft grid a picture ws m) where
  abbrev pub pour_asked : Pourable a picture ws m
  pour_asked =
      record {
        sized = O.flood.fitted.sized;
        adj = adjacent grid;
        symm = adjacent_symmetric grid;
        numbered = O.flood.numbers;
        value = single grid a;
        small = λ q b. single_small grid a q (short O.flood.fitted a q b);
        ends = λ s q b i e. gathered_ends grid a (length picture) s q b i (short O.flood.fitted a) e;
        own = O.held;
      }

  -- after it the words of the nodes are whole
  module _ {ws' : List ℕ} (P : Poured a picture ws ws' m) where
    abbrev n : ℕ
    n = length picture

    abbrev adj : Adjacency
    adj = adjacent grid

    abbrev symm : Symmetric adj
    symm = adjacent_symmetric grid

    abbrev g : ℕ → ℕ
    g = grey picture

    abbrev N : NumberedBy grid picture ws m
    N = O.flood.numbers

    abbrev par : ℕ → ℕ
    par = parent_by N.first (number_at ws) (up_of n ws)

    forest : Forest n adj g par
    forest = number_forest N symm

    kept_number : (q : ℕ) → q < n → number_at ws' q ≡ number_at ws q
    kept_number q b = P.before q (omega arith)

    kept_word : (i : ℕ) → i < m → get_or ws' (n + i) 0 ≡ get_or ws (n + i) 0
    kept_word i b = P.before (n + i) (omega (arith, N.few))

    kept_closed : (i : ℕ) → i < m → closed_of n ws' i ≡ closed_of n ws i
    kept_closed i b = ap (λ (v : ℕ). v / 256) (kept_word i b)

    -- the lowest own pixel that is noted for a number is that of its node
    lowest_is : (k : ℕ) → k < m → lowest_of n ws' k ≡ first_in n (numbered ws k)
    lowest_is k b = P.lowests k b ∙ O.lowest k b

    lowest_within : (k : ℕ) → k < m → first_in n (numbered ws k) < n
    lowest_within k b =
        omega (
          arith,
          N.first_within k b,
          first_in_le n (numbered ws k) (N.first k) (N.first_within k b) (eq-eqb (number_at ws (N.first k)) k (N.first_own k b)),
        )

    lowest_numbered : (k : ℕ) → k < m → number_at ws (first_in n (numbered ws k)) ≡ k
    lowest_numbered k b =
        eqb-true (number_at ws (first_in n (numbered ws k))) k (first_in_holds n (numbered ws k) (lowest_within k b))

    -- and has its level
    lowest_level : (k : ℕ) → k < m → g (lowest_of n ws' k) ≡ g (N.first k)
    lowest_level k b =
        rw (lowest_is k b) (sym (rw (lowest_numbered k b) at (N.level (first_in n (numbered ws k)) (lowest_within k b))))

    lowest_first : (k : ℕ) → k < m → lowest_of n ws' k ≡ lowest n g par (N.first k)
    lowest_first k b = lowest_is k b ∙ sym (number_lowest N k b)

    lowest_root : (q : ℕ) → q < n → lowest_of n ws' (number_at ws q) ≡ lowest n g par (node_root g par q)
    lowest_root q b =
        lowest_first (number_at ws q) (N.within q b) ∙ ap (lowest n g par) (sym (number_root N q b))

    -- the representative p of the node k
    module _ (k : ℕ) (b : k < m) (p : ℕ) (c : p < n) (own : number_at ws p ≡ k) where
      parent_is : lowest_of n ws' (up_of n ws' k) ≡ parent_representative n adj g p
      parent_is =
          ap (lowest_of n ws') (P.ups k b)
          ∙ lowest_first (up_of n ws k) (N.up_within k b)
          ∙ ap (lowest n g par) (sym (ap par (number_root N p c ∙ ap N.first own) ∙ parent_first N k b))
          ∙ sym (parent_lowest n adj symm g par forest p c)

      attribute_is : held_of n ws' k ≡ attribute grid a (member (node n adj g p))
      attribute_is =
          P.measures pour_asked k b
          ∙ ap
          (measured a)
          (gather_ext
          n
          (combined a)
          (nothing a)
          (single grid a)
          (branch g par (N.first k))
          (member (node n adj g p))
          (λ x d.
          sym
          (node_branch n adj symm g par forest p x c d
          ∙ ap (λ (r : ℕ). branch g par r x) (number_root N p c ∙ ap N.first own))))
          ∙ measured_attribute
          grid
          a
          n
          (member (node n adj g p))
          p
          c
          (level_self n adj g (g p) p c (le_refl (g p)))
          (short O.flood.fitted a)
          O.flood.fitted.sized.small
          O.flood.fitted.bytes

    nodes_left : NodesOf grid a picture ws' m
    nodes_left =
        record {
          few = N.few;
          within = λ q b. rw (kept_number q b) (N.within q b);
          low_within = λ k b. rw (lowest_is k b) (lowest_within k b);
          low_own = λ k b.
              rw (lowest_is k b) (kept_number (first_in n (numbered ws k)) (lowest_within k b) ∙ lowest_numbered k b);
          ups = λ k b. rw (P.ups k b) (N.up_within k b);
          representatives = λ q b.
              ap (lowest_of n ws') (kept_number q b) ∙ lowest_root q b ∙ sym (representative_lowest n adj symm g par forest q b);
          parents = λ k b.
              rw (lowest_is k b) (parent_is k b (first_in n (numbered ws k)) (lowest_within k b) (lowest_numbered k b));
          attributes = λ k b.
              rw (lowest_is k b) (attribute_is k b (first_in n (numbered ws k)) (lowest_within k b) (lowest_numbered k b));
          order = order_same P.ups kept_closed N.order;
          drops =
              drops_same P.ups kept_closed N.order lowest_level (λ i b. ap (λ (v : ℕ). v % 256) (kept_word i b)) N.up_within N.drops;
        }

    -- the nodes keep their numbers
    numbers_left : NumberedBy grid picture ws' m
    numbers_left = numbered_same kept_number P.ups kept_closed (λ i b. ap (λ (v : ℕ). v % 256) (kept_word i b)) N

    pub measured_nodes : {lent : List ℕ} → Owned grid a n m lent ws → Buildable grid picture ws' → Measured grid a picture m lent ws'
    measured_nodes owned B =
        record {
          noded = record { buildable = B; nodes = nodes_left };
          flooded = record { buildable = B; numbers = numbers_left };
          before = λ x b. P.before x b ∙ owned.kept.before x b;
        }
