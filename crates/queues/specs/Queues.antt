-- The queues of the levels and the numbers of the nodes, on the lists that their functions are lent.
use Rattle.std.specs.Prelude.{ℕ, suc, ◌+◌, ◌*◌, ◌-◌, ◌≤◌, ◌<◌, List, ◌⊎◌, ◌≡◌, Option, MatchOption, get_or, length, set}
use Rattle.causes.specs.Bounds.{most_pixels}
use Rattle.levels.specs.Tables.{Changed}
use Rattle.levels.specs.Workspace.{Sized, number_at, closed_of, drop_of, order_of, up_of}
use Rattle.flooding.specs.Flooding.{State}
use Rattle.flooding.specs.Numbers.{Numbers, Numbering, Shutting}
use Rattle.queues.specs.declared.Opened.{Opened}
use Rattle.queues.specs.declared.Queues.{Queues}
use Rattle.queues.specs.Marks.{Marked}

-- the words of a workspace, the heads and the tails of the levels' queues, and the open nodes: the number of each level's, the set of
-- the open levels, how many numbers are taken and how many nodes are closed
pub record Lists : Type 0 where
  pub words : List ℕ
  pub heads : List ℕ
  pub tails : List ℕ
  pub opened : Opened

abbrev pub lists : List ℕ → List ℕ → List ℕ → Opened → Lists
lists ws heads tails opened = record { words = ws; heads = heads; tails = tails; opened = opened }

-- those of a workspace and its queues
abbrev pub lists_of : List ℕ → Queues → Lists
lists_of ws queues = lists ws queues.heads queues.tails queues.opened

abbrev pub taken_of : Opened → ℕ
taken_of opened = opened.taken

abbrev pub done_of : Opened → ℕ
done_of opened = opened.closed

-- the tables of the open nodes are whole
pub record Whole (opened : Opened) : Type 0 where
  pub numbers : length opened.numbers ≡ 256
  pub levels : length opened.levels ≡ 4

-- the numbers that they hold
abbrev pub numbers_of : ℕ → List ℕ → Opened → Numbers
numbers_of n ws opened =
    record {
      num = number_at ws;
      up = up_of n ws;
      closed = closed_of n ws;
      drop = drop_of n ws;
      open_at = λ (k : ℕ). get_or opened.numbers k 0;
      taken = taken_of opened;
      done = done_of opened;
    }

-- the state that they hold, with the parents and the roots that the numbers stand for
abbrev pub state_of : ℕ → (ℕ → ℕ) → (ℕ → ℕ) → Lists → State
state_of n par root s =
    record {
      par = par;
      ord = order_of n s.words;
      head = λ (k : ℕ). get_or s.heads k 0;
      tail = λ (k : ℕ). get_or s.tails k 0;
      root = root;
    }

-- a node of level l is open, or a number is left for one
pub record Nameable (n l : ℕ) (opened : Opened) : Type 0 where
  pub small : n ≤ most_pixels
  pub level : l < 256
  pub held : get_or opened.numbers l 0 ≤ n
  pub left : get_or opened.numbers l 0 ≡ n → taken_of opened < n
  pub wide : Whole opened
  pub marks : Marked n opened

-- k is the number of the open node of level l; where none was open it is the next
pub record Naming (n l : ℕ) (opened : Opened) (k : ℕ) (opened' : Opened) : Type 0 where
  pub which :
      ((get_or opened.numbers l 0 < n) × (k ≡ get_or opened.numbers l 0) × (taken_of opened' ≡ taken_of opened))
      ⊎ ((get_or opened.numbers l 0 ≡ n) × (k ≡ taken_of opened) × (taken_of opened' ≡ suc (taken_of opened)))
  pub open_at : Changed 256 (λ j. get_or opened.numbers j 0) (λ j. get_or opened'.numbers j 0) l k
  pub done : done_of opened' ≡ done_of opened
  pub wide : Whole opened'
  pub marks : Marked n opened'

-- a further number can be counted for level l
pub record Nextable (l : ℕ) (opened : Opened) : Type 0 where
  pub level : l < 256
  pub small : taken_of opened < most_pixels

-- where no node of level l was open, k is the next number
abbrev pub NextNamed : ℕ → Opened → ℕ → Opened → Type 0
NextNamed l opened k opened' = (n : ℕ) → Nameable n l opened → get_or opened.numbers l 0 ≡ n → Naming n l opened k opened'

-- the number k and the place t can be stored for the pixel q
pub record Puttable (n q k t : ℕ) (ws : List ℕ) : Type 0 where
  pub sized : Sized n ws
  pub within : q < n
  pub number : k < n
  pub place : t < n

-- the number k at pixel q, and q at the place t of the runs
abbrev pub pushed_words : ℕ → List ℕ → ℕ → ℕ → ℕ → List ℕ
pushed_words n ws q k t = set (set ws q k) (2 * n + t) q

-- there is room for q, of number k, at the end of the run of level l
pub record Appendable (n q l k : ℕ) (ws tails : List ℕ) : Type 0 where
  pub level : l < 256
  pub wide_tails : length tails ≡ 256
  pub fits : Puttable n q k (get_or tails l 0) ws

-- there is room for q at the end of the run of level l, and a number for it
pub record Fitting (n q l : ℕ) (ws tails : List ℕ) (opened : Opened) : Type 0 where
  pub sized : Sized n ws
  pub within : q < n
  pub free : get_or tails l 0 < n
  pub wide_tails : length tails ≡ 256
  pub nameable : Nameable n l opened

-- q stands at the end of the run of level l, and has taken a number
pub record Placing (n q l : ℕ) (ws tails : List ℕ) (opened : Opened) (ws' tails' : List ℕ) (opened' : Opened) : Type 0 where
  pub wide_tails : length tails' ≡ 256
  pub wide_opened : Whole opened'
  pub marks : Marked n opened'
  pub numbering : Numbering n l q (number_at ws' q) (numbers_of n ws opened) (numbers_of n ws' opened')
  pub ord : Changed n (order_of n ws) (order_of n ws') (get_or tails l 0) q
  pub tail : Changed 256 (λ k. get_or tails k 0) (λ k. get_or tails' k 0) l (suc (get_or tails l 0))

-- a node of level l is open, and t is a place of the runs
pub record Replaceable (n q l t : ℕ) (ws : List ℕ) (opened : Opened) : Type 0 where
  pub sized : Sized n ws
  pub within : q < n
  pub place : t < n
  pub nameable : Nameable n l opened
  pub open_here : get_or opened.numbers l 0 < n

-- q stands at the place t, and has the number of the open node of level l
pub record Replacing (n q l t : ℕ) (ws : List ℕ) (opened : Opened) (ws' : List ℕ) : Type 0 where
  pub numbering : Numbering n l q (number_at ws' q) (numbers_of n ws opened) (numbers_of n ws' opened)
  pub ord : Changed n (order_of n ws) (order_of n ws') t q

-- no level below l is open
abbrev pub NoneOpen : ℕ → Opened → ℕ → Type 0
NoneOpen n opened l = (k : ℕ) → k < l → get_or opened.numbers k 0 ≡ n

-- m is the brightest open level below l
pub record NextOpen (n : ℕ) (opened : Opened) (l m : ℕ) : Type 0 where
  pub lower : m < l
  pub open_here : get_or opened.numbers m 0 ≡ n → ⊥
  pub next : (k : ℕ) → m < k → k < l → get_or opened.numbers k 0 ≡ n

-- the search below level l answers m: the brightest open level there, none where there is none
abbrev pub NextBelow : ℕ → Opened → ℕ → Option ℕ → Type 0
NextBelow n opened l m = MatchOption m (NoneOpen n opened l) (NextOpen n opened l)

-- level l is open, and its node can be closed
pub record Closable (n : ℕ) (ws : List ℕ) (opened : Opened) (l : ℕ) : Type 0 where
  pub sized : Sized n ws
  pub wide : Whole opened
  pub marks : Marked n opened
  pub level : l < 256
  pub open_here : get_or opened.numbers l 0 < n
  pub within : (k : ℕ) → k < 256 → get_or opened.numbers k 0 ≤ n
  pub left : done_of opened < n

-- the node of level l is closed, its parent's number is p and its drop d, and the queues stay
pub record Shut (n : ℕ) (ws : List ℕ) (opened : Opened) (ws' : List ℕ) (opened' : Opened) (l p d : ℕ) : Type 0 where
  pub wide : Whole opened'
  pub marks : Marked n opened'
  pub shutting : Shutting n l (get_or opened.numbers l 0) p d (numbers_of n ws opened) (numbers_of n ws' opened')
  pub ord : (i : ℕ) → i < n → order_of n ws' i ≡ order_of n ws i

-- the node of level l is closed below that of level m; the last, where there is no such level, is its own parent
abbrev pub ClosedTo : ℕ → List ℕ → Opened → List ℕ → Opened → ℕ → Option ℕ → Type 0
ClosedTo n ws opened ws' opened' l below =
    MatchOption
    below
    (NoneOpen n opened l × Shut n ws opened ws' opened' l (get_or opened.numbers l 0) 0)
    (λ (m : ℕ). NextOpen n opened l m × Shut n ws opened ws' opened' l (get_or opened.numbers m 0) (l - m))
