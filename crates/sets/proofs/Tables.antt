-- Lists as tables, and one store more to a list that is filled from its start. What is past the end of a list reads as d. Assumes nothing.
use Prim.Native.Nat.{ℕ, ◌+◌, ◌≤◌, ◌<◌}
use mathlib.Core.List.{List}
use mathlib.Core.Logic.{⊎_elim}
use mathlib.Core.Path.{◌≡◌, refl, sym, ◌∙◌}
use native.Mathlib.Omega.{arith}
use lib.ListN.{get_or, length, set, length-set}
use lib.Seq.{get_or-set_same, get_or-set_other, ext_get_or}
use Rattle.sets.specs.Sets.{table}
use Rattle.sets.proofs.Laws.{length_table, table_at}
use Rattle.sets.proofs.Tests.{last_or_below}

-- a list that is a table: its length and its entries, and what makes it one
pub table_long : {A : Type 0} {n : ℕ} (f : ℕ → A) {xs : List A} → xs ≡ table n f → length xs ≡ n
table_long {n = n} f e = rw e (length_table n f)

module _ {A : Type 0} (d : A) {n : ℕ} (f : ℕ → A) {xs : List A} where
  pub table_read : xs ≡ table n f → (q : ℕ) → q < n → get_or xs q d ≡ f q
  table_read e q h = rw e (table_at n f q d h)

  pub as_table : length xs ≡ n → ((q : ℕ) → q < n → get_or xs q d ≡ f q) → xs ≡ table n f
  as_table long each =
      ext_get_or d xs (table n f) (long ∙ sym (length_table n f)) (λ q h. let b : q < n = omega arith in each q b ∙ sym (table_at n f q d b))

-- what holds of the entries below l, and of the one stored at l
pub stored_more :
    {A : Type 0} (d : A) (xs : List A) (F : ℕ → A) (l : ℕ) (v : A) → l < length xs → ((k : ℕ) → k < l → get_or xs k d ≡ F k) → v ≡ F l → (k : ℕ) → k < l + 1
    → get_or (set xs l v) k d ≡ F k
stored_more d xs F l v h old new k hk =
    ⊎_elim
    (λ e. rw e (get_or-set_same xs l v d h ∙ new))
    (λ below. get_or-set_other xs l k v d (λ e. omega arith) ∙ old k below)
    (last_or_below k l (omega arith))

-- a list of n entries, those below p as f gives them
pub record FilledTo {A : Type 0} (d : A) (n : ℕ) (f : ℕ → A) (xs : List A) (p : ℕ) : Type 0 where
  pub size : length xs ≡ n
  pub past : (q : ℕ) → q < p → get_or xs q d ≡ f q

module _ {A : Type 0} {d : A} {n : ℕ} {f : ℕ → A} {xs : List A} where
  pub filled_none : length xs ≡ n → FilledTo d n f xs 0
  filled_none size = record { size = size; past = λ q l. absurd (omega arith) }

  pub filled_more : {p : ℕ} → FilledTo d n f xs p → p < n → (v : A) → v ≡ f p → FilledTo d n f (set xs p v) (p + 1)
  filled_more {p} filled b v is = record {
    size = length-set xs p v ∙ filled.size;
    past = stored_more d xs f p v (omega (arith, filled.size)) filled.past is;
  }

  pub filled_all : {p : ℕ} → FilledTo d n f xs p → n ≤ p → xs ≡ table n f
  filled_all filled l = as_table d f filled.size (λ q b. filled.past q (omega arith))

-- a list of n entries that is changed in place: those below p as f gives them, the others as they were in ys
pub record ChangedTo {A : Type 0} (d : A) (n : ℕ) (f : ℕ → A) (ys xs : List A) (p : ℕ) : Type 0 where
  pub filled : FilledTo d n f xs p
  pub rest : (q : ℕ) → p ≤ q → get_or xs q d ≡ get_or ys q d

module _ {A : Type 0} {d : A} {n : ℕ} {f : ℕ → A} where
  pub changed_none : {xs : List A} → length xs ≡ n → ChangedTo d n f xs xs 0
  changed_none size = record { filled = filled_none size; rest = λ q l. refl }

  pub changed_more : {ys xs : List A} {p : ℕ} → ChangedTo d n f ys xs p → p < n → (v : A) → v ≡ f p → ChangedTo d n f ys (set xs p v) (p + 1)
  changed_more {xs = xs} {p} changed b v is = record {
    filled = filled_more changed.filled b v is;
    rest = λ q l. get_or-set_other xs p q v d (λ e. omega arith) ∙ changed.rest q (omega arith);
  }
