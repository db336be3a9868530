-- A part of a list that is lent and comes back, with words stored in it or filled with one word, and what two stores to a list do to its
-- entries. Assumes nothing.
use Prim.Native.Nat.{ℕ, ◌+◌, ◌-◌, ◌≤◌, ◌<◌}
use mathlib.Core.List.{List, ◌++◌, append_assoc, append-nil}
use mathlib.Core.Path.{◌≡◌, refl, sym, ap, ◌∙◌}
use native.Mathlib.Omega.{arith}
use lib.ListN.{get_or, length, set, take, drop, replicate, get_or-append, get_or-replicate, length-set, length-append, length-replicate, length-drop, replicate-append-replicate, drop_of_length-le}
use lib.Seq.{get_or-append-add, get_or-set_same, get_or-set_other, length-take-le, get_or-take, get_or-drop, take-add, take-take, take_at, drop-drop, drop-append-add, take-set-lt, take-set-le, drop-set-lt, drop-set-add}
use borrow.Rule.Slice.PartMut.{mid_of, put_mid, mid_len, Post-is, set_mid_at}
use Rattle.parts.specs.Parts.{filled}

-- the part from a up to e as it is lent, and the list with what comes back in its place
abbrev pub lent : ℕ → ℕ → List ℕ → List ℕ
lent a e xs = mid_of a (e - a) xs

abbrev pub returned : ℕ → ℕ → List ℕ → List ℕ → List ℕ
returned a e xs part = put_mid a (e - a) xs part

module _ (a e : ℕ) (xs : List ℕ) (high : e ≤ length xs) where
  pub lent_long : length (lent a e xs) ≡ e - a
  lent_long = mid_len a e xs high

  pub lent_read : (i : ℕ) → a + i < e → get_or (lent a e xs) i 0 ≡ get_or xs (a + i) 0
  lent_read i l = get_or-take (e - a) (drop a xs) i 0 (omega arith) ∙ get_or-drop a xs i 0

  -- a store to the part is one to the list
  pub stored_in : (i v : ℕ) → a + i < e → returned a e xs (set (lent a e xs) i v) ≡ set xs (a + i) v
  stored_in i v l = set_mid_at a (e - a) i xs v (rw lent_long (omega arith))

  -- the part comes back with one word stored
  pub part_stored : (i v : ℕ) → a + i < e → {ys part : List ℕ} → ys ≡ xs → part ≡ set (lent a e ys) i v → returned a e ys part ≡ set xs (a + i) v
  part_stored i v l same one = rw (one, same) (stored_in i v l)

-- two stores to the part are two to the list
pub two_stored_in : (a e : ℕ) (xs : List ℕ) → e ≤ length xs → (i u j v : ℕ) → a + i < e → a + j < e → returned a e xs (set (set (lent a e xs) i u) j v) ≡ set (set xs (a + i) u) (a + j) v
two_stored_in a e xs high i u j v l m =
    let here : i < e - a = omega arith in
    let after : a ≤ a + i = omega arith in
    rw
    (drop-set-add a xs i u, take-set-lt (e - a) (drop a xs) i u here, drop-set-lt (e - a) (drop a xs) i u here, take-set-le a xs (a + i) u after)
    at (stored_in a e (set xs (a + i) u) (rw (length-set xs (a + i) u) high) j v m)

module _ (a e v : ℕ) (xs : List ℕ) (low : a ≤ e) (high : e ≤ length xs) where
  -- the part comes back filled
  pub part_filled : {ys part : List ℕ} → ys ≡ xs → part ≡ replicate (length (lent a e ys)) v → returned a e ys part ≡ filled a e v xs
  part_filled same all = rw (all, same, lent_long a e xs high, Post-is a e xs low) refl

  front : length (take a xs) ≡ a
  front = length-take-le a xs (omega arith)

  pub filled_long : length (filled a e v xs) ≡ length xs
  filled_long =
      simp (length-append, length-replicate, length-drop) (omega (arith, front))

  -- what it holds before the part, in it and after it
  pub filled_before : (x : ℕ) → x < a → get_or (filled a e v xs) x 0 ≡ get_or xs x 0
  filled_before x l = get_or-append (take a xs) _ 0 x (rw front l) ∙ get_or-take a xs x 0 l

  pub filled_inside : (x : ℕ) → a + x < e → get_or (filled a e v xs) (a + x) 0 ≡ v
  filled_inside x l =
      let here : x < e - a = omega arith in
      ap (λ (k : ℕ). get_or (filled a e v xs) (k + x) 0) (sym front)
      ∙ get_or-append-add (take a xs) _ x 0
      ∙ get_or-append (replicate (e - a) v) _ 0 x (rw (length-replicate (e - a) v) here)
      ∙ get_or-replicate (e - a) x v 0 here

  pub filled_after : (x : ℕ) → get_or (filled a e v xs) (e + x) 0 ≡ get_or xs (e + x) 0
  filled_after x =
      let whole : e + x ≡ length (take a xs) + (length (replicate (e - a) v) + x) = omega (arith, front, length-replicate (e - a) v) in
      ap (λ (k : ℕ). get_or (filled a e v xs) k 0) whole
      ∙ get_or-append-add (take a xs) _ (length (replicate (e - a) v) + x) 0
      ∙ get_or-append-add (replicate (e - a) v) _ x 0
      ∙ get_or-drop e xs x 0

-- a part filled from its entry k on
pub rest_filled : (a e k v : ℕ) (xs : List ℕ) → a + k ≤ e → e ≤ length xs → {part : List ℕ} → part ≡ take k (lent a e xs) ++ replicate (length (lent a e xs) - k) v → returned a e xs part ≡ filled (a + k) e v xs
rest_filled a e k v xs low high all =
    let times : e - a - k ≡ e - (a + k) = omega arith in
    let short : take k (take (e - a) (drop a xs)) ≡ take k (drop a xs) = take-take k (e - a) (drop a xs) (omega arith) in
    let rest : List ℕ = replicate (e - (a + k)) v in
    rw
    (all, lent_long a e xs high, Post-is a e xs (omega arith), short, times, take-add a k xs)
    (ap (λ (l : List ℕ). take a xs ++ l) (append_assoc (take k (drop a xs)) rest (drop e xs))
    ∙ sym (append_assoc (take a xs) (take k (drop a xs)) (rest ++ drop e xs)))

-- a part filled with the word of the part before it
filled_on : (a b e v : ℕ) (xs : List ℕ) → a ≤ b → b ≤ e → e ≤ length xs → filled b e v (filled a b v xs) ≡ filled a e v xs
filled_on a b e v xs low on high =
    let head : List ℕ = take a xs ++ replicate (b - a) v in
    let long : length head ≡ b = simp (length-append, length-replicate) (omega (arith, length-take-le a xs (omega arith))) in
    let split : filled a b v xs ≡ head ++ drop b xs = sym (append_assoc (take a xs) (replicate (b - a) v) (drop b xs)) in
    let here : e ≡ length head + (e - b) = omega arith in
    let there : b + (e - b) ≡ e = omega arith in
    let times : b - a + (e - b) ≡ e - a = omega arith in
    let rest : drop e (head ++ drop b xs) ≡ drop e xs =
    ap (λ (i : ℕ). drop i (head ++ drop b xs)) here
    ∙ drop-append-add head (drop b xs) (e - b)
    ∙ drop-drop (e - b) b xs
    ∙ ap (λ (i : ℕ). drop i xs) there in
    rw
    (split, take_at head (drop b xs) b long, rest)
    (append_assoc (take a xs) (replicate (b - a) v) (replicate (e - b) v ++ drop e xs)
    ∙ ap (λ (l : List ℕ). take a xs ++ l) (sym (append_assoc (replicate (b - a) v) (replicate (e - b) v) (drop e xs)))
    ∙ ap (λ (l : List ℕ). take a xs ++ (l ++ drop e xs)) (replicate-append-replicate (b - a) (e - b) v)
    ∙ ap (λ (k : ℕ). take a xs ++ (replicate k v ++ drop e xs)) times)

pub filled_next : (a b e v : ℕ) (xs : List ℕ) → a ≤ b → b ≤ e → e ≤ length xs → {ys part : List ℕ} → ys ≡ filled a b v xs → part ≡ replicate (length (lent b e ys)) v → returned b e ys part ≡ filled a e v xs
filled_next a b e v xs low on high before all =
    part_filled b e v (filled a b v xs) on (rw (filled_long a b v xs low (omega arith)) high) before all ∙ filled_on a b e v xs low on high

-- a list that is filled up to its end
pub filled_to_end : (a e k v : ℕ) (xs : List ℕ) → length xs ≡ e → e - a ≡ k → filled a e v xs ≡ take a xs ++ replicate k v
filled_to_end a e k v xs size times = rw (drop_of_length-le xs {i = e} (omega arith), times, append-nil) refl

-- two stores, the first at i, the second at j
module _ (xs : List ℕ) (i j u v : ℕ) (b : i < length xs) (c : j < length xs) (apart : i ≡ j → ⊥) where
  pub read_one : get_or (set (set xs i u) j v) i 0 ≡ u
  read_one = get_or-set_other (set xs i u) j i v 0 apart ∙ get_or-set_same xs i u 0 b

  pub read_two : get_or (set (set xs i u) j v) j 0 ≡ v
  read_two = get_or-set_same (set xs i u) j v 0 (rw (length-set xs i u) c)

  pub read_else : (k : ℕ) → (k ≡ i → ⊥) → (k ≡ j → ⊥) → get_or (set (set xs i u) j v) k 0 ≡ get_or xs k 0
  read_else k d e = get_or-set_other (set xs i u) j k v 0 e ∙ get_or-set_other xs i k u 0 d
