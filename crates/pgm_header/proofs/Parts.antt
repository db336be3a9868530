-- The header in three parts, a gap and a number each, and one white byte, as the proofs take it. It was the definition before request E5 put
-- the steps one by one in the order of the Netpbm page, and is still the same header, of every file and at every position: `in_parts`. Assumes
-- nothing.
use Prim.Native.Nat.{ℕ, ◌+◌}
use mathlib.Core.Path.{◌≡◌, refl, sym, ◌∙◌, ap}
use mathlib.Core.Bool.{Bool, true, false, cond}
use mathlib.Core.List.{List}
use lib.ListN.{drop}
use Rattle.std.specs.Prelude.{Option, Some, None}
use Rattle.std.proofs.lemmas.Option.{same_Some}
use Rattle.pgm_header.specs.declared.Number.{Number}
use Rattle.pgm_header.specs.declared.Header.{Header}
use Rattle.pgm_header.specs.Header.{gap_length, white_at, number_at, gap_at, gap_then, number_then, one_white_then, header_at}

-- a number and the position after it, and a header, as they are found
abbrev pub found_number : ℕ → ℕ → Option Number
found_number value end = Some (record { value = value; end = end })

abbrev pub found_header : ℕ → ℕ → ℕ → ℕ → Option Header
found_header width height maximum start = Some (record { width = width; height = height; maximum = maximum; start = start })

-- each of their fields is determined
pub number_parts : (value end value' end' : ℕ) → found_number value end ≡ found_number value' end' → (value ≡ value') × (end ≡ end')
number_parts value end value' end' e =
    let n : ◌≡◌ {A = Number} (record { value = value; end = end }) (record { value = value'; end = end' }) = same_Some _ _ e in
    (ap (λ (n : Number). n.value) n, ap (λ (n : Number). n.end) n)

pub header_parts : (w h m s w' h' m' s' : ℕ) → found_header w h m s ≡ found_header w' h' m' s' → (w ≡ w') × (h ≡ h') × (m ≡ m') × (s ≡ s')
header_parts w h m s w' h' m' s' e =
    let n : ◌≡◌ {A = Header} (record { width = w; height = h; maximum = m; start = s }) (record { width = w'; height = h'; maximum = m'; start = s' }) = same_Some _ _ e in
    (ap (λ (n : Header). n.width) n, ap (λ (n : Header). n.height) n, ap (λ (n : Header). n.maximum) n, ap (λ (n : Header). n.start) n)

-- a gap, then a number
unfoldable pub part_at : List ℕ → ℕ → Option Number
part_at file at = cond (white_at file at) (number_at file (at + gap_length false (drop at file))) None

-- one white byte, with which the header ends
unfoldable pub last_white_at : List ℕ → ℕ → ℕ → Option Number → Option Header
last_white_at file width height None = None
last_white_at file width height (Some maximum) = cond (white_at file maximum.end) (found_header width height maximum.value (maximum.end + 1)) None

unfoldable pub maximum_at : List ℕ → ℕ → Option Number → Option Header
maximum_at file width None = None
maximum_at file width (Some height) = last_white_at file width height.value (part_at file height.end)

unfoldable pub height_at : List ℕ → Option Number → Option Header
height_at file None = None
height_at file (Some width) = maximum_at file width.value (part_at file width.end)

-- the number after a gap
abbrev pub gap_part : List ℕ → Option ℕ → Option Number
gap_part file (Some from) = number_at file from
gap_part file None = None

module _ (file : List ℕ) where
  -- a gap and a number, one after the other, are a part
  pub part_by_gap : (at : ℕ) (g : Option ℕ) → gap_at file at ≡ g → part_at file at ≡ gap_part file g
  unfolding part_at gap_at
  part_by_gap at g e = go (white_at file at) refl ∙ ap (gap_part file) e
    where
      go : (t : Bool) → white_at file at ≡ t → part_at file at ≡ gap_part file (gap_at file at)
      go true w = simp w
      go false w = simp w

  one_part : (at : ℕ) (next : ℕ → ℕ → Option Header) → gap_then (gap_at file at) (λ from. number_then (number_at file from) next) ≡ number_then (part_at file at) next
  one_part at next = go (gap_at file at) refl
    where
      go : (g : Option ℕ) → gap_at file at ≡ g → gap_then g (λ from. number_then (number_at file from) next) ≡ number_then (part_at file at) next
      go (Some from) e = ap (λ (p : Option Number). number_then p next) (sym (part_by_gap at (Some from) e))
      go None e = ap (λ (p : Option Number). number_then p next) (sym (part_by_gap at None e))

  -- the steps after each number
  after_maximum : ℕ → ℕ → ℕ → ℕ → Option Header
  after_maximum width height maximum end = one_white_then file end (λ start. found_header width height maximum start)

  after_height : ℕ → ℕ → ℕ → Option Header
  after_height width height end = gap_then (gap_at file end) (λ from. number_then (number_at file from) (after_maximum width height))

  after_width : ℕ → ℕ → Option Header
  after_width width end = gap_then (gap_at file end) (λ from. number_then (number_at file from) (after_height width))

  last_same : (width height : ℕ) (p : Option Number) → number_then p (after_maximum width height) ≡ last_white_at file width height p
  unfolding after_maximum last_white_at
  last_same width height None = refl
  last_same width height (Some maximum) = refl

  maximum_same : (width : ℕ) (p : Option Number) → number_then p (after_height width) ≡ maximum_at file width p
  unfolding after_height maximum_at
  maximum_same width None = refl
  maximum_same width (Some height) = one_part height.end (after_maximum width height.value) ∙ last_same width height.value (part_at file height.end)

  height_same : (p : Option Number) → number_then p after_width ≡ height_at file p
  unfolding after_width height_at
  height_same None = refl
  height_same (Some width) = one_part width.end (after_height width.value) ∙ maximum_same width.value (part_at file width.end)

  pub in_parts : (at : ℕ) → header_at file at ≡ height_at file (part_at file at)
  unfolding header_at after_maximum after_height after_width
  in_parts at = one_part at after_width ∙ height_same (part_at file at)
